-- Whether there is a tree at all, told from the names of the open elements alone.
use Rattle.std.specs.Prelude.{ℕ, zero, suc, List, [], ◌∷◌, length, Bool, true, false, ◌&&◌, ◌==◌, Option, Some, None, if◌then◌else◌}
use Rattle.std.specs.List.{list_all}
use Rattle.std.specs.Str.{bytes_eq}
use Rattle.mm_tree.specs.Characters.{is_space}
use Rattle.mm_xml.specs.Grammar.{end_name}
use Rattle.mm_xml.specs.Inside.Lexing.{◌>>=◌}
use Rattle.mm_xml.specs.Inside.Telling.{Sign, Character, Named, Passage, Skipped, Opens, Closes, Doctyped, sign_at}
use Rattle.mm_xml.specs.Inside.Machine.{Order, sign_may, sign_next}

-- the names of the open elements, the innermost first, and whether a node was met
pub record Outlined : Type 0 where
  pub names : List (List ℕ)
  pub begun : Bool

abbrev pub outlined : List (List ℕ) → Bool → Outlined
outlined names begun = record { names = names; begun = begun }

abbrev pub is_over : Outlined → Bool
is_over o = o.begun && (length o.names == 0)

abbrev pub outline_begin : Outlined → List ℕ → Option Outlined
outline_begin o name = if is_over o then None else Some (outlined (name ∷ o.names) true)

abbrev pub outline_end : List (List ℕ) → Bool → List ℕ → Option Outlined
outline_end [] begun name = None
outline_end (own ∷ outer) begun name = if bytes_eq name own then Some (outlined outer begun) else None

abbrev pub outline_leaf : Outlined → Option Outlined
outline_leaf o = if is_over o then None else Some (outlined o.names true)

-- a text, unless it is blank
abbrev pub outline_text : Outlined → Bool → Option Outlined
outline_text o blank = if blank then Some o else outline_leaf o

abbrev pub outline_open : Outlined → Bool → List ℕ → Option Outlined
outline_open o empty name = if empty then outline_leaf o else outline_begin o name

abbrev pub outline_start : Outlined → Bool → Bool → List ℕ → Option Outlined
outline_start o blank empty name = outline_text o blank >>= λ x. outline_open x empty name

abbrev pub outline_finish : Outlined → Bool → List ℕ → Option Outlined
outline_finish o blank name = outline_text o blank >>= λ x. outline_end x.names x.begun name

-- no characters since the last tag
abbrev pub outline_cleared : Outlined → Option (Outlined × Bool)
outline_cleared o = Some (o, true)

-- what a token tells, where the characters since the last tag are blank or not
abbrev pub outline_step : Outlined → Bool → Sign → Option (Outlined × Bool)
outline_step o blank (Character c) = Some (o, blank && is_space c)
outline_step o blank (Named cs) = Some (o, blank && list_all is_space cs)
outline_step o blank (Passage cs) = Some (o, blank && list_all is_space cs)
outline_step o blank Skipped = Some (o, blank)
outline_step o blank (Opens empty kind) = outline_start o blank empty (end_name kind) >>= outline_cleared
outline_step o blank (Closes name) = outline_finish o blank name >>= outline_cleared
outline_step o blank Doctyped = Some (o, blank)

abbrev pub outline_ends : Option Outlined → Bool
outline_ends None = false
outline_ends (Some o) = is_over o

abbrev pub holds : {A : Type 0} → Option A → (A → Bool) → Bool
holds None f = false
holds (Some x) f = f x

abbrev pub outline_from : ℕ → Outlined → Bool → Order → List ℕ → Bool
outline_from n o blank order [] = outline_ends (outline_text o blank)
outline_from zero o blank order (c ∷ cs) = false
outline_from (suc n) o blank order (c ∷ cs) =
    holds (sign_at (c ∷ cs)) (λ x. sign_may order x.0 && holds (outline_step o blank x.0) (λ y. outline_from n y.0 y.1 (sign_next order x.0) x.1))

unfoldable pub outline_as : Order → List ℕ → Bool
outline_as order cs = outline_from (length cs) (outlined [] false) true order cs
