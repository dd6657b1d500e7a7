-- Which bytes stand for characters of a document.
use Rattle.std.proofs.Common.{◌≡◌, refl, sym, ap, ◌∙◌, ℕ, Bool, true, false, ◌&&◌, List}
use Rattle.std.specs.List.{list_all}
use Rattle.std.specs.Str.{chars, is_utf8, IsUtf8}
use Rattle.std.proofs.lemmas.Str.{IsUtf8-from_is_utf8, is_utf8-from_IsUtf8}
use Rattle.std.proofs.lemmas.Bool.{and_from}
use Rattle.mm_tree.specs.Characters.{is_char}
use Rattle.mm_tree.specs.Validity.{are_chars}

pub no_utf8 : (bytes : List ℕ) → (IsUtf8 bytes → ⊥) → are_chars bytes ≡ false
no_utf8 bytes h = elim (is_utf8 bytes) as (λ b. is_utf8 bytes ≡ b → (b && list_all is_char (chars bytes)) ≡ false) [
  | true ↦ λ e. absurd (h (IsUtf8-from_is_utf8 bytes e))
  | false ↦ λ e. refl
] refl

pub all_chars : (bytes cs : List ℕ) (b : Bool) → IsUtf8 bytes → cs ≡ chars bytes → b ≡ list_all is_char cs → b ≡ true → are_chars bytes ≡ true
all_chars bytes cs b utf8 same e h = and_from (is_utf8 bytes) (list_all is_char (chars bytes)) (is_utf8-from_IsUtf8 bytes utf8) (ap (λ (xs : List ℕ). list_all is_char xs) (sym same) ∙ sym e ∙ h)
