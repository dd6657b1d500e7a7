-- What the outline finds is whether a tree is read.
use Rattle.std.proofs.Common.{◌≡◌, ℕ, zero, suc, ◌≤◌, Bool, true, false, cond, ◌&&◌, List, [], ◌∷◌, length, Option, Some, None, eqb, refl, sym, ap, ◌∙◌, arith}
use Rattle.std.specs.Prelude.{is_some}
use Rattle.std.specs.List.{list_all}
use Rattle.std.specs.Str.{bytes_eq, encode_utf8_all}
use Rattle.std.proofs.lemmas.List.Folds.{list_all-append}
use Rattle.mm_tree.specs.declared.Kind.{Kind}
use Rattle.mm_tree.specs.declared.Kind.TheVariants.{Words}
use Rattle.mm_tree.specs.Characters.{is_space}
use Rattle.mm_tree.specs.Trees.{Tree}
use Rattle.mm_xml.specs.Grammar.{Begin, End, end_name}
use Rattle.mm_xml.specs.Inside.Lexing.{◌>>=◌, Found}
use Rattle.mm_xml.specs.Inside.Telling.{Sign, Character, Named, Passage, Skipped, Opens, Closes, Doctyped, sign_at}
use Rattle.mm_xml.specs.Inside.Machine.{Frame, State, Before, Inside, After, with_child, frame_tree, place, finished, cleared, leaf_at, text_step, open_step, start_step, end_step, finish_step, sign_step, Order, sign_may, sign_next, read_from, read_as}
use Rattle.mm_xml.specs.Inside.Outlines.{Outlined, outlined, is_over, outline_begin, outline_end, outline_leaf, outline_text, outline_open, outline_start, outline_finish, outline_cleared, outline_step, outline_ends, holds, outline_from, outline_as}
use Rattle.mm_xml.proofs.Spans.{some}
use Rattle.mm_xml.proofs.Enough.{read_enough}

abbrev names_of : List Frame → List (List ℕ)
names_of [] = []
names_of (f ∷ fs) = end_name f.kind ∷ names_of fs

-- what the outline sees of a state
abbrev seen : State → Outlined
seen Before = outlined [] false
seen (Inside f fs) = outlined (names_of (f ∷ fs)) true
seen (After t) = outlined [] true

abbrev see : Option State → Option Outlined
see None = None
see (Some s) = Some (seen s)

not_none : (n : ℕ) → eqb (suc n) 0 ≡ false
not_none n = grind arith

inside_not_over : (f : Frame) (fs : List Frame) → is_over (seen (Inside f fs)) ≡ false
inside_not_over f fs = not_none (length (names_of fs))

leaf_seen : (s : State) (kind : Kind) → outline_leaf (seen s) ≡ see (leaf_at s kind)
leaf_seen Before kind = refl
leaf_seen (Inside f fs) kind = ap (λ b. cond b None (Some (outlined (names_of (f ∷ fs)) true))) (inside_not_over f fs)
leaf_seen (After t) kind = refl

begin_seen : (s : State) (kind : Kind) → outline_begin (seen s) (end_name kind) ≡ see (place s (Begin kind))
begin_seen Before kind = refl
begin_seen (Inside f fs) kind = ap (λ b. cond b None (Some (outlined (end_name kind ∷ names_of (f ∷ fs)) true))) (inside_not_over f fs)
begin_seen (After t) kind = refl

end_seen : (s : State) (name : List ℕ) → outline_end (seen s).names (seen s).begun name ≡ see (place s (End name))
end_seen Before name = refl
end_seen (Inside f []) name = elim (bytes_eq name (end_name f.kind)) as (λ b. cond b (Some (outlined [] true)) None ≡ see (cond b (Some (After (frame_tree f))) None)) [ true ↦ refl | false ↦ refl ]
end_seen (Inside f (g ∷ gs)) name = elim (bytes_eq name (end_name f.kind)) as (λ b. cond b (Some (outlined (names_of (g ∷ gs)) true)) None ≡ see (cond b (Some (Inside (with_child g (frame_tree f)) gs)) None)) [ true ↦ refl | false ↦ refl ]
end_seen (After t) name = refl

text_seen : (s : State) (run : List ℕ) → outline_text (seen s) (list_all is_space run) ≡ see (text_step s run)
text_seen s run = elim (list_all is_space run) as (λ b. outline_text (seen s) b ≡ see (cond b (Some s) (leaf_at s (Words (encode_utf8_all run))))) [ true ↦ refl | false ↦ leaf_seen s (Words (encode_utf8_all run)) ]

open_seen : (s : State) (empty : Bool) (kind : Kind) → outline_open (seen s) empty (end_name kind) ≡ see (open_step s empty kind)
open_seen s true kind = leaf_seen s kind
open_seen s false kind = begin_seen s kind

then_seen : (o : Option State) (f : State → Option State) (g : Outlined → Option Outlined) → ((s : State) → g (seen s) ≡ see (f s)) → (see o >>= g) ≡ see (o >>= f)
then_seen None f g e = refl
then_seen (Some s) f g e = e s

start_seen : (s : State) (run : List ℕ) (empty : Bool) (kind : Kind) → outline_start (seen s) (list_all is_space run) empty (end_name kind) ≡ see (start_step s run empty kind)
start_seen s run empty kind = ap (λ o. o >>= λ x. outline_open x empty (end_name kind)) (text_seen s run) ∙ then_seen (text_step s run) (λ x. open_step x empty kind) (λ x. outline_open x empty (end_name kind)) (λ x. open_seen x empty kind)

finish_seen : (s : State) (run : List ℕ) (name : List ℕ) → outline_finish (seen s) (list_all is_space run) name ≡ see (end_step s run name)
finish_seen s run name = ap (λ o. o >>= λ x. outline_end x.names x.begun name) (text_seen s run) ∙ then_seen (text_step s run) (λ x. place x (End name)) (λ x. outline_end x.names x.begun name) (λ x. end_seen x name)

-- the state and whether the characters since the last tag are blank
abbrev see_run : Option (State × List ℕ) → Option (Outlined × Bool)
see_run None = None
see_run (Some y) = Some (seen y.0, list_all is_space y.1)

cleared_seen : (o : Option State) → (see o >>= outline_cleared) ≡ see_run (o >>= cleared)
cleared_seen None = refl
cleared_seen (Some s) = refl

alone : (a b : Bool) → (a && b) ≡ (a && (b && true))
alone true true = refl
alone true false = refl
alone false b = refl

step_seen : (s : State) (run : List ℕ) (sign : Sign) → outline_step (seen s) (list_all is_space run) sign ≡ see_run (sign_step s run sign)
step_seen s run (Character c) = ap (λ (b : Bool). some (seen s, b)) (alone (list_all is_space run) (is_space c) ∙ sym (list_all-append is_space run (c ∷ [])))
step_seen s run (Named cs) = ap (λ (b : Bool). some (seen s, b)) (sym (list_all-append is_space run cs))
step_seen s run (Passage cs) = ap (λ (b : Bool). some (seen s, b)) (sym (list_all-append is_space run cs))
step_seen s run Skipped = refl
step_seen s run Doctyped = refl
step_seen s run (Opens empty kind) = ap (λ o. o >>= outline_cleared) (start_seen s run empty kind) ∙ cleared_seen (start_step s run empty kind)
step_seen s run (Closes name) = ap (λ o. o >>= outline_cleared) (finish_seen s run name) ∙ cleared_seen (end_step s run name)

over_seen : (o : Option State) → outline_ends (see o) ≡ is_some (o >>= finished)
over_seen None = refl
over_seen (Some Before) = refl
over_seen (Some (Inside f fs)) = inside_not_over f fs
over_seen (Some (After t)) = refl

end_found : (s : State) (run : List ℕ) → outline_ends (outline_text (seen s) (list_all is_space run)) ≡ is_some (finish_step s run)
end_found s run = ap outline_ends (text_seen s run) ∙ over_seen (text_step s run)

then_found : (b : Bool) (o : Option (State × List ℕ)) (f : State → List ℕ → Option (Tree Kind)) (g : Outlined → Bool → Bool) → ((s : State) (run : List ℕ) → g (seen s) (list_all is_space run) ≡ is_some (f s run))
    → (b && holds (see_run o) (λ y. g y.0 y.1)) ≡ is_some (cond b (o >>= λ y. f y.0 y.1) None)
then_found false o f g e = refl
then_found true None f g e = refl
then_found true (Some y) f g e = e y.0 y.1

abbrev pub on_outline : ℕ → Outlined → Bool → Order → Sign × List ℕ → Bool
on_outline n o blank order x = sign_may order x.0 && holds (outline_step o blank x.0) (λ y. outline_from n y.0 y.1 (sign_next order x.0) x.1)

abbrev pub on_state : ℕ → State → List ℕ → Order → Sign × List ℕ → Option (Tree Kind)
on_state n s run order x = cond (sign_may order x.0) (sign_step s run x.0 >>= λ y. read_from n y.0 y.1 (sign_next order x.0) x.1) None

one_found : (n : ℕ) (s : State) (run : List ℕ) (order : Order) (found : Found Sign) → ((s' : State) (run' : List ℕ) (order' : Order) (cs : List ℕ) → outline_from n (seen s') (list_all is_space run') order' cs ≡ is_some (read_from n s' run' order' cs))
    → holds found (λ x. on_outline n (seen s) (list_all is_space run) order x) ≡ is_some (found >>= λ x. on_state n s run order x)
one_found n s run order None more = refl
one_found n s run order (Some x) more =
    ap (λ (o : Option (Outlined × Bool)). sign_may order x.0 && holds o (λ y. outline_from n y.0 y.1 (sign_next order x.0) x.1)) (step_seen s run x.0)
    ∙ then_found (sign_may order x.0) (sign_step s run x.0) (λ s' run'. read_from n s' run' (sign_next order x.0) x.1) (λ o b. outline_from n o b (sign_next order x.0) x.1) (λ s' run'. more s' run' (sign_next order x.0) x.1)

pub found_is : (n : ℕ) (s : State) (run : List ℕ) (order : Order) (cs : List ℕ) → outline_from n (seen s) (list_all is_space run) order cs ≡ is_some (read_from n s run order cs)
found_is zero s run order [] = end_found s run
found_is (suc n) s run order [] = end_found s run
found_is zero s run order (c ∷ cs) = refl
found_is (suc n) s run order (c ∷ cs) = one_found n s run order (sign_at (c ∷ cs)) (λ s' run' order' rest. found_is n s' run' order' rest)

-- the outline finds a tree exactly where one is read
pub outline_reads : (order : Order) (cs : List ℕ) → outline_as order cs ≡ is_some (read_as order cs)
unfolding outline_as read_as
outline_reads order cs = found_is (length cs) Before [] order cs

-- ---- the loop

pub begins : (k : ℕ) (o : Outlined) (order : Order) (cs : List ℕ) → length cs ≤ k → o ≡ outlined [] false → outline_from k o true order cs ≡ outline_as order cs
unfolding outline_as
begins k o order cs enough e =
    ap (λ (x : Outlined). outline_from k x true order cs) e
    ∙ found_is k Before [] order cs ∙ ap (λ (t : Option (Tree Kind)). is_some t) (read_enough k (length cs) Before [] order cs enough (omega arith)) ∙ sym (found_is (length cs) Before [] order cs)
