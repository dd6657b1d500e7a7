-- How deep nodes stand: what steps do to it, and that a tree that is read has it as its levels.
use Rattle.std.proofs.Common.{◌≡◌, ℕ, zero, suc, ◌+◌, ◌≤◌, Bool, true, false, cond, not, List, [], ◌∷◌, ◌++◌, Option, Some, None, refl, sym, ap, subst, ◌∙◌, arith}
use Rattle.std.specs.Prelude.{max, Result, Ok, Err}
use Rattle.std.specs.List.{list_all}
use Rattle.std.specs.Str.{bytes_eq, encode_utf8_all}
use Rattle.mm_tree.specs.declared.Kind.{Kind}
use Rattle.mm_tree.specs.declared.Kind.TheVariants.{Words}
use Rattle.mm_tree.specs.Characters.{is_space}
use Rattle.mm_tree.specs.Trees.{none, Tree, siblings, one, levels}
use Rattle.mm_xml.specs.declared.error.XmlError.{XmlError}
use Rattle.mm_xml.specs.declared.error.XmlError.TheVariants as error
use Rattle.mm_xml.specs.Grammar.{Begin, End, end_name}
use Rattle.mm_xml.specs.Inside.Lexing.{◌>>=◌}
use Rattle.mm_xml.specs.Inside.Telling.{Sign, Character, Named, Passage, Skipped, Opens, Closes, Doctyped, sign_at}
use Rattle.mm_xml.specs.Inside.Machine.{State, Before, Inside, After, fresh, with_child, frame_tree, place, finished, cleared, leaf_at, text_step, open_step, sign_step, depth_of, deepest_of, Order, sign_may, sign_next, read_from}
use Rattle.mm_xml.specs.Inside.Builds.{Steps, MovesTo, Places, PlaceFails, IsPlaced}
use Rattle.mm_xml.proofs.Spans.{some_is, bind_some, taken}

levels_more : (xs : List (Tree Kind)) (t : Tree Kind) → levels (siblings (xs ++ t ∷ [])) ≡ max (levels (siblings xs)) (1 + levels t.1)
levels_more [] t = omega arith
levels_more (x ∷ xs) t = omega (arith, levels_more xs t)

-- what a step does that adds a node or not
abbrev pub Grows : Bool → State → State → Type 0
Grows adds old new = deepest_of new ≡ cond adds (max (deepest_of old) (depth_of old + 1)) (deepest_of old)

along : (adds : Bool) (old s new : State) → Some s ≡ Some new → Grows adds old s → Grows adds old new
along adds old s new e g = subst (λ (x : State). Grows adds old x) (some_is s new e) g

leaf_grows : (s new : State) (kind : Kind) → leaf_at s kind ≡ Some new → Grows true s new
leaf_grows Before new kind e = along true Before (After (kind, none)) new e (omega arith)
leaf_grows (Inside f fs) new kind e = along true (Inside f fs) (Inside (with_child f (kind, none)) fs) new e (omega (arith, levels_more f.before (kind, none)))
leaf_grows (After t) new kind e = absurd cc

begin_grows : (s new : State) (kind : Kind) → place s (Begin kind) ≡ Some new → Grows true s new
begin_grows Before new kind e = along true Before (Inside (fresh kind) []) new e (omega arith)
begin_grows (Inside f fs) new kind e = along true (Inside f fs) (Inside (fresh kind) (f ∷ fs)) new e (omega arith)
begin_grows (After t) new kind e = absurd cc

pub end_grows : (s new : State) (name : List ℕ) → place s (End name) ≡ Some new → Grows false s new
end_grows Before new name e = absurd cc
end_grows (Inside f []) new name e = let t = taken (bytes_eq name (end_name f.kind)) (Some (After (frame_tree f))) new e in along false (Inside f []) (After (frame_tree f)) new t.1 (omega arith)
end_grows (Inside f (g ∷ gs)) new name e =
    let t = taken (bytes_eq name (end_name f.kind)) (Some (Inside (with_child g (frame_tree f)) gs)) new e in
    along false (Inside f (g ∷ gs)) (Inside (with_child g (frame_tree f)) gs) new t.1 (omega (arith, levels_more g.before (frame_tree f)))
end_grows (After t) new name e = absurd cc

pub text_grows : (s new : State) (run : List ℕ) → text_step s run ≡ Some new → Grows (not (list_all is_space run)) s new
text_grows s new run e =
    elim (list_all is_space run) as (λ b. cond b (Some s) (leaf_at s (Words (encode_utf8_all run))) ≡ Some new → Grows (not b) s new) [
      | true ↦ λ h. along false s s new h refl
      | false ↦ λ h. leaf_grows s new (Words (encode_utf8_all run)) h
    ] e

pub open_grows : (s new : State) (empty : Bool) (kind : Kind) → open_step s empty kind ≡ Some new → Grows true s new
open_grows s new true kind e = leaf_grows s new kind e
open_grows s new false kind e = begin_grows s new kind e

no_less : (adds : Bool) (old new : State) → Grows adds old new → deepest_of old ≤ deepest_of new
no_less true old new g = omega (arith, g)
no_less false old new g = omega (arith, g)

-- ---- one step

pub steps_places : {U : Type 0} (r : Result U XmlError) (adds : Bool) (old new : State) (moved : Option State) → ((s : State) → moved ≡ Some s → Grows adds old s) → Steps r adds old new moved → Places r old new moved
steps_places (Ok u) true old new moved g h = (h.0, λ few. omega (arith, few, g new h.0, h.1 refl))
steps_places (Ok u) false old new moved g h = (h.0, λ few. omega (arith, few, g new h.0))
steps_places (Err error.NotXml) adds old new moved g h = h
steps_places (Err error.TooDeep) true old new moved g h = λ s e. omega (arith, g s e, h.1)
steps_places (Err error.TooDeep) false old new moved g h = absurd cc
steps_places (Err error.Memory) adds old new moved g h = tt

pub moves_places : {U : Type 0} (r : Result U XmlError) (old new : State) (moved : Option State) → ((s : State) → moved ≡ Some s → Grows false old s) → MovesTo r new moved → Places r old new moved
moves_places (Ok u) old new moved g h = (h, λ few. omega (arith, few, g new h))
moves_places (Err error.NotXml) old new moved g h = h
moves_places (Err error.TooDeep) old new moved g h = absurd h
moves_places (Err error.Memory) old new moved g h = tt

-- ---- one step after the other

abbrev Monotone : (State → Option State) → Type 0
Monotone f = (x s : State) → f x ≡ Some s → deepest_of x ≤ deepest_of s

pub open_monotone : (empty : Bool) (kind : Kind) → Monotone (λ x. open_step x empty kind)
open_monotone empty kind = λ x s e. no_less true x s (open_grows x s empty kind e)

pub end_monotone : (name : List ℕ) → Monotone (λ x. place x (End name))
end_monotone name = λ x s e. no_less false x s (end_grows x s name e)

-- the first step stops
pub places_stops : (e : XmlError) (moved : Option State) (f : State → Option State) → Monotone f → PlaceFails e moved → PlaceFails e (moved >>= f)
places_stops error.NotXml moved f m h = ap (λ o. o >>= f) h
places_stops error.TooDeep moved f m h = λ s e. let b = bind_some moved f s e in omega (arith, h b.0 b.1, m b.0 s b.2)
places_stops error.Memory moved f m h = tt

-- the first step led on
pub places_then : {V : Type 0} (r : Result V XmlError) (old mid new : State) (moved : Option State) (f : State → Option State) → IsPlaced old mid moved → Places r mid new (f mid) → Places r old new (moved >>= f)
places_then (Ok v) old mid new moved f h k = (ap (λ o. o >>= f) h.0 ∙ k.0, λ few. k.1 (h.1 few))
places_then (Err error.NotXml) old mid new moved f h k = ap (λ o. o >>= f) h.0 ∙ k
places_then (Err error.TooDeep) old mid new moved f h k = λ s e. k s (sym (ap (λ o. o >>= f) h.0) ∙ e)
places_then (Err error.Memory) old mid new moved f h k = tt

-- ---- the end

-- the tree that is whole has the greatest depth as its levels
pub whole_levels : (s : State) (t : Tree Kind) → finished s ≡ Some t → deepest_of s ≡ levels (one t)
whole_levels Before t e = absurd cc
whole_levels (Inside f fs) t e = absurd cc
whole_levels (After u) t e = ap (λ (x : Tree Kind). levels (one x)) (some_is u t e)

-- ---- reading on

cleared_is : (s : State) (y : State × List ℕ) → cleared s ≡ Some y → s ≡ y.0
cleared_is s y e = ap (λ (x : State × List ℕ). x.0) (some_is (s, []) y e)

sign_no_less : (s : State) (run : List ℕ) (sign : Sign) (y : State × List ℕ) → sign_step s run sign ≡ Some y → deepest_of s ≤ deepest_of y.0
sign_no_less s run (Character c) y e = subst (λ (x : State × List ℕ). deepest_of s ≤ deepest_of x.0) (some_is (s, run ++ c ∷ []) y e) (omega arith)
sign_no_less s run (Named cs) y e = subst (λ (x : State × List ℕ). deepest_of s ≤ deepest_of x.0) (some_is (s, run ++ cs) y e) (omega arith)
sign_no_less s run (Passage cs) y e = subst (λ (x : State × List ℕ). deepest_of s ≤ deepest_of x.0) (some_is (s, run ++ cs) y e) (omega arith)
sign_no_less s run Skipped y e = subst (λ (x : State × List ℕ). deepest_of s ≤ deepest_of x.0) (some_is (s, run) y e) (omega arith)
sign_no_less s run Doctyped y e = subst (λ (x : State × List ℕ). deepest_of s ≤ deepest_of x.0) (some_is (s, run) y e) (omega arith)
sign_no_less s run (Opens empty kind) y e =
    let c = bind_some (text_step s run >>= λ x. open_step x empty kind) cleared y e in
    let b = bind_some (text_step s run) (λ x. open_step x empty kind) c.0 c.1 in
    subst (λ (x : State). deepest_of s ≤ deepest_of x) (cleared_is c.0 y c.2) (omega (arith, no_less _ s b.0 (text_grows s b.0 run b.1), open_monotone empty kind b.0 c.0 b.2))
sign_no_less s run (Closes name) y e =
    let c = bind_some (text_step s run >>= λ x. place x (End name)) cleared y e in
    let b = bind_some (text_step s run) (λ x. place x (End name)) c.0 c.1 in
    subst (λ (x : State). deepest_of s ≤ deepest_of x) (cleared_is c.0 y c.2) (omega (arith, no_less _ s b.0 (text_grows s b.0 run b.1), end_monotone name b.0 c.0 b.2))

ends_deep : (s : State) (run : List ℕ) (t : Tree Kind) → (text_step s run >>= finished) ≡ Some t → deepest_of s ≤ levels (one t)
ends_deep s run t e =
    let b = bind_some (text_step s run) finished t e in
    omega (arith, no_less _ s b.0 (text_grows s b.0 run b.1), whole_levels b.0 t b.2)

-- a tree has at least the levels that were met
pub read_deep : (n : ℕ) (s : State) (run : List ℕ) (o : Order) (cs : List ℕ) (t : Tree Kind) → read_from n s run o cs ≡ Some t → deepest_of s ≤ levels (one t)
read_deep zero s run o [] t e = ends_deep s run t e
read_deep (suc n) s run o [] t e = ends_deep s run t e
read_deep zero s run o (c ∷ cs) t e = absurd cc
read_deep (suc n) s run o (c ∷ cs) t e =
    let found = bind_some (sign_at (c ∷ cs)) (λ x. cond (sign_may o x.0) (sign_step s run x.0 >>= λ y. read_from n y.0 y.1 (sign_next o x.0) x.1) None) t e in
    let x = found.0 in
    let allowed = taken (sign_may o x.0) (sign_step s run x.0 >>= λ y. read_from n y.0 y.1 (sign_next o x.0) x.1) t found.2 in
    let moved = bind_some (sign_step s run x.0) (λ y. read_from n y.0 y.1 (sign_next o x.0) x.1) t allowed.1 in
    omega (arith, sign_no_less s run x.0 moved.0 moved.1, read_deep n moved.0.0 moved.0.1 (sign_next o x.0) x.1 t moved.2)
