-- Each node of a well-formed forest hangs on one before it, and may stand by itself.
use Rattle.std.proofs.Common.{inl, inr, ◌≡◌, ℕ, Bool, true, false, ◌&&◌, ◌||◌, not, IsTrue, List, [], ◌∷◌, ◌++◌, refl, sym, subst, append-nil, append_assoc, Option, Some, None, arith}
use Rattle.std.specs.Prelude.{nat_lt}
use Rattle.std.specs.Ordering.{int_eq}
use Rattle.std.specs.List.{list_any, starts_with}
use Rattle.std.proofs.lemmas.Bool.{and_from, and_parts}
use Rattle.mm_label.specs.Fronts.{Label, Within}
use Rattle.mm_label.specs.Label.{is_child, is_segment, level}
use Rattle.mm_label.specs.Facts.Members.{within_first, within_joined, within_second}
use Rattle.mm_tree.specs.Facts.Formed.{parts}
use Rattle.mm_tree.specs.Facts.Labels.{node_is_labelled}
use Rattle.mm_tree.specs.Facts.Nodes.{Stands}
use Rattle.mm_tree.specs.Forests.{are_labelled, has_valid_kind, is_well_formed, segment_below}
use Rattle.mm_tree.specs.Numbering.{Labelled, has_room}
use Rattle.mm_tree.specs.Trees.{Trees, every, has_some, node, none, preorder}
use Rattle.mm_tree.specs.Validity.{is_element, is_valid_kind}
use Rattle.mm_image.specs.Subtrees.{is_shallow}
use Rattle.mm_check.specs.Reading.{hangs}
use Rattle.mm_image.specs.Facts.Standing.{stands_in}
use Rattle.mm_check.proofs.Parts.{less_of}
use Rattle.mm_check.proofs.Forming.{AllAlone}
use Rattle.mm_check.proofs.Running.{AreNodes}

-- ---- by itself

low_of : (d : Labelled) (f : Trees Labelled) → Within d (preorder f) → (low : Trees Labelled) × Stands d low f
low_of d none w = absurd w
low_of d (node e inner rest) w = elim w [
  | inl h ↦ (inner, inl (h, refl))
  | inr k ↦ elim (within_joined d (preorder inner) (preorder rest) k) [
    | inl u ↦ let t = low_of d inner u in (t.0, inr (inl t.1))
    | inr u ↦ let t = low_of d rest u in (t.0, inr (inr t.1))
  ]
]

top_of : (b : Bool) (l : ℕ) → (b || nat_lt 1 l) ≡ true → l ≡ 1 → b ≡ true
top_of true l h e = refl
top_of false l h e = let k = less_of 1 l h in absurd (omega (arith, k, e))

pub all_alone : (f : Trees Labelled) → IsTrue (is_well_formed f) → AllAlone (preorder f)
all_alone f w d i =
    let t = low_of d f i in
    let h = stands_in f (d, t.0) w t.1 in
    record {
      label = node_is_labelled f w d i;
      shallow = (and_parts (is_shallow d (has_some t.0)) _ h.shallow).0;
      kind = (and_parts (is_valid_kind d.kind) _ (and_parts (has_valid_kind d (has_some t.0)) _ h.kinds).0).0;
      top = top_of (is_element d.kind) (level d.label) h.top;
    }

-- ---- on one before it

or_left : (a b : Bool) → a ≡ true → (a || b) ≡ true
or_left true b e = refl
or_left false b e = absurd cc

or_right : (a b : Bool) → b ≡ true → (a || b) ≡ true
or_right true b e = refl
or_right false b e = e

or_keep : (a b c : Bool) → (a || c) ≡ true → (a || (b || c)) ≡ true
or_keep true b c e = refl
or_keep false b c e = or_right b c e

more_hangs : (e : Labelled) (nodes : List Labelled) (x : Label) → hangs nodes x ≡ true → hangs (e ∷ nodes) x ≡ true
more_hangs e nodes x h = or_keep (is_child [] x) (is_element e.kind && is_child e.label x) (list_any (λ e. is_element e.kind && is_child e.label x) nodes) h

-- what lies below y hangs on these nodes
abbrev Under : Label → List Labelled → Trees Labelled → Type 0
Under y nodes none = Unit {0}
Under y nodes (node e inner rest) = (x : Label) → is_child y x ≡ true → hangs nodes x ≡ true

element_of : (b : Bool) → (b || not true) ≡ true → b ≡ true
element_of true h = refl
element_of false h = absurd cc

under_here : (e : Labelled) (nodes : List Labelled) (f : Trees Labelled) → (is_element e.kind || not (has_some f)) ≡ true → Under e.label (e ∷ nodes) f
under_here e nodes none m = tt
under_here e nodes (node d inner rest) m =
    λ x c. or_right (is_child [] x) (list_any (λ e. is_element e.kind && is_child e.label x) (e ∷ nodes))
    (or_left (is_element e.kind && is_child e.label x) (list_any (λ e. is_element e.kind && is_child e.label x) nodes) (and_from (is_element e.kind) (is_child e.label x) (element_of (is_element e.kind) m) c))

under_rest : (y : Label) (nodes ms : List Labelled) (f : Trees Labelled) → ((x : Label) → is_child y x ≡ true → hangs nodes x ≡ true) → ((x : Label) → hangs nodes x ≡ true → hangs ms x ≡ true) → Under y ms f
under_rest y nodes ms none u m = tt
under_rest y nodes ms (node e inner rest) u m = λ x c. m x (u x c)

hung : (y : Label) (left : Option Label) (nodes : List Labelled) (f : Trees Labelled) (es : List Labelled) → are_labelled y left f ≡ true → every has_valid_kind f ≡ true → AllAlone (preorder f) → Under y nodes f
    → ((ms : List Labelled) → ((x : Label) → hangs nodes x ≡ true → hangs ms x ≡ true) → AreNodes ms es) → AreNodes nodes (preorder f ++ es)
hung y left nodes none es a v s h k = k nodes (λ x t. t)
hung y left nodes (node e inner rest) es a v s h k =
    let p = parts y left e inner rest a in
    let u = and_parts (has_valid_kind e (has_some inner)) _ v in
    let w = and_parts (every has_valid_kind inner) _ u.1 in
    let t = and_parts (is_valid_kind e.kind) _ u.0 in
    let g = s e (inl refl) in (
      record {
        label = g.label;
        hung = h e.label (and_from (starts_with int_eq e.label y) (is_segment (segment_below y e.label)) p.front p.whole);
        shallow = g.shallow;
        kind = g.kind;
        top = g.top;
      },
      subst (AreNodes (e ∷ nodes)) (sym (append_assoc (preorder inner) (preorder rest) es))
          (hung e.label None (e ∷ nodes) inner (preorder rest ++ es) p.below w.0 (λ d i. s d (inr (within_first d (preorder inner) (preorder rest) i))) (under_here e nodes inner t.1) (λ ms m.
          hung y (Some (segment_below y e.label)) ms rest es p.after w.1 (λ d i. s d (inr (within_second d (preorder inner) (preorder rest) i))) (under_rest y nodes ms rest h (λ x c. m x (more_hangs e nodes x c)))
          (λ ls l. k ls (λ x c. l x (m x (more_hangs e nodes x c)))))),
    )

top_under : (f : Trees Labelled) → Under [] [] f
top_under none = tt
top_under (node e inner rest) = λ x c. or_left (is_child [] x) (list_any (λ (e : Labelled). is_element e.kind && is_child e.label x) []) c

pub all_nodes : (f : Trees Labelled) → IsTrue (is_well_formed f) → AreNodes [] (preorder f)
all_nodes f w =
    let a = and_parts (are_labelled [] None f) _ w in
    let r = and_parts (every has_room f) _ a.1 in
    let v = and_parts (every has_valid_kind f) _ r.1 in
    subst (AreNodes []) (append-nil (preorder f)) (hung [] None [] f [] a.0 v.0 (all_alone f w) (top_under f) (λ ms m. tt))
