-- Nodes that come one after the other, each hanging on an earlier one, are those of a forest.
use Rattle.std.proofs.Common.{inl, inr, ◌≡◌, ◌⊎◌, Bool, true, false, cond, ◌&&◌, ◌||◌, List, [], ◌∷◌, ◌++◌, refl, ap, sym, subst, ◌∙◌, append_assoc}
use Rattle.std.specs.List.{list_any}
use Rattle.std.proofs.lemmas.Bool.{and_parts}
use Rattle.mm_label.specs.Fronts.{Apart, Front, IsChild, Label, Lt, Within, is_front}
use Rattle.mm_label.specs.Label.{is_child, whole}
use Rattle.mm_label.specs.Facts.Children.{front_none}
use Rattle.mm_label.specs.Facts.Fronts.{apart_trans, front_le, front_no, front_yes, le_antisym}
use Rattle.mm_label.specs.Facts.Members.{any_found}
use Rattle.mm_label.specs.Facts.Tests.{child_of}
use Rattle.mm_tree.specs.Formed.{ApartFrom, node_label}
use Rattle.mm_tree.specs.Numbering.{Labelled}
use Rattle.mm_tree.specs.Rebuild.{behind, below, rebuild}
use Rattle.mm_tree.specs.Trees.{Trees, node, none, preorder}
use Rattle.mm_tree.specs.Validity.{is_element}
use Rattle.mm_check.specs.Reading.{hangs}
use Rattle.mm_check.proofs.Order.{Climb}

-- ---- forests of which the tests of labels tell where nodes sit

-- a text has no children
abbrev pub MayHave : Labelled → Trees Labelled → Type 0
MayHave e none = Unit {0}
MayHave e (node d inner rest) = is_element e.kind ≡ true

-- siblings under y, apart from each other, and so below each of them
abbrev pub Sits : Label → Trees Labelled → Type 0
Sits y none = Unit {0}
Sits y (node e inner rest) = (is_child y e.label ≡ true) × MayHave e inner × Sits e.label inner × ApartFrom node_label e.label rest × Sits y rest

-- ---- on what a label hangs

-- the element on which it hangs
pub record On (nodes : List Labelled) (x : Label) : Type 0 where
  pub node : Labelled
  pub within : Within node nodes
  pub element : is_element node.kind ≡ true
  pub child : is_child node.label x ≡ true

abbrev pub Hung : List Labelled → Label → Type 0
Hung nodes x = (is_child [] x ≡ true) ⊎ On nodes x

or_cases : (a b : Bool) → (a || b) ≡ true → (a ≡ true) ⊎ (b ≡ true)
or_cases true b e = inl refl
or_cases false b e = inr e

pub hung_of : (nodes : List Labelled) (x : Label) → hangs nodes x ≡ true → Hung nodes x
hung_of nodes x h = elim (or_cases (is_child [] x) (list_any (λ e. is_element e.kind && is_child e.label x) nodes) h) [
  | inl t ↦ inl t
  | inr t ↦
      let f = any_found (λ e. is_element e.kind && is_child e.label x) nodes t in
      let p = and_parts (is_element f.0.kind) (is_child f.0.label x) f.2 in
      inr (record { node = f.0; within = f.1; element = p.0; child = p.1 })
]

child_named : (y x : Label) → IsChild y x → x ≡ [] → ⊥
child_named y x c e = c.longer (e ∙ sym (front_none y (subst (Front y) e c.below)))

hung_named : (nodes : List Labelled) (x : Label) → Hung nodes x → x ≡ [] → ⊥
hung_named nodes x h e = elim h [ inl k ↦ child_named [] x (child_of [] x k) e | inr o ↦ child_named o.node.label x (child_of o.node.label x o.child) e ]

hung_whole : (nodes : List Labelled) (x : Label) → Hung nodes x → whole x ≡ x
hung_whole nodes x h = elim h [ inl k ↦ (child_of [] x k).is_whole | inr o ↦ (child_of o.node.label x o.child).is_whole ]

-- all of these come before x
abbrev pub AllBefore : List Labelled → Label → Type 0
AllBefore nodes x = (d : Labelled) → Within d nodes → Lt d.label x

-- a whole label above x, which is not x, is no longer than the one on which x hangs
no_between : (y x z : Label) → Lt y x → whole x ≡ x → Front x z → Lt x z → IsChild y z → ⊥
no_between y x z l w f m c = elim (c.one x w f) [
  | inl g ↦ l.1 (le_antisym y x l.0 (front_le x y g))
  | inr e ↦ m.1 e
]

not_older : (nodes : List Labelled) (x z : Label) → AllBefore nodes x → (x ≡ [] → ⊥) → whole x ≡ x → Front x z → Lt x z → Hung nodes z → ⊥
not_older nodes x z b n w f m h = elim h [
  | inl k ↦ elim ((child_of [] z k).one x w f) [ inl g ↦ n (front_none x g) | inr e ↦ m.1 e ]
  | inr o ↦ no_between o.node.label x z (b o.node o.within) w f m (child_of o.node.label z o.child)
]

-- ---- trees that hang on what was read, and come after it

abbrev Loose : List Labelled → Trees Labelled → Type 0
Loose nodes none = Unit {0}
Loose nodes (node e inner rest) = AllBefore nodes e.label × Hung nodes e.label × MayHave e inner × Sits e.label inner × ApartFrom node_label e.label rest × Loose nodes rest

-- what is known where a node is read
record Here (nodes : List Labelled) (e : Labelled) : Type 0 where
  before : AllBefore nodes e.label
  hung : Hung nodes e.label

apart_front : (a : Label) (e : Labelled) (f : Trees Labelled) → ApartFrom node_label a f → ApartFrom node_label a (below node_label e.label f)
apart_front a e none r = tt
apart_front a e (node d inner rest) r = by (is_front e.label d.label) (apart_front a e rest r.1)
  where
    by : (t : Bool) → ApartFrom node_label a (below node_label e.label rest) → ApartFrom node_label a (cond t (node d inner (below node_label e.label rest)) none)
    by true i = (r.0, i)
    by false i = tt

child_here : (nodes : List Labelled) (e d : Labelled) → Here nodes e → Lt e.label d.label → Hung (e ∷ nodes) d.label → Front e.label d.label → (is_element e.kind ≡ true) × (is_child e.label d.label ≡ true)
child_here nodes e d k l h f = elim h [
  | inl t ↦ absurd (older (inl t))
  | inr o ↦ elim o.within [
    | inl s ↦ (subst (λ (z : Labelled). is_element z.kind ≡ true) s o.element, subst (λ (z : Labelled). is_child z.label d.label ≡ true) s o.child)
    | inr w ↦ absurd (older (inr (record { node = o.node; within = w; element = o.element; child = o.child })))
  ]
]
  where
    older : Hung nodes d.label → ⊥
    older o = not_older nodes e.label d.label k.before (hung_named nodes e.label k.hung) (hung_whole nodes e.label k.hung) f l o

below_sits : (nodes : List Labelled) (e : Labelled) (f : Trees Labelled) → Here nodes e → Loose (e ∷ nodes) f → Sits e.label (below node_label e.label f)
below_sits nodes e none k l = tt
below_sits nodes e (node d inner rest) k l = by (is_front e.label d.label) refl (below_sits nodes e rest k l.5)
  where
    by : (t : Bool) → is_front e.label d.label ≡ t → Sits e.label (below node_label e.label rest) → Sits e.label (cond t (node d inner (below node_label e.label rest)) none)
    by true q i = ((child_here nodes e d k (l.0 e (inl refl)) l.1 (front_yes e.label d.label q)).1, l.2, l.3, apart_front d.label e rest l.4, i)
    by false q i = tt

may_have : (nodes : List Labelled) (e : Labelled) (f : Trees Labelled) → Here nodes e → Loose (e ∷ nodes) f → MayHave e (below node_label e.label f)
may_have nodes e none k l = tt
may_have nodes e (node d inner rest) k l = by (is_front e.label d.label) refl
  where
    by : (t : Bool) → is_front e.label d.label ≡ t → MayHave e (cond t (node d inner (below node_label e.label rest)) none)
    by true q = (child_here nodes e d k (l.0 e (inl refl)) l.1 (front_yes e.label d.label q)).0
    by false q = tt

apart_all : (a b : Label) (f : Trees Labelled) → Apart a b → ApartFrom node_label b f → ApartFrom node_label a f
apart_all a b none p r = tt
apart_all a b (node d inner rest) p r = (apart_trans a b d.label p r.0, apart_all a b rest p r.1)

behind_apart : (nodes : List Labelled) (e : Labelled) (f : Trees Labelled) → Loose (e ∷ nodes) f → ApartFrom node_label e.label (behind node_label e.label f)
behind_apart nodes e none l = tt
behind_apart nodes e (node d inner rest) l = by (is_front e.label d.label) refl (behind_apart nodes e rest l.5)
  where
    by : (t : Bool) → is_front e.label d.label ≡ t → ApartFrom node_label e.label (behind node_label e.label rest) → ApartFrom node_label e.label (cond t (behind node_label e.label rest) (node d inner rest))
    by true q i = i
    by false q i = let a : Apart e.label d.label = ((l.0 e (inl refl)).0, front_no e.label d.label q) in (a, apart_all e.label d.label rest a l.4)

-- apart from e, they hang on what was read before
older : (nodes : List Labelled) (e : Labelled) (f : Trees Labelled) → ApartFrom node_label e.label f → Loose (e ∷ nodes) f → Loose nodes f
older nodes e none a l = tt
older nodes e (node d inner rest) a l = (λ z w. l.0 z (inr w), earlier l.1, l.2, l.3, l.4, older nodes e rest a.1 l.5)
  where
    earlier : Hung (e ∷ nodes) d.label → Hung nodes d.label
    earlier h = elim h [
      | inl t ↦ inl t
      | inr o ↦ elim o.within [
        | inl s ↦ absurd (a.0.1 (child_of e.label d.label (subst (λ (z : Labelled). is_child z.label d.label ≡ true) s o.child)).below)
        | inr w ↦ inr (record { node = o.node; within = w; element = o.element; child = o.child })
      ]
    ]

behind_loose : (nodes : List Labelled) (e : Labelled) (f : Trees Labelled) → Loose (e ∷ nodes) f → Loose (e ∷ nodes) (behind node_label e.label f)
behind_loose nodes e none l = tt
behind_loose nodes e (node d inner rest) l = by (is_front e.label d.label) (behind_loose nodes e rest l.5)
  where
    by : (t : Bool) → Loose (e ∷ nodes) (behind node_label e.label rest) → Loose (e ∷ nodes) (cond t (behind node_label e.label rest) (node d inner rest))
    by true i = i
    by false i = l

-- each of these nodes hangs on one that was read before, the latest first
abbrev pub AllHang : List Labelled → List Labelled → Type 0
AllHang nodes [] = Unit {0}
AllHang nodes (e ∷ es) = (hangs nodes e.label ≡ true) × AllHang (e ∷ nodes) es

planted : (nodes es : List Labelled) → AllHang nodes es → ((d e : Labelled) → Within d nodes → Within e es → Lt d.label e.label) → Climb es → Loose nodes (rebuild node_label es)
planted nodes [] h a c = tt
planted nodes (e ∷ es) h a c =
    let l = planted (e ∷ nodes) es h.1 later c.1 in
    let k : Here nodes e = record { before = λ d w. a d e w (inl refl); hung = hung_of nodes e.label h.0 } in
    let f = rebuild node_label es in
    let q = behind_apart nodes e f l in
    (k.before, k.hung, may_have nodes e f k l, below_sits nodes e f k l, q, older nodes e (behind node_label e.label f) q (behind_loose nodes e f l))
  where
    later : (d x : Labelled) → Within d (e ∷ nodes) → Within x es → Lt d.label x.label
    later d x w v = elim w [ inl s ↦ subst (λ (z : Labelled). Lt z.label x.label) (sym s) (c.0 x v) | inr u ↦ a d x u (inr v) ]

loose_sits : (f : Trees Labelled) → Loose [] f → Sits [] f
loose_sits none l = tt
loose_sits (node e inner rest) l = (top l.1, l.2, l.3, l.4, loose_sits rest l.5)
  where
    top : Hung [] e.label → is_child [] e.label ≡ true
    top h = elim h [ inl t ↦ t | inr o ↦ absurd o.within ]

pub read_sits : (es : List Labelled) → AllHang [] es → Climb es → Sits [] (rebuild node_label es)
read_sits es h c = loose_sits (rebuild node_label es) (planted [] es h (λ d e w v. absurd w) c)

-- ---- taking in keeps the nodes in order

split_order : (x : Label) (f : Trees Labelled) → preorder (below node_label x f) ++ preorder (behind node_label x f) ≡ preorder f
split_order x none = refl
split_order x (node d inner rest) = by (is_front x d.label) (split_order x rest)
  where
    by : (t : Bool) → preorder (below node_label x rest) ++ preorder (behind node_label x rest) ≡ preorder rest
        → preorder (cond t (node d inner (below node_label x rest)) none) ++ preorder (cond t (behind node_label x rest) (node d inner rest)) ≡ preorder (node d inner rest)
    by true i = ap (λ (l : List Labelled). d ∷ l) (append_assoc (preorder inner) (preorder (below node_label x rest)) (preorder (behind node_label x rest)) ∙ ap (λ (l : List Labelled). preorder inner ++ l) i)
    by false i = refl

pub nodes_rebuilt : (es : List Labelled) → preorder (rebuild node_label es) ≡ es
nodes_rebuilt [] = refl
nodes_rebuilt (e ∷ es) = ap (λ (l : List Labelled). e ∷ l) (split_order e.label (rebuild node_label es) ∙ nodes_rebuilt es)
