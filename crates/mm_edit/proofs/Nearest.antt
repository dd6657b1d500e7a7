-- The neighbours of a gap, from the last label or the first one that a look-up finds.
use Rattle.std.proofs.Common.{inl, inr, ◌≡◌, ◌⊎◌, Bool, true, false, ◌||◌, List, [], map, refl, ap, sym, subst, ◌∙◌, Option, Some, None}
use Rattle.std.specs.Prelude.{if◌then◌else◌}
use Rattle.mm_label.specs.Fronts.{Apart, Front, IsChild, Label, Le, Lt, Within}
use Rattle.mm_label.specs.Label.{whole}
use Rattle.mm_label.specs.Facts.Children.{same_child}
use Rattle.mm_label.specs.Facts.Fronts.{apart_below, apart_trans, front_antisym, front_cases, front_le, front_refl, front_trans, le_antisym}
use Rattle.mm_label.specs.Facts.Lists.{apart_lt, lt_below}
use Rattle.mm_label.specs.Facts.Members.{in_within, within_in, within_joined, within_first, within_second}
use Rattle.mm_label.specs.Facts.Order.{same_label}
use Rattle.mm_tree.specs.declared.forest.place.Place.{Place}
use Rattle.mm_tree.specs.declared.forest.place.Place.TheVariants.{Before, After, First, Last}
use Rattle.mm_tree.specs.Edits.{Gap, first_label, found, gap, gap_at, has_label, has_node, last_label}
use Rattle.mm_tree.specs.Formed.{ApartFrom, Formed, node_label}
use Rattle.mm_tree.specs.Facts.Found.{found_stands, some_found, some_node}
use Rattle.mm_tree.specs.Facts.Nodes.{stands_among}
use Rattle.mm_tree.specs.Facts.Places.{node_apart, node_under}
use Rattle.mm_tree.specs.Numbering.{Labelled}
use Rattle.mm_tree.specs.Trees.{Tree, Trees, none, node, preorder}
use Rattle.mm_edit.specs.Inside.Placing.{IsFirst, IsLast, IsLeft, IsRight, IsUnder, LeadsTo}

abbrev pub labels_of : Trees Labelled → List Label
labels_of f = map node_label (preorder f)

-- ---- a look-up leads to the neighbour

-- the child above what was found is the neighbour on the left, where what lies between the neighbour and what was found is below y
pub left_found : (ns : List Label) (y : Label) (P : Label → Type 0) (left found o : Option Label) → IsLeft ns y P left → IsLast ns P found
    → ((k z : Label) → IsUnder y k → Le k z → P z → IsUnder y z) → LeadsTo y found o → left ≡ o
left_found ns y P None None o l f s t = sym t
left_found ns y P None (Some z) None l f s t = refl
left_found ns y P None (Some z) (Some k) l f s t = absurd (l z f.0 t.0 f.1)
left_found ns y P (Some k) None o l f s t = absurd (f k l.1 l.2)
left_found ns y P (Some k) (Some z) None l f s t = absurd (t (s k z (l.0.below, l.0.longer) (f.2 k l.1 l.2) f.1))
left_found ns y P (Some k) (Some z) (Some j) l f s t = elim (front_cases k z) [
  | inl q ↦ ap Some (same_child y z k j l.0 q t.1 t.2)
  | inr n ↦ absurd (l.3 z f.0 t.0 f.1 (f.2 k l.1 l.2, n))
]

pub right_found : (ns : List Label) (y : Label) (P : Label → Type 0) (right found o : Option Label) → IsRight ns y P right → IsFirst ns P found
    → ((k z : Label) → IsUnder y k → Le z k → P z → IsUnder y z) → LeadsTo y found o → right ≡ o
right_found ns y P None None o l f s t = sym t
right_found ns y P None (Some z) None l f s t = refl
right_found ns y P None (Some z) (Some k) l f s t = absurd (l z f.0 t.0 f.1)
right_found ns y P (Some k) None o l f s t = absurd (f k l.1 l.2)
right_found ns y P (Some k) (Some z) None l f s t = absurd (t (s k z (l.0.below, l.0.longer) (f.2 k l.1 l.2) f.1))
right_found ns y P (Some k) (Some z) (Some j) l f s t =
    let e : k ≡ z = le_antisym k z (l.3 z f.0 t.0 f.1) (f.2 k l.1 l.2) in
    ap Some (same_child y z k j l.0 (subst (Front k) e (front_refl k)) t.1 t.2)

-- ---- the siblings of a gap

-- of the labels that lie below y, those that aren't of these siblings or below them lie at or before the sibling on the left, or below it
abbrev Passed : List Label → Label → Option Label → Trees Labelled → Type 0
Passed ns y None ts = (d : Label) → Within d ns → IsUnder y d → Within d (labels_of ts)
Passed ns y (Some k) ts = (d : Label) → Within d ns → IsUnder y d → Within d (labels_of ts) ⊎ (Apart k d → ⊥)

-- the sibling on the left is a child of y, and these siblings come after it
abbrev Behind : List Label → Label → Option Label → Trees Labelled → Type 0
Behind ns y None ts = Unit {0}
Behind ns y (Some k) ts = IsChild y k × Within k ns × ApartFrom node_label k ts

-- where a label of these siblings and those below them may stand
abbrev pub IsAmong : Label → Labelled → Trees Labelled → Trees Labelled → Type 0
IsAmong d e inner rest = (d ≡ e.label) ⊎ (Within d (labels_of inner) ⊎ Within d (labels_of rest))

pub among : (d : Label) (e : Labelled) (inner rest : Trees Labelled) → Within d (labels_of (node e inner rest)) → IsAmong d e inner rest
among d e inner rest w =
    let t = within_in node_label d (preorder (node e inner rest)) w in
    elim t.1 [
      | inl q ↦ inl (t.2 ∙ ap node_label q)
      | inr q ↦ elim (within_joined t.0 (preorder inner) (preorder rest) q) [
        | inl r ↦ inr (inl (subst (λ (z : Label). Within z (labels_of inner)) (sym t.2) (in_within node_label t.0 (preorder inner) r)))
        | inr r ↦ inr (inr (subst (λ (z : Label). Within z (labels_of rest)) (sym t.2) (in_within node_label t.0 (preorder rest) r)))
      ]
    ]

under : (d y : Label) (ts : Trees Labelled) → Formed node_label y ts → Within d (labels_of ts) → IsUnder y d
under d y ts u w = let t = within_in node_label d (preorder ts) w in let r = node_under node_label y ts t.0 u t.1 in subst (IsUnder y) (sym t.2) r

apart : (a d y : Label) (ts : Trees Labelled) → Formed node_label y ts → ApartFrom node_label a ts → Within d (labels_of ts) → Apart a d
apart a d y ts u r w = let t = within_in node_label d (preorder ts) w in subst (Apart a) (sym t.2) (node_apart node_label a y ts t.0 u r t.1)

-- what lies below a sibling is one of those below it
below_only : (ns : List Label) (y : Label) (l : Option Label) (e : Labelled) (inner rest : Trees Labelled) → Formed node_label y (node e inner rest) → Behind ns y l (node e inner rest) → Passed ns y l (node e inner rest)
    → (d : Label) → Within d ns → IsUnder e.label d → Within d (labels_of inner)
below_only ns y l e inner rest u b p d i j = by l b p
  where
    more : IsUnder y d
    more = (front_trans y e.label d u.0.below j.0, λ q. u.0.longer (front_antisym e.label y (subst (Front e.label) q j.0) u.0.below))

    here : IsAmong d e inner rest → Within d (labels_of inner)
    here s = elim s [ inl q ↦ absurd (j.1 q) | inr q ↦ elim q [ inl r ↦ r | inr r ↦ absurd ((apart e.label d y rest u.3 u.2 r).1 j.0) ] ]

    by : (l : Option Label) → Behind ns y l (node e inner rest) → Passed ns y l (node e inner rest) → Within d (labels_of inner)
    by None b p = here (among d e inner rest (p d i more))
    by (Some k) b p = elim (p d i more) [ inl q ↦ here (among d e inner rest q) | inr q ↦ absurd (q (apart_below k e.label d b.2.0 j.0)) ]

-- one sibling further
passed_on : (ns : List Label) (y : Label) (l : Option Label) (e : Labelled) (inner rest : Trees Labelled) → Formed node_label y (node e inner rest) → Behind ns y l (node e inner rest) → Passed ns y l (node e inner rest)
    → Passed ns y (Some e.label) rest
passed_on ns y l e inner rest u b p d i j = by l b p
  where
    here : IsAmong d e inner rest → Within d (labels_of rest) ⊎ (Apart e.label d → ⊥)
    here s = elim s [
      | inl q ↦ inr (λ a. a.1 (subst (Front e.label) (sym q) (front_refl e.label)))
      | inr q ↦ elim q [ inl r ↦ inr (λ a. a.1 (under d e.label inner u.1 r).0) | inr r ↦ inl r ]
    ]

    by : (l : Option Label) → Behind ns y l (node e inner rest) → Passed ns y l (node e inner rest) → Within d (labels_of rest) ⊎ (Apart e.label d → ⊥)
    by None b p = here (among d e inner rest (p d i j))
    by (Some k) b p = elim (p d i j) [ inl q ↦ here (among d e inner rest q) | inr q ↦ inr (λ a. q (apart_trans k e.label d b.2.0 a)) ]

-- ---- the last sibling, and the first

pub first_is : (ns : List Label) (y : Label) (P : Label → Type 0) (ts : Trees Labelled) → Formed node_label y ts → ((d : Label) → Within d (labels_of ts) → Within d ns × P d)
    → ((d : Label) → Within d ns → IsUnder y d → P d → Within d (labels_of ts)) → IsRight ns y P (first_label ts)
first_is ns y P none u m p = λ d i j q. p d i j q
first_is ns y P (node e inner rest) u m p =
    let h = m e.label (inl refl) in (
      u.0,
      h.0,
      h.1,
      λ d i j q. elim (among d e inner rest (p d i j q)) [
        | inl r ↦ subst (Le e.label) (sym r) (front_le e.label e.label (front_refl e.label))
        | inr r ↦ elim r [
          | inl s ↦ front_le e.label d (under d e.label inner u.1 s).0
          | inr s ↦ (apart e.label d y rest u.3 u.2 s).0
        ]
      ],
    )

last_at : (ns : List Label) (y : Label) (P : Label → Type 0) (l : Option Label) (ts : Trees Labelled) → Formed node_label y ts → ((d : Label) → Within d (labels_of ts) → Within d ns) → ((d : Label) → IsUnder y d → P d)
    → Behind ns y l ts → Passed ns y l ts → IsLeft ns y P (last_label l ts)
last_at ns y P None none u m t b p = λ d i j q. p d i j
last_at ns y P (Some k) none u m t b p = (b.0, b.1, t k (b.0.below, b.0.longer), λ d i j q a. elim (p d i j) [ inl r ↦ r | inr r ↦ r a ])
last_at ns y P l (node e inner rest) u m t b p =
    last_at ns y P (Some e.label) rest u.3 (λ d w. m d (behind d w)) t (u.0, m e.label (inl refl), u.2) (passed_on ns y l e inner rest u b p)
  where
    behind : (d : Label) → Within d (labels_of rest) → Within d (labels_of (node e inner rest))
    behind d w =
        let q = within_in node_label d (preorder rest) w in
        subst (λ (z : Label). Within z (labels_of (node e inner rest))) (sym q.2) (in_within node_label q.0 (preorder (node e inner rest)) (inr (within_second q.0 (preorder inner) (preorder rest) q.1)))

-- the last of all siblings below y
pub last_is : (ns : List Label) (y : Label) (P : Label → Type 0) (ts : Trees Labelled) → Formed node_label y ts → ((d : Label) → Within d (labels_of ts) → Within d ns) → ((d : Label) → IsUnder y d → P d)
    → ((d : Label) → Within d ns → IsUnder y d → Within d (labels_of ts)) → IsLeft ns y P (last_label None ts)
last_is ns y P ts u m t p = last_at ns y P None ts u m t tt p

-- ---- the gap at a node

-- what is known of the gap beside or below the node x
abbrev pub IsAround : List Label → Place → Label → Gap → Type 0
IsAround ns Before x g = IsChild g.parent x × IsLeft ns g.parent (λ d. Lt d x) g.left × (g.right ≡ Some x) × (whole g.parent ≡ g.parent)
IsAround ns After x g = IsChild g.parent x × (g.left ≡ Some x) × IsRight ns g.parent (λ d. Apart x d) g.right × (whole g.parent ≡ g.parent)
IsAround ns First x g = (g.parent ≡ x) × (g.left ≡ None) × IsRight ns x (λ d. Lt x d) g.right
IsAround ns Last x g = (g.parent ≡ x) × IsLeft ns x (λ d. Apart x d → ⊥) g.left × (g.right ≡ None)

left_at : (ns : List Label) (y : Label) (l : Option Label) (e : Labelled) (inner rest : Trees Labelled) → Formed node_label y (node e inner rest) → Behind ns y l (node e inner rest) → Passed ns y l (node e inner rest)
    → IsLeft ns y (λ d. Lt d e.label) l
left_at ns y l e inner rest u b p = by l b p
  where
    later : (d : Label) → Lt d e.label → IsAmong d e inner rest → ⊥
    later d q s = elim s [
      | inl r ↦ q.1 r
      | inr r ↦ elim r [
        | inl w ↦ q.1 (le_antisym d e.label q.0 (front_le e.label d (under d e.label inner u.1 w).0))
        | inr w ↦ q.1 (le_antisym d e.label q.0 (apart e.label d y rest u.3 u.2 w).0)
      ]
    ]

    by : (l : Option Label) → Behind ns y l (node e inner rest) → Passed ns y l (node e inner rest) → IsLeft ns y (λ d. Lt d e.label) l
    by None b p = λ d i j q. later d q (among d e inner rest (p d i j))
    by (Some k) b p = (b.0, b.1, apart_lt k e.label b.2.0, λ d i j q a. elim (p d i j) [ inl r ↦ later d q (among d e inner rest r) | inr r ↦ r a ])

gap_here : (place : Place) (ns : List Label) (y : Label) (l : Option Label) (e : Labelled) (inner rest : Trees Labelled) → Formed node_label y (node e inner rest)
    → ((d : Label) → Within d (labels_of inner) → Within d ns) → ((d : Label) → Within d (labels_of rest) → Within d ns)
    → Behind ns y l (node e inner rest) → Passed ns y l (node e inner rest) → whole y ≡ y → IsAround ns place e.label (gap_at place y l e inner rest)
gap_here Before ns y l e inner rest u m n b p v = (u.0, left_at ns y l e inner rest u b p, refl, v)
gap_here After ns y l e inner rest u m n b p v = (
  u.0,
  refl,
  first_is ns y (λ d. Apart e.label d) rest u.3 (λ d w. (n d w, apart e.label d y rest u.3 u.2 w))
      (λ d i j q. elim (passed_on ns y l e inner rest u b p d i j) [ inl r ↦ r | inr r ↦ absurd (r q) ]),
  v,
)
gap_here First ns y l e inner rest u m n b p v =
    (refl, refl, first_is ns e.label (λ d. Lt e.label d) inner u.1 (λ d w. (m d w, let t = under d e.label inner u.1 w in lt_below e.label d t.0 t.1)) (λ d i j q. below_only ns y l e inner rest u b p d i j))
gap_here Last ns y l e inner rest u m n b p v =
    (refl, last_is ns e.label (λ d. Apart e.label d → ⊥) inner u.1 m (λ d j a. a.1 j.0) (below_only ns y l e inner rest u b p), refl)

around : (place : Place) (ns : List Label) (x y : Label) (l : Option Label) (ts : Trees Labelled) → Formed node_label y ts → ((d : Label) → Within d (labels_of ts) → Within d ns) → Behind ns y l ts → Passed ns y l ts
    → whole y ≡ y → has_node x ts ≡ true → IsAround ns place x (gap place x y l ts)
around place ns x y l none u m b p v h = absurd cc
around place ns x y l (node e inner rest) u m b p v h =
    by (has_label x e) refl (has_node x inner) refl h
    (around place ns x e.label None inner u.1 low tt (below_only ns y l e inner rest u b p) u.0.is_whole)
    (around place ns x y (Some e.label) rest u.3 late (u.0, m e.label (inl refl), u.2) (passed_on ns y l e inner rest u b p) v)
  where
    low : (d : Label) → Within d (labels_of inner) → Within d ns
    low d w = let t = within_in node_label d (preorder inner) w in
        m d (subst (λ (z : Label). Within z (labels_of (node e inner rest))) (sym t.2) (in_within node_label t.0 (preorder (node e inner rest)) (inr (within_first t.0 (preorder inner) (preorder rest) t.1))))

    late : (d : Label) → Within d (labels_of rest) → Within d ns
    late d w = let t = within_in node_label d (preorder rest) w in
        m d (subst (λ (z : Label). Within z (labels_of (node e inner rest))) (sym t.2) (in_within node_label t.0 (preorder (node e inner rest)) (inr (within_second t.0 (preorder inner) (preorder rest) t.1))))

    by : (a : Bool) → has_label x e ≡ a → (c : Bool) → has_node x inner ≡ c → (a || (c || has_node x rest)) ≡ true
        → (has_node x inner ≡ true → IsAround ns place x (gap place x e.label None inner)) → (has_node x rest ≡ true → IsAround ns place x (gap place x y (Some e.label) rest))
        → IsAround ns place x (if a then gap_at place y l e inner rest else (if c then gap place x e.label None inner else gap place x y (Some e.label) rest))
    by true q c r h f g = subst (λ (z : Label). IsAround ns place z (gap_at place y l e inner rest)) (same_label e.label x q) (gap_here place ns y l e inner rest u low late b p v)
    by false q true r h f g = f r
    by false q false r h f g = g h

pub gap_around : (place : Place) (x : Label) (f : Trees Labelled) → Formed node_label [] f → has_node x f ≡ true → IsAround (labels_of f) place x (gap place x [] None f)
gap_around place x f u h = around place (labels_of f) x [] None f u (λ d w. w) tt (λ d i j. i) refl h

-- the last tree
pub last_around : (f : Trees Labelled) → Formed node_label [] f → IsLeft (labels_of f) [] (λ d. Apart [] d → ⊥) (last_label None f)
last_around f u = last_is (labels_of f) [] (λ d. Apart [] d → ⊥) f u (λ d w. w) (λ d j a. a.1 tt) (λ d i j. i)

-- ---- nodes and labels

-- a label that is there is that of a node
pub node_found : (x : Label) (f : Trees Labelled) → has_node x f ≡ true → (t : Tree Labelled) × (found x f ≡ Some t) × Within t.0 (preorder f) × ((t.0).label ≡ x)
node_found x f h =
    let t = some_found x f h in
    let s = found_stands x f t.0 t.1 in
    (t.0, t.1, stands_among f (t.0).0 (t.0).1 s.0, s.1)

pub node_there : (x : Label) (f : Trees Labelled) → Within x (labels_of f) → has_node x f ≡ true
node_there x f w = let t = within_in node_label x (preorder f) w in some_node x f t.0 t.1 (sym t.2)
