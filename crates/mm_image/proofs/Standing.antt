-- Trees that may stand at a label.
use Rattle.std.proofs.Common.{inl, inr, ◌≡◌, ℕ, ℤ, ◌≤◌, Bool, true, false, cond, List, [], ◌∷◌, ◌++◌, map, reverse, length, refl, ap, ap₂, sym, subst, ◌∙◌, Some, None, append-nil, arith}
use Rattle.std.specs.Prelude.{flat_map, nat_le}
use Rattle.std.specs.Cmp.Lexicographic.{pointwise}
use Rattle.std.specs.Ordering.{int_eq}
use Rattle.std.proofs.lemmas.Bool.{and_from, and_parts}
use Rattle.std.proofs.lemmas.Bool.Decides.{nat_tests}
use Rattle.std.proofs.lemmas.List.{reverse-append, reverse-reverse}
use Rattle.mm_label.specs.Bytes.{bytes_of}
use Rattle.mm_label.specs.Label.{IsLabel, all_in_range}
use Rattle.mm_label.specs.Fronts.{Label, Within, is_front}
use Rattle.mm_label.specs.Facts.Fronts.{is_front_of}
use Rattle.mm_label.specs.Facts.Members.{within_first, within_second}
use Rattle.mm_label.specs.Facts.Order.{label_same, same_label}
use Rattle.mm_tree.specs.declared.node.Node.{Node}
use Rattle.mm_tree.specs.Facts.Formed.{labelled_formed}
use Rattle.mm_tree.specs.Facts.Rebuild.{rebuilt}
use Rattle.mm_tree.specs.Formed.{Formed, node_label}
use Rattle.mm_tree.specs.Forests.{are_labelled, has_valid_kind}
use Rattle.mm_tree.specs.Numbering.{Labelled, forest_of, has_room, node_of}
use Rattle.mm_tree.specs.Rebuild.{behind, below, rebuild, take_in}
use Rattle.mm_tree.specs.Trees.{Tree, Trees, every, has_some, node, none, one, preorder}
use Rattle.mm_tree.specs.Validity.{is_valid_kind}
use Rattle.mm_image.specs.declared.gathering.Group.{Group}
use Rattle.mm_image.specs.Image.{chunks_of}
use Rattle.mm_image.specs.Subtrees.{IsSubtree, is_shallow}
use Rattle.mm_image.specs.Inside.Gathered.{AreGroups, CanBeStored, Tells, as_group, gathered}
use Rattle.mm_image.specs.Inside.Placing.{fits_place, is_placed}
use Rattle.mm_image.specs.Inside.Running.{TreeAt}
use Rattle.mm_image.proofs.Determined.{OneLabel}
use Rattle.mm_image.proofs.Groups.{nodes_gathered, same_groups, same_nodes, stored_groups}
use Rattle.mm_image.proofs.Trees.{rebuilt_nodes}
use Rattle.mm_image.specs.Facts.Standing.{Stands, is_standing, stands, stored_label, stored_tree}

-- ---- tests of all nodes

pub every_so : {A : Type 0} (p q : A → Bool → Bool) (f : Trees A) → ((a : A) (b : Bool) → p a b ≡ true → q a b ≡ true) → every p f ≡ true → every q f ≡ true
every_so p q none h e = refl
every_so p q (node a inner rest) h e =
    let s = and_parts (p a (has_some inner)) _ e in
    let t = and_parts (every p inner) _ s.1 in
    and_from (q a (has_some inner)) _ (h a (has_some inner) s.0) (and_from (every q inner) _ (every_so p q inner h t.0) (every_so p q rest h t.1))

-- a test that is passed with another one and, of the nodes themselves, with a third
pub every_with : {A : Type 0} (p q : A → Bool → Bool) (f : Trees A) → ((a : A) → Within a (preorder f) → (b : Bool) → p a b ≡ true → q a b ≡ true) → every p f ≡ true → every q f ≡ true
every_with p q none h e = refl
every_with p q (node a inner rest) h e =
    let s = and_parts (p a (has_some inner)) _ e in
    let t = and_parts (every p inner) _ s.1 in
    and_from (q a (has_some inner)) _ (h a (inl refl) (has_some inner) s.0)
    (and_from (every q inner) _ (every_with p q inner (λ d w b k. h d (inr (within_first d (preorder inner) (preorder rest) w)) b k) t.0)
    (every_with p q rest (λ d w b k. h d (inr (within_second d (preorder inner) (preorder rest) w)) b k) t.1))

stored_kind : (es : List Labelled) → CanBeStored es → (d : Labelled) → Within d es → is_valid_kind d.kind ≡ true
stored_kind [] s d w = absurd w
stored_kind (e ∷ es) s d w = elim w [ inl h ↦ subst (λ (z : Labelled). is_valid_kind z.kind ≡ true) (sym h) s.1 | inr h ↦ stored_kind es s.2 d h ]

-- ---- it is rebuilt from its nodes

all_below : (y : Label) (f : Trees Labelled) → Formed node_label y f → (below node_label y f ≡ f) × (behind node_label y f ≡ none)
all_below y none u = (refl, refl)
all_below y (node e inner rest) u = by (is_front y e.label) (is_front_of y e.label u.0.below) (all_below y rest u.3)
  where
    by : (b : Bool) → b ≡ true → (below node_label y rest ≡ rest) × (behind node_label y rest ≡ none)
        → (cond b (node e inner (below node_label y rest)) none ≡ node e inner rest) × (cond b (behind node_label y rest) (node e inner rest) ≡ none)
    by true q h = (ap (node e inner) h.0, h.1)
    by false q h = absurd cc

pub rebuilt_tree : (label : List ℤ) (t : Tree Labelled) → Stands label t → rebuild node_label (preorder (one t)) ≡ one t
rebuilt_tree label t s =
    let f = labelled_formed label None t.1 s.labels in
    let inner : rebuild node_label (preorder t.1 ++ []) ≡ t.1 = ap (rebuild node_label) (append-nil (preorder t.1)) ∙ rebuilt node_label label t.1 f in
    let a = all_below label t.1 f in
    ap (take_in node_label t.0) inner
    ∙ ap₂ (λ (u v : Trees Labelled). node t.0 u v) (ap (λ (x : Label). below node_label x t.1) (sym s.same) ∙ a.0) (ap (λ (x : Label). behind node_label x t.1) (sym s.same) ∙ a.1)

-- ---- what is tested of it

placed_so : (e : Labelled) (b : Bool) → is_shallow e b ≡ true → has_valid_kind e b ≡ true → fits_place e b ≡ true
placed_so e b s v = and_from (is_shallow e b) _ s (and_parts (is_valid_kind e.kind) _ v).1

both_tests : {A : Type 0} (p q r : A → Bool → Bool) (f : Trees A) → ((a : A) (b : Bool) → p a b ≡ true → q a b ≡ true → r a b ≡ true) → every p f ≡ true → every q f ≡ true → every r f ≡ true
both_tests p q r none h e g = refl
both_tests p q r (node a inner rest) h e g =
    let s = and_parts (p a (has_some inner)) _ e in
    let t = and_parts (every p inner) _ s.1 in
    let u = and_parts (q a (has_some inner)) _ g in
    let v = and_parts (every q inner) _ u.1 in
    and_from (r a (has_some inner)) _ (h a (has_some inner) s.0 u.0) (and_from (every r inner) _ (both_tests p q r inner h t.0 v.0) (both_tests p q r rest h t.1 v.1))

pub placed_of : (label : List ℤ) (t : Tree Labelled) → Stands label t → is_placed label t ≡ true
placed_of label t s =
    and_from (pointwise int_eq label t.0.label) _ (label_same label t.0.label s.same)
    (and_from (are_labelled t.0.label None t.1) _ (subst (λ (x : Label). are_labelled x None t.1 ≡ true) s.same s.labels)
    (and_from (every fits_place (one t)) _ (both_tests is_shallow has_valid_kind fits_place (one t) placed_so s.shallow s.kinds) s.top))

within_limit : (n : ℕ) → n ≤ 512 → nat_le n 512 ≡ true
within_limit n h = grind (arith, nat_tests)

pub stands_of : (label : List ℤ) (t : Tree Labelled) → is_placed label t ≡ true → CanBeStored (preorder (one t)) → Stands label t
stands_of label t e c =
    let a = and_parts (pointwise int_eq label t.0.label) _ e in
    let b = and_parts (are_labelled t.0.label None t.1) _ a.1 in
    let d = and_parts (every fits_place (one t)) _ b.1 in
    let same = same_label label t.0.label a.0 in
    record {
      same = same;
      labels = subst (λ (x : Label). are_labelled x None t.1 ≡ true) (sym same) b.0;
      room = every_with fits_place has_room (one t) (λ n w x k.
          let l = stored_label (preorder (one t)) c n w in
          and_from (all_in_range n.label) _ l.in_range (within_limit (length (bytes_of n.label)) l.short)) d.0;
      kinds = every_with fits_place has_valid_kind (one t) (λ n w x k. and_from (is_valid_kind n.kind) _ (stored_kind (preorder (one t)) c n w) (and_parts (is_shallow n x) _ k).1) d.0;
      shallow = every_so fits_place is_shallow (one t) (λ n x k. (and_parts (is_shallow n x) _ k).0) d.0;
      top = d.1;
    }

-- ---- the tree that the groups tell

-- the chunks of a tree tell its nodes
nodes_told : OneLabel → (label : List ℤ) (t : Tree Labelled) (groups : List Group) → IsLabel label → AreGroups groups → IsSubtree label t (gathered groups) → map as_group (preorder (one t)) ≡ groups
nodes_told one_label label t groups g a s =
    let c = stored_tree label t g (stands label t s.tree) in
    same_groups one_label (map as_group (preorder (one t))) groups (stored_groups (preorder (one t)) c) a (nodes_gathered (preorder (one t)) ∙ sym s.chunks)

pub no_nodes : OneLabel → (label : List ℤ) (groups : List Group) → IsLabel label → AreGroups groups → Tells groups None → TreeAt label (gathered groups) None
no_nodes one_label label groups g a n t s = n (preorder (one t)) (stored_tree label t g (stands label t s.tree)) (nodes_told one_label label t groups g a s)

-- every tree with these chunks is the one that is rebuilt
pub one_tree : OneLabel → (label : List ℤ) (groups : List Group) (ns : List Labelled) (t : Tree Labelled) → IsLabel label → AreGroups groups → Tells groups (Some ns) → IsSubtree label t (gathered groups) → rebuild node_label ns ≡ one t
one_tree one_label label groups ns t g a n s =
    let k = stands label t s.tree in
    let same : ns ≡ preorder (one t) = same_nodes ns (preorder (one t)) n.0 (stored_tree label t g k) (n.1 ∙ sym (nodes_told one_label label t groups g a s)) in
    ap (rebuild node_label) same ∙ rebuilt_tree label t k

not_none : (t : Tree Labelled) (f : Trees Labelled) → f ≡ none → f ≡ one t → ⊥
not_none t f e h = let q : none ≡ one t = sym e ∙ h in absurd cc

pub no_tree : OneLabel → (label : List ℤ) (groups : List Group) (ns : List Labelled) (trees : List Node) → IsLabel label → AreGroups groups → Tells groups (Some ns) → forest_of (reverse trees) ≡ rebuild node_label ns → trees ≡ [] → TreeAt label (gathered groups) None
no_tree one_label label groups ns trees g a n r e t s = not_none t (rebuild node_label ns) (sym r ∙ ap (λ (z : List Node). forest_of (reverse z)) e) (one_tree one_label label groups ns t g a n s)

last_first : (trees rest : List Node) (n : Node) (f : Trees Labelled) → trees ≡ rest ++ n ∷ [] → forest_of (reverse trees) ≡ f → f ≡ node (node_of n).0 (node_of n).1 (forest_of (reverse rest))
last_first trees rest n f e r = sym r ∙ ap (λ (z : List Node). forest_of (reverse z)) e ∙ ap forest_of (reverse-append rest (n ∷ []))

some_trees : (ns : List Node) → (ns ≡ [] → ⊥) → forest_of ns ≡ none → ⊥
some_trees [] h e = h refl
some_trees (n ∷ ns) h e = absurd cc

some_reversed : (ns : List Node) → (ns ≡ [] → ⊥) → reverse ns ≡ [] → ⊥
some_reversed ns h e = h (sym (reverse-reverse ns) ∙ ap reverse e)

pub node_parts : (d e : Labelled) (f g h k : Trees Labelled) → node d f h ≡ node e g k → (d ≡ e) × (f ≡ g) × (h ≡ k)
node_parts d e f g h k q = (cc, cc, cc)

pub more_trees : OneLabel → (label : List ℤ) (groups : List Group) (ns : List Labelled) (trees rest : List Node) (n : Node) → IsLabel label → AreGroups groups → Tells groups (Some ns) → forest_of (reverse trees) ≡ rebuild node_label ns → trees ≡ rest ++ n ∷ [] → (rest ≡ [] → ⊥)
    → TreeAt label (gathered groups) None
more_trees one_label label groups ns trees rest n g a w r e h t s =
    let q = sym (last_first trees rest n (rebuild node_label ns) e r) ∙ one_tree one_label label groups ns t g a w s in
    some_trees (reverse rest) (some_reversed rest h) (node_parts (node_of n).0 t.0 (node_of n).1 t.1 (forest_of (reverse rest)) none q).2

pub not_placed : OneLabel → (label : List ℤ) (groups : List Group) (ns : List Labelled) (trees rest : List Node) (n : Node) → IsLabel label → AreGroups groups → Tells groups (Some ns) → forest_of (reverse trees) ≡ rebuild node_label ns → trees ≡ rest ++ n ∷ [] → is_placed label (node_of n) ≡ false
    → TreeAt label (gathered groups) None
not_placed one_label label groups ns trees rest n g a w r e h t s =
    let q = node_parts (node_of n).0 t.0 (node_of n).1 t.1 (forest_of (reverse rest)) none (sym (last_first trees rest n (rebuild node_label ns) e r) ∙ one_tree one_label label groups ns t g a w s) in
    let same : node_of n ≡ t = λ i. (q.0 i, q.1 i) in
    let p : is_placed label (node_of n) ≡ true = ap (is_placed label) same ∙ placed_of label t (stands label t s.tree) in
    let z : false ≡ true = sym h ∙ p in absurd cc

pub tree_is : (label : List ℤ) (groups : List Group) (ns : List Labelled) (trees rest : List Node) (n : Node) → Tells groups (Some ns) → forest_of (reverse trees) ≡ rebuild node_label ns → trees ≡ rest ++ n ∷ [] → rest ≡ [] → is_placed label (node_of n) ≡ true
    → TreeAt label (gathered groups) (Some (node_of n))
tree_is label groups ns trees rest n w r e h p =
    let q : rebuild node_label ns ≡ one (node_of n) = last_first trees rest n (rebuild node_label ns) e r ∙ ap (λ (z : List Node). node (node_of n).0 (node_of n).1 (forest_of (reverse z))) h in
    let nodes : preorder (one (node_of n)) ≡ ns = sym (ap preorder q) ∙ rebuilt_nodes ns in
    record {
      tree = is_standing label (node_of n) (stands_of label (node_of n) p (subst CanBeStored (sym nodes) w.0));
      chunks = sym (ap gathered w.1) ∙ nodes_gathered ns ∙ ap (flat_map chunks_of) (sym nodes);
    }
