-- A tree with new labels.
use Rattle.std.proofs.Common.{inl, inr, ◌≡◌, ◌+◌, ℕ, true, [], refl, ap, sym, subst, ◌∙◌, None, Result, Ok, Err, IfOk, arith}
use Rattle.std.proofs.lemmas.Bool.{and_from, and_parts}
use Rattle.mm_label.specs.Fronts.{Label, Lt}
use Rattle.mm_label.specs.Label.{IsLabel}
use Rattle.mm_label.specs.Facts.Fronts.{front_le}
use Rattle.mm_label.specs.Facts.Members.{within_joined}
use Rattle.mm_label.specs.Facts.Ordered.{ordered_joined}
use Rattle.mm_keeper.specs.Entries.{IsSorted}
use Rattle.mm_tree.specs.declared.node.Node.{Node}
use Rattle.mm_tree.specs.declared.plain.Kind.{Kind}
use Rattle.mm_tree.specs.declared.refusal.TreeError.{TreeError}
use Rattle.mm_tree.specs.Facts.Labels.{labels_are}
use Rattle.mm_tree.specs.Facts.Places.{node_under, preorder_rises}
use Rattle.mm_tree.specs.Forests.{has_valid_kind}
use Rattle.mm_tree.specs.Formed.{Formed, node_label}
use Rattle.mm_tree.specs.Numbering.{Labelled, Numbers, child_label, fits, has_room, node_of, number, number_from}
use Rattle.mm_tree.specs.Trees.{Tree, Trees, none, node, every, nodes, one, preorder}
use Rattle.mm_tree.specs.Validity.{is_valid_node, is_valid_tree}
use Rattle.mm_tree.specs.Facts.Numbers.{number_form, valid_numbered}
use Rattle.mm_image.specs.Facts.LabelOrder.{Ancestry, ByteOrder}
use Rattle.mm_image.specs.Facts.Members.{node_is_valid}
use Rattle.mm_image.specs.Image.{entries_of}
use Rattle.mm_image.specs.Facts.Rising.{Nodes, entries_rise}
use Rattle.mm_tree.specs.Facts.Formed.{labelled_formed}

pub room_all : (x : Label) (t : Tree Kind) (u : Tree Labelled) → u ≡ number x t → fits x ≡ true → every has_room (number x t).1 ≡ true → every has_room (one u) ≡ true
room_all x t u e f r = subst (λ (z : Tree Labelled). every has_room (one z) ≡ true) (sym e) (and_from (fits x) _ f (and_from (every has_room (number x t).1) true r refl))

kinds_valid : (x : Label) (t : Tree Kind) → is_valid_tree t ≡ true → every has_valid_kind (one (number x t)) ≡ true
kinds_valid x t v = valid_numbered x t (and_parts (every is_valid_node (one t)) _ v).0

pub valid_all : (x : Label) (t : Tree Kind) (u : Tree Labelled) → u ≡ number x t → is_valid_tree t ≡ true → every has_valid_kind (one u) ≡ true
valid_all x t u e v = subst (λ (z : Tree Labelled). every has_valid_kind (one z) ≡ true) (sym e) (kinds_valid x t v)

numbered_nodes : (x : Label) (t : Tree Kind) → IsLabel x → every has_room (number x t).1 ≡ true → is_valid_tree t ≡ true → Nodes (one (number x t))
numbered_nodes x t g r v = record {
  label = λ d w. elim w [
    | inl e ↦ subst (λ (z : Labelled). IsLabel z.label) (sym e) g
    | inr k ↦ elim (within_joined d (preorder (number x t).1) [] k) [ inl q ↦ labels_are x None (number x t).1 d (number_form x t) r q | inr q ↦ absurd q ]
  ];
  kind = node_is_valid (one (number x t)) (kinds_valid x t v);
  order = (
    λ p w. elim (within_joined p (preorder (number x t).1) [] w) [
      | inl k ↦ let n = node_under node_label x (number x t).1 p formed k in (front_le x (node_label p) n.0, λ e. n.1 (sym e))
      | inr k ↦ absurd k
    ],
    ordered_joined (λ a b. Lt (node_label a) (node_label b)) (preorder (number x t).1) [] (preorder_rises node_label x (number x t).1 formed) tt (λ a b p q. absurd q),
  );
}
  where
    formed : Formed node_label x (number x t).1
    formed = labelled_formed x None (number x t).1 (number_form x t)

pub numbered_sorted : ByteOrder → Ancestry → (x : Label) (t : Tree Kind) (u : Tree Labelled) → u ≡ number x t → IsLabel x → every has_room (number x t).1 ≡ true → is_valid_tree t ≡ true → IsSorted (entries_of (one u))
numbered_sorted order ancestry x t u e g r v =
    subst (λ (z : Tree Labelled). IsSorted (entries_of (one z))) (sym e)
    (record { rises = entries_rise order ancestry (one (number x t)) (numbered_nodes x t g r v) })

nodes_from : (y : Label) (i : ℕ) (ts : Trees Kind) → nodes (number_from y i ts) ≡ nodes ts
nodes_from y i none = refl
nodes_from y i (node k inner rest) = let a = nodes_from (child_label y i) 1 inner in let b = nodes_from y (i + 1) rest in omega (arith, a, b)

pub nodes_same : (x : Label) (t : Tree Kind) (u : Tree Labelled) → u ≡ number x t → nodes (one u) ≡ nodes (one t)
nodes_same x t u e = ap (λ (z : Tree Labelled). nodes (one z)) e ∙ omega (arith, nodes_from x 1 t.1)

pub numbers_so : {P : Node → Type 0} {t : Tree Labelled} (r : Result Node TreeError) → ((n : Node) → node_of n ≡ t → every has_room t.1 ≡ true → P n) → Numbers r t → IfOk r P
numbers_so (Ok n) f h = f n h.0 h.1
numbers_so (Err e) f h = tt
