-- Numbering the children one after the other numbers the tree.
use Rattle.std.proofs.Common.{◌≡◌, ℕ, ◌+◌, ◌<◌, Bool, true, false, ◌&&◌, List, [], ◌∷◌, ◌++◌, length, arith, refl, ap, sym, ◌∙◌, append_assoc}
use Rattle.std.specs.Prelude.{ℤ, map, Err, pos, ◌*◌, ◌-◌}
use Rattle.mm_tree.specs.declared.plain.Plain.{Plain}
use Rattle.mm_tree.specs.declared.plain.Plain.TheViews.{out-Plain}
use Rattle.mm_tree.specs.declared.node.Node.{Node}
use Rattle.mm_tree.specs.declared.node.Node.TheViews.{roll-Node}
use Rattle.mm_tree.specs.declared.node.Node.TheFolds.{fold-roll-Node}
use Rattle.mm_tree.specs.declared.plain.Kind.{Kind}
use Rattle.mm_tree.specs.Trees.{node, Tree, siblings, every, tree_of, tree_of_out}
use Rattle.mm_tree.specs.declared.refusal.TreeError.{TreeError}
use Rattle.mm_tree.specs.declared.refusal.TreeError.TheVariants as error
use Rattle.std.proofs.lemmas.List.{append-nil, map-append, length-append}
use Rattle.std.proofs.lemmas.Bool.{le-ltb, and_from, and_parts}
use Rattle.mm_label.specs.Label.{is_in_range, all_in_range}
use Rattle.mm_tree.specs.Numbering.{Labelled, child_label, number, number_from, fits, has_room, node_of, node_step, Labels, Numbers}

-- the children from the i-th on, one by one
abbrev pub number_list : List ℤ → ℕ → List (Tree Kind) → List (Tree Labelled)
number_list y i [] = []
number_list y i (t ∷ ts) = number (child_label y i) t ∷ number_list y (i + 1) ts

pub number_siblings : (y : List ℤ) (i : ℕ) (ts : List (Tree Kind)) → number_from y i (siblings ts) ≡ siblings (number_list y i ts)
number_siblings y i [] = refl
number_siblings y i (t ∷ ts) = ap (λ r. node (number (child_label y i) t).0 (number (child_label y i) t).1 r) (number_siblings y (i + 1) ts)

both_false : (a b : Bool) → b ≡ false → (a && b) ≡ false
both_false true b e = e
both_false false b e = refl

first_false : (a b c : Bool) → (a && b) ≡ false → (a && (b && c)) ≡ false
first_false true true c e = absurd cc
first_false true false c e = refl
first_false false b c e = refl

left_false : (a b : Bool) → a ≡ false → (a && b) ≡ false
left_false a b e = rw e refl

-- one that doesn't fit is among them
one_too_long : (a b : List (Tree Labelled)) (x : Tree Labelled) → (fits x.0.label && every has_room x.1) ≡ false → every has_room (siblings (a ++ x ∷ b)) ≡ false
one_too_long [] b x e = first_false (fits x.0.label) (every has_room x.1) (every has_room (siblings b)) e
one_too_long (y ∷ a) b x e = both_false (fits y.0.label) _ (both_false (every has_room y.1) _ (one_too_long a b x e))

-- what is below the root, from the list of its children
below : (tree : Plain) (y : List ℤ) (ts : List (Tree Labelled)) → number_list y 1 (map tree_of (out-Plain tree).children) ≡ ts → number_from y 1 (tree_of tree).1 ≡ siblings ts
below tree y ts e =
    ap (λ (t : Tree Kind). number_from y 1 t.1) (tree_of_out tree) ∙ number_siblings y 1 (map tree_of (out-Plain tree).children) ∙ ap (λ us. siblings us) e

-- the children so far, the next one, and the others
next_is : (y : List ℤ) (i : ℕ) (all done : List (Tree Labelled)) (items rest : List Plain) (child : Plain) → items ≡ child ∷ rest
    → all ≡ done ++ number_list y i (map tree_of items) → all ≡ done ++ number (child_label y i) (tree_of child) ∷ number_list y (i + 1) (map tree_of rest)
next_is y i all done items rest child e same = same ∙ ap (λ (zs : List Plain). done ++ number_list y i (map tree_of zs)) e

too_long : (tree : Plain) (y : List ℤ) (i : ℕ) (done : List (Tree Labelled)) (items rest : List Plain) (child : Plain) → items ≡ child ∷ rest
    → number_list y 1 (map tree_of (out-Plain tree).children) ≡ done ++ number_list y i (map tree_of items)
    → (fits (child_label y i) && every has_room (number (child_label y i) (tree_of child)).1) ≡ false → every has_room (number_from y 1 (tree_of tree).1) ≡ false
too_long tree y i done items rest child e same long =
    ap (λ ts. every has_room ts) (below tree y _ (next_is y i _ done items rest child e same)) ∙ one_too_long done (number_list y (i + 1) (map tree_of rest)) (number (child_label y i) (tree_of child)) long

-- the label of a child doesn't fit
pub label_fails : (tree : Plain) (y : List ℤ) (i : ℕ) (done : List (Tree Labelled)) (items rest : List Plain) (child : Plain) (e : TreeError) → items ≡ child ∷ rest
    → number_list y 1 (map tree_of (out-Plain tree).children) ≡ done ++ number_list y i (map tree_of items)
    → Labels (Err e) (child_label y i) → Numbers (Err e) (number y (tree_of tree))
label_fails tree y i done items rest child (error.Refused r) e same h = (h.0, too_long tree y i done items rest child e same (left_false _ _ h.1))
label_fails tree y i done items rest child error.Memory e same h = tt

-- a label below a child doesn't fit
pub child_fails : (tree : Plain) (y : List ℤ) (i : ℕ) (done : List (Tree Labelled)) (items rest : List Plain) (child : Plain) (e : TreeError) → items ≡ child ∷ rest
    → number_list y 1 (map tree_of (out-Plain tree).children) ≡ done ++ number_list y i (map tree_of items)
    → Numbers (Err e) (number (child_label y i) (tree_of child)) → Numbers (Err e) (number y (tree_of tree))
child_fails tree y i done items rest child (error.Refused r) e same h = (h.0, too_long tree y i done items rest child e same (both_false (fits (child_label y i)) _ h.1))
child_fails tree y i done items rest child error.Memory e same h = tt

none_left : (items : List Plain) (n : ℕ) → n ≡ length items → n ≡ 0 → items ≡ []
none_left [] n e z = refl
none_left (x ∷ xs) n e z = absurd (omega (arith, e, z))

-- all children are done
pub is_done : (tree : Plain) (y : List ℤ) (i n : ℕ) (ns ms : List Node) (items : List Plain) (kind : Kind) → n ≡ length items → n ≡ 0
    → number_list y 1 (map tree_of (out-Plain tree).children) ≡ map node_of ns ++ number_list y i (map tree_of items)
    → every has_room (siblings (map node_of ns)) ≡ true → ms ≡ ns → kind ≡ (out-Plain tree).kind
    → (node_of (roll-Node (record { label = y; kind = kind; children = ms })) ≡ number y (tree_of tree)) × (every has_room (number y (tree_of tree)).1 ≡ true)
is_done tree y i n ns ms items kind len zero_left same fit e k =
    let all : number_from y 1 (tree_of tree).1 ≡ siblings (map node_of ns) =
    below tree y _ (same ∙ ap (λ (zs : List Plain). map node_of ns ++ number_list y i (map tree_of zs)) (none_left items n len zero_left) ∙ append-nil (map node_of ns)) in
    let rolled = fold-roll-Node (Tree Labelled) node_step (record { label = y; kind = kind; children = ms }) in
    (rolled ∙ (λ j. (record { label = y; kind = (k ∙ ap (λ (t : Tree Kind). t.0) (sym (tree_of_out tree))) j }, (ap (λ (zs : List Node). siblings (map node_of zs)) e ∙ sym all) j)), ap (λ ts. every has_room ts) all ∙ fit)

one_out : (y : List ℤ) (c : ℤ) → is_in_range c ≡ false → all_in_range (y ++ c ∷ []) ≡ false
one_out [] c h = left_false (is_in_range c) true h
one_out (x ∷ y) c h = both_false (is_in_range x) _ (one_out y c h)

-- a child so far behind has a label out of range
pub too_far : (y : List ℤ) (i : ℕ) → 2147487775 < i → fits (child_label y (i + 1)) ≡ false
too_far y i h = left_false _ _ (one_out y (pos (2 * (i + 1) - 1)) (le-ltb (2 * (i + 1) - 1) 4294975552 (omega arith)))

-- any other has an odd component in range
pub component_is : (i : ℕ) → 2 * (i + 1) - 1 ≡ 2 * i + 1
component_is i = omega arith

pub fewer_left : (items rest : List Plain) (child : Plain) (n m : ℕ) → n ≡ length items → items ≡ child ∷ rest → m + 1 ≡ n → m ≡ length rest
fewer_left items rest child n m whole e step = omega (arith, whole, step, ap (λ (zs : List Plain). length zs) e)

-- one more child is done
pub goes_on : (y : List ℤ) (i j : ℕ) (all : List (Tree Labelled)) (ns ms : List Node) (n : Node) (items rest : List Plain) (child : Plain) → items ≡ child ∷ rest
    → all ≡ map node_of ns ++ number_list y i (map tree_of items) → node_of n ≡ number (child_label y i) (tree_of child) → ms ≡ ns ++ n ∷ [] → j ≡ i + 1
    → all ≡ map node_of ms ++ number_list y j (map tree_of rest)
goes_on y i j all ns ms n items rest child e same is pushed next =
    next_is y i all (map node_of ns) items rest child e same
    ∙ ap (λ t. map node_of ns ++ t ∷ number_list y (i + 1) (map tree_of rest)) (sym is)
    ∙ sym (append_assoc (map node_of ns) (node_of n ∷ []) (number_list y (i + 1) (map tree_of rest)))
    ∙ ap (λ zs. zs ++ number_list y (i + 1) (map tree_of rest)) (sym (map-append node_of ns (n ∷ [])))
    ∙ ap (λ (zs : List Node). map node_of zs ++ number_list y (i + 1) (map tree_of rest)) (sym pushed)
    ∙ ap (λ k. map node_of ms ++ number_list y k (map tree_of rest)) (sym next)

room_behind : (ts us : List (Tree Labelled)) → every has_room (siblings ts) ≡ true → every has_room (siblings us) ≡ true → every has_room (siblings (ts ++ us)) ≡ true
room_behind [] us f g = g
room_behind (t ∷ ts) us f g =
    let p = and_parts (fits t.0.label) (every has_room t.1 && every has_room (siblings ts)) f in
    let q = and_parts (every has_room t.1) (every has_room (siblings ts)) p.1 in
    and_from (fits t.0.label) _ p.0 (and_from (every has_room t.1) _ q.0 (room_behind ts us q.1 g))

pub still_fit : (ns ms : List Node) (n : Node) (x : List ℤ) (t : Tree Kind) → ms ≡ ns ++ n ∷ [] → every has_room (siblings (map node_of ns)) ≡ true
    → node_of n ≡ number x t → fits x ≡ true → every has_room (number x t).1 ≡ true → every has_room (siblings (map node_of ms)) ≡ true
still_fit ns ms n x t pushed fit is short all =
    ap (λ (zs : List Node). every has_room (siblings (map node_of zs))) pushed
    ∙ ap (λ (zs : List (Tree Labelled)). every has_room (siblings zs)) (map-append node_of ns (n ∷ []))
    ∙ room_behind (map node_of ns) (node_of n ∷ []) fit
    (ap (λ (u : Tree Labelled). every has_room (siblings (u ∷ []))) is ∙ and_from (fits x) _ short (and_from (every has_room (number x t).1) _ all refl))

pub next_place : (ns : List Node) (n : Node) (ms : List Node) → ms ≡ ns ++ n ∷ [] → length ms + 1 ≡ length ns + 1 + 1
next_place ns n ms e = omega (arith, ap (λ (zs : List Node). length zs) e, length-append ns (n ∷ []))
