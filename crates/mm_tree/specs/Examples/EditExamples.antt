-- Worked examples of edits: a bibliography is changed.
use Rattle.std.specs.Prelude.{ℕ, ℤ, pos, negsuc, List, [], ◌∷◌, ◌≡◌, refl, codes, Some, None}
use Rattle.mm_tree.specs.declared.plain.Kind.{Kind}
use Rattle.mm_tree.specs.declared.plain.Kind.TheVariants.{Element, Words}
use Rattle.mm_tree.specs.declared.forest.place.Place.TheVariants.{Before, After, First, Last}
use Rattle.mm_tree.specs.declared.refusal.Refusal.TheVariants.{Absent, Leaf, Top}
use Rattle.mm_tree.specs.Trees.{Trees, none, Tree, nodes}
use Rattle.mm_tree.specs.Numbering.{Labelled}
use Rattle.mm_tree.specs.Forests.{numbered_behind}
use Rattle.mm_tree.specs.Edits.{subtree_size, insert, delete, replace, inserted_label, insert_refusal, delete_refusal, replace_refusal}
use Rattle.mm_tree.specs.Order.{labels}
use Rattle.mm_tree.specs.Examples.Bibliography.{bibliography}

-- the bibliography with its labels, whose books are 1.1 and 1.3
unfoldable bib : Trees Labelled
bib = numbered_behind none bibliography

at : List ℕ → List ℤ
at [] = []
at (n ∷ ns) = pos n ∷ at ns

-- <x/>
x : Tree Kind
x = (Element (codes "x") [], none)

again : Tree Kind
again = (Words (codes "again"), none)

-- ---- between the books, three times: the label 1.2.1, then 1.2.-1 before it, then 1.2.3 behind it

once : Trees Labelled
once = insert After (at (1 ∷ 1 ∷ [])) x bib

twice : Trees Labelled
twice = insert After (at (1 ∷ 1 ∷ [])) x once

first_time : inserted_label After (at (1 ∷ 1 ∷ [])) bib ≡ at (1 ∷ 2 ∷ 1 ∷ [])
unfolding bib bibliography at
first_time = refl

second_time : inserted_label After (at (1 ∷ 1 ∷ [])) once ≡ pos 1 ∷ pos 2 ∷ negsuc 0 ∷ []
unfolding once bib bibliography at x
second_time = refl

third_time : inserted_label After (at (1 ∷ 2 ∷ 1 ∷ [])) twice ≡ at (1 ∷ 2 ∷ 3 ∷ [])
unfolding twice once bib bibliography at x
third_time = refl

-- all other labels stay
two_more : labels twice
    ≡ at (1 ∷ [])
    ∷ at (1 ∷ 1 ∷ []) ∷ at (1 ∷ 1 ∷ 1 ∷ []) ∷ at (1 ∷ 1 ∷ 1 ∷ 1 ∷ []) ∷ at (1 ∷ 1 ∷ 3 ∷ []) ∷ at (1 ∷ 1 ∷ 3 ∷ 1 ∷ [])
    ∷ (pos 1 ∷ pos 2 ∷ negsuc 0 ∷ []) ∷ at (1 ∷ 2 ∷ 1 ∷ [])
    ∷ at (1 ∷ 3 ∷ []) ∷ at (1 ∷ 3 ∷ 1 ∷ []) ∷ at (1 ∷ 3 ∷ 1 ∷ 1 ∷ []) ∷ at (1 ∷ 3 ∷ 3 ∷ []) ∷ at (1 ∷ 3 ∷ 3 ∷ 1 ∷ [])
    ∷ []
unfolding twice once bib bibliography at x
two_more = refl

-- ---- before the first book, as a title's first and last child

before_it : inserted_label Before (at (1 ∷ 1 ∷ [])) bib ≡ pos 1 ∷ negsuc 0 ∷ []
unfolding bib bibliography at
before_it = refl

first_child : inserted_label First (at (1 ∷ 1 ∷ 1 ∷ [])) bib ≡ pos 1 ∷ pos 1 ∷ pos 1 ∷ negsuc 0 ∷ []
unfolding bib bibliography at
first_child = refl

last_child : inserted_label Last (at (1 ∷ 1 ∷ 1 ∷ [])) bib ≡ at (1 ∷ 1 ∷ 1 ∷ 3 ∷ [])
unfolding bib bibliography at
last_child = refl

-- ---- the first book taken out, and a tree put in its place, which gets its label again

five_nodes : subtree_size (at (1 ∷ 1 ∷ [])) bib ≡ 5
unfolding bib bibliography at
five_nodes = refl

six_left : nodes (delete (at (1 ∷ 1 ∷ [])) bib) ≡ 6
unfolding bib bibliography at
six_left = refl

given_again : inserted_label Before (at (1 ∷ 3 ∷ [])) (delete (at (1 ∷ 1 ∷ [])) bib) ≡ at (1 ∷ 1 ∷ [])
unfolding bib bibliography at
given_again = refl

-- the whole replaced: the root's label stays
one_left : labels (replace (at (1 ∷ [])) x bib) ≡ at (1 ∷ []) ∷ []
unfolding bib bibliography at x
one_left = refl

-- ---- refusals

no_child_of_a_text : insert_refusal First (at (1 ∷ 1 ∷ 1 ∷ 1 ∷ [])) again bib ≡ Some Leaf
unfolding bib bibliography at again
no_child_of_a_text = refl

no_text_on_top : insert_refusal Before (at (1 ∷ [])) again bib ≡ Some Top
unfolding bib bibliography at again
no_text_on_top = refl

no_text_instead : replace_refusal (at (1 ∷ [])) again bib ≡ Some Top
unfolding bib bibliography at again
no_text_instead = refl

nobody_there : delete_refusal (at (1 ∷ 5 ∷ [])) bib ≡ Some Absent
unfolding bib bibliography at
nobody_there = refl

a_text_beside_a_text : insert_refusal After (at (1 ∷ 1 ∷ 1 ∷ 1 ∷ [])) again bib ≡ None
unfolding bib bibliography at again
a_text_beside_a_text = refl
