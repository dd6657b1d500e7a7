-- The image of <a>b</a>, whose root has the label 1: six entries, which weigh 54 bytes.
use Rattle.std.specs.Prelude.{pos, [], ◌∷◌, ◌++◌, ◌≡◌, refl}
use Rattle.mm_tree.specs.declared.plain.Kind.TheVariants.{Element, Words}
use Rattle.mm_tree.specs.Trees.{Trees, none, node}
use Rattle.mm_tree.specs.Numbering.{Labelled}
use Rattle.mm_tree.specs.Search.{Worded}
use Rattle.mm_keeper.specs.Entries.{weight_of}
use Rattle.mm_image.specs.Image.{chunks, occurrences, counts}

small : Trees Labelled
small =
    node (record { label = pos 1 ∷ []; kind = Element (97 ∷ []) [] })
    (node (record { label = pos 1 ∷ pos 1 ∷ []; kind = Words (98 ∷ []) }) none none)
    none

-- the same nodes with their words
its_words : Trees Worded
its_words =
    node (record { label = pos 1 ∷ []; words = (97 ∷ []) ∷ [] })
    (node (record { label = pos 1 ∷ pos 1 ∷ []; words = (98 ∷ []) ∷ [] }) none none)
    none

its_chunks : chunks small
    ≡ (1 ∷ 129 ∷ 0 ∷ 0 ∷ 0 ∷ 0 ∷ 0 ∷ [], 69 ∷ 0 ∷ 1 ∷ 97 ∷ 0 ∷ 0 ∷ 0 ∷ 0 ∷ [])
    ∷ (1 ∷ 129 ∷ 129 ∷ 0 ∷ 0 ∷ 0 ∷ 0 ∷ 0 ∷ [], 84 ∷ 98 ∷ [])
    ∷ []
unfolding small
its_chunks = refl

its_occurrences : occurrences its_words ≡ (2 ∷ 97 ∷ 0 ∷ 129 ∷ [], []) ∷ (2 ∷ 98 ∷ 0 ∷ 129 ∷ 129 ∷ [], []) ∷ []
unfolding its_words
its_occurrences = refl

its_counts : counts its_words
    ≡ (3 ∷ 97 ∷ [], 0 ∷ 0 ∷ 0 ∷ 0 ∷ 0 ∷ 0 ∷ 0 ∷ 1 ∷ [])
    ∷ (3 ∷ 98 ∷ [], 0 ∷ 0 ∷ 0 ∷ 0 ∷ 0 ∷ 0 ∷ 0 ∷ 1 ∷ [])
    ∷ []
unfolding its_words
its_counts = refl

its_weight : weight_of (chunks small ++ (occurrences its_words ++ counts its_words)) ≡ 54
unfolding small its_words
its_weight = refl
