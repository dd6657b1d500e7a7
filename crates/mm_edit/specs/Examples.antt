-- The difference of two small maps: one key goes, one value changes, one key comes, and one entry stays.
use Rattle.std.specs.Prelude.{[], ◌∷◌, ◌≡◌, refl}
use Rattle.mm_keeper.specs.Entries.{Entries}
use Rattle.mm_edit.specs.Difference.{carried_out, changed, gone, keys}

before : Entries
before = (1 ∷ [], 10 ∷ []) ∷ (2 ∷ [], 20 ∷ []) ∷ (3 ∷ [], 30 ∷ []) ∷ []

after : Entries
after = (2 ∷ [], 21 ∷ []) ∷ (3 ∷ [], 30 ∷ []) ∷ (4 ∷ [], 40 ∷ []) ∷ []

its_removes : keys (gone before after) ≡ (1 ∷ []) ∷ []
unfolding before after
its_removes = refl

its_puts : changed before after ≡ (2 ∷ [], 21 ∷ []) ∷ (4 ∷ [], 40 ∷ []) ∷ []
unfolding before after
its_puts = refl

it_leads : carried_out (keys (gone before after)) (changed before after) before ≡ after
unfolding before after
it_leads = refl
