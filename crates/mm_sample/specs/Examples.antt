-- What some small replies come to.
use Rattle.std.specs.Prelude.{List, ℕ, [], ◌∷◌, ◌≡◌, refl, codes}
use Rattle.std.specs.Str.Lines.{lines}
use Rattle.mm_sample.specs.Counts.{commands_in, accepted_in, refused_in, answers_in, nodes_in}

-- an edit, a refusal, a search with two hits, one with a fragment, and two checks
abbrev replies : List ℕ
replies = codes "ok 1 3\nno 3 absent\nhits 2\n1.1 book\n1.3.-1 ok\nfragments 1\nfragment 1 2\n1 book data\n1.1 #text data\nsound 3\nsound 12\n"

counted : commands_in (lines replies) ≡ 6
counted = refl

accepted : accepted_in (lines replies) ≡ 1
accepted = refl

refused : refused_in (lines replies) ≡ 1
refused = refl

answers : answers_in (lines replies) ≡ 3
answers = refl

-- the last check's, not the greatest or the sum
nodes : nodes_in (lines replies) ≡ 12
nodes = refl

-- no reply at all
none : nodes_in (lines []) ≡ 0
none = refl

-- a word that only begins with `ok` counts for nothing, and neither does a number in letters
others : accepted_in (codes "okay 1" ∷ []) ≡ 0
others = refl

letters : answers_in (codes "hits two" ∷ []) ≡ 0
letters = refl

-- the last line may lack its end
cut : commands_in (lines (codes "sound")) ≡ 1
cut = refl
