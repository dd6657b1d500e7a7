-- Worked rows: the marks of two documents, and which of them are kept. Bit 0 is the query's first word.
use Rattle.std.specs.Prelude.{ℕ, pos, List, [], ◌∷◌, ◌≡◌, refl}
use Rattle.mm_match.specs.declared.mark.Mark.{Mark}
use Rattle.mm_label.specs.Fronts.{Label}
use Rattle.mm_match.specs.Marks.{kept, mask_at}

label : List ℕ → Label
label [] = []
label (n ∷ ns) = pos n ∷ label ns

mark : List ℕ → ℕ → Mark
mark l mask = record { label = label l; mask = mask }

-- `bears gold pos` in a team of two players, of whom the second holds `pos` alone
first_player : List Mark
first_player =
    mark (1 ∷ []) 7 ∷ mark (1 ∷ 1 ∷ []) 1 ∷ mark (1 ∷ 1 ∷ 1 ∷ []) 1 ∷ mark (1 ∷ 3 ∷ []) 6 ∷ mark (1 ∷ 3 ∷ 1 ∷ []) 6
    ∷ mark (1 ∷ 3 ∷ 1 ∷ 1 ∷ []) 2 ∷ mark (1 ∷ 3 ∷ 1 ∷ 1 ∷ 1 ∷ []) 2 ∷ mark (1 ∷ 3 ∷ 1 ∷ 3 ∷ []) 4 ∷ []

second_player : List Mark
second_player = mark (1 ∷ 3 ∷ 3 ∷ []) 4 ∷ mark (1 ∷ 3 ∷ 3 ∷ 3 ∷ []) 4 ∷ []

both_players : List Mark
both_players =
    mark (1 ∷ []) 7 ∷ mark (1 ∷ 1 ∷ []) 1 ∷ mark (1 ∷ 1 ∷ 1 ∷ []) 1 ∷ mark (1 ∷ 3 ∷ []) 6 ∷ mark (1 ∷ 3 ∷ 1 ∷ []) 6
    ∷ mark (1 ∷ 3 ∷ 1 ∷ 1 ∷ []) 2 ∷ mark (1 ∷ 3 ∷ 1 ∷ 1 ∷ 1 ∷ []) 2 ∷ mark (1 ∷ 3 ∷ 1 ∷ 3 ∷ []) 4 ∷ second_player

second_is_pruned : kept both_players ≡ first_player
unfolding both_players first_player second_player mark label
second_is_pruned = refl

-- `bears pos` in a team of two guards: equal siblings both stay
two_guards : List Mark
two_guards =
    mark (1 ∷ []) 3 ∷ mark (1 ∷ 1 ∷ []) 1 ∷ mark (1 ∷ 1 ∷ 1 ∷ []) 1 ∷ mark (1 ∷ 3 ∷ []) 2 ∷ mark (1 ∷ 3 ∷ 1 ∷ []) 2
    ∷ mark (1 ∷ 5 ∷ []) 2 ∷ mark (1 ∷ 5 ∷ 1 ∷ []) 2 ∷ []

both_stay : kept two_guards ≡ two_guards
unfolding two_guards mark label
both_stay = refl

-- the matches of `bears gold pos` at or below the players, and their words
player_matches : List Mark
player_matches = mark (1 ∷ 3 ∷ 1 ∷ 1 ∷ 1 ∷ []) 2 ∷ mark (1 ∷ 3 ∷ 1 ∷ 3 ∷ []) 4 ∷ mark (1 ∷ 3 ∷ 3 ∷ 3 ∷ []) 4 ∷ []

words_of_players : mask_at (label (1 ∷ 3 ∷ [])) player_matches ≡ 6
unfolding player_matches mark label
words_of_players = refl

words_of_the_second : mask_at (label (1 ∷ 3 ∷ 3 ∷ [])) player_matches ≡ 4
unfolding player_matches mark label
words_of_the_second = refl
