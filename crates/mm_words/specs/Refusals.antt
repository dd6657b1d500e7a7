-- Why words are no query.
use Rattle.std.specs.Prelude.{ℕ, ◌≡◌, refl, Bool, nat_lt, List, [], ◌∷◌, length, find, Option, Some, None, option_map, if◌then◌else◌, ⊤, codes}
use Rattle.mm_words.specs.Words.{query_limit, word_limit}
use Rattle.mm_words.specs.declared.error.QueryError.{QueryError}
use Rattle.mm_words.specs.declared.error.QueryError.TheVariants as error

-- more bytes than a word has
abbrev pub is_long : List ℕ → Bool
is_long w = nat_lt word_limit (length w)

-- the length of the first that is too long
abbrev pub first_long : List (List ℕ) → Option ℕ
first_long ws = option_map (λ w. length w) (find is_long ws)

-- why these distinct words are no query: there is none, or there are too many, or one is too long
abbrev pub query_refusal : List (List ℕ) → Option QueryError
query_refusal [] = Some error.NoWords
query_refusal (w ∷ ws) =
    if nat_lt query_limit (length (w ∷ ws)) then Some (error.TooMany (length (w ∷ ws)))
    else option_map error.TooLong (first_long (w ∷ ws))

-- an error is this refusal, or says that memory ran out
abbrev pub IsRefusal : QueryError → Option QueryError → Type 0
IsRefusal error.Memory refusal = ⊤
IsRefusal error.NoWords refusal = refusal ≡ Some error.NoWords
IsRefusal (error.TooMany found) refusal = refusal ≡ Some (error.TooMany found)
IsRefusal (error.TooLong bytes) refusal = refusal ≡ Some (error.TooLong bytes)

nothing : query_refusal [] ≡ Some error.NoWords
nothing = refl

two_words : query_refusal (codes "search" ∷ codes "liu" ∷ []) ≡ None
two_words = refl
