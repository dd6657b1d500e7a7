-- Which bytes are which command line.
use Rattle.std.specs.Prelude.{ℕ, Bool, if◌then◌else◌, ◌==◌, ◌&&◌, not, nat_le, List, [], ◌∷◌, ◌≡◌, length, codes, option_map, Result, Ok, Err, ⊤}
use Rattle.std.specs.declared.option.Option.{Option}
use Rattle.std.specs.declared.option.Option.TheVariants.{Some, None}
use Rattle.std.specs.List.{list_all, list_any, before_first, after_first}
use Rattle.std.specs.Str.{bytes_eq, is_utf8}
use Rattle.std.specs.Io.BufRead.{strip_last}
use Rattle.mm_tree.specs.declared.forest.place.Place.{Place}
use Rattle.mm_tree.specs.declared.forest.place.Place.TheVariants.{Before, After, First, Last}
use Rattle.mm_command.specs.declared.line.Find.TheVariants.{Slca, Elca, Maxmatch, MaxmatchElca}
use Rattle.mm_command.specs.declared.line.Line.{Line}
use Rattle.mm_command.specs.declared.line.Line.TheVariants.{Blank, Load, Insert, Delete, Replace, Search, Show, Check, Quit}
use Rattle.mm_command.specs.declared.line.LineError.{LineError}
use Rattle.mm_command.specs.declared.line.LineError.TheVariants.{NotACommand, Memory}

-- how many bytes a line has at most, without its end
abbrev pub line_limit : ℕ
line_limit = 65536

abbrev pub is_space : ℕ → Bool
is_space b = b == 32

-- no byte of a control character: one from 32 on that isn't 127
abbrev pub is_printable : ℕ → Bool
is_printable b = nat_le 32 b && not (b == 127)

-- a text without the spaces in front of it
abbrev pub after_spaces : List ℕ → List ℕ
after_spaces [] = []
after_spaces (b ∷ text) = if is_space b then after_spaces text else b ∷ text

-- a byte before a text, unless it is a space before nothing
abbrev pub onto_unless_space : ℕ → List ℕ → List ℕ
onto_unless_space b [] = if is_space b then [] else b ∷ []
onto_unless_space b (c ∷ text) = b ∷ c ∷ text

-- a text without the spaces at its end
abbrev pub before_spaces : List ℕ → List ℕ
before_spaces [] = []
before_spaces (b ∷ text) = onto_unless_space b (before_spaces text)

-- the first word of a text, and what stands behind it and the spaces there
abbrev pub first_word : List ℕ → List ℕ
first_word text = before_first is_space text

abbrev pub behind : List ℕ → List ℕ
behind text = after_spaces (after_first is_space text)

-- the text, where it is one word
abbrev pub one_word : List ℕ → Option (List ℕ)
one_word [] = None
one_word (b ∷ text) = if list_any is_space (b ∷ text) then None else Some (b ∷ text)

-- a line of nothing but its first word
abbrev pub alone : Line → List ℕ → Option Line
alone line [] = Some line
alone line (b ∷ rest) = None

abbrev pub place_of : List ℕ → Option Place
place_of word =
    if bytes_eq word (codes "before") then Some Before
    else if bytes_eq word (codes "after") then Some After
    else if bytes_eq word (codes "first") then Some First
    else if bytes_eq word (codes "last") then Some Last
    else None

-- the word of a place, and a label
abbrev pub insert_at : Option Place → List ℕ → Option Line
insert_at None label = None
insert_at (Some place) label = option_map (Insert place) (one_word label)

abbrev pub insert_line : List ℕ → Option Line
insert_line rest = insert_at (place_of (first_word rest)) (behind rest)

-- what is asked for by a first word and what stands behind it
abbrev pub line_by : List ℕ → List ℕ → Option Line
line_by word rest =
    if bytes_eq word [] then alone Blank rest
    else if bytes_eq word (codes "load") then alone Load rest
    else if bytes_eq word (codes "insert") then insert_line rest
    else if bytes_eq word (codes "delete") then option_map Delete (one_word rest)
    else if bytes_eq word (codes "replace") then option_map Replace (one_word rest)
    else if bytes_eq word (codes "slca") then Some (Search Slca rest)
    else if bytes_eq word (codes "elca") then Some (Search Elca rest)
    else if bytes_eq word (codes "maxmatch") then Some (Search Maxmatch rest)
    else if bytes_eq word (codes "maxmatch-elca") then Some (Search MaxmatchElca rest)
    else if bytes_eq word (codes "show") then option_map Show (one_word rest)
    else if bytes_eq word (codes "check") then alone Check rest
    else if bytes_eq word (codes "quit") then alone Quit rest
    else None

-- words parted by one or more spaces, perhaps with spaces at both ends
abbrev pub line_of_text : List ℕ → Option Line
line_of_text text = line_by (first_word (before_spaces (after_spaces text))) (behind (before_spaces (after_spaces text)))

-- UTF-8 without control characters, and no more bytes than the limit
abbrev pub is_line_text : List ℕ → Bool
is_line_text text = nat_le (length text) line_limit && (list_all is_printable text && is_utf8 text)

-- What a line asks for, or None where it is in no form. It loses one carriage return (13) at its end.
unfoldable pub line_of : List ℕ → Option Line
line_of line = let text = strip_last 13 line in if is_line_text text then line_of_text text else None

-- what was asked for, or that nothing was, unless memory ran out
abbrev pub Gives : {A : Type 0} → Result A LineError → Option A → Type 0
Gives (Ok a) asked = asked ≡ Some a
Gives (Err NotACommand) asked = asked ≡ None
Gives (Err Memory) asked = ⊤
