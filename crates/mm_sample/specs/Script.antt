-- The commands of a sample script. Each is a text that ends with a line feed (10); x is the generator's number before it.
use Rattle.std.specs.Prelude.{ℕ, zero, suc, ◌+◌, ◌*◌, ◌==◌, if◌then◌else◌, List, [], ◌∷◌, ◌++◌, codes}
use Rattle.std.specs.List.{concat}
use Rattle.std.specs.Fmt.{decimal}
use Rattle.mm_sample.specs.Draws.{after, draw}
use Rattle.mm_sample.specs.declared.commands.Change.{Change}
use Rattle.mm_sample.specs.declared.commands.Change.TheVariants.{InsertAfter, Delete, Replace, InsertFirst}

-- the word of the n-th draw: `w` and a number below 64
abbrev pub word : ℕ → ℕ → List ℕ
word x n = 119 ∷ decimal (draw x n 64)

-- ---- loads

-- a title of one word, and a paragraph of three
unfoldable pub section : ℕ → List ℕ
section x = codes "<sec><t>" ++ (word x 1 ++ (codes "</t><p>" ++ (word x 2 ++ 32 ∷ (word x 3 ++ 32 ∷ (word x 4 ++ codes "</p></sec>")))))

-- so many sections, each from four draws
unfoldable pub sections : ℕ → ℕ → List ℕ
sections zero x = []
sections (suc n) x = section x ++ sections n (after 4 x)

-- the load of the document with the number i
unfoldable pub load : ℕ → ℕ → List ℕ
load i x = codes "load\n<doc id=\"d" ++ (decimal i ++ (codes "\">" ++ (sections 8 x ++ codes "</doc>\n.\n")))

-- the loads of so many documents, numbered from i on, each from 32 draws
unfoldable pub loads : ℕ → ℕ → ℕ → List (List ℕ)
loads zero i x = []
loads (suc n) i x = load i x ∷ loads n (i + 1) (after 32 x)

-- ---- rounds: an edit, and a search

-- the edit that a number below 4 chooses
abbrev pub change_of : ℕ → Change
change_of n = if n == 0 then InsertAfter else (if n == 1 then Delete else (if n == 2 then Replace else InsertFirst))

-- how many words an edit draws
abbrev pub words_of : Change → ℕ
words_of InsertAfter = 1
words_of Delete = 0
words_of Replace = 2
words_of InsertFirst = 1

-- the edit at a target; its words are drawn
abbrev pub edit : Change → List ℕ → ℕ → List ℕ
edit InsertAfter target x = codes "insert after " ++ (target ++ (codes "\n<sec><t>" ++ (word x 1 ++ codes "</t></sec>\n.\n")))
edit Delete target x = codes "delete " ++ (target ++ codes "\n")
edit Replace target x = codes "replace " ++ (target ++ (codes "\n<sec><p>" ++ (word x 1 ++ 32 ∷ (word x 2 ++ codes "</p></sec>\n.\n"))))
edit InsertFirst target x = codes "insert first " ++ (target ++ (codes "\n<n>" ++ (word x 1 ++ codes "</n>\n.\n")))

-- a section of a document, as they were loaded: the label of two odd components
abbrev pub target : ℕ → ℕ → List ℕ
target document section = decimal (2 * document + 1) ++ 46 ∷ decimal (2 * section + 1)

-- which edit, in which document and section: three draws, and then the words
unfoldable pub change : ℕ → List ℕ
change x = edit (change_of (draw x 1 4)) (target (draw x 2 200) (draw x 3 8)) (after 3 x)

unfoldable pub change_end : ℕ → ℕ
change_end x = after (words_of (change_of (draw x 1 4))) (after 3 x)

-- the search that a number below 4 chooses
abbrev pub search_name : ℕ → List ℕ
search_name n = if n == 0 then codes "slca" else (if n == 1 then codes "elca" else (if n == 2 then codes "maxmatch" else codes "maxmatch-elca"))

-- which search, and two words
unfoldable pub search_line : ℕ → List ℕ
search_line x = search_name (draw x 1 4) ++ 32 ∷ (word x 2 ++ 32 ∷ (word x 3 ++ 10 ∷ []))

-- so many rounds
unfoldable pub rounds : ℕ → ℕ → List (List ℕ)
rounds zero x = []
rounds (suc n) x = change x ∷ search_line (change_end x) ∷ rounds n (after 3 (change_end x))

-- ---- the whole

abbrev pub commands : ℕ → List (List ℕ)
commands seed = loads 200 0 seed ++ (rounds 300 (after 6400 seed) ++ codes "check\n" ∷ [])

unfoldable pub script_text : ℕ → List ℕ
script_text seed = concat (commands seed)
