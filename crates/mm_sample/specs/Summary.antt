-- The text of a summary: eight lines, each of a name and a number in decimal, and last the digest in hexadecimal.
use Rattle.std.specs.Prelude.{ℕ, List, [], ◌∷◌, ◌++◌, codes}
use Rattle.std.specs.Fmt.{decimal}
use Rattle.hex.specs.Hex.{encode_lower}
use Rattle.mm_sample.specs.declared.summary.Summary.{Summary}

-- a line of a name and a value, and what follows it
abbrev pub line : List ℕ → List ℕ → List ℕ → List ℕ
line name value rest = name ++ 32 ∷ (value ++ 10 ∷ rest)

-- what was asked and how it was answered
abbrev pub asked_lines : ℕ → Summary → List ℕ
asked_lines seed s =
    line (codes "sample") (decimal seed)
    (line (codes "commands") (decimal s.commands)
    (line (codes "accepted") (decimal s.accepted)
    (line (codes "refused") (decimal s.refused) [])))

-- what was found and what is left, with the text of the digest
abbrev pub found_lines : Summary → List ℕ → List ℕ
found_lines s digest =
    line (codes "answers") (decimal s.answers)
    (line (codes "nodes") (decimal s.nodes)
    (line (codes "weight") (decimal s.weight)
    (line (codes "sha256") digest [])))

unfoldable pub summary_text : ℕ → Summary → List ℕ
summary_text seed s = asked_lines seed s ++ found_lines s (encode_lower s.digest)
