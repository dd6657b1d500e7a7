-- Characters of data that are read in one passage.
use Rattle.std.specs.Prelude.{ℕ, List, length, Bool, ◌&&◌, not, ◌==◌, Some, None, if◌then◌else◌}
use Rattle.mm_xml.specs.Syntax.{is_literal}
use Rattle.mm_xml.specs.Grammar.{is_inside}
use Rattle.mm_xml.specs.Inside.Lexing.{◌>>=◌, Found, span}
use Rattle.mm_xml.specs.Inside.Telling.{Sign, Passage, sign_at}
use Rattle.mm_xml.specs.Inside.Machine.{Order, sign_may}

-- a character of data that stands for itself, whatever stands before it
abbrev pub is_ordinary : ℕ → Bool
is_ordinary c = is_literal c && (not (c == 62) && not (c == 93))

-- inside an element, the ordinary characters at the front as one passage, and else what stands there
abbrev pub passage_at : Bool → List ℕ → Found Sign
passage_at inside cs =
    if inside && not (length (span is_ordinary cs).0 == 0) then Some (Passage (span is_ordinary cs).0, (span is_ordinary cs).1) else sign_at cs

-- what stands at the front, where it may stand there
abbrev pub allowed_at : Order → List ℕ → Found Sign
allowed_at order cs = passage_at (is_inside order.depth) cs >>= λ x. if sign_may order x.0 then Some x else None
