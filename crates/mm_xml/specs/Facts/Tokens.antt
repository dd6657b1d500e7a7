-- The characters of tokens.
use Rattle.std.proofs.Common.{◌≡◌, refl, ℕ, List, [], ◌∷◌}
use Rattle.mm_xml.specs.Syntax.{Literal, Reference, Token, Data, Section, Comment, Instruction, Start, Close, Doctype, spelled}

-- the first character of a token
pub first : (t : Token) → (b : ℕ) × (cs : List ℕ) × (spelled t ≡ b ∷ cs)
first (Data (Literal c)) = (c, [], refl)
first (Data (Reference body)) = (38, _, refl)
first (Section cs) = (60, _, refl)
first (Comment cs) = (60, _, refl)
first (Instruction name cs) = (60, _, refl)
first (Start empty name attributes gap) = (60, _, refl)
first (Close name gap) = (60, _, refl)
first (Doctype gap name ext after) = (60, _, refl)
