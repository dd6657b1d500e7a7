-- The canonical text of a label.
use Rattle.std.specs.Prelude.{ℕ, ℤ, List, ◌∷◌, ◌≡◌, map}
use Rattle.std.specs.List.{join_with_byte}
use Rattle.std.specs.Fmt.{signed_decimal}
use Rattle.mm_label.specs.Label.{IsLabel}

-- the components in decimal, joined by full stops
abbrev pub text_of : List ℤ → List ℕ
text_of cs = join_with_byte 46 (map signed_decimal cs)

-- a full stop and the component
abbrev pub dotted : ℤ → List ℕ
dotted c = 46 ∷ signed_decimal c

-- no label has this text
abbrev pub IsNoLabelText : List ℕ → Type 0
IsNoLabelText text = (cs : List ℤ) → IsLabel cs → text_of cs ≡ text → ⊥
