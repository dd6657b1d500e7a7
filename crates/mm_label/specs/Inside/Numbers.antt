-- What a text can stand for.
use Rattle.std.specs.Prelude.{ℕ, ℤ, List, ◌≡◌, IsTrue, Option, Some, None, map}
use Rattle.std.specs.Fmt.{signed_decimal}
use Rattle.mm_label.specs.Label.{IsLabel, is_in_range, all_in_range}
use Rattle.mm_label.specs.Text.{text_of, IsNoLabelText}

-- this component alone can have the text in decimal, or none can
abbrev pub IsOnlyNumber : Option ℤ → List ℕ → Type 0
IsOnlyNumber None text = (c : ℤ) → IsTrue (is_in_range c) → signed_decimal c ≡ text → ⊥
IsOnlyNumber (Some n) text = IsTrue (is_in_range n) × ((c : ℤ) → IsTrue (is_in_range c) → signed_decimal c ≡ text → c ≡ n)

-- these components alone can have the texts in decimal, or none can
abbrev pub AreOnlyNumbers : Option (List ℤ) → List (List ℕ) → Type 0
AreOnlyNumbers None texts = (cs : List ℤ) → IsTrue (all_in_range cs) → map signed_decimal cs ≡ texts → ⊥
AreOnlyNumbers (Some found) texts =
    IsTrue (all_in_range found) × ((cs : List ℤ) → IsTrue (all_in_range cs) → map signed_decimal cs ≡ texts → cs ≡ found)

-- a label that has the text has these components, or no label has it
abbrev pub IsOnlyReading : Option (List ℤ) → List ℕ → Type 0
IsOnlyReading None text = IsNoLabelText text
IsOnlyReading (Some found) text =
    IsTrue (all_in_range found) × ((cs : List ℤ) → IsLabel cs → text_of cs ≡ text → cs ≡ found)
