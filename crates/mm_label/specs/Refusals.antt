-- When the calls refuse. Want of memory has no cause that a clause names.
use Rattle.std.specs.Prelude.{ℕ, ℤ, ◌≡◌, ◌<◌, length, List, [], Option, Some, None}
use Rattle.mm_label.specs.Bytes.{bytes_of}
use Rattle.mm_label.specs.Label.{label_limit}
use Rattle.mm_label.specs.Between.{first_out}
use Rattle.mm_label.specs.Text.{IsNoLabelText}
use Rattle.mm_label.specs.declared.error.LabelError.{LabelError}
use Rattle.mm_label.specs.declared.error.LabelError.TheVariants.{NotALabel, OutOfRange, Full, Memory}

-- this number is the segment's first that is out of range
abbrev pub RefusesSegment : LabelError → List ℤ → Type 0
RefusesSegment NotALabel segment = ⊥
RefusesSegment (OutOfRange value) segment = first_out segment ≡ Some value
RefusesSegment (Full n) segment = ⊥
RefusesSegment Memory segment = Unit {0}

-- the bytes would be so many, more than the limit
abbrev pub RefusesLabel : LabelError → List ℤ → Type 0
RefusesLabel NotALabel label = ⊥
RefusesLabel (OutOfRange value) label = ⊥
RefusesLabel (Full n) label = (label_limit < n) × (n ≡ length (bytes_of label))
RefusesLabel Memory label = Unit {0}

-- no label has this text
abbrev pub RefusesText : LabelError → List ℕ → Type 0
RefusesText NotALabel text = IsNoLabelText text
RefusesText (OutOfRange value) text = ⊥
RefusesText (Full n) text = ⊥
RefusesText Memory text = Unit {0}

-- the parent's components, or none
abbrev pub front_of : Option (List ℤ) → List ℤ
front_of None = []
front_of (Some parent) = parent
