-- What the lines of a payload come to.
use Rattle.std.specs.Prelude.{ℕ, Bool, ◌^◌, if◌then◌else◌, ◌==◌, nat_le, List, [], ◌∷◌, ◌++◌, length, map, codes}
use Rattle.std.specs.List.{flat_map, join_with_byte}
use Rattle.std.specs.Str.{bytes_eq}
use Rattle.std.specs.Io.BufRead.{strip_last}
use Rattle.mm_run.specs.declared.command.Payload.{Payload}
use Rattle.mm_run.specs.declared.command.Payload.TheVariants.{Whole, Long}

-- how many bytes a payload has at most
abbrev pub payload_limit : ℕ
payload_limit = 2 ^ 24

-- The line that ends a payload: a full stop, and perhaps a carriage return (13).
unfoldable pub closes : List ℕ → Bool
closes line = bytes_eq (strip_last 13 line) (codes ".")

-- a line without one full stop (46) in front
abbrev pub unstopped : List ℕ → List ℕ
unstopped [] = []
unstopped (b ∷ line) = if b == 46 then line else b ∷ line

-- the lines between a command and the line that ends its payload, joined by line feeds
abbrev pub joined : List (List ℕ) → List ℕ
joined rows = join_with_byte 10 (map unstopped rows)

-- the same lines, each with a line feed behind it
abbrev pub ended_rows : List (List ℕ) → List ℕ
ended_rows rows = flat_map (λ row. unstopped row ++ 10 ∷ []) rows

abbrev pub payload_of : List (List ℕ) → Payload
payload_of rows = if nat_le (length (joined rows)) payload_limit then Whole (joined rows) else Long
