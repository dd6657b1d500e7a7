-- The counts of some words, as entries.
use Rattle.std.specs.Prelude.{ℕ, ◌+◌, ◌-◌, ◌^◌, ◌≡◌, min, List, [], ◌∷◌, Option, Some, None, flat_map, map, if◌then◌else◌, nat_lt, ⊤}
use Rattle.byteorder.specs.Endian.{big_bytes}
use Rattle.mm_host.specs.declared.damage.Fault.{Fault}
use Rattle.mm_host.specs.declared.damage.Fault.TheVariants as fault
use Rattle.mm_label.specs.Fronts.{Within}
use Rattle.mm_keeper.specs.Entries.{Entries, Entry, lookup}
use Rattle.mm_image.specs.Content.{count_in}
use Rattle.mm_image.specs.Keys.{count_key}
use Rattle.mm_edit.specs.Blame.{Blames}
use Rattle.mm_edit.specs.declared.changing.WordChange.{WordChange}

-- the entry of a word's count, where it isn't 0
abbrev pub count_entry : List ℕ → ℕ → Entries
count_entry w n = if nat_lt 0 n then (count_key w, big_bytes 8 n) ∷ [] else []

abbrev pub counts_at : (List ℕ → ℕ) → List (List ℕ) → Entries
counts_at number ws = flat_map (λ w. count_entry w (number w)) ws

-- ---- what a map tells

-- the number in a count's value: 0 without one, and none where it isn't eight bytes
abbrev pub number_in : Option (List ℕ) → Option ℕ
number_in None = Some 0
number_in (Some v) = count_in v

-- the number at a word's count
abbrev pub number_held : Entries → List ℕ → Option ℕ
number_held m w = number_in (lookup m (count_key w))

abbrev pub or_zero : Option ℕ → ℕ
or_zero None = 0
or_zero (Some n) = n

abbrev pub held : Entries → List ℕ → ℕ
held m w = or_zero (number_held m w)

-- a count without the nodes that leave and with those that come, as far as eight bytes go
abbrev pub number_after : ℕ → WordChange → ℕ
number_after n t = min (n - t.taken + t.given) (2 ^ 64 - 1)

-- the counts of these words, and what the change leaves of them
abbrev pub counts_held : Entries → List WordChange → Entries
counts_held m ts = flat_map (λ t. count_entry t.word (held m t.word)) ts

abbrev pub counts_left : Entries → List WordChange → Entries
counts_left m ts = flat_map (λ t. count_entry t.word (number_after (held m t.word) t)) ts

-- each of these words' counts tells its number
abbrev pub AreTold : Entries → List WordChange → Type 0
AreTold m ts = map (λ t. number_held m t.word) ts ≡ map (λ t. Some (held m t.word)) ts

-- it is no damage
abbrev pub IsUndamaged : Fault → Type 0
IsUndamaged f = Blames (λ key. ⊥) f

-- an entry tells the number in its value
abbrev pub TellsNumber : Option Entry → ℕ → Type 0
TellsNumber None n = ⊥
TellsNumber (Some e) n = count_in e.1 ≡ Some n

-- damage names the key of an entry whose value tells no number
abbrev pub BlamesNumber : Option Entry → Fault → Type 0
BlamesNumber None f = Blames (λ key. ⊥) f
BlamesNumber (Some e) f = Blames (λ key. (key ≡ e.0) × (count_in e.1 ≡ None)) f

-- damage names a word's count, which tells no number
abbrev pub BlamesCount : Entries → List ℕ → Fault → Type 0
BlamesCount m w f = Blames (λ key. (key ≡ count_key w) × (number_held m w ≡ None)) f

abbrev pub BlamesCounts : Entries → List WordChange → Fault → Type 0
BlamesCounts m ts f = Blames (λ key. (t : WordChange) × Within t ts × (key ≡ count_key t.word) × (number_held m t.word ≡ None)) f

-- want of memory, or damage
abbrev pub IsOwn : Fault → Type 0
IsOwn (fault.Damaged d) = ⊤
IsOwn fault.DiskFault = ⊥
IsOwn fault.Spent = ⊥
IsOwn fault.Memory = ⊤
