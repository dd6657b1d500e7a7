-- What the parts of a check answer: how they go on, and what they name.
use Rattle.std.specs.Prelude.{ℕ, ℤ, length, map, ◌≡◌, ⊤, true, false, List, [], ◌∷◌, drop, Option, Some, None, Result, Ok, Err}
use Rattle.mm_host.specs.declared.damage.Fault.{Fault}
use Rattle.mm_host.specs.declared.damage.Fault.TheVariants as fault
use Rattle.byteorder.specs.Endian.{big_bytes}
use Rattle.mm_keeper.specs.Entries.{Entries, Entry, below, rank}
use Rattle.mm_image.specs.Keys.{count_key, occurrence_key}
use Rattle.mm_image.specs.Subtrees.{IsUndamaged}
use Rattle.mm_check.specs.Blame.{blame}
use Rattle.mm_check.specs.declared.stop.Stop.{Stop}
use Rattle.mm_check.specs.declared.stop.Stop.TheVariants as stop
use Rattle.mm_check.specs.declared.verdict.Named.{Named}
use Rattle.mm_check.specs.declared.verdict.Verdict.TheVariants.{Sound}
use Rattle.mm_check.specs.Reading.{not_due}
use Rattle.mm_check.specs.Verdicts.{Judges}

-- this is named; or the keeper gave up, and not for damage
abbrev pub Tells : Option Named → Stop → Type 0
Tells all (stop.Named n) = all ≡ Some n
Tells all (stop.Fault f) = IsUndamaged f

-- what is named in all is what is named in the rest, or it is told
abbrev pub GoesOn : {A : Type 0} → Option Named → (A → Option Named) → Result A Stop → Type 0
GoesOn all rest (Ok x) = all ≡ rest x
GoesOn all rest (Err s) = Tells all s

-- nothing but want of memory kept it from telling
abbrev pub WantsAlone : Stop → Type 0
WantsAlone (stop.Named n) = ⊤
WantsAlone (stop.Fault f) = f ≡ fault.Memory

-- the keeper's fault, where it gave up
abbrev pub fault_in : {A : Type 0} → Result A Stop → Option Fault
fault_in (Ok x) = None
fault_in (Err (stop.Named n)) = None
fault_in (Err (stop.Fault f)) = Some f

-- the entries from a place on
abbrev pub from : Entries → Option ℕ → Entries
from m None = []
from m (Some i) = drop i m

-- the occurrences of a word and the nodes that hold it
abbrev pub listed : List ℕ × List (List ℤ) → Entries
listed p = map (λ label. (occurrence_key p.0 label, [])) p.1

-- the count of a word and the nodes that hold it
abbrev pub counted_list : List ℕ × List (List ℤ) → Entry
counted_list p = (count_key p.0, big_bytes 8 (length p.1))

-- the key does not stand before 01; or it does, and the entry is named
abbrev pub NamesBefore : {A : Type 0} → Entry → Result A Stop → Type 0
NamesBefore e (Ok x) = below e.0 (1 ∷ []) ≡ false
NamesBefore e (Err (stop.Named n)) = (below e.0 (1 ∷ []) ≡ true) × (n ≡ not_due e)
NamesBefore e (Err (stop.Fault f)) = IsUndamaged f

-- no key of the map stands before 01; or the first one does, and its entry is named
abbrev pub Fronts : {A : Type 0} → Entries → Result A Stop → Type 0
Fronts m (Ok x) = rank m (1 ∷ []) ≡ 0
Fronts m (Err (stop.Named n)) = (e : Entry) × (rest : Entries) × (m ≡ e ∷ rest) × (below e.0 (1 ∷ []) ≡ true) × (n ≡ not_due e)
Fronts m (Err (stop.Fault f)) = IsUndamaged f

-- the map is the image of a well-formed forest of so many nodes; or this is named in it
abbrev pub Decides : Entries → Result ℕ Stop → Type 0
Decides m (Ok count) = Judges m (Sound count)
Decides m (Err s) = Tells (blame m) s
