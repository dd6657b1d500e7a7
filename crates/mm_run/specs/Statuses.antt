-- What each status comes to.
use Rattle.std.specs.Prelude.{◌≡◌, ◌⊎◌, ℕ, List, [], ◌∷◌, ◌++◌, Result, Ok, Err, codes}
use Rattle.mm_host.specs.Causes.{next_count}
use Rattle.mm_run.specs.declared.status.Status.{Status}
use Rattle.mm_run.specs.declared.status.Status.TheVariants as status

-- the line of a fault
unfoldable pub fault_line : Status → List ℕ
fault_line status.Ok = []
fault_line status.Usage = codes "fault 1 usage" ++ 10 ∷ []
fault_line status.SourceFault = codes "fault 2 source" ++ 10 ∷ []
fault_line status.SinkFault = []
fault_line status.DiskFault = codes "fault 4 disk" ++ 10 ∷ []
fault_line (status.Damaged damage) = codes "fault 5 damaged" ++ 10 ∷ []
fault_line status.Memory = codes "fault 6 memory" ++ 10 ∷ []
fault_line status.TooMuchInput = codes "fault 8 input" ++ 10 ∷ []

-- the number that a run ends with
abbrev pub number_of : Status → ℕ
number_of status.Ok = 0
number_of status.Usage = 1
number_of status.SourceFault = 2
number_of status.SinkFault = 3
number_of status.DiskFault = 4
number_of (status.Damaged damage) = 5
number_of status.Memory = 6
number_of status.TooMuchInput = 8

-- the status of an end, and Ok before it
abbrev pub status_of : {T : Type 0} → Result T Status → Status
status_of (Ok x) = status.Ok
status_of (Err s) = s

-- how often the source has failed after a run that ends so, of how often before
abbrev pub source_faults_after : Status → ℕ → ℕ
source_faults_after status.SourceFault n = next_count n
source_faults_after s n = n

-- how often the sink has failed before the line of the fault
abbrev pub sink_faults_after : Status → ℕ → ℕ
sink_faults_after status.SinkFault n = next_count n
sink_faults_after s n = n

-- With a line of a fault the sink may have failed at that line, and there alone.
abbrev pub HasSinkFaults : Status → (before now : ℕ) → Type 0
HasSinkFaults status.Ok before now = now ≡ before
HasSinkFaults status.SinkFault before now = now ≡ next_count before
HasSinkFaults s before now = (now ≡ before) ⊎ (now ≡ next_count before)
