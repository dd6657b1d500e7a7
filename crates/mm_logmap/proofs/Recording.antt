-- From record to record of a log.
use Rattle.std.proofs.Common.{◌≡◌, ◌≤◌, ◌<◌, ◌+◌, ℕ, List, ◌∷◌, length, drop, ap, sym, ◌∙◌, slice_index_or}
use Rattle.std.proofs.lemmas.List.{drop_all, at_drop_more}
use Rattle.mm_keeper.specs.Entries.{Entries}
use Rattle.mm_journal.specs.Records.{and_then}
use Rattle.mm_journal.specs.Records.Read.{Whole}
use Rattle.mm_host.specs.declared.damage.Damage.{Damage}
use Rattle.mm_host.specs.declared.damage.Fault.{Fault}
use Rattle.mm_host.specs.declared.damage.Fault.TheVariants as fault
use Rattle.mm_journal.specs.Settled.{MayAnswer}
use Rattle.mm_journal.specs.declared.payload.Payload.{Payload}
use Rattle.mm_logmap.specs.Batches.{batch}
use Rattle.mm_logmap.specs.Log.{batches}

pub batches-next : (ps : List Payload) (i : ℕ) (p : Payload) (map : Entries) → i < length ps → p ≡ slice_index_or ps i p
    → batches (drop i ps) map ≡ and_then (batch (p.at + 10) p.bytes map) (batches (drop (i + 1) ps))
unfolding batches
batches-next ps i p map h e = at_drop_more (λ l. batches l map) ps i p h ∙ ap (λ q. batches (q ∷ drop (i + 1) ps) map) (sym e)

pub batches-end : (ps : List Payload) (i : ℕ) (map : Entries) → length ps ≤ i → batches (drop i ps) map ≡ Whole map
unfolding batches
batches-end ps i map h = ap (λ l. batches l map) (drop_all i ps h)

-- what holds of each damage that is answered
pub answers-on : (P Q : Damage → Type 0) (f : Fault) → ((d : Damage) → P d → Q d) → MayAnswer ⊥ P f → MayAnswer ⊥ Q f
answers-on P Q fault.DiskFault on h = h
answers-on P Q (fault.Damaged d) on h = on d h
answers-on P Q fault.Memory on h = h
answers-on P Q fault.Spent on h = h
