-- What holds of a journal between two calls.
use Rattle.std.proofs.Common.{◌≡◌, ◌≤◌, List, [], ◌∷◌, ℕ, length, ap, refl, ◌∙◌, arith}
use Rattle.mm_host.specs.Disk.{AreaState, IsImage}
use Rattle.mm_host.specs.Facts.Torn.{synced-image}
use Rattle.mm_journal.specs.Records.{records}
use Rattle.mm_journal.specs.Settled.{JournalState, IsAt, AreRecords, IsClosedAt}
use Rattle.mm_journal.specs.declared.payload.Payload.{Payload}

-- a crash leaves the records that are there
pub quiet-at : (j : JournalState) (a : AreaState) (c : List ℕ) → IsAt j a → IsImage a c → records c ≡ records a.now
quiet-at j a c q i = ap records (synced-image a c q.synced i)

pub no-records : (front : List ℕ) (ps : List Payload) → AreRecords 0 front ps → length front ≤ 0 → ps ≡ []
no-records front [] read none = refl
no-records front (p ∷ ps) (body, rest, e, b, read) none = absurd (omega (arith, none, ap length e))

-- A next gate at place 0 is that of a journal without records.
pub first-gate : (gate : ℕ) (journal : List ℕ) (ps : List Payload) → IsClosedAt gate journal ps → gate ≡ 0 → ps ≡ []
first-gate gate journal ps c e = no-records c.front ps c.read (omega (arith, e, c.place))

pub none-found : (gate : ℕ) (journal : List ℕ) (ps : List Payload) → IsClosedAt gate journal ps → ps ≡ [] → gate ≡ 0
none-found gate journal ps c e = none ps c.read e
  where
    none : (ps : List Payload) → AreRecords 0 c.front ps → ps ≡ [] → gate ≡ 0
    none [] read e = c.place ∙ ap length read
    none (p ∷ ps) read e = absurd cc
