-- The nodes that hold every word outside the full nodes below them are candidates.
use Rattle.std.proofs.Common.{inl, inr, ◌≡◌, List, subst}
use Rattle.mm_label.specs.Fronts.{Label, Front}
use Rattle.mm_lists.specs.Full.{IsFull, IsCandidate}
use Rattle.mm_label.specs.Facts.Fronts.{front_refl, front_antisym, front_cases}
use Rattle.mm_elca.specs.Owning.{IsOwn}

pub elca_candidate : (ls : List (List Label)) (x v c : Label) → IsFull ls x → IsOwn ls x v → IsCandidate ls v c → c ≡ x
elca_candidate ls x v c f o k =
    let down = k.deepest x f o.0 in
    elim (front_cases c x) [
      | inl h ↦ front_antisym c x h down
      | inr h ↦ absurd (o.1 c k.full down (λ e. h (subst (Front c) e (front_refl c))) k.above)
    ]
