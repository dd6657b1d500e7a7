-- A plan has room in whatever shows the same.
use Rattle.std.proofs.Common.{◌≡◌, subst, sym}
use Rattle.std.specs.Prelude.{Result, IfOk}
use Rattle.mm_keeper.specs.Keeping.{Seen}
use Rattle.mm_edit.specs.Plans.{HasRoomFor, Planned}
use Rattle.mm_edit.specs.declared.plan.EditError.{EditError}

pub room_stays : {S : Type 0} (old new : Seen S) (r : Result Planned EditError) → new ≡ old → IfOk r (λ p. HasRoomFor old.now p) → IfOk r (λ p. HasRoomFor new.now p)
room_stays {S} old new r e h = subst (λ (z : Seen S). IfOk r (λ p. HasRoomFor z.now p)) (sym e) h
