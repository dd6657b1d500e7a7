use Rattle.mm_edit_tests.proofs.Room.{room_stays}
use Rattle.mm_edit_tests.proofs.edits.insert.Goals as goal

pub carried-requires-clause-room : goal.carried-requires-clause-room
carried-requires-clause-room g c = λ maps.
    let ground = c.plan_insert-planned.ensures.ground in
    let old = ground.maps.1 maps in
    room_stays _ _ _ (ground.same old) (c.plan_insert-planned.ensures.room old)
