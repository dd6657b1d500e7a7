use Rattle.std.proofs.Common.{◌≡◌, ◌++◌, ap, subst, arith, Bool, Some, None}
use Rattle.std.specs.Prelude.{IfErr, if◌then◌else◌, ◌^◌, ◌<◌, ℕ}
use Rattle.mm_keeper.specs.Entries.{Entries, weight_of}
use Rattle.mm_tree.specs.declared.refusal.Refusal.TheVariants.{Full}
use Rattle.mm_tree.specs.Numbering.{Labelled, forest_of, node_of}
use Rattle.mm_tree.specs.Trees.{Trees, one}
use Rattle.mm_image.specs.Ground.{HoldsImage}
use Rattle.mm_image.specs.Image.{entries_of, image}
use Rattle.mm_image.specs.Keyed.{keyed}
use Rattle.mm_image.specs.Facts.Results.{on_ok}
use Rattle.mm_edit.specs.Difference.{IsDifference}
use Rattle.mm_edit.specs.Inside.Changes.{Becomes, changes}
use Rattle.mm_edit.specs.Inside.Counting.{BlamesCounts, counts_held, counts_left}
use Rattle.mm_edit.specs.Plans.{HasRoomFor, IsRefusedBy}
use Rattle.mm_edit.proofs.InHand.{Laws, Standing, fits, none_full, same_test, small_by_weight, stands, swap_difference, swap_room, swap_weighs, three_ok, unblamed, undamaged}
use Rattle.mm_edit.proofs.putting_in.plan_with.Given as given
use Rattle.mm_edit.proofs.putting_in.plan_with.Goals as goal

laws : (g : given.Over) (c : goal.After-plan_within g) → Laws
laws g c = record { lengths = c.values_tell.ensures.counts; apart = c.keys_are_apart.ensures; rise = c.images_rise.ensures; order = c.byte_order.ensures; ancestry = c.ancestry.ensures }

in_hand : (g : given.Over) (c : goal.After-plan_within g) (f h : Trees Labelled) → HoldsImage g.K.Keeper.has_maps g.K.Keeper.seen c.args.keeper.now f → Becomes f h (forest_of c.args.taken.now) (one (node_of c.args.given.now))
    → Standing (g.K.Keeper.seen c.args.keeper.now).now f h (forest_of c.args.taken.now) (one (node_of c.args.given.now)) (keyed c.in-Ok.parts.before) (keyed c.in-Ok.parts.after)
in_hand g c f h s becomes =
    stands (g.K.Keeper.seen c.args.keeper.now).now f h (forest_of c.args.taken.now) (forest_of c.from_ref.result.now) (one (node_of c.args.given.now)) (keyed c.in-Ok.parts.before) (keyed c.in-Ok.parts.after) c.weight-now.result
    (s.1, s.2) (c.weight-now.ensures s.0) c.weight-now.type_inv becomes (ap forest_of c.from_ref.ensures.value) (c.in-Ok.ensures.before s.0) (c.in-Ok.ensures.after s.0)

pub returns-in-Ok-clause-accepted : goal.returns-in-Ok-clause-accepted
returns-in-Ok-clause-accepted g c = λ f h s becomes.
    let w = swap_weighs (laws g c) (in_hand g c f h s becomes) in
    let now = c.weight-now.ensures s.0 in
    on_ok c.plan_within.result
    (λ l. none_full c.args.limit (weight_of (image h)) (fits c.args.limit (weight_of (image h)) (weight_of (keyed c.in-Ok.parts.before)) (weight_of (keyed c.in-Ok.parts.after)) c.weight-now.result (omega (arith, w.1, now)) l))
    (c.plan_within.ensures.accepted (omega (arith, w.0, now)))

pub returns-in-Ok-clause-refused : goal.returns-in-Ok-clause-refused
returns-in-Ok-clause-refused g c = λ f h s becomes.
    let w = swap_weighs (laws g c) (in_hand g c f h s becomes) in
    let now = c.weight-now.ensures s.0 in
    subst (λ (b : Bool). IfErr c.plan_within.result (IsRefusedBy (if b then Some Full else None)))
    (same_test c.args.limit (weight_of (image h)) (weight_of (keyed c.in-Ok.parts.before)) (weight_of (keyed c.in-Ok.parts.after)) c.weight-now.result (omega (arith, w.1, now)))
    (c.plan_within.ensures.refused (omega (arith, w.0, now)))

pub returns-in-Ok-clause-difference : goal.returns-in-Ok-clause-difference
returns-in-Ok-clause-difference g c = λ f h s becomes.
    let standing = in_hand g c f h s becomes in
    let w = swap_weighs (laws g c) standing in
    let now = c.weight-now.ensures s.0 in
    let limit = c.requires.limit in
    three_ok (λ p. IsDifference p.removes p.puts (image f) (image h)) c.plan_within.result c.plan_within.ensures.removes c.plan_within.ensures.puts (c.plan_within.ensures.accepted (omega (arith, w.0, now)))
    (λ p r q l.
    let light = fits c.args.limit (weight_of (image h)) (weight_of (keyed c.in-Ok.parts.before)) (weight_of (keyed c.in-Ok.parts.after)) c.weight-now.result (omega (arith, w.1, now)) l in
    swap_difference (laws g c) standing (small_by_weight h (omega (arith, light, limit))) p.puts p.removes r q)

pub returns-in-Ok-clause-room : goal.returns-in-Ok-clause-room
returns-in-Ok-clause-room g c = λ maps own other.
    let m = (g.K.Keeper.seen c.args.keeper.now).now in
    let taken = forest_of c.args.taken.now in
    let same = ap forest_of c.from_ref.ensures.value in
    let before = keyed c.in-Ok.parts.before in
    let after = keyed c.in-Ok.parts.after in
    let now = c.weight-now.ensures maps in
    three_ok (HasRoomFor m) c.plan_within.result c.plan_within.ensures.removes c.plan_within.ensures.puts c.plan_within.ensures.room
    (λ p r q l. swap_room m taken (one (node_of c.args.given.now)) before after p.puts p.removes own other
    (subst (λ (z : Trees Labelled). before ≡ entries_of taken ++ counts_held m (changes taken z)) same (c.in-Ok.ensures.before maps))
    (subst (λ (z : Trees Labelled). after ≡ entries_of z ++ counts_left m (changes taken z)) same (c.in-Ok.ensures.after maps))
    r q (omega (arith, l, now)))

pub returns-in-Err-clause-refused : goal.returns-in-Err-clause-refused
returns-in-Err-clause-refused g c = λ f h s becomes.
    let ts = changes (forest_of c.args.taken.now) (forest_of c.from_ref.result.now) in
    let few = subst (λ (z : Entries). weight_of z < 2 ^ 64) s.2 (subst (λ (n : ℕ). n < 2 ^ 64) (c.weight-now.ensures s.0) c.weight-now.type_inv) in
    undamaged c.in-Err.fault (unblamed c.values_tell.ensures.counts f ts c.in-Err.fault (c.images_rise.ensures f s.1) few (subst (λ (z : Entries). BlamesCounts z ts c.in-Err.fault) s.2 (c.in-Err.ensures.damaged s.0)))

pub returns-in-Err-clause-damaged : goal.returns-in-Err-clause-damaged
returns-in-Err-clause-damaged g c = λ maps.
    subst (λ (z : Trees Labelled). BlamesCounts (g.K.Keeper.seen c.args.keeper.now).now (changes (forest_of c.args.taken.now) z) c.in-Err.fault) (ap forest_of c.from_ref.ensures.value) (c.in-Err.ensures.damaged maps)
