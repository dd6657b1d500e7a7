use Rattle.std.proofs.Common.{◌≡◌, ◌<◌, ◌^◌, ◌++◌, ap, sym, subst, ℕ}
use Rattle.mm_keeper.specs.Entries.{Entries, weight_of}
use Rattle.mm_image.specs.Image.{entries_of}
use Rattle.mm_image.specs.Keyed.{keyed}
use Rattle.mm_tree.specs.Numbering.{Labelled, forest_of, node_of}
use Rattle.mm_tree.specs.Trees.{Trees, none, one}
use Rattle.mm_edit.specs.Inside.Changes.{changes}
use Rattle.mm_edit.specs.Inside.Counting.{AreTold, BlamesCounts, IsUndamaged, counts_held, counts_left}
use Rattle.mm_edit.proofs.InHand.{Laws, Standing, deletion_room, small_by_deletion, swap_difference, unblamed}
use Rattle.mm_edit.proofs.Numbers.{err_told}
use Rattle.mm_edit.proofs.taking_out.plan_without.Goals as goal

pub returns-clause-difference : goal.returns-clause-difference
returns-clause-difference g c = λ f h s becomes.
    let m = (g.K.Keeper.seen c.args.keeper.now).now in
    let taken = one (node_of c.args.node.now) in
    let leaving = ap forest_of c.from_ref.ensures.value in
    let before = keyed c.in_ok-parts.parts.before in
    let after = keyed c.in_ok-parts.parts.after in
    let light = subst (λ (n : ℕ). n < 2 ^ 64) (c.weight-weight.ensures s.0) c.weight-weight.type_inv in
    let standing : Standing m f h taken none before after = record {
      formed = s.1;
      map_is = s.2;
      light = light;
      becomes = becomes;
      before_is = subst (λ (z : Trees Labelled). before ≡ entries_of z ++ counts_held m (changes z none)) leaving (c.in_ok-parts.ensures.before s.0);
      after_is = subst (λ (z : Trees Labelled). after ≡ counts_left m (changes z none)) leaving (c.in_ok-parts.ensures.after s.0);
    } in
    let laws : Laws = record { lengths = c.values_tell.ensures.counts; apart = c.keys_are_apart.ensures; rise = c.images_rise.ensures; order = c.byte_order.ensures; ancestry = c.ancestry.ensures } in
    swap_difference laws standing (small_by_deletion f h taken becomes.run (subst (λ (z : Entries). weight_of z < 2 ^ 64) s.2 light))
    c.in_ok-planned.field-0.puts c.in_ok-planned.field-0.removes c.in_ok-planned.ensures.removes c.in_ok-planned.ensures.puts

pub returns-clause-room : goal.returns-clause-room
returns-clause-room g c = λ maps own.
    let m = (g.K.Keeper.seen c.args.keeper.now).now in
    let leaving = ap forest_of c.from_ref.ensures.value in
    let before = keyed c.in_ok-parts.parts.before in
    let after = keyed c.in_ok-parts.parts.after in
    deletion_room m (one (node_of c.args.node.now)) before after c.in_ok-planned.field-0.puts c.in_ok-planned.field-0.removes
    (g.met.K.Keeper.sorted c.args.keeper.now c.requires.sound maps) own
    (subst (λ (z : Trees Labelled). AreTold m (changes z none)) leaving (c.in_ok-parts.ensures.told maps))
    (subst (λ (z : Trees Labelled). before ≡ entries_of z ++ counts_held m (changes z none)) leaving (c.in_ok-parts.ensures.before maps))
    (subst (λ (z : Trees Labelled). after ≡ counts_left m (changes z none)) leaving (c.in_ok-parts.ensures.after maps))
    c.in_ok-planned.ensures.removes c.in_ok-planned.ensures.puts

pub returns-in_err-parts-clause-undamaged : goal.returns-in_err-parts-clause-undamaged
returns-in_err-parts-clause-undamaged g c = λ f s.
    let ts = changes (forest_of c.from_ref.result.now) none in
    let few = subst (λ (z : Entries). weight_of z < 2 ^ 64) s.2 (subst (λ (n : ℕ). n < 2 ^ 64) (c.weight-weight.ensures s.0) c.weight-weight.type_inv) in
    let fine = unblamed c.values_tell.ensures.counts f ts c.in_err-parts.field-0.0 (c.images_rise.ensures f s.1) few (subst (λ (z : Entries). BlamesCounts z ts c.in_err-parts.field-0.0) s.2 (c.in_err-parts.ensures.damaged s.0)) in
    err_told c.from_residual.result c.from_residual.ensures.1 (λ h q. subst IsUndamaged (sym q) fine)
