use Rattle.std.proofs.Common.{ap, sym, subst, ◌∙◌, arith, [], ◌∷◌, inl, refl, length, Err}
use Rattle.std.proofs.lemmas.List.{length-append}
use Rattle.std.proofs.lemmas.Result.{err_from_is_err_and}
use Rattle.mm_label.specs.Fronts.{Within}
use Rattle.mm_label.specs.Facts.Members.{in_within, within_first, within_second}
use Rattle.mm_match.specs.declared.mark.Mark.{Mark}
use Rattle.mm_match.specs.Marks.{labels, mark_label}
use Rattle.mm_keeper.specs.Keeping.{Seen}
use Rattle.mm_image.specs.Facts.Grounds.{ground_along}
use Rattle.mm_tree.specs.Trees.{Tree}
use Rattle.mm_tree.specs.Fragments.{Named}
use Rattle.mm_fragment.specs.Inside.Stored.{stored_shown}
use Rattle.mm_fragment.proofs.ShowAll.{showing_more}
use Rattle.mm_fragment.proofs.Naming.{blamed_among}
use Rattle.mm_fragment.proofs.stored.show_all.Goals as goal

pub returns-in_err-show-clause-blame : goal.returns-in_err-show-clause-blame
returns-in_err-show-clause-blame g c = λ maps.
    let i = c.loop-label.invariant in
    let k = c.in-Some.field-0 in
    let p = err_from_is_err_and c.from_residual.result c.from_residual.ensures.1 in
    let there = subst (Within k) (sym c.in-Some.ensures) (within_second k c.pop.new.self (k ∷ []) (inl refl)) in
    blamed_among c.from_residual.result c.in_err-show.field-0.0 (g.K.Keeper.seen c.loop-label.keeper).now (g.K.Keeper.seen c.args.keeper.now).now k.label (labels c.args.nodes)
    (p.1 ∙ ap Err p.2) (ap (λ (z : Seen g.row.K-Spot.Denot). z.now) (i.ground.same maps)) (in_within mark_label k c.args.nodes (i.among k there)) (c.in_err-show.ensures.blame (i.ground.maps.0 maps))

pub loop-label-preserved : goal.loop-label-preserved
loop-label-preserved g c =
    let i = c.loop-label.invariant in
    record {
      sound = c.show.ensures.sound;
      ground = ground_along g.K.Keeper.over g.K.Keeper.has_maps g.K.Keeper.tells g.K.Keeper.seen g.K.Keeper.written g.K.Keeper.changes g.K.Keeper.moment g.K.Keeper.left_since c.args.keeper.now c.loop-label.keeper c.show.new.keeper g.met.K.Keeper.counts_now i.ground c.show.ensures.ground;
      later = omega (arith, i.later, c.show.ensures.cause.later);
      unspent = λ e. i.unspent (c.in_ok-show.ensures.cause.ok e);
      shown = λ maps order.
          let at : Mark → Named = λ m. stored_shown (g.K.Keeper.seen c.args.keeper.now).now c.args.words.now c.args.marks.now m.label in
          showing_more at c.args.nodes c.loop-label.left c.pop.new.self c.loop-label.shown c.push.new.self c.in-Some.field-0 c.in_ok-show.field-0 (i.shown maps order) c.in-Some.ensures
          (ap (λ (t : Tree Named). t.0) (c.in_ok-show.ensures.shown (i.ground.maps.0 maps) order) ∙ ap (λ (z : Seen g.row.K-Spot.Denot). stored_shown z.now c.args.words.now c.args.marks.now (c.in-Some.field-0).label) (i.ground.same maps))
          c.in_ok-push.ensures.ok;
      steps = omega (arith, i.steps, c.show.ensures.most, ap length c.in-Some.ensures ∙ length-append c.pop.new.self (c.in-Some.field-0 ∷ []));
      among = λ m w. i.among m (subst (Within m) (sym c.in-Some.ensures) (within_first m c.pop.new.self (c.in-Some.field-0 ∷ []) w));
    }

pub returns-in_err-push-clause-ground : goal.returns-in_err-push-clause-ground
returns-in_err-push-clause-ground g c =
    ground_along g.K.Keeper.over g.K.Keeper.has_maps g.K.Keeper.tells g.K.Keeper.seen g.K.Keeper.written g.K.Keeper.changes g.K.Keeper.moment g.K.Keeper.left_since c.args.keeper.now c.loop-label.keeper c.show.new.keeper g.met.K.Keeper.counts_now c.loop-label.invariant.ground c.show.ensures.ground
