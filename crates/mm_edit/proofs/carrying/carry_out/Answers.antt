use Rattle.std.proofs.Common.{◌≡◌, ◌∙◌, ap}
use Rattle.mm_image.specs.Facts.Results.{on_ok}
use Rattle.mm_edit.specs.Difference.{carried_out, gone, keys, put_all, without_all}
use Rattle.mm_edit.proofs.Leading.{difference_leads}
use Rattle.mm_edit.proofs.carrying.carry_out.Goals as goal

pub returns-in-Ok-clause-leads : goal.returns-in-Ok-clause-leads
returns-in-Ok-clause-leads g c = λ maps new s d.
    let old = (g.K.Keeper.seen c.args.keeper.now).now in
    let plan = c.args.plan.now in
    let leads : carried_out plan.removes plan.puts old ≡ new =
    ap (λ z. carried_out z plan.puts old) d.removes_are ∙ ap (λ z. carried_out (keys (gone old new)) z old) d.puts_are ∙ difference_leads old new (g.met.K.Keeper.sorted c.args.keeper.now c.requires.sound maps) s in
    let mid = (g.K.Keeper.seen c.remove_all.new.keeper).now in
    on_ok c.put_all.result
    (λ e. e ∙ ap (λ z. put_all z mid) c.puts.ensures.puts ∙ ap (put_all plan.puts) (c.in-Ok.ensures.removed maps ∙ ap (λ z. without_all z old) c.removes.ensures) ∙ leads)
    (c.put_all.ensures.put (c.remove_all.ensures.keeps.maps.0 maps))
