use Rattle.mm_sample.proofs.Pieces.{whole_script}
use Rattle.mm_sample.proofs.writing.script.Goals as goal

pub returns : goal.returns
returns c =
    whole_script c.args.seed c.new-draws.result.number c.push_loads.new.draws.number c.new-script.result.items c.push_loads.new.script.items c.push_rounds.new.script.items c.extend_from_slice.new.self.items
    c.new-draws.ensures c.new-script.ensures.items c.in_ok-push_loads.ensures.text c.in_ok-push_loads.ensures.draws c.in_ok-push_rounds.ensures c.in_ok-extend_from_slice.ensures.items
