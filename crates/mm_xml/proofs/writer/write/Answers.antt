use Rattle.std.proofs.Common.{◌∙◌, sym}
use Rattle.mm_xml.proofs.WriterFacts.{next_is, next_fewer}
use Rattle.mm_xml.proofs.writer.write.Goals as goal

pub loop-task-smaller : goal.loop-task-smaller
loop-task-smaller c = next_fewer _ c.loop-task.writer.tasks.items c.pop.new.self.items c.in-Some.task c.in-Some.ensures.items c.in_ok-turn.ensures.turns

pub loop-task-preserved : goal.loop-task-preserved
loop-task-preserved c = c.in_ok-turn.ensures.whole ∙ sym (next_is c.loop-task.writer.out.items c.loop-task.writer.tasks.items c.pop.new.self.items c.in-Some.task c.in-Some.ensures.items) ∙ c.loop-task.invariant
