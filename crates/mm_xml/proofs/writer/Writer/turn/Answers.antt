use Rattle.std.proofs.Common.{refl}
use Rattle.mm_xml.proofs.WriterFacts.{begun_first, first_fewer}
use Rattle.mm_xml.proofs.writer.Writer.turn.Goals as goal

pub returns-in_ok-push-in-Siblings-clause-whole : goal.returns-in_ok-push-in-Siblings-clause-whole
returns-in_ok-push-in-Siblings-clause-whole c =
    begun_first c.node.result _ _ c.args.task _ c.in-Siblings.nodes c.in-Some.first.now c.in-Some.rest c.args.self.now.tasks.items _ c.in-Siblings.is c.in-Some.ensures.cases.0 c.in_ok-push-in-Siblings.ensures.items refl c.node.ensures.whole

pub returns-in_ok-push-in-Siblings-clause-turns : goal.returns-in_ok-push-in-Siblings-clause-turns
returns-in_ok-push-in-Siblings-clause-turns c =
    first_fewer c.node.result _ c.args.task _ c.in-Siblings.nodes c.in-Some.first.now c.in-Some.rest c.args.self.now.tasks.items _ c.in-Siblings.is c.in-Some.ensures.cases.0 c.in_ok-push-in-Siblings.ensures.items refl c.node.ensures.turns
