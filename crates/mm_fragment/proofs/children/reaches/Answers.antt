use Rattle.std.proofs.Common.{sym, subst, Bool, Some, None}
use Rattle.std.specs.Prelude.{◌↔◌, IsTrue}
use Rattle.mm_fragment.specs.Matching.{Reaches}
use Rattle.mm_fragment.proofs.Answered.{reaches_of}
use Rattle.mm_fragment.proofs.children.reaches.Goals as goal

pub returns-in-Some : goal.returns-in-Some
returns-in-Some c = λ a.
    subst (λ (b : Bool). IsTrue b ↔ Reaches c.args.x.now c.args.answers.now) (sym c.is_prefix.ensures.front)
    (reaches_of c.args.x.now c.args.answers.now c.count_before.result (Some c.in-Some.first.now) a (c.count_before.ensures a) c.in-Some.ensures)

pub returns-in-None : goal.returns-in-None
returns-in-None c = λ a. reaches_of c.args.x.now c.args.answers.now c.count_before.result None a (c.count_before.ensures a) c.in-None.ensures
