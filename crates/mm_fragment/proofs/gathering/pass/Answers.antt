use Rattle.std.proofs.Common.{subst}
use Rattle.std.proofs.lemmas.Result.{IfOk-weaker}
use Rattle.mm_fragment.specs.Inside.Children.{IsFullChild}
use Rattle.mm_fragment.proofs.Rounds.{pass_skip, pass_take, root_whole, stands_whole}
use Rattle.mm_fragment.proofs.gathering.pass.Goals as goal

pub returns-in-Some-clause-value : goal.returns-in-Some-clause-value
returns-in-Some-clause-value g c = λ f t query done passed s k h b.
    let x = c.args.root.now.label.now in
    let a = c.args.mark.label in
    let w = c.args.word.now in
    let child = subst (IsFullChild x c.args.root.now.answers.now a) c.in-Some.is
    (c.in_ok-child.ensures k.rising (root_whole f x t c.args.root.now.answers.now query w k) (stands_whole f x a t c.args.root.now.answers.now query w done passed k h) b) in
    IfOk-weaker c.right_past.result _ _ (λ o r. pass_skip f x a c.in-Some.child t c.args.root.now.answers.now query w c.args.mark.mask done passed c.args.marks.now o k h b child r) (c.right_past.ensures.value f s)

pub returns-clause-value : goal.returns-clause-value
returns-clause-value g c = λ f t query done passed s k h b.
    let x = c.args.root.now.label.now in
    let a = c.args.mark.label in
    let w = c.args.word.now in
    let none = subst (IsFullChild x c.args.root.now.answers.now a) c.in_default.is
    (c.in_ok-child.ensures k.rising (root_whole f x t c.args.root.now.answers.now query w k) (stands_whole f x a t c.args.root.now.answers.now query w done passed k h) b) in
    pass_take f x a t c.args.root.now.answers.now query w c.args.mark.mask done passed c.args.marks.now c.push.new.self c.in_ok-next.next k h b none (c.in_ok-next.ensures.value f s) c.in_ok-push.ensures.ok
