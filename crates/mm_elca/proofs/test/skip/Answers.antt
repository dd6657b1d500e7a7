use Rattle.std.proofs.Common.{◌≡◌, ◌∙◌, sym, subst, true, false}
use Rattle.std.proofs.lemmas.Result.{IfOk-weaker}
use Rattle.mm_tree.specs.Search.{list_of, worded}
use Rattle.mm_label.specs.Fronts.{is_front}
use Rattle.mm_elca.specs.Inside.Clear.{IsFirstClear}
use Rattle.mm_elca.proofs.Clearing.{past_match, past_none, past_step_in, past_step_out}
use Rattle.mm_elca.proofs.test.skip.Goals as goal

pub returns-in_default-clause-value : goal.returns-in_default-clause-value
returns-in_default-clause-value g c = λ f x ks s n h.
    let ms = list_of c.args.word.now (worded f) in
    past_none ms ks x c.args.kid.now (subst (IsFirstClear ms x ks) c.in_default.is h)

pub returns-then-is_prefix-clause-value : goal.returns-then-is_prefix-clause-value
returns-then-is_prefix-clause-value g c = λ f x ks s n h.
    let ms = list_of c.args.word.now (worded f) in
    let q : is_front c.args.kid.now c.in-Some.p ≡ true = sym c.is_prefix.ensures.front ∙ c.if-is_prefix.true in
    IfOk-weaker c.right_past.result _ _ (λ o r. past_step_in ms ks x c.args.kid.now c.in-Some.p o n (subst (IsFirstClear ms x ks) c.in-Some.is h) q (past_match ms c.args.kid.now o r)) (c.right_past.ensures.value f s)

pub returns-clause-value : goal.returns-clause-value
returns-clause-value g c = λ f x ks s n h.
    let ms = list_of c.args.word.now (worded f) in
    let q : is_front c.args.kid.now c.in-Some.p ≡ false = sym c.is_prefix.ensures.front ∙ c.if-is_prefix.false in
    past_step_out ms ks x c.args.kid.now c.in-Some.p (subst (IsFirstClear ms x ks) c.in-Some.is h) q
