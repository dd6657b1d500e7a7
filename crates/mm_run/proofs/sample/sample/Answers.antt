use Rattle.std.proofs.Common.{Some, ap, arith, refl, sym, ◌∙◌}
use Rattle.mm_run.proofs.Sampling.{ok_of, spends_none, spends_of, summarizes_of}
use Rattle.mm_run.proofs.sample.sample.Goals as goal

pub returns-in_err-script-clause-spends : goal.returns-in_err-script-clause-spends
returns-in_err-script-clause-spends g c = spends_none _ c.args.seed _ _ (omega arith)

pub returns-in_err-sink-clause-spends : goal.returns-in_err-sink-clause-spends
returns-in_err-sink-clause-spends g c = spends_none _ c.args.seed _ _ (omega arith)

pub returns-then-number-ne0-clause-spends : goal.returns-then-number-ne0-clause-spends
returns-then-number-ne0-clause-spends g c = spends_of c.args.options.now c.args.seed _ _ c.new-source.result.left c.run_commands-status.result.0 (c.new-source.ensures.left ∙ c.in_ok-script.ensures) (c.run_commands-status.ensures.runs c.new-source.result.left refl).0

pub returns-in-Ok-clause-summary : goal.returns-in-Ok-clause-summary
returns-in-Ok-clause-summary g c =
    let run = c.run_commands-status.ensures.runs c.new-source.result.left refl in
    let ok = ok_of c.run_commands-status.result.0 (sym c.number.ensures ∙ c.if-number-ne0.false) in
    summarizes_of c.args.options.now c.args.seed _ _ c.new-source.result.left c.in-Ok.replies.now c.run_commands-status.result.1 c.run_commands-status.result.0 c.summarize.result (c.new-source.ensures.left ∙ c.in_ok-script.ensures) ok
    run.0 (ap (λ b. Some b) c.in_ok-sink.ensures.written) (ap (λ b. Some b) (sym (c.in-Ok.ensures.cases.0 ∙ c.bytes.ensures))) (run.1 ok) c.summarize.ensures

pub returns-in-Ok-clause-spends : goal.returns-in-Ok-clause-spends
returns-in-Ok-clause-spends g c = spends_of c.args.options.now c.args.seed _ _ c.new-source.result.left c.run_commands-status.result.0 (c.new-source.ensures.left ∙ c.in_ok-script.ensures) (c.run_commands-status.ensures.runs c.new-source.result.left refl).0

pub returns-clause-spends : goal.returns-clause-spends
returns-clause-spends g c = spends_of c.args.options.now c.args.seed _ _ c.new-source.result.left c.run_commands-status.result.0 (c.new-source.ensures.left ∙ c.in_ok-script.ensures) (c.run_commands-status.ensures.runs c.new-source.result.left refl).0
