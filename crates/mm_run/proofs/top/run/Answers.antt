use Rattle.std.proofs.Common.{◌≡◌, ℕ, List, ap, arith, refl, sym, subst, ◌∙◌}
use Rattle.mm_options.specs.Options.{options_of}
use Rattle.mm_options.specs.declared.options.Options.{Options}
use Rattle.mm_run.specs.Run.{Runs}
use Rattle.mm_run.specs.Statuses.{fault_line}
use Rattle.mm_run.specs.declared.status.Status.{Status}
use Rattle.mm_run.specs.declared.status.Status.TheVariants as status
use Rattle.mm_run.proofs.Sampling.{sampled, spends_none}
use Rattle.mm_run.proofs.Telling.{writes, told-nothing, counts}
use Rattle.mm_run.proofs.top.run.Goals as goal

pub returns-in-Err-Usage-clause-runs : goal.returns-in-Err-Usage-clause-runs
returns-in-Err-Usage-clause-runs g c = λ none bytes known.
    rw c.end.ensures.same (told-nothing _ (fault_line status.Usage) (g.S.Source.left c.args.source.now) (g.W.Sink.written c.args.sink.now) (g.W.Sink.written c.end.new.sink) c.end.ensures.line.shown _ _ _ _ bytes status.Usage
    c.end.ensures.line.written (omega arith) (λ others. refl) refl c.end.ensures.line.whole)

pub returns-in-Err-Usage-clause-spends : goal.returns-in-Err-Usage-clause-spends
returns-in-Err-Usage-clause-spends g c = λ seed is. spends_none _ seed _ _ (omega arith)

pub returns-in-Err-Memory-clause-runs : goal.returns-in-Err-Memory-clause-runs
returns-in-Err-Memory-clause-runs g c = λ none bytes known.
    rw c.end-in-Err-Memory.ensures.same (told-nothing _ (fault_line status.Memory) (g.S.Source.left c.args.source.now) (g.W.Sink.written c.args.sink.now) (g.W.Sink.written c.end-in-Err-Memory.new.sink) c.end-in-Err-Memory.ensures.line.shown _ _ _ _ bytes status.Memory
    c.end-in-Err-Memory.ensures.line.written (omega arith) (λ others. tt) tt c.end-in-Err-Memory.ensures.line.whole)

pub returns-in-Err-Memory-clause-spends : goal.returns-in-Err-Memory-clause-spends
returns-in-Err-Memory-clause-spends g c = λ seed is. spends_none _ seed _ _ (omega arith)

pub returns-in-Ok-clause-runs : goal.returns-in-Ok-clause-runs
returns-in-Ok-clause-runs g c = λ none bytes known.
    let asked = c.in-Ok.ensures.options in
    rw c.end-in-Ok.ensures.same (rw asked at (writes c.in-Ok.options (g.S.Source.left c.args.source.now) (g.S.Source.left c.run_with-status.new.source) (g.W.Sink.written c.args.sink.now) (g.W.Sink.written c.run_with-status.new.sink)
    (g.W.Sink.written c.end-in-Ok.new.sink) _ _ _ _ _ bytes c.run_with-status.result (c.run_with-status.ensures.runs (ap (λ (o : Options). o.sample) asked ∙ none) bytes known) c.end-in-Ok.ensures.line))

pub returns-in-Ok-clause-samples : goal.returns-in-Ok-clause-samples
returns-in-Ok-clause-samples g c = λ seed is.
    let asked = c.in-Ok.ensures.options in
    rw c.end-in-Ok.ensures.same (rw asked at (sampled c.in-Ok.options seed (g.W.Sink.written c.args.sink.now) (g.W.Sink.written c.run_with-status.new.sink) (g.W.Sink.written c.end-in-Ok.new.sink) _ _ _ c.run_with-status.result
    c.run_with-status.ensures.sink_faults (c.run_with-status.ensures.tells seed (ap (λ (o : Options). o.sample) asked ∙ is)) c.end-in-Ok.ensures.line))

pub returns-in-Ok-clause-sink_faults : goal.returns-in-Ok-clause-sink_faults
returns-in-Ok-clause-sink_faults g c = rw c.end-in-Ok.ensures.same (counts c.run_with-status.result _ _ _ _ _ c.run_with-status.ensures.sink_faults c.end-in-Ok.ensures.line)
