use Rattle.std.proofs.Common.{ℕ, sym, refl, inl, arith, [], subst, ap, ◌∙◌}
use Rattle.mm_host.specs.Causes.{Rose}
use Rattle.mm_image.specs.Image.{image}
use Rattle.mm_keeper.specs.Entries.{weight_of}
use Rattle.mm_tree.specs.Numbering.{Labelled}
use Rattle.mm_tree.specs.Trees.{Trees, none}
use Rattle.mm_run.specs.declared.status.Status.TheVariants as status
use Rattle.mm_run.specs.Inside.Turning.{IsPossible, fault_in}
use Rattle.mm_run.proofs.Turns.{append_known-nil}
use Rattle.mm_run.proofs.Telling.{never_fails, tells, told-nothing}
use Rattle.mm_run.proofs.fresh.run_commands.Goals as goal

pub returns-in-Err-clause-runs : goal.returns-in-Err-clause-runs
returns-in-Err-clause-runs g c = λ bytes known. (
  told-nothing c.args.options.now [] (g.S.Source.left c.args.source.now) (g.W.Sink.written c.args.sink.now) (g.W.Sink.written c.args.sink.now) [] _ _ _ _ bytes status.Memory
      (sym (append_known-nil (g.W.Sink.written c.args.sink.now))) (omega arith) (λ others. tt) tt (inl (refl, refl)),
  λ e. absurd cc,
)

pub returns-in-Ok-clause-runs : goal.returns-in-Ok-clause-runs
returns-in-Ok-clause-runs g c = λ bytes known.
    let served = c.serve-status.ensures.served none (rw c.over-store.ensures.keeper (rw c.new-keeper.ensures.kept ((tt, refl, c.new-keeper.ensures.now), c.new-keeper.ensures.now))) in
    let told = tells _ _ _ _ c.in-Ok.buffer c.serve-status.new.buffer served.0 _ _ _ _ c.in-Ok.ensures.held c.in-Ok.ensures.room c.args.options.now bytes c.serve-status.result
    known c.serve-status.ensures.none c.serve-status.ensures.sink_faults served.2 in
    (told.0, λ e. c.weight-weight.ensures tt ∙ ap weight_of (served.1 e).0.2 ∙ ap (λ (f : Trees Labelled). weight_of (image f)) (sym (told.1 e)))

pub returns-in-Ok-clause-usage : goal.returns-in-Ok-clause-usage
returns-in-Ok-clause-usage g c = λ e. subst IsPossible e (c.serve-status.ensures.served none (rw c.over-store.ensures.keeper (rw c.new-keeper.ensures.kept ((tt, refl, c.new-keeper.ensures.now), c.new-keeper.ensures.now)))).2.possible

pub returns-in-Ok-clause-disk : goal.returns-in-Ok-clause-disk
returns-in-Ok-clause-disk g c = λ e.
    let new = c.serve-status.new.store.keeper in
    let stands = c.serve-status.ensures.stands in
    let same = c.over-store.ensures.keeper in
    never_fails new.failing.items new.faults (stands.device ∙ ap (λ k. k.failing.items) same ∙ c.new-keeper.ensures.failing ∙ c.new-in-Ok.ensures.items) c.serve-status.ensures.sound.1
    (subst (λ (n : ℕ). Rose n new.faults) (ap (λ k. k.faults) same ∙ c.new-keeper.ensures.faults) (stands.disk_fault (ap fault_in e)))

pub returns-in-Ok-clause-damage : goal.returns-in-Ok-clause-damage
returns-in-Ok-clause-damage g c = λ damage e. subst IsPossible e (c.serve-status.ensures.served none (rw c.over-store.ensures.keeper (rw c.new-keeper.ensures.kept ((tt, refl, c.new-keeper.ensures.now), c.new-keeper.ensures.now)))).2.possible
