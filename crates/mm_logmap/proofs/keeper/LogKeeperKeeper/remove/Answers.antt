use Rattle.std.proofs.Common.{◌≡◌, true, false, refl, sym, ap, ◌∙◌, subst, arith}
use Rattle.mm_keeper.specs.Blocks.{joined}
use Rattle.mm_journal.specs.Settled.{JournalState}
use Rattle.mm_logmap.specs.Inside.Sound.{IsCurrent}
use Rattle.mm_logmap.proofs.Fitting.{fit-held}
use Rattle.mm_logmap.proofs.Staging.{stays, remove-current, count-remove}
use Rattle.mm_logmap.proofs.keeper.LogKeeperKeeper.remove.Goals as goal

pub returns-in-Ok-clause-quiet : goal.returns-in-Ok-clause-quiet
returns-in-Ok-clause-quiet g c = λ told. record {
  bytes = refl;
  count = count-remove c.args.self.now.state.staged.items c.remove.new.self.staged.items c.args.key.now c.in-Ok.held
      (λ is. (fit-held c.args.key.now (joined c.args.self.now.state.map) c.requires.0.1 (sym c.in-Ok.ensures.told ∙ is)).1) c.in-Ok.ensures.staged;
}

pub returns-in-Ok-clause-any_moment : goal.returns-in-Ok-clause-any_moment
returns-in-Ok-clause-any_moment g c = λ told unspent.
    let k = c.args.self.now in
    let l = stays g.D.Disk.moment g.D.Disk.left_since k.disk.now (g.D.Disk.state k.disk.now) k.state.journal k.state.staged.items (joined k.state.map) (λ i h. g.met.D.Disk.only_now k.disk.now i told h) (c.requires.1.1 told unspent) in
    record { later = l.later; each = l.each; before = l.before }

pub returns-in-Err-clause-any_moment : goal.returns-in-Err-clause-any_moment
returns-in-Err-clause-any_moment g c = λ told unspent.
    let k = c.args.self.now in
    let l = stays g.D.Disk.moment g.D.Disk.left_since k.disk.now (g.D.Disk.state k.disk.now) k.state.journal k.state.staged.items (joined k.state.map) (λ i h. g.met.D.Disk.only_now k.disk.now i told h) (c.requires.1.1 told unspent) in
    record { later = l.later; each = l.each; before = l.before }

pub returns-in-Ok-clause-keeps : goal.returns-in-Ok-clause-keeps
returns-in-Ok-clause-keeps g c =
    let k = c.args.self.now in
    let new = c.remove.new.self in
    let a = (g.D.Disk.state k.disk.now).journal in
    let sound = c.requires in
    record {
      device = refl;
      sound = (
        (c.in-Ok.ensures.sorted, c.in-Ok.ensures.fit),
        (
          (λ _. ap (λ (j : JournalState). j.has_failed) c.in-Ok.ensures.journal ∙ sound.1.0 c.if-self.false),
          (λ told _. subst (λ (j : JournalState). ∥ IsCurrent j a new.staged.items (joined new.map) ∥₁) (sym c.in-Ok.ensures.journal)
              (remove-current k.state.journal a k.state.staged.items new.staged.items (joined k.state.map) (joined new.map) c.args.key.now c.in-Ok.held
              (λ is. fit-held c.args.key.now (joined k.state.map) sound.0.1 (sym c.in-Ok.ensures.told ∙ is)) c.in-Ok.ensures.told c.in-Ok.ensures.staged c.in-Ok.ensures.removed (sound.1.1 told c.if-self.false))),
        ),
      );
      maps = ((λ x. x), (λ x. x));
      faults_later = omega arith;
      wants_later = omega arith;
      disk_fault = λ e. absurd cc;
      no_damage = λ _ d e. absurd cc;
      spent = ((λ e. absurd cc), (λ e. absurd (let q : true ≡ false = sym e ∙ c.if-self.false in cc)));
      then_spent = c.in-Ok.ensures.unspent;
    }
