use Rattle.std.proofs.Common.{◌≡◌, true, false, refl, sym, ap, ◌∙◌, subst, arith}
use Rattle.mm_keeper.specs.Blocks.{joined}
use Rattle.mm_journal.specs.Settled.{JournalState}
use Rattle.mm_logmap.specs.Inside.Sound.{IsCurrent}
use Rattle.mm_logmap.proofs.Staging.{stays, put-current, count-put}
use Rattle.mm_logmap.proofs.keeper.LogKeeperKeeper.put.Goals as goal

pub returns-in-Ok-clause-quiet : goal.returns-in-Ok-clause-quiet
returns-in-Ok-clause-quiet g c = λ told. record {
  bytes = refl;
  count = count-put c.args.self.now.state.staged.items c.put.new.self.staged.items c.args.key.now c.args.value.now c.requires.key.1 c.requires.value c.in-Ok.ensures.staged;
}

pub returns-in-Ok-clause-any_moment : goal.returns-in-Ok-clause-any_moment
returns-in-Ok-clause-any_moment g c = λ told unspent.
    let k = c.args.self.now in
    let l = stays g.D.Disk.moment g.D.Disk.left_since k.disk.now (g.D.Disk.state k.disk.now) k.state.journal k.state.staged.items (joined k.state.map) (λ i h. g.met.D.Disk.only_now k.disk.now i told h) (c.requires.sound.1.1 told unspent) in
    record { later = l.later; each = l.each; before = l.before }

pub returns-in-Err-clause-any_moment : goal.returns-in-Err-clause-any_moment
returns-in-Err-clause-any_moment g c = λ told unspent.
    let k = c.args.self.now in
    let l = stays g.D.Disk.moment g.D.Disk.left_since k.disk.now (g.D.Disk.state k.disk.now) k.state.journal k.state.staged.items (joined k.state.map) (λ i h. g.met.D.Disk.only_now k.disk.now i told h) (c.requires.sound.1.1 told unspent) in
    record { later = l.later; each = l.each; before = l.before }

pub returns-in-Ok-clause-keeps : goal.returns-in-Ok-clause-keeps
returns-in-Ok-clause-keeps g c =
    let k = c.args.self.now in
    let new = c.put.new.self in
    let a = (g.D.Disk.state k.disk.now).journal in
    let sound = c.requires.sound in
    record {
      device = refl;
      sound = (
        (c.in-Ok.ensures.sorted sound.0.0, c.in-Ok.ensures.fit sound.0.1),
        (
          (λ _. ap (λ (j : JournalState). j.has_failed) c.in-Ok.ensures.journal ∙ sound.1.0 c.if-self.false),
          (λ told _. subst (λ (j : JournalState). ∥ IsCurrent j a new.staged.items (joined new.map) ∥₁) (sym c.in-Ok.ensures.journal)
              (put-current k.state.journal a k.state.staged.items new.staged.items (joined k.state.map) (joined new.map) c.args.key.now c.args.value.now
              c.requires.key c.requires.value c.in-Ok.ensures.staged c.in-Ok.ensures.put (sound.1.1 told c.if-self.false))),
        ),
      );
      maps = ((λ x. x), (λ x. x));
      faults_later = omega arith;
      wants_later = omega arith;
      disk_fault = λ e. absurd cc;
      no_damage = λ _ d e. absurd cc;
      spent = ((λ e. absurd cc), (λ e. absurd (let q : true ≡ false = sym e ∙ c.if-self.false in cc)));
      then_spent = c.in-Ok.ensures.unspent;
    }
