use Rattle.std.proofs.Common.{◌≡◌, ◌⊎◌, List, [], ℕ, Some, true, false, refl, sym, ◌∙◌, subst}
use Rattle.std.proofs.Math.Logic.{∥∥₁_map}
use Rattle.mm_host.specs.Disk.{image_now}
use Rattle.mm_keeper.specs.Entries.{IsSorted}
use Rattle.mm_keeper.specs.Blocks.{Blocks, joined}
use Rattle.mm_logmap.specs.Log.{kept_in}
use Rattle.mm_logmap.specs.Inside.Spelled.{HasFitKeys}
use Rattle.mm_logmap.specs.Inside.Sound.{IsCurrent, KeepsOrAdds}
use Rattle.mm_logmap.specs.Facts.Again.{at-again}
use Rattle.mm_logmap.proofs.Staging.{committed, kept-now, leaves, lifted}
use Rattle.mm_logmap.proofs.keeper.LogKeeperKeeper.commit.Goals as goal

pub commit-requires-clause-place : goal.commit-requires-clause-place
commit-requires-clause-place g c = λ told.
    let k = c.args.self.now in
    at-again k.state.journal (g.D.Disk.state k.disk.now).journal (∥∥₁_map (c.requires.1.1 told c.if-self.false) (λ h. h.0))

pub returns-in-Ok-clause-kept : goal.returns-in-Ok-clause-kept
returns-in-Ok-clause-kept g c = λ told.
    let k = c.args.self.now in
    let s1 = g.D.Disk.state c.commit.new.disk in
    kept-now k.state.journal (g.D.Disk.state k.disk.now) s1 k.state.staged.items (joined k.state.map)
    (c.in-Ok.ensures.acknowledged told (image_now s1) (g.met.D.Disk.now_counts c.commit.new.disk told)) (c.requires.1.1 told c.if-self.false)

pub returns-in-Ok-clause-any_moment : goal.returns-in-Ok-clause-any_moment
returns-in-Ok-clause-any_moment g c = λ told unspent.
    let k = c.args.self.now in
    let s = g.D.Disk.state k.disk.now in
    let l = lifted g.D.Disk.moment g.D.Disk.left_since k.disk.now c.commit.new.disk (KeepsOrAdds s (record { sort = 1; bytes = k.state.staged.items }))
    (λ m. (m ≡ Some (kept_in s.journal.now)) ⊎ (m ≡ Some (joined k.state.map))) (c.in-Ok.ensures.any_moment told)
    (λ i left. leaves k.state.journal s k.state.staged.items (joined k.state.map) i (c.requires.1.1 told unspent) left) in
    record { later = l.later; each = l.each; before = l.before }

pub returns-in-Err-clause-any_moment : goal.returns-in-Err-clause-any_moment
returns-in-Err-clause-any_moment g c = λ told unspent.
    let k = c.args.self.now in
    let s = g.D.Disk.state k.disk.now in
    let l = lifted g.D.Disk.moment g.D.Disk.left_since k.disk.now c.commit.new.disk (KeepsOrAdds s (record { sort = 1; bytes = k.state.staged.items }))
    (λ m. (m ≡ Some (kept_in s.journal.now)) ⊎ (m ≡ Some (joined k.state.map))) (c.in-Err.ensures.any_moment told)
    (λ i left. leaves k.state.journal s k.state.staged.items (joined k.state.map) i (c.requires.1.1 told unspent) left) in
    record { later = l.later; each = l.each; before = l.before }

pub returns-in-Ok-clause-keeps : goal.returns-in-Ok-clause-keeps
returns-in-Ok-clause-keeps g c =
    let k = c.args.self.now in
    let new = c.commit.new.self in
    let s = g.D.Disk.state k.disk.now in
    let s1 = g.D.Disk.state c.commit.new.disk in
    let sound = c.requires in
    record {
      device = refl;
      sound = (
        (subst (λ (m : Blocks). IsSorted (joined m)) (sym c.in-Ok.ensures.map) sound.0.0, subst (λ (m : Blocks). HasFitKeys (joined m)) (sym c.in-Ok.ensures.map) sound.0.1),
        (
          (λ _. c.in-Ok.ensures.unfailed),
          (λ told _. subst (λ (bytes : List ℕ). ∥ IsCurrent new.journal s1.journal bytes (joined new.map) ∥₁) (sym c.in-Ok.ensures.cleared)
              (subst (λ (m : Blocks). ∥ IsCurrent new.journal s1.journal [] (joined m) ∥₁) (sym c.in-Ok.ensures.map)
              (committed k.state.journal new.journal s s1 k.state.staged.items (joined k.state.map) (c.in-Ok.ensures.at told)
              (c.in-Ok.ensures.acknowledged told (image_now s1) (g.met.D.Disk.now_counts c.commit.new.disk told)) (sound.1.1 told c.if-self.false)))),
        ),
      );
      maps = ((λ x. x), (λ x. x));
      faults_later = c.in-Ok.ensures.faults;
      wants_later = c.in-Ok.ensures.wants;
      disk_fault = λ e. absurd cc;
      no_damage = λ _ d e. absurd cc;
      spent = ((λ e. absurd cc), (λ e. absurd (let q : true ≡ false = sym e ∙ c.if-self.false in cc)));
      then_spent = c.in-Ok.ensures.unspent ∙ sym c.if-self.false;
    }
