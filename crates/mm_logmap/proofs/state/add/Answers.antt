use Rattle.std.proofs.Common.{◌≡◌, sym, ◌∙◌, false}
use Rattle.mm_host.specs.Facts.Moments.{joined, weakened}
use Rattle.mm_journal.specs.Settled.{NoneLeft, AppendLeaves, placed}
use Rattle.mm_logmap.specs.Inside.Sound.{KeepsOrAdds}
use Rattle.mm_logmap.proofs.Adding.{on-ok, adds, append-adds, begin-keeps, then-begun}
use Rattle.mm_logmap.proofs.state.add.Goals as goal

pub returns-in_err-begin-clause-any_moment : goal.returns-in_err-begin-clause-any_moment
returns-in_err-begin-clause-any_moment g c = λ told.
    let s = g.D.Disk.state c.args.disk.now in
    let unbegun : c.args.journal.now.is_begun ≡ false = sym c.is_begun.ensures ∙ c.if-is_begun.false in
    weakened g.D.Disk.moment g.D.Disk.left_since c.args.disk.now c.begin.new.disk (NoneLeft s) (KeepsOrAdds s c.args.sealed.now) (c.in_err-begin.ensures.any_moment told)
    (λ i left. begin-keeps c.args.journal.now s c.args.sealed.now i (c.requires.place told) unbegun left)

pub returns-clause-acknowledged : goal.returns-clause-acknowledged
returns-clause-acknowledged g c = λ told.
    let s = g.D.Disk.state c.args.disk.now in
    let s1 = g.D.Disk.state c.begin.new.disk in
    let unbegun : c.args.journal.now.is_begun ≡ false = sym c.is_begun.ensures ∙ c.if-is_begun.false in
    let same = then-begun c.args.journal.now s s1 (c.requires.place told) unbegun (c.in_ok-begin.ensures.none told) (g.met.D.Disk.now_counts c.begin.new.disk told) in
    on-ok c.append-2.result (c.append-2.ensures.acknowledged told) (λ h i may. adds s s1 c.begin.new.self.gate c.args.sealed.now i same (h i may))

pub returns-clause-any_moment : goal.returns-clause-any_moment
returns-clause-any_moment g c = λ told.
    let s = g.D.Disk.state c.args.disk.now in
    let s1 = g.D.Disk.state c.begin.new.disk in
    let r = c.args.sealed.now in
    let unbegun : c.args.journal.now.is_begun ≡ false = sym c.is_begun.ensures ∙ c.if-is_begun.false in
    let place = c.requires.place told in
    let same = then-begun c.args.journal.now s s1 place unbegun (c.in_ok-begin.ensures.none told) (g.met.D.Disk.now_counts c.begin.new.disk told) in
    joined g.D.Disk.moment g.D.Disk.left_since c.args.disk.now c.begin.new.disk c.append-2.new.disk (KeepsOrAdds s r) (AppendLeaves s1 (placed c.begin.new.self.gate r))
    (weakened g.D.Disk.moment g.D.Disk.left_since c.args.disk.now c.begin.new.disk (NoneLeft s) (KeepsOrAdds s r) (c.in_ok-begin.ensures.any_moment told)
    (λ i left. begin-keeps c.args.journal.now s r i place unbegun left))
    (c.append-2.ensures.any_moment told)
    (λ i left. append-adds s s1 c.begin.new.self.gate r i same left)
