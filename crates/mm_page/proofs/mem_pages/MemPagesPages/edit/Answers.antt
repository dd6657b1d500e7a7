use Rattle.std.proofs.Common.{refl, sym, arith, true≢false}
use Rattle.mm_page.proofs.SlotFacts.{kept-alike, book-alike, mem-rests, mem-answers, mem-wants, edited-at}
use Rattle.mm_page.proofs.mem_pages.MemPagesPages.edit.Goals as goal

pub returns-in-Err : goal.returns-in-Err
returns-in-Err c =
    let a = c.set_apart.ensures.alike in
    let xs = c.args.self.now.slots.items in
    let ys = c.set_apart.new.slots.items in (
      (
        refl,
        (λ w t. absurd (true≢false (sym t))),
        (
          (λ _. book-alike c.args.self.now.header xs ys a.page a.used),
          omega (arith, a.long),
          mem-rests _ _ 1 (kept-alike c.args.self.now.kept_header xs ys a.kept),
          mem-wants _ _,
        ),
      ),
      record { rests = tt; lent = λ _. tt; damage = λ _ d q. absurd cc },
    )

pub returns : goal.returns
returns c =
    let a = c.set_apart.ensures.alike in
    let h = c.args.self.now.header in
    let xs = c.args.self.now.slots.items in
    let ys = c.set_apart.new.slots.items in (
      (
        refl,
        (
            λ w t. let e = edited-at h xs ys c.args.number c.index_mut.result.now w a c.requires.number c.in-Ok.ensures.apart c.index_mut.ensures.value in (
              (λ _. (e.changes, e.bytes, e.used)),
              omega (arith, e.long),
              mem-rests _ _ 1 (kept-alike c.args.self.now.kept_header xs _ e.kept),
              mem-answers _ _,
            )
            ),
        tt,
      ),
      record { rests = tt; lent = λ _. (edited-at h xs ys c.args.number c.index_mut.result.now c.index_mut.result.now.page a c.requires.number c.in-Ok.ensures.apart c.index_mut.ensures.value).lent; damage = λ _ d q. absurd cc },
    )
