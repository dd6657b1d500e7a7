use Rattle.mm_page.specs.Slots.{kept_page}
use Rattle.mm_page.proofs.SlotFacts.{kept-alike, mem-rests, by-index, kept-added}
use Rattle.mm_page.proofs.mem_pages.MemPagesPages.fresh.Goals as goal

pub returns-in-Some-clause-rests : goal.returns-in-Some-clause-rests
returns-in-Some-clause-rests c =
    let xs = c.args.self.now.slots.items in
    mem-rests _ _ 1 (kept-alike c.args.self.now.kept_header xs c.renew.new.slots.items (by-index kept_page xs c.renew.new.slots.items c.in-Some.index c.renew.ensures.others c.renew.ensures.kept))

pub returns-in-Ok-add-clause-rests : goal.returns-in-Ok-add-clause-rests
returns-in-Ok-add-clause-rests c =
    let xs = c.args.self.now.slots.items in
    mem-rests _ _ 1 (kept-alike c.args.self.now.kept_header xs c.add.new.slots.items (kept-added xs c.in-Ok.page c.add.new.slots.items c.in-Ok-add.ensures.items))
