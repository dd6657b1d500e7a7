use Rattle.mm_page.specs.Slots.{kept_page}
use Rattle.mm_page.proofs.SlotFacts.{kept-alike, mem-rests, each-index}
use Rattle.mm_page.proofs.mem_pages.MemPagesPages.settle.Goals as goal

pub returns-clause-rests : goal.returns-clause-rests
returns-clause-rests c =
    let xs = c.args.self.now.slots.items in
    mem-rests _ _ 0 (kept-alike c.args.self.now.kept_header xs c.mark_used.new.slots.items (each-index kept_page xs c.mark_used.new.slots.items c.mark_used.ensures.kept))
