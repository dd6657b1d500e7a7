use Rattle.std.proofs.Common.{◌-◌}
use Rattle.mm_page.specs.Slots.{kept_page}
use Rattle.mm_page.proofs.SlotFacts.{kept-alike, mem-rests, by-index}
use Rattle.mm_page.proofs.mem_pages.MemPagesPages.free.Goals as goal

pub returns-clause-rests : goal.returns-clause-rests
returns-clause-rests c =
    let xs = c.args.self.now.slots.items in
    mem-rests _ _ 0 (kept-alike c.args.self.now.kept_header xs c.release.new.slots.items (by-index kept_page xs c.release.new.slots.items (c.args.number - 1) c.release.ensures.others c.release.ensures.kept))
