use Rattle.mm_page.specs.Facts.Heading.{head-back, head-right}
use Rattle.mm_page.proofs.mem_pages.MemPagesPages.header.Goals as goal

pub returns-clause-header : goal.returns-clause-header
returns-clause-header c _ = head-back c.args.self.now.header c.args.self.now.right

pub returns-clause-right : goal.returns-clause-right
returns-clause-right c _ = head-right c.args.self.now.header c.args.self.now.right
