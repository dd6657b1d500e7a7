use Rattle.std.proofs.Common.{◌≡◌, sym, ap, ◌∙◌, subst, arith}
use Rattle.std.specs.Prelude.{◌≤◌, ◌^◌, ◌↔◌, None}
use Rattle.byteorder.specs.Endian.{big_bytes}
use Rattle.byteorder.specs.Numbers.{length-bytes_high_first}
use Rattle.mm_page.specs.Header.{mark, header_of, header_fault, header_bytes}
use Rattle.mm_page.specs.Facts.Heading.{header-back, header-right}
use Rattle.mm_page.proofs.Linking.{header-written}
use Rattle.mm_page.proofs.header.Header.to_bytes.Goals.{After-write_eight-3}
use Rattle.mm_page.proofs.header.Header.to_bytes.Goals as goal

written : (c : After-write_eight-3) → c.write_eight-3.new.bytes ≡ header_bytes c.args.self
written c =
    header-written (big_bytes 8 mark) (big_bytes 8 c.args.self.pages) (big_bytes 8 c.args.self.first) _ _ _
    (length-bytes_high_first 8 mark) (length-bytes_high_first 8 c.args.self.pages) (length-bytes_high_first 8 c.args.self.first)
    c.write_eight.ensures.bytes c.write_eight-2.ensures.bytes c.write_eight-3.ensures.bytes

pub returns-clause-bytes : goal.returns-clause-bytes
returns-clause-bytes c = written (goal.at.returns-clause-bytes c).After-write_eight-3

pub returns-clause-reads_back : goal.returns-clause-reads_back
returns-clause-reads_back c = ap header_of (written (goal.at.returns-clause-reads_back c).After-write_eight-3) ∙ header-back c.args.self (omega arith) (omega arith)

pub returns-clause-sound : goal.returns-clause-sound
returns-clause-sound c = subst (λ t. (header_fault t ≡ None) ↔ ((2 ≤ c.args.self.pages) × (c.args.self.pages ≤ 2 ^ 43))) (sym (written (goal.at.returns-clause-sound c).After-write_eight-3)) (header-right c.args.self (omega arith) (omega arith))
