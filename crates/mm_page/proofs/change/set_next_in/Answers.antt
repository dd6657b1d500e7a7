use Rattle.std.proofs.Common.{sym, ap, ◌∙◌, subst, arith}
use Rattle.byteorder.specs.Numbers.{length-bytes_high_first}
use Rattle.mm_page.specs.Leaf.{IsLeaf, entries_of, next_of}
use Rattle.mm_page.proofs.Linking.{linked}
use Rattle.mm_page.proofs.change.set_next_in.Goals as goal

pub returns-clause-leaf : goal.returns-clause-leaf
returns-clause-leaf c =
    let w = linked c.args.bytes.now c.args.next (omega arith) (length-bytes_high_first 8 c.args.next) c.requires.leaf in
    subst (λ t. IsLeaf t) (sym c.write_eight.ensures.bytes) w.leaf

pub returns-clause-entries : goal.returns-clause-entries
returns-clause-entries c =
    let w = linked c.args.bytes.now c.args.next (omega arith) (length-bytes_high_first 8 c.args.next) c.requires.leaf in
    ap entries_of c.write_eight.ensures.bytes ∙ w.entries

pub returns-clause-next : goal.returns-clause-next
returns-clause-next c =
    let w = linked c.args.bytes.now c.args.next (omega arith) (length-bytes_high_first 8 c.args.next) c.requires.leaf in
    ap next_of c.write_eight.ensures.bytes ∙ w.next
