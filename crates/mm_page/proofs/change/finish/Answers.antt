use Rattle.std.proofs.Common.{◌≡◌, ◌+◌, ◌*◌, sym, ap, ◌∙◌, subst}
use Rattle.mm_page.specs.Leaf.{pasted, entries_at, two}
use Rattle.mm_page.specs.Inside.Rows.{IsRow}
use Rattle.mm_page.proofs.Writing.{IsFinished, finish-all, finish-room, entries-length, row-there, row-headed, headed}
use Rattle.mm_page.proofs.change.finish.Goals.{After-write_two-4, After-clear_from}
use Rattle.mm_page.proofs.change.finish.Goals as goal

head : (c : After-write_two-4) → c.write_two-4.new.bytes ≡ headed c.args.bytes.now c.args.count
head c = c.write_two-4.ensures.bytes ∙ ap (λ t. pasted t 14 (two 0)) (c.write_two-3.ensures.bytes ∙ ap (λ t. pasted t 12 (two 0)) (c.write_two-2.ensures.bytes ∙ ap (λ t. pasted t 2 (two c.args.count)) c.write_two.ensures.bytes))

done : (c : After-clear_from) → IsFinished c.args.bytes.now c.clear_from.new.bytes (entries_at c.args.bytes.now c.args.count (16 + 2 * c.args.count))
done c =
    let a = c.write_two-4.ensures.bytes ∙ ap (λ t. pasted t 14 (two 0)) (c.write_two-3.ensures.bytes ∙ ap (λ t. pasted t 12 (two 0)) (c.write_two-2.ensures.bytes ∙ ap (λ t. pasted t 2 (two c.args.count)) c.write_two.ensures.bytes)) in
    finish-all c.args.bytes.now c.args.count c.write_slots-end.result c.write_two-4.new.bytes c.write_slots-end.new.bytes c.clear_from.new.bytes c.requires.row a c.write_slots-end.ensures.slots c.write_slots-end.ensures.end c.clear_from.ensures

pub write_slots-end-requires : goal.write_slots-end-requires
write_slots-end-requires c =
    let n = c.args.count in
    let old = c.args.bytes.now in
    let a = head (goal.at.write_slots-end-requires c).After-write_two-4 in
    record { row = subst (λ t. IsRow t (entries_at t n (16 + 2 * n))) (sym a) (row-there (headed old n) (entries_at old n (16 + 2 * n)) n (sym (entries-length old n (16 + 2 * n))) (row-headed old (entries_at old n (16 + 2 * n)) n c.requires.row)) }

pub clear_from-requires : goal.clear_from-requires
clear_from-requires c =
    let a = head (goal.at.clear_from-requires c).After-write_two-4 in
    finish-room c.args.bytes.now c.args.count c.write_slots-end.result c.write_two-4.new.bytes c.write_slots-end.new.bytes c.requires.row a c.write_slots-end.ensures.slots c.write_slots-end.ensures.end

pub returns-clause-leaf : goal.returns-clause-leaf
returns-clause-leaf c = (done (goal.at.returns-clause-leaf c).After-clear_from).leaf

pub returns-clause-entries : goal.returns-clause-entries
returns-clause-entries c = (done (goal.at.returns-clause-entries c).After-clear_from).entries

pub returns-clause-next : goal.returns-clause-next
returns-clause-next c = (done (goal.at.returns-clause-next c).After-clear_from).next

pub returns-clause-tidy : goal.returns-clause-tidy
returns-clause-tidy c = (done (goal.at.returns-clause-tidy c).After-clear_from).tidy
