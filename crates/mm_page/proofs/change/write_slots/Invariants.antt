use Rattle.std.proofs.Common.{◌≡◌, ◌+◌, ◌*◌, length, take}
use Rattle.mm_page.specs.Leaf.{pasted, slots, cells, entries_at}
use Rattle.mm_page.proofs.change.write_slots.Given as goal

abbrev pub invariant-walk : goal.invariant-walk
invariant-walk l =
    let m = entries_at l.fn.bytes l.count (16 + 2 * l.count) in
    record {
      bytes : l.bytes ≡ pasted l.fn.bytes 16 (slots (16 + 2 * l.count) (take l.i m));
      at : l.at ≡ 16 + 2 * l.count + length (cells (take l.i m));
    }
