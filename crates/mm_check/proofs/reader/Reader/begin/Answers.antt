use Rattle.std.proofs.Common.{◌≡◌, ◌∙◌, ◌+◌, ap, sym, true, false, Some, Err, arith}
use Rattle.mm_keeper.specs.Entries.{Entry}
use Rattle.mm_image.specs.Keys.{chunk_key}
use Rattle.mm_check.specs.Reading.{hangs}
use Rattle.mm_check.specs.Inside.Reader.{as_place, may_begin}
use Rattle.mm_check.proofs.Stepping.{begun, first_open, hangs_told, may_all, not_begun, not_high, not_hung, not_zero, way_told}
use Rattle.mm_check.proofs.reader.Reader.begin.Goals as goal
use Rattle.mm_check.proofs.reader.Reader.begin.Goals.{then-spot-ne0-via-then-spot-ne0, then-spot-ne0-via-else-spot-ne0+then-not-hangs, then-spot-ne0-via-else-spot-ne0+else-not-hangs+then-not-is_top_or_low}

pub returns-then-spot-ne0-clause-begins : goal.returns-then-spot-ne0-clause-begins
returns-then-spot-ne0-clause-begins c = λ nodes number kept before label way.
    let p = as_place c.args.spot in
    let value = c.args.value.now in
    let hung = hangs_told p.label nodes c.args.self.now.path c.takes-hangs.result way kept.order kept.labels before c.takes-hangs.ensures.takes in
    let never : may_begin nodes p value ≡ false = elim c.then-spot-ne0.branch [
      | then-spot-ne0-via-then-spot-ne0 w ↦ not_zero nodes p value w.if-spot-ne0.true
      | then-spot-ne0-via-else-spot-ne0+then-not-hangs w ↦ not_hung nodes p value (sym hung ∙ w.if-not-hangs.true)
      | then-spot-ne0-via-else-spot-ne0+else-not-hangs+then-not-is_top_or_low w ↦ not_high nodes p value (sym w.is_top_or_low.ensures ∙ w.if-not-is_top_or_low.true)
    ] in
    not_begun nodes p (c.args.key.now, value) never ∙ ap Err (sym c.in_ok-not_due.ensures)

pub returns-clause-begins : goal.returns-clause-begins
returns-clause-begins c = λ nodes number kept before label way.
    let p = as_place c.args.spot in
    let e : Entry = (c.args.key.now, c.args.value.now) in
    let hung : hangs nodes p.label ≡ true = sym (hangs_told p.label nodes c.args.self.now.path c.takes-hangs.result way kept.order kept.labels before c.takes-hangs.ensures.takes) ∙ c.if-not-hangs.false in
    let may = may_all nodes p e.1 c.if-spot-ne0.false hung (sym c.is_top_or_low.ensures ∙ c.if-not-is_top_or_low.false) in
    record {
      node = first_open p e.1;
      stands = record {
        number = ap (λ n. n + 1) number ∙ omega arith;
        kept = kept;
        way = way_told p.label nodes c.args.self.now.path c.takes-hangs.new.path way kept.order before c.takes-hangs.ensures.left;
        node = ap (λ z. Some (first_open p z)) (sym c.in_ok-from_slice.ensures.items);
        later = (before, label);
      };
      key = ap (chunk_key p.label) (sym c.if-spot-ne0.false) ∙ c.requires.key;
      same = λ es. begun nodes p e es may c.requires.key;
    }
