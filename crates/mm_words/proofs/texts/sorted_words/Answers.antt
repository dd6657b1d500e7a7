use Rattle.std.proofs.Common.{subst, sym}
use Rattle.mm_words.specs.Words.{IsSetOf}
use Rattle.mm_words.proofs.Sets.{set_of}
use Rattle.mm_words.proofs.texts.sorted_words.Goals as goal

pub returns : goal.returns
returns c =
    subst (IsSetOf c.args.words.items) (sym c.from_vec.ensures)
    (set_of c.args.words.items c.sort.new.self.items c.dedup.new.self.items c.in_ok-sort.ensures.permutation c.in_ok-sort.ensures.sorted c.dedup.ensures.filtered)
