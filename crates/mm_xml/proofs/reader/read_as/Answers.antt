use Rattle.std.proofs.lemmas.Result.{err_from_is_err_and}
use Rattle.std.specs.Str.{chars}
use Rattle.mm_xml.specs.Inside.Builds.{order_of}
use Rattle.mm_xml.proofs.ReaderFacts.{too_deep, no_outline}
use Rattle.mm_xml.proofs.reader.read_as.Goals as goal

pub returns-in_err-find_tree-in-Err-TooDeep : goal.returns-in_err-find_tree-in-Err-TooDeep
returns-in_err-find_tree-in-Err-TooDeep c =
    let p = err_from_is_err_and c.from_residual.result c.from_residual.ensures.1 in
    rw (p.1, p.2) (no_outline c.in_err-find_tree-in-Err-TooDeep.field-0.0 (order_of c.args.order) (chars c.args.text.now) c.in_err-find_tree-in-Err-TooDeep.ensures)

pub returns-in_ok-find_tree-in-Err-TooDeep : goal.returns-in_ok-find_tree-in-Err-TooDeep
returns-in_ok-find_tree-in-Err-TooDeep c = too_deep (order_of c.args.order) (chars c.args.text.now) (rw c.in-Err-TooDeep.field-0-is at c.in-Err-TooDeep.ensures) c.in_ok-find_tree-in-Err-TooDeep.ensures
