use Rattle.std.proofs.lemmas.Result.{err_from_is_err_and}
use Rattle.mm_tree.specs.Trees.{tree_of}
use Rattle.mm_edit.proofs.planting.tree_for_insert.Goals as goal

pub returns-in_err-site-clause-refused : goal.returns-in_err-site-clause-refused
returns-in_err-site-clause-refused g c = λ f s.
    let p = err_from_is_err_and c.from_residual.result c.from_residual.ensures.1 in
    rw (p.1, p.2) (c.in_err-site.ensures.refused f s (tree_of c.args.tree))
