use Rattle.std.proofs.Common.{refl, sym, subst, ◌∙◌}
use Rattle.std.specs.Prelude.{Option}
use Rattle.std.proofs.lemmas.Result.{err_from_is_err_and}
use Rattle.mm_tree.specs.declared.refusal.Refusal.{Refusal}
use Rattle.mm_tree.specs.Trees.{tree_of}
use Rattle.mm_edit.specs.Inside.Sites.{gap_in}
use Rattle.mm_edit.specs.Plans.{IsRefusedBy, of_tree}
use Rattle.mm_edit.proofs.Targeting.{load_is, refused_so, unblamed}
use Rattle.mm_edit.proofs.planting.tree_for_load.Goals as goal

pub returns-in_err-site-clause-refused : goal.returns-in_err-site-clause-refused
returns-in_err-site-clause-refused g c = λ f s.
    let fine = unblamed f (g.K.Keeper.seen c.args.keeper.now).now c.in_err-site.field-0.0 s.1 s.2 (c.in_err-site.ensures.damaged s.0) in
    let p = err_from_is_err_and c.from_residual.result c.from_residual.ensures.1 in
    rw (p.1, p.2) fine

pub returns-in_err-planted-clause-refused : goal.returns-in_err-planted-clause-refused
returns-in_err-planted-clause-refused g c = λ f s.
    let e = c.in_err-planted.field-0.0 in
    let is = load_is (tree_of c.args.tree) f (gap_in c.in_ok-site.site) (c.in_ok-site.ensures.top f s refl) in
    let p = err_from_is_err_and c.from_residual-in_err-planted.result c.from_residual-in_err-planted.ensures.1 in
    rw (p.1, p.2) (subst (λ (r : Option Refusal). IsRefusedBy r (of_tree e)) (sym is) (refused_so e _ c.in_err-planted.ensures.refused))

pub returns-clause-accepted : goal.returns-clause-accepted
returns-clause-accepted g c = λ f s. load_is (tree_of c.args.tree) f (gap_in c.in_ok-site.site) (c.in_ok-site.ensures.top f s refl) ∙ c.in_ok-planted.ensures.accepted
