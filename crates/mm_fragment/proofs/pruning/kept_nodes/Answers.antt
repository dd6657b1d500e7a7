use Rattle.std.proofs.Common.{ap, sym, subst, ◌∙◌, List}
use Rattle.std.proofs.lemmas.Result.{IfOk-weaker}
use Rattle.mm_label.specs.Fronts.{Ascends}
use Rattle.mm_match.specs.declared.mark.Mark.{Mark}
use Rattle.mm_match.specs.Marks.{kept, labels}
use Rattle.mm_fragment.proofs.pruning.kept_nodes.Goals as goal

pub returns : goal.returns
returns c =
    let given = c.in_ok-marked.ensures in
    IfOk-weaker c.prune.result _ _ (λ ks e. record {
      all = c.in_ok-marked.marked;
      masks = record { ordered = given.ordered; on_path = given.on_path; words = given.words };
      kept = e ∙ ap kept c.as_slice.ensures;
    }) (c.prune.ensures (subst (λ (ms : List Mark). Ascends (labels ms)) (sym c.as_slice.ensures) given.ordered))
