use Rattle.std.proofs.Common.{◌∙◌, ap, sym, subst, List, [], None}
use Rattle.mm_label.specs.Between.{LiesBetween}
use Rattle.mm_tree.specs.declared.node.Node.{Node}
use Rattle.mm_tree.specs.Numbering.{forest_of, fits}
use Rattle.mm_tree.specs.Forests.{last_segment, next_label}
use Rattle.mm_tree.specs.Trees.{tree_of}
use Rattle.mm_tree.proofs.MeasureFacts.{node_count_fits}
use Rattle.mm_tree.proofs.LoadFacts.{Steps, steps_load, steps_accept, steps_form}
use Rattle.mm_tree.proofs.forest.load_behind.Goals as goal
use Rattle.mm_tree.proofs.forest.load_behind.Goals.{In_ok-push}

steps : (c : In_ok-push) → Steps c.args.trees.now c.push.new.self c.in_ok-numbered.numbered c.args.tree c.in_ok-label.label c.is_text.result
steps c = record {
  formed = c.requires.formed;
  valid = c.requires.valid;
  text_is = c.is_text.ensures;
  no_text = c.if-is_text.false;
  levels_fit = c.in-Some.ensures.0;
  label = c.in_ok-label.ensures.label.0 ∙ ap (λ (ns : List Node). next_label (forest_of ns)) c.as_slice.ensures;
  label_fits = ap (λ (ns : List Node). fits (next_label (forest_of ns))) (sym c.as_slice.ensures) ∙ c.in_ok-label.ensures.label.1;
  lies = subst (λ (ns : List Node). LiesBetween (last_segment [] None (forest_of ns)) c.in_ok-label.label None) c.as_slice.ensures c.in_ok-label.ensures.lies;
  numbered = c.in_ok-numbered.ensures.0;
  below_fits = c.in_ok-numbered.ensures.1;
  pushed = c.in_ok-push.ensures.ok;
}

pub returns-clause-loaded : goal.returns-clause-loaded
returns-clause-loaded c = steps_load c.args.trees.now c.push.new.self c.in_ok-numbered.numbered c.args.tree c.in_ok-label.label c.is_text.result (steps c)

pub returns-clause-accepted : goal.returns-clause-accepted
returns-clause-accepted c = steps_accept c.args.trees.now c.push.new.self c.in_ok-numbered.numbered c.args.tree c.in_ok-label.label c.is_text.result (steps c)

pub returns-clause-formed : goal.returns-clause-formed
returns-clause-formed c = steps_form c.args.trees.now c.push.new.self c.in_ok-numbered.numbered c.args.tree c.in_ok-label.label c.is_text.result (steps c)

pub returns-clause-nodes : goal.returns-clause-nodes
returns-clause-nodes c = node_count_fits (tree_of c.args.tree) c.in-Some.nodes c.requires.valid c.in-Some.ensures.1
