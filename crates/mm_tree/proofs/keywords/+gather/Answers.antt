use Rattle.mm_tree.proofs.Gathering.{gathered_more}
use Rattle.mm_tree.proofs.keywords.+gather.Goals as goal
use Rattle.std.proofs.Common.{ap, ◌∙◌, ◌++◌, List}
use Rattle.mm_tree.specs.declared.node.Node.{Node}
use Rattle.mm_tree.specs.Numbering.{forest_of}
use Rattle.mm_tree.specs.Search.{list_of, worded}
use Rattle.mm_tree.specs.KeywordLists.{list_in}

pub loop-node-preserved : goal.loop-node-preserved
loop-node-preserved t c = record {
  lists = λ w.
      gathered_more c.args.nodes.now c.loop-node.node-index c.node-item.result w (list_in c.loop-node.lists w) (list_in c.put_words.new.lists w) (list_in c.gather.new.lists w) _
      c.loop-node-test.true c.node-item.is (c.loop-node.invariant.lists w) (c.in_ok-put_words.ensures.lists w)
      (c.in_ok-gather.ensures.lists w ∙ ap (λ (ns : List Node). list_in c.put_words.new.lists w ++ list_of w (worded (forest_of ns))) c.as_slice.ensures);
  filled = λ f. c.in_ok-gather.ensures.filled (c.in_ok-put_words.ensures.filled (c.loop-node.invariant.filled f));
}
