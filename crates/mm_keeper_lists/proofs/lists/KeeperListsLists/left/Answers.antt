use Rattle.std.proofs.Common.{ℕ, List, [], ◌++◌, subst, ◌∙◌, append-nil}
use Rattle.std.proofs.lemmas.Result.{IfOk-weaker}
use Rattle.mm_image.specs.Image.{image}
use Rattle.mm_image.specs.Facts.Finding.{IsDown}
use Rattle.mm_tree.specs.Search.{list_of, worded}
use Rattle.mm_lists.specs.Lists.{IsLeft}
use Rattle.mm_keeper_lists.specs.Inside.Finding.{TellsDown}
use Rattle.mm_keeper_lists.specs.Ranges.{range_key}
use Rattle.mm_keeper_lists.proofs.Searching.{left_is}
use Rattle.mm_keeper_lists.proofs.lists.KeeperListsLists.left.Goals as goal

pub returns-clause-value : goal.returns-clause-value
returns-clause-value g c = λ f s.
    let w = c.args.word.now in
    IfOk-weaker c.look_down.result (TellsDown f w (range_key w (c.as_bytes.result.now ++ []))) (IsLeft (list_of w (worded f)) c.args.at.now) (λ o u. left_is c.byte_order.ensures w c.look_down.ensures.word f s.1 c.args.at.now c.as_bytes.ensures.label u.0 o
    (subst (λ (b : List ℕ). IsDown (image f) (range_key w (b)) u.0) (append-nil _ ∙ c.as_bytes.ensures.value) u.1) u.2) (c.look_down.ensures.value f s)
