use Rattle.std.proofs.Common.{[], ◌≡◌}
use Rattle.mm_tree.specs.Search.{list_of, worded}
use Rattle.mm_lists.specs.Lists.{head_of}
use Rattle.mm_keeper_lists.specs.Inside.Finding.{TellsUp}
use Rattle.mm_keeper_lists.specs.Ranges.{range_key}
use Rattle.std.proofs.lemmas.Result.{IfOk-weaker}
use Rattle.mm_keeper_lists.proofs.Searching.{head_is}
use Rattle.mm_keeper_lists.proofs.lists.KeeperListsLists.first.Goals as goal

pub returns-clause-value : goal.returns-clause-value
returns-clause-value g c = λ f s. IfOk-weaker c.look_up.result (TellsUp f c.args.word.now (range_key c.args.word.now [])) (λ o. o ≡ head_of (list_of c.args.word.now (worded f))) (λ o u. head_is c.byte_order.ensures c.args.word.now c.look_up.ensures.word f s.1 u.0 o u.1 u.2) (c.look_up.ensures.value f s)
