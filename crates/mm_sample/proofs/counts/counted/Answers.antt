use Rattle.std.proofs.Common.{◌≡◌, ℕ, ◌++◌, [], ◌∷◌, List, codes, map, sym, ap, ◌∙◌}
use Rattle.std.proofs.lemmas.List.{map-append}
use Rattle.std.proofs.lemmas.Iterator.Consumers.{YieldsList-end}
use Rattle.std.proofs.lemmas.Iterator.Splits.{YieldsList-from_lines}
use Rattle.std.specs.Str.Iter.{lines_rest}
use Rattle.std.specs.Str.Lines.{lines}
use Rattle.mm_sample.specs.Counts.{begins_with, begins_reply, number_behind, tells_found, commands_in, accepted_in, refused_in, answers_in, nodes_in}
use Rattle.mm_sample.proofs.Counting.{summed, latest}
use Rattle.mm_sample.proofs.counts.counted.Goals as goal

pub loop-line-preserved : goal.loop-line-preserved
loop-line-preserved c =
    let so_far : List (List ℕ) = map (λ x. x.now) c.loop-line.yielded in
    let line : List ℕ = c.in-Some.line.now in
    let more : map (λ x. x.now) (c.loop-line.yielded ++ c.in-Some.line ∷ []) ≡ so_far ++ line ∷ [] = map-append (λ x. x.now) c.loop-line.yielded (c.in-Some.line ∷ []) in
    let was = c.loop-line.invariant in
    let now = c.count.ensures in
    record {
      commands = summed begins_reply (λ l. 1) so_far line _ _ was.commands now.commands ∙ ap commands_in (sym more);
      accepted = summed (begins_with (codes "ok")) (λ l. 1) so_far line _ _ was.accepted now.accepted ∙ ap accepted_in (sym more);
      refused = summed (begins_with (codes "no")) (λ l. 1) so_far line _ _ was.refused now.refused ∙ ap refused_in (sym more);
      answers = summed tells_found number_behind so_far line _ _ was.answers now.answers ∙ ap answers_in (sym more);
      nodes = latest so_far line _ _ was.nodes now.nodes ∙ ap nodes_in (sym more);
    }

all_yielded : (c : goal.In-None) → map (λ x. x.now) c.loop-line.yielded ≡ lines c.args.replies.now
all_yielded c = (YieldsList-end (YieldsList-from_lines c.args.replies.now (ap lines_rest c.into_iter-line-iterator.ensures.into_iter_gives ∙ c.lines-line-items.ensures.rest)) c.loop-line.yielded _ c.loop-line.yielded_by _ _ c.in-None.is c.next.ensures.steps).0

pub returns-clause-commands : goal.returns-clause-commands
returns-clause-commands c = c.loop-line.invariant.commands ∙ ap commands_in (all_yielded c)

pub returns-clause-accepted : goal.returns-clause-accepted
returns-clause-accepted c = c.loop-line.invariant.accepted ∙ ap accepted_in (all_yielded c)

pub returns-clause-refused : goal.returns-clause-refused
returns-clause-refused c = c.loop-line.invariant.refused ∙ ap refused_in (all_yielded c)

pub returns-clause-answers : goal.returns-clause-answers
returns-clause-answers c = c.loop-line.invariant.answers ∙ ap answers_in (all_yielded c)

pub returns-clause-nodes : goal.returns-clause-nodes
returns-clause-nodes c = c.loop-line.invariant.nodes ∙ ap nodes_in (all_yielded c)
