use Rattle.std.proofs.Common.{◌≡◌, ◌++◌, [], ◌∷◌, List, sym, ap, subst, ◌∙◌}
use Rattle.mm_host.specs.Inside.Holding.{FollowsFromCalls}
use Rattle.mm_host.specs.declared.call.Call.{Call}
use Rattle.mm_host.proofs.Left.{note-follows}
use Rattle.mm_host.proofs.history.History.note.Goals as goal

pub invariant_of-self-2 : goal.invariant_of-self-2
invariant_of-self-2 c =
    let h = c.self.inside in
    let items : c.push_reserved.new.self.items ≡ h.calls.items ++ c.args.call ∷ [] = c.push_reserved.ensures.items ∙ ap (λ (l : List Call). l ++ c.args.call ∷ []) c.reserve.ensures.items in
    subst (FollowsFromCalls h.pages h.journal) (sym items) (note-follows h.pages h.journal h.calls.items c.args.call c.self.invariant c.requires)
