use Rattle.std.proofs.Common.{◌≡◌, ◌++◌, [], ◌∷◌, ℕ, List, sym, ap, subst, ◌∙◌}
use Rattle.mm_host.specs.Inside.Holding.{FollowsFromCalls, put_in}
use Rattle.mm_host.specs.declared.call.Call.{Call}
use Rattle.mm_host.specs.declared.call.Call.TheVariants.{Write}
use Rattle.mm_host.proofs.Left.{write-follows}
use Rattle.mm_host.proofs.history.History.write.Goals as goal

pub invariant_of-self-2 : goal.invariant_of-self-2
invariant_of-self-2 c =
    let h = c.self.inside in
    let a = c.args in
    let call = Write a.area a.at a.bytes.now a.failed in
    let items : c.push_reserved.new.self.items ≡ h.calls.items ++ call ∷ [] =
    c.push_reserved.ensures.items ∙ ap (λ (l : List Call). l ++ Write a.area a.at c.in_ok-copy.copy a.failed ∷ []) c.reserve.ensures.items
    ∙ ap (λ (b : List ℕ). h.calls.items ++ Write a.area a.at b a.failed ∷ []) c.in_ok-copy.ensures in
    subst (FollowsFromCalls c.put.new.pages c.put.new.journal) (sym items)
    (write-follows h.pages h.journal c.put.new.pages c.put.new.journal h.calls.items a.area a.at a.bytes.now a.failed c.self.invariant c.put.ensures.pages c.put.ensures.journal
    (c.in_ok-put.ensures.ok ∙ ap (put_in (record { pages = h.pages.current; journal = h.journal.current }) a.area a.at) c.put_part.ensures))
