use Rattle.std.proofs.Common.{rules, ◌≡◌, ◌<◌, ◌-◌, ℕ, [], ◌∷◌, List, cond, length, take, drop, length-drop, arith, get_or, sym, ap, subst, ◌∙◌}
use Rattle.std.proofs.lemmas.List.{take_all}
use Rattle.mm_host.specs.declared.call.Call.{Call}
use Rattle.mm_host.specs.Disk.{Range, area_of, range_at}
use Rattle.mm_host.specs.MemoryDisk.{state_of}
use Rattle.mm_host.specs.Inside.Holding.{ranges_after_all, is_inside}
use Rattle.mm_host.proofs.Left.{kept-bytes, loose-ranges, filled-bytes}
use Rattle.mm_host.proofs.crash.replay_filled.Goals as goal

pub returns : goal.returns
returns c = λ past made calls.
    let area = c.args.area in
    let byte = c.args.byte in
    let from = c.unsynced_from-from.result in
    let a = area_of (state_of past) area in
    let replayed = c.in_ok-bytes.bytes.items in
    let ranged = c.fill_calls.new.bytes.items in
    let count = c.len-count.result in
    let now : replayed ≡ a.now = kept-bytes past area c.args.made.now c.args.calls.now made calls replayed c.in_ok-bytes.ensures in
    let stable : c.in_ok-stable.stable.items ≡ a.stable = c.in_ok-stable.ensures past made calls in
    let calls_since = take (length c.args.calls.now - from) (drop from c.args.calls.now) in
    let rest : calls_since ≡ drop from c.args.calls.now = take_all (length c.args.calls.now - from) (drop from c.args.calls.now) (omega (arith, length-drop from c.args.calls.now)) in
    let loose : a.loose ≡ ranges_after_all area calls_since [] =
    loose-ranges past area c.args.made.now c.args.calls.now made calls from c.unsynced_from-from.ensures ∙ ap (λ (l : List Call). ranges_after_all area l []) (sym rest) in
    let long : count ≡ length ranged = c.len-count.ensures ∙ search rules in
    let stable_long : c.len.result ≡ length a.stable = c.len.ensures ∙ (search rules ∙ ap length stable) in
    filled-bytes byte a ranged c.fill.new.bytes.items count (c.fill_calls.ensures.len ∙ ap length now) c.fill.ensures.len long
    (λ k h.
    c.fill_calls.ensures.each k (subst (λ (l : List ℕ). k < length l) (sym now) h)
    ∙ ap (λ (rs : List Range). cond (is_inside rs k) byte (get_or replayed k 0)) (sym loose) ∙ ap (λ (l : List ℕ). cond (is_inside a.loose k) byte (get_or l k 0)) now)
    (λ k h. c.fill.ensures.each k h ∙ ap (λ (n : ℕ). cond (is_inside (range_at n count ∷ []) k) byte (get_or ranged k 0)) stable_long)
