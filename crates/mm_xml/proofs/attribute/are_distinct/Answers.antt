use Rattle.std.proofs.Common.{◌≡◌, sym, ap, ◌∙◌, [], ◌∷◌, ◌||◌, rules}
use Rattle.std.specs.Prelude.{is_some}
use Rattle.std.specs.List.{list_any}
use Rattle.std.specs.Str.{bytes_eq}
use Rattle.mm_xml.proofs.DistinctFacts.{holds_more, goes_on, seen_twice, all_differ}
use Rattle.mm_xml.proofs.attribute.are_distinct.Goals as goal

pub loop-attribute-init : goal.loop-attribute-init
loop-attribute-init c = ([], λ q. search rules, all_differ c.args.attributes.now)

pub returns-then-is_some : goal.returns-then-is_some
returns-then-is_some c =
    let i = c.loop-attribute.invariant in
    let was : is_some c.in_ok-insert.field-0 ≡ list_any (λ n. bytes_eq c.attribute-item.result.name n) i.0 =
    ap is_some c.in_ok-insert.ensures.old ∙ i.1 c.as_str.result.now ∙ ap (λ q. list_any (λ n. bytes_eq q n) i.0) c.as_str.ensures in
    seen_twice i.0 c.args.attributes.now c.loop-attribute.attribute-index c.attribute-item.result (is_some c.in_ok-insert.field-0) c.loop-attribute-test.true c.attribute-item.is (sym was) (sym c.is_some.ensures ∙ c.if-is_some.true) i.2

pub loop-attribute-preserved : goal.loop-attribute-preserved
loop-attribute-preserved c =
    let i = c.loop-attribute.invariant in
    let was : is_some c.in_ok-insert.field-0 ≡ list_any (λ n. bytes_eq c.attribute-item.result.name n) i.0 =
    ap is_some c.in_ok-insert.ensures.old ∙ i.1 c.as_str.result.now ∙ ap (λ q. list_any (λ n. bytes_eq q n) i.0) c.as_str.ensures in
    (c.attribute-item.result.name ∷ i.0, λ q. holds_more c.as_str.result.now i.0 c.loop-attribute.seen c.insert.new.self c.in_ok-insert.ensures.updates i.1 q ∙ ap (λ n. bytes_eq q n || list_any (λ m. bytes_eq q m) i.0) c.as_str.ensures, goes_on i.0 c.args.attributes.now c.loop-attribute.attribute-index c.attribute-item.result (is_some c.in_ok-insert.field-0) c.loop-attribute-test.true c.attribute-item.is (sym was) (sym c.is_some.ensures ∙ c.if-is_some.false) i.2)
