use Rattle.std.proofs.Common.{◌≡◌, ◌+◌, [], get_or, sym, ap, ap₂, ◌∙◌, subst, arith}
use Rattle.std.specs.Prelude.{Some}
use Rattle.std.proofs.lemmas.Option.{slice_get-get_or}
use Rattle.mm_page.specs.Leaf.{entries_of, block}
use Rattle.mm_page.proofs.Rows.{IsEntry, leaf-entry}
use Rattle.mm_page.proofs.find.entry_in.Goals.{After-read_two-at}
use Rattle.mm_page.proofs.find.entry_in.Goals as goal

entry : (c : After-read_two-at) → IsEntry c.args.bytes.now c.args.index c.read_two-at.result (get_or (entries_of c.args.bytes.now) c.args.index ([], []))
entry c =
    let bytes = c.args.bytes.now in
    let e = leaf-entry bytes c.args.index c.requires.leaf c.requires.index in
    subst (λ t. IsEntry bytes c.args.index t (get_or (entries_of bytes) c.args.index ([], []))) (sym (c.read_two-at.ensures.number ∙ e.slot)) e

pub read_two-at-requires : goal.read_two-at-requires
read_two-at-requires c = omega (arith, (leaf-entry c.args.bytes.now c.args.index c.requires.leaf c.requires.index).slots, c.requires.leaf.size)

pub read_two-key-requires : goal.read_two-key-requires
read_two-key-requires c = omega (arith, (entry (goal.at.read_two-key-requires c).After-read_two-at).room, c.requires.leaf.size)

pub read_two-value-requires : goal.read_two-value-requires
read_two-value-requires c = omega (arith, (entry (goal.at.read_two-value-requires c).After-read_two-at).room, c.requires.leaf.size)

pub part-key_part-requires : goal.part-key_part-requires
part-key_part-requires c =
    let e = entry (goal.at.part-key_part-requires c).After-read_two-at in
    omega (arith, e.room, e.here.key_length, c.read_two-key.ensures.number, c.requires.leaf.size)

pub part-value_part-requires : goal.part-value_part-requires
part-value_part-requires c =
    let e = entry (goal.at.part-value_part-requires c).After-read_two-at in
    omega (arith, e.room, e.here.key_length, e.here.value_length, c.read_two-key.ensures.number, c.read_two-value.ensures.number, c.requires.leaf.size)

pub returns : goal.returns
returns c =
    let bytes = c.args.bytes.now in
    let at = c.read_two-at.result in
    let e = entry (goal.at.returns c).After-read_two-at in
    let k = c.read_two-key.ensures.number in
    let v = c.read_two-value.ensures.number in
    let same : (c.part-key_part.result.now, c.part-value_part.result.now) ≡ get_or (entries_of bytes) c.args.index ([], []) = ap₂ (λ x y. (x, y))
    (c.part-key_part.ensures ∙ ap (λ t. block (at + 4) t bytes) k ∙ e.here.key)
    (c.part-value_part.ensures ∙ ap₂ (λ s t. block (at + 4 + s) t bytes) k v ∙ e.here.value) in
    slice_get-get_or (entries_of bytes) c.args.index ([], []) c.requires.index ∙ ap (λ t. Some t) (sym same)
