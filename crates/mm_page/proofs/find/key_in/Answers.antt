use Rattle.std.proofs.Common.{◌≡◌, [], get_or, sym, ap, ◌∙◌}
use Rattle.std.specs.Prelude.{Some}
use Rattle.std.proofs.lemmas.Option.{slice_get-get_or}
use Rattle.mm_page.specs.Leaf.{entries_of}
use Rattle.mm_page.proofs.find.key_in.Goals as goal

pub returns : goal.returns
returns c =
    let m = entries_of c.args.bytes.now in
    let e : Some (c.entry_in.result.key.now, c.entry_in.result.value.now) ≡ Some (get_or m c.args.index ([], [])) = sym c.entry_in.ensures ∙ slice_get-get_or m c.args.index ([], []) c.requires.index in
    let same : (c.entry_in.result.key.now, c.entry_in.result.value.now) ≡ get_or m c.args.index ([], []) = cc in
    ap (λ t. t.0) same
