use Rattle.std.proofs.Common.{arith, ◌≡◌, ap, sym, ◌∙◌, true, false}
use Rattle.std.specs.Prelude.{map}
use Rattle.std.specs.List.{prefix_len}
use Rattle.mm_tree.specs.Numbering.{node_of}
use Rattle.mm_tree.specs.Inside.Ways.{change_of, at_index}
use Rattle.mm_tree.proofs.PlaceFacts.{on_ok, on_err, none_on_way, on_way_at, set_back, off_way, below_set, same_list}
use Rattle.mm_tree.proofs.forest.edit.+edit_below.Goals as goal

pub returns-then-at-len-clause-ok : goal.returns-then-at-len-clause-ok
returns-then-at-len-clause-ok t c =
    let x = c.args.target.now in
    let i : c.way-at.result ≡ prefix_len (off_way x) c.args.trees.now = c.way-at.ensures ∙ ap (λ ns. prefix_len (off_way x) ns) c.as_slice.ensures in
    sym (none_on_way (change_of c.args.edit) x c.args.trees.now (omega (arith, c.if-at-len.true, i, c.len.ensures)))

pub returns-then-is_same-clause-ok : goal.returns-then-is_same-clause-ok
returns-then-is_same-clause-ok t c =
    let x = c.args.target.now in
    let i : c.way-at.result ≡ prefix_len (off_way x) c.args.trees.now = c.way-at.ensures ∙ ap (λ ns. prefix_len (off_way x) ns) c.as_slice.ensures in
    on_ok c.edit_at.result (λ e. e
    ∙ ap (λ ns. at_index (change_of c.args.edit) c.way-at.result (map node_of ns)) (set_back c.args.trees.now c.way-at.result c.at_mut-node.result.now c.at_mut-node.ensures.value)
    ∙ sym (on_way_at (change_of c.args.edit) x c.args.trees.now c.at_mut-node.result.now c.way-at.result true i c.at_mut-node.ensures.value (sym c.if-is_same.true ∙ c.is_same.ensures))) c.edit_at.ensures.ok

pub returns-then-is_same-clause-err : goal.returns-then-is_same-clause-err
returns-then-is_same-clause-err t c = on_err c.edit_at.result (λ e. e ∙ set_back c.args.trees.now c.way-at.result c.at_mut-node.result.now c.at_mut-node.ensures.value) c.edit_at.ensures.err

pub returns-clause-ok : goal.returns-clause-ok
returns-clause-ok t c =
    let x = c.args.target.now in
    let f = change_of c.args.edit in
    let i : c.way-at.result ≡ prefix_len (off_way x) c.args.trees.now = c.way-at.ensures ∙ ap (λ ns. prefix_len (off_way x) ns) c.as_slice.ensures in
    let n = c.at_mut-node.result.now in
    on_ok c.edit_below.result (λ e. below_set f x c.args.trees.now c.way-at.result n c.edit_below.new.trees c.at_mut-node.ensures.value e
    ∙ sym (on_way_at f x c.args.trees.now n c.way-at.result false i c.at_mut-node.ensures.value (sym c.if-is_same.false ∙ c.is_same.ensures))) c.edit_below.ensures.ok

pub returns-clause-err : goal.returns-clause-err
returns-clause-err t c = on_err c.edit_below.result (λ e. same_list c.args.trees.now c.way-at.result c.at_mut-node.result.now c.edit_below.new.trees c.at_mut-node.ensures.value e) c.edit_below.ensures.err
