use Rattle.std.proofs.Common.{◌≡◌, ◌≤◌, ℕ, List, length, take, sym, subst, rules}
use Rattle.std.proofs.lemmas.List.{length-take-le}
use Rattle.mm_label.specs.Label.{lca, IsLabel}
use Rattle.mm_label.proofs.HeldFacts.{IsMade}
use Rattle.mm_label.proofs.Shared.{lca_length, lca_none, lca_fits, lca_made}
use Rattle.mm_label.proofs.labels.lca.Goals as goal

pub returns-then-length-eq0 : goal.returns-then-length-eq0
returns-then-length-eq0 c =
    lca_none c.a.inside.bytes.items c.common_length-length.result c.args.a.now c.args.b.now c.a.invariant c.a.view_is
    (lca_length c.a.inside.bytes.items c.b.inside.bytes.items c.as_slice.result.now c.as_slice-2.result.now c.common_length-length.result c.args.a.now c.args.b.now c.as_slice.ensures c.as_slice-2.ensures c.a.view_is c.b.view_is c.common_length-length.ensures)
    c.if-length-eq0.true

pub slice_bounds-extend_from_slice-end : goal.slice_bounds-extend_from_slice-end
slice_bounds-extend_from_slice-end c =
    let n = c.common_length-length.result in
    let fits : n ≤ length c.a.inside.bytes.items =
    lca_fits c.a.inside.bytes.items n c.args.a.now c.args.b.now c.a.invariant c.a.view_is
    (lca_length c.a.inside.bytes.items c.b.inside.bytes.items c.as_slice.result.now c.as_slice-2.result.now n c.args.a.now c.args.b.now c.as_slice.ensures c.as_slice-2.ensures c.a.view_is c.b.view_is c.common_length-length.ensures) in
    sym (length-take-le n c.as_slice-3.result.now (subst (λ (zs : List ℕ). n ≤ length zs) (sym c.as_slice-3.ensures) fits))

made : (c : goal.In_ok-extend_from_slice) → IsMade c.extend_from_slice.new.self.items (lca c.args.a.now c.args.b.now)
made c =
    let n = c.common_length-length.result in
    let e : c.extend_from_slice.new.self.items ≡ take n c.a.inside.bytes.items = search rules in
    lca_made c.a.inside.bytes.items c.extend_from_slice.new.self.items n c.args.a.now c.args.b.now c.a.invariant c.a.view_is
    (lca_length c.a.inside.bytes.items c.b.inside.bytes.items c.as_slice.result.now c.as_slice-2.result.now n c.args.a.now c.args.b.now c.as_slice.ensures c.as_slice-2.ensures c.a.view_is c.b.view_is c.common_length-length.ensures)
    c.if-length-eq0.false e

pub invariant_of-result : goal.invariant_of-result
invariant_of-result c = (made c).spelled

pub returns : goal.returns
returns c = let m = made c in (m.same, subst IsLabel (sym m.same) m.label)
