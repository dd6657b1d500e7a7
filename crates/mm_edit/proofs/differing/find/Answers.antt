use Rattle.std.proofs.Common.{rules, ◌≡◌, ◌∙◌, ap, sym, true, false, Some, None, List, ℕ, Option}
use Rattle.std.specs.Prelude.{option_map, bytes_eq, if◌then◌else◌}
use Rattle.std.proofs.lemmas.List.Sorted.{IsPartitionPoint-from_clause}
use Rattle.mm_keeper.specs.Entries.{below}
use Rattle.mm_image.specs.declared.entry.Entry.{Entry}
use Rattle.mm_edit.proofs.Halving.{chosen, entries_parted, found_is, pair}
use Rattle.mm_edit.proofs.differing.find.Goals as goal
use Rattle.mm_edit.proofs.differing.find.Goals.{in_default-via-in-Some+else-eq, in_default-via-in_default}

pub returns-in-Some : goal.returns-in-Some
returns-in-Some c = λ s.
    let m = c.args.entries.now in
    let k = c.args.key.now in
    let e = c.in-Some.entry.now in
    let eq : bytes_eq e.key k ≡ true = ap (λ (z : List ℕ). bytes_eq z k) (sym c.as_slice.ensures) ∙ sym c.eq.ensures ∙ c.if-eq.true in
    sym (found_is k m c.partition_point-place.result (IsPartitionPoint-from_clause (λ e. below e.key k) m _ c.partition_point-place.ensures.partitioned (entries_parted k m s.rises) (λ a r q h. search rules)) c.partition_point-place.ensures.bound
    ∙ ap (λ (o : Option Entry). chosen k (option_map pair o)) (sym c.in-Some.ensures)
    ∙ ap (λ b. if b then Some e.value else None) eq)

pub returns-in_default : goal.returns-in_default
returns-in_default c = λ s.
    let m = c.args.entries.now in
    let k = c.args.key.now in
    sym (found_is k m c.partition_point-place.result (IsPartitionPoint-from_clause (λ e. below e.key k) m _ c.partition_point-place.ensures.partitioned (entries_parted k m s.rises) (λ a r q h. search rules)) c.partition_point-place.ensures.bound
    ∙ elim c.in_default.branch [
      | in_default-via-in-Some+else-eq w ↦
          let e = w.in-Some.entry.now in
          let eq : bytes_eq e.key k ≡ false = ap (λ (z : List ℕ). bytes_eq z k) (sym w.as_slice.ensures) ∙ sym w.eq.ensures ∙ w.if-eq.false in
          ap (λ (o : Option Entry). chosen k (option_map pair o)) (sym w.in-Some.ensures) ∙ ap (λ b. if b then Some e.value else None) eq
      | in_default-via-in_default w ↦ ap (λ (o : Option Entry). chosen k (option_map pair o)) (sym w.in_default.ensures)
    ])
