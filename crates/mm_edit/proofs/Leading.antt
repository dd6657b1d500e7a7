-- The difference of two maps leads from the one to the other, and is no more than that.
use Rattle.std.proofs.Common.{◌≡◌, refl, ap, ◌∙◌, Bool, true, false}
use Rattle.std.specs.Prelude.{is_some, Some, None, if◌then◌else◌, not, bytes_eq}
use Rattle.mm_label.specs.Fronts.{Within}
use Rattle.mm_label.specs.Facts.Members.{within_in}
use Rattle.mm_keeper.specs.Entries.{Entry, Entries, IsSorted, has, lookup}
use Rattle.mm_edit.specs.Difference.{Key, keys, is_value, holds, gone, changed, without_all, put_all, carried_out}
use Rattle.mm_edit.specs.Inside.Finding.{find}
use Rattle.mm_edit.specs.Laws.{DifferenceLeads, DifferenceIsApart, DifferenceRises, DifferenceIsLeast}
use Rattle.mm_edit.proofs.Keys.{same}
use Rattle.mm_edit.proofs.Lookups.{Value, has_is, lookup_is, same_entries, rises-put_all, rises-without_all, find-put_all, find-without_all}
use Rattle.mm_edit.proofs.Filters.{each_found, each_within, filter_passes, rises-filter, keep, find-filter}

pub difference_leads : DifferenceLeads
difference_leads old new r s =
    same_entries (carried_out (keys g) c old) new (rises-put_all c m (rises-without_all g old r.rises)) s.rises at
  where
    g : Entries
    g = gone old new

    c : Entries
    c = changed old new

    m : Entries
    m = without_all (keys g) old

    gone_finds : (q : Key) → find g q ≡ keep (λ e. not (has new e.0)) q (find old q)
    gone_finds q = find-filter (λ e. not (has new e.0)) old q r.rises

    changed_finds : (q : Key) → find c q ≡ keep (λ e. not (holds old e)) q (find new q)
    changed_finds q = find-filter (λ e. not (holds old e)) new q s.rises

    by : (q : Key) (o n : Value) (h : Bool) → h ≡ is_some n
        → (if is_some (keep (λ e. not (is_value e.1 o)) q n) then keep (λ e. not (is_value e.1 o)) q n else (if is_some (keep (λ e. not h) q o) then None else o)) ≡ n
    by q None None h e = refl
    by q (Some u) None true e = absurd cc
    by q (Some u) None false e = refl
    by q None (Some v) h e = refl
    by q (Some u) (Some v) false e = absurd cc
    by q (Some u) (Some v) true e = value (bytes_eq u v) refl
      where
        value : (t : Bool) → bytes_eq u v ≡ t → (if is_some (if not t then Some v else None) then (if not t then Some v else None) else Some u) ≡ Some v
        value true p = ap (λ z. Some z) (same u v p)
        value false p = refl

    -- the same words at one key
    turned : (q : Key) (o : Value) (h : Bool) (n : Value) → lookup old q ≡ o → has new q ≡ h
        → (keep (λ e. not (holds old e)) q n ≡ keep (λ e. not (is_value e.1 o)) q n) × (keep (λ e. not (has new e.0)) q (find old q) ≡ keep (λ e. not h) q (find old q))
    turned q o h n p x = (first n, second (find old q))
      where
        first : (n : Value) → keep (λ e. not (holds old e)) q n ≡ keep (λ e. not (is_value e.1 o)) q n
        first None = refl
        first (Some v) = ap (λ z. if not (is_value v z) then Some v else None) p

        second : (f : Value) → keep (λ e. not (has new e.0)) q f ≡ keep (λ e. not h) q f
        second None = refl
        second (Some v) = ap (λ z. if not z then Some v else None) x

    at : (q : Key) → find (put_all c m) q ≡ find new q
    at q =
        let t = turned q (find old q) (has new q) (find new q) (lookup_is q old r.rises) refl in
        find-put_all c m q (rises-filter (λ e. not (holds old e)) new s.rises) (rises-without_all g old r.rises)
        ∙ ap (λ z. if is_some (find c q) then find c q else z) (find-without_all g old q r.rises ∙ ap (λ z. if is_some z then None else find old q) (gone_finds q ∙ t.1))
        ∙ ap (λ z. if is_some z then z else (if is_some (keep (λ e. not (has new q)) q (find old q)) then None else find old q)) (changed_finds q ∙ t.0)
        ∙ by q (find old q) (find new q) (has new q) (has_is q new s.rises)

-- an entry of a map has its key there
pub has_within : (m : Entries) → IsSorted m → (e : Entry) → Within e m → has m e.0 ≡ true
has_within m r e w = has_is e.0 m r.rises ∙ ap is_some (each_within (λ d. find m d.0 ≡ Some d.1) m (each_found m r.rises) e w)

not_so : (b : Bool) → not b ≡ true → b ≡ false
not_so true h = absurd cc
not_so false h = refl

pub difference_is_apart : DifferenceIsApart
difference_is_apart old new s k v w =
    let d = within_in (λ (e : Entry). e.0) k (gone old new) v in
    let e = within_in (λ (e : Entry). e.0) k (changed old new) w in
    let p = not_so (has new d.0.0) (filter_passes (λ (e : Entry). not (has new e.0)) old d.0 d.1).1 in
    let q = has_within new s e.0 (filter_passes (λ (e : Entry). not (holds old e)) new e.0 e.1).0 in
    let r : has new k ≡ false = ap (has new) d.2 ∙ p in
    let t : has new k ≡ true = ap (has new) e.2 ∙ q in absurd cc

pub difference_rises : DifferenceRises
difference_rises old new r s = (record { rises = rises-filter (λ e. not (has new e.0)) old r.rises }, record { rises = rises-filter (λ e. not (holds old e)) new s.rises })

pub difference_is_least : DifferenceIsLeast
difference_is_least old new r = (
  λ e w. has_within old r e (filter_passes (λ (e : Entry). not (has new e.0)) old e w).0,
  λ e w. not_so (holds old e) (filter_passes (λ (e : Entry). not (holds old e)) new e w).1,
)
