-- Where two maps swap parts, their difference is that of the parts, and the parts tell the weight.
use Rattle.std.proofs.Common.{◌≡◌, refl, ap, sym, ◌∙◌, Bool, true, false, ◌+◌, arith}
use Rattle.std.specs.Prelude.{is_some, Some, None, if◌then◌else◌, not, ◌&&◌}
use Rattle.mm_keeper.specs.Entries.{Entry, Entries, Rises, IsSorted, has, weight_of}
use Rattle.mm_edit.specs.Difference.{Key, is_value, holds, gone, changed}
use Rattle.mm_edit.specs.Inside.Finding.{find}
use Rattle.mm_edit.specs.Inside.Swapping.{within_keys, outside_keys, Swaps}
use Rattle.mm_edit.proofs.Keys.{same_self}
use Rattle.mm_edit.proofs.Lookups.{Value, has_is, lookup_is}
use Rattle.mm_edit.proofs.Filters.{each_so, filter_same, filter_twice, rises-filter, keep, find-filter, each_found, weight_parts}

-- ---- what the parts find

abbrev pub among : Bool → Value → Value
among t r = if t then r else None

pub find_within : (inside : Key → Bool) (m : Entries) (k : Key) → Rises m → find (within_keys inside m) k ≡ among (inside k) (find m k)
find_within inside m k r = find-filter (λ e. inside e.0) m k r ∙ by (find m k) (inside k)
  where
    by : (f : Value) (t : Bool) → keep (λ e. t) k f ≡ among t f
    by None true = refl
    by None false = refl
    by (Some v) t = refl

find_outside : (inside : Key → Bool) (m : Entries) (k : Key) → Rises m → inside k ≡ false → find (outside_keys inside m) k ≡ find m k
find_outside inside m k r h = find-filter (λ e. not (inside e.0)) m k r ∙ by (find m k) (inside k) h
  where
    by : (f : Value) (t : Bool) → t ≡ false → keep (λ e. not t) k f ≡ f
    by None t h = refl
    by (Some v) true h = absurd cc
    by (Some v) false h = refl

pub find_outside_at : (inside : Key → Bool) (m : Entries) (k : Key) → Rises m → find (outside_keys inside m) k ≡ among (not (inside k)) (find m k)
find_outside_at inside m k r = find-filter (λ e. not (inside e.0)) m k r ∙ by (find m k) (not (inside k))
  where
    by : (f : Value) (t : Bool) → keep (λ e. t) k f ≡ among t f
    by None true = refl
    by None false = refl
    by (Some v) t = refl

same_outside : (inside : Key → Bool) (old new : Entries) (k : Key) → Rises old → Rises new → outside_keys inside old ≡ outside_keys inside new → inside k ≡ false → find old k ≡ find new k
same_outside inside old new k r s o h = sym (find_outside inside old k r h) ∙ ap (λ m. find m k) o ∙ find_outside inside new k s h

-- ---- the difference is that of the parts

gone_local : (inside : Key → Bool) (old new : Entries) → Rises old → Rises new → outside_keys inside old ≡ outside_keys inside new
    → gone old new ≡ gone (within_keys inside old) (within_keys inside new)
gone_local inside old new r s o =
    filter_same (λ e. not (has new e.0)) (λ e. inside e.0 && not (has given e.0)) old (each_so _ _ old at (each_found old r))
    ∙ sym (filter_twice (λ e. not (has given e.0)) (λ e. inside e.0) old)
  where
    given : Entries
    given = within_keys inside new

    at : (e : Entry) → find old e.0 ≡ Some e.1 → not (has new e.0) ≡ inside e.0 && not (has given e.0)
    at e f =
        ap not (has_is e.0 new s) ∙ by (inside e.0) refl
        ∙ ap (λ b. inside e.0 && not b) (sym (has_is e.0 given (rises-filter (λ e. inside e.0) new s) ∙ ap is_some (find_within inside new e.0 s)))
      where
        by : (t : Bool) → inside e.0 ≡ t → not (is_some (find new e.0)) ≡ t && not (is_some (among t (find new e.0)))
        by true h = refl
        by false h = ap (λ z. not (is_some z)) (sym (same_outside inside old new e.0 r s o h) ∙ f)

changed_local : (inside : Key → Bool) (old new : Entries) → Rises old → Rises new → outside_keys inside old ≡ outside_keys inside new
    → changed old new ≡ changed (within_keys inside old) (within_keys inside new)
changed_local inside old new r s o =
    filter_same (λ e. not (holds old e)) (λ e. inside e.0 && not (holds taken e)) new (each_so _ _ new at (each_found new s))
    ∙ sym (filter_twice (λ e. not (holds taken e)) (λ e. inside e.0) new)
  where
    taken : Entries
    taken = within_keys inside old

    at : (e : Entry) → find new e.0 ≡ Some e.1 → not (holds old e) ≡ inside e.0 && not (holds taken e)
    at e f =
        ap (λ z. not (is_value e.1 z)) (lookup_is e.0 old r) ∙ by (inside e.0) refl
        ∙ ap (λ z. inside e.0 && not (is_value e.1 z)) (sym (lookup_is e.0 taken (rises-filter (λ e. inside e.0) old r) ∙ find_within inside old e.0 r))
      where
        by : (t : Bool) → inside e.0 ≡ t → not (is_value e.1 (find old e.0)) ≡ t && not (is_value e.1 (among t (find old e.0)))
        by true h = refl
        by false h = ap (λ z. not (is_value e.1 z)) (same_outside inside old new e.0 r s o h ∙ f) ∙ ap not (same_self e.1)

pub difference_is_local : (inside : Key → Bool) (old new taken given : Entries) → IsSorted old → IsSorted new → Swaps inside old new taken given
    → (gone old new ≡ gone taken given) × (changed old new ≡ changed taken given)
difference_is_local inside old new taken given r s w = (
  gone_local inside old new r.rises s.rises w.others ∙ ap (λ z. gone z (within_keys inside new)) w.taken_is ∙ ap (λ z. gone taken z) w.given_is,
  changed_local inside old new r.rises s.rises w.others ∙ ap (λ z. changed z (within_keys inside new)) w.taken_is ∙ ap (λ z. changed taken z) w.given_is,
)

pub weight_is_local : (inside : Key → Bool) (old new taken given : Entries) → Swaps inside old new taken given → weight_of new + weight_of taken ≡ weight_of old + weight_of given
weight_is_local inside old new taken given w =
    let o = weight_parts (λ e. inside e.0) old in
    let n = weight_parts (λ e. inside e.0) new in
    let t = ap weight_of w.taken_is in
    let g = ap weight_of w.given_is in
    let k = ap weight_of w.others in
    omega (arith, o, n, t, g, k)
