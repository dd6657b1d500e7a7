-- Puts that keep a value's length have room, whatever the map weighs.
use Rattle.std.proofs.Common.{inl, inr, ◌≡◌, ◌≤◌, ◌+◌, ◌^◌, refl, ap, sym, ◌∙◌, Bool, true, false, List, ℕ, [], ◌∷◌, arith, length}
use Rattle.std.specs.Prelude.{is_some, Some, None, filter, if◌then◌else◌, not, option_map}
use Rattle.std.specs.Str.{bytes_eq}
use Rattle.mm_label.specs.Fronts.{Within}
use Rattle.mm_keeper.specs.Entries.{Entry, Entries, IsSorted, Rises, below, has, lookup, put, weight_of, without}
use Rattle.mm_keeper.specs.Facts.Keys.{Rises-put}
use Rattle.mm_edit.specs.Difference.{Key, changed, gone, holds, keys, without_all}
use Rattle.mm_edit.specs.Inside.Finding.{find}
use Rattle.mm_edit.specs.Plans.{HaveRoom}
use Rattle.mm_edit.proofs.Keys.{differs}
use Rattle.mm_edit.proofs.Filters.{filter_passes, find-filter, keep, rises-filter}
use Rattle.mm_edit.proofs.Leading.{has_within}
use Rattle.mm_edit.proofs.Lookups.{Value, find-put, find-without_all, lookup_is, rises-without_all}
use Rattle.mm_edit.proofs.Parts.{below_to}

-- each key is held with a value of this length
abbrev pub KeepLengths : Entries → Entries → Type 0
KeepLengths m es = (e : Entry) → Within e es → option_map length (lookup m e.0) ≡ Some (length e.1)

pub lengths_room : (es m : Entries) → Rises es → Rises m → KeepLengths m es → HaveRoom m es
lengths_room [] m s r h = tt
lengths_room (e ∷ es) m s r h = (inl (h e (inl refl)), lengths_room es (put m e.0 e.1) s.1 (Rises-put e.0 e.1 m r) (λ d i. ap (option_map length) (later d i) ∙ h d (inr i)))
  where
    later : (d : Entry) → Within d es → lookup (put m e.0 e.1) d.0 ≡ lookup m d.0
    later d i =
        lookup_is d.0 (put m e.0 e.1) (Rises-put e.0 e.1 m r) ∙ find-put e.0 e.1 m d.0 r
        ∙ ap (λ b. if b then Some e.1 else find m d.0) (differs e.0 d.0 (below_to e.0 es s.0 d i)) ∙ sym (lookup_is d.0 m r)

-- what is put isn't removed, so the removes leave it as it was
pub puts_stay : (m before after : Entries) → Rises m → Rises before → IsSorted after → KeepLengths m (changed before after) → KeepLengths (without_all (keys (gone before after)) m) (changed before after)
puts_stay m before after r b a h e i = ap (option_map length) stays ∙ h e i
  where
    g : Entries
    g = gone before after

    there : has after e.0 ≡ true
    there = has_within after a e (filter_passes (λ (e : Entry). not (holds before e)) after e i).0

    dropped : (o : Value) → keep (λ d. not (has after d.0)) e.0 o ≡ None
    dropped None = refl
    dropped (Some v) = ap (λ b. if not b then Some v else None) there

    no_remove : find g e.0 ≡ None
    no_remove = find-filter (λ d. not (has after d.0)) before e.0 b ∙ dropped (find before e.0)

    stays : lookup (without_all (keys g) m) e.0 ≡ lookup m e.0
    stays =
        lookup_is e.0 (without_all (keys g) m) (rises-without_all g m r) ∙ find-without_all g m e.0 r
        ∙ ap (λ o. if is_some o then None else find m e.0) no_remove ∙ sym (lookup_is e.0 m r)

pub difference_has_room : (m before after : Entries) → Rises m → Rises before → IsSorted after → KeepLengths m (changed before after) → HaveRoom (without_all (keys (gone before after)) m) (changed before after)
difference_has_room m before after r b a h =
    lengths_room (changed before after) (without_all (keys (gone before after)) m) (rises-filter (λ e. not (holds before e)) after a.rises) (rises-without_all (gone before after) m r)
    (puts_stay m before after r b a h)

-- ---- puts that don't fill the map

put_light : (k v : List ℕ) (m : Entries) → weight_of (put m k v) ≤ weight_of m + (length k + length v)
put_light k v [] = omega arith
put_light k v (e ∷ m) = by (below e.0 k) (bytes_eq e.0 k) (put_light k v m)
  where
    by : (a b : Bool) → weight_of (put m k v) ≤ weight_of m + (length k + length v)
        → weight_of (if a then e ∷ put m k v else (k, v) ∷ (if b then m else e ∷ m)) ≤ weight_of (e ∷ m) + (length k + length v)
    by true b h = omega (arith, h)
    by false true h = omega arith
    by false false h = omega arith

without_light : (k : List ℕ) (m : Entries) → weight_of (without m k) ≤ weight_of m
without_light k [] = omega arith
without_light k (e ∷ m) = by (below e.0 k) (bytes_eq e.0 k) (without_light k m)
  where
    by : (a b : Bool) → weight_of (without m k) ≤ weight_of m → weight_of (if a then e ∷ without m k else (if b then m else e ∷ m)) ≤ weight_of (e ∷ m)
    by true b h = omega (arith, h)
    by false true h = omega arith
    by false false h = omega arith

pub light_without : (ks : List Key) (m : Entries) → weight_of (without_all ks m) ≤ weight_of m
light_without [] m = omega arith
light_without (k ∷ ks) m = let t = light_without ks (without m k) in let u = without_light k m in omega (arith, t, u)

pub filter_light : (p : Entry → Bool) (m : Entries) → weight_of (filter p m) ≤ weight_of m
filter_light p [] = omega arith
filter_light p (e ∷ m) = by (p e) (filter_light p m)
  where
    by : (b : Bool) → weight_of (filter p m) ≤ weight_of m → weight_of (if b then e ∷ filter p m else filter p m) ≤ weight_of (e ∷ m)
    by true h = omega (arith, h)
    by false h = omega (arith, h)

pub light_room : (es m : Entries) → weight_of m + weight_of es ≤ 2 ^ 42 → HaveRoom m es
light_room [] m l = tt
light_room (e ∷ es) m l =
    let t = put_light e.0 e.1 m in
    (inr (omega (arith, l, t)), light_room es (put m e.0 e.1) (omega (arith, l, t)))
