-- An entry is found by halving.
use Rattle.std.proofs.Common.{◌≡◌, ◌≤◌, ◌<◌, refl, ap, sym, ◌∙◌, subst, Bool, true, false, ℕ, zero, suc, List, [], ◌∷◌, length, get_or}
use Rattle.std.specs.Prelude.{Option, Some, None, option_map, if◌then◌else◌, slice_get, bytes_eq}
use Rattle.std.specs.List.Sorted.{IsPartitionPoint, IsPartitionedBy}
use Rattle.mm_keeper.specs.Entries.{Entries, below, Rises, rank, lookup}
use Rattle.mm_keeper.specs.Entries as keeper
use Rattle.mm_keeper.specs.Facts.Blocked.{items_parted, rank_is}
use Rattle.mm_image.specs.declared.entry.Entry.{Entry}
use Rattle.mm_image.specs.Keyed.{keyed}
use Rattle.mm_edit.specs.Difference.{Key}
use Rattle.mm_edit.proofs.Lookups.{Value}

abbrev pub pair : Entry → keeper.Entry
pair e = (e.key, e.value)

length_keyed : (xs : List Entry) → length (keyed xs) ≡ length xs
length_keyed [] = refl
length_keyed (x ∷ xs) = ap suc (length_keyed xs)

get_keyed : (xs : List Entry) (i : ℕ) (d : Entry) → get_or (keyed xs) i (pair d) ≡ pair (get_or xs i d)
get_keyed [] i d = refl
get_keyed (x ∷ xs) zero d = refl
get_keyed (x ∷ xs) (suc i) d = get_keyed xs i d

pub slice_keyed : (xs : List Entry) (i : ℕ) → slice_get (keyed xs) i ≡ option_map pair (slice_get xs i)
slice_keyed [] i = refl
slice_keyed (x ∷ xs) zero = refl
slice_keyed (x ∷ xs) (suc i) = slice_keyed xs i

pub entries_parted : (k : Key) (xs : List Entry) → Rises (keyed xs) → IsPartitionedBy (λ (e : Entry). below e.key k) xs
entries_parted k xs r i j d h l t =
    ap (λ (e : keeper.Entry). below e.0 k) (sym (get_keyed xs i d))
    ∙ items_parted k (keyed xs) r i j (pair d) h (subst (λ n. j < n) (sym (length_keyed xs)) l) (ap (λ (e : keeper.Entry). below e.0 k) (get_keyed xs j d) ∙ t)

-- what stands at the rank of a key is the key's entry, or the key has none
abbrev pub chosen : Key → Option keeper.Entry → Value
chosen k None = None
chosen k (Some e) = if bytes_eq e.0 k then Some e.1 else None

pub at_rank : (k : Key) (m : Entries) → lookup m k ≡ chosen k (slice_get m (rank m k))
at_rank k [] = refl
at_rank k (e ∷ m) = by (below e.0 k) (at_rank k m)
  where
    by : (b : Bool) → lookup m k ≡ chosen k (slice_get m (rank m k))
        → (if b then lookup m k else (if bytes_eq e.0 k then Some e.1 else None)) ≡ chosen k (slice_get (e ∷ m) (if b then suc (rank m k) else 0))
    by true h = h
    by false h = refl

unpair : keeper.Entry → Entry
unpair e = record { key = e.0; value = e.1 }

pub point_keyed : (k : Key) (xs : List Entry) (i : ℕ) → IsPartitionPoint (λ (e : Entry). below e.key k ≡ true) (λ e. below e.key k ≡ false) xs i
    → IsPartitionPoint (λ (e : keeper.Entry). below e.0 k ≡ true) (λ e. below e.0 k ≡ false) (keyed xs) i
unfolding unpair
point_keyed k xs i p = (
  λ j d h l. ap (λ (e : keeper.Entry). below e.0 k) (get_keyed xs j (unpair d)) ∙ p.0 j (unpair d) h l,
  λ j d h l. ap (λ (e : keeper.Entry). below e.0 k) (get_keyed xs j (unpair d)) ∙ p.1 j (unpair d) h (subst (λ n. j < n) (length_keyed xs) l),
)

-- what is found where the entries are parted
pub found_is : (k : Key) (xs : List Entry) (i : ℕ) → IsPartitionPoint (λ (e : Entry). below e.key k ≡ true) (λ e. below e.key k ≡ false) xs i → i ≤ length xs
    → lookup (keyed xs) k ≡ chosen k (option_map pair (slice_get xs i))
found_is k xs i p l =
    let e = rank_is k (keyed xs) i (point_keyed k xs i p) (subst (λ n. i ≤ n) (sym (length_keyed xs)) l) in
    at_rank k (keyed xs) ∙ ap (λ n. chosen k (slice_get (keyed xs) n)) (sym e) ∙ ap (chosen k) (slice_keyed xs i)
