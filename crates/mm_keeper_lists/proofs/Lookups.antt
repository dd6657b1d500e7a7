-- The entries at the places that a keeper answers.
use Rattle.std.proofs.Common.{inl, inr, ◌≡◌, ℕ, zero, suc, ◌≤◌, Bool, true, false, cond, List, [], ◌∷◌, refl, ap, sym, subst, Option, Some, None, length, arith}
use Rattle.std.specs.Prelude.{nat_lt, slice_get, IsTrue}
use Rattle.mm_host.specs.declared.damage.Damage.TheVariants as damage
use Rattle.mm_host.specs.declared.damage.Fault.{Fault}
use Rattle.mm_host.specs.declared.damage.Fault.TheVariants.{DiskFault, Damaged, Spent, Memory}
use Rattle.mm_label.specs.Fronts.{Within}
use Rattle.mm_words.specs.Words.{is_word}
use Rattle.mm_tree.specs.Trees.{Trees}
use Rattle.mm_tree.specs.Numbering.{Labelled}
use Rattle.mm_tree.specs.Forests.{is_well_formed}
use Rattle.mm_lists.specs.Causes.{BlamesOnly, IsSound}
use Rattle.mm_keeper.specs.Entries.{Entry, Entries, IsSorted, rank, within, first_from, last_to, index_of}
use Rattle.mm_image.specs.Keys.{count_key}
use Rattle.mm_image.specs.Image.{image}
use Rattle.mm_image.specs.Facts.Finding.{IsUp, IsDown, IsAt, up_found, down_found, at_found}
use Rattle.mm_image.specs.Looking.{entry_at}
use Rattle.mm_image.specs.Facts.Members.{occurrence_of, listed_label}
use Rattle.mm_keeper_lists.specs.Found.{Blames, BlamesCount, IsDamageOf}

get_past : {X : Type 0} (m : List X) (i : ℕ) → length m ≤ i → slice_get m i ≡ None
get_past [] i h = refl
get_past (d ∷ m) zero h = absurd (omega (arith, h))
get_past (d ∷ m) (suc i) h = get_past m i (omega (arith, h))

entry_within : (m : Entries) (i : ℕ) → entry_at m (within m i) ≡ slice_get m i
entry_within m i = by (nat_lt i (length m)) refl
  where
    by : (b : Bool) → nat_lt i (length m) ≡ b → entry_at m (cond b (Some i) None) ≡ slice_get m i
    by true e = refl
    by false e = sym (get_past m i (grind arith))

-- ---- over an image

-- the entry at which the keeper stands after `up`, `down` or `get`
pub up_is : (m : Entries) (k : List ℕ) → IsSorted m → IsUp m k (entry_at m (first_from m k))
up_is m k s = subst (IsUp m k) (sym (entry_within m (rank m k))) (up_found m k s.rises)

pub down_is : (m : Entries) (k : List ℕ) → IsSorted m → IsDown m k (entry_at m (last_to m k))
down_is m k s = down_found m k s.rises

pub at_is : (m : Entries) (k : List ℕ) → IsSorted m → IsAt m k (entry_at m (index_of m k))
at_is m k s = at_found m k s.rises

-- what was found stands in the map
abbrev pub Stands : Entries → Option Entry → Type 0
Stands m None = Unit {0}
Stands m (Some e) = Within e m

pub stands_at : (m : Entries) (at : Option ℕ) → Stands m (entry_at m at)
stands_at m None = tt
stands_at m (Some i) = there m i
  where
    later : (d : Entry) (m : Entries) (o : Option Entry) → Stands m o → Stands (d ∷ m) o
    later d m None h = tt
    later d m (Some e) h = inr h

    there : (m : Entries) (i : ℕ) → Stands m (slice_get m i)
    there [] i = tt
    there (d ∷ m) zero = inl refl
    there (d ∷ m) (suc i) = later d m (slice_get m i) (there m i)

-- over an image no key is found broken
pub unbroken : (w : List ℕ) → is_word w ≡ true → (f : Trees Labelled) → IsTrue (is_well_formed f) → (found : Option Entry) → Stands (image f) found → (fault : Fault) → Blames w found fault → IsSound fault
unbroken w g f k found i DiskFault b = tt
unbroken w g f k found i Spent b = tt
unbroken w g f k found i Memory b = tt
unbroken w g f k None i (Damaged d) b = absurd b
unbroken w g f k (Some e) i (Damaged (damage.Key key)) b =
    let t = occurrence_of w b.1.0 e f g i b.1.1 in
    absurd (b.1.2 t.0 (listed_label w f k t.0 t.1) (sym t.2))
unbroken w g f k (Some e) i (Damaged d) b = absurd b

-- ---- over any map

-- what a look-up tells to be damaged is damaged in the map
pub label_damaged : (m : Entries) (w : List ℕ) → IsTrue (is_word w) → (found : Option Entry) → Stands m found → (fault : Fault) → Blames w found fault → BlamesOnly (IsDamageOf m) fault
label_damaged m w g found i DiskFault b = tt
label_damaged m w g found i Spent b = tt
label_damaged m w g found i Memory b = tt
label_damaged m w g None i (Damaged d) b = absurd b
label_damaged m w g (Some e) i (Damaged (damage.Key key)) b = (e, i, (w, g, inl b.1), ap damage.Key b.0)
label_damaged m w g (Some e) i (Damaged d) b = absurd b

pub count_damaged : (m : Entries) (w : List ℕ) → IsTrue (is_word w) → (found : Option Entry) → IsAt m (count_key w) found → (fault : Fault) → BlamesCount found fault → BlamesOnly (IsDamageOf m) fault
count_damaged m w g found i DiskFault b = tt
count_damaged m w g found i Spent b = tt
count_damaged m w g found i Memory b = tt
count_damaged m w g None i (Damaged d) b = absurd b
count_damaged m w g (Some e) i (Damaged (damage.Key key)) b = (e, i.0, (w, g, inr (i.1, b.1)), ap damage.Key b.0)
count_damaged m w g (Some e) i (Damaged d) b = absurd b
