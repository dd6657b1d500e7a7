-- Stored entries gone over beside those that are due.
use Rattle.std.proofs.Common.{IfSome, map, append_assoc, ◌≡◌, ℕ, ℤ, ◌++◌, get_or, zero, suc, ◌+◌, ◌<◌, ◌≤◌, Bool, true, false, cond, List, [], ◌∷◌, length, drop, refl, ap, sym, subst, ◌∙◌, Option, Some, None, option_map, arith}
use Rattle.std.specs.Prelude.{flat_map, nat_lt, slice_get}
use Rattle.std.proofs.lemmas.Bool.Decides.{nat_tests}
use Rattle.mm_keeper.specs.Entries.{Entries, Entry, within}
use Rattle.mm_keeper.specs.Keeping.{Seen}
use Rattle.mm_check.specs.Blame.{first_difference}
use Rattle.mm_check.specs.Reading.{not_due}
use Rattle.mm_list.specs.Facts.{drop_at}
use Rattle.mm_image.specs.Keys.{count_key, occurrence_key}
use Rattle.byteorder.specs.Endian.{big_bytes}
use Rattle.mm_check.specs.declared.stop.Stop.{Stop}
use Rattle.mm_check.specs.declared.verdict.Named.{Named}
use Rattle.mm_check.specs.Inside.Stopping.{Tells, counted_list, from, listed}

pub there : (m : Entries) (i : ℕ) → i < length m → (e : Entry) × (slice_get m i ≡ Some e)
there [] i h = absurd (omega arith)
there (e ∷ m) zero h = (e, refl)
there (e ∷ m) (suc i) h = there m i (omega arith)

split : (m : Entries) (i : ℕ) (e : Entry) → slice_get m i ≡ Some e → drop i m ≡ e ∷ drop (suc i) m
split [] i e h = absurd cc
split (x ∷ m) zero e h = let p : x ≡ e = cc in ap (λ (y : Entry). y ∷ m) p
split (x ∷ m) (suc i) e h = split m i e h

past_end : (m : Entries) (i : ℕ) → length m ≤ i → drop i m ≡ []
past_end [] zero h = refl
past_end [] (suc i) h = refl
past_end (x ∷ m) zero h = absurd (omega arith)
past_end (x ∷ m) (suc i) h = past_end m i (omega arith)

pub from_within : (m : Entries) (i : ℕ) → from m (within m i) ≡ drop i m
from_within m i = by (nat_lt i (length m)) refl
  where
    beyond : (i n : ℕ) → nat_lt i n ≡ false → n ≤ i
    beyond i n e = grind (arith, nat_tests)

    by : (t : Bool) → nat_lt i (length m) ≡ t → from m (cond t (Some i) None) ≡ drop i m
    by true e = refl
    by false e = sym (past_end m i (beyond i (length m) e))

-- the entry at a place, and those from the next one on
pub from_next : (m : Entries) (i : ℕ) (e : Entry) → slice_get m i ≡ Some e → from m (Some i) ≡ e ∷ from m (within m (i + 1))
from_next m i e h = split m i e h ∙ ap (λ (l : Entries). e ∷ l) (ap (λ (k : ℕ). drop k m) (next i) ∙ sym (from_within m (i + 1)))
  where
    next : (i : ℕ) → suc i ≡ i + 1
    next i = omega arith

pub same_entry : (d e : Entry) → Some d ≡ Some e → d ≡ e
same_entry d e q = cc

-- ---- over the entry at a spot

module _ {S : Type 0} (x : Seen S) (spot : S) (stands : x.place spot < length x.now) (d : Entry) (due : Entries) where
  here : (at : Option S) → at ≡ Some spot → (e : Entry) → slice_get x.now (x.place spot) ≡ Some e → from x.now (option_map x.place at) ≡ e ∷ from x.now (within x.now (x.place spot + 1))
  here at a e h = ap (λ (o : Option S). from x.now (option_map x.place o)) a ∙ from_next x.now (x.place spot) e h

  pub passed : (at : Option S) (y : Seen S) (o : Option S) → at ≡ Some spot → y ≡ x → option_map y.place o ≡ within y.now (y.place spot + 1)
      → ((e : Entry) → slice_get x.now (x.place spot) ≡ Some e → (stored due : Entries) → first_difference (e ∷ stored) (d ∷ due) ≡ first_difference stored due)
      → first_difference (from x.now (option_map x.place at)) (d ∷ due) ≡ first_difference (from x.now (option_map x.place o)) due
  passed at y o a same f c =
      let t = there x.now (x.place spot) stands in
      let g : option_map x.place o ≡ within x.now (x.place spot + 1) = subst (λ (z : Seen S). option_map z.place o ≡ within z.now (z.place spot + 1)) same f in
      ap (λ (l : Entries). first_difference l (d ∷ due)) (here at a t.0 t.1)
      ∙ c t.0 t.1 (from x.now (within x.now (x.place spot + 1))) due
      ∙ ap (λ (p : Option ℕ). first_difference (from x.now p) due) (sym g)

  pub stops_here : (at : Option S) (s : Stop) → at ≡ Some spot → ((e : Entry) → slice_get x.now (x.place spot) ≡ Some e → (stored due : Entries) → Tells (first_difference (e ∷ stored) (d ∷ due)) s)
      → Tells (first_difference (from x.now (option_map x.place at)) (d ∷ due)) s
  stops_here at s a c =
      let t = there x.now (x.place spot) stands in
      subst (λ (l : Entries). Tells (first_difference l (d ∷ due)) s) (sym (here at a t.0 t.1)) (c t.0 t.1 (from x.now (within x.now (x.place spot + 1))) due)

-- what differs from a spot on
abbrev pub differs : {S : Type 0} → Seen S → Option S → Entries → Option Named
differs x at due = first_difference (from x.now (option_map x.place at)) due

pub listed_next : (w : List ℕ) (labels : List (List ℤ)) (i : ℕ) (l : List ℤ) (key : List ℕ) (due : Entries) → i < length labels → l ≡ get_or labels i l → key ≡ occurrence_key w l
    → listed (w, drop i labels) ++ due ≡ (key, []) ∷ (listed (w, drop (i + 1) labels) ++ due)
listed_next w labels i l key due h e k = ap (λ (ls : List (List ℤ)). listed (w, ls) ++ due) (drop_at labels i l h e) ∙ ap (λ (z : List ℕ). (z, []) ∷ (listed (w, drop (i + 1) labels) ++ due)) (sym k)

-- where none is due, the first one that stands there differs
pub none_due : {S : Type 0} (x : Seen S) (at : Option S) (spot : S) (e : Entry) → at ≡ Some spot → slice_get x.now (x.place spot) ≡ Some e → differs x at [] ≡ Some (not_due e)
none_due {S} x at spot e a h = ap (λ (o : Option S). differs x o []) a ∙ ap (λ (l : Entries). first_difference l []) (from_next x.now (x.place spot) e h)

-- the parts of a list of words, one after the other
pub part_next : {A : Type 0} (f : A → Entries) (left rest : List A) (p : A) (due : Entries) → left ≡ p ∷ rest → flat_map f left ++ due ≡ f p ++ (flat_map f rest ++ due)
part_next {A} f left rest p due e = ap (λ (l : List A). flat_map f l ++ due) e ∙ append_assoc (f p) (flat_map f rest) due

-- what was told of a later spot, or differs from it, is told of the first one, and differs from it
pub told_onward : {S : Type 0} (x y : Seen S) (first at : Option S) (all now more : Entries) (s : Stop) → y ≡ x → differs x first all ≡ differs x at now → now ≡ more → Tells (differs y at more) s → Tells (differs x first all) s
told_onward {S} x y first at all now more s same p q t = subst (λ (n : Option Named). Tells n s) (sym (p ∙ ap (differs x at) q)) (subst (λ (z : Seen S). Tells (differs z at more) s) same t)

pub differs_onward : {S : Type 0} (x y : Seen S) (first at next : Option S) (all now more rest : Entries) → y ≡ x → differs x first all ≡ differs x at now → now ≡ more → differs y at more ≡ differs y next rest → differs x first all ≡ differs x next rest
differs_onward {S} x y first at next all now more rest same p q t = p ∙ ap (differs x at) q ∙ subst (λ (z : Seen S). differs z at more ≡ differs z next rest) same t

pub stands_onward : {S : Type 0} (x y : Seen S) (o : Option S) → y ≡ x → IfSome o (λ s. y.place s < length y.now) → IfSome o (λ s. x.place s < length x.now)
stands_onward {S} x y o e h = subst (λ (z : Seen S). IfSome o (λ s. z.place s < length z.now)) e h

-- how many entries are left from a spot on
abbrev pub left_from : {S : Type 0} → Seen S → Option S → ℕ
left_from x o = length (from x.now (option_map x.place o))

pub left_onward : {S : Type 0} (x y : Seen S) (first at next : Option S) (a b c : ℕ) → y ≡ x → b + left_from x at ≤ a + left_from x first → c + left_from y next ≤ b + left_from y at → c + left_from x next ≤ a + left_from x first
left_onward {S} x y first at next a b c e p q = let u = subst (λ (z : Seen S). c + left_from z next ≤ b + left_from z at) e q in omega (arith, p, u)

-- the count of a word at the front of those that are left
pub count_next : (left rest : List (List ℕ × List (List ℤ))) (word : List ℕ) (labels : List (List ℤ)) (key value : List ℕ) (due : Entries) → left ≡ (word, labels) ∷ rest → key ≡ count_key word → value ≡ big_bytes 8 (length labels)
    → map counted_list left ++ due ≡ (key, value) ∷ (map counted_list rest ++ due)
count_next left rest word labels key value due e k v =
    ap (λ (l : List (List ℕ × List (List ℤ))). map counted_list l ++ due) e
    ∙ ap (λ (z : List ℕ). (z, big_bytes 8 (length labels)) ∷ (map counted_list rest ++ due)) (sym k)
    ∙ ap (λ (z : List ℕ). (key, z) ∷ (map counted_list rest ++ due)) (sym v)
