-- The first entry of a map, before or behind 01.
use Rattle.std.proofs.Common.{◌≡◌, ℕ, Bool, false, cond, List, [], ◌∷◌, refl, ap, sym, subst, ◌∙◌, Option, Some, None, option_map, suc, Result, Ok, Err, arith}
use Rattle.std.specs.Prelude.{slice_get}
use Rattle.mm_keeper.specs.Entries.{Entries, Entry, below, first_from, rank, within}
use Rattle.mm_keeper.specs.Facts.InRange.{first_in_range}
use Rattle.mm_keeper.specs.Facts.Spots.{within-in}
use Rattle.mm_keeper.specs.Keeping.{Seen}
use Rattle.mm_check.specs.declared.stop.Stop.{Stop}
use Rattle.mm_check.specs.declared.stop.Stop.TheVariants as stop
use Rattle.mm_check.specs.Inside.Stopping.{Fronts, NamesBefore}
use Rattle.mm_check.proofs.Passing.{there}

-- no key is below the empty one
none_below : (m : Entries) → rank m [] ≡ 0
none_below [] = refl
none_below (e ∷ m) = ap (λ (b : Bool). cond b (suc (rank m [])) 0) (by e.0)
  where
    by : (k : List ℕ) → below k [] ≡ false
    by [] = refl
    by (b ∷ k) = refl

first_place : (m : Entries) → first_from m [] ≡ within m 0
first_place m = ap (within m) (none_below m)

empty : (m : Entries) → None ≡ within m 0 → m ≡ []
empty [] e = refl
empty (x ∷ m) e = let q : ◌≡◌ {A = Option ℕ} None (Some 0) = e ∙ sym (within-in (x ∷ m) 0 0 refl (omega arith)) in absurd cc

-- the first entry, where there is none
pub none_first : {S : Type 0} (x : Seen S) (o : Option S) → o ≡ None → option_map x.place o ≡ first_from x.now [] → rank x.now (1 ∷ []) ≡ 0
none_first x o a e = ap (λ (m : Entries). rank m (1 ∷ [])) (empty x.now (ap (option_map x.place) (sym a) ∙ e ∙ first_place x.now))

record First (m : Entries) (e : Entry) : Type 0 where
  rest : Entries
  is : m ≡ e ∷ rest

first_of : (m : Entries) (i : ℕ) (e : Entry) → Some i ≡ within m 0 → slice_get m i ≡ Some e → First m e
first_of [] i e p h = absurd cc
first_of (x ∷ m) i e p h =
    let o : Some i ≡ Some 0 = p ∙ sym (within-in (x ∷ m) 0 0 refl (omega arith)) in
    let z : i ≡ 0 = cc in
    let q : Some x ≡ Some e = sym (ap (slice_get (x ∷ m)) z) ∙ h in
    let r : x ≡ e = cc in record { rest = m; is = ap (λ (y : Entry). y ∷ m) r }

spot_first : {S : Type 0} (x : Seen S) (o : Option S) (spot : S) (e : Entry) → o ≡ Some spot → option_map x.place o ≡ first_from x.now [] → slice_get x.now (x.place spot) ≡ Some e → First x.now e
spot_first x o spot e a p h = first_of x.now (x.place spot) e (sym (ap (option_map x.place) a) ∙ p ∙ first_place x.now) h

fronts_of : {A : Type 0} (m : Entries) (e : Entry) (r : Result A Stop) → First m e → NamesBefore e r → Fronts m r
fronts_of m e (Ok x) f b = ap (λ (l : Entries). rank l (1 ∷ [])) f.is ∙ ap (λ (t : Bool). cond t (suc (rank f.rest (1 ∷ []))) 0) b
fronts_of m e (Err (stop.Named n)) f b = (e, f.rest, f.is, b.0, b.1)
fronts_of m e (Err (stop.Fault x)) f b = b

-- the first spot of a map, of which the same map is seen afterwards
pub fronts_at : {A S : Type 0} (x y : Seen S) (o : Option S) (spot : S) (r : Result A Stop) → y ≡ x → o ≡ Some spot → option_map x.place o ≡ first_from x.now [] → ((e : Entry) → slice_get y.now (y.place spot) ≡ Some e → NamesBefore e r) → Fronts x.now r
fronts_at {A} {S} x y o spot r s a p b =
    let t = there x.now (x.place spot) (first_in_range x.now [] (x.place spot) (sym (ap (option_map x.place) a) ∙ p)) in
    fronts_of x.now t.0 r (spot_first x o spot t.0 a p t.1) (b t.0 (subst (λ (z : Seen S). slice_get z.now (z.place spot) ≡ Some t.0) (sym s) t.1))
