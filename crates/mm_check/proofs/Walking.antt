-- The chunk entries of a keeper's map, read spot by spot.
use Rattle.std.proofs.Common.{IfSome, ◌≡◌, ℕ, zero, suc, ◌+◌, ◌<◌, ◌≤◌, Bool, true, false, List, [], ◌∷◌, length, drop, ap, sym, subst, Option, Some, None, option_map, Result, Ok, Err, Fits, w8, slice_index_or, arith}
use Rattle.std.specs.Prelude.{slice_get}
use Rattle.std.proofs.Math.Facts.{Fits-lt-pow}
use Rattle.mm_keeper.specs.Entries.{Entries, Entry, Rises, first_from, weight_of, within}
use Rattle.mm_keeper.specs.Keeping.{Seen}
use Rattle.mm_image.specs.Subtrees.{IsUndamaged}
use Rattle.mm_check.specs.declared.reader.Reader.{Reader}
use Rattle.mm_check.specs.declared.stop.Stop.{Stop}
use Rattle.mm_check.specs.declared.stop.Stop.TheVariants as stop
use Rattle.mm_check.specs.Blame.{chunks_in}
use Rattle.mm_check.specs.Laws.{AreBytes}
use Rattle.mm_check.specs.Reading.{Progress}
use Rattle.mm_check.specs.Inside.Chunks.{HasSpelled, Passes, Reached, Reads, Runs, Spells, Weighs}
use Rattle.mm_check.specs.Inside.Reader.{Finishes, HasFinished, Stands}
use Rattle.mm_check.specs.Inside.Stopping.{WantsAlone, from}
use Rattle.mm_check.proofs.Chunking.{all_read_here, named_at_end, named_chunk, no_chunk_left, none_reached, passed_chunk, weighs, weightless}
use Rattle.mm_check.proofs.Passing.{left_from, stands_onward, there}

-- what a slice of bytes has are bytes
pub bytes_here : (bs : List ℕ) → ((i : ℕ) → Fits w8 (slice_index_or bs i 0)) → AreBytes bs
bytes_here [] f = tt
bytes_here (b ∷ bs) f = (Fits-lt-pow {w = w8} {n = b} (f 0), bytes_here bs (λ i. f (suc i)))

-- ---- the entry at a spot

module _ {S : Type 0} (x : Seen S) (spot : S) (old new : Reader) (stands : x.place spot < length x.now) (reached : Reached x.now old (Some (x.place spot))) where
  pub stopped_here : (s : Stop) → ((e : Entry) → slice_get x.now (x.place spot) ≡ Some e → Reads e old new (Err s)) → Passes x.now x.place spot new (Err s)
  stopped_here (stop.Named n) f =
      let t = there x.now (x.place spot) stands in
      let r = f t.0 t.1 in
      named_chunk x.now old (x.place spot) t.0 n t.1 reached r.0 (λ p s c. r.1 p s c)
  stopped_here (stop.Fault e) f = let t = there x.now (x.place spot) stands in f t.0 t.1

  pub passed_here : (y : Seen S) (o : Option S) (b : Bool) → Rises x.now → y ≡ x → option_map y.place o ≡ within y.now (y.place spot + 1) → b ≡ true
      → ((e : Entry) → slice_get x.now (x.place spot) ≡ Some e → Reads e old new (Ok b)) → Reached x.now new (option_map x.place o)
  passed_here y o false rises same found q f = absurd cc
  passed_here y o true rises same found q f =
      let t = there x.now (x.place spot) stands in
      let r = f t.0 t.1 in
      let next : option_map x.place o ≡ within x.now (x.place spot + 1) = subst (λ (z : Seen S). option_map z.place o ≡ within z.now (z.place spot + 1)) same found in
      subst (Reached x.now new) (sym next) (passed_chunk x.now old new (x.place spot) t.0 rises t.1 reached r.0 r.1 (λ p s c. r.2 p s c))

  pub none_here : (b : Bool) → Rises x.now → b ≡ false → ((e : Entry) → slice_get x.now (x.place spot) ≡ Some e → Reads e old new (Ok b))
      → Reached x.now new (Some (x.place spot)) × (chunks_in (from x.now (Some (x.place spot))) ≡ [])
  none_here true rises q f = absurd cc
  none_here false rises q f =
      let t = there x.now (x.place spot) stands in
      let r = f t.0 t.1 in
      (subst (λ (z : Reader). Reached x.now z (Some (x.place spot))) (sym r.1) reached, no_chunk_left x.now old (x.place spot) t.0 rises t.1 reached r.0)

pub weighs_here : {S : Type 0} (x y : Seen S) (spot : S) (old new : Reader) (o : Option S) (b : Bool) → x.place spot < length x.now → y ≡ x → option_map y.place o ≡ within y.now (y.place spot + 1) → b ≡ true
    → ((e : Entry) → slice_get x.now (x.place spot) ≡ Some e → Reads e old new (Ok b)) → Weighs x.now (x.place spot) (option_map x.place o)
weighs_here {S} x y spot old new o false stands same found q f = absurd cc
weighs_here {S} x y spot old new o true stands same found q f =
    let t = there x.now (x.place spot) stands in
    let r = f t.0 t.1 in
    let next : option_map x.place o ≡ within x.now (x.place spot + 1) = subst (λ (z : Seen S). option_map z.place o ≡ within z.now (z.place spot + 1)) same found in
    subst (Weighs x.now (x.place spot)) (sym next) (weighs x.now (x.place spot) t.0 t.1 r.0)

-- ---- from spot to spot

-- how much the entries from a spot on weigh
abbrev pub weight_from : {S : Type 0} → Seen S → Option S → ℕ
weight_from x o = weight_of (from x.now (option_map x.place o))

lighter : (n : ℕ) (m : Entries) → weight_of (drop n m) ≤ weight_of m
lighter zero m = omega arith
lighter (suc n) [] = omega arith
lighter (suc n) (e ∷ m) = let i = lighter n m in omega (arith, i)

pub weight_within : {S : Type 0} (x : Seen S) (o : Option S) (w : ℕ) → w ≡ weight_of x.now → weight_from x o ≤ w
weight_within x None w e = omega arith
weight_within x (Some s) w e = let l = lighter (x.place s) x.now in omega (arith, l, e)

module _ {S : Type 0} (x y : Seen S) (same : y ≡ x) (at : Option S) (spot : S) (here : at ≡ Some spot) (o : Option (Option S)) (next : Option S) (on : o ≡ Some next) where
  pub reached_next : (old new : Reader) → Reached x.now old (option_map x.place at) → (Reached y.now old (Some (y.place spot)) → Passes y.now y.place spot new (Ok o)) → Reached x.now new (option_map x.place next)
  reached_next old new reached f =
      let a : Reached x.now old (Some (x.place spot)) = subst (λ (z : Option S). Reached x.now old (option_map x.place z)) here reached in
      let g : Reached x.now old (Some (x.place spot)) → Passes x.now x.place spot new (Ok o) = subst (λ (z : Seen S). Reached z.now old (Some (z.place spot)) → Passes z.now z.place spot new (Ok o)) same f in
      subst (λ (z : Option (Option S)). Passes x.now x.place spot new (Ok z)) on (g a)

  pub stands_next : IfSome o (λ n. IfSome n (λ s. y.place s < length y.now)) → IfSome next (λ s. x.place s < length x.now)
  stands_next f = stands_onward x y next same (subst (λ (z : Option (Option S)). IfSome z (λ n. IfSome n (λ s. y.place s < length y.now))) on f)

  abbrev pub Lighter : Type 0
  Lighter = IfSome o (λ n. Weighs y.now (y.place spot) (option_map y.place n))

  weighed : Lighter → Weighs x.now (x.place spot) (option_map x.place next)
  weighed f =
      let g : IfSome o (λ n. Weighs x.now (x.place spot) (option_map x.place n)) = subst (λ (z : Seen S). IfSome o (λ n. Weighs z.now (z.place spot) (option_map z.place n))) same f in
      subst (λ (z : Option (Option S)). IfSome z (λ n. Weighs x.now (x.place spot) (option_map x.place n))) on g

  pub left_next : (a b c all : ℕ) → Lighter → b + left_from x at ≤ a + all → c ≤ b + 1 → c + left_from x next ≤ a + all
  left_next a b c all f h l =
      let w = (weighed f).count in
      let q = ap (left_from x) here in
      omega (arith, w, q, h, l)

  pub weight_next : (n w : ℕ) → Lighter → n + weight_from x at ≤ w → n + 1 + weight_from x next ≤ w
  weight_next n w f h =
      let v = (weighed f).weight in
      let q = ap (weight_from x) here in
      omega (arith, v, q, h)

-- where no weight is left, no chunk is
pub none_weighs : {S : Type 0} (x : Seen S) (at : Option S) (n w : ℕ) → n + weight_from x at ≤ w → w ≤ n → chunks_in (from x.now (option_map x.place at)) ≡ []
none_weighs x at n w h l = weightless (from x.now (option_map x.place at)) (omega (arith, h, l))

-- ---- all chunks of a map

module _ {S : Type 0} (x y : Seen S) (same : y ≡ x) (first : Option S) (old mid : Reader) (begins : Stands old (record { nodes = []; node = None })) (found : option_map x.place first ≡ first_from x.now (1 ∷ [])) where
  abbrev Ran : Result (Option S) Stop → Type 0
  Ran r = Reached y.now old (option_map y.place first) → Runs y.now y.place mid r

  runs : (r : Result (Option S) Stop) → Ran r → Runs x.now x.place mid r
  runs r f = subst (λ (z : Seen S). Reached z.now old (option_map z.place first) → Runs z.now z.place mid r) same f (subst (Reached x.now old) (sym found) (none_reached x.now old begins))

  pub spells_stopped : (s : Stop) → Ran (Err s) → Spells x.now x.place mid (Err s)
  spells_stopped (stop.Named n) f = runs (Err (stop.Named n)) f
  spells_stopped (stop.Fault e) f = runs (Err (stop.Fault e)) f

  pub spells_ended : (at : Option S) (new : Reader) (s : Stop) → Ran (Ok at) → ((p : Progress) → Stands mid p → Finishes p new (Err s)) → WantsAlone s → Spells x.now x.place new (Err s)
  spells_ended at new (stop.Named n) f g w = let r = runs (Ok at) f in named_at_end x.now mid (option_map x.place at) n r.0 r.1 g
  spells_ended at new (stop.Fault e) f g w = subst IsUndamaged (sym w) tt

  pub spells_all : (at : Option S) (new : Reader) → Ran (Ok at) → ((p : Progress) → Stands mid p → HasFinished p new) → HasSpelled x.now new (option_map x.place at)
  spells_all at new f g = let r = runs (Ok at) f in all_read_here x.now mid new (option_map x.place at) r.0 r.1 g
