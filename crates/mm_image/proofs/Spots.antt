-- Along the run of a subtree by the spots of a keeper, which shows the same maps all along.
use Rattle.std.proofs.Common.{inl, inr, ◌≡◌, ℕ, zero, suc, ◌+◌, ◌<◌, Bool, true, false, List, [], ◌∷◌, length, refl, ap, sym, subst, ◌∙◌, Option, Some, None, option_map, IfOk, IfErr, OnOk, Result, Ok, Err, arith}
use Rattle.std.specs.Prelude.{slice_get}
use Rattle.mm_host.specs.declared.damage.Damage.{Damage}
use Rattle.mm_host.specs.declared.damage.Fault.{Fault}
use Rattle.mm_host.specs.declared.damage.Fault.TheVariants as fault
use Rattle.mm_keeper.specs.Entries.{Entries, Entry, index_of, within}
use Rattle.mm_keeper.specs.Facts.InRange.{index_in_range}
use Rattle.mm_keeper.specs.Keeping.{Seen, fault_of}
use Rattle.mm_image.specs.declared.gathering.Group.{Group}
use Rattle.mm_image.specs.Inside.Gathered.{AreGroups}
use Rattle.mm_image.specs.Inside.Running.{GoesOn, Looks, LooksAt, StopsAt}
use Rattle.mm_image.proofs.Walking.{Gathering, gathering_more, gathering_stops, stops_behind, stops_odd, stops_plain, went_off, went_on}

-- ---- an entry that was looked at

pub looks_groups : (front : List ℕ) (old new : List Group) (e : Entry) (r : Result Bool Fault) → AreGroups old → Looks front old new e r → OnOk r (AreGroups new)
looks_groups front old new e (Ok true) a l = l.1.1
looks_groups front old new e (Ok false) a l = subst AreGroups (sym l.1) a
looks_groups front old new e (Err f) a l = tt

memory_plain : (d : Damage) (f : Fault) → f ≡ fault.Memory → f ≡ fault.Damaged d → ⊥
memory_plain d f e h = let t : fault.Memory ≡ fault.Damaged d = sym e ∙ h in absurd cc

pub looks_at : (front : List ℕ) (old new : List Group) (e : Entry) (r : Result Bool Fault) → Looks front old new e r → LooksAt front old new e r
looks_at front old new e (Ok b) l = l
looks_at front old new e (Err f) l = elim l.1 [ inl h ↦ inl (λ d q. memory_plain d f h q) | inr h ↦ inr h ]

-- the entry that was lent is the one at the place
pub looks_lent : (front : List ℕ) (old new : List Group) (d e : Entry) (r : Result Bool Fault) → Some d ≡ Some e → Looks front old new d r → LooksAt front old new e r
looks_lent front old new d e r q l = let p : d ≡ e = cc in subst (λ (z : Entry). LooksAt front old new z r) p (looks_at front old new d r l)

there : (m : Entries) (i : ℕ) → i < length m → (e : Entry) × (slice_get m i ≡ Some e)
there [] i h = absurd (omega arith)
there (e ∷ m) zero h = (e, refl)
there (e ∷ m) (suc i) h = there m i (omega arith)

-- ---- one spot on

module _ {S : Type 0} (front : List ℕ) (x : Seen S) (spot : S) (old new : List Group) (stands : x.place spot < length x.now) where
  abbrev Looked : Result Bool Fault → Type 0
  Looked r = (e : Entry) → slice_get x.now (x.place spot) ≡ Some e → LooksAt front old new e r

  pub goes_after : (y : Seen S) (steps steps' : ℕ) (r : Result (Option S) Fault) → Looked (Ok true) → y ≡ x → IfOk r (λ s. option_map y.place s ≡ within y.now (y.place spot + 1)) → steps' ≡ steps + 1
      → IfOk r (λ next. GoesOn front x.now old new steps steps' (x.place spot) (option_map x.place next))
  goes_after y steps steps' (Ok s) l e f n =
      let t = there x.now (x.place spot) stands in
      let k = l t.0 t.1 in
      went_on front x.now old new steps steps' (x.place spot) (option_map x.place s) t.0 t.1 k.0 k.1.0 (subst (λ (z : Seen S). option_map z.place s ≡ within z.now (z.place spot + 1)) e f) n
  goes_after y steps steps' (Err f) l e q n = tt

  pub stops_after : (steps steps' : ℕ) (r : Result (Option S) Fault) → Looked (Ok true) → ((d : Damage) → fault_of r ≡ Some (fault.Damaged d) → ⊥) → steps' ≡ steps + 1 → IfErr r (StopsAt front x.now old steps steps' (x.place spot))
  stops_after steps steps' (Ok s) l n q = tt
  stops_after steps steps' (Err f) l n q =
      let t = there x.now (x.place spot) stands in
      let k = l t.0 t.1 in
      stops_behind front x.now old steps steps' (x.place spot) t.0 f t.1 k.0 (λ d h. n d (ap Some h)) q

  pub goes_off : (steps steps' : ℕ) → Looked (Ok false) → steps' ≡ steps → GoesOn front x.now old new steps steps' (x.place spot) None
  goes_off steps steps' l n =
      let t = there x.now (x.place spot) stands in
      let k = l t.0 t.1 in
      went_off front x.now old new steps steps' (x.place spot) t.0 t.1 k.0 k.1 n

  pub stops_look : (steps steps' : ℕ) (f : Fault) → Looked (Err f) → steps' ≡ steps → StopsAt front x.now old steps steps' (x.place spot) f
  stops_look steps steps' f l n =
      let t = there x.now (x.place spot) stands in
      elim (l t.0 t.1) [
        | inl h ↦ stops_plain front x.now old steps steps' (x.place spot) f h n
        | inr h ↦ stops_odd front x.now old steps steps' (x.place spot) t.0 f t.1 h.0 h.1 n
      ]

-- ---- all along

pub gathering_on : {S : Type 0} (front : List ℕ) (x y : Seen S) (first at : S) (o : Option S) (groups more : List Group) (steps0 steps steps' weight counter : ℕ) → y ≡ x → Gathering front x.now groups steps0 steps weight counter (x.place first) (Some (x.place at))
    → GoesOn front y.now groups more steps steps' (y.place at) (option_map y.place o) → counter < weight → Gathering front x.now more steps0 steps' weight (counter + 1) (x.place first) (option_map x.place o)
gathering_on {S} front x y first at o groups more steps0 steps steps' weight counter e g n l =
    gathering_more front x.now groups more steps0 steps steps' weight counter (x.place first) (x.place at) (option_map x.place o) g
    (subst (λ (z : Seen S). GoesOn front z.now groups more steps steps' (z.place at) (option_map z.place o)) e n) l

pub gathering_off : {S : Type 0} (front : List ℕ) (x y : Seen S) (first at : S) (groups : List Group) (steps0 steps steps' weight counter : ℕ) (f : Fault) → y ≡ x → Gathering front x.now groups steps0 steps weight counter (x.place first) (Some (x.place at))
    → StopsAt front y.now groups steps steps' (y.place at) f → StopsAt front x.now [] steps0 steps' (x.place first) f
gathering_off {S} front x y first at groups steps0 steps steps' weight counter f e g s =
    let t = gathering_stops front x.now groups steps0 steps steps' weight counter (x.place first) (x.place at) f g (subst (λ (z : Seen S). StopsAt front z.now groups steps steps' (z.place at) f) e s) in
    record { odd = t.0; cost = t.1 }

-- the next spot stands in the map, as a later keeper shows it
pub gathering_stands : {S : Type 0} (front : List ℕ) (x y : Seen S) (first at : S) (groups : List Group) (steps0 steps weight counter : ℕ) → y ≡ x → Gathering front x.now groups steps0 steps weight counter (x.place first) (Some (x.place at)) → y.place at < length y.now
gathering_stands {S} front x y first at groups steps0 steps weight counter e g = subst (λ (z : Seen S). z.place at < length z.now) (sym e) g.stands

-- the spot of a key that was found stands in the map, as a later keeper shows it
pub spot_stands : {S : Type 0} (x y : Seen S) (spot : S) (o : Option S) (k : List ℕ) → y ≡ x → o ≡ Some spot → option_map x.place o ≡ index_of x.now k → y.place spot < length y.now
spot_stands {S} x y spot o k e q f = subst (λ (z : Seen S). z.place spot < length z.now) (sym e) (index_in_range x.now k (x.place spot) (sym (ap (option_map x.place) q) ∙ f))
