-- Along the run of a subtree: its entries are gathered one by one.
use Rattle.std.proofs.Common.{◌≡◌, ℕ, zero, suc, ◌+◌, ◌<◌, ◌≤◌, Bool, true, false, cond, List, [], ◌∷◌, ◌++◌, length, drop, refl, ap, sym, subst, ◌∙◌, Option, Some, None, IfSome, append-nil, append_assoc, arith}
use Rattle.std.specs.Prelude.{nat_lt, slice_get}
use Rattle.std.proofs.lemmas.Bool.Decides.{Decides-eqb, nat_tests}
use Rattle.std.proofs.lemmas.Slice.Eq.{starts_is}
use Rattle.mm_host.specs.declared.damage.Damage.{Damage}
use Rattle.mm_host.specs.declared.damage.Damage.TheVariants as damage
use Rattle.mm_host.specs.declared.damage.Fault.{Fault}
use Rattle.mm_host.specs.declared.damage.Fault.TheVariants as fault
use Rattle.mm_keeper.specs.Entries.{Entries, Entry, weight_of, within}
use Rattle.mm_image.specs.declared.gathering.Group.{Group}
use Rattle.mm_image.specs.Subtrees.{begins, leading}
use Rattle.mm_image.specs.Inside.Gathered.{gathered}
use Rattle.mm_image.specs.Inside.Running.{Gathers, GoesOn, NamesOdd, StopsAt, left_at}

-- ---- keys that begin so

pub begun : (front : List ℕ) (e : Entry) → begins front e ≡ true → (rest : List ℕ) × (e.0 ≡ 1 ∷ (front ++ rest))
begun front e h = (drop (length (1 ∷ front)) e.0, (starts_is Decides-eqb e.0 (1 ∷ front) (begins front e) refl).0 h)

pub begins_of : (front rest : List ℕ) (e : Entry) → e.0 ≡ 1 ∷ (front ++ rest) → begins front e ≡ true
begins_of front rest e h = (starts_is Decides-eqb e.0 (1 ∷ front) (begins front e) refl).1 rest h

pub begins_not : (front : List ℕ) (e : Entry) → ((rest : List ℕ) → e.0 ≡ 1 ∷ (front ++ rest) → ⊥) → begins front e ≡ false
begins_not front e n = by (begins front e) refl
  where
    by : (b : Bool) → begins front e ≡ b → b ≡ false
    by true h = let t = begun front e h in absurd (n t.0 t.1)
    by false h = refl

-- ---- places

pub drop_get : {X : Type 0} (m : List X) (i : ℕ) (e : X) → slice_get m i ≡ Some e → drop i m ≡ e ∷ drop (i + 1) m
drop_get [] zero e h = absurd cc
drop_get [] (suc i) e h = absurd cc
drop_get (x ∷ m) zero e h = let p : x ≡ e = cc in ap (λ z. z ∷ m) p
drop_get (x ∷ m) (suc i) e h = let s : suc i + 1 ≡ suc (i + 1) = omega arith in drop_get m i e h ∙ ap (λ z. e ∷ z) (sym (ap (λ (k : ℕ). drop k (x ∷ m)) s))

past : {X : Type 0} (m : List X) (i : ℕ) → length m ≤ i → drop i m ≡ []
past [] zero h = refl
past [] (suc i) h = refl
past (x ∷ m) zero h = absurd (omega arith)
past (x ∷ m) (suc i) h = past m i (omega arith)

left_here : (front : List ℕ) (m : Entries) (i : ℕ) (e : Entry) → slice_get m i ≡ Some e → begins front e ≡ true → left_at front m (Some i) ≡ e ∷ left_at front m (Some (i + 1))
left_here front m i e g b = ap (leading front) (drop_get m i e g) ∙ ap (λ (t : Bool). cond t (e ∷ leading front (drop (i + 1) m)) []) b

left_off : (front : List ℕ) (m : Entries) (i : ℕ) (e : Entry) → slice_get m i ≡ Some e → begins front e ≡ false → left_at front m (Some i) ≡ []
left_off front m i e g b = ap (leading front) (drop_get m i e g) ∙ ap (λ (t : Bool). cond t (e ∷ leading front (drop (i + 1) m)) []) b

-- what the next place has
record NextAt (front : List ℕ) (m : Entries) (n : ℕ) (o : Option ℕ) : Type 0 where
  same : left_at front m o ≡ left_at front m (Some n)
  stands : IfSome o (λ j. j < length m)

next_at : (front : List ℕ) (m : Entries) (n : ℕ) (o : Option ℕ) → o ≡ within m n → NextAt front m n o
next_at front m n o e = subst (NextAt front m n) (sym e) (by (nat_lt n (length m)) refl)
  where
    by : (b : Bool) → nat_lt n (length m) ≡ b → NextAt front m n (cond b (Some n) None)
    by true h = record { same = refl; stands = grind (arith, nat_tests) }
    by false h = let l : length m ≤ n = grind (arith, nat_tests) in record { same = sym (ap (leading front) (past m n l)); stands = tt }

-- ---- one entry

if_some : (o : Option ℕ) (P : ℕ → Type 0) → ((j : ℕ) → P j) → IfSome o P
if_some None P h = tt
if_some (Some j) P h = h j

pub went_on : (front : List ℕ) (m : Entries) (old new : List Group) (steps steps' i : ℕ) (o : Option ℕ) (e : Entry) → slice_get m i ≡ Some e → begins front e ≡ true → gathered new ≡ gathered old ++ e ∷ [] → o ≡ within m (i + 1) → steps' ≡ steps + 1
    → GoesOn front m old new steps steps' i o
went_on front m old new steps steps' i o e g b n w s =
    let h = left_here front m i e g b in
    let t = next_at front m (i + 1) o w in
    let size : length (left_at front m (Some i)) ≡ suc (length (left_at front m (Some (i + 1)))) = ap length h in
    let size2 : length (left_at front m o) ≡ length (left_at front m (Some (i + 1))) = ap length t.same in
    record {
      run = ap (λ (z : Entries). gathered new ++ z) t.same
          ∙ ap (λ (z : Entries). z ++ left_at front m (Some (i + 1))) n
          ∙ append_assoc (gathered old) (e ∷ []) (left_at front m (Some (i + 1)))
          ∙ ap (λ (z : Entries). gathered old ++ z) (sym h);
      cost = omega (arith, size, size2, s);
      shorter = if_some o (λ j. length (left_at front m o) < length (left_at front m (Some i))) (λ j. omega (arith, size, size2));
      stands = t.stands;
    }

pub went_off : (front : List ℕ) (m : Entries) (old new : List Group) (steps steps' i : ℕ) (e : Entry) → slice_get m i ≡ Some e → begins front e ≡ false → new ≡ old → steps' ≡ steps → GoesOn front m old new steps steps' i None
went_off front m old new steps steps' i e g b n s =
    let h = left_off front m i e g b in
    let size : length (left_at front m (Some i)) ≡ 0 = ap length h in
    record {
      run = ap (λ (z : List Group). gathered z ++ []) n ∙ ap (λ (z : Entries). gathered old ++ z) (sym h);
      cost = omega (arith, size, s);
      shorter = tt;
      stands = tt;
    }

-- ---- what is odd

pub odd_of : (es : Entries) (f : Fault) → ((d : Damage) → f ≡ fault.Damaged d → ⊥) → NamesOdd es f
odd_of es (fault.Damaged (damage.Key key)) h = absurd (h (damage.Key key) refl)
odd_of es (fault.Damaged (damage.Cut place at needed held)) h = absurd (h (damage.Cut place at needed held) refl)
odd_of es (fault.Damaged (damage.Digest at stored found)) h = absurd (h (damage.Digest at stored found) refl)
odd_of es (fault.Damaged (damage.Sort at stored due)) h = absurd (h (damage.Sort at stored due) refl)
odd_of es (fault.Damaged (damage.Size at stored least most)) h = absurd (h (damage.Size at stored least most) refl)
odd_of es (fault.Damaged (damage.Page page why stored due)) h = absurd (h (damage.Page page why stored due) refl)
odd_of es fault.DiskFault h = tt
odd_of es fault.Spent h = tt
odd_of es fault.Memory h = tt

odd_more : (es more : Entries) (f : Fault) → NamesOdd es f → NamesOdd (es ++ more) f
odd_more es more (fault.Damaged (damage.Key key)) h = λ nodes rest s e. h nodes (more ++ rest) s (e ∙ append_assoc es more rest)
odd_more es more (fault.Damaged (damage.Cut place at needed held)) h = h
odd_more es more (fault.Damaged (damage.Digest at stored found)) h = h
odd_more es more (fault.Damaged (damage.Sort at stored due)) h = h
odd_more es more (fault.Damaged (damage.Size at stored least most)) h = h
odd_more es more (fault.Damaged (damage.Page page why stored due)) h = h
odd_more es more fault.DiskFault h = tt
odd_more es more fault.Spent h = tt
odd_more es more fault.Memory h = tt

-- an entry that was refused
pub stops_odd : (front : List ℕ) (m : Entries) (groups : List Group) (steps steps' i : ℕ) (e : Entry) (f : Fault) → slice_get m i ≡ Some e → begins front e ≡ true → NamesOdd (gathered groups ++ e ∷ []) f → steps' ≡ steps → StopsAt front m groups steps steps' i f
stops_odd front m groups steps steps' i e f g b o s =
    let h = left_here front m i e g b in
    let rest = left_at front m (Some (i + 1)) in
    record {
      odd = subst (λ (z : Entries). NamesOdd z f) (append_assoc (gathered groups) (e ∷ []) rest ∙ ap (λ (z : Entries). gathered groups ++ z) (sym h)) (odd_more (gathered groups ++ e ∷ []) rest f o);
      cost = omega (arith, s);
    }

pub stops_plain : (front : List ℕ) (m : Entries) (groups : List Group) (steps steps' i : ℕ) (f : Fault) → ((d : Damage) → f ≡ fault.Damaged d → ⊥) → steps' ≡ steps → StopsAt front m groups steps steps' i f
stops_plain front m groups steps steps' i f n s = record { odd = odd_of (gathered groups ++ left_at front m (Some i)) f n; cost = omega (arith, s) }

-- a step that failed behind an entry
pub stops_behind : (front : List ℕ) (m : Entries) (groups : List Group) (steps steps' i : ℕ) (e : Entry) (f : Fault) → slice_get m i ≡ Some e → begins front e ≡ true → ((d : Damage) → f ≡ fault.Damaged d → ⊥) → steps' ≡ steps + 1 → StopsAt front m groups steps steps' i f
stops_behind front m groups steps steps' i e f g b n s =
    let h = left_here front m i e g b in
    let size : length (left_at front m (Some i)) ≡ suc (length (left_at front m (Some (i + 1)))) = ap length h in
    record { odd = odd_of (gathered groups ++ left_at front m (Some i)) f n; cost = omega (arith, size, s) }

-- ---- the whole run

-- what was gathered, and what is left; no more entries are left than the weight has bytes
pub record Gathering (front : List ℕ) (m : Entries) (groups : List Group) (steps0 steps weight counter first : ℕ) (at : Option ℕ) : Type 0 where
  pub run : gathered groups ++ left_at front m at ≡ left_at front m (Some first)
  pub cost : steps + length (left_at front m at) ≤ steps0 + length (left_at front m (Some first))
  pub room : counter + length (left_at front m at) ≤ weight
  pub stands : IfSome at (λ j. j < length m)

key_size : (front : List ℕ) (e : Entry) → begins front e ≡ true → 1 ≤ length e.0
key_size front e h = let t = begun front e h in let u : length e.0 ≡ suc (length (front ++ t.0)) = ap length t.1 in omega (arith, u)

leading_weight : (front : List ℕ) (m : Entries) → length (leading front m) ≤ weight_of m
leading_weight front [] = omega arith
leading_weight front (e ∷ m) = by (begins front e) refl (leading_weight front m)
  where
    by : (b : Bool) → begins front e ≡ b → length (leading front m) ≤ weight_of m → length (cond b (e ∷ leading front m) []) ≤ length e.0 + length e.1 + weight_of m
    by true h l = let k = key_size front e h in omega (arith, k, l)
    by false h l = omega arith

drop_weight : (m : Entries) (i : ℕ) → weight_of (drop i m) ≤ weight_of m
drop_weight [] zero = omega arith
drop_weight [] (suc i) = omega arith
drop_weight (e ∷ m) zero = omega arith
drop_weight (e ∷ m) (suc i) = let l = drop_weight m i in omega (arith, l)

pub gathering_first : (front : List ℕ) (m : Entries) (groups : List Group) (steps weight first : ℕ) → groups ≡ [] → weight ≡ weight_of m → first < length m → Gathering front m groups steps steps weight 0 first (Some first)
gathering_first front m groups steps weight first g w l =
    let t = leading_weight front (drop first m) in
    let u = drop_weight m first in
    record { run = ap (λ (z : List Group). gathered z ++ left_at front m (Some first)) g; cost = omega arith; room = omega (arith, t, u, w); stands = l }

pub gathering_more : (front : List ℕ) (m : Entries) (groups more : List Group) (steps0 steps steps' weight counter first i : ℕ) (o : Option ℕ) → Gathering front m groups steps0 steps weight counter first (Some i) → GoesOn front m groups more steps steps' i o → counter < weight
    → Gathering front m more steps0 steps' weight (counter + 1) first o
gathering_more front m groups more steps0 steps steps' weight counter first i o g n l = record {
  run = n.run ∙ g.run;
  cost = omega (arith, g.cost, n.cost);
  room = room o n.shorter;
  stands = n.stands;
}
  where
    room : (o : Option ℕ) → IfSome o (λ j. length (left_at front m o) < length (left_at front m (Some i))) → counter + 1 + length (left_at front m o) ≤ weight
    room None s = omega (arith, l)
    room (Some j) s = let r = g.room in omega (arith, r, s)

pub gathering_stops : (front : List ℕ) (m : Entries) (groups : List Group) (steps0 steps steps' weight counter first i : ℕ) (f : Fault) → Gathering front m groups steps0 steps weight counter first (Some i) → StopsAt front m groups steps steps' i f
    → NamesOdd (left_at front m (Some first)) f × (steps' ≤ steps0 + length (left_at front m (Some first)))
gathering_stops front m groups steps0 steps steps' weight counter first i f g s = (subst (λ (z : Entries). NamesOdd z f) g.run s.odd, omega (arith, g.cost, s.cost))

none_left : (es : Entries) → length es ≤ 0 → es ≡ []
none_left [] h = refl
none_left (e ∷ es) h = absurd (omega arith)

-- the run has ended, or no more entries can be left
pub gathered_all : (front : List ℕ) (m : Entries) (groups : List Group) (steps0 steps weight counter first : ℕ) (at : Option ℕ) → Gathering front m groups steps0 steps weight counter first at → weight ≤ counter → Gathers front m groups steps0 steps first
gathered_all front m groups steps0 steps weight counter first at g l =
    let r = g.room in
    let e : left_at front m at ≡ [] = none_left (left_at front m at) (omega (arith, r, l)) in
    record { run = sym (append-nil (gathered groups)) ∙ ap (λ (z : Entries). gathered groups ++ z) (sym e) ∙ g.run; cost = omega (arith, g.cost) }

pub gathered_end : (front : List ℕ) (m : Entries) (groups : List Group) (steps0 steps weight counter first : ℕ) → Gathering front m groups steps0 steps weight counter first None → Gathers front m groups steps0 steps first
gathered_end front m groups steps0 steps weight counter first g = record { run = sym (append-nil (gathered groups)) ∙ g.run; cost = omega (arith, g.cost) }
