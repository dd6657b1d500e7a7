-- Pages in memory, of which one slot or none was changed.
use Rattle.std.proofs.Common.{◌≡◌, ℕ, zero, suc, ◌+◌, ◌-◌, ◌≤◌, ◌<◌, Bool, true, false, List, [], ◌∷◌, ◌++◌, length, get_or, set, Option, None, Some, refl, sym, ap, ◌∙◌, subst, arith, inl}
use Rattle.std.specs.Prelude.{◌==◌}
use Rattle.std.proofs.lemmas.Bool.Decides.{nat_tests}
use Rattle.std.proofs.lemmas.List.{get_or-set_same, length-set}
use Rattle.mm_page.specs.Paging.{ChangesOnly, Rests}
use Rattle.mm_host.specs.declared.damage.Fault.TheVariants as fault
use Rattle.mm_keeper.specs.Keeping.{Keeps}
use Rattle.mm_page.specs.Slots.{AreAlike, IsApart, no_slot, slot_at, kept_as, kept_page, kept_of, book_of}
use Rattle.mm_page.specs.declared.header.Header.{Header}
use Rattle.mm_page.specs.declared.mem_pages.MemPages.{MemPages}
use Rattle.mm_page.specs.declared.slot.Kept.{Kept}
use Rattle.mm_page.specs.declared.slot.Kept.TheVariants.{Here, Free, Other}
use Rattle.mm_page.specs.declared.slot.Slot.{Slot}

-- ---- what shows the same is the same

pub kept-alike : (h : Option Header) (xs ys : List Slot) → ((n : ℕ) → kept_page (slot_at ys n) ≡ kept_page (slot_at xs n)) → kept_of h ys ≡ kept_of h xs
kept-alike h xs ys e = λ i. record { head = (kept_of h xs).head; page = λ n. e n i }

pub book-alike : (h : Option Header) (xs ys : List Slot) → ((n : ℕ) → (slot_at ys n).page ≡ (slot_at xs n).page) → ((n : ℕ) → (slot_at ys n).used ≡ (slot_at xs n).used) → book_of h ys ≡ book_of h xs
book-alike h xs ys e f = λ i. record { shelf = record { head = (book_of h xs).shelf.head; page = λ n. e n i }; used = λ n. f n i }

-- nothing was kept, and there is no disk
pub mem-rests : (old new : MemPages) (more : ℕ) → kept_of new.kept_header new.slots.items ≡ kept_of old.kept_header old.slots.items
    → Rests {P = MemPages} (Unit {0}) (λ _. Unit {0}) (λ p. kept_of p.kept_header p.slots.items) (λ _. record { pages = 0; journal = 0 }) (λ _. 0) (λ _. 0) (λ p t s. s ≡ kept_of p.kept_header p.slots.items) more old new
mem-rests old new more e = record {
  same = λ _. e;
  quiet = λ _. refl;
  grown = λ _. omega arith;
  any_moment = λ _. record { later = omega arith; each = λ s q. q ∙ e; before = λ t s l q. inl (q ∙ e) };
}

-- ---- by index

same-number : (i k : ℕ) → (i == k) ≡ true → i ≡ k
same-number i k q = grind (arith, nat_tests)

pub by-index : {X : Type 0} (f : Slot → X) (xs ys : List Slot) (k : ℕ) → ((i : ℕ) → (i == k) ≡ false → get_or ys i no_slot ≡ get_or xs i no_slot) → f (get_or ys k no_slot) ≡ f (get_or xs k no_slot)
    → (n : ℕ) → f (slot_at ys n) ≡ f (slot_at xs n)
by-index f xs ys k o e zero = refl
by-index f xs ys k o e (suc i) = by (i == k) refl
  where
    by : (b : Bool) → (i == k) ≡ b → f (get_or ys i no_slot) ≡ f (get_or xs i no_slot)
    by true q = subst (λ t. f (get_or ys t no_slot) ≡ f (get_or xs t no_slot)) (sym (same-number i k q)) e
    by false q = ap f (o i q)

pub each-index : {X : Type 0} (f : Slot → X) (xs ys : List Slot) → ((i : ℕ) → f (get_or ys i no_slot) ≡ f (get_or xs i no_slot)) → (n : ℕ) → f (slot_at ys n) ≡ f (slot_at xs n)
each-index f xs ys e zero = refl
each-index f xs ys e (suc i) = e i

down : (i k : ℕ) → (suc i == suc k) ≡ false → (i == k) ≡ false
down i k q = grind (arith, nat_tests)

pub set-others : (xs : List Slot) (k : ℕ) (s : Slot) (i : ℕ) → (i == k) ≡ false → get_or (set xs k s) i no_slot ≡ get_or xs i no_slot
set-others [] k s i q = refl
set-others (x ∷ xs) zero s zero q = absurd cc
set-others (x ∷ xs) zero s (suc i) q = refl
set-others (x ∷ xs) (suc k) s zero q = refl
set-others (x ∷ xs) (suc k) s (suc i) q = set-others xs k s i (down i k q)

-- ---- one slot more

pub kept-added : (xs : List Slot) (bytes : List ℕ) (ys : List Slot) → ys ≡ xs ++ record { page = bytes; used = true; kept = Free } ∷ [] → (i : ℕ) → kept_page (slot_at ys i) ≡ kept_page (slot_at xs i)
kept-added xs bytes ys e i = ap (λ t. kept_page (slot_at t i)) e ∙ all i
  where
    go : (zs : List Slot) (j : ℕ) → kept_page (get_or (zs ++ record { page = bytes; used = true; kept = Free } ∷ []) j no_slot) ≡ kept_page (get_or zs j no_slot)
    go [] zero = refl
    go [] (suc j) = refl
    go (z ∷ zs) zero = refl
    go (z ∷ zs) (suc j) = go zs j

    all : (n : ℕ) → kept_page (slot_at (xs ++ record { page = bytes; used = true; kept = Free } ∷ []) n) ≡ kept_page (slot_at xs n)
    all zero = refl
    all (suc j) = go xs j

-- ---- a page that is lent for writing

pub record IsEdited (h : Option Header) (xs zs : List Slot) (n : ℕ) (x : Slot) (w : List ℕ) : Type 0 where
  pub lent : x.page ≡ (slot_at xs n).page
  pub changes : ChangesOnly n (book_of h xs) (book_of h zs)
  pub bytes : (slot_at zs n).page ≡ w
  pub used : (slot_at zs n).used ≡ (slot_at xs n).used
  pub long : length zs ≡ length xs
  pub kept : (i : ℕ) → kept_page (slot_at zs i) ≡ kept_page (slot_at xs i)

any-default : (xs : List Slot) (k : ℕ) (d e : Slot) → k < length xs → get_or xs k d ≡ get_or xs k e
any-default [] k d e l = absurd (omega (arith, l))
any-default (x ∷ xs) zero d e l = refl
any-default (x ∷ xs) (suc k) d e l = any-default xs k d e (omega (arith, l))

apart : (k : Kept) (a b : List ℕ) → IsApart k → kept_as k a ≡ kept_as k b
apart Here a b h = absurd h
apart Free a b h = refl
apart (Other c) a b h = refl

edited : (h : Option Header) (xs ys : List Slot) (k : ℕ) (x : Slot) (w : List ℕ) → AreAlike xs ys → k < length ys → IsApart (get_or ys k no_slot).kept → x ≡ get_or ys k x
    → IsEdited h xs (set ys k (record { page = w; used = x.used; kept = x.kept })) (suc k) x w
edited h xs ys k x w a l p e =
    let s : Slot = record { page = w; used = x.used; kept = x.kept } in
    let here : get_or (set ys k s) k no_slot ≡ s = get_or-set_same ys k s no_slot l in
    let same : x ≡ get_or ys k no_slot = e ∙ any-default ys k x no_slot l in
    let off : IsApart x.kept = subst (λ t. IsApart t.kept) (sym same) p in
    record {
      lent = ap (λ t. t.page) same ∙ a.page (suc k);
      changes = record { head = refl; page = λ i q. each (λ t. t.page) i q ∙ a.page i; used = λ i q. each (λ t. t.used) i q ∙ a.used i };
      bytes = ap (λ t. t.page) here;
      used = ap (λ t. t.used) here ∙ ap (λ t. t.used) same ∙ a.used (suc k);
      long = length-set ys k s ∙ a.long;
      kept = λ i. by-index kept_page ys (set ys k s) k (set-others ys k s) (ap kept_page here ∙ apart x.kept w x.page off ∙ ap kept_page same) i ∙ a.kept i;
    }
  where
    each : {X : Type 0} (f : Slot → X) (i : ℕ) → (i == suc k) ≡ false → f (slot_at (set ys k (record { page = w; used = x.used; kept = x.kept })) i) ≡ f (slot_at ys i)
    each f zero q = refl
    each f (suc i) q = ap f (set-others ys k _ i (down i k q))

pub edited-at : (h : Option Header) (xs ys : List Slot) (n : ℕ) (x : Slot) (w : List ℕ) → AreAlike xs ys → (1 ≤ n) × (n < length xs + 1) → IsApart (get_or ys (n - 1) no_slot).kept → x ≡ get_or ys (n - 1) x
    → IsEdited h xs (set ys (n - 1) (record { page = w; used = x.used; kept = x.kept })) n x w
edited-at h xs ys n x w a r p e =
    let f : suc (n - 1) ≡ n = omega (arith, r.0) in
    subst (λ t. IsEdited h xs (set ys (n - 1) (record { page = w; used = x.used; kept = x.kept })) t x w) f (edited h xs ys (n - 1) x w a (omega (arith, a.long, r.0, r.1)) p e)

-- ---- a call that answers, and one that finds no memory

pub mem-answers : (old new : MemPages) → Keeps {K = MemPages} {D = Unit {0}} (λ _. tt) (λ _. Unit {0}) (λ _. Unit {0}) (λ _. false) (λ _. 0) (λ _. 0) false old new None
mem-answers old new = record {
  device = refl;
  sound = tt;
  maps = ((λ h. h), (λ h. h));
  faults_later = omega arith;
  wants_later = omega arith;
  disk_fault = λ q. absurd cc;
  no_damage = λ h d q. absurd cc;
  spent = ((λ q. absurd cc), (λ q. absurd cc));
  then_spent = refl;
}

pub mem-wants : (old new : MemPages) → Keeps {K = MemPages} {D = Unit {0}} (λ _. tt) (λ _. Unit {0}) (λ _. Unit {0}) (λ _. false) (λ _. 0) (λ _. 0) false old new (Some fault.Memory)
mem-wants old new = record {
  device = refl;
  sound = tt;
  maps = ((λ h. h), (λ h. h));
  faults_later = omega arith;
  wants_later = omega arith;
  disk_fault = λ q. absurd cc;
  no_damage = λ h d q. absurd cc;
  spent = ((λ q. absurd cc), (λ q. absurd cc));
  then_spent = refl;
}
