-- From the entry that was found to the answer of the lists, over any keeper.
use Rattle.std.proofs.Common.{◌≡◌, ◌<◌, ◌^◌, ℕ, ℤ, Bool, IsTrue, true, List, ap, sym, subst, ◌∙◌, Option, Result, Ok, Err, IfOk, IfErr}
use Rattle.std.specs.Prelude.{◌↔◌}
use Rattle.mm_host.specs.declared.damage.Fault.{Fault}
use Rattle.mm_words.specs.Words.{is_word}
use Rattle.mm_tree.specs.Trees.{Trees}
use Rattle.mm_tree.specs.Numbering.{Labelled}
use Rattle.mm_tree.specs.Forests.{is_well_formed}
use Rattle.mm_lists.specs.Causes.{BlamesOnly, Caused, IsSound}
use Rattle.mm_lists.specs.Leaves.{Leaves}
use Rattle.mm_keeper.specs.Entries.{Entry, Entries, IsSorted, weight_of, first_from, last_to, index_of}
use Rattle.mm_keeper.specs.Keeping.{Seen, Written}
use Rattle.mm_image.specs.Keys.{count_key}
use Rattle.mm_image.specs.Laws.{CountsAreLengths}
use Rattle.mm_image.specs.Image.{image}
use Rattle.mm_image.specs.Facts.Finding.{IsUp, IsDown, IsAt}
use Rattle.mm_image.specs.Looking.{entry_at}
use Rattle.mm_keeper_lists.specs.Found.{Tells, Blames, TellsCount, BlamesCount, IsDamageOf}
use Rattle.mm_keeper_lists.specs.Facts.Blaming.{blamed_after}
use Rattle.mm_keeper_lists.specs.Inside.Finding.{TellsDown, TellsUp}
use Rattle.mm_image.specs.Ground.{SameGround, HoldsImage}
use Rattle.mm_keeper_lists.proofs.Searching.{unbroken_count}
use Rattle.mm_keeper_lists.proofs.Lookups.{Stands, up_is, down_is, at_is, stands_at, unbroken, label_damaged, count_damaged}

ok_more : {A : Type 0} {P Q : A → Type 0} (r : Result A Fault) → ((a : A) → P a → Q a) → IfOk r P → IfOk r Q
ok_more (Ok a) f h = f a h
ok_more (Err e) f h = tt

err_more : {A : Type 0} {P Q : Fault → Type 0} (r : Result A Fault) → ((e : Fault) → P e → Q e) → IfErr r P → IfErr r Q
err_more (Ok a) f h = tt
err_more (Err e) f h = f e h

abbrev Answer : Type 0
Answer = Option (List ℤ)

-- what a look-up at a key tells of the entry there
told : (Is : Entries → List ℕ → Option Entry → Type 0) (w key k : List ℕ) (f : Trees Labelled) (m : Entries) (found : Option Entry) → m ≡ image f → key ≡ k → Is m key found
    → (r : Result Answer Fault) → IfOk r (Tells w found) → IfOk r (λ o. (e : Option Entry) × Is (image f) k e × Tells w e o)
told Is w key k f m found e q i r t = ok_more r (λ o u. (found, subst (λ (z : Entries). Is z k found) e (subst (λ (z : List ℕ). Is m z found) q i), u)) t

pub up_told : (w key k : List ℕ) (f : Trees Labelled) (m : Entries) → m ≡ image f → IsSorted m → key ≡ k
    → (r : Result Answer Fault) → IfOk r (Tells w (entry_at m (first_from m key))) → IfOk r (TellsUp f w k)
up_told w key k f m e s q r t = told IsUp w key k f m (entry_at m (first_from m key)) e q (up_is m key s) r t

pub down_told : (w key k : List ℕ) (f : Trees Labelled) (m : Entries) → m ≡ image f → IsSorted m → key ≡ k
    → (r : Result Answer Fault) → IfOk r (Tells w (entry_at m (last_to m key))) → IfOk r (TellsDown f w k)
down_told w key k f m e s q r t = told IsDown w key k f m (entry_at m (last_to m key)) e q (down_is m key s) r t

pub count_told : (n : ℕ) (key k : List ℕ) (f : Trees Labelled) (m : Entries) → m ≡ image f → IsSorted m → key ≡ k
    → ((e : Option Entry) (c : ℕ) → IsAt (image f) k e → TellsCount e c → c ≡ n) → (r : Result ℕ Fault) → IfOk r (λ c. TellsCount (entry_at m (index_of m key)) c) → IfOk r (λ c. c ≡ n)
count_told n key k f m e s q h r t =
    let found = entry_at m (index_of m key) in
    ok_more r (λ c u. h found c (subst (λ (z : Entries). IsAt z k found) e (subst (λ (z : List ℕ). IsAt m z found) q (at_is m key s))) u) t

-- ---- nothing is wrong over an image

pub label_sound : (w : List ℕ) (at : Option ℕ) (f : Trees Labelled) (m : Entries) → is_word w ≡ true → IsTrue (is_well_formed f) → m ≡ image f → (r : Result Answer Fault) → IfErr r (Blames w (entry_at m at)) → IfErr r IsSound
label_sound w at f m g k e r b = err_more r (unbroken w g f k (entry_at m at) (subst (λ (z : Entries). Stands z (entry_at m at)) e (stands_at m at))) b

pub count_sound : CountsAreLengths → (w key : List ℕ) (f : Trees Labelled) (m : Entries) → m ≡ image f → IsSorted m → key ≡ count_key w → weight_of (image f) < 2 ^ 64
    → (r : Result ℕ Fault) → IfErr r (λ e. BlamesCount (entry_at m (index_of m key)) e) → IfErr r IsSound
count_sound law w key f m e s q few r b =
    let found = entry_at m (index_of m key) in
    err_more r (λ d c. unbroken_count law w f few found (subst (λ (z : Entries). IsAt z (count_key w) found) e (subst (λ (z : List ℕ). IsAt m z found) q (at_is m key s))) d c) b

-- ---- what is told to be damaged is so, over any map

pub label_blames : (w : List ℕ) (at : Option ℕ) (m : Entries) → IsTrue (is_word w) → (r : Result Answer Fault) → IfErr r (Blames w (entry_at m at)) → IfErr r (BlamesOnly (IsDamageOf m))
label_blames w at m g r b = err_more r (label_damaged m w g (entry_at m at) (stands_at m at)) b

pub count_blames : (w key : List ℕ) (m : Entries) → IsTrue (is_word w) → IsSorted m → key ≡ count_key w → (r : Result ℕ Fault) → IfErr r (BlamesCount (entry_at m (index_of m key))) → IfErr r (BlamesOnly (IsDamageOf m))
count_blames w key m g s q r b =
    let found = entry_at m (index_of m key) in
    err_more r (count_damaged m w g found (subst (λ (z : List ℕ). IsAt m z found) q (at_is m key s))) b

-- ---- the lists stand for the same forest as before

module _ {K D S : Type 0} (over : K → D) (has_maps : K → Type 0) (tells : Type 0) (seen : K → Seen S) (written : K → Written) (changes : K → ℕ) (moment : K → ℕ) (left_since : K → ℕ → Option Entries → Type 0) where
  kept : (old new : K) → SameGround over has_maps tells seen written changes moment left_since old new → (f : Trees Labelled) → HoldsImage has_maps seen old f ↔ HoldsImage has_maps seen new f
  kept old new g f = (
    λ s. (g.maps.0 s.0, s.1, ap (λ (z : Seen S). z.now) (g.same s.0) ∙ s.2),
    λ s. let m = g.maps.1 s.0 in (m, s.1, sym (ap (λ (z : Seen S). z.now) (g.same m)) ∙ s.2),
  )

  -- what a look-up leaves of the lists, by what its call left of their keeper
  pub leaves_of : {L T : Type 0} (old new : L) (keeper : L → K) (same_keeper : L → L → Type 0) (faults : K → ℕ) (spent : K → Bool) (r : Result T Fault)
      → same_keeper old new → SameGround over has_maps tells seen written changes moment left_since (keeper old) (keeper new)
      → Caused (faults (keeper old)) (faults (keeper new)) (spent (keeper old)) (spent (keeper new)) r
      → (has_maps (keeper old) → IfErr r (BlamesOnly (IsDamageOf (seen (keeper old)).now)))
      → ((f : Trees Labelled) → HoldsImage has_maps seen (keeper old) f → IfErr r IsSound)
      → Leaves (λ k f. HoldsImage has_maps seen (keeper k) f) (λ k l. same_keeper k l × SameGround over has_maps tells seen written changes moment left_since (keeper k) (keeper l))
      (λ k d. has_maps (keeper k) → IsDamageOf (seen (keeper k)).now d) (λ k. faults (keeper k)) (λ k. spent (keeper k)) old new r
  leaves_of old new keeper same_keeper faults spent r n g c b s = record {
    kept = λ f. kept (keeper old) (keeper new) g f;
    ground = (n, g);
    cause = c;
    blame = blamed_after over has_maps tells seen written changes moment left_since (keeper old) (keeper new) g r b;
    sound = s;
  }
