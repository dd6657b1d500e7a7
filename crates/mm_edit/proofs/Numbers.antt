-- The number at a word's count, by one look-up in a map.
use Rattle.std.proofs.Common.{◌≡◌, refl, ap, sym, ◌∙◌, Bool, true, false, ℕ, List, []}
use Rattle.std.specs.Prelude.{Option, Some, None, Result, Ok, Err, IfOk, IfErr, IsErrAnd, ◌<◌, length, get_or, bytes_eq, if◌then◌else◌, slice_get}
use Rattle.mm_host.specs.declared.damage.Damage.TheVariants as damage
use Rattle.mm_host.specs.declared.damage.Fault.{Fault}
use Rattle.mm_host.specs.declared.damage.Fault.TheVariants as fault
use Rattle.mm_label.specs.Facts.Members.{within_of}
use Rattle.mm_keeper.specs.Entries.{Entry, Entries, has, index_of, lookup, rank}
use Rattle.mm_keeper.specs.Facts.Keys.{lookup-at}
use Rattle.mm_image.specs.Keys.{count_key}
use Rattle.mm_edit.specs.declared.changing.WordChange.{WordChange}
use Rattle.mm_edit.specs.Difference.{Key}
use Rattle.mm_edit.specs.Blame.{Blames}
use Rattle.mm_edit.specs.Inside.Counting.{BlamesCount, BlamesCounts, BlamesNumber, TellsNumber, number_held, number_in}
use Rattle.mm_edit.proofs.Halving.{at_rank, chosen}
use Rattle.mm_edit.proofs.Keys.{same}

index_some : (m : Entries) (k : Key) (i : ℕ) → Some i ≡ index_of m k → (has m k ≡ true) × (i ≡ rank m k)
index_some m k i e = by (has m k) refl e
  where
    by : (b : Bool) → has m k ≡ b → Some i ≡ (if b then Some (rank m k) else None) → (has m k ≡ true) × (i ≡ rank m k)
    by true p e = (p, cc)
    by false p e = absurd cc

index_none : (m : Entries) (k : Key) → ◌≡◌ {A = Option ℕ} None (index_of m k) → has m k ≡ false
index_none m k e = by (has m k) refl e
  where
    by : (b : Bool) → has m k ≡ b → ◌≡◌ {A = Option ℕ} None (if b then Some (rank m k) else None) → has m k ≡ false
    by true p e = absurd cc
    by false p e = p

-- what stands at the place of a key is its entry
spot_entry : (m : Entries) (k : Key) (i : ℕ) (e : Entry) → Some i ≡ index_of m k → slice_get m i ≡ Some e → (lookup m k ≡ Some e.1) × (e.0 ≡ k)
spot_entry m k i e s g =
    let t = index_some m k i s in
    let found : lookup m k ≡ chosen k (Some e) = at_rank k m ∙ ap (λ n. chosen k (slice_get m n)) (sym t.1) ∙ ap (chosen k) g in
    let there = (lookup-at k m e).0 t.0 in
    by (bytes_eq e.0 k) refl (sym there ∙ found) found
  where
    by : (b : Bool) {v : List ℕ} → bytes_eq e.0 k ≡ b → Some v ≡ (if b then Some e.1 else None) → lookup m k ≡ (if b then Some e.1 else None) → (lookup m k ≡ Some e.1) × (e.0 ≡ k)
    by true p q f = (f, same e.0 k p)
    by false p q f = absurd cc

pub told_number : (m : Entries) (w key : List ℕ) (i n : ℕ) → key ≡ count_key w → Some i ≡ index_of m key → TellsNumber (slice_get m i) n → number_held m w ≡ Some n
told_number m w key i n k s t = by (slice_get m i) refl t
  where
    by : (o : Option Entry) → slice_get m i ≡ o → TellsNumber o n → number_held m w ≡ Some n
    by None g u = absurd u
    by (Some e) g u = ap (λ z. number_in (lookup m z)) (sym k) ∙ ap number_in (spot_entry m key i e s g).0 ∙ u

pub no_number : (m : Entries) (w key : List ℕ) → key ≡ count_key w → ◌≡◌ {A = Option ℕ} None (index_of m key) → number_held m w ≡ Some 0
no_number m w key k s = ap (λ z. number_in (lookup m z)) (sym k) ∙ ap number_in ((lookup-at key m (key, [])).1 (index_none m key s))

pub blames_more : (P Q : Key → Type 0) (f : Fault) → ((key : Key) → P key → Q key) → Blames P f → Blames Q f
blames_more P Q (fault.Damaged (damage.Key key)) h b = h key b
blames_more P Q (fault.Damaged (damage.Cut place at needed held)) h b = b
blames_more P Q (fault.Damaged (damage.Digest at stored found)) h b = b
blames_more P Q (fault.Damaged (damage.Sort at stored due)) h b = b
blames_more P Q (fault.Damaged (damage.Size at stored least most)) h b = b
blames_more P Q (fault.Damaged (damage.Page page why stored due)) h b = b
blames_more P Q fault.DiskFault h b = tt
blames_more P Q fault.Spent h b = tt
blames_more P Q fault.Memory h b = tt

pub blamed_number : (m : Entries) (w key : List ℕ) (i : ℕ) (f : Fault) → key ≡ count_key w → Some i ≡ index_of m key → BlamesNumber (slice_get m i) f → BlamesCount m w f
blamed_number m w key i f k s b = by (slice_get m i) refl b
  where
    by : (o : Option Entry) → slice_get m i ≡ o → BlamesNumber o f → BlamesCount m w f
    by None g u = blames_more (λ z. ⊥) (λ z. (z ≡ count_key w) × (number_held m w ≡ None)) f (λ z x. absurd x) u
    by (Some e) g u = blames_more _ (λ z. (z ≡ count_key w) × (number_held m w ≡ None)) f
        (λ z x. let t = spot_entry m key i e s g in (x.0 ∙ t.1 ∙ k, ap (λ y. number_in (lookup m y)) (sym k) ∙ ap number_in t.0 ∙ x.1)) u

pub ok_more : {A : Type 0} {P Q : A → Type 0} (r : Result A Fault) → ((a : A) → P a → Q a) → IfOk r P → IfOk r Q
ok_more (Ok a) f h = f a h
ok_more (Err e) f h = tt

pub err_more : {A : Type 0} {P Q : Fault → Type 0} (r : Result A Fault) → ((e : Fault) → P e → Q e) → IfErr r P → IfErr r Q
err_more (Ok a) f h = tt
err_more (Err e) f h = f e h

pub err_told : {A : Type 0} {P Q : Fault → Type 0} (r : Result A Fault) → IsErrAnd r Q → ((f : Fault) → Q f → P f) → IfErr r P
err_told (Ok a) h g = tt
err_told (Err f) h g = g f h

pub blamed_counts : (m : Entries) (ts : List WordChange) (t : WordChange) (i : ℕ) (f : Fault) → i < length ts → t ≡ get_or ts i t → BlamesCount m t.word f → BlamesCounts m ts f
blamed_counts m ts t i f l e b = blames_more (λ z. (z ≡ count_key t.word) × (number_held m t.word ≡ None)) _ f (λ z x. (t, within_of t ts (i, l, sym e), x.0, x.1)) b
