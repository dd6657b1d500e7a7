-- What is told of a difference, entry by entry.
use Rattle.std.proofs.Common.{◌≡◌, ◌+◌, ℕ, length, arith, refl, ap, sym, ◌∙◌, Bool, true, false, List, [], ◌∷◌, ◌++◌, append_assoc}
use Rattle.std.specs.Prelude.{is_some, Option, Some, None, if◌then◌else◌, not, option_map}
use Rattle.mm_keeper.specs.Entries.{Entry, Entries, has, lookup}
use Rattle.mm_keeper.specs.Facts.Keys.{has-some, has-none}
use Rattle.mm_edit.specs.Difference.{Key, changed, gone, holds, keys}
use Rattle.mm_edit.specs.Plans.{AreSized}
use Rattle.mm_edit.proofs.Lookups.{Value}

-- a key is there where it has a value
pub has_value : (k : Key) (m : Entries) (o : Value) → o ≡ lookup m k → is_some o ≡ has m k
has_value k m None e = sym (has-none k m (sym e))
has_value k m (Some v) e = sym (has-some k v m (sym e))

pub gone_more : (told now all : List Key) (xs ys after : Entries) (e : Entry) (b : Bool) → xs ≡ e ∷ ys → b ≡ has after e.0 → now ≡ (if not b then told ++ e.0 ∷ [] else told)
    → told ++ keys (gone xs after) ≡ all → now ++ keys (gone ys after) ≡ all
gone_more told now all xs ys after e b x h n t = by b h n
  where
    here : (c : Bool) → c ≡ has after e.0 → told ++ keys (if not c then e ∷ gone ys after else gone ys after) ≡ all
    here c p = ap (λ z. told ++ keys (if not z then e ∷ gone ys after else gone ys after)) p ∙ ap (λ z. told ++ keys (gone z after)) (sym x) ∙ t

    by : (c : Bool) → c ≡ has after e.0 → now ≡ (if not c then told ++ e.0 ∷ [] else told) → now ++ keys (gone ys after) ≡ all
    by true p q = ap (λ z. z ++ keys (gone ys after)) q ∙ here true p
    by false p q = ap (λ z. z ++ keys (gone ys after)) q ∙ append_assoc told (e.0 ∷ []) (keys (gone ys after)) ∙ here false p

pub changed_more : (told now all xs ys before : Entries) (e : Entry) (b : Bool) → xs ≡ e ∷ ys → b ≡ holds before e → now ≡ (if not b then told ++ e ∷ [] else told)
    → told ++ changed before xs ≡ all → now ++ changed before ys ≡ all
changed_more told now all xs ys before e b x h n t = by b h n
  where
    here : (c : Bool) → c ≡ holds before e → told ++ (if not c then e ∷ changed before ys else changed before ys) ≡ all
    here c p = ap (λ z. told ++ (if not z then e ∷ changed before ys else changed before ys)) p ∙ ap (λ z. told ++ changed before z) (sym x) ∙ t

    by : (c : Bool) → c ≡ holds before e → now ≡ (if not c then told ++ e ∷ [] else told) → now ++ changed before ys ≡ all
    by true p q = ap (λ z. z ++ changed before ys) q ∙ here true p
    by false p q = ap (λ z. z ++ changed before ys) q ∙ append_assoc told (e ∷ []) (changed before ys) ∙ here false p

pub sized_behind : (xs : Entries) (e : Entry) → AreSized xs → AreSized (e ∷ []) → AreSized (xs ++ e ∷ [])
sized_behind [] e a b = b
sized_behind (x ∷ xs) e a b = (a.0, sized_behind xs e a.1 b)

pub some_same : {A B : Type 0} (f : A → B) (o : Option A) → is_some o ≡ is_some (option_map f o)
some_same f None = refl
some_same f (Some a) = refl

pub one_less : {A : Type 0} (n m : ℕ) (xs ys : List A) (x : A) → n ≡ length xs → m + 1 ≡ n → xs ≡ x ∷ ys → m ≡ length ys
one_less n m xs ys x e f g = let t : length xs ≡ length (x ∷ ys) = ap length g in omega arith
