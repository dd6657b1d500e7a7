-- Keys that are the same, and keys that aren't.
use Rattle.std.proofs.Common.{◌≡◌, refl, ap, subst, Bool, true, false, ℕ, List}
use Rattle.std.specs.Ordering.{is_lt}
use Rattle.std.specs.Str.{bytes_eq}
use Rattle.std.proofs.lemmas.Cmp.{nat_list_cmp_total, tied_itself}
use Rattle.std.proofs.lemmas.Slice.Eq.{bytes_eq-Decides}
use Rattle.mm_keeper.specs.Entries.{below}

pub same : (a b : List ℕ) → bytes_eq a b ≡ true → a ≡ b
same a b e = (bytes_eq-Decides a b).0 e

pub same_self : (a : List ℕ) → bytes_eq a a ≡ true
same_self a = (bytes_eq-Decides a a).1 refl

pub not_below_self : (a : List ℕ) → below a a ≡ false
not_below_self a = ap is_lt (tied_itself nat_list_cmp_total a)

-- a key below another isn't the same
pub differs : (a b : List ℕ) → below a b ≡ true → bytes_eq a b ≡ false
differs a b p = by (bytes_eq a b) refl
  where
    by : (t : Bool) → bytes_eq a b ≡ t → bytes_eq a b ≡ false
    by false e = e
    by true e = absurd (let h : below b b ≡ true = subst (λ z. below z b ≡ true) (same a b e) p in let k = not_below_self b in cc)
