-- Labels as keys of a map.
use Rattle.std.proofs.Common.{◌≡◌, Bool, true, false, refl, ap, sym, subst, ◌∙◌, Ordering, Less, Equal, Greater}
use Rattle.std.specs.Ordering.{int_cmp, is_eq}
use Rattle.std.specs.Cmp.{int_cmp_total}
use Rattle.std.specs.Cmp.Lexicographic.{slice_cmp, lists_total}
use Rattle.std.proofs.lemmas.Cmp.{tied_itself}
use Rattle.std.proofs.lemmas.Map.Lookups.{CmpEqualImpliesEq}
use Rattle.mm_label.specs.Fronts.{Label, same}
use Rattle.mm_label.specs.Facts.Fronts.{same_is, same_of}
use Rattle.mm_label.specs.Facts.Order.{exact}

is_equal : (o : Ordering) → is_eq o ≡ true → o ≡ Equal
is_equal Less e = absurd cc
is_equal Equal e = refl
is_equal Greater e = absurd cc

pub exact_label : CmpEqualImpliesEq (slice_cmp int_cmp)
exact_label a b h = exact a b h

pub key_is : (a b : Label) → is_eq (slice_cmp int_cmp a b) ≡ true → a ≡ b
key_is a b e = exact a b (is_equal (slice_cmp int_cmp a b) e)

pub key_of : (a b : Label) → a ≡ b → is_eq (slice_cmp int_cmp a b) ≡ true
key_of a b e = subst (λ (x : Label). is_eq (slice_cmp int_cmp a x) ≡ true) e (ap is_eq (tied_itself (lists_total int_cmp_total) a))

pub key_same : (a b : Label) → is_eq (slice_cmp int_cmp a b) ≡ same a b
key_same a b = by (is_eq (slice_cmp int_cmp a b)) (same a b) refl refl
  where
    by : (u v : Bool) → is_eq (slice_cmp int_cmp a b) ≡ u → same a b ≡ v → is_eq (slice_cmp int_cmp a b) ≡ same a b
    by true v e f = e ∙ sym (same_of a b (key_is a b e))
    by false true e f = let k = key_of a b (same_is a b f) in absurd cc
    by false false e f = e ∙ sym f
