-- Bytes that go one after the other.
use Rattle.std.proofs.Common.{◌≡◌, ℕ, List, [], ◌∷◌, ◌++◌, refl, ap, sym, ◌∙◌, arith, length-append, append_assoc, None, Some}
use Rattle.std.specs.declared.option.Option.{Option}
use Rattle.std.specs.Io.KnownBytes.{prepend_known}
use Rattle.mm_run.specs.Lines.{HasNoLineFeed}
use Rattle.mm_run.specs.Inside.Input.{Went}

pub prepend_known-nil : (known : Option (List ℕ)) → prepend_known [] known ≡ known
prepend_known-nil None = refl
prepend_known-nil (Some bytes) = refl

pub prepend_known-append : (xs ys : List ℕ) (known : Option (List ℕ)) → prepend_known (xs ++ ys) known ≡ prepend_known xs (prepend_known ys known)
prepend_known-append xs ys None = refl
prepend_known-append xs ys (Some zs) = ap (λ l. Some l) (append_assoc xs ys zs)

pub went-none : (known : Option (List ℕ)) (n : ℕ) → Went known known n n []
went-none known n = record { bytes = sym (prepend_known-nil known); count = omega arith }

pub went-more : {a b c : Option (List ℕ)} {n m k : ℕ} {xs ys : List ℕ} → Went a b n m xs → Went b c m k ys → Went a c n k (xs ++ ys)
went-more {a} {b} {c} {n} {m} {k} {xs} {ys} first second = record {
  bytes = first.bytes ∙ ap (prepend_known xs) second.bytes ∙ sym (prepend_known-append xs ys c);
  count = omega (arith, first.count, second.count, length-append xs ys);
}

-- a step that hands out nothing
pub went-still : {a b c : Option (List ℕ)} {n m k : ℕ} {xs : List ℕ} → Went a b n m xs → Went b c m k [] → Went a c n k xs
went-still {a} {b} {c} {n} {m} {k} {xs} first second = record {
  bytes = first.bytes ∙ ap (prepend_known xs) (second.bytes ∙ prepend_known-nil c);
  count = omega (arith, first.count, second.count);
}

pub no_feed-append : (xs ys : List ℕ) → HasNoLineFeed xs → HasNoLineFeed ys → HasNoLineFeed (xs ++ ys)
no_feed-append [] ys first second = second
no_feed-append (x ∷ xs) ys first second = (first.0, no_feed-append xs ys first.1 second)
