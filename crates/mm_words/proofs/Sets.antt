-- A list that was sorted and whose repeats were taken out.
use Rattle.std.proofs.Common.{ℕ, List, [], subst, sym, IsPermutation, IsSorted, nat_eq, nat_cmp}
use Rattle.std.specs.Cmp.Lexicographic.{slice_cmp, pointwise, texts_ties}
use Rattle.std.specs.List.Retain.{IsFiltered, DiffersFromLast}
use Rattle.std.proofs.lemmas.Cmp.{nat_list_cmp_total, nat_list_eq_equiv}
use Rattle.std.proofs.lemmas.List.Filters.{dedup_is}
use Rattle.std.proofs.lemmas.List.Kept.{Contains-dedup, Contains-from_dedup, IsStrictlySortedBy-dedup}
use Rattle.std.proofs.lemmas.List.Sorted.{Contains-permutation, IsPermutation-sym}
use Rattle.std.proofs.lemmas.Slice.Eq.{bytes_eq-Decides}
use Rattle.mm_words.specs.Words.{IsSetOf}

pub set_of : (ws sorted out : List (List ℕ)) → IsPermutation ws sorted → IsSorted (slice_cmp nat_cmp) sorted → IsFiltered (DiffersFromLast (pointwise nat_eq)) [] sorted out → IsSetOf ws out
set_of ws sorted out p s d =
    let e = dedup_is (pointwise nat_eq) sorted out d in
    subst (IsSetOf ws) (sym e) (record {
      rises = IsStrictlySortedBy-dedup nat_list_cmp_total texts_ties sorted s;
      same = λ w. (
        λ h. Contains-permutation sorted ws w (IsPermutation-sym ws sorted p) (Contains-from_dedup (pointwise nat_eq) sorted w h),
        λ h. Contains-dedup nat_list_eq_equiv (λ x y t. (bytes_eq-Decides x y).0 t) sorted w (Contains-permutation ws sorted w p h),
      );
    })
