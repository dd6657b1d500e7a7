-- Two lists of entries without a first difference are the same.
use Rattle.std.proofs.Common.{◌≡◌, ℕ, Bool, true, false, cond, List, [], ◌∷◌, refl, ap, ap₂, ◌∙◌, Option, Some, None, Ordering, Less, Equal, Greater, nat_cmp}
use Rattle.std.specs.Str.{bytes_eq}
use Rattle.std.specs.Cmp.Lexicographic.{slice_cmp}
use Rattle.std.proofs.lemmas.Cmp.{nat_list_cmp_total, tied_itself}
use Rattle.std.proofs.lemmas.Map.Lookups.{exact_bytes}
use Rattle.std.proofs.lemmas.Slice.Eq.{bytes_eq-Decides}
use Rattle.mm_keeper.specs.Entries.{Entries, Entry}
use Rattle.mm_check.specs.declared.verdict.Named.{Named}
use Rattle.mm_check.specs.Blame.{first_difference, fronts_differ, other_value}

fronts_none : (o : Ordering) (s d : Entry) (rest : Option Named) → fronts_differ o s d rest ≡ None → (o ≡ Equal) × (s.1 ≡ d.1) × (rest ≡ None)
fronts_none Less s d rest e = absurd cc
fronts_none Greater s d rest e = absurd cc
fronts_none Equal s d rest e = by (bytes_eq s.1 d.1) refl e
  where
    by : (t : Bool) → bytes_eq s.1 d.1 ≡ t → cond t rest (Some (other_value s d.1)) ≡ None → (Equal ≡ Equal) × (s.1 ≡ d.1) × (rest ≡ None)
    by true q e = (refl, (bytes_eq-Decides s.1 d.1).0 q, e)
    by false q e = absurd cc

pub no_difference : (s d : Entries) → first_difference s d ≡ None → s ≡ d
no_difference [] [] e = refl
no_difference [] (d ∷ due) e = absurd cc
no_difference (s ∷ stored) [] e = absurd cc
no_difference (s ∷ stored) (d ∷ due) e =
    let t = fronts_none (slice_cmp nat_cmp s.0 d.0) s d (first_difference stored due) e in
    ap₂ (λ (x : Entry) (l : Entries). x ∷ l) (ap₂ (λ (x y : List ℕ). (x, y)) (exact_bytes s.0 d.0 t.0) t.1) (no_difference stored due t.2)

pub same_same : (s : Entries) → first_difference s s ≡ None
same_same [] = refl
same_same (e ∷ es) =
    ap (λ (o : Ordering). fronts_differ o e e (first_difference es es)) (tied_itself nat_list_cmp_total e.0)
    ∙ ap (λ (t : Bool). cond t (first_difference es es) (Some (other_value e e.1))) ((bytes_eq-Decides e.1 e.1).1 refl)
    ∙ same_same es
