-- Names that are seen one after the other are_distinct, where all are_distinct.
use Rattle.std.proofs.Common.{◌≡◌, ℕ, Bool, true, false, ◌&&◌, ◌||◌, not, List, [], ◌∷◌, refl, sym, ap, ◌∙◌}
use Rattle.std.specs.List.{list_any}
use Rattle.std.specs.Str.{bytes_eq}
use Rattle.std.proofs.lemmas.Slice.Eq.{bytes_eq-Decides}
use Rattle.mm_tree.specs.Validity.{are_distinct}
use Rattle.mm_xml.specs.Inside.Distinct.{differ_from}

-- every name differs from those seen
abbrev apart : List (List ℕ) → List (List ℕ) → Bool
apart seen [] = true
apart seen (n ∷ ns) = not (list_any (λ m. bytes_eq n m) seen) && apart seen ns

pub flip : (n m : List ℕ) → bytes_eq n m ≡ bytes_eq m n
flip n m = elim (bytes_eq n m) as (λ b. bytes_eq n m ≡ b → b ≡ bytes_eq m n) [
  | true ↦ λ e. sym ((bytes_eq-Decides m n).1 (sym ((bytes_eq-Decides n m).0 e)))
  | false ↦ λ e. elim (bytes_eq m n) as (λ c. bytes_eq m n ≡ c → false ≡ c) [ true ↦ λ f. absurd (clash n m e (sym ((bytes_eq-Decides m n).0 f))) | false ↦ λ f. refl ] refl
] refl
  where
    clash : (n m : List ℕ) → bytes_eq n m ≡ false → n ≡ m → ⊥
    clash n m e f = let g : bytes_eq n m ≡ true = (bytes_eq-Decides n m).1 f in cc

split : (a b c d : Bool) → (not (a || b) && (not c && d)) ≡ (not c && (not a && (not b && d)))
split true b true d = refl
split true b false d = refl
split false true true d = refl
split false true false d = refl
split false false true d = refl
split false false false d = refl

apart_more : (n : List ℕ) (seen ns : List (List ℕ)) → apart (n ∷ seen) ns ≡ (not (list_any (λ m. bytes_eq n m) ns) && apart seen ns)
apart_more n seen [] = refl
apart_more n seen (k ∷ ns) =
    ap (λ r. not (bytes_eq k n || list_any (λ m. bytes_eq k m) seen) && r) (apart_more n seen ns)
    ∙ ap (λ b. not (b || list_any (λ m. bytes_eq k m) seen) && (not (list_any (λ m. bytes_eq n m) ns) && apart seen ns)) (flip k n)
    ∙ shuffle (bytes_eq n k) (list_any (λ m. bytes_eq k m) seen) (list_any (λ m. bytes_eq n m) ns) (apart seen ns)
  where
    shuffle : (a b c d : Bool) → (not (a || b) && (not c && d)) ≡ (not (a || c) && (not b && d))
    shuffle true b c d = refl
    shuffle false true true d = refl
    shuffle false true false d = refl
    shuffle false false true d = refl
    shuffle false false false d = refl

seen_is : (ns seen : List (List ℕ)) → differ_from seen ns ≡ (apart seen ns && are_distinct ns)
seen_is [] seen = refl
seen_is (n ∷ ns) seen =
    ap (λ r. not (list_any (λ m. bytes_eq n m) seen) && r) (seen_is ns (n ∷ seen) ∙ ap (λ a. a && are_distinct ns) (apart_more n seen ns))
    ∙ regroup (not (list_any (λ m. bytes_eq n m) seen)) (not (list_any (λ m. bytes_eq n m) ns)) (apart seen ns) (are_distinct ns)
  where
    regroup : (p q a d : Bool) → (p && ((q && a) && d)) ≡ ((p && a) && (q && d))
    regroup true true a d = refl
    regroup true false true d = refl
    regroup true false false d = refl
    regroup false q a d = refl

apart_none : (ns : List (List ℕ)) → apart [] ns ≡ true
apart_none [] = refl
apart_none (n ∷ ns) = apart_none ns

-- one pass over the names, with those seen, tells whether they are_distinct
pub differ_is : (ns : List (List ℕ)) → differ_from [] ns ≡ are_distinct ns
differ_is ns = seen_is ns [] ∙ ap (λ a. a && are_distinct ns) (apart_none ns)
