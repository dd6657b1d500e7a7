-- Counting the lines of replies.
use Rattle.std.proofs.Common.{◌≡◌, ℕ, ◌+◌, ◌^◌, ◌<◌, Bool, true, false, cond, List, [], ◌∷◌, ◌++◌, length, sym, ◌∙◌, ap, refl, arith, if◌then◌else◌, filter, Result, Ok, Err, Some, None, codes}
use Rattle.std.specs.declared.option.Option.{Option}
use Rattle.std.specs.Result.{result_unwrap_or}
use Rattle.std.specs.List.{sum_by, last_or}
use Rattle.std.specs.Str.{all_ascii_digits}
use Rattle.std.specs.Str.Parse.{ParsesUnsigned, IsNumeral, without_leading_plus, digits_value}
use Rattle.std.proofs.lemmas.Bool.{and_from, and_parts, not-true, not_from_false, eqb-false, ne_eqb, lt-ltb, ltb-true, false_from_ne_true}
use Rattle.std.proofs.lemmas.List.Sums.{sum_by_push}
use Rattle.std.proofs.lemmas.Str.Parse.{IsNumeralModel, numerals_by_value, tells_all_ascii_digits}
use Rattle.mm_sample.specs.Counts.{is_number, number_in, number_behind, number_behind_any, nodes_in, begins_with, held}

-- ---- the number that a text is

own : IsNumeralModel (λ ds. all_ascii_digits ds ≡ true) (digits_value 10)
own = numerals_by_value _ tells_all_ascii_digits

a_number : (ds : List ℕ) → IsNumeral 10 ds → digits_value 10 ds < 2 ^ 64 → is_number ds ≡ true
a_number ds n small = and_from _ _ (not_from_false _ (ne_eqb (length ds) 0 (λ e. let some : 0 < length ds = n.0 in omega arith))) (and_from _ _ (own.from ds n.1) (lt-ltb _ _ small))

numeral : (ds : List ℕ) → is_number ds ≡ true → IsNumeral 10 ds × (digits_value 10 ds < 2 ^ 64)
numeral ds e =
    let parts = and_parts _ _ e in
    let more = and_parts _ _ parts.1 in
    let some : length ds ≡ 0 → ⊥ = eqb-false (length ds) 0 (not-true _ parts.0) in
    ((omega arith, own.to ds more.0), ltb-true _ _ more.1)

chosen : (b : Bool) (n : ℕ) → b ≡ true → n ≡ (if b then n else 0)
chosen true n e = refl
chosen false n e = absurd (cc)

not_chosen : (b : Bool) (n : ℕ) → b ≡ false → 0 ≡ (if b then n else 0)
not_chosen true n e = absurd (cc)
not_chosen false n e = refl

-- what `parse` gives, or 0
pub number_parsed : {E : Type 0} (text : List ℕ) (r : Result ℕ E) → ParsesUnsigned 64 10 text r → result_unwrap_or r 0 ≡ number_in text
number_parsed text (Ok n) h = h.1 ∙ chosen (is_number (without_leading_plus text)) (digits_value 10 (without_leading_plus text)) (a_number _ h.0.0 h.0.1)
number_parsed text (Err e) h =
    let digits : List ℕ = without_leading_plus text in
    not_chosen (is_number digits) (digits_value 10 digits) (false_from_ne_true _ (λ is. h (numeral digits is)))

-- ---- all lines

-- one more line of a sum over those that p picks
pub summed : (p : List ℕ → Bool) (k : List ℕ → ℕ) (ls : List (List ℕ)) (line : List ℕ) (n m : ℕ) → n ≡ held (sum_by (λ l. if p l then k l else 0) ls) → m ≡ (if p line then held (n + k line) else n)
    → m ≡ held (sum_by (λ l. if p l then k l else 0) (ls ++ line ∷ []))
summed p k ls line n m e h = h ∙ (more (p line) n (sum_by (λ l. if p l then k l else 0) ls) (k line) e ∙ ap held (sym (sum_by_push (λ l. if p l then k l else 0) ls line)))
  where
    more : (b : Bool) (n s f : ℕ) → n ≡ held s → (if b then held (n + f) else n) ≡ held (s + (if b then f else 0))
    more true n s f e = omega arith
    more false n s f e = omega arith

last_of_one : (o : Option (List ℕ)) (line : List ℕ) (b : Bool) → number_behind_any (last_or o (cond b (line ∷ []) [])) ≡ (if b then number_behind line else number_behind_any o)
last_of_one o line true = refl
last_of_one o line false = refl

-- one more line: it is the last of its word, or what was the last still is
last_by : (p : List ℕ → Bool) (o : Option (List ℕ)) (ls : List (List ℕ)) (line : List ℕ) → number_behind_any (last_or o (filter p (ls ++ line ∷ []))) ≡ (if p line then number_behind line else number_behind_any (last_or o (filter p ls)))
last_by p o [] line = last_of_one o line (p line)
last_by p o (l ∷ ls) line = at (λ q. last_by p q ls line) (p l)
  where
    at : ((q : Option (List ℕ)) → number_behind_any (last_or q (filter p (ls ++ line ∷ []))) ≡ (if p line then number_behind line else number_behind_any (last_or q (filter p ls))))
        → (b : Bool) → number_behind_any (last_or o (cond b (l ∷ filter p (ls ++ line ∷ [])) (filter p (ls ++ line ∷ [])))) ≡ (if p line then number_behind line else number_behind_any (last_or o (cond b (l ∷ filter p ls) (filter p ls))))
    at each true = each (Some l)
    at each false = each o

pub latest : (ls : List (List ℕ)) (line : List ℕ) (n m : ℕ) → n ≡ nodes_in ls → m ≡ (if begins_with (codes "sound") line then number_behind line else n) → m ≡ nodes_in (ls ++ line ∷ [])
latest ls line n m e h = h ∙ (ap (λ k. if begins_with (codes "sound") line then number_behind line else k) e ∙ sym (last_by (begins_with (codes "sound")) None ls line))
