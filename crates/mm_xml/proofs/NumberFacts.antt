-- Numbers of characters, of which all that are too large are one.
use Rattle.std.proofs.Common.{◌≡◌, refl, sym, ap, ◌∙◌, ℕ, ◌+◌, ◌*◌, ◌≤◌, min, true, false, leb, List, [], ◌∷◌, arith}
use Rattle.std.proofs.Math.Nat.{mul-le-mul_right}
use Rattle.std.proofs.lemmas.Bool.{leb-true}
use Rattle.std.proofs.lemmas.Bool.Decides.{nat_tests}
use Rattle.mm_xml.specs.Letters.{digits_value, digit}
use Rattle.mm_xml.specs.Inside.Numbers.{capped}

at_least : (base n : ℕ) → 1 ≤ base → 1114112 ≤ n → 1114112 ≤ base * n
at_least base n h le = omega (arith, mul-le-mul_right {m = 1} {n = base} n h)

same_digit : (base m d : ℕ) → 1 ≤ base → min (base * min m 1114112 + d) 1114112 ≡ min (base * m + d) 1114112
same_digit base m d h = elim (leb m 1114112) as (λ b. leb m 1114112 ≡ b → min (base * min m 1114112 + d) 1114112 ≡ min (base * m + d) 1114112) [
  | true ↦ λ e. let small : min m 1114112 ≡ m = omega (arith, leb-true m 1114112 e) in ap (λ k. min (base * k + d) 1114112) small
  | false ↦ λ e.
      let large : 1114112 ≤ m = grind (arith, nat_tests) in
      let top : min m 1114112 ≡ 1114112 = omega (arith, large) in
      ap (λ k. min (base * k + d) 1114112) top ∙ omega (arith, at_least base m h large, at_least base 1114112 h (omega arith))
] refl

cap_same : (base m : ℕ) (ds : List ℕ) → 1 ≤ base → capped (digits_value base (min m 1114112) ds) ≡ capped (digits_value base m ds)
cap_same base m [] h = omega arith
cap_same base m (d ∷ ds) h =
    sym (cap_same base (base * min m 1114112 + digit d) ds h)
    ∙ ap (λ k. capped (digits_value base k ds)) (same_digit base m (digit d) h)
    ∙ cap_same base (base * m + digit d) ds h

-- one digit further, the number is the same
pub next_digit : (base n m c total : ℕ) (rest behind : List ℕ) → 1 ≤ base → rest ≡ c ∷ behind → m ≡ min (base * n + digit c) 1114112
    → capped (digits_value base n rest) ≡ total → capped (digits_value base m behind) ≡ total
next_digit base n m c total rest behind h here is before =
    ap (λ k. capped (digits_value base k behind)) is ∙ cap_same base (base * n + digit c) behind h ∙ ap (λ (r : List ℕ). capped (digits_value base n r)) (sym here) ∙ before

-- no digit is left
pub last_digit : (base n total : ℕ) (rest : List ℕ) → rest ≡ [] → n ≤ 1114112 → capped (digits_value base n rest) ≡ total → n ≡ total
last_digit base n total rest none small before = omega (arith, small) ∙ ap (λ (r : List ℕ). capped (digits_value base n r)) (sym none) ∙ before
