-- The level of a label, number by number and part by part.
use Rattle.std.proofs.Common.{◌≡◌, ℕ, ◌+◌, Bool, true, false, cond, List, [], ◌∷◌, ◌++◌, ap, ◌∙◌, refl, zero-add, arith}
use Rattle.std.proofs.lemmas.List.Sums.{sum_by-append}
use Rattle.std.specs.Prelude.{ℤ}
use Rattle.mm_label.specs.Label.{is_empty, is_odd, is_segment, level}

pub level-cons : (c : ℤ) (cs : List ℤ) → level (c ∷ cs) ≡ cond (is_odd c) 1 0 + level cs
level-cons c cs = sum_by-append (λ x. cond (is_odd x) 1 0) (c ∷ []) cs ∙ ap (λ k. k + level cs) (zero-add (cond (is_odd c) 1 0))

pub level_joined : (y s : List ℤ) → level (y ++ s) ≡ level y + level s
level_joined [] s = omega arith
level_joined (c ∷ y) s = let t = level-cons c (y ++ s) in let u = level-cons c y in let v = level_joined y s in omega arith

pub segment_level : (s : List ℤ) → is_segment s ≡ true → level s ≡ 1
segment_level [] h = absurd cc
segment_level (c ∷ s) h = by (is_odd c) refl h (segment_level s)
  where
    alone : (s : List ℤ) → is_odd c ≡ true → is_empty s ≡ true → level (c ∷ s) ≡ 1
    alone [] e g = level-cons c [] ∙ ap (λ (b : Bool). cond b 1 0 + 0) e
    alone (d ∷ s) e g = absurd cc

    by : (b : Bool) → is_odd c ≡ b → cond b (is_empty s) (is_segment s) ≡ true → (is_segment s ≡ true → level s ≡ 1) → level (c ∷ s) ≡ 1
    by true e h f = alone s e h
    by false e h f =
        let t = level-cons c s in
        let z : ◌≡◌ {A = ℕ} (cond (is_odd c) 1 0) 0 = ap (λ (b : Bool). cond b 1 0) e in
        let u = f h in
        omega (arith, t, z, u)
