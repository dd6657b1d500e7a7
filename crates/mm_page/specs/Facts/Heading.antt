-- What is read from the bytes of page 0.
use Rattle.std.proofs.Common.{◌≡◌, ℕ, ◌^◌, ◌≤◌, ◌<◌, Bool, true, false, cond, List, ◌++◌, length, drop, replicate, None, refl, sym, ap, ap₂, ◌∙◌, subst, arith, append_assoc}
use Rattle.std.specs.Prelude.{◌↔◌, ◌==◌, nat_lt, Option, Some, option_map}
use Rattle.std.specs.Coded.{Unit-prop}
use native.Mathlib.Bridge.{le_prop}
use Rattle.std.proofs.lemmas.Bool.Decides.{nat_tests}
use Rattle.std.proofs.lemmas.List.{length-append, length-replicate, drop_at}
use Rattle.byteorder.specs.Endian.{big_number, big_bytes}
use Rattle.byteorder.specs.Numbers.{big_number-reads_back, length-bytes_high_first}
use Rattle.mm_host.specs.declared.area.Area.TheVariants as area
use Rattle.mm_host.specs.declared.damage.Damage.TheVariants as damage
use Rattle.mm_host.specs.declared.damage.Fault.TheVariants as fault
use Rattle.mm_page.specs.Rules.{broken, damaged}
use Rattle.mm_page.specs.Header.{mark, header_of, header_fault, header_bytes}
use Rattle.mm_page.specs.declared.header.Header.{Header}
use Rattle.mm_page.specs.declared.rules.Violation.{Violation}
use Rattle.mm_page.specs.Paging.{head_damage}
use Rattle.mm_page.specs.Slots.{IsHeader}

-- three numbers of eight bytes, read
pub record AreRead (x : List ℕ) (p f : ℕ) : Type 0 where
  pub first : big_number 8 x ≡ mark
  pub second : big_number 8 (drop 8 x) ≡ p
  pub third : big_number 8 (drop 16 x) ≡ f

pub numbers-read : (p f : ℕ) → p < 2 ^ 64 → f < 2 ^ 64 → AreRead (header_bytes (record { pages = p; first = f })) p f
numbers-read p f hp hf =
    let a = big_bytes 8 mark in
    let b = big_bytes 8 p in
    let c = big_bytes 8 f in
    let z : List ℕ = replicate 4072 0 in
    let la = length-bytes_high_first 8 mark in
    let lb = length-bytes_high_first 8 p in
    let apart : ((a ++ b) ++ c) ++ z ≡ (a ++ b) ++ (c ++ z) = append_assoc (a ++ b) c z in
    let each : ((a ++ b) ++ c) ++ z ≡ a ++ (b ++ (c ++ z)) = apart ∙ append_assoc a b (c ++ z) in
    record {
      first = ap (λ t. big_number 8 t) each ∙ big_number-reads_back 8 mark (b ++ (c ++ z)) (omega arith);
      second = ap (λ t. big_number 8 (drop 8 t)) each ∙ ap (λ t. big_number 8 t) (drop_at a (b ++ (c ++ z)) 8 la) ∙ big_number-reads_back 8 p (c ++ z) (omega (arith, hp));
      third = ap (λ t. big_number 8 (drop 16 t)) apart ∙ ap (λ t. big_number 8 t) (drop_at (a ++ b) (c ++ z) 16 (omega (arith, length-append a b, la, lb))) ∙ big_number-reads_back 8 f z (omega (arith, hf));
    }

pub header-back : (h : Header) → h.pages < 2 ^ 64 → h.first < 2 ^ 64 → header_of (header_bytes h) ≡ h
header-back h hp hf =
    let r = numbers-read h.pages h.first hp hf in
    ap₂ (λ s t. record { pages = s; first = t }) r.second r.third

pub header-right : (h : Header) → h.pages < 2 ^ 64 → h.first < 2 ^ 64 → (header_fault (header_bytes h) ≡ None) ↔ ((2 ≤ h.pages) × (h.pages ≤ 2 ^ 43))
header-right h hp hf =
    let r = numbers-read h.pages h.first hp hf in
    let e : header_fault (header_bytes h) ≡ told mark h.pages = ap₂ told r.first r.second in
    subst (λ t. (t ≡ None) ↔ ((2 ≤ h.pages) × (h.pages ≤ 2 ^ 43))) (sym e) (cases h.pages (nat_lt h.pages 2) (nat_lt (2 ^ 43) h.pages) refl refl)
  where
    told : ℕ → ℕ → Option Violation
    told m p = cond (m == mark) (cond (nat_lt p 2) (broken 2 p (2 ^ 43)) (cond (nat_lt (2 ^ 43) p) (broken 2 p (2 ^ 43)) None)) (broken 1 m mark)

    cases : (p : ℕ) (a b : Bool) → nat_lt p 2 ≡ a → nat_lt (2 ^ 43) p ≡ b → (cond a (broken 2 p (2 ^ 43)) (cond b (broken 2 p (2 ^ 43)) None) ≡ None) ↔ ((2 ≤ p) × (p ≤ 2 ^ 43))
    cases p true b q r = ((λ h. absurd cc), (λ h. absurd (let l = h.0 in grind (arith, nat_tests))))
    cases p false true q r = ((λ h. absurd cc), (λ h. absurd (let l = h.1 in grind (arith, nat_tests))))
    cases p false false q r = ((λ h. (grind (arith, nat_tests), grind (arith, nat_tests))), (λ h. refl))

-- ---- a header that may be there

pub head-back : (o : Option Header) → IsHeader o → o ≡ option_map header_of (option_map header_bytes o)
head-back None h = refl
head-back (Some x) h = ap (λ t. Some t) (sym (header-back x (omega (arith, h.1)) (omega (arith, h.1, h.2))))

pub header-long : (h : Header) → length (header_bytes h) ≡ 4096
header-long h =
    let a = big_bytes 8 mark in
    let b = big_bytes 8 h.pages in
    let c = big_bytes 8 h.first in
    let z : List ℕ = replicate 4072 0 in
    omega (arith, length-append ((a ++ b) ++ c) z, length-append (a ++ b) c, length-append a b, length-bytes_high_first 8 mark, length-bytes_high_first 8 h.pages, length-bytes_high_first 8 h.first, length-replicate {A = ℕ} 4072 0)

pub head-right : (o : Option Header) → IsHeader o → head_damage (option_map header_bytes o) ≡ None
head-right None h = refl
head-right (Some x) h =
    let short : nat_lt (length (header_bytes x)) 4096 ≡ false = (let l = header-long x in grind (arith, nat_tests)) in
    let right : header_fault (header_bytes x) ≡ None = (header-right x (omega (arith, h.1)) (omega (arith, h.1, h.2))).1 (h.0, h.1) in
    ap (λ b. cond b (Some (fault.Damaged (damage.Cut area.Pages 0 4096 (length (header_bytes x))))) (option_map (damaged 0) (header_fault (header_bytes x)))) short
    ∙ ap (λ v. option_map (damaged 0) v) right

pub IsHeader-prop : (o : Option Header) → IsProp (IsHeader o)
IsHeader-prop None = Unit-prop
IsHeader-prop (Some h) = hlevel le_prop
