-- The next lexeme in its order.
use Rattle.std.proofs.Common.{◌≡◌, ℕ, suc, ◌<◌, ◌≤◌, Bool, true, false, cond, List, length, Option, Some, None, eqb, refl, ◌∙◌}
use Rattle.mm_xml.specs.Grammar.{is_inside}
use Rattle.mm_xml.specs.Inside.Lexing.{◌>>=◌}
use Rattle.mm_xml.specs.Inside.Telling.{Sign}
use Rattle.mm_xml.specs.Inside.Machine.{Order, sign_may}
use Rattle.mm_xml.specs.Inside.Passages.{passage_at, allowed_at}
use Rattle.mm_xml.proofs.Spans.{some, no, bind_some, taken}
use Rattle.mm_xml.proofs.Passages.{passage_shorter}

-- what is left, with room for it: b says whether there is nothing
pub record Left (k m : ℕ) (b : Bool) (rest : List ℕ) : Type 0 where
  pub few : length rest ≤ k
  pub count : k ≡ suc m
  pub is : b ≡ eqb (length rest) 0
  pub filled : b ≡ false

-- what is done where a test passes is done behind the test
pub guarded : {A B : Type 0} (o : Option A) (test : A → Bool) (f : A → Option B) → (o >>= λ x. cond (test x) (f x) None) ≡ ((o >>= λ x. cond (test x) (Some x) None) >>= f)
guarded None test f = refl
guarded (Some x) test f = elim (test x) as (λ b. cond b (f x) None ≡ (cond b (Some x) None >>= f)) [ true ↦ refl | false ↦ refl ]

-- what is allowed takes a character
pub allowed_shorter : (order : Order) (cs : List ℕ) (sign : Sign) (behind : List ℕ) → allowed_at order cs ≡ Some (sign, behind) → length behind < length cs
allowed_shorter order cs sign behind e =
    let f = bind_some (passage_at (is_inside order.depth) cs) (λ x. cond (sign_may order x.0) (some x) no) (sign, behind) e in
    let t = taken (sign_may order f.0.0) (some f.0) (sign, behind) f.2 in
    passage_shorter (is_inside order.depth) cs sign behind (f.1 ∙ t.1)
