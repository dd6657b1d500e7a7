-- A passage of ordinary characters is read as its characters are, one after the other.
use Rattle.std.proofs.Common.{◌≡◌, ℕ, zero, suc, ◌+◌, ◌<◌, ◌≤◌, Bool, true, false, cond, ◌&&◌, not, List, [], ◌∷◌, ◌++◌, length, Some, inl, inr, eqb, refl, sym, ap, ◌∙◌, append_assoc, arith}
use Rattle.std.specs.List.{list_all}
use Rattle.std.proofs.lemmas.List.{append-nil, length-append}
use Rattle.std.proofs.lemmas.Bool.{and_parts}
use Rattle.mm_xml.specs.Syntax.{is_literal, Literal, Data}
use Rattle.mm_xml.specs.Grammar.{is_inside}
use Rattle.mm_xml.specs.Inside.Lexing.{◌>>=◌, Found, span, token_at}
use Rattle.mm_xml.specs.Inside.Telling.{Sign, Character, Passage, told, sign_at}
use Rattle.mm_xml.specs.Inside.Passages.{is_ordinary, passage_at}
use Rattle.mm_xml.specs.Inside.Machine.{State, Order, cut, sign_may, sign_next, read_from}
use Rattle.mm_xml.proofs.Spans.{some, some_is, no, chosen, bind_some, span_all, span_whole}
use Rattle.mm_xml.proofs.Content.{token_again}
use Rattle.mm_xml.proofs.Enough.{read_enough, token_shorter}
use Rattle.mm_xml.proofs.OutlineFacts.{on_state}

negated : (b : Bool) → not b ≡ true → b ≡ false
negated true e = absurd cc
negated false e = refl

pub record Ordinary (c : ℕ) : Type 0 where
  pub literal : is_literal c ≡ true
  pub no_greater : eqb c 62 ≡ false
  pub no_square : eqb c 93 ≡ false

pub ordinary : (c : ℕ) → is_ordinary c ≡ true → Ordinary c
ordinary c h =
    let w = and_parts (is_literal c) (not (eqb c 62) && not (eqb c 93)) h in
    let v = and_parts (not (eqb c 62)) (not (eqb c 93)) w.1 in
    record { literal = w.0; no_greater = negated (eqb c 62) v.0; no_square = negated (eqb c 93) v.1 }

-- an ordinary character stands for itself
pub ordinary_sign : (c : ℕ) (cs : List ℕ) → is_ordinary c ≡ true → sign_at (c ∷ cs) ≡ Some (Character c, cs)
ordinary_sign c cs h = ap (λ o. o >>= λ x. some (told x.0, x.1)) (token_again (Data (Literal c)) cs (ordinary c h).literal)

pub ordinary_may : (order : Order) (c : ℕ) → is_ordinary c ≡ true → is_inside order.depth ≡ true → sign_may order (Character c) ≡ true
ordinary_may order c h inside = rw ((ordinary c h).no_greater, inside) refl

pub ordinary_next : (order : Order) (c : ℕ) → is_ordinary c ≡ true → sign_next order (Character c) ≡ cut order
ordinary_next order c h = ap (λ b. record { squares = cond b (order.squares + 1) 0; before = order.before; depth = order.depth; textual = order.textual }) (ordinary c h).no_square

-- ---- the tree

one_step : (n : ℕ) (s : State) (run : List ℕ) (order : Order) (c : ℕ) (cs : List ℕ) → is_ordinary c ≡ true → is_inside order.depth ≡ true → read_from (suc n) s run order (c ∷ cs) ≡ read_from n s (run ++ c ∷ []) (cut order) cs
one_step n s run order c cs h inside =
    ap (λ (o : Found Sign). o >>= λ x. on_state n s run order x) (ordinary_sign c cs h)
    ∙ ap (λ b. cond b (read_from n s (run ++ c ∷ []) (sign_next order (Character c)) cs) no) (ordinary_may order c h inside)
    ∙ ap (λ (o : Order). read_from n s (run ++ c ∷ []) o cs) (ordinary_next order c h)

all_steps : (xs rest : List ℕ) (n m : ℕ) (s : State) (run : List ℕ) (order : Order) → list_all is_ordinary xs ≡ true → is_inside order.depth ≡ true → length (xs ++ rest) ≤ n → length rest ≤ m
    → read_from n s run (cut order) (xs ++ rest) ≡ read_from m s (run ++ xs) (cut order) rest
all_steps [] rest n m s run order each inside enough few = read_enough n m s run (cut order) rest enough few ∙ ap (λ (r : List ℕ). read_from m s r (cut order) rest) (sym (append-nil run))
all_steps (x ∷ xs) rest zero m s run order each inside enough few = absurd (omega (arith, enough))
all_steps (x ∷ xs) rest (suc n) m s run order each inside enough few =
    let w = and_parts (is_ordinary x) (list_all is_ordinary xs) each in
    one_step n s run (cut order) x (xs ++ rest) w.0 inside
    ∙ all_steps xs rest n m s (run ++ x ∷ []) order w.1 inside (omega (arith, enough)) few
    ∙ ap (λ (r : List ℕ). read_from m s r (cut order) rest) (append_assoc run (x ∷ []) xs)

passage_read : (xs rest : List ℕ) (m : ℕ) (s : State) (run : List ℕ) (order : Order) → list_all is_ordinary xs ≡ true → not (eqb (length xs) 0) ≡ true → is_inside order.depth ≡ true → length (xs ++ rest) ≤ suc m
    → read_from (suc m) s run order (xs ++ rest) ≡ on_state m s run order (Passage xs, rest)
passage_read [] rest m s run order each filled inside enough = absurd cc
passage_read (x ∷ xs) rest m s run order each filled inside enough =
    let w = and_parts (is_ordinary x) (list_all is_ordinary xs) each in
    one_step m s run order x (xs ++ rest) w.0 inside
    ∙ all_steps xs rest m m s (run ++ x ∷ []) order w.1 inside (omega (arith, enough)) (omega (arith, enough, length-append xs rest))
    ∙ ap (λ (r : List ℕ). read_from m s r (cut order) rest) (append_assoc run (x ∷ []) xs)
    ∙ ap (λ b. cond b (read_from m s (run ++ x ∷ xs) (cut order) rest) no) (sym inside)

-- a passage further, the same is read as a character further
pub passage_is : (m : ℕ) (s : State) (run : List ℕ) (order : Order) (c : ℕ) (cs : List ℕ) → length (c ∷ cs) ≤ suc m
    → read_from (suc m) s run order (c ∷ cs) ≡ (passage_at (is_inside order.depth) (c ∷ cs) >>= λ x. on_state m s run order x)
passage_is m s run order c cs enough =
    let xs = (span is_ordinary (c ∷ cs)).0 in
    let rest = (span is_ordinary (c ∷ cs)).1 in
    let whole : xs ++ rest ≡ c ∷ cs = span_whole is_ordinary (c ∷ cs) in
    elim (is_inside order.depth && not (eqb (length xs) 0)) as (λ b. (is_inside order.depth && not (eqb (length xs) 0)) ≡ b → read_from (suc m) s run order (c ∷ cs) ≡ (cond b (some (Passage xs, rest)) (sign_at (c ∷ cs)) >>= λ x. on_state m s run order x)) [
      | true ↦ λ e.
          let w = and_parts (is_inside order.depth) (not (eqb (length xs) 0)) e in
          ap (λ (r : List ℕ). read_from (suc m) s run order r) (sym whole) ∙ passage_read xs rest m s run order (span_all is_ordinary (c ∷ cs)) w.1 w.0 (omega (arith, enough, ap length whole))
      | false ↦ λ e. refl
    ] refl

-- ---- what is read takes a character

filled : (xs : List ℕ) → not (eqb (length xs) 0) ≡ true → 0 < length xs
filled [] h = absurd cc
filled (x ∷ xs) h = omega arith

pub sign_shorter : (cs : List ℕ) (sign : Sign) (behind : List ℕ) → sign_at cs ≡ Some (sign, behind) → length behind < length cs
sign_shorter cs sign behind e =
    let t = bind_some (token_at cs) (λ x. some (told x.0, x.1)) (sign, behind) e in
    let same : t.0.1 ≡ behind = ap (λ (y : Sign × List ℕ). y.1) (some_is (told t.0.0, t.0.1) (sign, behind) t.2) in
    omega (arith, token_shorter cs t.0 t.1, ap length same)

pub passage_shorter : (inside : Bool) (cs : List ℕ) (sign : Sign) (behind : List ℕ) → passage_at inside cs ≡ Some (sign, behind) → length behind < length cs
passage_shorter inside cs sign behind e =
    let xs = (span is_ordinary cs).0 in
    let rest = (span is_ordinary cs).1 in
    elim (chosen (inside && not (eqb (length xs) 0)) (some (Passage xs, rest)) (sign_at cs) (Some (sign, behind)) e) [
      | inl w ↦
          let v = and_parts inside (not (eqb (length xs) 0)) w.0 in
          let same : rest ≡ behind = ap (λ (y : Sign × List ℕ). y.1) (some_is (Passage xs, rest) (sign, behind) w.1) in
          omega (arith, ap length same, ap length (span_whole is_ordinary cs), length-append xs rest, filled xs v.1)
      | inr w ↦ sign_shorter cs sign behind w.1
    ]
