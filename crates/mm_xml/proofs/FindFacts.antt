-- The loop that finds the outline.
use Rattle.std.proofs.Common.{◌≡◌, ℕ, zero, suc, ◌≤◌, Bool, true, false, cond, ◌&&◌, not, List, [], ◌∷◌, ◌++◌, length, Option, Some, None, eqb, refl, sym, ap, ◌∙◌, arith}
use Rattle.std.specs.List.{list_all}
use Rattle.std.proofs.lemmas.List.{length-append}
use Rattle.mm_tree.specs.Characters.{is_space}
use Rattle.mm_xml.specs.declared.error.XmlError.{XmlError}
use Rattle.mm_xml.specs.declared.error.XmlError.TheVariants as error
use Rattle.std.specs.Prelude.{Err}
use Rattle.std.proofs.lemmas.Bool.{and_parts}
use Rattle.mm_xml.specs.Grammar.{is_inside}
use Rattle.mm_xml.specs.Inside.Lexing.{◌>>=◌, Found, span}
use Rattle.mm_xml.specs.Inside.Telling.{Sign, Character, Passage, sign_at}
use Rattle.mm_xml.specs.Inside.Passages.{is_ordinary, passage_at, allowed_at}
use Rattle.mm_xml.specs.Inside.Machine.{Order, cut, sign_may, sign_next}
use Rattle.mm_xml.specs.Inside.Outlines.{Outlined, outline_step, outline_ends, outline_text, holds, outline_from}
use Rattle.mm_xml.specs.Inside.Builds.{Follows, Blanks, Outlines}
use Rattle.mm_xml.proofs.Spans.{some, no, span_all, span_whole}
use Rattle.mm_xml.proofs.OrderFacts.{Left}
use Rattle.mm_xml.proofs.OutlineFacts.{on_outline}
use Rattle.mm_xml.proofs.Passages.{ordinary_sign, ordinary_may, ordinary_next, sign_shorter}

-- ---- however many steps are counted, if they are enough, the same is found

nothing_more : (n : ℕ) (o : Outlined) (blank : Bool) (order : Order) → outline_from n o blank order [] ≡ outline_ends (outline_text o blank)
nothing_more zero o blank order = refl
nothing_more (suc n) o blank order = refl

abbrev Same : ℕ → ℕ → List ℕ → Type 0
Same n m rest = (y : Outlined × Bool) (next : Order) → outline_from n y.0 y.1 next rest ≡ outline_from m y.0 y.1 next rest

moved : (n m : ℕ) (may : Bool) (place : Option (Outlined × Bool)) (next : Order) (rest : List ℕ) → Same n m rest → (may && holds place (λ y. outline_from n y.0 y.1 next rest)) ≡ (may && holds place (λ y. outline_from m y.0 y.1 next rest))
moved n m false place next rest same = refl
moved n m true None next rest same = refl
moved n m true (Some y) next rest same = same y next

each_sign : (n m : ℕ) (o : Outlined) (blank : Bool) (order : Order) (found : Found Sign) → ((x : Sign × List ℕ) → found ≡ Some x → Same n m x.1) → holds found (λ x. on_outline n o blank order x) ≡ holds found (λ x. on_outline m o blank order x)
each_sign n m o blank order None same = refl
each_sign n m o blank order (Some x) same = moved n m (sign_may order x.0) (outline_step o blank x.0) (sign_next order x.0) x.1 (same x refl)

outline_enough : (n m : ℕ) (o : Outlined) (blank : Bool) (order : Order) (cs : List ℕ) → length cs ≤ n → length cs ≤ m → outline_from n o blank order cs ≡ outline_from m o blank order cs
outline_enough n m o blank order [] h k = nothing_more n o blank order ∙ sym (nothing_more m o blank order)
outline_enough zero m o blank order (c ∷ cs) h k = absurd (omega (arith, h))
outline_enough (suc n) zero o blank order (c ∷ cs) h k = absurd (omega (arith, k))
outline_enough (suc n) (suc m) o blank order (c ∷ cs) h k =
    each_sign n m o blank order (sign_at (c ∷ cs)) (λ x e y next. let less = sign_shorter (c ∷ cs) x.0 x.1 e in outline_enough n m y.0 y.1 next x.1 (omega (arith, h, less)) (omega (arith, k, less)))

-- ---- a passage further, the same is found as a character further

with_true : (a : Bool) → a ≡ (a && true)
with_true true = refl
with_true false = refl

regroup : (a b d : Bool) → ((a && b) && d) ≡ (a && (b && d))
regroup true b d = refl
regroup false b d = refl

one_step : (n : ℕ) (o : Outlined) (blank : Bool) (order : Order) (c : ℕ) (cs : List ℕ) → is_ordinary c ≡ true → is_inside order.depth ≡ true → outline_from (suc n) o blank order (c ∷ cs) ≡ outline_from n o (blank && is_space c) (cut order) cs
one_step n o blank order c cs h inside =
    ap (λ (x : Found Sign). holds x (λ x. on_outline n o blank order x)) (ordinary_sign c cs h)
    ∙ ap (λ b. b && outline_from n o (blank && is_space c) (sign_next order (Character c)) cs) (ordinary_may order c h inside)
    ∙ ap (λ (x : Order). outline_from n o (blank && is_space c) x cs) (ordinary_next order c h)

all_steps : (xs rest : List ℕ) (n m : ℕ) (o : Outlined) (blank : Bool) (order : Order) → list_all is_ordinary xs ≡ true → is_inside order.depth ≡ true → length (xs ++ rest) ≤ n → length rest ≤ m
    → outline_from n o blank (cut order) (xs ++ rest) ≡ outline_from m o (blank && list_all is_space xs) (cut order) rest
all_steps [] rest n m o blank order each inside enough few = outline_enough n m o blank (cut order) rest enough few ∙ ap (λ b. outline_from m o b (cut order) rest) (with_true blank)
all_steps (x ∷ xs) rest zero m o blank order each inside enough few = absurd (omega (arith, enough))
all_steps (x ∷ xs) rest (suc n) m o blank order each inside enough few =
    let w = and_parts (is_ordinary x) (list_all is_ordinary xs) each in
    one_step n o blank (cut order) x (xs ++ rest) w.0 inside
    ∙ all_steps xs rest n m o (blank && is_space x) order w.1 inside (omega (arith, enough)) few
    ∙ ap (λ b. outline_from m o b (cut order) rest) (regroup blank (is_space x) (list_all is_space xs))

passage_found : (xs rest : List ℕ) (m : ℕ) (o : Outlined) (blank : Bool) (order : Order) → list_all is_ordinary xs ≡ true → not (eqb (length xs) 0) ≡ true → is_inside order.depth ≡ true → length (xs ++ rest) ≤ suc m
    → outline_from (suc m) o blank order (xs ++ rest) ≡ on_outline m o blank order (Passage xs, rest)
passage_found [] rest m o blank order each filled inside enough = absurd cc
passage_found (x ∷ xs) rest m o blank order each filled inside enough =
    let w = and_parts (is_ordinary x) (list_all is_ordinary xs) each in
    one_step m o blank order x (xs ++ rest) w.0 inside
    ∙ all_steps xs rest m m o (blank && is_space x) order w.1 inside (omega (arith, enough)) (omega (arith, enough, length-append xs rest))
    ∙ ap (λ b. outline_from m o b (cut order) rest) (regroup blank (is_space x) (list_all is_space xs))
    ∙ ap (λ b. b && outline_from m o (blank && list_all is_space (x ∷ xs)) (cut order) rest) (sym inside)

passage_is : (m : ℕ) (o : Outlined) (blank : Bool) (order : Order) (c : ℕ) (cs : List ℕ) → length (c ∷ cs) ≤ suc m
    → outline_from (suc m) o blank order (c ∷ cs) ≡ holds (passage_at (is_inside order.depth) (c ∷ cs)) (λ x. on_outline m o blank order x)
passage_is m o blank order c cs enough =
    let xs = (span is_ordinary (c ∷ cs)).0 in
    let rest = (span is_ordinary (c ∷ cs)).1 in
    let whole : xs ++ rest ≡ c ∷ cs = span_whole is_ordinary (c ∷ cs) in
    elim (is_inside order.depth && not (eqb (length xs) 0)) as (λ b. (is_inside order.depth && not (eqb (length xs) 0)) ≡ b → outline_from (suc m) o blank order (c ∷ cs) ≡ holds (cond b (some (Passage xs, rest)) (sign_at (c ∷ cs))) (λ x. on_outline m o blank order x)) [
      | true ↦ λ e.
          let w = and_parts (is_inside order.depth) (not (eqb (length xs) 0)) e in
          ap (λ (r : List ℕ). outline_from (suc m) o blank order r) (sym whole) ∙ passage_found xs rest m o blank order (span_all is_ordinary (c ∷ cs)) w.1 w.0 (omega (arith, enough, ap length whole))
      | false ↦ λ e. refl
    ] refl

-- ---- the loop

ahead : (k m : ℕ) (o : Outlined) (blank b : Bool) (order : Order) (rest : List ℕ) → Left k m b rest
    → outline_from k o blank order rest ≡ holds (allowed_at order rest) (λ x. holds (outline_step o blank x.0) (λ y. outline_from m y.0 y.1 (sign_next order x.0) x.1))
ahead k m o blank b order [] left = let both_ways : true ≡ false = sym left.is ∙ left.filled in absurd cc
ahead k m o blank b order (c ∷ cs) left =
    ap (λ (n : ℕ). outline_from n o blank order (c ∷ cs)) left.count
    ∙ passage_is m o blank order c cs (omega (arith, left.few, left.count))
    ∙ held (passage_at (is_inside order.depth) (c ∷ cs))
  where
    one : (x : Sign × List ℕ) (t : Bool) → (t && holds (outline_step o blank x.0) (λ y. outline_from m y.0 y.1 (sign_next order x.0) x.1)) ≡ holds (cond t (some x) no) (λ x. holds (outline_step o blank x.0) (λ y. outline_from m y.0 y.1 (sign_next order x.0) x.1))
    one x true = refl
    one x false = refl

    held : (found : Found Sign) → holds found (λ x. on_outline m o blank order x) ≡ holds (found >>= λ x. cond (sign_may order x.0) (some x) no) (λ x. holds (outline_step o blank x.0) (λ y. outline_from m y.0 y.1 (sign_next order x.0) x.1))
    held None = refl
    held (Some x) = one x (sign_may order x.0)

-- where nothing stands that may, or memory ran out
pub lost : (e : XmlError) (k m : ℕ) (o : Outlined) (blank b : Bool) (order order' : Order) (rest : List ℕ) (total : Bool) → Left k m b rest → Follows (Err e) order order' rest → outline_from k o blank order rest ≡ total → Outlines {U = Unit {0}} (Err e) total
lost error.NotXml k m o blank b order order' rest total left h same = sym same ∙ ahead k m o blank b order rest left ∙ ap (λ (x : Found Sign). holds x (λ x. holds (outline_step o blank x.0) (λ y. outline_from m y.0 y.1 (sign_next order x.0) x.1))) h
lost error.TooDeep k m o blank b order order' rest total left h same = h
lost error.Memory k m o blank b order order' rest total left h same = tt

accepted : (k m : ℕ) (o : Outlined) (blank b : Bool) (order : Order) (rest behind : List ℕ) (sign : Sign) → Left k m b rest → allowed_at order rest ≡ Some (sign, behind)
    → outline_from k o blank order rest ≡ holds (outline_step o blank sign) (λ y. outline_from m y.0 y.1 (sign_next order sign) behind)
accepted k m o blank b order rest behind sign left is = ahead k m o blank b order rest left ∙ ap (λ (x : Found Sign). holds x (λ x. holds (outline_step o blank x.0) (λ y. outline_from m y.0 y.1 (sign_next order x.0) x.1))) is

-- a lexeme that leads nowhere
pub stops : (e : XmlError) (k m : ℕ) (o o' : Outlined) (blank b : Bool) (order : Order) (rest behind : List ℕ) (sign : Sign) (total : Bool) → Left k m b rest → allowed_at order rest ≡ Some (sign, behind)
    → outline_from k o blank order rest ≡ total → Blanks (Err e) o' (outline_step o blank sign) → Outlines {U = Unit {0}} (Err e) total
stops error.NotXml k m o o' blank b order rest behind sign total left is same none =
    sym same ∙ accepted k m o blank b order rest behind sign left is ∙ ap (λ (x : Option (Outlined × Bool)). holds x (λ y. outline_from m y.0 y.1 (sign_next order sign) behind)) none
stops error.TooDeep k m o o' blank b order rest behind sign total left is same none = none
stops error.Memory k m o o' blank b order rest behind sign total left is same none = tt

-- one lexeme further, the same is found
pub goes_on : (k m : ℕ) (o o' : Outlined) (blank blank' b : Bool) (order order' : Order) (rest behind : List ℕ) (sign : Sign) → Left k m b rest → allowed_at order rest ≡ Some (sign, behind)
    → order' ≡ sign_next order sign → outline_step o blank sign ≡ Some (o', blank') → outline_from m o' blank' order' behind ≡ outline_from k o blank order rest
goes_on k m o o' blank blank' b order order' rest behind sign left is next moved =
    ap (λ (x : Order). outline_from m o' blank' x behind) next
    ∙ sym (accepted k m o blank b order rest behind sign left is ∙ ap (λ (x : Option (Outlined × Bool)). holds x (λ y. outline_from m y.0 y.1 (sign_next order sign) behind)) moved)
