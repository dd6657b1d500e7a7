-- What stands at the front, and how far.
use Rattle.std.proofs.Common.{◌≡◌, ℕ, suc, ◌+◌, ◌≤◌, Bool, true, false, cond, ◌&&◌, List, [], ◌∷◌, ◌++◌, length, take, drop, Option, Some, None, eqb, not, refl, sym, ap, subst, ◌∙◌, append_assoc, arith, ◌⊎◌, inl, inr}
use Rattle.std.specs.List.{list_all, prefix_len}
use Rattle.std.proofs.lemmas.Bool.{eqb-true, and_parts, and_from}
use Rattle.std.proofs.lemmas.List.{take-append-drop, take_at, drop_at, length-append}
use Rattle.mm_xml.specs.Letters.{starts, is_free}
use Rattle.mm_xml.specs.Inside.Lexing.{◌>>=◌, span, up_to, after}

pub taken : {A : Type 0} (b : Bool) (o : Option A) (y : A) → cond b o None ≡ Some y → (b ≡ true) × (o ≡ Some y)
taken true o y e = (refl, e)
taken false o y e = absurd cc

pub chosen : {A : Type 0} (b : Bool) (x y z : A) → cond b x y ≡ z → ((b ≡ true) × (x ≡ z)) ⊎ ((b ≡ false) × (y ≡ z))
chosen true x y z e = inl (refl, e)
chosen false x y z e = inr (refl, e)

abbrev pub some : {A : Type 0} → A → Option A
some x = Some x

abbrev pub no : {A : Type 0} → Option A
no = None

pub some_is : {A : Type 0} (x y : A) → some x ≡ some y → x ≡ y
some_is x y e = cc

pub bind_some : {A B : Type 0} (o : Option A) (f : A → Option B) (y : B) → (o >>= f) ≡ Some y → (x : A) × (o ≡ Some x) × (f x ≡ Some y)
bind_some None f y e = absurd cc
bind_some (Some x) f y e = (x, refl, e)

-- ---- span

abbrev pub Stops : (ℕ → Bool) → List ℕ → Type 0
Stops p [] = Unit {0}
Stops p (c ∷ cs) = p c ≡ false

pub span_whole : (p : ℕ → Bool) (cs : List ℕ) → (span p cs).0 ++ (span p cs).1 ≡ cs
span_whole p cs = take-append-drop (prefix_len p cs) cs

one_more : (n : ℕ) → 1 + n ≡ suc n
one_more n = omega arith

pub span_all : (p : ℕ → Bool) (cs : List ℕ) → list_all p (span p cs).0 ≡ true
span_all p [] = refl
span_all p (c ∷ cs) = elim (p c) as (λ b. p c ≡ b → list_all p (span p (c ∷ cs)).0 ≡ true) [ true ↦ λ e. ap (λ n. list_all p (take n (c ∷ cs))) (ap (λ b. cond b (1 + prefix_len p cs) 0) e ∙ one_more (prefix_len p cs)) ∙ and_from (p c) _ e (span_all p cs) | false ↦ λ e. ap (λ n. list_all p (take n (c ∷ cs))) (ap (λ b. cond b (1 + prefix_len p cs) 0) e) ] refl

span_len : (p : ℕ → Bool) (xs rest : List ℕ) → list_all p xs ≡ true → Stops p rest → prefix_len p (xs ++ rest) ≡ length xs
span_len p [] [] h stop = refl
span_len p [] (c ∷ cs) h stop = rw stop refl
span_len p (x ∷ xs) rest h stop =
    let w = and_parts (p x) (list_all p xs) h in
    rw (w.0, span_len p xs rest w.1 stop) (omega arith)

pub span_again : (p : ℕ → Bool) (xs rest : List ℕ) → list_all p xs ≡ true → Stops p rest → span p (xs ++ rest) ≡ (xs, rest)
span_again p xs rest h stop = rw (span_len p xs rest h stop, take_at xs rest (length xs) refl, drop_at xs rest (length xs) refl) refl

pub after_takes : (p : ℕ) (cs r : List ℕ) → after p cs ≡ Some r → cs ≡ p ∷ r
after_takes p [] r e = absurd cc
after_takes p (c ∷ cs) r e =
    let t = taken (eqb c p) (Some cs) r e in
    rw (eqb-true c p t.0) (ap (λ (y : List ℕ). p ∷ y) (some_is cs r t.1))

-- ---- up to a pattern

starts_short : (pat xs rest : List ℕ) → length pat ≤ length xs → starts pat (xs ++ rest) ≡ starts pat xs
starts_short [] xs rest le = refl
starts_short (p ∷ ps) [] rest le = absurd (omega (arith, le))
starts_short (p ∷ ps) (x ∷ xs) rest le = ap (λ b. eqb p x && b) (starts_short ps xs rest (omega (arith, le)))

pub starts_takes : (pat cs : List ℕ) → starts pat cs ≡ true → cs ≡ pat ++ drop (length pat) cs
starts_takes [] cs h = refl
starts_takes (p ∷ ps) [] h = absurd cc
starts_takes (p ∷ ps) (c ∷ cs) h =
    let w = and_parts (eqb p c) (starts ps cs) h in
    rw (eqb-true p c w.0) (ap (λ (y : List ℕ). c ∷ y) (starts_takes ps cs w.1))

pub starts_itself : (pat rest : List ℕ) → starts pat (pat ++ rest) ≡ true
starts_itself [] rest = refl
starts_itself (p ∷ ps) rest = rw (eqb_itself p) (starts_itself ps rest)
  where
    eqb_itself : (n : ℕ) → eqb n n ≡ true
    eqb_itself n = grind arith

pub record UpTo (pat cs : List ℕ) (x : List ℕ × List ℕ) : Type 0 where
  pub free : is_free pat x.0 ≡ true
  pub parts : cs ≡ x.0 ++ (pat ++ x.1)

pub up_to_takes : (pat cs : List ℕ) (x : List ℕ × List ℕ) → up_to pat cs ≡ Some x → UpTo pat cs x
up_to_takes pat [] x e = absurd cc
up_to_takes pat (c ∷ cs) x e =
    elim (chosen (starts pat (c ∷ cs)) (some ([], drop (length pat) (c ∷ cs))) (up_to pat cs >>= λ y. Some (c ∷ y.0, y.1)) (Some x) e) [
      | inl w ↦ subst (λ (y : List ℕ × List ℕ). UpTo pat (c ∷ cs) y) (some_is _ x w.1) (record { free = refl; parts = starts_takes pat (c ∷ cs) w.0 })
      | inr w ↦
          let b = bind_some (up_to pat cs) (λ y. Some (c ∷ y.0, y.1)) x w.1 in
          let m = up_to_takes pat cs b.0 b.1 in
          let not_here : starts pat (c ∷ (b.0.0 ++ pat)) ≡ false = sym (starts_short pat (c ∷ (b.0.0 ++ pat)) b.0.1 (omega (arith, length-append b.0.0 pat))) ∙ ap (λ (y : List ℕ). starts pat (c ∷ y)) (append_assoc b.0.0 pat b.0.1 ∙ sym m.parts) ∙ w.0 in
          subst (λ (y : List ℕ × List ℕ). UpTo pat (c ∷ cs) y) (some_is _ x b.2) (record { free = rw not_here m.free; parts = ap (λ (y : List ℕ). c ∷ y) m.parts })
    ]

pub up_to_again : (pat cs rest : List ℕ) (p : ℕ) (ps : List ℕ) → pat ≡ p ∷ ps → is_free pat cs ≡ true → up_to pat (cs ++ (pat ++ rest)) ≡ Some (cs, rest)
up_to_again pat [] rest p ps is h = at_once pat p ps rest is
  where
    at_once : (pat : List ℕ) (p : ℕ) (ps rest : List ℕ) → pat ≡ p ∷ ps → up_to pat (pat ++ rest) ≡ Some ([], rest)
    at_once [] p ps rest is = absurd cc
    at_once (q ∷ qs) p ps rest is = rw (starts_itself (q ∷ qs) rest, drop_at (q ∷ qs) rest (length (q ∷ qs)) refl) refl
up_to_again pat (c ∷ cs) rest p ps is h =
    let w = and_parts (not (starts pat (c ∷ (cs ++ pat)))) (is_free pat cs) h in
    let here : starts pat (c ∷ (cs ++ (pat ++ rest))) ≡ false = ap (λ (y : List ℕ). starts pat (c ∷ y)) (sym (append_assoc cs pat rest)) ∙ starts_short pat (c ∷ (cs ++ pat)) rest (omega (arith, length-append cs pat)) ∙ negated _ w.0 in
    rw (here, up_to_again pat cs rest p ps is w.1) refl
  where
    negated : (b : Bool) → not b ≡ true → b ≡ false
    negated true e = absurd cc
    negated false e = refl
