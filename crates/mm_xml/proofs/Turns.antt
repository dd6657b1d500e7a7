-- The order of tokens, and the tree that they build, told apart.
use Rattle.std.proofs.Common.{◌≡◌, ℕ, ◌+◌, ◌-◌, Bool, true, false, cond, ◌&&◌, ◌||◌, not, List, [], ◌∷◌, ◌++◌, Option, Some, None, eqb, leb, refl, sym, ap, ◌∙◌, append_assoc}
use Rattle.std.specs.Str.{encode_utf8_all}
use Rattle.std.proofs.lemmas.Bool.{eqb-true}
use Rattle.mm_tree.specs.declared.Kind.{Kind}
use Rattle.mm_tree.specs.Trees.{Tree}
use Rattle.mm_tree.specs.Characters.{is_space}
use Rattle.mm_xml.specs.Syntax.{Literal, Reference, Token, Data, Section, Comment, Instruction, Start, Close, Doctype}
use Rattle.mm_xml.specs.Grammar.{Bracket, End, text_brackets, start_brackets, brackets, unbroken, outside, is_inside, is_textual}
use Rattle.mm_xml.specs.Syntax.{meant}
use Rattle.mm_xml.specs.Inside.Lexing.{◌>>=◌}
use Rattle.mm_xml.specs.Inside.Machine.{State, place_all, finished, build, cleared, Order, may, next, in_turn, accept}
use Rattle.mm_xml.proofs.Spans.{no}
use Rattle.mm_xml.proofs.Builds.{place_all_append}
use Rattle.std.specs.List.{list_all}

both_sides : (a b c d x : Bool) → x ≡ (c && d) → ((a && b) && x) ≡ ((a && c) && (b && d))
both_sides true true c d x e = e
both_sides true false true d x e = refl
both_sides true false false d x e = refl
both_sides false b c d x e = refl

right_side : (b c d x : Bool) → x ≡ (c && d) → (b && x) ≡ (c && (b && d))
right_side true c d x e = e
right_side false true d x e = refl
right_side false false d x e = refl

abbrev at : ℕ → Bool → ℕ → Order
at n b d = record { squares = n; before = b; depth = d; textual = false }

literal_turn : (c n : ℕ) (b : Bool) (d : ℕ) (ts : List Token) → ((m : ℕ) → in_turn (at m b d) ts ≡ (unbroken m ts && outside b d ts))
    → in_turn (at n b d) (Data (Literal c) ∷ ts) ≡ (unbroken n (Data (Literal c) ∷ ts) && outside b d (Data (Literal c) ∷ ts))
literal_turn c n b d ts more =
    elim (eqb c 93) as (λ e. eqb c 93 ≡ e → (may (at n b d) (Data (Literal c)) && in_turn (at (cond e (n + 1) 0) b d) ts) ≡ (cond e (unbroken (n + 1) ts) (not (eqb c 62 && leb 2 n) && unbroken 0 ts) && ((is_inside d || is_space c) && outside b d ts))) [
      | true ↦ λ e. bracket (eqb c 62) (leb 2 n) (is_inside d || is_space c) _ _ _ (not_both c e) (more (n + 1))
      | false ↦ λ e. both_sides (not (eqb c 62 && leb 2 n)) (is_inside d || is_space c) _ _ _ (more 0)
    ] refl
  where
    not_both : (c : ℕ) → eqb c 93 ≡ true → eqb c 62 ≡ false
    not_both c e = ap (λ n. eqb n 62) (eqb-true c 93 e)

    bracket : (a b p c d x : Bool) → a ≡ false → x ≡ (c && d) → ((not (a && b) && p) && x) ≡ (c && (p && d))
    bracket true b p c d x f e = absurd cc
    bracket false b p c d x f e = right_side p c d x e

-- what may follow what is told from left to right
pub turns : (ts : List Token) (n : ℕ) (b : Bool) (d : ℕ) → in_turn (at n b d) ts ≡ (unbroken n ts && outside b d ts)
turns [] n b d = refl
turns (Data (Literal c) ∷ ts) n b d = literal_turn c n b d ts (λ m. turns ts m b d)
turns (Data (Reference body) ∷ ts) n b d = right_side (is_inside d) _ _ _ (turns ts 0 b d)
turns (Section cs ∷ ts) n b d = right_side (is_inside d) _ _ _ (turns ts 0 b d)
turns (Comment cs ∷ ts) n b d = turns ts 0 b d
turns (Instruction name cs ∷ ts) n b d = turns ts 0 b d
turns (Start empty name attributes gap ∷ ts) n b d = turns ts 0 false (cond empty d (d + 1))
turns (Close name gap ∷ ts) n b d = turns ts 0 false (d - 1)
turns (Doctype gap name ext after ∷ ts) n b d = right_side b _ _ _ (turns ts 0 false d)

abbrev at_text : ℕ → Order
at_text n = record { squares = n; before = false; depth = 1; textual = true }

text_literal_turn : (c n : ℕ) (ts : List Token) → ((m : ℕ) → in_turn (at_text m) ts ≡ (unbroken m ts && list_all is_textual ts))
    → in_turn (at_text n) (Data (Literal c) ∷ ts) ≡ (unbroken n (Data (Literal c) ∷ ts) && list_all is_textual ts)
text_literal_turn c n ts more =
    elim (eqb c 93) as (λ e. eqb c 93 ≡ e → ((not (eqb c 62 && leb 2 n) && true) && in_turn (at_text (cond e (n + 1) 0)) ts) ≡ (cond e (unbroken (n + 1) ts) (not (eqb c 62 && leb 2 n) && unbroken 0 ts) && list_all is_textual ts)) [
      | true ↦ λ e. bracket (eqb c 62) (leb 2 n) _ _ (ap (λ m. eqb m 62) (eqb-true c 93 e)) (more (n + 1))
      | false ↦ λ e. ap (λ b. b && in_turn (at_text 0) ts) (whole (not (eqb c 62 && leb 2 n))) ∙ left_side (not (eqb c 62 && leb 2 n)) _ _ _ (more 0)
    ] refl
  where
    whole : (a : Bool) → (a && true) ≡ a
    whole true = refl
    whole false = refl

    bracket : (a b x p : Bool) → a ≡ false → x ≡ p → ((not (a && b) && true) && x) ≡ p
    bracket true b x p f e = absurd cc
    bracket false b x p f e = e

    left_side : (a x p q : Bool) → x ≡ (p && q) → (a && x) ≡ ((a && p) && q)
    left_side true x p q e = e
    left_side false x p q e = refl

never : (a : Bool) → false ≡ (a && false)
never true = refl
never false = refl

-- the same of the text form
pub text_turns : (ts : List Token) (n : ℕ) → in_turn (at_text n) ts ≡ (unbroken n ts && list_all is_textual ts)
text_turns [] n = refl
text_turns (Data (Literal c) ∷ ts) n = text_literal_turn c n ts (λ m. text_turns ts m)
text_turns (Data (Reference body) ∷ ts) n = text_turns ts 0
text_turns (Section cs ∷ ts) n = text_turns ts 0
text_turns (Comment cs ∷ ts) n = text_turns ts 0
text_turns (Instruction name cs ∷ ts) n = text_turns ts 0
text_turns (Start empty name attributes gap ∷ ts) n = never (unbroken 0 ts)
text_turns (Close name gap ∷ ts) n = never (unbroken 0 ts)
text_turns (Doctype gap name ext after ∷ ts) n = never (unbroken 0 ts)

then_tests : (o : Option State) (t : Bool) (ps : List Bracket) (f : State → List ℕ → Option (Tree Kind)) → ((s : State) → f s [] ≡ cond t (build s ps) no)
    → ((o >>= cleared) >>= λ y. f y.0 y.1) ≡ cond t ((o >>= λ x. place_all x ps) >>= finished) no
then_tests None true ps f h = refl
then_tests None false ps f h = refl
then_tests (Some s) t ps f h = h s

guarded : (a b : Bool) (x y : Option (Tree Kind)) → x ≡ cond b y no → cond a x no ≡ cond (a && b) y no
guarded true b x y e = e
guarded false b x y e = refl

-- the tree, token by token, is what the brackets build where the order is right
pub accept_is : (ts : List Token) (s : State) (run : List ℕ) (o : Order) → accept s run o ts ≡ cond (in_turn o ts) (build s (brackets run ts)) None
accept_is [] s run o = refl
accept_is (Data p ∷ ts) s run o = guarded (may o (Data p)) _ _ _ (accept_is ts s (run ++ meant p) (next o (Data p)))
accept_is (Section cs ∷ ts) s run o = guarded (may o (Section cs)) _ _ _ (accept_is ts s (run ++ cs) (next o (Section cs)))
accept_is (Comment cs ∷ ts) s run o = accept_is ts s run (next o (Comment cs))
accept_is (Instruction name cs ∷ ts) s run o = accept_is ts s run (next o (Instruction name cs))
accept_is (Start empty name attributes gap ∷ ts) s run o = guarded (not o.textual) _ _ _ (
    then_tests (place_all s (text_brackets run ++ start_brackets empty name attributes)) (in_turn (next o (Start empty name attributes gap)) ts) (brackets [] ts) (λ x r. accept x r (next o (Start empty name attributes gap)) ts) (λ x. accept_is ts x [] (next o (Start empty name attributes gap)))
    ∙ ap (λ q. cond (in_turn (next o (Start empty name attributes gap)) ts) (q >>= finished) no) (sym (place_all_append s (text_brackets run ++ start_brackets empty name attributes) (brackets [] ts)))
    ∙ ap (λ ps. cond (in_turn (next o (Start empty name attributes gap)) ts) (build s ps) no) (append_assoc (text_brackets run) (start_brackets empty name attributes) (brackets [] ts)))
accept_is (Close name gap ∷ ts) s run o = guarded (not o.textual) _ _ _ (
    then_tests (place_all s (text_brackets run ++ End (encode_utf8_all name) ∷ [])) (in_turn (next o (Close name gap)) ts) (brackets [] ts) (λ x r. accept x r (next o (Close name gap)) ts) (λ x. accept_is ts x [] (next o (Close name gap)))
    ∙ ap (λ q. cond (in_turn (next o (Close name gap)) ts) (q >>= finished) no) (sym (place_all_append s (text_brackets run ++ End (encode_utf8_all name) ∷ []) (brackets [] ts)))
    ∙ ap (λ ps. cond (in_turn (next o (Close name gap)) ts) (build s ps) no) (append_assoc (text_brackets run) (End (encode_utf8_all name) ∷ []) (brackets [] ts)))
accept_is (Doctype gap name ext after ∷ ts) s run o = guarded o.before _ _ _ (accept_is ts s run (next o (Doctype gap name ext after)))
