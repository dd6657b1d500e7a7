-- What is read is spelled so, and what is spelled so is read.
use Rattle.std.proofs.Common.{◌≡◌, ℕ, zero, suc, ◌≤◌, Bool, true, false, cond, List, [], ◌∷◌, ◌++◌, length, map, Option, Some, None, refl, sym, ap, ◌∙◌, arith, inl, inr}
use Rattle.std.specs.Str.{bytes_eq, encode_utf8_all}
use Rattle.std.specs.List.{flat_map, list_all}
use Rattle.std.proofs.lemmas.List.{length-append}
use Rattle.std.proofs.lemmas.Slice.Eq.{bytes_eq-Decides}
use Rattle.std.proofs.lemmas.Bool.{and_parts, and_from, or_cases, or_left, or_right}
use Rattle.mm_tree.specs.declared.Kind.{Kind}
use Rattle.mm_tree.specs.declared.Kind.TheVariants.{Element, Words}
use Rattle.mm_tree.specs.Characters.{is_space}
use Rattle.mm_tree.specs.Trees.{none, Tree, one}
use Rattle.mm_xml.specs.Syntax.{Declaration, is_declaration, Literal, Reference, attribute_of, Token, Data, Section, Comment, Instruction, Start, Close, Doctype, is_token, spelled}
use Rattle.mm_xml.specs.Grammar.{Bracket, Begin, End, end_name, text_brackets, start_brackets, brackets, unbroken, outside, is_textual, bracketing, is_document, has_form, spelled_first, SpelledBy, SpellsBy, Spells, characters}
use Rattle.mm_xml.specs.Facts.Tokens.{first}
use Rattle.mm_xml.specs.Inside.Lexing.{◌>>=◌, Found, token_at}
use Rattle.mm_xml.specs.Inside.Telling.{Sign, told}
use Rattle.mm_xml.specs.Inside.Machine.{State, Before, Inside, After, with_child, place, place_all, finished, build, step, cleared, leaf_at, text_step, open_step, sign_step, Order, sign_may, sign_next, may, next, in_turn, accept, read_from, document, text, read_as, or_else, read_plain, read_behind, read_all}
use Rattle.mm_xml.specs.Inside.Declaring.{after_declaration}
use Rattle.mm_xml.proofs.Spans.{taken, some, no, some_is, bind_some}
use Rattle.mm_xml.proofs.Builds.{place_all_append, build_full, build_sound}
use Rattle.mm_xml.proofs.Turns.{turns, text_turns, accept_is}
use Rattle.mm_xml.proofs.Content.{token_takes, token_again}
use Rattle.mm_xml.proofs.Declared.{declaration_takes, declaration_again, undeclared}

-- ---- what tokens tell, and what they place

same : (name : List ℕ) → bytes_eq name name ≡ true
same name = (bytes_eq-Decides name name).1 refl

last_one : (o : Option State) → o ≡ (o >>= λ x. Some x)
last_one None = refl
last_one (Some x) = refl

leaf_is : (s : State) (kind : Kind) → leaf_at s kind ≡ place_all s (Begin kind ∷ End (end_name kind) ∷ [])
leaf_is Before kind = ap (λ b. cond b (Some (After (kind, none))) None >>= λ x. Some x) (sym (same (end_name kind)))
leaf_is (Inside f fs) kind = ap (λ b. cond b (Some (Inside (with_child f (kind, none)) fs)) None >>= λ x. Some x) (sym (same (end_name kind)))
leaf_is (After t) kind = refl

pub text_is : (s : State) (run : List ℕ) → text_step s run ≡ place_all s (text_brackets run)
text_is s run =
    elim (list_all is_space run) as (λ b. cond b (Some s) (leaf_at s (Words (encode_utf8_all run))) ≡ place_all s (cond b [] (Begin (Words (encode_utf8_all run)) ∷ End [] ∷ []))) [
      | true ↦ refl
      | false ↦ leaf_is s (Words (encode_utf8_all run))
    ]

open_is : (s : State) (empty : Bool) (kind : Kind) → open_step s empty kind ≡ place_all s (Begin kind ∷ (cond empty (End (end_name kind) ∷ []) []))
open_is s true kind = leaf_is s kind
open_is s false kind = last_one (place s (Begin kind))

then_place : (o : Option State) (f : State → Option State) (ps : List Bracket) → ((s : State) → f s ≡ place_all s ps) → (o >>= f) ≡ (o >>= λ x. place_all x ps)
then_place None f ps e = refl
then_place (Some s) f ps e = e s

placed : (s : State) (run : List ℕ) (f : State → Option State) (ps : List Bracket) → ((x : State) → f x ≡ place_all x ps) → (text_step s run >>= f) ≡ place_all s (text_brackets run ++ ps)
placed s run f ps e = then_place (text_step s run) f ps e ∙ ap (λ o. o >>= λ x. place_all x ps) (text_is s run) ∙ sym (place_all_append s (text_brackets run) ps)

pub step_is : (s : State) (run : List ℕ) (t : Token) → sign_step s run (told t) ≡ step s run t
step_is s run (Data (Literal c)) = refl
step_is s run (Data (Reference body)) = refl
step_is s run (Section cs) = refl
step_is s run (Comment cs) = refl
step_is s run (Instruction name cs) = refl
step_is s run (Start empty name attributes gap) =
    ap (λ o. o >>= cleared) (placed s run (λ x. open_step x empty (Element (encode_utf8_all name) (map attribute_of attributes))) (start_brackets empty name attributes) (λ x. open_is x empty (Element (encode_utf8_all name) (map attribute_of attributes))))
step_is s run (Close name gap) = ap (λ o. o >>= cleared) (placed s run (λ x. place x (End (encode_utf8_all name))) (End (encode_utf8_all name) ∷ []) (λ x. last_one (place x (End (encode_utf8_all name)))))
step_is s run (Doctype gap name ext after) = refl

told_bind : {B : Type 0} (o : Found Token) (f : Sign × List ℕ → Option B) → ((o >>= λ x. Some (told x.0, x.1)) >>= f) ≡ (o >>= λ y. f (told y.0, y.1))
told_bind None f = refl
told_bind (Some y) f = refl

abbrev onward : ℕ → State → List ℕ → Order → Token × List ℕ → Option (Tree Kind)
onward n s run o x = cond (may o x.0) (step s run x.0 >>= λ y. read_from n y.0 y.1 (next o x.0) x.1) None

-- one token, and then the others
read_one : (n : ℕ) (s : State) (run : List ℕ) (o : Order) (c : ℕ) (cs : List ℕ) → read_from (suc n) s run o (c ∷ cs) ≡ (token_at (c ∷ cs) >>= λ x. onward n s run o x)
read_one n s run o c cs =
    told_bind (token_at (c ∷ cs)) (λ x. cond (sign_may o x.0) (sign_step s run x.0 >>= λ y. read_from n y.0 y.1 (sign_next o x.0) x.1) no) ∙ each (token_at (c ∷ cs))
  where
    each : (found : Found Token) → (found >>= λ x. cond (may o x.0) (sign_step s run (told x.0) >>= λ y. read_from n y.0 y.1 (next o x.0) x.1) no) ≡ (found >>= λ x. onward n s run o x)
    each None = refl
    each (Some x) = ap (λ m. cond (may o x.0) (m >>= λ y. read_from n y.0 y.1 (next o x.0) x.1) no) (step_is s run x.0)

-- ---- what is read is spelled so

record ReadAs (s : State) (run : List ℕ) (o : Order) (cs : List ℕ) (t : Tree Kind) : Type 0 where
  tokens : List Token
  each : list_all is_token tokens ≡ true
  spelled_so : cs ≡ flat_map spelled tokens
  accepted : accept s run o tokens ≡ Some t

ends_at : (n : ℕ) (s : State) (run : List ℕ) (o : Order) → read_from n s run o [] ≡ build s (text_brackets run)
ends_at zero s run o = ap (λ m. m >>= finished) (text_is s run)
ends_at (suc n) s run o = ap (λ m. m >>= finished) (text_is s run)

read_sound : (n : ℕ) (s : State) (run : List ℕ) (o : Order) (cs : List ℕ) (t : Tree Kind) → read_from n s run o cs ≡ Some t → ReadAs s run o cs t
read_sound n s run o [] t e = record { tokens = []; each = refl; spelled_so = refl; accepted = sym (ends_at n s run o) ∙ e }
read_sound zero s run o (c ∷ cs) t e = absurd cc
read_sound (suc n) s run o (c ∷ cs) t e =
    let found = bind_some (token_at (c ∷ cs)) (λ x. onward n s run o x) t (sym (read_one n s run o c cs) ∙ e) in
    let x = found.0 in
    let allowed = taken (may o x.0) (step s run x.0 >>= λ y. read_from n y.0 y.1 (next o x.0) x.1) t found.2 in
    let moved = bind_some (step s run x.0) (λ y. read_from n y.0 y.1 (next o x.0) x.1) t allowed.1 in
    let takes = token_takes (c ∷ cs) x found.1 in
    let more = read_sound n moved.0.0 moved.0.1 (next o x.0) x.1 t moved.2 in
    record {
      tokens = x.0 ∷ more.tokens;
      each = and_from _ _ takes.is more.each;
      spelled_so = takes.parts ∙ ap (λ r. spelled x.0 ++ r) more.spelled_so;
      accepted = ap (λ b. cond b (step s run x.0 >>= λ y. accept y.0 y.1 (next o x.0) more.tokens) no) allowed.0 ∙ ap (λ q. q >>= λ y. accept y.0 y.1 (next o x.0) more.tokens) moved.1 ∙ more.accepted;
    }

-- ---- what is spelled so is read

then_read : (b : Bool) (q : Option (State × List ℕ)) (n : ℕ) (o : Order) (rest : List ℕ) (ts : List Token) → ((s : State) (run : List ℕ) → read_from n s run o rest ≡ accept s run o ts)
    → cond b (q >>= λ y. read_from n y.0 y.1 o rest) no ≡ cond b (q >>= λ y. accept y.0 y.1 o ts) no
then_read false q n o rest ts more = refl
then_read true None n o rest ts more = refl
then_read true (Some y) n o rest ts more = more y.0 y.1

read_step : (n : ℕ) (s : State) (run : List ℕ) (o : Order) (all : List ℕ) (b : ℕ) (bs : List ℕ) (t : Token) (rest : List ℕ) → all ≡ b ∷ bs → token_at all ≡ Some (t, rest)
    → read_from (suc n) s run o all ≡ onward n s run o (t, rest)
read_step n s run o all b bs t rest e found =
    ap (λ (r : List ℕ). read_from (suc n) s run o r) e
    ∙ read_one n s run o b bs
    ∙ ap (λ (q : Found Token). q >>= λ x. onward n s run o x) (ap token_at (sym e) ∙ found)

read_again : (n : ℕ) (ts : List Token) (s : State) (run : List ℕ) (o : Order) → list_all is_token ts ≡ true → length (flat_map spelled ts) ≤ n → read_from n s run o (flat_map spelled ts) ≡ accept s run o ts
read_again n [] s run o each le = ends_at n s run o
read_again zero (t ∷ ts) s run o each le = let f = first t in absurd (omega (arith, length-append (spelled t) (flat_map spelled ts), ap length f.2, le))
read_again (suc n) (t ∷ ts) s run o each le =
    let f = first t in
    let w = and_parts (is_token t) (list_all is_token ts) each in
    let rest = flat_map spelled ts in
    let shorter : length rest ≤ n = omega (arith, length-append (spelled t) (flat_map spelled ts), ap length f.2, le) in
    read_step n s run o (spelled t ++ rest) f.0 (f.1 ++ rest) t rest (ap (λ (r : List ℕ). r ++ rest) f.2) (token_again t rest w.0)
    ∙ then_read (may o t) (step s run t) n (next o t) rest ts (λ x r. read_again n ts x r (next o t) w.1 shorter)

-- ---- the tokens of one form

-- tokens in their order that say where the nodes of the tree begin and end
pub record Makes (o : Order) (cs : List ℕ) (t : Tree Kind) (tokens : List Token) : Type 0 where
  pub each : list_all is_token tokens ≡ true
  pub spelled_so : cs ≡ flat_map spelled tokens
  pub turn : in_turn o tokens ≡ true
  pub tree_is : brackets [] tokens ≡ bracketing (one t)

pub read_makes : (o : Order) (cs : List ℕ) (t : Tree Kind) → read_as o cs ≡ Some t → (tokens : List Token) × Makes o cs t tokens
unfolding read_as
read_makes o cs t e =
    let r = read_sound (length cs) Before [] o cs t e in
    let a = taken (in_turn o r.tokens) (build Before (brackets [] r.tokens)) t (sym (accept_is r.tokens Before [] o) ∙ r.accepted) in
    (r.tokens, record { each = r.each; spelled_so = r.spelled_so; turn = a.0; tree_is = build_sound (brackets [] r.tokens) t a.1 })

pub makes_read : (o : Order) (cs : List ℕ) (t : Tree Kind) (tokens : List Token) → Makes o cs t tokens → read_as o cs ≡ Some t
unfolding read_as
makes_read o cs t tokens m =
    ap (λ (r : List ℕ). read_from (length r) Before [] o r) m.spelled_so
    ∙ read_again (length (flat_map spelled tokens)) tokens Before [] o m.each (omega arith)
    ∙ accept_is tokens Before [] o
    ∙ ap (λ b. cond b (build Before (brackets [] tokens)) no) m.turn
    ∙ ap (λ ps. build Before ps) m.tree_is
    ∙ build_full t

-- ---- the two forms

-- characters are spelled by no others
same_tokens : (ts us : List Token) → list_all is_token ts ≡ true → list_all is_token us ≡ true → flat_map spelled ts ≡ flat_map spelled us → ts ≡ us
same_tokens [] [] a b e = refl
same_tokens [] (u ∷ us) a b e = let f = first u in absurd (omega (arith, ap length e, length-append (spelled u) (flat_map spelled us), ap length f.2))
same_tokens (t ∷ ts) [] a b e = let f = first t in absurd (omega (arith, ap length e, length-append (spelled t) (flat_map spelled ts), ap length f.2))
same_tokens (t ∷ ts) (u ∷ us) a b e =
    let v = and_parts (is_token t) (list_all is_token ts) a in
    let w = and_parts (is_token u) (list_all is_token us) b in
    let p : (t, flat_map spelled ts) ≡ (u, flat_map spelled us) = some_is _ _ (sym (token_again t (flat_map spelled ts) v.0) ∙ ap token_at e ∙ token_again u (flat_map spelled us) w.0) in
    (λ i. (p i).0 ∷ same_tokens ts us v.1 w.1 (ap (λ (x : Token × List ℕ). x.1) p) i)

abbrev AreFormed : Option Declaration → List Token → Type 0
AreFormed first tokens = (unbroken 0 tokens ≡ true) × (has_form first tokens ≡ true)

document_form : (tokens : List Token) → in_turn document tokens ≡ true → AreFormed None tokens
document_form tokens h =
    let w = and_parts (unbroken 0 tokens) (outside true 0 tokens) (sym (turns tokens 0 true 0) ∙ h) in
    (w.0, or_left (outside true 0 tokens) (list_all is_textual tokens) w.1)

declared_form : (d : Declaration) (tokens : List Token) → is_declaration d ≡ true → in_turn document tokens ≡ true → AreFormed (Some d) tokens
declared_form d tokens is h =
    let w = and_parts (unbroken 0 tokens) (outside true 0 tokens) (sym (turns tokens 0 true 0) ∙ h) in
    (w.0, or_left (is_document (Some d) tokens) false (and_from _ _ is w.1))

text_form : (tokens : List Token) → in_turn text tokens ≡ true → AreFormed None tokens
text_form tokens h =
    let w = and_parts (unbroken 0 tokens) (list_all is_textual tokens) (sym (text_turns tokens 0) ∙ h) in
    (w.0, or_right (outside true 0 tokens) (list_all is_textual tokens) w.1)

makes_spelled : (first : Option Declaration) (o : Order) (cs rest : List ℕ) (t : Tree Kind) (tokens : List Token) → Makes o rest t tokens → cs ≡ spelled_first first ++ rest → AreFormed first tokens → SpelledBy cs t first tokens
makes_spelled first o cs rest t tokens m parts w =
    record { each = m.each; spelled_so = parts ∙ ap (λ (r : List ℕ). spelled_first first ++ r) m.spelled_so; whole = w.0; form = w.1; tree_is = m.tree_is }

abbrev IsSpelled : List ℕ → Tree Kind → Type 0
IsSpelled cs t = (first : Option Declaration) × (tokens : List Token) × SpelledBy cs t first tokens

plain_spelled : (cs : List ℕ) (t : Tree Kind) → read_plain cs ≡ Some t → IsSpelled cs t
plain_spelled cs t e = choose (read_as document cs) refl e
  where
    choose : (d : Option (Tree Kind)) → read_as document cs ≡ d → or_else d (read_as text cs) ≡ Some t → IsSpelled cs t
    choose None is e = let m = read_makes text cs t e in (None, m.0, makes_spelled None text cs cs t m.0 m.1 refl (text_form m.0 m.1.turn))
    choose (Some u) is e = let m = read_makes document cs t (is ∙ e) in (None, m.0, makes_spelled None document cs cs t m.0 m.1 refl (document_form m.0 m.1.turn))

pub read_spelled : (cs : List ℕ) (t : Tree Kind) → read_all cs ≡ Some t → IsSpelled cs t
read_spelled cs t e = choose (after_declaration cs) refl e
  where
    choose : (r : Option (List ℕ)) → after_declaration cs ≡ r → read_behind r cs ≡ Some t → IsSpelled cs t
    choose None is e = plain_spelled cs t e
    choose (Some rest) is e =
        let d = declaration_takes cs rest is in
        let m = read_makes document rest t e in
        (Some d.0, m.0, makes_spelled (Some d.0) document cs rest t m.0 m.1 d.2 (declared_form d.0 m.0 d.1 m.1.turn))

-- ---- what is spelled is read

abbrev behind : Option (List ℕ) → List ℕ → List ℕ
behind None cs = cs
behind (Some rest) cs = rest

-- the tokens spell what stands behind the declaration
rest_spelled : (cs : List ℕ) (t : Tree Kind) (first : Option Declaration) (tokens : List Token) → SpelledBy cs t first tokens → behind (after_declaration cs) cs ≡ flat_map spelled tokens
rest_spelled cs t None tokens s = ap (λ o. behind o cs) (ap after_declaration s.spelled_so ∙ undeclared tokens s.each) ∙ s.spelled_so
rest_spelled cs t (Some d) tokens s =
    let f = elim (or_cases (is_document (Some d) tokens) false s.form) as (λ x. is_declaration d ≡ true) [ inl h ↦ (and_parts (is_declaration d) (outside true 0 tokens) h).0 | inr h ↦ absurd cc ] in
    ap (λ o. behind o cs) (ap after_declaration s.spelled_so ∙ declaration_again d (flat_map spelled tokens) f)

-- characters spell at most one tree
pub one_spelled : (cs : List ℕ) (t u : Tree Kind) (first other : Option Declaration) (ts us : List Token) → SpelledBy cs t first ts → SpelledBy cs u other us → t ≡ u
one_spelled cs t u first other ts us a b =
    let equal = same_tokens ts us a.each b.each (sym (rest_spelled cs t first ts a) ∙ rest_spelled cs u other us b) in
    some_is t u (sym (build_full t) ∙ ap (λ ps. build Before ps) (sym a.tree_is ∙ ap (λ (x : List Token). brackets [] x) equal ∙ b.tree_is) ∙ build_full u)

plain_read : (cs : List ℕ) (t : Tree Kind) (tokens : List Token) → SpelledBy cs t None tokens → read_plain cs ≡ Some t
plain_read cs t tokens s =
    elim (or_cases (outside true 0 tokens) (list_all is_textual tokens) s.form) [
      | inl h ↦ ap (λ d. or_else d (read_as text cs)) (makes_read document cs t tokens (record { each = s.each; spelled_so = s.spelled_so; turn = turns tokens 0 true 0 ∙ and_from _ _ s.whole h; tree_is = s.tree_is }))
      | inr h ↦ choose (read_as document cs) refl (makes_read text cs t tokens (record { each = s.each; spelled_so = s.spelled_so; turn = text_turns tokens 0 ∙ and_from _ _ s.whole h; tree_is = s.tree_is }))
    ]
  where
    choose : (d : Option (Tree Kind)) → read_as document cs ≡ d → read_as text cs ≡ Some t → or_else d (read_as text cs) ≡ Some t
    choose None is e = e
    choose (Some u) is e = let m = read_makes document cs u is in ap some (one_spelled cs u t None None m.0 tokens (makes_spelled None document cs cs u m.0 m.1 refl (document_form m.0 m.1.turn)) s)

pub spelled_read : (cs : List ℕ) (t : Tree Kind) (first : Option Declaration) (tokens : List Token) → SpelledBy cs t first tokens → read_all cs ≡ Some t
spelled_read cs t None tokens s = ap (λ o. read_behind o cs) (ap after_declaration s.spelled_so ∙ undeclared tokens s.each) ∙ plain_read cs t tokens s
spelled_read cs t (Some d) tokens s =
    elim (or_cases (is_document (Some d) tokens) false s.form) [
      | inl h ↦
          let w = and_parts (is_declaration d) (outside true 0 tokens) h in
          ap (λ o. read_behind o cs) (ap after_declaration s.spelled_so ∙ declaration_again d (flat_map spelled tokens) w.0)
          ∙ makes_read document (flat_map spelled tokens) t tokens (record { each = s.each; spelled_so = refl; turn = turns tokens 0 true 0 ∙ and_from _ _ s.whole w.1; tree_is = s.tree_is })
      | inr h ↦ absurd cc
    ]

-- bytes spell what they spell by one list of tokens
pub one_spelling : (bytes : List ℕ) (t u : Tree Kind) (first other : Option Declaration) (tokens others : List Token) → SpellsBy bytes t first tokens → SpellsBy bytes u other others → tokens ≡ others
one_spelling bytes t u first other tokens others a b = same_tokens tokens others a.by.each b.by.each (sym (rest_spelled (characters bytes) t first tokens a.by) ∙ rest_spelled (characters bytes) u other others b.by)

pub one_tree : (bytes : List ℕ) (t u : Tree Kind) → Spells bytes t → Spells bytes u → t ≡ u
one_tree bytes t u a b = one_spelled (characters bytes) t u a.0 b.0 a.1 b.1 a.2.by b.2.by
