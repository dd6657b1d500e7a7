-- The productions of XML as sentences on bytes.
use Rattle.std.proofs.Common.{◌≡◌, ℕ, zero, suc, Bool, true, false, cond, ◌&&◌, not, List, [], ◌∷◌, ◌++◌, length, map, eqb, refl, sym, ap, subst, ◌∙◌, append_assoc, arith, inl, append-nil}
use Rattle.std.specs.Prelude.{IsTrue}
use Rattle.std.specs.List.{flat_map, list_all}
use Rattle.std.specs.Str.{chars, encode_utf8_all}
use Rattle.std.proofs.lemmas.Bool.{eqb-true, and_parts}
use Rattle.std.proofs.lemmas.List.{append-nil, length-append}
use Rattle.mm_tree.specs.declared.Kind.{Kind}
use Rattle.mm_tree.specs.declared.Kind.TheVariants.{Element, Words}
use Rattle.mm_tree.specs.Characters.{is_space}
use Rattle.mm_tree.specs.Trees.{Trees, none, node, Tree}
use Rattle.mm_xml.specs.Syntax.{Literal, Reference, is_literal, meant, Written, attribute_of, Token, Data, Section, Comment, Instruction, Start, Close, Doctype, is_token, spelled}
use Rattle.mm_xml.specs.Grammar.{Bracket, Begin, End, end_name, text_brackets, start_brackets, brackets, bracketing, is_inside, is_textual, normal}
use Rattle.mm_xml.specs.Productions.{PartBy, characters_of, SpellsRun, ends_text, is_content, SpellsContent, behind_text, is_end, fewer, closes, SpellsElement}
use Rattle.mm_xml.specs.Facts.Tokens.{first}
use Rattle.mm_xml.specs.Parts.{SpellsToken}
use Rattle.mm_xml_laws.proofs.Splits.{first_char, token_part}
use Rattle.mm_xml_laws.proofs.Joins.{no_part, all_append, join_behind, join_markup, join_nothing, start_ends, closed}

-- ---- brackets of tokens behind others

-- tokens that end the text before them
abbrev pub Cuts : List Token → Type 0
Cuts ys = (run : List ℕ) → brackets run ys ≡ text_brackets run ++ brackets [] ys

regroup : (a b p q : List Bracket) → a ++ (b ++ (p ++ q)) ≡ (a ++ (b ++ p)) ++ q
regroup a b p q = sym (simp append_assoc)

pub brackets_append : (xs : List Token) (run : List ℕ) (ys : List Token) → Cuts ys → brackets run (xs ++ ys) ≡ brackets run xs ++ brackets [] ys
brackets_append [] run ys cut = cut run
brackets_append (Data p ∷ xs) run ys cut = brackets_append xs (run ++ meant p) ys cut
brackets_append (Section cs ∷ xs) run ys cut = brackets_append xs (run ++ cs) ys cut
brackets_append (Comment cs ∷ xs) run ys cut = brackets_append xs run ys cut
brackets_append (Instruction name cs ∷ xs) run ys cut = brackets_append xs run ys cut
brackets_append (Start e name ws gap ∷ xs) run ys cut =
    ap (λ (ps : List Bracket). text_brackets run ++ (start_brackets e name ws ++ ps)) (brackets_append xs [] ys cut) ∙ regroup (text_brackets run) (start_brackets e name ws) (brackets [] xs) (brackets [] ys)
brackets_append (Close name gap ∷ xs) run ys cut =
    ap (λ (ps : List Bracket). text_brackets run ++ (End (encode_utf8_all name) ∷ ps)) (brackets_append xs [] ys cut) ∙ regroup (text_brackets run) (End (encode_utf8_all name) ∷ []) (brackets [] xs) (brackets [] ys)
brackets_append (Doctype gap name ext after ∷ xs) run ys cut = brackets_append xs run ys cut

-- what holds where nothing follows, and where the others close what is open, holds where the tokens close behind a tag
behind_start : (P : Type 0) (e : Bool) (depth : ℕ) (xs : List Token) → ((d : ℕ) → closes d xs ≡ true → P) → (is_end xs ≡ true → P) → cond e (cond (is_inside depth) (closes depth xs) (is_end xs)) (closes (suc depth) xs) ≡ true → P
behind_start P false depth xs more last k = more (suc depth) k
behind_start P true depth xs more last k = elim (is_inside depth) as (λ b. cond b (closes depth xs) (is_end xs) ≡ true → P) [ true ↦ λ m. more depth m | false ↦ λ m. last m ] k

behind_close : (P : Type 0) (depth : ℕ) (xs : List Token) → ((d : ℕ) → closes d xs ≡ true → P) → (is_end xs ≡ true → P) → (is_inside depth && cond (is_inside (fewer depth)) (closes (fewer depth) xs) (is_end xs)) ≡ true → P
behind_close P depth xs more last h = elim (is_inside (fewer depth)) as (λ b. cond b (closes (fewer depth) xs) (is_end xs) ≡ true → P) [ true ↦ λ m. more (fewer depth) m | false ↦ λ m. last m ] (and_parts (is_inside depth) _ h).1

ended_brackets : (xs ys : List Token) → is_end xs ≡ true → brackets [] (xs ++ ys) ≡ brackets [] xs ++ brackets [] ys
ended_brackets [] ys k = refl
ended_brackets (x ∷ xs) ys k = absurd cc

ended_content : (xs : List Token) → is_end xs ≡ true → list_all is_content xs ≡ true
ended_content [] k = refl
ended_content (x ∷ xs) k = absurd cc

-- the last token of an element is a tag
pub closes_append : (xs : List Token) (depth : ℕ) (run : List ℕ) (ys : List Token) → closes depth xs ≡ true → brackets run (xs ++ ys) ≡ brackets run xs ++ brackets [] ys
closes_append [] depth run ys h = absurd cc
closes_append (Data p ∷ xs) depth run ys h = closes_append xs depth (run ++ meant p) ys (and_parts (is_inside depth) _ h).1
closes_append (Section cs ∷ xs) depth run ys h = closes_append xs depth (run ++ cs) ys (and_parts (is_inside depth) _ h).1
closes_append (Comment cs ∷ xs) depth run ys h = closes_append xs depth run ys (and_parts (is_inside depth) _ h).1
closes_append (Instruction name cs ∷ xs) depth run ys h = closes_append xs depth run ys (and_parts (is_inside depth) _ h).1
closes_append (Start e name ws gap ∷ xs) depth run ys h =
    ap (λ (ps : List Bracket). text_brackets run ++ (start_brackets e name ws ++ ps)) (behind_start (brackets [] (xs ++ ys) ≡ brackets [] xs ++ brackets [] ys) e depth xs (λ d k. closes_append xs d [] ys k) (λ k. ended_brackets xs ys k) h)
    ∙ regroup (text_brackets run) (start_brackets e name ws) (brackets [] xs) (brackets [] ys)
closes_append (Close name gap ∷ xs) depth run ys h =
    ap (λ (ps : List Bracket). text_brackets run ++ (End (encode_utf8_all name) ∷ ps)) (behind_close (brackets [] (xs ++ ys) ≡ brackets [] xs ++ brackets [] ys) depth xs (λ d k. closes_append xs d [] ys k) (λ k. ended_brackets xs ys k) h)
    ∙ regroup (text_brackets run) (End (encode_utf8_all name) ∷ []) (brackets [] xs) (brackets [] ys)
closes_append (Doctype gap name ext after ∷ xs) depth run ys h = absurd cc

-- no document type stands in an element
pub closes_content : (xs : List Token) (depth : ℕ) → closes depth xs ≡ true → list_all is_content xs ≡ true
closes_content [] depth h = refl
closes_content (Data p ∷ xs) depth h = closes_content xs depth (and_parts (is_inside depth) _ h).1
closes_content (Section cs ∷ xs) depth h = closes_content xs depth (and_parts (is_inside depth) _ h).1
closes_content (Comment cs ∷ xs) depth h = closes_content xs depth (and_parts (is_inside depth) _ h).1
closes_content (Instruction name cs ∷ xs) depth h = closes_content xs depth (and_parts (is_inside depth) _ h).1
closes_content (Start e name ws gap ∷ xs) depth h = behind_start (list_all is_content xs ≡ true) e depth xs (λ d k. closes_content xs d k) (λ k. ended_content xs k) h
closes_content (Close name gap ∷ xs) depth h = behind_close (list_all is_content xs ≡ true) depth xs (λ d k. closes_content xs d k) (λ k. ended_content xs k) h
closes_content (Doctype gap name ext after ∷ xs) depth h = absurd cc

-- ---- the content of an element never leaves it

-- the brackets end so many nodes that are open, and all that they begin
abbrev pub down : ℕ → List Bracket → Bool
down n [] = not (is_inside n)
down n (Begin kind ∷ ps) = down (suc n) ps
down n (End name ∷ ps) = is_inside n && down (fewer n) ps

pub down_trees : (ts : Trees Kind) (n : ℕ) (ps : List Bracket) → down n (bracketing ts ++ ps) ≡ down n ps
down_trees none n ps = refl
down_trees (node kind inner rest) n ps =
    ap (λ (qs : List Bracket). down (suc n) qs) (append_assoc (bracketing inner) (End (end_name kind) ∷ bracketing rest) ps)
    ∙ down_trees inner (suc n) (End (end_name kind) ∷ (bracketing rest ++ ps))
    ∙ down_trees rest n ps

pub down_text : (run : List ℕ) (n : ℕ) (ps : List Bracket) → down n (text_brackets run ++ ps) ≡ down n ps
down_text run n ps = elim (list_all is_space run) as (λ b. down n ((cond b [] (Begin (Words (encode_utf8_all run)) ∷ End [] ∷ [])) ++ ps) ≡ down n ps) [ true ↦ refl | false ↦ refl ]

pub inside_closes : (ys : List Token) (run name gap : List ℕ) (n : ℕ) → list_all is_content ys ≡ true → down n (brackets run ys) ≡ true → closes (suc n) (ys ++ Close name gap ∷ []) ≡ true
inside_closes [] run name gap n c h = last n (sym (down_text run n []) ∙ ap (λ (qs : List Bracket). down n qs) (append-nil (text_brackets run)) ∙ h)
  where
    last : (n : ℕ) → down n [] ≡ true → closes (suc n) (Close name gap ∷ []) ≡ true
    last zero k = refl
    last (suc n) k = absurd cc
inside_closes (Data p ∷ ys) run name gap n c h = inside_closes ys (run ++ meant p) name gap n c h
inside_closes (Section cs ∷ ys) run name gap n c h = inside_closes ys (run ++ cs) name gap n c h
inside_closes (Comment cs ∷ ys) run name gap n c h = inside_closes ys run name gap n c h
inside_closes (Instruction target cs ∷ ys) run name gap n c h = inside_closes ys run name gap n c h
inside_closes (Start false own ws g ∷ ys) run name gap n c h = inside_closes ys [] name gap (suc n) c (sym (down_text run n (start_brackets false own ws ++ brackets [] ys)) ∙ h)
inside_closes (Start true own ws g ∷ ys) run name gap n c h = inside_closes ys [] name gap n c (sym (down_text run n (start_brackets true own ws ++ brackets [] ys)) ∙ h)
inside_closes (Close own g ∷ ys) run name gap zero c h = let k : down zero (End (encode_utf8_all own) ∷ brackets [] ys) ≡ true = sym (down_text run zero (End (encode_utf8_all own) ∷ brackets [] ys)) ∙ h in absurd cc
inside_closes (Close own g ∷ ys) run name gap (suc n) c h = inside_closes ys [] name gap n c (sym (down_text run (suc n) (End (encode_utf8_all own) ∷ brackets [] ys)) ∙ h)
inside_closes (Doctype g own ext after ∷ ys) run name gap n c h = absurd cc

-- ---- elements

pub empty_element : (bytes name gap : List ℕ) (attributes : List Written) → SpellsToken bytes (Start true name attributes gap) → SpellsElement bytes (Element (encode_utf8_all name) (map attribute_of attributes), none)
empty_element bytes name gap ws s = (Start true name ws gap ∷ [], token_part bytes (Start true name ws gap) s refl, refl, refl)

pub element : (opening content closing name gap close_gap : List ℕ) (attributes : List Written) (children : Trees Kind) → SpellsToken opening (Start false name attributes gap) → SpellsContent content children → SpellsToken closing (Close name close_gap)
    → SpellsElement (opening ++ (content ++ closing)) (Element (encode_utf8_all name) (map attribute_of attributes), children)
element opening content closing name gap close_gap ws children s c e =
    let ys = c.0 in
    let open_tag = Start false name ws gap in
    let close_tag = Close name close_gap in
    let tag = first_char 60 (chars closing) _ refl e.characters.spelled_so in
    let inner = join_markup content closing ys (close_tag ∷ []) c.1 (token_part closing close_tag e refl) (60, tag.0, tag.1, inl refl) in
    let kind = Element (encode_utf8_all name) (map attribute_of ws) in (
      open_tag ∷ (ys ++ close_tag ∷ []),
      join_behind opening (content ++ closing) (open_tag ∷ []) (ys ++ close_tag ∷ []) (token_part opening open_tag s refl) inner (start_ends false name gap ws) refl,
      inside_closes ys [] name close_gap 0 c.2 (ap (λ (qs : List Bracket). down 0 qs) (c.3 ∙ sym (append-nil (bracketing children))) ∙ down_trees children 0 []),
      ap (λ (ps : List Bracket). Begin kind ∷ ps) (brackets_append ys [] (close_tag ∷ []) (λ run. refl) ∙ ap (λ (ps : List Bracket). ps ++ End (encode_utf8_all name) ∷ []) c.3),
    )

-- ---- content

pub no_content : SpellsContent [] none
no_content = ([], no_part, refl, refl)

second : (d k : ℕ) (x r : List ℕ) → eqb d k ≡ false → 60 ∷ k ∷ x ≡ 60 ∷ d ∷ r → ⊥
second d k x r h e = let same : k ≡ d = cc in let t : eqb d k ≡ true = ap (λ n. eqb n k) (sym same) ∙ itself k in cc
  where
    itself : (n : ℕ) → eqb n n ≡ true
    itself n = grind arith

abbrev head : List ℕ → ℕ
head [] = 0
head (c ∷ cs) = c

-- a tag is the first token there, or there is none
tag_first : (ys : List Token) (d : ℕ) (r : List ℕ) → list_all is_token ys ≡ true → eqb d 33 ≡ false → eqb d 63 ≡ false → flat_map spelled ys ≡ 60 ∷ d ∷ r → Cuts ys
tag_first [] d r each a b e = λ run. sym (append-nil (text_brackets run))
tag_first (Data (Literal c) ∷ ys) d r each a b e = absurd (less c (flat_map spelled ys) (d ∷ r) (and_parts (is_literal c) (list_all is_token ys) each).0 e)
  where
    less : (c : ℕ) (x y : List ℕ) → is_literal c ≡ true → c ∷ x ≡ 60 ∷ y → ⊥
    less c x y h e = let same : c ≡ 60 = cc in let k : is_literal 60 ≡ true = subst (λ (n : ℕ). is_literal n ≡ true) same h in cc
tag_first (Data (Reference body) ∷ ys) d r each a b e = absurd (differ _ (d ∷ r) e)
  where
    differ : (x y : List ℕ) → 38 ∷ x ≡ 60 ∷ y → ⊥
    differ x y e = let k : head (38 ∷ x) ≡ head (60 ∷ y) = ap head e in omega (arith, k)
tag_first (Section cs ∷ ys) d r each a b e = absurd (second d 33 _ r a e)
tag_first (Comment cs ∷ ys) d r each a b e = absurd (second d 33 _ r a e)
tag_first (Instruction name cs ∷ ys) d r each a b e = absurd (second d 63 _ r b e)
tag_first (Start empty name ws gap ∷ ys) d r each a b e = λ run. refl
tag_first (Close name gap ∷ ys) d r each a b e = λ run. refl
tag_first (Doctype gap name ext after ∷ ys) d r each a b e = absurd (second d 33 _ r a e)

-- ---- text

-- tokens of a text join the characters before them
pub run_brackets : (xs : List Token) (run : List ℕ) (ys : List Token) → list_all is_textual xs ≡ true → brackets run (xs ++ ys) ≡ brackets (run ++ flat_map characters_of xs) ys
run_brackets [] run ys h = ap (λ (r : List ℕ). brackets r ys) (sym (append-nil run))
run_brackets (Data p ∷ xs) run ys h = run_brackets xs (run ++ meant p) ys h ∙ ap (λ (r : List ℕ). brackets r ys) (append_assoc run (meant p) (flat_map characters_of xs))
run_brackets (Section cs ∷ xs) run ys h = run_brackets xs (run ++ cs) ys h ∙ ap (λ (r : List ℕ). brackets r ys) (append_assoc run cs (flat_map characters_of xs))
run_brackets (Comment cs ∷ xs) run ys h = run_brackets xs run ys h
run_brackets (Instruction name cs ∷ xs) run ys h = run_brackets xs run ys h
run_brackets (Start empty name ws gap ∷ xs) run ys h = absurd cc
run_brackets (Close name gap ∷ xs) run ys h = absurd cc
run_brackets (Doctype gap name ext after ∷ xs) run ys h = absurd cc

pub textual_content : (xs : List Token) → list_all is_textual xs ≡ true → list_all is_content xs ≡ true
textual_content [] h = refl
textual_content (Data p ∷ xs) h = textual_content xs h
textual_content (Section cs ∷ xs) h = textual_content xs h
textual_content (Comment cs ∷ xs) h = textual_content xs h
textual_content (Instruction name cs ∷ xs) h = textual_content xs h
textual_content (Start empty name ws gap ∷ xs) h = absurd cc
textual_content (Close name gap ∷ xs) h = absurd cc
textual_content (Doctype gap name ext after ∷ xs) h = absurd cc

pub behind_is : (text : List ℕ) (children : Trees Kind) → text_brackets text ++ bracketing children ≡ bracketing (behind_text text children)
behind_is text children = elim (list_all is_space text) as (λ b. (cond b [] (Begin (Words (encode_utf8_all text)) ∷ End [] ∷ [])) ++ bracketing children ≡ bracketing (cond b children (node (Words (encode_utf8_all text)) none children))) [ true ↦ refl | false ↦ refl ]

-- what stands behind a text: nothing, or a tag
data Behind (content : List ℕ) : Type 0 where
  Nothing : chars content ≡ [] → Behind content
  Tagged : (d : ℕ) → (r : List ℕ) → chars content ≡ 60 ∷ d ∷ r → eqb d 33 ≡ false → eqb d 63 ≡ false → Behind content

ends_there : (content : List ℕ) → ends_text (chars content) ≡ true → Behind content
ends_there content h = from (chars content) refl h
  where
    negated : (b : Bool) → not b ≡ true → b ≡ false
    negated true e = absurd cc
    negated false e = refl

    from : (cs : List ℕ) → chars content ≡ cs → ends_text cs ≡ true → Behind content
    from [] e h = Nothing e
    from (c ∷ []) e h = absurd cc
    from (c ∷ d ∷ r) e h =
        let w = and_parts (eqb c 60) _ h in
        let v = and_parts (not (eqb d 33)) (not (eqb d 63)) w.1 in
        Tagged d r (e ∙ ap (λ n. n ∷ d ∷ r) (eqb-true c 60 w.0)) (negated (eqb d 33) v.0) (negated (eqb d 63) v.1)

pub text_in_content : (text_bytes text content : List ℕ) (children : Trees Kind) → SpellsRun text_bytes text → IsTrue (ends_text (chars content)) → SpellsContent content children → SpellsContent (text_bytes ++ content) (behind_text text children)
text_in_content bytes text content children s h c = elim (ends_there content h) [
  | Nothing e ↦ joined (join_nothing bytes content s.0 c.0 s.1 c.1 e) (no_tokens c.0 (sym c.1.spelled_so ∙ ap (λ (x : List ℕ). normal false x) e))
  | Tagged d r e a b ↦ joined (join_markup bytes content s.0 c.0 s.1 c.1 (60, d ∷ r, e, inl refl)) (cut_tag d r e a b)
]
  where
    joined : PartBy (bytes ++ content) (s.0 ++ c.0) → Cuts c.0 → SpellsContent (bytes ++ content) (behind_text text children)
    joined part cut = (
      s.0 ++ c.0,
      part,
      all_append is_content s.0 c.0 (textual_content s.0 s.2) c.2,
      run_brackets s.0 [] c.0 s.2 ∙ ap (λ (r : List ℕ). brackets r c.0) s.3 ∙ cut text ∙ ap (λ (ps : List Bracket). text_brackets text ++ ps) c.3 ∙ behind_is text children,
    )

    no_tokens : (ys : List Token) → flat_map spelled ys ≡ [] → Cuts ys
    no_tokens [] e = λ run. sym (append-nil (text_brackets run))
    no_tokens (y ∷ ys) e = let f = first y in absurd (omega (arith, length-append (spelled y) (flat_map spelled ys), ap length f.2, ap length e))

    cut_tag : (d : ℕ) (r : List ℕ) → chars content ≡ 60 ∷ d ∷ r → eqb d 33 ≡ false → eqb d 63 ≡ false → Cuts c.0
    cut_tag d r e a b =
        elim (eqb d 13) as (λ m. flat_map spelled c.0 ≡ 60 ∷ cond m (10 ∷ normal true r) (d ∷ normal false r) → Cuts c.0) [
          | true ↦ λ k. tag_first c.0 10 (normal true r) c.1.each refl refl k
          | false ↦ λ k. tag_first c.0 d (normal false r) c.1.each a b k
        ] (sym c.1.spelled_so ∙ ap (λ (x : List ℕ). normal false x) e)

pub element_in_content : (bytes content : List ℕ) (t : Tree Kind) (children : Trees Kind) → SpellsElement bytes t → SpellsContent content children → SpellsContent (bytes ++ content) (node t.0 t.1 children)
element_in_content bytes content t children s c =
    let k = closed s.0 0 0 0 s.2 in (
      s.0 ++ c.0,
      join_behind bytes content s.0 c.0 s.1 c.1 k.last k.no_square,
      all_append is_content s.0 c.0 (closes_content s.0 0 s.2) c.2,
      closes_append s.0 0 [] c.0 s.2 ∙ (λ i. s.3 i ++ c.3 i) ∙ append_assoc (Begin t.0 ∷ bracketing t.1) (End (end_name t.0) ∷ []) (bracketing children),
    )
