-- What stands in an element and in content.
use Rattle.std.proofs.Common.{◌≡◌, ◌≢◌, ℕ, Bool, true, false, cond, not, List, [], ◌∷◌, ◌++◌, map, eqb, refl, sym, ap, subst, ◌∙◌, append_assoc, arith, inl, inr}
use Rattle.std.specs.List.{flat_map, list_all}
use Rattle.std.specs.Str.{chars, encode_utf8_all}
use Rattle.std.proofs.lemmas.Bool.{eqb-true, and_parts, and_from}
use Rattle.std.proofs.lemmas.List.{append-nil}
use Rattle.std.proofs.lemmas.List.Folds.{list_all-append}
use Rattle.mm_tree.specs.declared.Kind.{Kind}
use Rattle.mm_tree.specs.declared.Kind.TheVariants.{Element, Words}
use Rattle.mm_tree.specs.Characters.{is_space, is_name_start, is_name_char, is_name, is_short_name}
use Rattle.mm_tree.specs.Trees.{Trees, none, node, Tree, one}
use Rattle.mm_xml.specs.Syntax.{Written, attribute_of, Token, Data, Section, Comment, Instruction, Start, Close, Doctype, is_token, spelled}
use Rattle.mm_xml.specs.Grammar.{Bracket, Begin, End, text_brackets, brackets, bracketing, is_textual, normal}
use Rattle.mm_xml.specs.Productions.{with_line_feeds, PartBy, characters_of, is_content, is_end, closes, ends_text, SpellsContent, behind_text, SpellsElement}
use Rattle.mm_xml.specs.Parts.{SpellsToken, ElementParts, TagParts, ContentParts, ElementFirst, TextFirst}
use Rattle.mm_xml.specs.Facts.Tokens.{first}
use Rattle.mm_xml_laws.proofs.Elements.{Cuts, brackets_append, closes_content, inside_closes, run_brackets}
use Rattle.mm_xml_laws.proofs.Splits.{first_char, part_apart, one_token, no_bytes}
use Rattle.mm_xml_laws.proofs.Ends.{no_trees, leaf_first, tag_first, one_name, ends_there}

-- ---- the root

pub root : (t : Tree Kind) (kind : Kind) (inner rest : Trees Kind) → one t ≡ node kind inner rest → t ≡ (kind, inner)
root t kind inner rest e = λ i. (kinds t.0 kind t.1 inner none rest e i, inners t.0 kind t.1 inner none rest e i)
  where
    kinds : (a b : Kind) (x y u v : Trees Kind) → node a x u ≡ node b y v → a ≡ b
    kinds a b x y u v e = cc

    inners : (a b : Kind) (x y u v : Trees Kind) → node a x u ≡ node b y v → x ≡ y
    inners a b x y u v e = cc

pub no_others : (t : Tree Kind) (kind : Kind) (inner rest : Trees Kind) → one t ≡ node kind inner rest → rest ≡ none
no_others t kind inner rest e = sym (others t.0 kind t.1 inner none rest e)
  where
    others : (a b : Kind) (x y u v : Trees Kind) → node a x u ≡ node b y v → u ≡ v
    others a b x y u v e = cc

no_more : (ys : List Token) → is_end ys ≡ true → ys ≡ []
no_more [] h = refl
no_more (y ∷ ys) h = absurd cc

pub all_before : (p : Token → Bool) (xs ys : List Token) → list_all p (xs ++ ys) ≡ true → list_all p xs ≡ true
all_before p xs ys h = (and_parts _ _ (sym (list_all-append p xs ys) ∙ h)).0

pub all_behind : (p : Token → Bool) (xs ys : List Token) → list_all p (xs ++ ys) ≡ true → list_all p ys ≡ true
all_behind p xs ys h = (and_parts _ _ (sym (list_all-append p xs ys) ∙ h)).1

-- bytes of a token are some
pub some_bytes : (bytes : List ℕ) (t : Token) (ts : List Token) → PartBy bytes (t ∷ ts) → bytes ≢ []
unfolding chars
some_bytes bytes t ts p e = let f = first t in never f.0 (f.1 ++ flat_map spelled ts) (sym (ap with_line_feeds e) ∙ p.spelled_so ∙ ap (λ (x : List ℕ). x ++ flat_map spelled ts) f.2)
  where
    never : (b : ℕ) (r : List ℕ) → [] ≡ b ∷ r → ⊥
    never b r e = cc

-- ---- element

tags : (bytes : List ℕ) (t : Tree Kind) (name gap : List ℕ) (ws : List Written) (ts : List Token) → PartBy bytes (Start false name ws gap ∷ ts) → closes 0 (Start false name ws gap ∷ ts) ≡ true → brackets [] (Start false name ws gap ∷ ts) ≡ bracketing (one t) → TagParts bytes t
tags bytes t name gap ws ts p h e =
    let f = tag_first ts name ws (one t) e in
    let end = no_more f.ys (ends_there f.xs [] 0 f.own f.gap f.ys (ap (λ (x : List Token). closes 1 x) (sym f.whole) ∙ h) f.level) in
    let closing = Close f.own f.gap in
    let whole = f.whole ∙ ap (λ (x : List Token). f.xs ++ (closing ∷ x)) end in
    let a = part_apart bytes (Start false name ws gap ∷ []) (f.xs ++ (closing ∷ [])) (subst (λ (x : List Token). PartBy bytes (Start false name ws gap ∷ x)) whole p) in
    let b = part_apart a.right f.xs (closing ∷ []) a.right_is in
    let opens = one_token a.left (Start false name ws gap) a.left_is in
    let closes_it = one_token b.right closing b.right_is in
    let same = one_name f.own name (and_parts (is_short_name f.own) _ closes_it.is).0 (and_parts (is_short_name name) _ opens.is).0 f.same_name in
    record {
      opening = a.left;
      content = b.left;
      closing = b.right;
      name = name;
      attributes = ws;
      gap = gap;
      close_gap = f.gap;
      children = f.inner;
      are_all = a.whole ∙ ap (λ (x : List ℕ). a.left ++ x) b.whole;
      opening_is = opens;
      content_is = (f.xs, b.left_is, all_before is_content f.xs (closing ∷ []) (ap (λ (x : List Token). list_all is_content x) (sym whole) ∙ closes_content (Start false name ws gap ∷ ts) 0 h), f.inside);
      closing_is = subst (λ (n : List ℕ). SpellsToken b.right (Close n f.gap)) same closes_it;
      tree_is = root t (Element (encode_utf8_all name) (map attribute_of ws)) f.inner f.rest f.children_are;
    }

pub element_parts : (bytes : List ℕ) (t : Tree Kind) → SpellsElement bytes t → ElementParts bytes t
element_parts bytes t s = from s.0 s.1 s.2 s.3
  where
    from : (ts : List Token) → PartBy bytes ts → closes 0 ts ≡ true → brackets [] ts ≡ bracketing (one t) → ElementParts bytes t
    from [] p h e = absurd cc
    from (Data q ∷ ts) p h e = absurd cc
    from (Section cs ∷ ts) p h e = absurd cc
    from (Comment cs ∷ ts) p h e = absurd cc
    from (Instruction name cs ∷ ts) p h e = absurd cc
    from (Start false name ws gap ∷ ts) p h e = inr (tags bytes t name gap ws ts p h e)
    from (Start true name ws gap ∷ []) p h e =
        let f = leaf_first (one t) (Element (encode_utf8_all name) (map attribute_of ws)) (encode_utf8_all name) [] e in
        inl (record { name = name; attributes = ws; gap = gap; tag = one_token bytes (Start true name ws gap) p; tree_is = root t (Element (encode_utf8_all name) (map attribute_of ws)) none f.rest f.children_are })
    from (Start true name ws gap ∷ u ∷ ts) p h e = absurd cc
    from (Close name gap ∷ ts) p h e = absurd cc
    from (Doctype gap name ext after ∷ ts) p h e = absurd cc

-- ---- an element first

empty_first : (bytes : List ℕ) (children : Trees Kind) (name gap : List ℕ) (ws : List Written) (ts : List Token) → PartBy bytes (Start true name ws gap ∷ ts) → list_all is_content ts ≡ true → brackets [] (Start true name ws gap ∷ ts) ≡ bracketing children → ElementFirst bytes children
empty_first bytes children name gap ws ts p c e =
    let kind = Element (encode_utf8_all name) (map attribute_of ws) in
    let f = leaf_first children kind (encode_utf8_all name) (brackets [] ts) e in
    let a = part_apart bytes (Start true name ws gap ∷ []) ts p in
    record {
      element = a.left;
      rest = a.right;
      first = (kind, none);
      others = f.rest;
      are_all = a.whole;
      element_is = (Start true name ws gap ∷ [], a.left_is, refl, refl);
      rest_is = (ts, a.right_is, c, f.behind);
      children_are = f.children_are;
    }

tags_first : (bytes : List ℕ) (children : Trees Kind) (name gap : List ℕ) (ws : List Written) (ts : List Token) → PartBy bytes (Start false name ws gap ∷ ts) → list_all is_content ts ≡ true → brackets [] (Start false name ws gap ∷ ts) ≡ bracketing children → ElementFirst bytes children
tags_first bytes children name gap ws ts p c e =
    let kind = Element (encode_utf8_all name) (map attribute_of ws) in
    let f = tag_first ts name ws children e in
    let closing = Close f.own f.gap in
    let own = f.xs ++ (closing ∷ []) in
    let whole : ts ≡ own ++ f.ys = f.whole ∙ sym (append_assoc f.xs (closing ∷ []) f.ys) in
    let a = part_apart bytes (Start false name ws gap ∷ own) f.ys (subst (λ (x : List Token). PartBy bytes (Start false name ws gap ∷ x)) whole p) in
    let each = ap (λ (x : List Token). list_all is_content x) (sym whole) ∙ c in
    record {
      element = a.left;
      rest = a.right;
      first = (kind, f.inner);
      others = f.rest;
      are_all = a.whole;
      element_is = (
        Start false name ws gap ∷ own,
        a.left_is,
        inside_closes f.xs [] f.own f.gap 0 (all_before is_content f.xs (closing ∷ []) (all_before is_content own f.ys each)) f.level,
        ap (λ (ps : List Bracket). Begin kind ∷ ps) (brackets_append f.xs [] (closing ∷ []) (λ run. refl) ∙ (λ i. f.inside i ++ (End (f.same_name i) ∷ []))),
      );
      rest_is = (f.ys, a.right_is, all_behind is_content own f.ys each, f.behind);
      children_are = f.children_are;
    }

-- ---- a text first

-- no text goes on there: the end, or a tag
abbrev stops : List Token → Bool
stops [] = true
stops (Data p ∷ ts) = false
stops (Section cs ∷ ts) = false
stops (Comment cs ∷ ts) = false
stops (Instruction name cs ∷ ts) = false
stops (Start empty name ws gap ∷ ts) = true
stops (Close name gap ∷ ts) = true
stops (Doctype gap name ext after ∷ ts) = false

stop_cuts : (ys : List Token) → stops ys ≡ true → Cuts ys
stop_cuts [] h = λ run. sym (append-nil (text_brackets run))
stop_cuts (Data p ∷ ts) h = absurd cc
stop_cuts (Section cs ∷ ts) h = absurd cc
stop_cuts (Comment cs ∷ ts) h = absurd cc
stop_cuts (Instruction name cs ∷ ts) h = absurd cc
stop_cuts (Start empty name ws gap ∷ ts) h = λ run. refl
stop_cuts (Close name gap ∷ ts) h = λ run. refl
stop_cuts (Doctype gap name ext after ∷ ts) h = absurd cc

-- the tokens of a text that come first
record Textual (ts : List Token) : Type 0 where
  xs : List Token
  ys : List Token
  whole : ts ≡ xs ++ ys
  each : list_all is_textual xs ≡ true
  stop : stops ys ≡ true

one_more : (t : Token) (ts : List Token) → is_textual t ≡ true → Textual ts → Textual (t ∷ ts)
one_more t ts h x = record { xs = t ∷ x.xs; ys = x.ys; whole = ap (λ (r : List Token). t ∷ r) x.whole; each = and_from (is_textual t) _ h x.each; stop = x.stop }

textual : (ts : List Token) → list_all is_content ts ≡ true → Textual ts
textual [] h = record { xs = []; ys = []; whole = refl; each = refl; stop = refl }
textual (Data p ∷ ts) h = one_more (Data p) ts refl (textual ts h)
textual (Section cs ∷ ts) h = one_more (Section cs) ts refl (textual ts h)
textual (Comment cs ∷ ts) h = one_more (Comment cs) ts refl (textual ts h)
textual (Instruction name cs ∷ ts) h = one_more (Instruction name cs) ts refl (textual ts h)
textual (Start empty name ws gap ∷ ts) h = record { xs = []; ys = Start empty name ws gap ∷ ts; whole = refl; each = refl; stop = refl }
textual (Close name gap ∷ ts) h = record { xs = []; ys = Close name gap ∷ ts; whole = refl; each = refl; stop = refl }
textual (Doctype gap name ext after ∷ ts) h = absurd cc

-- a tag stands there
tag_there : (cs r : List ℕ) (d : ℕ) → normal false cs ≡ 60 ∷ d ∷ r → eqb d 33 ≡ false → eqb d 63 ≡ false → ends_text cs ≡ true
tag_there cs r d e a b =
    let f = first_char 60 cs (d ∷ r) refl e in
    ap ends_text f.1 ∙ second f.0 f.2
  where
    same : (k : ℕ) (ks : List ℕ) (m : ℕ) → eqb m 13 ≡ false → k ≡ m → normal false (k ∷ ks) ≡ d ∷ r → d ≡ m
    same k ks m h s e = heads d m _ _ (sym e ∙ ap (λ n. cond (eqb n 13) (10 ∷ normal true ks) (n ∷ normal false ks)) s ∙ ap (λ q. cond q (10 ∷ normal true ks) (m ∷ normal false ks)) h)
      where
        heads : (a b : ℕ) (x y : List ℕ) → a ∷ x ≡ b ∷ y → a ≡ b
        heads a b x y e = cc

    other : (k : ℕ) (ks : List ℕ) (m : ℕ) → eqb m 13 ≡ false → eqb d m ≡ false → normal false (k ∷ ks) ≡ d ∷ r → not (eqb k m) ≡ true
    other k ks m h n e = elim (eqb k m) as (λ q. eqb k m ≡ q → not q ≡ true) [
      | true ↦ λ w. absurd (clash (eqb d m) n (ap (λ x. eqb x m) (same k ks m h (eqb-true k m w) e) ∙ itself m))
      | false ↦ λ w. refl
    ] refl
      where
        clash : (q : Bool) → q ≡ false → q ≡ true → ⊥
        clash true h k = cc
        clash false h k = cc

        itself : (n : ℕ) → eqb n n ≡ true
        itself n = grind arith

    second : (ks : List ℕ) → normal false ks ≡ d ∷ r → ends_text (60 ∷ ks) ≡ true
    second [] e = absurd cc
    second (k ∷ ks) e = and_from _ _ (other k ks 33 refl a e) (other k ks 63 refl b e)

start_no : (c k : ℕ) → is_name_start c ≡ true → is_name_start k ≡ false → eqb c k ≡ false
start_no c k h n = elim (eqb c k) as (λ b. eqb c k ≡ b → b ≡ false) [ true ↦ λ e. absurd (differs c k (eqb-true c k e) h n) | false ↦ λ e. refl ] refl
  where
    differs : (c k : ℕ) → c ≡ k → is_name_start c ≡ true → is_name_start k ≡ false → ⊥
    differs c k e h n = let z : is_name_start k ≡ true = subst (λ (m : ℕ). is_name_start m ≡ true) e h in cc

start_there : (cs name r : List ℕ) → is_short_name name ≡ true → normal false cs ≡ 60 ∷ (name ++ r) → ends_text cs ≡ true
start_there cs [] r h e = absurd cc
start_there cs (c ∷ name) r h e =
    let n = (and_parts (is_name_start c) (list_all is_name_char name) (and_parts (is_name (c ∷ name)) _ h).0).0 in
    tag_there cs (name ++ r) c e (start_no c 33 n refl) (start_no c 63 n refl)

stop_there : (bytes : List ℕ) (ys : List Token) → stops ys ≡ true → PartBy bytes ys → ends_text (chars bytes) ≡ true
unfolding chars
stop_there bytes [] h p = ap (λ (b : List ℕ). ends_text (chars b)) (no_bytes bytes p)
stop_there bytes (Data q ∷ ts) h p = absurd cc
stop_there bytes (Section cs ∷ ts) h p = absurd cc
stop_there bytes (Comment cs ∷ ts) h p = absurd cc
stop_there bytes (Instruction name cs ∷ ts) h p = absurd cc
stop_there bytes (Start empty name ws gap ∷ ts) h p = start_there (chars bytes) name _ (and_parts (is_short_name name) _ (and_parts (is_token (Start empty name ws gap)) (list_all is_token ts) p.each).0).0 (p.spelled_so ∙ ap (λ (x : List ℕ). 60 ∷ x) (append_assoc name _ (flat_map spelled ts)))
stop_there bytes (Close name gap ∷ ts) h p = tag_there (chars bytes) _ 47 p.spelled_so refl refl
stop_there bytes (Doctype gap name ext after ∷ ts) h p = absurd cc

-- the children behind a text
record Others (text : List ℕ) (ps : List Bracket) (children : Trees Kind) : Type 0 where
  others : Trees Kind
  behind : ps ≡ bracketing others
  children_are : children ≡ behind_text text others

abbrev brackets_if : List ℕ → Bool → List Bracket
brackets_if text b = cond b [] (Begin (Words (encode_utf8_all text)) ∷ End [] ∷ [])

abbrev trees_if : List ℕ → Bool → Trees Kind → Trees Kind
trees_if text b ts = cond b ts (node (Words (encode_utf8_all text)) none ts)

others_of : (text : List ℕ) (ps : List Bracket) (children : Trees Kind) → text_brackets text ++ ps ≡ bracketing children → Others text ps children
others_of text ps children e = choose (list_all is_space text) refl
  where
    choose : (b : Bool) → list_all is_space text ≡ b → Others text ps children
    choose true h = record { others = children; behind = sym (ap (λ b. brackets_if text b ++ ps) h) ∙ e; children_are = sym (ap (λ b. trees_if text b children) h) }
    choose false h =
        let f = leaf_first children (Words (encode_utf8_all text)) [] ps (sym (ap (λ b. brackets_if text b ++ ps) h) ∙ e) in
        record { others = f.rest; behind = f.behind; children_are = f.children_are ∙ sym (ap (λ b. trees_if text b f.rest) h) }

text_first : (bytes : List ℕ) (children : Trees Kind) (t : Token) (ts : List Token) → is_textual t ≡ true → PartBy bytes (t ∷ ts) → list_all is_content ts ≡ true → brackets [] (t ∷ ts) ≡ bracketing children → TextFirst bytes children
text_first bytes children t ts h p c e =
    let x = textual ts c in
    let xs = t ∷ x.xs in
    let each = and_from (is_textual t) (list_all is_textual x.xs) h x.each in
    let whole : t ∷ ts ≡ xs ++ x.ys = ap (λ (r : List Token). t ∷ r) x.whole in
    let a = part_apart bytes xs x.ys (subst (λ (r : List Token). PartBy bytes r) whole p) in
    let text = flat_map characters_of xs in
    let o = others_of text (brackets [] x.ys) children (sym (stop_cuts x.ys x.stop text) ∙ sym (run_brackets xs [] x.ys each) ∙ ap (λ (r : List Token). brackets [] r) (sym whole) ∙ e) in
    record {
      run = a.left;
      rest = a.right;
      text = text;
      others = o.others;
      are_all = a.whole;
      is_there = some_bytes a.left t x.xs a.left_is;
      run_is = (xs, a.left_is, each, refl);
      ends = stop_there a.right x.ys x.stop a.right_is;
      rest_is = (x.ys, a.right_is, all_behind is_content x.xs x.ys (ap (λ (r : List Token). list_all is_content r) (sym x.whole) ∙ c), o.behind);
      children_are = o.children_are;
    }

-- ---- content

pub content_parts : (bytes : List ℕ) (children : Trees Kind) → SpellsContent bytes children → ContentParts bytes children
content_parts bytes children s = from s.0 s.1 s.2 s.3
  where
    from : (ts : List Token) → PartBy bytes ts → list_all is_content ts ≡ true → brackets [] ts ≡ bracketing children → ContentParts bytes children
    from [] p c e = inl (no_bytes bytes p, no_trees children e)
    from (Data q ∷ ts) p c e = inr (inr (text_first bytes children (Data q) ts refl p c e))
    from (Section cs ∷ ts) p c e = inr (inr (text_first bytes children (Section cs) ts refl p c e))
    from (Comment cs ∷ ts) p c e = inr (inr (text_first bytes children (Comment cs) ts refl p c e))
    from (Instruction name cs ∷ ts) p c e = inr (inr (text_first bytes children (Instruction name cs) ts refl p c e))
    from (Start false name ws gap ∷ ts) p c e = inr (inl (tags_first bytes children name gap ws ts p c e))
    from (Start true name ws gap ∷ ts) p c e = inr (inl (empty_first bytes children name gap ws ts p c e))
    from (Close name gap ∷ ts) p c e = absurd (never children e)
      where
        never : (children : Trees Kind) → End (encode_utf8_all name) ∷ brackets [] ts ≡ bracketing children → ⊥
        never none e = cc
        never (node kind inner rest) e = cc
    from (Doctype gap name ext after ∷ ts) p c e = absurd cc
