-- Tokens come apart where their elements end.
use Rattle.std.proofs.Common.{◌≡◌, ℕ, zero, suc, Bool, true, false, cond, ◌||◌, not, List, [], ◌∷◌, ◌++◌, map, refl, sym, ap, ◌∙◌, append_assoc}
use Rattle.std.specs.List.{list_all}
use Rattle.std.specs.Str.{chars, encode_utf8_all}
use Rattle.std.proofs.lemmas.Bool.{and_parts}
use Rattle.std.proofs.lemmas.List.{append-nil}
use Rattle.mm_tree.specs.declared.Kind.{Kind}
use Rattle.mm_tree.specs.declared.Kind.TheVariants.{Element, Words}
use Rattle.mm_tree.specs.Characters.{is_space, is_short_name}
use Rattle.mm_tree.specs.Trees.{Trees, none, node}
use Rattle.mm_xml.specs.Syntax.{meant, Written, attribute_of, Token, Data, Section, Comment, Instruction, Start, Close, Doctype}
use Rattle.mm_xml.specs.Grammar.{Bracket, Begin, End, end_name, text_brackets, start_brackets, brackets, bracketing, is_inside}
use Rattle.mm_xml.specs.Productions.{is_end, fewer, closes}
use Rattle.mm_xml.specs.Facts.Characters.{short_chars}
use Rattle.mm_xml_laws.proofs.Elements.{down, down_trees, down_text, brackets_append}
use Rattle.mm_xml_laws.proofs.Joins.{name_plain, plain_same}

-- ---- where one node more ends than is open

-- at some place the brackets end one node more than so many that are open
abbrev drops : ℕ → List Bracket → Bool
drops n [] = false
drops n (Begin kind ∷ ps) = drops (suc n) ps
drops n (End name ∷ ps) = not (is_inside n) || drops (fewer n) ps

drops_trees : (ts : Trees Kind) (n : ℕ) (ps : List Bracket) → drops n (bracketing ts ++ ps) ≡ drops n ps
drops_trees none n ps = refl
drops_trees (node kind inner rest) n ps =
    ap (λ (qs : List Bracket). drops (suc n) qs) (append_assoc (bracketing inner) (End (end_name kind) ∷ bracketing rest) ps)
    ∙ drops_trees inner (suc n) (End (end_name kind) ∷ (bracketing rest ++ ps))
    ∙ drops_trees rest n ps

drops_text : (run : List ℕ) (n : ℕ) (ps : List Bracket) → drops n (text_brackets run ++ ps) ≡ drops n ps
drops_text run n ps = elim (list_all is_space run) as (λ b. drops n ((cond b [] (Begin (Words (encode_utf8_all run)) ∷ End [] ∷ [])) ++ ps) ≡ drops n ps) [ true ↦ refl | false ↦ refl ]

-- an end tag that ends one node more, and what stands round it
record Cut (n : ℕ) (run : List ℕ) (ts : List Token) : Type 0 where
  xs : List Token
  ys : List Token
  name : List ℕ
  gap : List ℕ
  whole : ts ≡ xs ++ (Close name gap ∷ ys)
  level : down n (brackets run xs) ≡ true

cut : (ts : List Token) (run : List ℕ) (n : ℕ) → drops n (brackets run ts) ≡ true → Cut n run ts
cut [] run n h = absurd (never (sym (drops_text run n []) ∙ ap (λ (qs : List Bracket). drops n qs) (append-nil (text_brackets run)) ∙ h))
  where
    never : false ≡ true → ⊥
    never e = cc
cut (Data p ∷ ts) run n h = let c = cut ts (run ++ meant p) n h in record { xs = Data p ∷ c.xs; ys = c.ys; name = c.name; gap = c.gap; whole = ap (λ (x : List Token). Data p ∷ x) c.whole; level = c.level }
cut (Section cs ∷ ts) run n h = let c = cut ts (run ++ cs) n h in record { xs = Section cs ∷ c.xs; ys = c.ys; name = c.name; gap = c.gap; whole = ap (λ (x : List Token). Section cs ∷ x) c.whole; level = c.level }
cut (Comment cs ∷ ts) run n h = let c = cut ts run n h in record { xs = Comment cs ∷ c.xs; ys = c.ys; name = c.name; gap = c.gap; whole = ap (λ (x : List Token). Comment cs ∷ x) c.whole; level = c.level }
cut (Instruction target cs ∷ ts) run n h = let c = cut ts run n h in record { xs = Instruction target cs ∷ c.xs; ys = c.ys; name = c.name; gap = c.gap; whole = ap (λ (x : List Token). Instruction target cs ∷ x) c.whole; level = c.level }
cut (Start false own ws g ∷ ts) run n h =
    let c = cut ts [] (suc n) (sym (drops_text run n (start_brackets false own ws ++ brackets [] ts)) ∙ h) in
    record { xs = Start false own ws g ∷ c.xs; ys = c.ys; name = c.name; gap = c.gap; whole = ap (λ (x : List Token). Start false own ws g ∷ x) c.whole; level = down_text run n (start_brackets false own ws ++ brackets [] c.xs) ∙ c.level }
cut (Start true own ws g ∷ ts) run n h =
    let c = cut ts [] n (sym (drops_text run n (start_brackets true own ws ++ brackets [] ts)) ∙ h) in
    record { xs = Start true own ws g ∷ c.xs; ys = c.ys; name = c.name; gap = c.gap; whole = ap (λ (x : List Token). Start true own ws g ∷ x) c.whole; level = down_text run n (start_brackets true own ws ++ brackets [] c.xs) ∙ c.level }
cut (Close own g ∷ ts) run zero h = record { xs = []; ys = ts; name = own; gap = g; whole = refl; level = ap (λ (qs : List Bracket). down 0 qs) (sym (append-nil (text_brackets run))) ∙ down_text run 0 [] }
cut (Close own g ∷ ts) run (suc n) h =
    let c = cut ts [] n (sym (drops_text run (suc n) (End (encode_utf8_all own) ∷ brackets [] ts)) ∙ h) in
    record { xs = Close own g ∷ c.xs; ys = c.ys; name = c.name; gap = c.gap; whole = ap (λ (x : List Token). Close own g ∷ x) c.whole; level = down_text run (suc n) (End (encode_utf8_all own) ∷ brackets [] c.xs) ∙ c.level }
cut (Doctype g own ext after ∷ ts) run n h = let c = cut ts run n h in record { xs = Doctype g own ext after ∷ c.xs; ys = c.ys; name = c.name; gap = c.gap; whole = ap (λ (x : List Token). Doctype g own ext after ∷ x) c.whole; level = c.level }

-- ---- there is one such place

record SamePlace (ps qs : List Bracket) (a b : List ℕ) (us vs : List Bracket) : Type 0 where
  before : ps ≡ qs
  ended : a ≡ b
  behind : us ≡ vs

abbrev rest_of : List Bracket → List Bracket
rest_of [] = []
rest_of (p ∷ ps) = ps

same_place : (ps qs : List Bracket) (n : ℕ) (a b : List ℕ) (us vs : List Bracket) → down n ps ≡ true → down n qs ≡ true → ps ++ (End a ∷ us) ≡ qs ++ (End b ∷ vs) → SamePlace ps qs a b us vs
same_place [] [] n a b us vs h k e = record { before = refl; ended = ended a b us vs e; behind = ap rest_of e }
  where
    ended : (a b : List ℕ) (us vs : List Bracket) → End a ∷ us ≡ End b ∷ vs → a ≡ b
    ended a b us vs e = cc
same_place [] (Begin kind ∷ qs) n a b us vs h k e = absurd (apart a kind us _ e)
  where
    apart : (a : List ℕ) (kind : Kind) (us vs : List Bracket) → End a ∷ us ≡ Begin kind ∷ vs → ⊥
    apart a kind us vs e = cc
same_place [] (End c ∷ qs) n a b us vs h k e = absurd (both (is_inside n) h (and_parts (is_inside n) _ k).0)
  where
    both : (i : Bool) → not i ≡ true → i ≡ true → ⊥
    both true h k = cc
    both false h k = cc
same_place (Begin kind ∷ ps) [] n a b us vs h k e = absurd (apart b kind vs _ (sym e))
  where
    apart : (a : List ℕ) (kind : Kind) (us vs : List Bracket) → End a ∷ us ≡ Begin kind ∷ vs → ⊥
    apart a kind us vs e = cc
same_place (End c ∷ ps) [] n a b us vs h k e = absurd (both (is_inside n) k (and_parts (is_inside n) _ h).0)
  where
    both : (i : Bool) → not i ≡ true → i ≡ true → ⊥
    both true h k = cc
    both false h k = cc
same_place (Begin kind ∷ ps) (Begin other ∷ qs) n a b us vs h k e =
    let s = same_place ps qs (suc n) a b us vs h k (ap rest_of e) in
    record { before = (λ i. Begin (same kind other _ _ e i) ∷ s.before i); ended = s.ended; behind = s.behind }
  where
    same : (kind other : Kind) (us vs : List Bracket) → Begin kind ∷ us ≡ Begin other ∷ vs → kind ≡ other
    same kind other us vs e = cc
same_place (Begin kind ∷ ps) (End d ∷ qs) n a b us vs h k e = absurd (apart d kind _ _ (sym e))
  where
    apart : (a : List ℕ) (kind : Kind) (us vs : List Bracket) → End a ∷ us ≡ Begin kind ∷ vs → ⊥
    apart a kind us vs e = cc
same_place (End c ∷ ps) (Begin other ∷ qs) n a b us vs h k e = absurd (apart c other _ _ e)
  where
    apart : (a : List ℕ) (kind : Kind) (us vs : List Bracket) → End a ∷ us ≡ Begin kind ∷ vs → ⊥
    apart a kind us vs e = cc
same_place (End c ∷ ps) (End d ∷ qs) n a b us vs h k e =
    let s = same_place ps qs (fewer n) a b us vs (and_parts (is_inside n) _ h).1 (and_parts (is_inside n) _ k).1 (ap rest_of e) in
    record { before = (λ i. End (same c d _ _ e i) ∷ s.before i); ended = s.ended; behind = s.behind }
  where
    same : (c d : List ℕ) (us vs : List Bracket) → End c ∷ us ≡ End d ∷ vs → c ≡ d
    same c d us vs e = cc

balanced : (ts : Trees Kind) → down 0 (bracketing ts) ≡ true
balanced ts = ap (λ (qs : List Bracket). down 0 qs) (sym (append-nil (bracketing ts))) ∙ down_trees ts 0 []

-- ---- the first node

record FirstNode (kind : Kind) (ps : List Bracket) (children : Trees Kind) : Type 0 where
  inner : Trees Kind
  rest : Trees Kind
  children_are : children ≡ node kind inner rest
  behind : ps ≡ bracketing inner ++ (End (end_name kind) ∷ bracketing rest)

first_node : (children : Trees Kind) (kind : Kind) (ps : List Bracket) → Begin kind ∷ ps ≡ bracketing children → FirstNode kind ps children
first_node none kind ps e = absurd cc
first_node (node own inner rest) kind ps e =
    let same = begun kind own ps _ e in
    record { inner = inner; rest = rest; children_are = ap (λ (k : Kind). node k inner rest) (sym same); behind = ap rest_of e ∙ ap (λ (k : Kind). bracketing inner ++ (End (end_name k) ∷ bracketing rest)) (sym same) }
  where
    begun : (kind own : Kind) (ps qs : List Bracket) → Begin kind ∷ ps ≡ Begin own ∷ qs → kind ≡ own
    begun kind own ps qs e = cc

pub no_trees : (ts : Trees Kind) → [] ≡ bracketing ts → ts ≡ none
no_trees none e = refl
no_trees (node kind inner rest) e = absurd cc

-- a node that ends at once
pub record LeafFirst (kind : Kind) (ps : List Bracket) (children : Trees Kind) : Type 0 where
  pub rest : Trees Kind
  pub children_are : children ≡ node kind none rest
  pub behind : ps ≡ bracketing rest

pub leaf_first : (children : Trees Kind) (kind : Kind) (name : List ℕ) (ps : List Bracket) → Begin kind ∷ End name ∷ ps ≡ bracketing children → LeafFirst kind ps children
leaf_first children kind name ps e =
    let f = first_node children kind (End name ∷ ps) e in
    let s = same_place [] (bracketing f.inner) 0 name (end_name kind) ps (bracketing f.rest) refl (balanced f.inner) f.behind in
    record { rest = f.rest; children_are = f.children_are ∙ ap (λ (x : Trees Kind). node kind x f.rest) (no_trees f.inner s.before); behind = s.behind }

-- an element that has a start tag and an end tag
pub record TagFirst (name : List ℕ) (ws : List Written) (ts : List Token) (children : Trees Kind) : Type 0 where
  pub xs : List Token
  pub ys : List Token
  pub own : List ℕ
  pub gap : List ℕ
  pub inner : Trees Kind
  pub rest : Trees Kind
  pub whole : ts ≡ xs ++ (Close own gap ∷ ys)
  pub level : down 0 (brackets [] xs) ≡ true
  pub same_name : encode_utf8_all own ≡ encode_utf8_all name
  pub children_are : children ≡ node (Element (encode_utf8_all name) (map attribute_of ws)) inner rest
  pub inside : brackets [] xs ≡ bracketing inner
  pub behind : brackets [] ys ≡ bracketing rest

pub tag_first : (ts : List Token) (name : List ℕ) (ws : List Written) (children : Trees Kind) → Begin (Element (encode_utf8_all name) (map attribute_of ws)) ∷ brackets [] ts ≡ bracketing children → TagFirst name ws ts children
tag_first ts name ws children e =
    let kind = Element (encode_utf8_all name) (map attribute_of ws) in
    let f = first_node children kind (brackets [] ts) e in
    let c = cut ts [] 0 (ap (λ (qs : List Bracket). drops 0 qs) f.behind ∙ drops_trees f.inner 0 (End (encode_utf8_all name) ∷ bracketing f.rest)) in
    let all = sym (brackets_append c.xs [] (Close c.name c.gap ∷ c.ys) (λ run. refl)) ∙ ap (λ (x : List Token). brackets [] x) (sym c.whole) ∙ f.behind in
    let s = same_place (brackets [] c.xs) (bracketing f.inner) 0 (encode_utf8_all c.name) (encode_utf8_all name) (brackets [] c.ys) (bracketing f.rest) c.level (balanced f.inner) all in
    record { xs = c.xs; ys = c.ys; own = c.name; gap = c.gap; inner = f.inner; rest = f.rest; whole = c.whole; level = c.level; same_name = s.ended; children_are = f.children_are; inside = s.before; behind = s.behind }

-- names with one spelling are one name
pub one_name : (a b : List ℕ) → is_short_name a ≡ true → is_short_name b ≡ true → encode_utf8_all a ≡ encode_utf8_all b → a ≡ b
one_name a b h k e = sym (plain_same a (name_plain a (short_chars a h))) ∙ ap chars e ∙ plain_same b (name_plain b (short_chars b k))

-- nothing follows the end tag of an element
pub ends_there : (xs : List Token) (run : List ℕ) (n : ℕ) (name gap : List ℕ) (ys : List Token) → closes (suc n) (xs ++ (Close name gap ∷ ys)) ≡ true → down n (brackets run xs) ≡ true → is_end ys ≡ true
ends_there [] run n name gap ys h l = last n h (sym (down_text run n []) ∙ ap (λ (qs : List Bracket). down n qs) (append-nil (text_brackets run)) ∙ l)
  where
    last : (n : ℕ) → closes (suc n) (Close name gap ∷ ys) ≡ true → down n [] ≡ true → is_end ys ≡ true
    last zero h k = h
    last (suc n) h k = absurd cc
ends_there (Data p ∷ xs) run n name gap ys h l = ends_there xs (run ++ meant p) n name gap ys h l
ends_there (Section cs ∷ xs) run n name gap ys h l = ends_there xs (run ++ cs) n name gap ys h l
ends_there (Comment cs ∷ xs) run n name gap ys h l = ends_there xs run n name gap ys h l
ends_there (Instruction target cs ∷ xs) run n name gap ys h l = ends_there xs run n name gap ys h l
ends_there (Start false own ws g ∷ xs) run n name gap ys h l = ends_there xs [] (suc n) name gap ys h (sym (down_text run n (start_brackets false own ws ++ brackets [] xs)) ∙ l)
ends_there (Start true own ws g ∷ xs) run n name gap ys h l = ends_there xs [] n name gap ys h (sym (down_text run n (start_brackets true own ws ++ brackets [] xs)) ∙ l)
ends_there (Close own g ∷ xs) run zero name gap ys h l = let k : down zero (End (encode_utf8_all own) ∷ brackets [] xs) ≡ true = sym (down_text run zero (End (encode_utf8_all own) ∷ brackets [] xs)) ∙ l in absurd cc
ends_there (Close own g ∷ xs) run (suc n) name gap ys h l = ends_there xs [] n name gap ys h (sym (down_text run (suc n) (End (encode_utf8_all own) ∷ brackets [] xs)) ∙ l)
ends_there (Doctype g own ext after ∷ xs) run n name gap ys h l = absurd cc
