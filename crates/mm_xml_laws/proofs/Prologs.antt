-- What stands before and behind the element.
use Rattle.std.proofs.Common.{◌≡◌, ℕ, ◌+◌, Bool, true, false, cond, not, List, [], ◌∷◌, ◌++◌, None, eqb, refl, sym, ap, subst, ◌∙◌, inl, append-nil}
use Rattle.std.specs.Prelude.{IsTrue}
use Rattle.std.specs.List.{list_all}
use Rattle.std.specs.Str.{chars, encode_utf8_all}
use Rattle.std.proofs.lemmas.Bool.{eqb-true, and_parts, and_from}
use Rattle.std.proofs.lemmas.List.{append-nil}
use Rattle.mm_tree.specs.declared.Kind.{Kind}
use Rattle.mm_tree.specs.Trees.{Tree}
use Rattle.mm_tree.specs.Characters.{is_char, is_space}
use Rattle.mm_xml.specs.Syntax.{Literal, Reference, External, Token, Data, Section, Comment, Instruction, Start, Close, Doctype, is_token, spelled}
use Rattle.mm_xml.specs.Grammar.{unbroken, normal}
use Rattle.mm_xml.specs.Productions.{is_plain, PartBy, is_misc, SpellsMisc, is_prolog, SpellsProlog, SpellsElement, SpellsDocument}
use Rattle.mm_xml_laws.proofs.Forms.{document}
use Rattle.mm_xml_laws.proofs.Joins.{together, plain_encoded, part_join, join_markup, no_part, part_of_one, plain_same, returned, squares}

-- no carriage return is last in characters of which none is one
plain_returned : (cs : List ℕ) → list_all is_plain cs ≡ true → returned false cs ≡ false
plain_returned [] h = refl
plain_returned (c ∷ cs) h =
    let w = and_parts (is_plain c) (list_all is_plain cs) h in
    ap (λ b. returned b cs) (negated (eqb c 13) (and_parts (is_char c) (not (eqb c 13)) w.0).1) ∙ plain_returned cs w.1
  where
    negated : (b : Bool) → not b ≡ true → b ≡ false
    negated true e = absurd cc
    negated false e = refl

-- a token before a part
token_join : (t : Token) (bytes : List ℕ) (ys : List Token) → is_token t ≡ true → list_all is_plain (spelled t) ≡ true → unbroken 0 (t ∷ []) ≡ true → squares 0 (t ∷ []) ≡ 0 → PartBy bytes ys → PartBy (encode_utf8_all (spelled t) ++ bytes) (t ∷ ys)
token_join t bytes ys is plain whole square q =
    part_join (encode_utf8_all (spelled t)) bytes (t ∷ []) ys (part_of_one t is plain whole) q
    (ap (λ r. normal r (chars bytes)) (ap (λ (x : List ℕ). returned false x) (plain_same (spelled t) plain) ∙ plain_returned (spelled t) plain))
    (ap (λ n. unbroken n ys) square)

space_square : (c : ℕ) → is_space c ≡ true → eqb c 93 ≡ false
space_square c h = elim (eqb c 93) as (λ b. eqb c 93 ≡ b → b ≡ false) [ true ↦ λ e. let k : is_space 93 ≡ true = subst (λ (n : ℕ). is_space n ≡ true) (eqb-true c 93 e) h in absurd cc | false ↦ λ e. refl ] refl

space_angle : (c : ℕ) → is_space c ≡ true → eqb c 62 ≡ false
space_angle c h = elim (eqb c 62) as (λ b. eqb c 62 ≡ b → b ≡ false) [ true ↦ λ e. let k : is_space 62 ≡ true = subst (λ (n : ℕ). is_space n ≡ true) (eqb-true c 62 e) h in absurd cc | false ↦ λ e. refl ] refl

misc_square : (t : Token) → is_misc t ≡ true → squares 0 (t ∷ []) ≡ 0
misc_square (Data (Literal c)) h = ap (λ b. cond b (0 + 1) 0) (space_square c h)
misc_square (Data (Reference body)) h = absurd cc
misc_square (Section cs) h = absurd cc
misc_square (Comment cs) h = refl
misc_square (Instruction name cs) h = refl
misc_square (Start empty name ws gap) h = absurd cc
misc_square (Close name gap) h = absurd cc
misc_square (Doctype gap name ext after) h = absurd cc

misc_whole : (t : Token) → is_misc t ≡ true → unbroken 0 (t ∷ []) ≡ true
misc_whole (Data (Literal c)) h = rw (space_square c h, space_angle c h) refl
misc_whole (Data (Reference body)) h = absurd cc
misc_whole (Section cs) h = absurd cc
misc_whole (Comment cs) h = refl
misc_whole (Instruction name cs) h = refl
misc_whole (Start empty name ws gap) h = absurd cc
misc_whole (Close name gap) h = absurd cc
misc_whole (Doctype gap name ext after) h = absurd cc

pub no_misc : SpellsMisc []
no_misc = ([], no_part, refl)

pub misc : (t : Token) (bytes : List ℕ) → IsTrue (is_misc t) → IsTrue (is_token t) → IsTrue (list_all is_plain (spelled t)) → SpellsMisc bytes → SpellsMisc (encode_utf8_all (spelled t) ++ bytes)
misc t bytes m is plain s = (t ∷ s.0, token_join t bytes s.0 is plain (misc_whole t m) (misc_square t m) s.1, and_from (is_misc t) (list_all is_misc s.0) m s.2)

misc_first : (ms zs : List Token) (may : Bool) → list_all is_misc ms ≡ true → is_prolog may zs ≡ true → is_prolog may (ms ++ zs) ≡ true
misc_first [] zs may h k = k
misc_first (Data (Literal c) ∷ ms) zs may h k = let w = and_parts (is_space c) (list_all is_misc ms) h in and_from (is_space c) (is_prolog may (ms ++ zs)) w.0 (misc_first ms zs may w.1 k)
misc_first (Data (Reference body) ∷ ms) zs may h k = absurd cc
misc_first (Section cs ∷ ms) zs may h k = absurd cc
misc_first (Comment cs ∷ ms) zs may h k = misc_first ms zs may h k
misc_first (Instruction name cs ∷ ms) zs may h k = misc_first ms zs may h k
misc_first (Start empty name ws gap ∷ ms) zs may h k = absurd cc
misc_first (Close name gap ∷ ms) zs may h k = absurd cc
misc_first (Doctype gap name ext after ∷ ms) zs may h k = absurd cc

misc_alone : (ms : List Token) (may : Bool) → list_all is_misc ms ≡ true → is_prolog may ms ≡ true
misc_alone ms may h = ap (λ (xs : List Token). is_prolog may xs) (sym (append-nil ms)) ∙ misc_first ms [] may h refl

pub misc_prolog : (bytes : List ℕ) → SpellsMisc bytes → SpellsProlog bytes
misc_prolog bytes s = (s.0, s.1, misc_alone s.0 true s.2)

pub doctype : (before behind gap name after : List ℕ) (ext : External) → SpellsMisc before → IsTrue (is_token (Doctype gap name ext after)) → IsTrue (list_all is_plain (spelled (Doctype gap name ext after))) → SpellsMisc behind
    → SpellsProlog (before ++ (encode_utf8_all (spelled (Doctype gap name ext after)) ++ behind))
doctype before behind gap name after ext p is plain q =
    let t = Doctype gap name ext after in
    let inner = token_join t behind q.0 is plain refl refl q.1 in
    let bytes = encode_utf8_all (spelled t) in
    let both_parts = together bytes behind (plain_encoded (spelled t) plain) q.1.encoded in
    let tag = both_parts.chars_are ∙ ap (λ (x : List ℕ). x ++ chars behind) (plain_same (spelled t) plain) in
    (p.0 ++ t ∷ q.0, join_markup before (bytes ++ behind) p.0 (t ∷ q.0) p.1 inner (60, _, tag, inl refl), misc_first p.0 (t ∷ q.0) true p.2 (misc_alone q.0 false q.2))

-- an element is a document
pub element_alone : (bytes : List ℕ) (t : Tree Kind) → SpellsElement bytes t → SpellsDocument bytes t
element_alone bytes t s = subst (λ (x : List ℕ). SpellsDocument x t) (append-nil bytes) (document None [] bytes [] t refl refl (misc_prolog [] no_misc) s no_misc)
