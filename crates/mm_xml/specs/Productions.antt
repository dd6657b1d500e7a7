-- Parts of a document, as the productions of XML 1.0 name them: which bytes spell which part.
use Rattle.std.specs.Prelude.{ℕ, zero, suc, ◌≡◌, List, [], ◌∷◌, Bool, true, false, ◌&&◌, ◌||◌, not, ◌==◌, IsTrue, Option, Some, None, if◌then◌else◌}
use Rattle.std.specs.List.{flat_map, list_all}
use Rattle.std.specs.Str.{encode_utf8_all, chars}
use Rattle.mm_tree.specs.declared.Kind.{Kind}
use Rattle.mm_tree.specs.declared.Kind.TheVariants.{Words}
use Rattle.mm_tree.specs.Trees.{Trees, none, node, Tree, one}
use Rattle.mm_tree.specs.Validity.{are_chars}
use Rattle.mm_tree.specs.Characters.{is_char, is_space}
use Rattle.mm_xml.specs.Syntax.{Literal, Reference, meant, Token, Data, Section, Comment, Instruction, Start, Close, Doctype, is_token, spelled, Declaration, is_declaration}
use Rattle.mm_xml.specs.Grammar.{brackets, bracketing, unbroken, is_inside, is_textual, is_document, is_text, normal, SpellsBy}

-- ---- characters and bytes

-- what stands in a document after its line ends are turned: Chars, of which none is a carriage return
abbrev pub is_plain : ℕ → Bool
is_plain c = is_char c && not (c == 13)

-- the characters of bytes within a document, where no byte order mark is dropped
abbrev pub with_line_feeds : List ℕ → List ℕ
with_line_feeds bytes = normal false (chars bytes)

-- the bytes are UTF-8 of Chars, the tokens spell them, and `]]>` stands in no run of character data
pub record PartBy (bytes : List ℕ) (tokens : List Token) : Type 0 where
  pub encoded : IsTrue (are_chars bytes)
  pub each : IsTrue (list_all is_token tokens)
  pub spelled_so : with_line_feeds bytes ≡ flat_map spelled tokens
  pub whole : IsTrue (unbroken 0 tokens)

-- ---- text

-- the characters that a token adds to the text it stands in
abbrev pub characters_of : Token → List ℕ
characters_of (Data p) = meant p
characters_of (Section cs) = cs
characters_of t = []

-- CharData (14), Reference (67), CDSect (18), Comment (15) and PI (16) in any mixture, and the text that they make together
abbrev pub SpellsRun : List ℕ → List ℕ → Type 0
SpellsRun bytes text = (tokens : List Token) × PartBy bytes tokens × IsTrue (list_all is_textual tokens) × (flat_map characters_of tokens ≡ text)

-- a run of character data doesn't go on there: the end, `<` or `&`
abbrev pub ends_run : List ℕ → Bool
ends_run [] = true
ends_run (c ∷ cs) = if c == 60 then true else c == 38

-- a run of character data doesn't go on behind it: `>` or `;` comes last
abbrev pub ends_markup : List ℕ → Bool
ends_markup [] = false
ends_markup (c ∷ []) = (c == 62) || (c == 59)
ends_markup (c ∷ d ∷ cs) = ends_markup (d ∷ cs)

-- no text goes on there: the end, or a tag
abbrev pub ends_text : List ℕ → Bool
ends_text [] = true
ends_text (c ∷ []) = false
ends_text (c ∷ d ∷ cs) = (c == 60) && (not (d == 33) && not (d == 63))

-- ---- content and elements

abbrev pub is_content : Token → Bool
is_content (Doctype gap name ext after) = false
is_content t = true

-- content (43): what may stand between STag and ETag, and the children that it makes
abbrev pub SpellsContent : List ℕ → Trees Kind → Type 0
SpellsContent bytes children = (tokens : List Token) × PartBy bytes tokens × IsTrue (list_all is_content tokens) × (brackets [] tokens ≡ bracketing children)

-- children behind a text, which makes a node unless it is blank
abbrev pub behind_text : List ℕ → Trees Kind → Trees Kind
behind_text text children = if list_all is_space text then children else node (Words (encode_utf8_all text)) none children

abbrev pub is_end : List Token → Bool
is_end [] = true
is_end (t ∷ ts) = false

-- one element fewer is open
abbrev pub fewer : ℕ → ℕ
fewer zero = zero
fewer (suc depth) = depth

-- so many elements are open, and the last token leaves none: it is a tag, and nothing comes after it
abbrev pub closes : ℕ → List Token → Bool
closes depth [] = false
closes depth (Data p ∷ ts) = is_inside depth && closes depth ts
closes depth (Section cs ∷ ts) = is_inside depth && closes depth ts
closes depth (Comment cs ∷ ts) = is_inside depth && closes depth ts
closes depth (Instruction name cs ∷ ts) = is_inside depth && closes depth ts
closes depth (Start empty name attributes gap ∷ ts) = if empty then (if is_inside depth then closes depth ts else is_end ts) else closes (suc depth) ts
closes depth (Close name gap ∷ ts) = is_inside depth && (if is_inside (fewer depth) then closes (fewer depth) ts else is_end ts)
closes depth (Doctype gap name ext after ∷ ts) = false

-- element (39): from its start tag to its end tag
abbrev pub SpellsElement : List ℕ → Tree Kind → Type 0
SpellsElement bytes t = (tokens : List Token) × PartBy bytes tokens × IsTrue (closes 0 tokens) × (brackets [] tokens ≡ bracketing (one t))

-- ---- what stands round the element

-- S (3), Comment (15) and PI (16)
abbrev pub is_misc : Token → Bool
is_misc (Data (Literal c)) = is_space c
is_misc (Comment cs) = true
is_misc (Instruction name cs) = true
is_misc t = false

-- Misc (27), any number
abbrev pub SpellsMisc : List ℕ → Type 0
SpellsMisc bytes = (tokens : List Token) × PartBy bytes tokens × IsTrue (list_all is_misc tokens)

-- Misc and at most one doctypedecl (28)
abbrev pub is_prolog : Bool → List Token → Bool
is_prolog may [] = true
is_prolog may (Data (Literal c) ∷ ts) = is_space c && is_prolog may ts
is_prolog may (Data (Reference body) ∷ ts) = false
is_prolog may (Section cs ∷ ts) = false
is_prolog may (Comment cs ∷ ts) = is_prolog may ts
is_prolog may (Instruction name cs ∷ ts) = is_prolog may ts
is_prolog may (Start empty name attributes gap ∷ ts) = false
is_prolog may (Close name gap ∷ ts) = false
is_prolog may (Doctype gap name ext after ∷ ts) = may && is_prolog false ts

-- prolog (22) without its XML declaration
abbrev pub SpellsProlog : List ℕ → Type 0
SpellsProlog bytes = (tokens : List Token) × PartBy bytes tokens × IsTrue (is_prolog true tokens)

-- an XMLDecl (23), or nothing
abbrev pub is_first : Option Declaration → Bool
is_first None = true
is_first (Some d) = is_declaration d

-- a byte order mark comes first
abbrev pub is_marked : List ℕ → Bool
is_marked [] = false
is_marked (c ∷ cs) = c == 65279

-- ---- the two forms

-- document (1)
abbrev pub SpellsDocument : List ℕ → Tree Kind → Type 0
SpellsDocument bytes t = (first : Option Declaration) × (tokens : List Token) × SpellsBy bytes t first tokens × IsTrue (is_document first tokens)

-- the text form
abbrev pub SpellsText : List ℕ → Tree Kind → Type 0
SpellsText bytes t = (first : Option Declaration) × (tokens : List Token) × SpellsBy bytes t first tokens × IsTrue (is_text first tokens)
