-- What tokens mean, and which bytes spell which tree.
use Rattle.std.specs.Prelude.{ℕ, zero, suc, ◌≡◌, ◌+◌, ◌-◌, List, [], ◌∷◌, ◌++◌, Bool, true, false, ◌&&◌, ◌||◌, not, ◌==◌, nat_le, IsTrue, Option, Some, None, if◌then◌else◌, map}
use Rattle.std.specs.List.{flat_map, list_all}
use Rattle.std.specs.Str.{encode_utf8_all, chars}
use Rattle.mm_tree.specs.declared.Kind.{Kind}
use Rattle.mm_tree.specs.declared.Kind.TheVariants.{Element, Words}
use Rattle.mm_tree.specs.Trees.{Trees, none, node, Tree, one}
use Rattle.mm_tree.specs.Validity.{are_chars}
use Rattle.mm_tree.specs.Characters.{is_space}
use Rattle.mm_xml.specs.Syntax.{Literal, Reference, Written, meant, attribute_of, Token, Data, Section, Comment, Instruction, Start, Close, Doctype, is_token, spelled, Declaration, is_declaration, spelled_declaration}

-- where a node begins and where it ends
pub data Bracket : Type 0 where
  Begin : Kind → Bracket
  End : List ℕ → Bracket

-- the name in a node's end tag; a text has none
abbrev pub end_name : Kind → List ℕ
end_name (Element name attributes) = name
end_name (Words text) = []

-- a run of characters is a text, unless it is white space alone
abbrev pub text_brackets : List ℕ → List Bracket
text_brackets run = if list_all is_space run then [] else Begin (Words (encode_utf8_all run)) ∷ End [] ∷ []

-- a start tag begins an element, and an empty tag ends it too
abbrev pub start_brackets : Bool → List ℕ → List Written → List Bracket
start_brackets empty name attributes = Begin (Element (encode_utf8_all name) (map attribute_of attributes)) ∷ (if empty then End (encode_utf8_all name) ∷ [] else [])

-- what the tokens say, after the characters of run
abbrev pub brackets : List ℕ → List Token → List Bracket
brackets run [] = text_brackets run
brackets run (Data p ∷ ts) = brackets (run ++ meant p) ts
brackets run (Section cs ∷ ts) = brackets (run ++ cs) ts
brackets run (Comment cs ∷ ts) = brackets run ts
brackets run (Instruction name cs ∷ ts) = brackets run ts
brackets run (Start empty name attributes gap ∷ ts) = text_brackets run ++ (start_brackets empty name attributes ++ brackets [] ts)
brackets run (Close name gap ∷ ts) = text_brackets run ++ (End (encode_utf8_all name) ∷ brackets [] ts)
brackets run (Doctype gap name ext after ∷ ts) = brackets run ts

-- CharData (14): `]]>` stands in no unbroken run of character data; n brackets stand just before
abbrev pub unbroken : ℕ → List Token → Bool
unbroken n [] = true
unbroken n (Data (Literal c) ∷ ts) = if c == 93 then unbroken (n + 1) ts else not ((c == 62) && nat_le 2 n) && unbroken 0 ts
unbroken n (Data (Reference body) ∷ ts) = unbroken 0 ts
unbroken n (Section cs ∷ ts) = unbroken 0 ts
unbroken n (Comment cs ∷ ts) = unbroken 0 ts
unbroken n (Instruction name cs ∷ ts) = unbroken 0 ts
unbroken n (Start empty name attributes gap ∷ ts) = unbroken 0 ts
unbroken n (Close name gap ∷ ts) = unbroken 0 ts
unbroken n (Doctype gap name ext after ∷ ts) = unbroken 0 ts

-- some element is open
abbrev pub is_inside : ℕ → Bool
is_inside zero = false
is_inside (suc depth) = true

-- document (1), prolog (22), Misc (27): what may stand outside the element, and where a document type may stand
abbrev pub outside : Bool → ℕ → List Token → Bool
outside before depth [] = true
outside before depth (Data (Literal c) ∷ ts) = (is_inside depth || is_space c) && outside before depth ts
outside before depth (Data (Reference body) ∷ ts) = is_inside depth && outside before depth ts
outside before depth (Section cs ∷ ts) = is_inside depth && outside before depth ts
outside before depth (Comment cs ∷ ts) = outside before depth ts
outside before depth (Instruction name cs ∷ ts) = outside before depth ts
outside before depth (Start empty name attributes gap ∷ ts) = outside false (if empty then depth else depth + 1) ts
outside before depth (Close name gap ∷ ts) = outside false (depth - 1) ts
outside before depth (Doctype gap name ext after ∷ ts) = before && outside false depth ts

-- the tokens of the text form
abbrev pub is_textual : Token → Bool
is_textual (Data p) = true
is_textual (Section cs) = true
is_textual (Comment cs) = true
is_textual (Instruction name cs) = true
is_textual t = false

-- what trees say: each node's beginning, its children, and its end
abbrev pub bracketing : Trees Kind → List Bracket
bracketing none = []
bracketing (node kind inner rest) = Begin kind ∷ bracketing inner ++ End (end_name kind) ∷ bracketing rest

-- ---- the two forms

-- the characters of an XML declaration, where one stands first
abbrev pub spelled_first : Option Declaration → List ℕ
spelled_first None = []
spelled_first (Some d) = spelled_declaration d

-- the document form: document (1), with or without an XML declaration first
abbrev pub is_document : Option Declaration → List Token → Bool
is_document None tokens = outside true 0 tokens
is_document (Some d) tokens = is_declaration d && outside true 0 tokens

-- the text form, in which no declaration stands
abbrev pub is_text : Option Declaration → List Token → Bool
is_text None tokens = list_all is_textual tokens
is_text (Some d) tokens = false

-- the tokens are in one of the two forms
abbrev pub has_form : Option Declaration → List Token → Bool
has_form first tokens = is_document first tokens || is_text first tokens

-- the tokens of the characters, behind a declaration or not, say where the nodes of the tree begin and end
pub record SpelledBy (cs : List ℕ) (t : Tree Kind) (first : Option Declaration) (tokens : List Token) : Type 0 where
  pub each : IsTrue (list_all is_token tokens)
  pub spelled_so : cs ≡ spelled_first first ++ flat_map spelled tokens
  pub whole : IsTrue (unbroken 0 tokens)
  pub form : IsTrue (has_form first tokens)
  pub tree_is : brackets [] tokens ≡ bracketing (one t)

-- each carriage return, with the line feed after it, is a line feed
abbrev pub normal : Bool → List ℕ → List ℕ
normal after [] = []
normal after (c ∷ cs) = if c == 13 then 10 ∷ normal true cs else (if after && (c == 10) then normal false cs else c ∷ normal false cs)

-- without a byte order mark at the start
abbrev pub without_mark : List ℕ → List ℕ
without_mark [] = []
without_mark (c ∷ cs) = if c == 65279 then cs else c ∷ cs

-- the characters that the bytes stand for
abbrev pub characters : List ℕ → List ℕ
characters bytes = normal false (without_mark (chars bytes))

-- the bytes are UTF-8 and all characters are Chars, and the declaration and the tokens spell them
pub record SpellsBy (bytes : List ℕ) (t : Tree Kind) (first : Option Declaration) (tokens : List Token) : Type 0 where
  pub encoded : IsTrue (are_chars bytes)
  pub by : SpelledBy (characters bytes) t first tokens

-- the bytes spell the tree
abbrev pub Spells : List ℕ → Tree Kind → Type 0
Spells bytes t = (first : Option Declaration) × (tokens : List Token) × SpellsBy bytes t first tokens
