-- The productions of XML 1.0 from the whole to its parts: what stands in bytes that spell one.
use Rattle.std.specs.Prelude.{ℕ, ◌≡◌, ◌≢◌, List, [], ◌∷◌, ◌++◌, Bool, true, false, ◌||◌, IsTrue, Option, ◌⊎◌, codes, map}
use Rattle.std.specs.List.{flat_map, list_all}
use Rattle.std.specs.Str.{encode_utf8_all, chars}
use Rattle.mm_tree.specs.declared.Kind.{Kind}
use Rattle.mm_tree.specs.declared.Kind.TheVariants.{Element, Words}
use Rattle.mm_tree.specs.Trees.{Trees, none, node, Tree}
use Rattle.mm_tree.specs.Validity.{are_chars}
use Rattle.mm_tree.specs.Characters.{is_space, is_name, is_short_name}
use Rattle.mm_xml.specs.Letters.{is_free, is_gap, referred}
use Rattle.mm_xml.specs.Syntax.{Reference, is_literal, is_some, not_semicolon, is_rest, is_reserved, is_quote, is_within, spelled_part, Written, is_written, spelled_written, attribute_of, differ, External, is_external, spelled_external, ending, Token, Data, Section, Comment, Instruction, Start, Close, Doctype, is_token, spelled, Declaration}
use Rattle.mm_xml.specs.Grammar.{spelled_first}
use Rattle.mm_xml.specs.Productions.{with_line_feeds, characters_of, SpellsRun, ends_run, ends_markup, ends_text, SpellsContent, behind_text, SpellsElement, is_misc, SpellsMisc, SpellsProlog, is_first, is_marked}

-- ---- characters and tokens

-- the bytes are UTF-8 of Chars, which once their line ends are turned are these characters
pub record SpellsCharacters (bytes : List ℕ) (cs : List ℕ) : Type 0 where
  pub encoded : IsTrue (are_chars bytes)
  pub spelled_so : with_line_feeds bytes ≡ cs

-- the bytes spell one token: a tag, a reference, a section, a comment, an instruction, a document type or a character
pub record SpellsToken (bytes : List ℕ) (t : Token) : Type 0 where
  pub is : IsTrue (is_token t)
  pub characters : SpellsCharacters bytes (spelled t)

-- ---- document

-- a byte order mark, or nothing
abbrev pub IsMark : List ℕ → Type 0
IsMark mark = (mark ≡ []) ⊎ (mark ≡ encode_utf8_all (65279 ∷ []))

-- an XMLDecl (23), or nothing
abbrev pub SpellsFirst : List ℕ → Type 0
SpellsFirst bytes = (first : Option Declaration) × SpellsCharacters bytes (spelled_first first) × IsTrue (is_first first)

-- document (1): a mark or none, an XMLDecl or none, Misc with or without a doctypedecl, an element, and Misc
pub record DocumentParts (bytes : List ℕ) (t : Tree Kind) : Type 0 where
  pub mark : List ℕ
  pub first : List ℕ
  pub before : List ℕ
  pub element : List ℕ
  pub behind : List ℕ
  pub are_all : bytes ≡ mark ++ (first ++ (before ++ (element ++ behind)))
  pub mark_is : IsMark mark
  pub first_is : SpellsFirst first
  pub before_is : SpellsProlog before
  pub element_is : SpellsElement element t
  pub behind_is : SpellsMisc behind

-- prolog (22) with a doctypedecl: Misc, the doctypedecl, and Misc
pub record DoctypeParts (bytes : List ℕ) : Type 0 where
  pub before : List ℕ
  pub declared : List ℕ
  pub behind : List ℕ
  pub gap : List ℕ
  pub name : List ℕ
  pub external : External
  pub after : List ℕ
  pub are_all : bytes ≡ before ++ (declared ++ behind)
  pub before_is : SpellsMisc before
  pub declared_is : SpellsToken declared (Doctype gap name external after)
  pub behind_is : SpellsMisc behind

-- prolog (22) without its XML declaration
abbrev pub PrologParts : List ℕ → Type 0
PrologParts bytes = SpellsMisc bytes ⊎ DoctypeParts bytes

-- Misc (27): white space, a comment or an instruction, and more Misc
pub record MoreMisc (bytes : List ℕ) : Type 0 where
  pub first : List ℕ
  pub rest : List ℕ
  pub token : Token
  pub are_all : bytes ≡ first ++ rest
  pub first_is : SpellsToken first token
  pub is_one : IsTrue (is_misc token)
  pub rest_is : SpellsMisc rest

abbrev pub MiscParts : List ℕ → Type 0
MiscParts bytes = (bytes ≡ []) ⊎ MoreMisc bytes

-- ---- element

-- EmptyElemTag (44)
pub record EmptyParts (bytes : List ℕ) (t : Tree Kind) : Type 0 where
  pub name : List ℕ
  pub attributes : List Written
  pub gap : List ℕ
  pub tag : SpellsToken bytes (Start true name attributes gap)
  pub tree_is : t ≡ (Element (encode_utf8_all name) (map attribute_of attributes), none)

-- STag (40), content (43) and ETag (42), both tags with one name
pub record TagParts (bytes : List ℕ) (t : Tree Kind) : Type 0 where
  pub opening : List ℕ
  pub content : List ℕ
  pub closing : List ℕ
  pub name : List ℕ
  pub attributes : List Written
  pub gap : List ℕ
  pub close_gap : List ℕ
  pub children : Trees Kind
  pub are_all : bytes ≡ opening ++ (content ++ closing)
  pub opening_is : SpellsToken opening (Start false name attributes gap)
  pub content_is : SpellsContent content children
  pub closing_is : SpellsToken closing (Close name close_gap)
  pub tree_is : t ≡ (Element (encode_utf8_all name) (map attribute_of attributes), children)

-- element (39)
abbrev pub ElementParts : List ℕ → Tree Kind → Type 0
ElementParts bytes t = EmptyParts bytes t ⊎ TagParts bytes t

-- ---- content

-- an element comes first
pub record ElementFirst (bytes : List ℕ) (children : Trees Kind) : Type 0 where
  pub element : List ℕ
  pub rest : List ℕ
  pub first : Tree Kind
  pub others : Trees Kind
  pub are_all : bytes ≡ element ++ rest
  pub element_is : SpellsElement element first
  pub rest_is : SpellsContent rest others
  pub children_are : children ≡ node first.0 first.1 others

-- a text comes first, up to the end or the next tag
pub record TextFirst (bytes : List ℕ) (children : Trees Kind) : Type 0 where
  pub run : List ℕ
  pub rest : List ℕ
  pub text : List ℕ
  pub others : Trees Kind
  pub are_all : bytes ≡ run ++ rest
  pub is_there : run ≢ []
  pub run_is : SpellsRun run text
  pub ends : IsTrue (ends_text (chars rest))
  pub rest_is : SpellsContent rest others
  pub children_are : children ≡ behind_text text others

-- content (43): nothing, or an element or a text, and then content
abbrev pub ContentParts : List ℕ → Trees Kind → Type 0
ContentParts bytes children = ((bytes ≡ []) × (children ≡ none)) ⊎ ElementFirst bytes children ⊎ TextFirst bytes children

-- ---- text

-- CharData (14): neither `<` nor `&`, and `]]>` nowhere
pub record SpellsCharData (bytes : List ℕ) (text : List ℕ) : Type 0 where
  pub characters : SpellsCharacters bytes text
  pub each : IsTrue (list_all is_literal text)
  pub free : IsTrue (is_free (codes "]]>") text)

-- Reference (67), CDSect (18), Comment (15) or PI (16)
abbrev pub is_markup : Token → Bool
is_markup (Data (Reference body)) = true
is_markup (Section cs) = true
is_markup (Comment cs) = true
is_markup (Instruction name cs) = true
is_markup t = false

-- one of these, and the characters that it adds to the text
abbrev pub SpellsMarkup : List ℕ → List ℕ → Type 0
SpellsMarkup bytes text = (t : Token) × IsTrue (is_markup t) × SpellsToken bytes t × (text ≡ characters_of t)

-- character data as far as it goes, or a piece of markup, and then a text
pub record MoreText (bytes : List ℕ) (text : List ℕ) : Type 0 where
  pub first : List ℕ
  pub rest : List ℕ
  pub own : List ℕ
  pub more : List ℕ
  pub are_all : bytes ≡ first ++ rest
  pub is_there : first ≢ []
  pub first_is : SpellsCharData first own ⊎ SpellsMarkup first own
  pub rest_is : SpellsRun rest more
  pub apart : IsTrue (ends_run (chars rest) || ends_markup (with_line_feeds first))
  pub text_is : text ≡ own ++ more

abbrev pub RunParts : List ℕ → List ℕ → Type 0
RunParts bytes text = ((bytes ≡ []) × (text ≡ [])) ⊎ MoreText bytes text

-- the text form: a mark or none, and a text that isn't blank; without a mark of its own the text begins with none
pub record TextParts (bytes : List ℕ) (t : Tree Kind) : Type 0 where
  pub mark : List ℕ
  pub run : List ℕ
  pub text : List ℕ
  pub are_all : bytes ≡ mark ++ run
  pub mark_is : IsMark mark
  pub unmarked : mark ≡ [] → is_marked (chars run) ≡ false
  pub run_is : SpellsRun run text
  pub ink : list_all is_space text ≡ false
  pub tree_is : t ≡ (Words (encode_utf8_all text), none)

-- ---- references, sections, comments and instructions

-- Reference (67): `&`, what names a character, and `;`
pub record ReferenceParts (bytes : List ℕ) (body : List ℕ) : Type 0 where
  pub inner : List ℕ
  pub are_all : bytes ≡ codes "&" ++ (inner ++ codes ";")
  pub inner_is : SpellsCharacters inner body
  pub free : IsTrue (list_all not_semicolon body)
  pub refers : IsTrue (is_some (referred body))

-- CDSect (18): `<![CDATA[`, Chars without `]]>`, and `]]>`
pub record SectionParts (bytes : List ℕ) (cs : List ℕ) : Type 0 where
  pub inner : List ℕ
  pub are_all : bytes ≡ codes "<![CDATA[" ++ (inner ++ codes "]]>")
  pub inner_is : SpellsCharacters inner cs
  pub free : IsTrue (is_free (codes "]]>") cs)

-- Comment (15): `<!--`, Chars without `--`, and `-->`
pub record CommentParts (bytes : List ℕ) (cs : List ℕ) : Type 0 where
  pub inner : List ℕ
  pub are_all : bytes ≡ codes "<!--" ++ (inner ++ codes "-->")
  pub inner_is : SpellsCharacters inner cs
  pub free : IsTrue (is_free (codes "--") cs)

-- PI (16): `<?`, a name but `xml`, nothing or white space and Chars without `?>`, and `?>`
pub record InstructionParts (bytes : List ℕ) (name cs : List ℕ) : Type 0 where
  pub target : List ℕ
  pub inner : List ℕ
  pub are_all : bytes ≡ codes "<?" ++ (target ++ (inner ++ codes "?>"))
  pub target_is : SpellsCharacters target name
  pub named_so : IsTrue (is_name name)
  pub unreserved : is_reserved name ≡ false
  pub inner_is : SpellsCharacters inner cs
  pub spaced : IsTrue (is_rest cs)
  pub free : IsTrue (is_free (codes "?>") cs)

-- ---- tags and attributes

-- attributes, one behind the other
pub record SpellsAttributes (bytes : List ℕ) (attributes : List Written) : Type 0 where
  pub each : IsTrue (list_all is_written attributes)
  pub characters : SpellsCharacters bytes (flat_map spelled_written attributes)

-- STag (40) or EmptyElemTag (44): `<`, a name, attributes of different names, white space or none, and `>` or `/>`
pub record StartParts (bytes : List ℕ) (empty : Bool) (name : List ℕ) (attributes : List Written) (gap : List ℕ) : Type 0 where
  pub own : List ℕ
  pub list : List ℕ
  pub space : List ℕ
  pub are_all : bytes ≡ codes "<" ++ (own ++ (list ++ (space ++ ending empty)))
  pub own_is : SpellsCharacters own name
  pub named_so : IsTrue (is_short_name name)
  pub list_is : SpellsAttributes list attributes
  pub all_differ : IsTrue (differ (map attribute_of attributes))
  pub space_is : SpellsCharacters space gap
  pub blank : IsTrue (list_all is_space gap)

-- ETag (42): `</`, a name, white space or none, and `>`
pub record EndParts (bytes : List ℕ) (name gap : List ℕ) : Type 0 where
  pub own : List ℕ
  pub space : List ℕ
  pub are_all : bytes ≡ codes "</" ++ (own ++ (space ++ codes ">"))
  pub own_is : SpellsCharacters own name
  pub named_so : IsTrue (is_short_name name)
  pub space_is : SpellsCharacters space gap
  pub blank : IsTrue (list_all is_space gap)

-- an attribute, and those behind it
pub record MoreAttributes (bytes : List ℕ) (first : Written) (others : List Written) : Type 0 where
  pub left : List ℕ
  pub right : List ℕ
  pub are_all : bytes ≡ left ++ right
  pub first_is : SpellsCharacters left (spelled_written first)
  pub is_one : IsTrue (is_written first)
  pub others_are : SpellsAttributes right others

-- Attribute (41) behind its white space: a name, `=` with or without white space on both sides, a quote, the value, and the quote
pub record AttributeParts (bytes : List ℕ) (a : Written) : Type 0 where
  pub space : List ℕ
  pub own : List ℕ
  pub before : List ℕ
  pub after : List ℕ
  pub value : List ℕ
  pub are_all : bytes ≡ space ++ (own ++ (before ++ (codes "=" ++ (after ++ (a.quote ∷ (value ++ a.quote ∷ []))))))
  pub space_is : SpellsCharacters space a.gap
  pub spaced : IsTrue (is_gap a.gap)
  pub own_is : SpellsCharacters own a.name
  pub named_so : IsTrue (is_short_name a.name)
  pub before_is : SpellsCharacters before a.before
  pub blank_before : IsTrue (list_all is_space a.before)
  pub after_is : SpellsCharacters after a.after
  pub blank_after : IsTrue (list_all is_space a.after)
  pub quoted : IsTrue (is_quote a.quote)
  pub value_is : SpellsCharacters value (flat_map spelled_part a.parts)
  pub each : IsTrue (list_all (is_within a.quote) a.parts)

-- doctypedecl (28) without an internal subset: `<!DOCTYPE`, white space, a name, an ExternalID or none, white space or none, and `>`
pub record TypeParts (bytes : List ℕ) (gap name : List ℕ) (external : External) (after : List ℕ) : Type 0 where
  pub space : List ℕ
  pub own : List ℕ
  pub outer : List ℕ
  pub last : List ℕ
  pub are_all : bytes ≡ codes "<!DOCTYPE" ++ (space ++ (own ++ (outer ++ (last ++ codes ">"))))
  pub space_is : SpellsCharacters space gap
  pub spaced : IsTrue (is_gap gap)
  pub own_is : SpellsCharacters own name
  pub named_so : IsTrue (is_name name)
  pub outer_is : SpellsCharacters outer (spelled_external external)
  pub well_formed : IsTrue (is_external external)
  pub last_is : SpellsCharacters last after
  pub blank : IsTrue (list_all is_space after)
