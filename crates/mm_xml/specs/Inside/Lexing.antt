-- Reading syntax from left to right.
use Rattle.std.specs.Prelude.{ℕ, zero, suc, List, [], ◌∷◌, length, take, drop, Bool, true, false, ◌&&◌, not, ◌==◌, Option, Some, None, if◌then◌else◌, map}
use Rattle.std.specs.List.{list_all, prefix_len}
use Rattle.mm_tree.specs.Characters.{is_char, is_space, is_name, is_short_name, is_name_char, is_name_start}
use Rattle.mm_xml.specs.Letters.{is_gap, referred, starts}
use Rattle.mm_xml.specs.Syntax.{Part, Literal, Reference, is_literal, not_semicolon, is_some, Written, is_quote, attribute_of, differ, Token, Data, Section, Comment, Instruction, Start, Close, Doctype, Quoted, External, Nowhere, System, Public, is_public, is_rest, is_reserved}

infixl 10 ◌>>=◌
abbrev pub ◌>>=◌ : {A B : Type 0} → Option A → (A → Option B) → Option B
None >>= f = None
(Some x) >>= f = f x

-- something, and the characters after it
abbrev pub Found : Type 0 → Type 0
Found A = Option (A × List ℕ)

-- the characters at the front that pass, and those after them
abbrev pub span : (ℕ → Bool) → List ℕ → List ℕ × List ℕ
span p cs = (take (prefix_len p cs) cs, drop (prefix_len p cs) cs)

-- what stands before the first place of the pattern, and what stands after it
abbrev pub up_to : List ℕ → List ℕ → Found (List ℕ)
up_to pat [] = None
up_to pat (c ∷ cs) = if starts pat (c ∷ cs) then Some ([], drop (length pat) (c ∷ cs)) else (up_to pat cs >>= λ x. Some (c ∷ x.0, x.1))

-- what comes after this character
abbrev pub after : ℕ → List ℕ → Option (List ℕ)
after p [] = None
after p (c ∷ cs) = if c == p then Some cs else None

-- what comes after `&`
unfoldable pub reference_at : List ℕ → Found Part
reference_at cs =
    if is_some (referred (span not_semicolon cs).0) then (after 59 (span not_semicolon cs).1 >>= λ r. Some (Reference (span not_semicolon cs).0, r)) else None

unfoldable pub part_at : List ℕ → Found Part
part_at [] = None
part_at (c ∷ cs) = if c == 38 then reference_at cs else (if is_literal c then Some (Literal c, cs) else None)

-- the parts up to the quote, and what comes after it
abbrev pub parts_at : ℕ → ℕ → List ℕ → Found (List Part)
parts_at n quote [] = None
parts_at zero quote (c ∷ cs) = None
parts_at (suc n) quote (c ∷ cs) = if c == quote then Some ([], cs) else (part_at (c ∷ cs) >>= λ x. parts_at n quote x.1 >>= λ y. Some (x.0 ∷ y.0, y.1))

-- from the quote on
unfoldable pub value_at : List ℕ → Found (ℕ × List Part)
value_at [] = None
value_at (q ∷ cs) = if is_quote q then (parts_at (length cs) q cs >>= λ x. Some ((q, x.0), x.1)) else None

-- from the name on, after the spaces of gap
unfoldable pub written_at : List ℕ → List ℕ → Found Written
written_at gap cs =
    if is_short_name (span is_name_char cs).0 then
    (after 61 (span is_space (span is_name_char cs).1).1 >>= λ r. value_at (span is_space r).1 >>= λ v.
    Some (record { gap = gap; name = (span is_name_char cs).0; before = (span is_space (span is_name_char cs).1).0; after = (span is_space r).0; quote = v.0.0; parts = v.0.1 }, v.1))
    else None

-- where a start tag ends
abbrev pub ending_at : List ℕ → Found Bool
ending_at [] = None
ending_at (c ∷ cs) = if c == 62 then Some (false, cs) else (if c == 47 then (after 62 cs >>= λ r. Some (true, r)) else None)

abbrev pub starts_name : List ℕ → Bool
starts_name [] = false
starts_name (c ∷ cs) = is_name_start c

-- the attributes at the front
abbrev pub attributes_at : ℕ → List ℕ → Found (List Written)
attributes_at zero cs = Some ([], cs)
attributes_at (suc n) cs =
    if starts_name (span is_space cs).1 then
    (if is_gap (span is_space cs).0 then (written_at (span is_space cs).0 (span is_space cs).1 >>= λ w. attributes_at n w.1 >>= λ y. Some (w.0 ∷ y.0, y.1)) else None)
    else Some ([], cs)

-- the rest of a start tag, once its name and its attributes are read
abbrev pub start_end_at : List ℕ → List Written → List ℕ → Found Token
start_end_at name attributes cs =
    if differ (map attribute_of attributes) then (ending_at (span is_space cs).1 >>= λ x. Some (Start x.0 name attributes (span is_space cs).0, x.1)) else None

-- from the name on
unfoldable pub start_at : List ℕ → Found Token
start_at cs =
    if is_short_name (span is_name_char cs).0 then
    (attributes_at (length (span is_name_char cs).1) (span is_name_char cs).1 >>= λ y. start_end_at (span is_name_char cs).0 y.0 y.1)
    else None

unfoldable pub close_at : List ℕ → Found Token
close_at cs =
    if is_short_name (span is_name_char cs).0 then
    (after 62 (span is_space (span is_name_char cs).1).1 >>= λ r. Some (Close (span is_name_char cs).0 (span is_space (span is_name_char cs).1).0, r))
    else None

-- what comes after `<!--`
unfoldable pub comment_at : List ℕ → Found Token
comment_at cs = up_to (45 ∷ 45 ∷ []) cs >>= λ x. if list_all is_char x.0 then (after 62 x.1 >>= λ r. Some (Comment x.0, r)) else None

-- what comes after `<![CDATA[`
unfoldable pub section_at : List ℕ → Found Token
section_at cs = up_to (93 ∷ 93 ∷ 62 ∷ []) cs >>= λ x. if list_all is_char x.0 then Some (Section x.0, x.1) else None

-- what comes after `<?`
unfoldable pub instruction_at : List ℕ → Found Token
instruction_at cs =
    if is_name (span is_name_char cs).0 && not (is_reserved (span is_name_char cs).0) then
    (up_to (63 ∷ 62 ∷ []) (span is_name_char cs).1 >>= λ x. if is_rest x.0 then Some (Instruction (span is_name_char cs).0 x.0, x.1) else None)
    else None

-- ---- the document type declaration

abbrev pub quoted_char : (ℕ → Bool) → ℕ → ℕ → Bool
quoted_char p q c = p c && not (c == q)

-- quoted text, of characters that pass
abbrev pub quoted_at : (ℕ → Bool) → List ℕ → Found Quoted
quoted_at p [] = None
quoted_at p (q ∷ cs) = if is_quote q then (after q (span (quoted_char p q) cs).1 >>= λ r. Some (record { quote = q; text = (span (quoted_char p q) cs).0 }, r)) else None

-- white space, which is more than none, and quoted text
abbrev pub spaced_quoted_at : (ℕ → Bool) → List ℕ → Found (List ℕ × Quoted)
spaced_quoted_at p cs = if is_gap (span is_space cs).0 then (quoted_at p (span is_space cs).1 >>= λ q. Some (((span is_space cs).0, q.0), q.1)) else None

abbrev pub system_word : List ℕ
system_word = 83 ∷ 89 ∷ 83 ∷ 84 ∷ 69 ∷ 77 ∷ []

abbrev pub public_word : List ℕ
public_word = 80 ∷ 85 ∷ 66 ∷ 76 ∷ 73 ∷ 67 ∷ []

-- what comes after `SYSTEM`, and after `PUBLIC`, which stand behind this white space
abbrev pub system_at : List ℕ → List ℕ → Found External
system_at gap cs = spaced_quoted_at is_char cs >>= λ x. Some (System gap x.0.0 x.0.1, x.1)

abbrev pub public_at : List ℕ → List ℕ → Found External
public_at gap cs = spaced_quoted_at is_public cs >>= λ x. spaced_quoted_at is_char x.1 >>= λ y. Some (Public gap x.0.0 x.0.1 y.0.0 y.0.1, y.1)

-- an external identifier, where one stands behind white space
unfoldable pub external_at : List ℕ → Found External
external_at cs =
    if starts system_word (span is_space cs).1 then (if is_gap (span is_space cs).0 then system_at (span is_space cs).0 (drop 6 (span is_space cs).1) else None)
    else (if starts public_word (span is_space cs).1 then (if is_gap (span is_space cs).0 then public_at (span is_space cs).0 (drop 6 (span is_space cs).1) else None)
    else Some (Nowhere, cs))

-- what comes after the name of the document type
abbrev pub doctype_end_at : List ℕ → List ℕ → List ℕ → Found Token
doctype_end_at gap name cs = external_at cs >>= λ e. after 62 (span is_space e.1).1 >>= λ r. Some (Doctype gap name e.0 (span is_space e.1).0, r)

-- what comes after `<!DOCTYPE`
unfoldable pub doctype_at : List ℕ → Found Token
doctype_at cs =
    if is_gap (span is_space cs).0 then
    (if is_name (span is_name_char (span is_space cs).1).0 then doctype_end_at (span is_space cs).0 (span is_name_char (span is_space cs).1).0 (span is_name_char (span is_space cs).1).1 else None)
    else None

abbrev pub two_dashes : List ℕ
two_dashes = 45 ∷ 45 ∷ []

abbrev pub section_start : List ℕ
section_start = 91 ∷ 67 ∷ 68 ∷ 65 ∷ 84 ∷ 65 ∷ 91 ∷ []

abbrev pub doctype_start : List ℕ
doctype_start = 68 ∷ 79 ∷ 67 ∷ 84 ∷ 89 ∷ 80 ∷ 69 ∷ []

-- what comes after `<!`
unfoldable pub marked_at : List ℕ → Found Token
marked_at cs = if starts two_dashes cs then comment_at (drop 2 cs) else (if starts section_start cs then section_at (drop 7 cs) else (if starts doctype_start cs then doctype_at (drop 7 cs) else None))

-- what comes after `<`
unfoldable pub markup_at : List ℕ → Found Token
markup_at [] = None
markup_at (c ∷ cs) = if c == 47 then close_at cs else (if c == 33 then marked_at cs else (if c == 63 then instruction_at cs else start_at (c ∷ cs)))

-- a token of content at the front, and the characters after it
unfoldable pub token_at : List ℕ → Found Token
token_at [] = None
token_at (c ∷ cs) = if c == 60 then markup_at cs else (part_at (c ∷ cs) >>= λ x. Some (Data x.0, x.1))

-- what comes after Eq
abbrev pub equals_at : List ℕ → Option (List ℕ)
equals_at cs = after 61 (span is_space cs).1 >>= λ r. Some (span is_space r).1
