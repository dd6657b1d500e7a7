-- The text of trees: one line without a line end.
use Rattle.std.specs.Prelude.{ℕ, ◌≡◌, refl, Bool, true, false, ◌&&◌, List, [], ◌∷◌, ◌++◌, ◌==◌, if◌then◌else◌, codes}
use Rattle.std.specs.List.{flat_map}
use Rattle.std.specs.Str.{chars}
use Rattle.mm_tree.specs.declared.Attribute.{Attribute}
use Rattle.mm_tree.specs.declared.Kind.{Kind}
use Rattle.mm_tree.specs.declared.Kind.TheVariants.{Element, Words}
use Rattle.mm_tree.specs.Trees.{Trees, none, node, has_some}
use Rattle.mm_tree.specs.Numbering.{Labelled}
use Rattle.mm_xml.specs.Productions.{is_marked}

-- ---- characters, of which those that are written as references have one byte

-- a byte of a text
abbrev pub text_byte : ℕ → List ℕ
text_byte b =
    if b == 38 then codes "&amp;"
    else (if b == 60 then codes "&lt;"
    else (if b == 62 then codes "&gt;"
    else (if b == 10 then codes "&#10;"
    else (if b == 13 then codes "&#13;" else b ∷ []))))

-- a byte of a value in double quotes
abbrev pub value_byte : ℕ → List ℕ
value_byte b =
    if b == 38 then codes "&amp;"
    else (if b == 60 then codes "&lt;"
    else (if b == 34 then codes "&quot;"
    else (if b == 9 then codes "&#9;"
    else (if b == 10 then codes "&#10;"
    else (if b == 13 then codes "&#13;" else b ∷ [])))))

-- ---- nodes

-- ` name="value"`
abbrev pub written_attribute : Attribute → List ℕ
written_attribute a = 32 ∷ (a.name ++ (61 ∷ 34 ∷ (flat_map value_byte a.value ++ 34 ∷ [])))

-- `<name` and the attributes in their order
abbrev pub tag_front : List ℕ → List Attribute → List ℕ
tag_front name attributes = 60 ∷ (name ++ flat_map written_attribute attributes)

-- `</name>`
abbrev pub end_tag : List ℕ → List ℕ
end_tag name = 60 ∷ 47 ∷ (name ++ 62 ∷ [])

-- a node, of which it is told whether it has children, and what is written of them
abbrev pub written_node : Kind → Bool → List ℕ → List ℕ
written_node (Words text) has_children inner = flat_map text_byte text
written_node (Element name attributes) false inner = tag_front name attributes ++ (47 ∷ 62 ∷ [])
written_node (Element name attributes) true inner = tag_front name attributes ++ (62 ∷ (inner ++ end_tag name))

-- trees, one behind the other
abbrev pub written : Trees Kind → List ℕ
written none = []
written (node kind inner rest) = written_node kind (has_some inner) (written inner) ++ written rest

-- ---- labelled trees

abbrev pub without_labels : Trees Labelled → Trees Kind
without_labels none = none
without_labels (node e inner rest) = node e.kind (without_labels inner) (without_labels rest)

-- ---- what is read back

-- a text doesn't come first
abbrev pub no_text : Trees Kind → Bool
no_text none = true
no_text (node (Words text) inner rest) = false
no_text (node (Element name attributes) inner rest) = true

-- no two texts are neighbours
abbrev pub are_apart : Trees Kind → Bool
are_apart none = true
are_apart (node (Words text) inner rest) = no_text rest && (are_apart inner && are_apart rest)
are_apart (node (Element name attributes) inner rest) = are_apart inner && are_apart rest

-- a text that begins with a byte order mark, which a reader would drop
abbrev pub is_marked_text : Kind → Bool
is_marked_text (Words text) = is_marked (chars text)
is_marked_text (Element name attributes) = false

-- ---- worked examples

a_leaf : written (node (Element (codes "a") []) none none) ≡ codes "<a/>"
a_leaf = refl

an_element : written (node (Element (codes "a") []) (node (Words (codes "b<c>\"&d")) none none) none) ≡ codes "<a>b&lt;c&gt;\"&amp;d</a>"
an_element = refl

with_attribute : written (node (Element (codes "a") (record { name = codes "b"; value = codes "<c>\"&d" } ∷ [])) none none) ≡ codes "<a b=\"&lt;c>&quot;&amp;d\"/>"
with_attribute = refl
