-- Searches by words: which nodes hold every word of a query, and the smallest lowest common ancestors.
-- SLCA: Xu and Papakonstantinou, "Efficient Keyword Search for Smallest LCAs in XML Databases", SIGMOD 2005.
use Rattle.std.specs.Prelude.{ℕ, ℤ, pos, Bool, true, false, ◌&&◌, ◌||◌, List, [], ◌∷◌, ◌++◌, ◌≡◌, flat_map, if◌then◌else◌, codes, refl, map}
use Rattle.std.specs.List.{list_any}
use Rattle.std.specs.Str.{bytes_eq}
use Rattle.mm_words.specs.Words.{text_words, name_words}
use Rattle.mm_tree.specs.declared.plain.Attribute.{Attribute}
use Rattle.mm_tree.specs.declared.plain.Kind.{Kind}
use Rattle.mm_tree.specs.declared.plain.Kind.TheVariants.{Element, Words}
use Rattle.mm_tree.specs.Trees.{Trees, none, node, each}
use Rattle.mm_tree.specs.Numbering.{Labelled}

abbrev pub attribute_words : Attribute → List (List ℕ)
attribute_words a = name_words a.name ++ text_words a.value

-- a node's own words: of an element those of its name, of its attributes' names and of their values; of a text its words
abbrev pub own : Kind → List (List ℕ)
own (Element name attributes) = name_words name ++ flat_map attribute_words attributes
own (Words text) = text_words text

-- a node as searches see it: its label and its own words
pub record Worded : Type 0 where
  pub label : List ℤ
  pub words : List (List ℕ)

abbrev pub worded_as : Labelled → Worded
worded_as e = record { label = e.label; words = own e.kind }

abbrev pub worded : Trees Labelled → Trees Worded
worded = each worded_as

-- the word is one of the node's own
abbrev pub has : Worded → List ℕ → Bool
has e w = list_any (bytes_eq w) e.words

-- the word is one of a node's in these trees
abbrev pub holds : List ℕ → Trees Worded → Bool
holds w none = false
holds w (node e inner rest) = has e w || (holds w inner || holds w rest)

-- a node with these children holds every word of the query, itself or below it
abbrev pub is_full : List (List ℕ) → Worded → Trees Worded → Bool
is_full [] e inner = true
is_full (w ∷ query) e inner = (has e w || holds w inner) && is_full query e inner

-- one of these siblings is full
abbrev pub some_full : List (List ℕ) → Trees Worded → Bool
some_full query none = false
some_full query (node e inner rest) = is_full query e inner || some_full query rest

-- for each word of the query, whether it is one of the node's own, or of a node's below it
abbrev pub held_by : List (List ℕ) → Worded → Trees Worded → List Bool
held_by query e inner = map (λ w. has e w || holds w inner) query

-- the full nodes none of whose children is full, in document order
abbrev pub slca : List (List ℕ) → Trees Worded → List (List ℤ)
slca query none = []
slca query (node e inner rest) =
    (if is_full query e inner then (if some_full query inner then slca query inner else e.label ∷ []) else []) ++ slca query rest

-- the keyword list of a word: the nodes whose own it is, in document order
abbrev pub list_of : List ℕ → Trees Worded → List (List ℤ)
list_of w none = []
list_of w (node e inner rest) = (if has e w then e.label ∷ [] else []) ++ (list_of w inner ++ list_of w rest)

-- the keyword lists of the words of a query
abbrev pub lists_of : List (List ℕ) → Trees Worded → List (List (List ℤ))
lists_of [] forest = []
lists_of (w ∷ query) forest = list_of w forest ∷ lists_of query forest

-- ---- a worked example: the bibliography of two books, each node with its label and words

label : List ℕ → List ℤ
label [] = []
label (n ∷ ns) = pos n ∷ label ns

at : List ℕ → List (List ℕ) → Worded
at l ws = record { label = label l; words = ws }

-- an element with a text in it, before its later siblings
abbrev titled : List ℕ → List ℕ → List (List ℕ) → List ℕ → Trees Worded → Trees Worded
titled l name ws inner_label rest = node (at l (name ∷ [])) (node (at inner_label ws) none none) rest

books : Trees Worded
books =
    node (at (1 ∷ []) (codes "bib" ∷ []))
    (node (at (1 ∷ 1 ∷ []) (codes "book" ∷ []))
    (titled (1 ∷ 1 ∷ 1 ∷ []) (codes "title") (codes "xml" ∷ codes "search" ∷ []) (1 ∷ 1 ∷ 1 ∷ 1 ∷ [])
    (titled (1 ∷ 1 ∷ 3 ∷ []) (codes "author") (codes "liu" ∷ []) (1 ∷ 1 ∷ 3 ∷ 1 ∷ []) none))
    (node (at (1 ∷ 3 ∷ []) (codes "book" ∷ []))
    (titled (1 ∷ 3 ∷ 1 ∷ []) (codes "title") (codes "keyword" ∷ codes "search" ∷ []) (1 ∷ 3 ∷ 1 ∷ 1 ∷ [])
    (titled (1 ∷ 3 ∷ 3 ∷ []) (codes "author") (codes "chen" ∷ []) (1 ∷ 3 ∷ 3 ∷ 1 ∷ []) none))
    none))
    none

search_liu : slca (codes "search" ∷ codes "liu" ∷ []) books ≡ label (1 ∷ 1 ∷ []) ∷ []
unfolding books label at
search_liu = refl

search_alone : slca (codes "search" ∷ []) books ≡ label (1 ∷ 1 ∷ 1 ∷ 1 ∷ []) ∷ label (1 ∷ 3 ∷ 1 ∷ 1 ∷ []) ∷ []
unfolding books label at
search_alone = refl

liu_chen : slca (codes "liu" ∷ codes "chen" ∷ []) books ≡ label (1 ∷ []) ∷ []
unfolding books label at
liu_chen = refl

absent_liu : slca (codes "absent" ∷ codes "liu" ∷ []) books ≡ []
unfolding books label at
absent_liu = refl
