-- The nodes that hold every word of a query outside those children that hold every word themselves.
-- ELCA: Xu and Papakonstantinou, "Efficient LCA based Keyword Search in XML Data", EDBT 2008.
use Rattle.std.specs.Prelude.{ℕ, ℤ, pos, Bool, true, false, not, ◌&&◌, ◌||◌, List, [], ◌∷◌, ◌++◌, ◌≡◌, if◌then◌else◌, codes, refl}
use Rattle.mm_tree.specs.Trees.{Trees, none, node}
use Rattle.mm_tree.specs.Search.{Worded, has, holds, is_full, slca}

-- one of these siblings holds the word, itself or below it, and isn't full
abbrev pub outside : List ℕ → List (List ℕ) → Trees Worded → Bool
outside w query none = false
outside w query (node e inner rest) = (not (is_full query e inner) && (has e w || holds w inner)) || outside w query rest

-- each of the words is the node's own, or one of a child's that isn't full
abbrev pub owns : List (List ℕ) → List (List ℕ) → Worded → Trees Worded → Bool
owns [] query e inner = true
owns (w ∷ words) query e inner = (has e w || outside w query inner) && owns words query e inner

-- the nodes that own every word of the query, in document order
abbrev pub elca : List (List ℕ) → Trees Worded → List (List ℤ)
elca query none = []
elca query (node e inner rest) = (if owns query query e inner then e.label ∷ [] else []) ++ (elca query inner ++ elca query rest)

-- ---- a worked example: <bib><book>xml liu</book><note>xml</note><author>liu</author></bib>

label : List ℕ → List ℤ
label [] = []
label (n ∷ ns) = pos n ∷ label ns

at : List ℕ → List (List ℕ) → Worded
at l ws = record { label = label l; words = ws }

-- an element with a text in it, before its later siblings
abbrev texted : List ℕ → List ℕ → List (List ℕ) → List ℕ → Trees Worded → Trees Worded
texted l name ws inner_label rest = node (at l (name ∷ [])) (node (at inner_label ws) none none) rest

bib : Trees Worded
bib =
    node (at (1 ∷ []) (codes "bib" ∷ []))
    (texted (1 ∷ 1 ∷ []) (codes "book") (codes "xml" ∷ codes "liu" ∷ []) (1 ∷ 1 ∷ 1 ∷ [])
    (texted (1 ∷ 3 ∷ []) (codes "note") (codes "xml" ∷ []) (1 ∷ 3 ∷ 1 ∷ [])
    (texted (1 ∷ 5 ∷ []) (codes "author") (codes "liu" ∷ []) (1 ∷ 5 ∷ 1 ∷ []) none)))
    none

xml_liu : elca (codes "xml" ∷ codes "liu" ∷ []) bib ≡ label (1 ∷ []) ∷ label (1 ∷ 1 ∷ 1 ∷ []) ∷ []
unfolding bib label at
xml_liu = refl

smallest_alone : slca (codes "xml" ∷ codes "liu" ∷ []) bib ≡ label (1 ∷ 1 ∷ 1 ∷ []) ∷ []
unfolding bib label at
smallest_alone = refl

absent_liu : elca (codes "absent" ∷ codes "liu" ∷ []) bib ≡ []
unfolding bib label at
absent_liu = refl
