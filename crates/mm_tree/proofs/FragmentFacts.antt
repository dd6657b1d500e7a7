-- How fragments are made: rows of siblings, and the contributors among them, one after the other.
use Rattle.std.proofs.Common.{◌≡◌, ℕ, ◌+◌, ◌<◌, ◌≤◌, Bool, true, false, cond, not, ◌&&◌, List, [], ◌∷◌, ◌++◌, length, get_or, drop, map, ap, ap₂, refl, sym, ◌∙◌, append-nil, append_assoc}
use Rattle.std.specs.Prelude.{ℤ, bytes_eq}
use Rattle.std.specs.List.{list_all, list_any, filter}
use Rattle.std.proofs.lemmas.List.{drop_all, map-append}
use Rattle.mm_list.specs.Facts.{drop_at}
use Rattle.mm_tree.specs.declared.fragment.Fragment.{Fragment}
use Rattle.mm_tree.specs.declared.fragment.Fragment.TheFolds.{fold-roll-Fragment}
use Rattle.mm_tree.specs.declared.fragment.Fragment.TheViews.{roll-Fragment}
use Rattle.mm_tree.specs.declared.node.Node.{Node}
use Rattle.mm_tree.specs.declared.node.Node.TheViews.{out-Node}
use Rattle.mm_tree.specs.Trees.{Trees, none, node, Tree, siblings}
use Rattle.mm_tree.specs.Numbering.{Labelled, forest_of}
use Rattle.mm_tree.specs.Hits.{name_of}
use Rattle.mm_tree.specs.Search.{is_full, own, worded, held_by}
use Rattle.mm_tree.specs.Inside.Searching.{worded_node}
use Rattle.mm_tree.specs.Fragments.{Named, named, named_as, bare, bares, row_of, rows_of, some, less, contributes, contributors, shown, fragment, fragment_step, fragment_tree, fragment_trees, named_tree}
use Rattle.mm_tree.specs.Inside.Fragmenting.{named_node, stands_out}
use Rattle.mm_tree.specs.Facts.Walks.{node_of_out}
use Rattle.mm_tree.proofs.SearchFacts.{all_held}

-- the contributors as a list
abbrev pub picked : List (List ℕ) → List (List Bool) → Trees Named → List (Tree Named)
picked query all none = []
picked query all (node e inner rest) = cond (contributes query all e inner) ((shown query e, contributors query (rows_of query inner) inner) ∷ picked query all rest) (picked query all rest)

pub picked_are : (query : List (List ℕ)) (all : List (List Bool)) (f : Trees Named) → siblings (picked query all f) ≡ contributors query all f
picked_are query all none = refl
picked_are query all (node e inner rest) = by (contributes query all e inner) (picked_are query all rest)
  where
    by : (t : Bool) → siblings (picked query all rest) ≡ contributors query all rest
        → siblings (cond t ((shown query e, contributors query (rows_of query inner) inner) ∷ picked query all rest) (picked query all rest))
        ≡ cond t (node (shown query e) (contributors query (rows_of query inner) inner) (contributors query all rest)) (contributors query all rest)
    by true h = ap (λ (r : Trees Named). node (shown query e) (contributors query (rows_of query inner) inner) r) h
    by false h = h

-- ---- nodes of the program

bares_named : (f : Trees Labelled) → bares (named f) ≡ worded f
bares_named none = refl
bares_named (node e inner rest) = ap₂ (λ i r. node (bare (named_as e)) i r) (bares_named inner) (bares_named rest)

abbrev pub known : List Node → Trees Named
known ns = named (forest_of ns)

abbrev pub kids : Node → Trees Named
kids n = known (out-Node n).children

known_next : (ns : List Node) (i : ℕ) (n : Node) → i < length ns → n ≡ get_or ns i n → known (drop i ns) ≡ node (named_node n) (kids n) (known (drop (i + 1) ns))
known_next ns i n h e = ap known (drop_at ns i n h e) ∙ ap (λ (t : Tree Labelled). named (node t.0 t.1 (forest_of (drop (i + 1) ns)))) (node_of_out n)

pub row_is : (query : List (List ℕ)) (n : Node) (row : List Bool) → row ≡ held_by query (worded_node n) (worded (forest_of (out-Node n).children)) → row ≡ row_of query (named_node n) (kids n)
row_is query n row e = e ∙ ap (held_by query (worded_node n)) (sym (bares_named (forest_of (out-Node n).children)))

full_row : (query : List (List ℕ)) (n : Node) (row : List Bool) → row ≡ row_of query (named_node n) (kids n) → is_full query (bare (named_node n)) (bares (kids n)) ≡ list_all (λ flag. flag) row
full_row query n row e = sym (all_held query (bare (named_node n)) (bares (kids n))) ∙ ap (list_all (λ flag. flag)) (sym e)

-- ---- rows, one after the other

part : List (List ℕ) → List Bool → Bool → List (List Bool) → List (List Bool)
part query row full rows = cond full rows (row ∷ rows)

rows_first : (query : List (List ℕ)) (ns : List Node) (i : ℕ) (n : Node) (row : List Bool) → i < length ns → n ≡ get_or ns i n → row ≡ row_of query (named_node n) (kids n)
    → rows_of query (known (drop i ns)) ≡ cond (list_all (λ flag. flag) row) (rows_of query (known (drop (i + 1) ns))) (row ∷ rows_of query (known (drop (i + 1) ns)))
rows_first query ns i n row h e r =
    let rest = rows_of query (known (drop (i + 1) ns)) in
    ap (rows_of query) (known_next ns i n h e)
    ∙ ap₂ (λ (t : Bool) (own : List Bool). cond t rest (own ∷ rest)) (full_row query n row r) (sym r)

pub rows_full : (query : List (List ℕ)) (ns : List Node) (i : ℕ) (n : Node) (row : List Bool) (before after total : List (List Bool)) → i < length ns → n ≡ get_or ns i n → row ≡ row_of query (named_node n) (kids n)
    → list_all (λ flag. flag) row ≡ true → after ≡ before → before ++ rows_of query (known (drop i ns)) ≡ total → after ++ rows_of query (known (drop (i + 1) ns)) ≡ total
rows_full query ns i n row before after total h e r f a same =
    let rest = rows_of query (known (drop (i + 1) ns)) in
    ap (λ (b : List (List Bool)). b ++ rest) a ∙ ap (λ (t : List (List Bool)). before ++ t) (sym (rows_first query ns i n row h e r ∙ ap (λ (t : Bool). cond t rest (row ∷ rest)) f)) ∙ same

pub rows_more : (query : List (List ℕ)) (ns : List Node) (i : ℕ) (n : Node) (row : List Bool) (before after total : List (List Bool)) → i < length ns → n ≡ get_or ns i n → row ≡ row_of query (named_node n) (kids n)
    → list_all (λ flag. flag) row ≡ false → after ≡ before ++ row ∷ [] → before ++ rows_of query (known (drop i ns)) ≡ total → after ++ rows_of query (known (drop (i + 1) ns)) ≡ total
rows_more query ns i n row before after total h e r f a same =
    let rest = rows_of query (known (drop (i + 1) ns)) in
    ap (λ (b : List (List Bool)). b ++ rest) a ∙ append_assoc before (row ∷ []) rest
    ∙ ap (λ (t : List (List Bool)). before ++ t) (sym (rows_first query ns i n row h e r ∙ ap (λ (t : Bool). cond t rest (row ∷ rest)) f)) ∙ same

-- ---- contributors, one after the other

stands : (query : List (List ℕ)) (all : List (List Bool)) (n : Node) (row : List Bool) → row ≡ row_of query (named_node n) (kids n) → contributes query all (named_node n) (kids n) ≡ stands_out all row
stands query all n row r =
    ap₂ (λ (t : Bool) (own : List Bool). not t && (some own && not (list_any (less own) all))) (full_row query n row r) (sym r)

picked_first : (query : List (List ℕ)) (all : List (List Bool)) (ns : List Node) (i : ℕ) (n : Node) (row : List Bool) (t : Bool) → i < length ns → n ≡ get_or ns i n → row ≡ row_of query (named_node n) (kids n)
    → stands_out all row ≡ t → picked query all (known (drop i ns)) ≡ cond t ((shown query (named_node n), contributors query (rows_of query (kids n)) (kids n)) ∷ picked query all (known (drop (i + 1) ns))) (picked query all (known (drop (i + 1) ns)))
picked_first query all ns i n row t h e r s =
    let rest = picked query all (known (drop (i + 1) ns)) in
    ap (picked query all) (known_next ns i n h e)
    ∙ ap (λ (t : Bool). cond t ((shown query (named_node n), contributors query (rows_of query (kids n)) (kids n)) ∷ rest) rest) (stands query all n row r ∙ s)

pub picked_no : (query : List (List ℕ)) (all : List (List Bool)) (ns : List Node) (i : ℕ) (n : Node) (row : List Bool) (before after : List Fragment) (total : List (Tree Named)) → i < length ns → n ≡ get_or ns i n → row ≡ row_of query (named_node n) (kids n)
    → stands_out all row ≡ false → after ≡ before → map fragment_tree before ++ picked query all (known (drop i ns)) ≡ total → map fragment_tree after ++ picked query all (known (drop (i + 1) ns)) ≡ total
picked_no query all ns i n row before after total h e r s a same =
    let rest = picked query all (known (drop (i + 1) ns)) in
    ap (λ (b : List Fragment). map fragment_tree b ++ rest) a ∙ ap (λ (t : List (Tree Named)). map fragment_tree before ++ t) (sym (picked_first query all ns i n row false h e r s)) ∙ same

pub picked_yes : (query : List (List ℕ)) (all : List (List Bool)) (ns : List Node) (i : ℕ) (n : Node) (row : List Bool) (f : Fragment) (before after : List Fragment) (total : List (Tree Named)) → i < length ns → n ≡ get_or ns i n → row ≡ row_of query (named_node n) (kids n)
    → stands_out all row ≡ true → fragment_tree f ≡ (shown query (named_node n), contributors query (rows_of query (kids n)) (kids n)) → after ≡ before ++ f ∷ []
    → map fragment_tree before ++ picked query all (known (drop i ns)) ≡ total → map fragment_tree after ++ picked query all (known (drop (i + 1) ns)) ≡ total
picked_yes query all ns i n row f before after total h e r s is a same =
    let rest = picked query all (known (drop (i + 1) ns)) in
    ap (λ (b : List Fragment). map fragment_tree b ++ rest) a ∙ ap (λ (b : List (Tree Named)). b ++ rest) (map-append fragment_tree before (f ∷ []))
    ∙ append_assoc (map fragment_tree before) (fragment_tree f ∷ []) rest
    ∙ ap (λ (t : Tree Named). map fragment_tree before ++ t ∷ rest) is
    ∙ ap (λ (t : List (Tree Named)). map fragment_tree before ++ t) (sym (picked_first query all ns i n row true h e r s)) ∙ same

pub picked_end : (query : List (List ℕ)) (all : List (List Bool)) (ns : List Node) (i : ℕ) (fs : List Fragment) → length ns ≤ i
    → map fragment_tree fs ++ picked query all (known (drop i ns)) ≡ picked query all (known ns) → fragment_trees fs ≡ contributors query all (known ns)
picked_end query all ns i fs h same =
    ap siblings (sym (append-nil (map fragment_tree fs)) ∙ ap (λ (ms : List Node). map fragment_tree fs ++ picked query all (known ms)) (sym (drop_all i ns h)) ∙ same) ∙ picked_are query all (known ns)

pub fragment_is : (query : List (List ℕ)) (n : Node) (f : Tree Named) (children : Trees Named) → f ≡ (shown query (named_node n), children) → children ≡ contributors query (rows_of query (kids n)) (kids n) → f ≡ fragment query (named_tree n)
fragment_is query n f children e c =
    e ∙ ap (λ (ts : Trees Named). (shown query (named_node n), ts)) c ∙ sym (ap (λ (t : Tree Labelled). fragment query (named_as t.0, named t.1)) (node_of_out n))

pub shown_is : (query : List (List ℕ)) (n : Node) (label : List ℤ) (name : List ℕ) (words : List (List ℕ)) (children : List Fragment) → label ≡ (out-Node n).label → name ≡ name_of (out-Node n).kind
    → words ≡ filter (λ w. list_any (bytes_eq w) (own (out-Node n).kind)) query
    → fragment_tree (roll-Fragment (record { label = label; name = name; matches = words; children = children })) ≡ (shown query (named_node n), fragment_trees children)
shown_is query n label name words children a b c =
    fold-roll-Fragment (Tree Named) fragment_step (record { label = label; name = name; matches = words; children = children })
    ∙ (λ j. (record { label = a j; name = b j; words = c j }, fragment_trees children))
