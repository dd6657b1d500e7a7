-- Which trees hold the words of a query, and where the answers among them are.
use Rattle.std.proofs.Common.{◌≡◌, ℕ, ◌+◌, ◌<◌, ◌≤◌, Bool, true, false, cond, not, ◌&&◌, ◌||◌, List, [], ◌∷◌, ◌++◌, length, get_or, drop, map, ap, ap₂, refl, sym, ◌∙◌, append-nil, append_assoc, bytes_eq}
use Rattle.std.specs.Prelude.{ℤ}
use Rattle.std.specs.List.{list_all, list_any}
use Rattle.std.proofs.lemmas.Cmp.{nat_list_eq_equiv}
use Rattle.mm_tree.specs.declared.node.Node.{Node}
use Rattle.mm_tree.specs.declared.node.Node.TheViews.{out-Node}
use Rattle.mm_tree.specs.Trees.{Trees, none, node, Tree, one}
use Rattle.mm_tree.specs.Numbering.{Labelled, node_of, forest_of}
use Rattle.mm_tree.specs.Search.{Worded, own, worded, has, holds, is_full, some_full, slca, held_by}
use Rattle.mm_tree.specs.Inside.Searching.{either, held, own_answer, worded_node}
use Rattle.mm_tree.proofs.FlagFacts.{either_tests, either_twice, either_never, or_false, or_assoc}
use Rattle.std.proofs.lemmas.List.{drop_all}
use Rattle.std.proofs.lemmas.Bool.{or_parts}
use Rattle.mm_list.specs.Facts.{drop_at}
use Rattle.mm_tree.specs.Facts.Full.{full_of_child}
use Rattle.mm_tree.specs.Facts.Walks.{node_of_out}

-- ---- full nodes

-- the flags of a node are all set where it is full
pub all_held : (query : List (List ℕ)) (e : Worded) (inner : Trees Worded) → list_all (λ flag. flag) (held_by query e inner) ≡ is_full query e inner
all_held [] e inner = refl
all_held (w ∷ query) e inner = ap (λ b. (has e w || holds w inner) && b) (all_held query e inner)

-- ---- answers

abbrev pub part : List (List ℕ) → Worded → Trees Worded → List (List ℤ)
part query e inner = cond (is_full query e inner) (cond (some_full query inner) (slca query inner) (e.label ∷ [])) []

-- none of these trees has an answer, if none of their roots is full
pub no_answer : (query : List (List ℕ)) (trees : Trees Worded) → some_full query trees ≡ false → slca query trees ≡ []
no_answer query none h = refl
no_answer query (node e inner rest) h =
    let n = or_parts (is_full query e inner) (some_full query rest) h in
    ap (λ b. cond b (cond (some_full query inner) (slca query inner) (e.label ∷ [])) [] ++ slca query rest) n.0 ∙ no_answer query rest n.1

-- the answers below a node, and its own
pub part_is : (query : List (List ℕ)) (e : Worded) (inner : Trees Worded) → slca query inner ++ own_answer query e inner ≡ part query e inner
part_is query e inner = by_tests (is_full query e inner) (some_full query inner) refl refl
  where
    by_tests : (f s : Bool) → is_full query e inner ≡ f → some_full query inner ≡ s → slca query inner ++ cond (f && not s) (e.label ∷ []) [] ≡ cond f (cond s (slca query inner) (e.label ∷ [])) []
    by_tests true true a b = append-nil (slca query inner)
    by_tests true false a b = ap (λ ls. ls ++ e.label ∷ []) (no_answer query inner b)
    by_tests false true a b = absurd (let k = full_of_child query e inner b in cc)
    by_tests false false a b = append-nil (slca query inner) ∙ no_answer query inner b

-- ---- nodes of the program

abbrev pub seen : List Node → Trees Worded
seen ns = worded (forest_of ns)

abbrev pub inside : Node → Trees Worded
inside n = seen (out-Node n).children

-- the first of these trees, and the others
pub seen_first : (n : Node) (ns : List Node) → seen (n ∷ ns) ≡ node (worded_node n) (inside n) (seen ns)
seen_first n ns = ap (λ (t : Tree Labelled). worded (node t.0 t.1 (forest_of ns))) (node_of_out n)

pub seen_one : (n : Node) → worded (one (node_of n)) ≡ node (worded_node n) (inside n) none
seen_one n = ap (λ (t : Tree Labelled). worded (one t)) (node_of_out n)

pub seen_next : (ns : List Node) (i : ℕ) (n : Node) → i < length ns → n ≡ get_or ns i n → seen (drop i ns) ≡ node (worded_node n) (inside n) (seen (drop (i + 1) ns))
seen_next ns i n h e = ap seen (drop_at ns i n h e) ∙ seen_first n (drop (i + 1) ns)

-- the same test, with the words the other way round
pub any_turned : (w : List ℕ) (ws : List (List ℕ)) → list_any (λ v. bytes_eq v w) ws ≡ list_any (bytes_eq w) ws
any_turned w [] = refl
any_turned w (v ∷ vs) = ap₂ (λ a b. a || b) (nat_list_eq_equiv.symm v w) (any_turned w vs)

alone : (query : List (List ℕ)) (e : Worded) (inner : Trees Worded) → held_by query e inner ≡ held query (node e inner none)
alone [] e inner = refl
alone (w ∷ query) e inner = ap₂ (λ b bs. (has e w || b) ∷ bs) (sym (or_false (holds w inner))) (alone query e inner)

-- the flags of a node: its own and those of the trees in it
pub held_is : (query : List (List ℕ)) (n : Node) (own_flags below flags : List Bool) → own_flags ≡ map (λ w. list_any (bytes_eq w) (own (out-Node n).kind)) query → below ≡ held query (inside n) → flags ≡ either own_flags below
    → flags ≡ held_by query (worded_node n) (inside n)
held_is query n own_flags below flags o b f = f ∙ ap₂ either o b ∙ either_tests (λ w. has (worded_node n) w) (λ w. holds w (inside n)) query

pub held_one : (query : List (List ℕ)) (n : Node) → held_by query (worded_node n) (inside n) ≡ held query (worded (one (node_of n)))
held_one query n = alone query (worded_node n) (inside n) ∙ ap (held query) (sym (seen_one n))

pub full_is : (query : List (List ℕ)) (n : Node) (flags : List Bool) (full : Bool) → flags ≡ held_by query (worded_node n) (inside n) → full ≡ list_all (λ flag. flag) flags → full ≡ is_full query (worded_node n) (inside n)
full_is query n flags full e f = f ∙ ap (list_all (λ flag. flag)) e ∙ all_held query (worded_node n) (inside n)

pub full_one : (query : List (List ℕ)) (n : Node) (full : Bool) → full ≡ is_full query (worded_node n) (inside n) → full ≡ some_full query (worded (one (node_of n)))
full_one query n full e = e ∙ sym (or_false (is_full query (worded_node n) (inside n))) ∙ ap (some_full query) (sym (seen_one n))

-- a node is an answer, or isn't one since it isn't full, or since one of its children is
pub answer_here : (query : List (List ℕ)) (e : Worded) (inner : Trees Worded) → is_full query e inner ≡ true → some_full query inner ≡ false → own_answer query e inner ≡ e.label ∷ []
answer_here query e inner f s = ap₂ (λ a b. cond (a && not b) (e.label ∷ []) []) f s

pub answer_above : (query : List (List ℕ)) (e : Worded) (inner : Trees Worded) → is_full query e inner ≡ false → own_answer query e inner ≡ []
answer_above query e inner f = ap (λ a. cond (a && not (some_full query inner)) (e.label ∷ []) []) f

pub answer_below : (query : List (List ℕ)) (e : Worded) (inner : Trees Worded) → some_full query inner ≡ true → own_answer query e inner ≡ []
answer_below query e inner s = ap (λ b. cond (is_full query e inner && not b) (e.label ∷ []) []) s ∙ by_test (is_full query e inner)
  where
    by_test : (a : Bool) → cond (a && false) (e.label ∷ []) [] ≡ []
    by_test true = refl
    by_test false = refl

-- ---- one tree after the other

one_holds : (w : List ℕ) (e : Worded) (inner rest : Trees Worded) → (holds w (node e inner none) || holds w rest) ≡ holds w (node e inner rest)
one_holds w e inner rest = by_tests (has e w) (holds w inner)
  where
    by_tests : (a b : Bool) → ((a || (b || false)) || holds w rest) ≡ (a || (b || holds w rest))
    by_tests true b = refl
    by_tests false true = refl
    by_tests false false = refl

together : (query : List (List ℕ)) (e : Worded) (inner rest : Trees Worded) → map (λ w. holds w (node e inner none) || holds w rest) query ≡ held query (node e inner rest)
together [] e inner rest = refl
together (w ∷ query) e inner rest = ap₂ (λ b bs. b ∷ bs) (one_holds w e inner rest) (together query e inner rest)

pub words_on : (query : List (List ℕ)) (ns : List Node) (i : ℕ) (n : Node) (flags here more : List Bool) (all : List Bool) → i < length ns → n ≡ get_or ns i n
    → here ≡ held query (worded (one (node_of n))) → more ≡ either flags here → either flags (held query (seen (drop i ns))) ≡ all → either more (held query (seen (drop (i + 1) ns))) ≡ all
words_on query ns i n flags here more all h e is m same =
    let rest = seen (drop (i + 1) ns) in
    ap (λ bs. either bs (held query rest)) (m ∙ ap (either flags) (is ∙ ap (held query) (seen_one n)))
    ∙ either_twice (λ w. holds w (node (worded_node n) (inside n) none)) (λ w. holds w rest) flags query
    ∙ ap (either flags) (together query (worded_node n) (inside n) rest ∙ ap (held query) (sym (seen_next ns i n h e)))
    ∙ same

pub full_on : (query : List (List ℕ)) (ns : List Node) (i : ℕ) (n : Node) (some here more all : Bool) → i < length ns → n ≡ get_or ns i n
    → here ≡ some_full query (worded (one (node_of n))) → more ≡ (some || here) → (some || some_full query (seen (drop i ns))) ≡ all → (more || some_full query (seen (drop (i + 1) ns))) ≡ all
full_on query ns i n some here more all h e is m same =
    let rest = some_full query (seen (drop (i + 1) ns)) in
    ap (λ b. b || rest) (m ∙ ap (λ b. some || b) (is ∙ ap (some_full query) (seen_one n) ∙ or_false (is_full query (worded_node n) (inside n))))
    ∙ or_assoc some (is_full query (worded_node n) (inside n)) rest
    ∙ ap (λ ts. some || some_full query ts) (sym (seen_next ns i n h e))
    ∙ same

pub labels_on : (query : List (List ℕ)) (ns : List Node) (i : ℕ) (n : Node) (children : List Node) (start below more all : List (List ℤ)) → i < length ns → n ≡ get_or ns i n → children ≡ (out-Node n).children
    → below ≡ start ++ slca query (worded (forest_of children)) → more ≡ below ++ own_answer query (worded_node n) (inside n) → start ++ slca query (seen (drop i ns)) ≡ all → more ++ slca query (seen (drop (i + 1) ns)) ≡ all
labels_on query ns i n children start below more all h e c b m same =
    let rest = slca query (seen (drop (i + 1) ns)) in
    let mine = own_answer query (worded_node n) (inside n) in
    let under = slca query (inside n) in
    ap (λ ls. ls ++ rest) (m ∙ ap (λ ls. ls ++ mine) (b ∙ ap (λ ms. start ++ slca query (seen ms)) c) ∙ append_assoc start under mine ∙ ap (λ ls. start ++ ls) (part_is query (worded_node n) (inside n)))
    ∙ append_assoc start (part query (worded_node n) (inside n)) rest
    ∙ ap (λ ts. start ++ slca query ts) (sym (seen_next ns i n h e))
    ∙ same

pub words_end : (query : List (List ℕ)) (ns : List Node) (i : ℕ) (flags all : List Bool) → length ns ≤ i → either flags (held query (seen (drop i ns))) ≡ all → flags ≡ all
words_end query ns i flags all h same = sym (ap (λ ms. either flags (held query (seen ms))) (drop_all i ns h) ∙ either_never flags query) ∙ same

pub full_end : (query : List (List ℕ)) (ns : List Node) (i : ℕ) (some all : Bool) → length ns ≤ i → (some || some_full query (seen (drop i ns))) ≡ all → some ≡ all
full_end query ns i some all h same = sym (ap (λ ms. some || some_full query (seen ms)) (drop_all i ns h) ∙ or_false some) ∙ same
