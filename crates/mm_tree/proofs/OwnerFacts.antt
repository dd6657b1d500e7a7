-- Which nodes own the words of a query, and where they are.
use Rattle.std.proofs.Common.{◌≡◌, ℕ, ◌+◌, ◌<◌, ◌≤◌, Bool, true, false, cond, not, ◌&&◌, ◌||◌, List, [], ◌∷◌, ◌++◌, length, get_or, take, drop, map, ap, ap₂, refl, sym, ◌∙◌, append_assoc, append-nil, arith}
use Rattle.std.specs.Prelude.{ℤ}
use Rattle.std.specs.List.{list_all, list_any}
use Rattle.std.proofs.lemmas.List.{drop_all, length-map}
use Rattle.mm_tree.specs.declared.node.Node.{Node}
use Rattle.mm_tree.specs.declared.node.Node.TheViews.{out-Node}
use Rattle.mm_tree.specs.Trees.{Trees, none, node, one}
use Rattle.mm_tree.specs.Numbering.{node_of, forest_of}
use Rattle.mm_tree.specs.Search.{Worded, own, worded, has, holds, is_full, held_by}
use Rattle.mm_tree.specs.Elca.{outside, owns, elca}
use Rattle.std.specs.Str.{bytes_eq}
use Rattle.mm_tree.specs.Inside.Searching.{either, held, held_outside, own_elca, worded_node}
use Rattle.mm_tree.proofs.FlagFacts.{either_tests, either_twice, either_never, length-either}
use Rattle.mm_tree.proofs.SearchFacts.{seen, inside, all_held, held_one, seen_next}

-- ---- what is held outside the full ones is held

pub outside_holds : (w : List ℕ) (query : List (List ℕ)) (trees : Trees Worded) → outside w query trees ≡ true → holds w trees ≡ true
outside_holds w query none h = h
outside_holds w query (node e inner rest) h = by (is_full query e inner) (has e w) (holds w inner) (outside w query rest) h (outside_holds w query rest)
  where
    by : (f a b o : Bool) → ((not f && (a || b)) || o) ≡ true → (o ≡ true → holds w rest ≡ true) → (a || (b || holds w rest)) ≡ true
    by f true b o e k = refl
    by f false true o e k = refl
    by true false false o e k = k e
    by false false false o e k = k e

absorbs : (a o h : Bool) → (o ≡ true → h ≡ true) → ((a || o) || h) ≡ (a || h)
absorbs true o h k = refl
absorbs false true h k = sym (k refl)
absorbs false false h k = refl

all_absorb : (query words : List (List ℕ)) (e : Worded) (inner : Trees Worded)
    → map (λ w. (has e w || outside w query inner) || holds w inner) words ≡ map (λ w. has e w || holds w inner) words
all_absorb query [] e inner = refl
all_absorb query (w ∷ words) e inner = ap₂ (λ b bs. b ∷ bs) (absorbs (has e w) (outside w query inner) (holds w inner) (outside_holds w query inner)) (all_absorb query words e inner)

-- ---- one node

pub owned_is : (query : List (List ℕ)) (n : Node) (own_flags below flags : List Bool) → own_flags ≡ map (λ w. list_any (bytes_eq w) (own (out-Node n).kind)) query → below ≡ held_outside query query (inside n) → flags ≡ either own_flags below
    → flags ≡ map (λ w. has (worded_node n) w || outside w query (inside n)) query
owned_is query n own_flags below flags o b f = f ∙ ap₂ either o b ∙ either_tests (λ w. has (worded_node n) w) (λ w. outside w query (inside n)) query

all_owned : (query words : List (List ℕ)) (e : Worded) (inner : Trees Worded) → list_all (λ flag. flag) (map (λ w. has e w || outside w query inner) words) ≡ owns words query e inner
all_owned query [] e inner = refl
all_owned query (w ∷ words) e inner = ap (λ b. (has e w || outside w query inner) && b) (all_owned query words e inner)

pub owns_is : (query : List (List ℕ)) (n : Node) (flags : List Bool) (all : Bool) → flags ≡ map (λ w. has (worded_node n) w || outside w query (inside n)) query → all ≡ list_all (λ flag. flag) flags
    → all ≡ owns query query (worded_node n) (inside n)
owns_is query n flags all e a = a ∙ ap (list_all (λ flag. flag)) e ∙ all_owned query query (worded_node n) (inside n)

pub held_after : (query : List (List ℕ)) (n : Node) (flags below more : List Bool) → flags ≡ map (λ w. has (worded_node n) w || outside w query (inside n)) query → below ≡ held query (inside n) → more ≡ either flags below
    → more ≡ held query (worded (one (node_of n)))
held_after query n flags below more f b m =
    m ∙ ap₂ either f b ∙ either_tests (λ w. has (worded_node n) w || outside w query (inside n)) (λ w. holds w (inside n)) query
    ∙ all_absorb query query (worded_node n) (inside n) ∙ held_one query n

pub owner_here : (query : List (List ℕ)) (e : Worded) (inner : Trees Worded) → owns query query e inner ≡ true → own_elca query e inner ≡ e.label ∷ []
owner_here query e inner h = ap (λ b. cond b (e.label ∷ []) []) h

pub owner_none : (query : List (List ℕ)) (e : Worded) (inner : Trees Worded) → owns query query e inner ≡ false → own_elca query e inner ≡ []
owner_none query e inner h = ap (λ b. cond b (e.label ∷ []) []) h

take_joined : (xs ys : List (List ℤ)) → take (length xs) (xs ++ ys) ≡ xs
take_joined [] [] = refl
take_joined [] (y ∷ ys) = refl
take_joined (x ∷ xs) ys = ap (λ zs. x ∷ zs) (take_joined xs ys)

drop_joined : (xs ys : List (List ℤ)) → drop (length xs) (xs ++ ys) ≡ ys
drop_joined [] [] = refl
drop_joined [] (y ∷ ys) = refl
drop_joined (x ∷ xs) ys = drop_joined xs ys

pub put_between : (before below all more mine : List (List ℤ)) (at : ℕ) (x : List ℤ) → all ≡ before ++ below → length before ≡ at → more ≡ take at all ++ x ∷ drop at all → mine ≡ x ∷ []
    → more ≡ before ++ (mine ++ below)
put_between before below all more mine at x a n m e =
    m ∙ ap (λ zs. take at zs ++ x ∷ drop at zs) a
    ∙ ap (λ i. take i (before ++ below) ++ x ∷ drop i (before ++ below)) (sym n)
    ∙ ap₂ (λ us vs. us ++ x ∷ vs) (take_joined before below) (drop_joined before below)
    ∙ ap (λ us. before ++ (us ++ below)) (sym e)

pub put_nothing : (before below all more mine : List (List ℤ)) → all ≡ before ++ below → more ≡ all → mine ≡ [] → more ≡ before ++ (mine ++ below)
put_nothing before below all more mine a m e = m ∙ a ∙ ap (λ us. before ++ (us ++ below)) (sym e)

-- ---- one tree after the other

none_outside : (query words : List (List ℕ)) (e : Worded) (inner rest : Trees Worded) → is_full query e inner ≡ true → held_outside query words (node e inner rest) ≡ held_outside query words rest
none_outside query [] e inner rest h = refl
none_outside query (w ∷ words) e inner rest h = ap₂ (λ b bs. b ∷ bs) (ap (λ f. (not f && (has e w || holds w inner)) || outside w query rest) h) (none_outside query words e inner rest h)

some_outside : (query words : List (List ℕ)) (e : Worded) (inner rest : Trees Worded) → is_full query e inner ≡ false
    → map (λ w. (has e w || holds w inner) || outside w query rest) words ≡ held_outside query words (node e inner rest)
some_outside query [] e inner rest h = refl
some_outside query (w ∷ words) e inner rest h = ap₂ (λ b bs. b ∷ bs) (ap (λ f. (not f && (has e w || holds w inner)) || outside w query rest) (sym h)) (some_outside query words e inner rest h)

flags_on : (query : List (List ℕ)) (e : Worded) (inner rest : Trees Worded) (flags here : List Bool) → here ≡ held_by query e inner
    → either (cond (list_all (λ flag. flag) here) flags (either flags here)) (held_outside query query rest) ≡ either flags (held_outside query query (node e inner rest))
flags_on query e inner rest flags here h =
    ap (λ bs. either (cond (list_all (λ flag. flag) bs) flags (either flags bs)) (held_outside query query rest)) h
    ∙ ap (λ f. either (cond f flags (either flags (held_by query e inner))) (held_outside query query rest)) (all_held query e inner)
    ∙ by (is_full query e inner) refl
  where
    by : (f : Bool) → is_full query e inner ≡ f → either (cond f flags (either flags (held_by query e inner))) (held_outside query query rest) ≡ either flags (held_outside query query (node e inner rest))
    by true k = ap (either flags) (sym (none_outside query query e inner rest k))
    by false k = either_twice (λ w. has e w || holds w inner) (λ w. outside w query rest) flags query ∙ ap (either flags) (some_outside query query e inner rest k)

pub outside_on : (query : List (List ℕ)) (ns : List Node) (i : ℕ) (n : Node) (flags here more all : List Bool) → i < length ns → n ≡ get_or ns i n
    → here ≡ held query (worded (one (node_of n))) → more ≡ cond (list_all (λ flag. flag) here) flags (either flags here)
    → either flags (held_outside query query (seen (drop i ns))) ≡ all → either more (held_outside query query (seen (drop (i + 1) ns))) ≡ all
outside_on query ns i n flags here more all h e is m same =
    let rest = seen (drop (i + 1) ns) in
    ap (λ bs. either bs (held_outside query query rest)) m
    ∙ flags_on query (worded_node n) (inside n) rest flags here (is ∙ sym (held_one query n))
    ∙ ap (λ ts. either flags (held_outside query query ts)) (sym (seen_next ns i n h e))
    ∙ same

pub outside_end : (query : List (List ℕ)) (ns : List Node) (i : ℕ) (flags all : List Bool) → length ns ≤ i → either flags (held_outside query query (seen (drop i ns))) ≡ all → flags ≡ all
outside_end query ns i flags all h same = sym (ap (λ ms. either flags (held_outside query query (seen ms))) (drop_all i ns h) ∙ either_never flags query) ∙ same

pub owners_on : (query : List (List ℕ)) (ns : List Node) (i : ℕ) (n : Node) (start more all : List (List ℤ)) → i < length ns → n ≡ get_or ns i n
    → more ≡ start ++ (own_elca query (worded_node n) (inside n) ++ elca query (inside n)) → start ++ elca query (seen (drop i ns)) ≡ all → more ++ elca query (seen (drop (i + 1) ns)) ≡ all
owners_on query ns i n start more all h e m same =
    let rest = elca query (seen (drop (i + 1) ns)) in
    let mine = own_elca query (worded_node n) (inside n) in
    let under = elca query (inside n) in
    ap (λ ls. ls ++ rest) m ∙ append_assoc start (mine ++ under) rest ∙ ap (λ ls. start ++ ls) (append_assoc mine under rest)
    ∙ ap (λ ts. start ++ elca query ts) (sym (seen_next ns i n h e))
    ∙ same

pub owners_end : (query : List (List ℕ)) (ns : List Node) (i : ℕ) (found all : List (List ℤ)) → length ns ≤ i → found ++ elca query (seen (drop i ns)) ≡ all → found ≡ all
owners_end query ns i found all h same = sym (ap (λ ms. found ++ elca query (seen ms)) (drop_all i ns h) ∙ append-nil found) ∙ same

pub below_is : (query : List (List ℕ)) (n : Node) (children : List Node) (start below : List (List ℤ)) → children ≡ (out-Node n).children → below ≡ start ++ elca query (worded (forest_of children)) → below ≡ start ++ elca query (inside n)
below_is query n children start below c b = b ∙ ap (λ ms. start ++ elca query (seen ms)) c

-- ---- lengths

pub no_more : (query : List (List ℕ)) (p q : List ℕ → Bool) (these those : List Bool) → these ≡ map p query → those ≡ map q query → length these ≤ length those
no_more query p q these those e f = omega (arith, ap length e, ap length f, length-map query p, length-map query q)

pub unless_length : (b : Bool) (flags here more : List Bool) → more ≡ cond b flags (either flags here) → length more ≡ length flags
unless_length true flags here more m = ap length m
unless_length false flags here more m = ap length m ∙ length-either flags here
