-- The chunks of a node are its content cut into pieces and numbered.
use Rattle.std.proofs.Common.{◌≡◌, ℕ, zero, suc, ◌<◌, ◌≤◌, Bool, true, false, ◌&&◌, List, [], ◌∷◌, ◌++◌, refl, ap, sym, subst, ◌∙◌, length, get_or, arith, append_assoc}
use Rattle.std.specs.List.{list_all}
use Rattle.std.specs.Str.{chars, encode_utf8_all, is_utf8}
use Rattle.std.proofs.lemmas.Bool.{and_parts, ltb-true}
use Rattle.std.proofs.lemmas.Bool.Decides.{nat_tests}
use Rattle.std.proofs.lemmas.Grind.{flat_map-append}
use Rattle.std.proofs.lemmas.Str.{encodes-chars, IsUtf8-from_is_utf8}
use Rattle.mm_keeper.specs.Entries.{Entries}
use Rattle.mm_tree.specs.declared.plain.Attribute.{Attribute}
use Rattle.mm_tree.specs.declared.plain.Kind.{Kind}
use Rattle.mm_tree.specs.declared.plain.Kind.TheVariants.{Element}
use Rattle.mm_tree.specs.declared.node.Node.{Node}
use Rattle.mm_tree.specs.declared.node.Node.TheViews.{out-Node}
use Rattle.mm_tree.specs.Facts.Walks.{labelled, node_of_out}
use Rattle.mm_tree.specs.Characters.{is_name}
use Rattle.mm_tree.specs.Forests.{has_valid_kind}
use Rattle.mm_tree.specs.Numbering.{Labelled, forest_of, node_of}
use Rattle.mm_tree.specs.Trees.{Trees, Tree, none, node, one, every, has_some, preorder}
use Rattle.mm_tree.specs.Validity.{has_valid_parts, is_node_name, is_valid_attribute, is_valid_kind}
use Rattle.mm_image.specs.Image.{chunks, chunks_of}

-- ---- what valid parts bound

pub name_short : (name : List ℕ) → is_node_name name ≡ true → length name ≤ 512
name_short name h =
    let t = and_parts (is_utf8 name) _ h in
    let u = (and_parts (is_name (chars name)) _ t.1).1 in
    let v : length (encode_utf8_all (chars name)) ≤ 512 = grind (arith, nat_tests, u) in
    let w : length (encode_utf8_all (chars name)) ≡ length name = ap length (encodes-chars name (IsUtf8-from_is_utf8 name t.0)) in
    omega (arith, v, w)

pub name_fits : (name : List ℕ) → is_node_name name ≡ true → length name < 65536
name_fits name h = let t = name_short name h in omega arith

pub value_fits : (a : Attribute) → is_valid_attribute a ≡ true → length a.value < 4294967296
value_fits a h = ltb-true (length a.value) 4294967296 (and_parts _ _ (and_parts (is_node_name a.name) _ h).1).1

pub valid_at : (attributes : List Attribute) (i : ℕ) (a : Attribute) → list_all is_valid_attribute attributes ≡ true → i < length attributes → a ≡ get_or attributes i a → is_valid_attribute a ≡ true
valid_at [] i a h l e = absurd (omega arith)
valid_at (x ∷ xs) zero a h l e = subst (λ (z : Attribute). is_valid_attribute z ≡ true) (sym e) (and_parts (is_valid_attribute x) _ h).0
valid_at (x ∷ xs) (suc i) a h l e = valid_at xs i a (and_parts (is_valid_attribute x) _ h).1 (omega arith) e

pub valid_name : (name : List ℕ) (attributes : List Attribute) → has_valid_parts (Element name attributes) ≡ true → is_node_name name ≡ true
valid_name name attributes h = (and_parts (is_node_name name) _ h).0

pub valid_attributes : (name : List ℕ) (attributes : List Attribute) → has_valid_parts (Element name attributes) ≡ true → list_all is_valid_attribute attributes ≡ true
valid_attributes name attributes h = (and_parts (list_all is_valid_attribute attributes) _ (and_parts (is_node_name name) _ h).1).0

pub few_attributes : (name : List ℕ) (attributes : List Attribute) → has_valid_parts (Element name attributes) ≡ true → length attributes < 4294967296
few_attributes name attributes h = ltb-true (length attributes) 4294967296 (and_parts _ _ (and_parts (list_all is_valid_attribute attributes) _ (and_parts (is_node_name name) _ h).1).1).1

pub valid_parts : (kind : Kind) → is_valid_kind kind ≡ true → has_valid_parts kind ≡ true
unfolding is_valid_kind
valid_parts kind h = (and_parts (has_valid_parts kind) _ h).0

-- ---- one node of a list after the other

pub chunks_node : (e : Labelled) (inner rest : Trees Labelled) → chunks (node e inner rest) ≡ chunks_of e ++ (chunks inner ++ chunks rest)
chunks_node e inner rest = ap (λ (z : Entries). chunks_of e ++ z) (flat_map-append chunks_of (preorder inner) (preorder rest))

-- what came behind the entries, and what is left
pub chunks_more : (was here more all : Entries) (e : Labelled) (inner rest : Trees Labelled) → was ++ chunks (node e inner rest) ≡ all → here ≡ was ++ chunks_of e → more ≡ here ++ chunks inner → more ++ chunks rest ≡ all
chunks_more was here more all e inner rest same p q =
    ap (λ (z : Entries). z ++ chunks rest) (q ∙ ap (λ (z : Entries). z ++ chunks inner) p)
    ∙ (append_assoc (was ++ chunks_of e) (chunks inner) (chunks rest)
    ∙ (append_assoc was (chunks_of e) (chunks inner ++ chunks rest)
    ∙ (ap (λ (z : Entries). was ++ z) (sym (chunks_node e inner rest)) ∙ same)))

pub first_valid : (e : Labelled) (inner rest : Trees Labelled) → every has_valid_kind (node e inner rest) ≡ true → is_valid_kind e.kind ≡ true
first_valid e inner rest h = (and_parts (is_valid_kind e.kind) _ (and_parts (has_valid_kind e (has_some inner)) _ h).0).0

pub inner_valid : (e : Labelled) (inner rest : Trees Labelled) → every has_valid_kind (node e inner rest) ≡ true → every has_valid_kind inner ≡ true
inner_valid e inner rest h = (and_parts (every has_valid_kind inner) _ (and_parts (has_valid_kind e (has_some inner)) _ h).1).0

pub rest_valid : (e : Labelled) (inner rest : Trees Labelled) → every has_valid_kind (node e inner rest) ≡ true → every has_valid_kind rest ≡ true
rest_valid e inner rest h = (and_parts (every has_valid_kind inner) _ (and_parts (has_valid_kind e (has_some inner)) _ h).1).1

-- the node alone, with all below it
pub one_valid : (n : Node) (rest : Trees Labelled) → every has_valid_kind (node (labelled n) (forest_of (out-Node n).children) rest) ≡ true → every has_valid_kind (one (node_of n)) ≡ true
one_valid n rest h = subst (λ (t : Tree Labelled). every has_valid_kind (one t) ≡ true) (sym (node_of_out n)) (both (has_valid_kind (labelled n) (has_some (forest_of (out-Node n).children))) (every has_valid_kind (forest_of (out-Node n).children)) (every has_valid_kind rest) h)
  where
    both : (a b c : Bool) → (a && (b && c)) ≡ true → (a && (b && true)) ≡ true
    both true true c h = refl
    both true false c h = h
    both false b c h = h

pub children_valid : (n : Node) → every has_valid_kind (one (node_of n)) ≡ true → every has_valid_kind (forest_of (out-Node n).children) ≡ true
children_valid n h = inner_valid (labelled n) (forest_of (out-Node n).children) none (subst (λ (t : Tree Labelled). every has_valid_kind (one t) ≡ true) (node_of_out n) h)
