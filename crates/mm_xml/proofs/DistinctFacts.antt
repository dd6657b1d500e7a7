-- Names in a map are the names that were seen.
use Rattle.std.proofs.Common.{◌≡◌, refl, sym, ap, ◌∙◌, ℕ, ◌+◌, ◌<◌, Bool, true, false, cond, ◌&&◌, ◌||◌, not, List, [], ◌∷◌, length, get_or, drop, Option, Some, BTreeMap, nat_cmp}
use Rattle.std.specs.Prelude.{map, is_some}
use Rattle.std.specs.List.{list_any}
use Rattle.std.specs.Str.{bytes_eq}
use Rattle.std.specs.Borrow.{Bor}
use Rattle.std.specs.Cmp.Lexicographic.{slice_cmp}
use Rattle.std.specs.BTreeMap.{get_by, UpdatesBy}
use Rattle.std.proofs.lemmas.Map.Text.{btree_map_updates_str}
use Rattle.mm_list.specs.Facts.{drop_at}
use Rattle.mm_tree.specs.declared.Attribute.{Attribute}
use Rattle.mm_xml.specs.Inside.Distinct.{differ_from}
use Rattle.mm_xml.specs.Syntax.{differ}
use Rattle.mm_xml.proofs.Seens.{flip, differ_is}

abbrev Names : Type 0
Names = BTreeMap (Bor (List ℕ)) (Unit {0})

abbrev found : Names → List ℕ → Option (Unit {0})
found m q = get_by (λ k. slice_cmp nat_cmp q k.now) m

abbrev pub Holds : Names → List (List ℕ) → Type 0
Holds m names = (q : List ℕ) → is_some (found m q) ≡ list_any (λ n. bytes_eq q n) names

added : (b : Bool) (o : Option (Unit {0})) → is_some (cond b (Some tt) o) ≡ (b || is_some o)
added true o = refl
added false o = refl

pub holds_more : (n : List ℕ) (names : List (List ℕ)) (m m' : Names) → UpdatesBy (λ x y. slice_cmp nat_cmp x.now y.now) (λ k. slice_cmp nat_cmp n k.now) m m' (Some tt) → Holds m names → Holds m' (n ∷ names)
holds_more n names m m' u h q =
    ap is_some (btree_map_updates_str n m m' (Some tt) u q)
    ∙ added (bytes_eq n q) (found m q)
    ∙ (λ j. flip n q j || h q j)

abbrev pub left : List (List ℕ) → List Attribute → Bool
left names attributes = differ_from names (map (λ a. a.name) attributes)

next_left : (names : List (List ℕ)) (attributes : List Attribute) (i : ℕ) (a : Attribute) → i < length attributes → a ≡ get_or attributes i a
    → left names (drop i attributes) ≡ (not (list_any (λ n. bytes_eq a.name n) names) && left (a.name ∷ names) (drop (i + 1) attributes))
next_left names attributes i a lt e = ap (λ (xs : List Attribute). left names xs) (drop_at attributes i a lt e)

-- a name that wasn't seen
pub goes_on : (names : List (List ℕ)) (attributes : List Attribute) (i : ℕ) (a : Attribute) (b : Bool) → i < length attributes → a ≡ get_or attributes i a → list_any (λ n. bytes_eq a.name n) names ≡ b → b ≡ false
    → left names (drop i attributes) ≡ differ attributes → left (a.name ∷ names) (drop (i + 1) attributes) ≡ differ attributes
goes_on names attributes i a b lt e is h before = sym (next_left names attributes i a lt e ∙ ap (λ s. not s && left (a.name ∷ names) (drop (i + 1) attributes)) (is ∙ h)) ∙ before

-- a name that was seen
pub seen_twice : (names : List (List ℕ)) (attributes : List Attribute) (i : ℕ) (a : Attribute) (b : Bool) → i < length attributes → a ≡ get_or attributes i a → list_any (λ n. bytes_eq a.name n) names ≡ b → b ≡ true
    → left names (drop i attributes) ≡ differ attributes → false ≡ differ attributes
seen_twice names attributes i a b lt e is h before = sym (next_left names attributes i a lt e ∙ ap (λ s. not s && left (a.name ∷ names) (drop (i + 1) attributes)) (is ∙ h)) ∙ before

pub all_differ : (attributes : List Attribute) → left [] attributes ≡ differ attributes
all_differ attributes = differ_is (map (λ a. a.name) attributes)
