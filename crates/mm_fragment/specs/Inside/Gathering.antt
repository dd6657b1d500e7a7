-- The gathering of the matches below a node.
use Rattle.std.specs.Prelude.{ℕ, ℤ, ◌+◌, ◌≤◌, List, [], ◌∷◌, ◌++◌, ◌≡◌, map, filter, length, Option, Some, None, AllPairs, IsTrue, if◌then◌else◌}
use Rattle.mm_label.specs.Label.{IsBefore}
use Rattle.mm_label.specs.Fronts.{Label, Le, Lt, Apart, Within}
use Rattle.mm_match.specs.declared.mark.Mark.{Mark}
use Rattle.mm_tree.specs.Trees.{Trees, none, node, Tree}
use Rattle.mm_tree.specs.Numbering.{Labelled}
use Rattle.mm_tree.specs.Forests.{is_well_formed}
use Rattle.mm_tree.specs.Edits.{found}
use Rattle.mm_tree.specs.Search.{has, is_full, list_of, worded}
use Rattle.mm_tree.specs.Fragments.{Named, bare, bares}
use Rattle.mm_fragment.specs.Matching.{Tells, open_nodes}
use Rattle.mm_fragment.specs.Showing.{named_in}

-- the tree is the forest's at the label, and the answers tell which of its root's children are full
pub record IsAsked (f : Trees Labelled) (x : List ℤ) (t : Tree Labelled) (answers : List (List ℤ)) (query : List (List ℕ)) : Type 0 where
  pub formed : IsTrue (is_well_formed f)
  pub here : found x f ≡ Some t
  pub rising : AllPairs IsBefore answers
  pub tells : Tells answers query (named_in t)

-- the nodes that hold the word themselves, but those at or below a full child of the root
abbrev pub open_holders : List ℕ → List (List ℕ) → Tree Named → List Named
open_holders w query t = filter (λ e. has (bare e) w) (open_nodes query t)

-- their labels
abbrev pub open_list : List ℕ → List (List ℕ) → Tree Named → List Label
open_list w query t = map (λ e. e.label) (open_holders w query t)

-- the labels of the full ones among siblings
abbrev pub full_list : List (List ℕ) → Trees Named → List Label
full_list query none = []
full_list query (node e inner rest) = (if is_full query (bare e) (bares inner) then e.label ∷ [] else []) ++ full_list query rest

-- a mark for each of the labels
abbrev pub marked_with : ℕ → List Label → List Mark
marked_with bit xs = map (λ x. record { label = x; mask = bit }) xs

-- a walk over a list stands at the first node that comes after those that were taken, at or before all that
-- are to be taken, or at the end
abbrev pub StandsAt : List Label → Label → List Label → List Label → Option Label → Type 0
StandsAt ms x done rest None = rest ≡ []
StandsAt ms x done rest (Some a) = Within a ms × Le x a × ((m : Label) → Within m rest → Le a m) × ((m : Label) → Within m done → Lt m a)

-- and all children that were passed lie before it
abbrev pub StandsPast : List Label → Option Label → Type 0
StandsPast gone None = Unit {0}
StandsPast gone (Some a) = (k : Label) → Within k gone → Apart k a

-- a walk over a list below x: some of the free labels were taken, and some of the full children passed
pub record Walked (ms : List Label) (x : Label) (free full done : List Label) (passed : ℕ) (at : Option Label) : Type 0 where
  pub rest : List Label
  pub gone : List Label
  pub left : List Label
  pub taken : free ≡ done ++ rest
  pub skipped : full ≡ gone ++ left
  pub count : passed ≤ length gone
  pub here : StandsAt ms x done rest at
  pub past : StandsPast gone at

-- the walk over the list of a word below the root of the tree
abbrev pub WalkedBelow : Trees Labelled → Label → Tree Labelled → List (List ℕ) → List ℕ → List Label → ℕ → Option Label → Type 0
WalkedBelow f x t query w done passed at =
    Walked (list_of w (worded f)) x (open_list w query (named_in t)) (full_list query (named_in t).1) done passed at

-- what a step of the walk leaves: one label more is taken and marked, or one child more passed
pub record Passes (f : Trees Labelled) (x : Label) (t : Tree Labelled) (query : List (List ℕ)) (w : List ℕ) (bit : ℕ) (done : List Label) (passed : ℕ) (old new : List Mark) (at : Option Label) : Type 0 where
  pub more : List Label
  pub skips : ℕ
  pub walked : WalkedBelow f x t query w (done ++ more) (passed + skips) at
  pub one : length more + skips ≡ 1
  pub marks : new ≡ old ++ marked_with bit more
