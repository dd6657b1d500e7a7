-- The subtree at a label: which ones there may be, and where its chunks stand in a map.
use Rattle.std.specs.Prelude.{ℕ, ℤ, ◌∷◌, ◌||◌, ◌&&◌, ◌≡◌, Bool, true, List, [], None, drop, filter, if◌then◌else◌, nat_eq, nat_lt, nat_le, ⊤}
use Rattle.std.specs.List.{starts_with}
use Rattle.std.specs.Ordering.{int_eq}
use Rattle.std.specs.Cmp.Lexicographic.{pointwise}
use Rattle.mm_host.specs.declared.damage.Damage.TheVariants as damage
use Rattle.mm_host.specs.declared.damage.Fault.{Fault}
use Rattle.mm_host.specs.declared.damage.Fault.TheVariants as fault
use Rattle.mm_keeper.specs.Entries.{Entries, Entry, rank}
use Rattle.mm_label.specs.Bytes.{bytes_of}
use Rattle.mm_label.specs.Label.{level}
use Rattle.mm_tree.specs.Forests.{are_labelled, has_valid_kind, level_limit}
use Rattle.mm_tree.specs.Numbering.{Labelled, has_room}
use Rattle.mm_tree.specs.Trees.{Tree, every, one}
use Rattle.mm_tree.specs.Validity.{is_element}
use Rattle.mm_image.specs.Image.{chunks}
use Rattle.mm_image.specs.Keys.{chunk_key}

abbrev pub is_shallow : Labelled → Bool → Bool
is_shallow e has_children = nat_le (level e.label) level_limit

-- the tree may stand at the label in a well-formed forest: its root has the label, the labels below tell where their nodes stand, all labels fit and
-- have no more levels than the limit, kinds are valid and texts have no children, and on the first level stands an element
abbrev pub is_subtree : List ℤ → Tree Labelled → Bool
is_subtree label t =
    pointwise int_eq label t.0.label && (are_labelled label None t.1 && (every has_room (one t) && (every has_valid_kind (one t) && (every is_shallow (one t) && (is_element t.0.kind || nat_lt 1 (level label))))))

-- the key begins with 01 and these bytes
abbrev pub begins : List ℕ → Entry → Bool
begins front e = starts_with nat_eq e.0 (1 ∷ front)

-- the entries whose key begins with 01 and the label's bytes
abbrev pub at_or_below : List ℤ → Entries → Entries
at_or_below label m = filter (begins (bytes_of label)) m

-- the first entries, as long as their keys begin so
abbrev pub leading : List ℕ → Entries → Entries
leading front [] = []
leading front (e ∷ m) = if begins front e then e ∷ leading front m else []

-- the entries from the node's first chunk on, as long as their keys begin with 01 and the label's bytes
abbrev pub run_of : List ℤ → Entries → Entries
run_of label m = leading (bytes_of label) (drop (rank m (chunk_key label 0)) m)

-- these are the chunks of a tree that may stand at the label
pub record IsSubtree (label : List ℤ) (t : Tree Labelled) (es : Entries) : Type 0 where
  pub tree : is_subtree label t ≡ true
  pub chunks : es ≡ chunks (one t)

-- damage is told with a key alone, and only where the entries are those of no subtree at the label
abbrev pub NamesKey : List ℤ → Entries → Fault → Type 0
NamesKey label es (fault.Damaged (damage.Key key)) = (t : Tree Labelled) → IsSubtree label t es → ⊥
NamesKey label es (fault.Damaged (damage.Cut place at needed held)) = ⊥
NamesKey label es (fault.Damaged (damage.Digest at stored found)) = ⊥
NamesKey label es (fault.Damaged (damage.Sort at stored due)) = ⊥
NamesKey label es (fault.Damaged (damage.Size at stored least most)) = ⊥
NamesKey label es (fault.Damaged (damage.Page page why stored due)) = ⊥
NamesKey label es fault.DiskFault = ⊤
NamesKey label es fault.Spent = ⊤
NamesKey label es fault.Memory = ⊤

-- no damage
abbrev pub IsUndamaged : Fault → Type 0
IsUndamaged (fault.Damaged d) = ⊥
IsUndamaged fault.DiskFault = ⊤
IsUndamaged fault.Spent = ⊤
IsUndamaged fault.Memory = ⊤
