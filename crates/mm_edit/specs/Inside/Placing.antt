-- Where a new tree goes, by what single look-ups find.
use Rattle.std.specs.Prelude.{ℕ, ◌≡◌, ◌==◌, Bool, false, List, [], ◌∷◌, Option, Some, None, if◌then◌else◌}
use Rattle.mm_host.specs.declared.damage.Fault.{Fault}
use Rattle.mm_keeper.specs.Entries.{Entries, Entry}
use Rattle.mm_label.specs.Fronts.{Apart, Front, IsChild, Label, Le, Within}
use Rattle.mm_label.specs.Label.{IsLabel}
use Rattle.mm_tree.specs.Forests.{is_before}
use Rattle.mm_image.specs.Keys.{StandsFor, chunk_key}
use Rattle.mm_edit.specs.Blame.{Blames}

-- ---- what an entry that was found tells

-- the label in the key of a node's piece; none where nothing was found, or an entry of another sort
abbrev pub TellsLabel : Option Entry → Option Label → Type 0
TellsLabel None o = o ≡ None
TellsLabel (Some e) None = (r : List ℕ) → e.0 ≡ 1 ∷ r → ⊥
TellsLabel (Some e) (Some l) = IsLabel l × ((n : ℕ) × (e.0 ≡ chunk_key l n))

-- damage names the key that was found, and this is no entry's
abbrev pub BlamesKey : Option Entry → Fault → Type 0
BlamesKey None f = Blames (λ key. ⊥) f
BlamesKey (Some e) f = Blames (λ key. (key ≡ e.0) × StandsFor e.0 None) f

-- damage names a key of the map, and this is no entry's
abbrev pub BlamesHeld : Entries → Fault → Type 0
BlamesHeld m f = Blames (λ key. (e : Entry) × Within e m × (key ≡ e.0) × StandsFor key None) f

-- the first byte of a text's content
abbrev pub begins_text : List ℕ → Bool
begins_text [] = false
begins_text (b ∷ bs) = b == 84

abbrev pub is_text_in : Option Entry → Option Bool
is_text_in None = None
is_text_in (Some e) = Some (begins_text e.1)

-- ---- below a node

abbrev pub IsUnder : Label → Label → Type 0
IsUnder y d = Front y d × (d ≡ y → ⊥)

-- the child of y that is the label or above it; none where the label isn't below y
abbrev pub LeadsTo : Label → Option Label → Option Label → Type 0
LeadsTo y None o = o ≡ None
LeadsTo y (Some z) None = IsUnder y z → ⊥
LeadsTo y (Some z) (Some k) = IsUnder y z × IsChild y k × Front k z

-- A child of y, if that is what the entry leads to.
pub record FindsChild (y : Label) (found : Option Entry) (child : Option Label) : Type 0 where
  pub label : Option Label
  pub told : TellsLabel found label
  pub leads : LeadsTo y label child

-- ---- the labels of nodes around a gap

-- the last of these labels below y of which P holds, up to the child of y above it
abbrev pub IsLeft : List Label → Label → (Label → Type 0) → Option Label → Type 0
IsLeft ns y P None = (d : Label) → Within d ns → IsUnder y d → P d → ⊥
IsLeft ns y P (Some k) = IsChild y k × Within k ns × P k × ((d : Label) → Within d ns → IsUnder y d → P d → Apart k d → ⊥)

-- the first of these labels below y of which P holds
abbrev pub IsRight : List Label → Label → (Label → Type 0) → Option Label → Type 0
IsRight ns y P None = (d : Label) → Within d ns → IsUnder y d → P d → ⊥
IsRight ns y P (Some k) = IsChild y k × Within k ns × P k × ((d : Label) → Within d ns → IsUnder y d → P d → Le k d)

-- the last of these labels of which P holds
abbrev pub IsLast : List Label → (Label → Type 0) → Option Label → Type 0
IsLast ns P None = (d : Label) → Within d ns → P d → ⊥
IsLast ns P (Some z) = Within z ns × P z × ((d : Label) → Within d ns → P d → Le d z)

-- the first of these labels of which P holds
abbrev pub IsFirst : List Label → (Label → Type 0) → Option Label → Type 0
IsFirst ns P None = (d : Label) → Within d ns → P d → ⊥
IsFirst ns P (Some z) = Within z ns × P z × ((d : Label) → Within d ns → P d → Le z d)

-- ---- neighbours that stand in their order

abbrev pub kept_before : Label → Option Label → Option Label
kept_before x None = None
kept_before x (Some k) = if is_before k x then Some k else None

abbrev pub kept_after : Label → Option Label → Option Label
kept_after x None = None
kept_after x (Some k) = if is_before x k then Some k else None
