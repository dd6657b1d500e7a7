-- The elements above a label, from the top down.
use Rattle.std.specs.Prelude.{◌&&◌, Bool, true, List, [], ◌∷◌, ◌++◌, if◌then◌else◌}
use Rattle.mm_label.specs.Fronts.{Front, Label, Lt, is_front}
use Rattle.mm_label.specs.Label.{IsLabel}
use Rattle.mm_tree.specs.Numbering.{Labelled}
use Rattle.mm_tree.specs.Validity.{is_element}

abbrev pub AreLabels : List Label → Type 0
AreLabels [] = Unit {0}
AreLabels (y ∷ ys) = IsLabel y × AreLabels ys

-- all of these are at or above x
abbrev pub AreAbove : List Label → Label → Type 0
AreAbove [] x = Unit {0}
AreAbove (y ∷ ys) x = Front y x × AreAbove ys x

-- all of these come before x
abbrev pub AreBefore : List Label → Label → Type 0
AreBefore [] x = Unit {0}
AreBefore (y ∷ ys) x = Lt y x × AreBefore ys x

-- the label is at or above all of these
abbrev pub IsAbove : Label → List Label → Type 0
IsAbove y [] = Unit {0}
IsAbove y (z ∷ zs) = Front y z × IsAbove y zs

-- each is above those behind it, or the same
abbrev pub AreNested : List Label → Type 0
AreNested [] = Unit {0}
AreNested (y ∷ ys) = IsAbove y ys × AreNested ys

-- the last one is at or above x, if there is any
abbrev pub ends_above : Label → List Label → Bool
ends_above x [] = true
ends_above x (y ∷ []) = is_front y x
ends_above x (y ∷ z ∷ zs) = ends_above x (z ∷ zs)

-- of nodes that were read, the latest first: the labels of the elements at or above x, from the top down
abbrev pub path_to : Label → List Labelled → List Label
path_to x [] = []
path_to x (e ∷ nodes) = path_to x nodes ++ (if is_element e.kind && is_front e.label x then e.label ∷ [] else [])

-- those at or above the latest
abbrev pub path_here : List Labelled → List Label
path_here [] = []
path_here (e ∷ nodes) = path_to e.label (e ∷ nodes)

-- all of these nodes come before x
abbrev pub ComeBefore : List Labelled → Label → Type 0
ComeBefore [] x = Unit {0}
ComeBefore (e ∷ nodes) x = Lt e.label x × ComeBefore nodes x

-- nodes, the latest first, stand in the order of their labels
abbrev pub Descend : List Labelled → Type 0
Descend [] = Unit {0}
Descend (e ∷ nodes) = ComeBefore nodes e.label × Descend nodes
