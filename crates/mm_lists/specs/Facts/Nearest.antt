-- What a look-up finds, by order and fronts as recursions.
use Rattle.std.proofs.Common.{List, Option, Some, None}
use Rattle.mm_label.specs.Fronts.{Label, Le, Lt, Within}
use Rattle.mm_lists.specs.Lists.{IsLeft, IsRight, IsNext}
use Rattle.mm_label.specs.Facts.Order.{before_lt, le_before, le_of, lt_before}
use Rattle.mm_label.specs.Facts.Members.{contains_of, within_of}

-- the last at or before v
abbrev pub LeftMatch : List Label → Label → Option Label → Type 0
LeftMatch ms v None = (m : Label) → Within m ms → Le m v → ⊥
LeftMatch ms v (Some l) = Within l ms × Le l v × ((m : Label) → Within m ms → Le m v → Le m l)

-- the first at or after v
abbrev pub RightMatch : List Label → Label → Option Label → Type 0
RightMatch ms v None = (m : Label) → Within m ms → Le v m → ⊥
RightMatch ms v (Some r) = Within r ms × Le v r × ((m : Label) → Within m ms → Le v m → Le r m)

-- the first after v
abbrev pub NextMatch : List Label → Label → Option Label → Type 0
NextMatch ms v None = (m : Label) → Within m ms → Lt v m → ⊥
NextMatch ms v (Some r) = Within r ms × Lt v r × ((m : Label) → Within m ms → Lt v m → Le r m)

pub left_match : (ms : List Label) (v : Label) (o : Option Label) → IsLeft ms v o → LeftMatch ms v o
left_match ms v None h = λ m w l. h m (contains_of m ms w) (le_before m v l)
left_match ms v (Some l) h = (within_of l ms h.0, le_of l v h.1, λ m w k. le_of m l (h.2 m (contains_of m ms w) (le_before m v k)))

pub right_match : (ms : List Label) (v : Label) (o : Option Label) → IsRight ms v o → RightMatch ms v o
right_match ms v None h = λ m w l. h m (contains_of m ms w) (le_before v m l)
right_match ms v (Some r) h = (within_of r ms h.0, le_of v r h.1, λ m w k. le_of r m (h.2 m (contains_of m ms w) (le_before v m k)))

pub next_match : (ms : List Label) (v : Label) (o : Option Label) → IsNext ms v o → NextMatch ms v o
next_match ms v None h = λ m w l. h m (contains_of m ms w) (lt_before v m l)
next_match ms v (Some r) h = (within_of r ms h.0, before_lt v r h.1, λ m w k. le_of r m (h.2 m (contains_of m ms w) (lt_before v m k)))
