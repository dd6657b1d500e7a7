-- Labels with careted insertion, after ORDPATH (O'Neil, O'Neil, Pal, Cseri, Schaller, Westbury:
-- "ORDPATHs: Insert-Friendly XML Node Labels", SIGMOD 2004).
use Rattle.std.specs.Prelude.{ℕ, ℤ, pos, negsuc, ◌≤◌, ◌%◌, ◌==◌, Bool, true, false, ◌&&◌, IsTrue, ◌⊎◌, nat_lt, if◌then◌else◌, List, [], ◌∷◌, ◌++◌, ◌≡◌, refl, length, count_by, drop}
use Rattle.std.specs.Cmp.Lexicographic.{slice_cmp}
use Rattle.std.specs.List.{starts_with}
use Rattle.std.specs.Ordering.{int_cmp, int_eq}
use Rattle.std.specs.declared.cmp.Ordering.TheVariants.{Less}
use Rattle.mm_label.specs.Bytes.{bytes_of}

-- a component is a number from -4294975552 to 4294975551
abbrev pub is_in_range : ℤ → Bool
is_in_range (pos n) = nat_lt n 4294975552
is_in_range (negsuc n) = nat_lt n 4294975552

abbrev pub all_in_range : List ℤ → Bool
all_in_range [] = true
all_in_range (c ∷ cs) = is_in_range c && all_in_range cs

abbrev pub is_odd : ℤ → Bool
is_odd (pos n) = n % 2 == 1
is_odd (negsuc n) = n % 2 == 0

abbrev pub is_empty : List ℤ → Bool
is_empty [] = true
is_empty (c ∷ cs) = false

-- even numbers, then an odd one at the end
abbrev pub is_segment : List ℤ → Bool
is_segment [] = false
is_segment (c ∷ cs) = if is_odd c then is_empty cs else is_segment cs

-- a segment of components
pub record IsSegment (cs : List ℤ) : Type 0 where
  pub in_range : IsTrue (all_in_range cs)
  pub one : IsTrue (is_segment cs)

-- the last number is odd; of no number at all as b says
abbrev pub last_odd : Bool → List ℤ → Bool
last_odd b [] = b
last_odd b (c ∷ cs) = last_odd (is_odd c) cs

-- the most bytes that spell a label
abbrev pub label_limit : ℕ
label_limit = 512

-- one or more segments of components, of no more bytes than the limit
pub record IsLabel (cs : List ℤ) : Type 0 where
  pub in_range : IsTrue (all_in_range cs)
  pub ends_odd : IsTrue (last_odd false cs)
  pub short : length (bytes_of cs) ≤ label_limit

-- how many segments there are, each with its one odd number
abbrev pub level : List ℤ → ℕ
level cs = count_by is_odd cs

-- a comes before b in the order of labels, where a proper prefix comes first: document order
abbrev pub IsBefore : List ℤ → List ℤ → Type 0
IsBefore a b = slice_cmp int_cmp a b ≡ Less

-- a is an ancestor of b, or b itself
abbrev pub IsAncestorOrSelf : List ℤ → List ℤ → Type 0
IsAncestorOrSelf [] b = Unit {0}
IsAncestorOrSelf (x ∷ a) [] = ⊥
IsAncestorOrSelf (x ∷ a) (y ∷ b) = (x ≡ y) × IsAncestorOrSelf a b

-- the label is its parent and one segment
pub record IsParent (parent cs : List ℤ) : Type 0 where
  pub label : IsLabel parent
  pub segment : List ℤ
  pub one : IsTrue (is_segment segment)
  pub parts : cs ≡ parent ++ segment

-- x is y and one segment
abbrev pub is_child : List ℤ → List ℤ → Bool
is_child y x = starts_with int_eq x y && is_segment (drop (length y) x)

-- the label is what stands before its last segment, nothing or a label, and this segment
pub record IsLastSegment (cs front segment : List ℤ) : Type 0 where
  pub parts : cs ≡ front ++ segment
  pub one : IsTrue (is_segment segment)
  pub before : (front ≡ []) ⊎ (last_odd false front ≡ true)

-- the longest common front of two lists
abbrev pub common_front : List ℤ → List ℤ → List ℤ
common_front [] b = []
common_front (x ∷ a) [] = []
common_front (x ∷ a) (y ∷ b) = if int_eq x y then x ∷ common_front a b else []

-- c before the whole segments behind it
abbrev pub onto_whole : ℤ → List ℤ → List ℤ
onto_whole c [] = if is_odd c then c ∷ [] else []
onto_whole c (d ∷ ds) = c ∷ d ∷ ds

-- the longest front of whole segments: what stands after the last odd number is cut off
abbrev pub whole : List ℤ → List ℤ
whole [] = []
whole (c ∷ cs) = onto_whole c (whole cs)

-- the longest common front of whole segments: the label of the lowest common ancestor, or nothing
abbrev pub lca : List ℤ → List ℤ → List ℤ
lca a b = whole (common_front a b)

segments_apart : lca (pos 1 ∷ pos 2 ∷ pos 1 ∷ pos 3 ∷ []) (pos 1 ∷ pos 2 ∷ pos 3 ∷ []) ≡ pos 1 ∷ []
segments_apart = refl

trees_apart : lca (pos 2 ∷ pos 1 ∷ []) (pos 2 ∷ pos 3 ∷ []) ≡ []
trees_apart = refl

-- ---- bytes

-- x stands at the front of y
abbrev pub IsPrefix : List ℕ → List ℕ → Type 0
IsPrefix x y = (rest : List ℕ) × (y ≡ x ++ rest)

abbrev pub SpellsNoLabel : List ℕ → Type 0
SpellsNoLabel bytes = (cs : List ℤ) → IsLabel cs → bytes_of cs ≡ bytes → ⊥
