-- The chunk entries of a map, read in the order of their keys: the nodes that they spell, or what is named.
use Rattle.std.specs.Prelude.{ℕ, ℤ, ◌+◌, ◌-◌, ◌^◌, Bool, true, false, ◌&&◌, ◌||◌, ◌==◌, not, nat_le, nat_lt, List, [], ◌∷◌, ◌++◌, length, take, drop, Option, Some, None, Result, Ok, Err, if◌then◌else◌}
use Rattle.std.specs.List.{list_any}
use Rattle.std.specs.Ordering.{int_eq}
use Rattle.std.specs.Cmp.Lexicographic.{pointwise}
use Rattle.std.specs.Str.{bytes_eq}
use Rattle.byteorder.specs.Endian.{big_number}
use Rattle.mm_keeper.specs.Entries.{Entries, Entry}
use Rattle.mm_label.specs.Components.{components}
use Rattle.mm_label.specs.Label.{is_child, last_odd, level}
use Rattle.mm_tree.specs.declared.plain.Kind.{Kind}
use Rattle.mm_tree.specs.declared.plain.Kind.TheVariants.{Element, Words}
use Rattle.mm_tree.specs.Forests.{level_limit}
use Rattle.mm_tree.specs.Numbering.{Labelled, fits}
use Rattle.mm_tree.specs.Validity.{is_element}
use Rattle.mm_image.specs.Content.{piece_limit}
use Rattle.mm_image.specs.Fields.{Field, Short, Wrong, Right, is_text, may_stand, standing}
use Rattle.mm_image.specs.Keys.{chunk_key}
use Rattle.mm_check.specs.declared.verdict.Named.{Named}

-- ---- chunk keys

-- where a chunk stands: its node's label, and its number
pub record Place : Type 0 where
  pub label : List ℤ
  pub number : ℕ

-- what stands where a chunk key has its label and its number
abbrev pub place_in : List ℕ → Place
place_in key = record { label = components (take (length key - 6) (drop 1 key)); number = big_number 4 (drop (length key - 4) key) }

abbrev pub is_label : List ℤ → Bool
is_label label = last_odd false label && fits label

-- the key is that of a chunk at this place
abbrev pub is_place : Place → List ℕ → Bool
is_place p key = is_label p.label && (nat_lt p.number (2 ^ 32) && bytes_eq (chunk_key p.label p.number) key)

-- the place of a chunk key; none of any other key
unfoldable pub place_of : List ℕ → Option Place
place_of key = if is_place (place_in key) key then Some (place_in key) else None

-- ---- what is named

-- an entry that is not due
abbrev pub not_due : Entry → Named
not_due e = record { key = e.0; stored = Some e.1; due = None }

-- ---- nodes that are read piece by piece

-- A node of which pieces were read: the number of the last one and its bytes, and the bytes of them all.
pub record Open : Type 0 where
  pub label : List ℤ
  pub number : ℕ
  pub last : List ℕ
  pub content : List ℕ

-- What was read: the nodes that have ended, the latest first, and the one that is being read.
pub record Progress : Type 0 where
  pub nodes : List Labelled
  pub node : Option Open

infixl 10 ◌&>◌
abbrev pub ◌&>◌ : {A B : Type 0} → Result A Named → (A → Result B Named) → Result B Named
(Ok x) &> f = f x
(Err b) &> f = Err b

abbrev pub ok_if : {A : Type 0} → Bool → A → Named → Result A Named
ok_if true x b = Ok x
ok_if false x b = Err b

-- the last piece; and the piece after it, whose bytes are not known
abbrev pub last_piece : Open → Named
last_piece o = not_due (chunk_key o.label o.number, o.last)

abbrev pub next_piece : Open → Named
next_piece o = record { key = chunk_key o.label (o.number + 1); stored = None; due = None }

-- a content that is not whole goes on in a next piece, where there may be one
abbrev pub not_whole : Open → Named
not_whole o = if (length o.last == piece_limit) && nat_lt o.number (2 ^ 32 - 1) then next_piece o else last_piece o

-- the kind of a node that ends here; a text is judged now
abbrev pub kind_of : Field Kind → Open → Result Kind Named
kind_of Short o = Err (not_whole o)
kind_of Wrong o = Err (last_piece o)
kind_of (Right (Element name attributes) rest) o = Ok (Element name attributes)
kind_of (Right (Words text) rest) o = ok_if (is_text text) (Words text) (last_piece o)

abbrev pub ended_node : Open → Result Labelled Named
ended_node o = kind_of (standing o.content) o &> λ kind. Ok (record { label = o.label; kind = kind })

abbrev pub ended : List Labelled → Option Open → Result (List Labelled) Named
ended nodes None = Ok nodes
ended nodes (Some o) = ended_node o &> λ e. Ok (e ∷ nodes)

-- some bytes, no more than a piece has
abbrev pub is_piece : List ℕ → Bool
is_piece value = nat_le 1 (length value) && nat_le (length value) piece_limit

-- the label is one segment, or that of one of these elements and one segment
abbrev pub hangs : List Labelled → List ℤ → Bool
hangs nodes label = is_child [] label || list_any (λ e. is_element e.kind && is_child e.label label) nodes

abbrev pub begins_text : List ℕ → Bool
begins_text [] = false
begins_text (b ∷ bs) = b == 84

-- a first piece of a node that may come after these
abbrev pub is_first : List Labelled → Place → List ℕ → Bool
is_first nodes p value =
    (p.number == 0) && (hangs nodes p.label && (nat_le (level p.label) level_limit && (is_piece value && (may_stand value && not ((level p.label == 1) && begins_text value)))))

-- the next piece of a node
abbrev pub is_next : Open → Place → List ℕ → Bool
is_next o p value = (p.number == o.number + 1) && ((length o.last == piece_limit) && (is_piece value && may_stand (o.content ++ value)))

abbrev pub started : List Labelled → Place → Entry → Result Progress Named
started nodes p e =
    ok_if (is_first nodes p e.1) (record { nodes = nodes; node = Some (record { label = p.label; number = p.number; last = e.1; content = e.1 }) }) (not_due e)

abbrev pub continued : List Labelled → Open → Place → Entry → Result Progress Named
continued nodes o p e =
    ok_if (is_next o p e.1) (record { nodes = nodes; node = Some (record { label = o.label; number = p.number; last = e.1; content = o.content ++ e.1 }) }) (not_due e)

-- one entry more; one that is no chunk of the node that is being read ends this node
abbrev pub step_at : List Labelled → Option Open → Option Place → Entry → Result Progress Named
step_at nodes node None e = ended nodes node &> λ _. Err (not_due e)
step_at nodes None (Some p) e = started nodes p e
step_at nodes (Some o) (Some p) e =
    if pointwise int_eq o.label p.label then continued nodes o p e else (ended nodes (Some o) &> λ nodes. started nodes p e)

-- the nodes that the entries spell, the latest first; or what is named
abbrev pub read : List Labelled → Option Open → Entries → Result (List Labelled) Named
read nodes node [] = ended nodes node
read nodes node (e ∷ es) = step_at nodes node (place_of e.0) e &> λ r. read r.nodes r.node es
