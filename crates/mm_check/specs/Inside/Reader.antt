-- What a reader of chunk entries knows of the nodes that they spell. The pieces of a node are judged where it ends, or where something is named.
use Rattle.std.specs.Prelude.{ℕ, ℤ, zero, suc, ◌+◌, ◌*◌, ◌-◌, ◌^◌, ◌≡◌, ⊤, Bool, true, ◌&&◌, ◌==◌, not, nat_le, nat_lt, List, [], ◌∷◌, ◌++◌, length, take, drop, option_map, Option, Some, None, Result, Ok, Err, if◌then◌else◌}
use Rattle.std.specs.BTreeMap.{BTreeMap}
use Rattle.std.specs.List.{list_any}
use Rattle.std.specs.Str.{bytes_eq}
use Rattle.mm_keeper.specs.Entries.{Entries, Entry, below}
use Rattle.mm_label.specs.Fronts.{Label}
use Rattle.mm_label.specs.Label.{IsLabel, level}
use Rattle.mm_tree.specs.Forests.{level_limit}
use Rattle.mm_tree.specs.KeywordLists.{AreFilled, list_in}
use Rattle.mm_tree.specs.Numbering.{Labelled}
use Rattle.mm_tree.specs.Search.{own}
use Rattle.mm_image.specs.Content.{piece_limit}
use Rattle.mm_image.specs.Fields.{may_stand}
use Rattle.mm_image.specs.Keys.{chunk_key}
use Rattle.mm_check.specs.declared.place.Spot.{Spot}
use Rattle.mm_check.specs.declared.reader.Reader.{Reader}
use Rattle.mm_check.specs.declared.started.Started.{Started}
use Rattle.mm_check.specs.declared.stop.Stop.{Stop}
use Rattle.mm_check.specs.declared.stop.Stop.TheVariants as stop
use Rattle.mm_check.specs.declared.verdict.Named.{Named}
use Rattle.mm_check.specs.Reading.{Open, Place, Progress, ◌&>◌, begins_text, continued, ended, hangs, is_piece, last_piece, next_piece, not_due, read, started}
use Rattle.mm_check.specs.Inside.Path.{ComeBefore, Descend, path_here, path_to}

abbrev pub as_place : Spot → Place
as_place s = record { label = s.label; number = s.number }

-- ---- pieces

abbrev pub as_open : Started → Open
as_open s = record { label = s.label; number = s.number; last = drop (piece_limit * s.number) s.content.items; content = s.content.items }

-- the first of so many pieces, from this one on, with which the content is wrong
abbrev pub wrong_from : List ℤ → List ℕ → ℕ → ℕ → Option Named
wrong_from label content i zero = None
wrong_from label content i (suc n) = if may_stand (take (piece_limit * (i + 1)) content) then wrong_from label content (i + 1) n else Some (not_due (chunk_key label i, take piece_limit (drop (piece_limit * i) content)))

abbrev pub wrong_in : Open → Option Named
wrong_in o = wrong_from o.label o.content 0 (suc o.number)

-- a wrong piece is named before what comes behind it
abbrev pub unless_wrong : {A : Type 0} → Option Named → Result A Named → Result A Named
unless_wrong None r = r
unless_wrong (Some n) r = Err n

-- the wrong piece, or else this
abbrev pub or_named : Option Named → Named → Named
or_named None n = n
or_named (Some w) n = w

-- what is named where a content ends that is that of no kind and has no wrong piece
abbrev pub unfinished : Open → Named
unfinished o = if (length o.last == piece_limit) && (nat_lt o.number (2 ^ 32 - 1) && not (begins_text o.content)) then next_piece o else last_piece o

-- the number and the value are those of a next piece, but for what it spells
abbrev pub may_follow : Open → ℕ → List ℕ → Bool
may_follow o number value = (number == o.number + 1) && ((length o.last == piece_limit) && is_piece value)

-- a first piece may stand here, but for what it spells
abbrev pub may_begin : List Labelled → Place → List ℕ → Bool
may_begin nodes p value = (p.number == 0) && (hangs nodes p.label && (nat_le (level p.label) level_limit && (is_piece value && not ((level p.label == 1) && begins_text value))))

-- ---- what is named with entries that are still to come

abbrev pub judged : {A : Type 0} → Option Open → Result A Named → Result A Named
judged None r = r
judged (Some o) r = unless_wrong (wrong_in o) r

abbrev pub outcome : Progress → Entries → Result (List Labelled) Named
outcome p es = judged p.node (read p.nodes p.node es)

-- ---- words

-- the labels of the nodes that hold the word, of nodes with the latest first
abbrev pub holders : List ℕ → List Labelled → List (List ℤ)
holders w [] = []
holders w (e ∷ nodes) = holders w nodes ++ (if list_any (bytes_eq w) (own e.kind) then e.label ∷ [] else [])

abbrev Map : Type 0
Map = BTreeMap (List ℕ) (List (List ℤ))

abbrev pub AreNamed : List Labelled → Type 0
AreNamed [] = Unit {0}
AreNamed (e ∷ nodes) = IsLabel e.label × AreNamed nodes

-- what is kept of nodes that have ended
pub record Kept (lists : Map) (nodes : List Labelled) : Type 0 where
  pub held : (w : List ℕ) → list_in lists w ≡ holders w nodes
  pub filled : AreFilled lists
  pub order : Descend nodes
  pub labels : AreNamed nodes

-- ---- readers

abbrev pub way_of : List Labelled → Option Open → List Label
way_of nodes None = path_here nodes
way_of nodes (Some o) = path_to o.label nodes

abbrev pub IsLater : List Labelled → Option Open → Type 0
IsLater nodes None = Unit {0}
IsLater nodes (Some o) = ComeBefore nodes o.label × IsLabel o.label

-- how many nodes were begun
abbrev pub begun_of : List Labelled → Option Open → ℕ
begun_of nodes None = length nodes
begun_of nodes (Some o) = suc (length nodes)

-- the reader stands for what was read
pub record Stands (r : Reader) (p : Progress) : Type 0 where
  pub number : r.nodes ≡ begun_of p.nodes p.node
  pub kept : Kept r.lists p.nodes
  pub way : r.path ≡ way_of p.nodes p.node
  pub node : p.node ≡ option_map as_open r.node
  pub later : IsLater p.nodes p.node

-- the key comes after those that were read
abbrev pub Comes : List Labelled → Option Open → List ℕ → Type 0
Comes nodes None key = nodes ≡ []
Comes nodes (Some o) key = below (chunk_key o.label o.number) key ≡ true

-- a node ended after these
pub record HasEnded (nodes : List Labelled) (o : Open) (new : Reader) : Type 0 where
  pub node : Labelled
  pub label : node.label ≡ o.label
  pub ended : unless_wrong (wrong_in o) (ended nodes (Some o)) ≡ Ok (node ∷ nodes)
  pub kept : Kept new.lists (node ∷ nodes)
  pub way : new.path ≡ path_here (node ∷ nodes)

abbrev pub Ends : List Labelled → Open → Reader → Result (Unit {0}) Stop → Type 0
Ends nodes o new (Ok x) = HasEnded nodes o new
Ends nodes o new (Err (stop.Named n)) = unless_wrong (wrong_in o) (ended nodes (Some o)) ≡ Err n
Ends nodes o new (Err (stop.Fault f)) = ⊤

-- a node is begun after these
pub record HasBegun (nodes : List Labelled) (p : Place) (e : Entry) (new : Reader) : Type 0 where
  pub node : Open
  pub stands : Stands new (record { nodes = nodes; node = Some node })
  pub key : chunk_key node.label node.number ≡ e.0
  pub same : (es : Entries) → (started nodes p e &> λ r. read r.nodes r.node es) ≡ unless_wrong (wrong_in node) (read nodes (Some node) es)

abbrev pub Begins : List Labelled → Place → Entry → Reader → Result (Unit {0}) Stop → Type 0
Begins nodes p e new (Ok x) = HasBegun nodes p e new
Begins nodes p e new (Err (stop.Named n)) = started nodes p e ≡ Err n
Begins nodes p e new (Err (stop.Fault f)) = ⊤

-- one piece more of a node
pub record HasGrown (o : Open) (next : ℕ) (e : Entry) (new : Started) : Type 0 where
  pub label : new.label ≡ o.label
  pub number : new.number ≡ next
  pub same : (nodes : List Labelled) (es : Entries) → unless_wrong (wrong_in o) (continued nodes o (record { label = o.label; number = next }) e &> λ r. read r.nodes r.node es) ≡ unless_wrong (wrong_in (as_open new)) (read nodes (Some (as_open new)) es)

abbrev pub Grows : Open → ℕ → Entry → Result Started Stop → Type 0
Grows o number e (Ok new) = HasGrown o number e new
Grows o number e (Err (stop.Named n)) = (nodes : List Labelled) → unless_wrong (wrong_in o) (continued nodes o (record { label = o.label; number = number }) e) ≡ Err n
Grows o number e (Err (stop.Fault f)) = ⊤

-- one entry more
pub record HasStepped (p : Progress) (e : Entry) (new : Reader) : Type 0 where
  pub nodes : List Labelled
  pub node : Open
  pub stands : Stands new (record { nodes = nodes; node = Some node })
  pub key : chunk_key node.label node.number ≡ e.0
  pub same : (es : Entries) → outcome p (e ∷ es) ≡ unless_wrong (wrong_in node) (read nodes (Some node) es)

abbrev pub Steps : Progress → Entry → Reader → Result (Unit {0}) Stop → Type 0
Steps p e new (Ok x) = HasStepped p e new
Steps p e new (Err (stop.Named n)) = (es : Entries) → outcome p (e ∷ es) ≡ Err n
Steps p e new (Err (stop.Fault f)) = ⊤

-- the end of what is read
pub record HasFinished (p : Progress) (new : Reader) : Type 0 where
  pub nodes : List Labelled
  pub ended : outcome p [] ≡ Ok nodes
  pub number : new.nodes ≡ length nodes
  pub kept : Kept new.lists nodes

abbrev pub Finishes : Progress → Reader → Result (Unit {0}) Stop → Type 0
Finishes p new (Ok x) = HasFinished p new
Finishes p new (Err (stop.Named n)) = outcome p [] ≡ Err n
Finishes p new (Err (stop.Fault f)) = ⊤
