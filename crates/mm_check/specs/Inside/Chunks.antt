-- The chunk entries of a map, gone over in order.
use Rattle.std.specs.Prelude.{ℕ, ◌≡◌, ◌≤◌, ◌+◌, Bool, true, false, List, [], ◌∷◌, ◌++◌, drop, length, option_map, Option, Some, None, Result, Ok, Err}
use Rattle.mm_keeper.specs.Entries.{Entries, Entry, rank, weight_of}
use Rattle.mm_tree.specs.Numbering.{Labelled}
use Rattle.mm_image.specs.Subtrees.{IsUndamaged}
use Rattle.mm_check.specs.declared.reader.Reader.{Reader}
use Rattle.mm_check.specs.declared.stop.Stop.{Stop}
use Rattle.mm_check.specs.declared.stop.Stop.TheVariants as stop
use Rattle.mm_check.specs.Blame.{begins_chunk, chunks_in}
use Rattle.mm_check.specs.Laws.{AreBytes, AreValues}
use Rattle.mm_check.specs.Reading.{Open, Progress, read}
use Rattle.mm_check.specs.Inside.Reader.{Comes, HasStepped, Kept, Stands, outcome}
use Rattle.mm_check.specs.Inside.Stopping.{from}

-- an entry is read where it is a chunk
abbrev pub Reads : Entry → Reader → Reader → Result Bool Stop → Type 0
Reads e old new (Ok true) = (begins_chunk e ≡ true) × AreBytes e.1 × ((p : Progress) → Stands old p → Comes p.nodes p.node e.0 → HasStepped p e new)
Reads e old new (Ok false) = (begins_chunk e ≡ false) × (new ≡ old)
Reads e old new (Err (stop.Named n)) = (begins_chunk e ≡ true) × ((p : Progress) → Stands old p → Comes p.nodes p.node e.0 → (es : Entries) → outcome p (e ∷ es) ≡ Err n)
Reads e old new (Err (stop.Fault f)) = IsUndamaged f

abbrev pub AreChunks : Entries → Type 0
AreChunks [] = Unit {0}
AreChunks (e ∷ es) = (begins_chunk e ≡ true) × AreChunks es

-- the first of these, if there is one, comes after what was read
abbrev pub FirstComes : List Labelled → Option Open → Entries → Type 0
FirstComes nodes reading [] = Unit {0}
FirstComes nodes reading (e ∷ es) = Comes nodes reading e.0

-- of the chunks of a map those before a place were read
pub record Reached (m : Entries) (r : Reader) (at : Option ℕ) : Type 0 where
  pub nodes : List Labelled
  pub node : Option Open
  pub done : Entries
  pub stands : Stands r (record { nodes = nodes; node = node })
  pub split : drop (rank m (1 ∷ [])) m ≡ done ++ from m at
  pub chunks : AreChunks done
  pub values : AreValues done
  pub comes : FirstComes nodes node (from m at)
  pub same : outcome (record { nodes = nodes; node = node }) (chunks_in (from m at)) ≡ read [] None (chunks_in m)

-- the entry at a place was passed, or is no chunk
abbrev pub Passes : {S : Type 0} → Entries → (S → ℕ) → S → Reader → Result (Option (Option S)) Stop → Type 0
Passes m place spot new (Ok (Some next)) = Reached m new (option_map place next)
Passes m place spot new (Ok None) = Reached m new (Some (place spot)) × (chunks_in (from m (Some (place spot))) ≡ [])
Passes m place spot new (Err (stop.Named n)) = read [] None (chunks_in m) ≡ Err n
Passes m place spot new (Err (stop.Fault f)) = IsUndamaged f

-- the entries from the next place on weigh less and are one fewer
pub record Weighs (m : Entries) (at : ℕ) (next : Option ℕ) : Type 0 where
  pub weight : 1 + weight_of (from m next) ≤ weight_of (from m (Some at))
  pub count : 1 + length (from m next) ≤ length (from m (Some at))

-- all chunks were read
abbrev pub Runs : {S : Type 0} → Entries → (S → ℕ) → Reader → Result (Option S) Stop → Type 0
Runs m place new (Ok next) = Reached m new (option_map place next) × (chunks_in (from m (option_map place next)) ≡ [])
Runs m place new (Err (stop.Named n)) = read [] None (chunks_in m) ≡ Err n
Runs m place new (Err (stop.Fault f)) = IsUndamaged f

-- the nodes that the chunks of a map spell, and the place behind the chunks
pub record HasSpelled (m : Entries) (r : Reader) (at : Option ℕ) : Type 0 where
  pub nodes : List Labelled
  pub are : read [] None (chunks_in m) ≡ Ok nodes
  pub values : AreValues (chunks_in m)
  pub number : r.nodes ≡ length nodes
  pub kept : Kept r.lists nodes
  pub split : drop (rank m (1 ∷ [])) m ≡ chunks_in m ++ from m at

abbrev pub Spells : {S : Type 0} → Entries → (S → ℕ) → Reader → Result (Option S) Stop → Type 0
Spells m place new (Ok next) = HasSpelled m new (option_map place next)
Spells m place new (Err (stop.Named n)) = read [] None (chunks_in m) ≡ Err n
Spells m place new (Err (stop.Fault f)) = IsUndamaged f
