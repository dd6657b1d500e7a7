-- Chunks that were gathered: of each node its label and its pieces.
use Rattle.std.specs.Prelude.{ℕ, ℤ, Bool, true, false, ◌≡◌, ◌<◌, ◌≤◌, ◌^◌, List, [], ◌∷◌, ◌++◌, length, map, flat_map, Option, Some, None}
use Rattle.mm_keeper.specs.Entries.{Entries, Entry}
use Rattle.mm_label.specs.Label.{IsLabel}
use Rattle.mm_tree.specs.Numbering.{Labelled}
use Rattle.mm_tree.specs.Validity.{is_valid_kind}
use Rattle.mm_image.specs.declared.gathering.Group.{Group}
use Rattle.mm_image.specs.Content.{content, piece_limit}
use Rattle.mm_image.specs.Image.{chunks_of}
use Rattle.mm_image.specs.Keys.{chunk_key}
use Rattle.mm_image.specs.Inside.Cutting.{numbered, pieces_of}

abbrev pub group_chunks : Group → Entries
group_chunks g = numbered g.label 0 g.pieces

abbrev pub gathered : List Group → Entries
gathered groups = flat_map group_chunks groups

-- some pieces, each as long as may be, of which the last may be shorter
abbrev pub IsCut : List (List ℕ) → Type 0
IsCut [] = ⊥
IsCut (p ∷ []) = (1 ≤ length p) × (length p ≤ piece_limit)
IsCut (p ∷ (q ∷ ps)) = (length p ≡ piece_limit) × IsCut (q ∷ ps)

pub record IsGroup (g : Group) : Type 0 where
  pub label : IsLabel g.label
  pub cut : IsCut g.pieces
  pub few : length g.pieces ≤ 2 ^ 32

abbrev pub AreGroups : List Group → Type 0
AreGroups [] = Unit {0}
AreGroups (g ∷ gs) = IsGroup g × AreGroups gs

-- nodes each of which can be stored
abbrev pub CanBeStored : List Labelled → Type 0
CanBeStored [] = Unit {0}
CanBeStored (e ∷ es) = IsLabel e.label × (is_valid_kind e.kind ≡ true) × CanBeStored es

-- no chunks of nodes begin with these
abbrev pub BeginNone : Entries → Type 0
BeginNone es = (nodes : List Labelled) (more : Entries) → CanBeStored nodes → flat_map chunks_of nodes ≡ es ++ more → ⊥

-- a node as it is gathered
abbrev pub as_group : Labelled → Group
as_group e = record { label = e.label; pieces = pieces_of (content e.kind) }

-- the nodes that were gathered, if they are such that can be stored
abbrev pub Tells : List Group → Option (List Labelled) → Type 0
Tells groups None = (nodes : List Labelled) → CanBeStored nodes → map as_group nodes ≡ groups → ⊥
Tells groups (Some nodes) = CanBeStored nodes × (map as_group nodes ≡ groups)

-- one entry more was gathered, unless no chunks of nodes begin so
abbrev pub Takes : List Group → List Group → Entry → Bool → Type 0
Takes old new e true = (gathered new ≡ gathered old ++ e ∷ []) × AreGroups new
Takes old new e false = BeginNone (gathered old ++ e ∷ [])

-- a key is that of a chunk
pub record IsChunk (key : List ℕ) : Type 0 where
  pub label : List ℤ
  pub number : ℕ
  pub is : key ≡ chunk_key label number
  pub good : IsLabel label
  pub few : number < 2 ^ 32

-- the label and the number of a chunk key, if it is one
abbrev pub PlaceOf : List ℕ → Option (List ℤ × ℕ) → Type 0
PlaceOf key None = IsChunk key → ⊥
PlaceOf key (Some p) = IsLabel p.0 × (key ≡ chunk_key p.0 p.1)
