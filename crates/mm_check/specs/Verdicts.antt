-- What a check tells of a map.
use Rattle.std.specs.Prelude.{◌≡◌, Some, IsTrue}
use Rattle.mm_keeper.specs.Entries.{Entries}
use Rattle.mm_tree.specs.Forests.{is_well_formed}
use Rattle.mm_tree.specs.Numbering.{Labelled}
use Rattle.mm_tree.specs.Trees.{Trees, nodes}
use Rattle.mm_image.specs.Image.{image}
use Rattle.mm_check.specs.declared.verdict.Verdict.{Verdict}
use Rattle.mm_check.specs.declared.verdict.Verdict.TheVariants.{Sound, Unsound}
use Rattle.mm_check.specs.Blame.{blame}

-- the map is the image of a well-formed forest with so many nodes; or this is what is named in it
abbrev pub Judges : Entries → Verdict → Type 0
Judges m (Sound count) = (f : Trees Labelled) × IsTrue (is_well_formed f) × (m ≡ image f) × (count ≡ nodes f)
Judges m (Unsound key stored due) = blame m ≡ Some (record { key = key; stored = stored; due = due })
