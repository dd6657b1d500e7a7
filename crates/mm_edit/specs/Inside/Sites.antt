-- The labels around a new root, as the program holds them, and why a place can't be told.
use Rattle.std.specs.Prelude.{⊤}
use Rattle.mm_keeper.specs.Entries.{Entries}
use Rattle.mm_label.specs.Refusals.{front_of}
use Rattle.mm_tree.specs.Edits.{Gap}
use Rattle.mm_edit.specs.declared.plan.EditError.{EditError}
use Rattle.mm_edit.specs.declared.plan.EditError.TheVariants as error
use Rattle.mm_edit.specs.declared.sites.Site.{Site}
use Rattle.mm_edit.specs.Inside.Placing.{BlamesHeld}

abbrev pub gap_in : Site → Gap
gap_in s = record { parent = front_of s.parent; left = s.left; right = s.right }

-- a refusal, or damage that names a key of the map which is no entry's
abbrev pub BlamesFound : Entries → EditError → Type 0
BlamesFound m (error.Refused r) = ⊤
BlamesFound m (error.Fault f) = BlamesHeld m f
