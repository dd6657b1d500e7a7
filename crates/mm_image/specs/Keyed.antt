-- The program's entries as those of a map.
use Rattle.std.specs.Prelude.{List, map}
use Rattle.mm_keeper.specs.Entries.{Entries}
use Rattle.mm_image.specs.declared.entry.Entry.{Entry}

-- each as its key and its value
abbrev pub keyed : List Entry → Entries
keyed es = map (λ e. (e.key, e.value)) es
