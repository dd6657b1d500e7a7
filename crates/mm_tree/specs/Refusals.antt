-- The numbers and words of refusals.
use Rattle.std.specs.Prelude.{ℕ, List, codes}
use Rattle.mm_label.specs.declared.LabelError.{LabelError}
use Rattle.mm_label.specs.declared.LabelError.TheVariants as label_error
use Rattle.mm_tree.specs.declared.refusal.TreeError.{TreeError}
use Rattle.mm_tree.specs.declared.refusal.TreeError.TheVariants as error
use Rattle.mm_tree.specs.declared.refusal.Refusal.{Refusal}
use Rattle.mm_tree.specs.declared.refusal.Refusal.TheVariants.{Command, Size, Readonly, Label, Words, Many, Long, Absent, Leaf, Xml, Top, Deep, Room, Full}

abbrev pub number_of : Refusal → ℕ
number_of Command = 10
number_of Size = 11
number_of Readonly = 12
number_of Label = 13
number_of Words = 14
number_of Many = 15
number_of Long = 16
number_of Absent = 17
number_of Leaf = 18
number_of Xml = 19
number_of Top = 20
number_of Deep = 21
number_of Room = 22
number_of Full = 23

abbrev pub word_of : Refusal → List ℕ
word_of Command = codes "command"
word_of Size = codes "size"
word_of Readonly = codes "readonly"
word_of Label = codes "label"
word_of Words = codes "words"
word_of Many = codes "many"
word_of Long = codes "long"
word_of Absent = codes "absent"
word_of Leaf = codes "leaf"
word_of Xml = codes "xml"
word_of Top = codes "top"
word_of Deep = codes "deep"
word_of Room = codes "room"
word_of Full = codes "full"

-- a label that isn't there for want of memory, or for want of room
abbrev pub of_label : LabelError → TreeError
of_label label_error.Memory = error.Memory
of_label label_error.NotALabel = error.Refused Room
of_label (label_error.OutOfRange value) = error.Refused Room
of_label (label_error.Full length) = error.Refused Room
