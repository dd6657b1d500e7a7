-- What the program's readers give: a field that is right, with the bytes after it, or why there is none.
use Rattle.std.specs.Prelude.{ℕ, ◌≡◌, List, [], Result, Ok, Err}
use Rattle.std.specs.Borrow.{Bor}
use Rattle.mm_image.specs.declared.fields.Lack.{Lack}
use Rattle.mm_image.specs.declared.fields.Lack.TheVariants.{Short, Wrong, Memory}
use Rattle.mm_image.specs.Fields as fields
use Rattle.mm_image.specs.Fields.{Field, Right}

-- why no field is right
abbrev pub Lacks : {A : Type 0} → Lack → Field A → Type 0
Lacks Short field = field ≡ fields.Short
Lacks Wrong field = field ≡ fields.Wrong
Lacks Memory field = ⊥

-- the same of a reader that takes memory
abbrev pub LacksIfRoom : {A : Type 0} → Lack → Field A → Type 0
LacksIfRoom Short field = field ≡ fields.Short
LacksIfRoom Wrong field = field ≡ fields.Wrong
LacksIfRoom Memory field = Unit {0}

abbrev pub Gets : {A : Type 0} → Result (A × Bor (List ℕ)) Lack → Field A → Type 0
Gets (Ok x) field = field ≡ Right x.0 x.1.now
Gets (Err lack) field = Lacks lack field

-- the same for what is lent
abbrev pub Lends : Result (Bor (List ℕ) × Bor (List ℕ)) Lack → Field (List ℕ) → Type 0
Lends (Ok x) field = field ≡ Right x.0.now x.1.now
Lends (Err lack) field = Lacks lack field

abbrev pub GetsIfRoom : {A : Type 0} → Result (A × Bor (List ℕ)) Lack → Field A → Type 0
GetsIfRoom (Ok x) field = field ≡ Right x.0 x.1.now
GetsIfRoom (Err lack) field = LacksIfRoom lack field

-- of what no bytes follow
abbrev pub Ends : {A : Type 0} → Result A Lack → Field A → Type 0
Ends (Ok x) field = field ≡ Right x []
Ends (Err lack) field = LacksIfRoom lack field
