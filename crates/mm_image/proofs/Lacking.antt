-- A reader stops at the field where one that it reads from stopped.
use Rattle.std.proofs.Common.{◌≡◌, ℕ, List, ap}
use Rattle.mm_image.specs.declared.fields.Lack.{Lack}
use Rattle.mm_image.specs.declared.fields.Lack.TheVariants as lack
use Rattle.mm_image.specs.Fields.{Field, Short, Wrong, ◌>>=◌, ended}
use Rattle.mm_image.specs.Inside.Getting.{Lacks, LacksIfRoom}

pub by_lack : {A B : Type 0} (l : Lack) (f : Field A) (g : Field B) → (f ≡ Short → g ≡ Short) → (f ≡ Wrong → g ≡ Wrong) → Lacks l f → Lacks l g
by_lack lack.Short f g s w e = s e
by_lack lack.Wrong f g s w e = w e
by_lack lack.Memory f g s w e = absurd e

by_room : {A B : Type 0} (l : Lack) (f : Field A) (g : Field B) → (f ≡ Short → g ≡ Short) → (f ≡ Wrong → g ≡ Wrong) → LacksIfRoom l f → LacksIfRoom l g
by_room lack.Short f g s w e = s e
by_room lack.Wrong f g s w e = w e
by_room lack.Memory f g s w e = tt

pub room : {A : Type 0} (l : Lack) (f : Field A) → Lacks l f → LacksIfRoom l f
room lack.Short f e = e
room lack.Wrong f e = e
room lack.Memory f e = tt

pub lacks_on : {A B : Type 0} (l : Lack) (f : Field A) (g : A → List ℕ → Field B) → Lacks l f → Lacks l (f >>= g)
lacks_on {A} l f g e = by_lack l f (f >>= g) (ap (λ (t : Field A). t >>= g)) (ap (λ (t : Field A). t >>= g)) e

pub room_on : {A B : Type 0} (l : Lack) (f : Field A) (g : A → List ℕ → Field B) → LacksIfRoom l f → LacksIfRoom l (f >>= g)
room_on {A} l f g e = by_room l f (f >>= g) (ap (λ (t : Field A). t >>= g)) (ap (λ (t : Field A). t >>= g)) e

pub room_ended : {A : Type 0} (l : Lack) (f : Field A) → LacksIfRoom l f → LacksIfRoom l (ended f)
room_ended l f e = by_room l f (ended f) (ap ended) (ap ended) e
