-- What is found at the front of bytes, and what the bytes that a label holds stand for.
use Rattle.std.specs.Prelude.{ℕ, ℤ, List, ◌≡◌, length, Option, Some, None}
use Rattle.std.specs.Borrow.{Bor}
use Rattle.mm_label.specs.Bytes.{bytes_of}
use Rattle.mm_label.specs.Components.{Found, components}
use Rattle.mm_label.specs.Label.{IsLabel, IsLastSegment}

-- the bytes are those of a label
pub record IsSpelled (bytes : List ℕ) : Type 0 where
  pub spelled : bytes_of (components bytes) ≡ bytes
  pub label : IsLabel (components bytes)

-- a component and the bytes after it, as the definition has them
abbrev pub Finds : Option (ℤ × Bor (List ℕ)) → Found → Type 0
Finds None found = found ≡ None
Finds (Some x) found = found ≡ Some (x.0, x.1.now)

-- before the last segment stand n bytes
pub record StartsLastSegment (bytes : List ℕ) (n : ℕ) : Type 0 where
  pub front : List ℤ
  pub seg : List ℤ
  pub last : IsLastSegment (components bytes) front seg
  pub size : n ≡ length (bytes_of front)

-- a component at the front of both, and the bytes after it in each; None where there is none
abbrev pub FindsBoth : Option (ℤ × Bor (List ℕ) × Bor (List ℕ)) → Found → Found → Type 0
FindsBoth None left right = (c : ℤ) (u v : List ℕ) → left ≡ Some (c, u) → right ≡ Some (c, v) → ⊥
FindsBoth (Some x) left right = (left ≡ Some (x.0, x.1.now)) × (right ≡ Some (x.0, x.2.now))
