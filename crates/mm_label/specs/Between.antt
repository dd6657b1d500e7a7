-- The segment of a new node between two neighbours. That there is always room between two, by even
-- components that don't count as a level, is ORDPATH's (SIGMOD 2004); which segment is taken is this
-- project's own choice.
use Rattle.std.specs.Prelude.{ℤ, pos, negsuc, ◌+ℤ◌, ◌-ℤ◌, IsTrue, not, int_lt, List, [], ◌∷◌, ◌≡◌, refl, Option, Some, None, IfSome, find, if◌then◌else◌}
use Rattle.std.specs.Ordering.{int_eq}
use Rattle.mm_label.specs.Label.{is_odd, is_in_range, is_segment, IsBefore}

-- the least odd number above f
abbrev pub above : ℤ → ℤ
above f = if is_odd f then f +ℤ pos 2 else f +ℤ pos 1

-- the greatest odd number below f
abbrev pub beneath : ℤ → ℤ
beneath f = if is_odd f then f -ℤ pos 2 else f -ℤ pos 1

-- after a last neighbour: the least odd number above its first number
abbrev pub after : List ℤ → List ℤ
after [] = pos 1 ∷ []
after (f ∷ fs) = above f ∷ []

-- before a first neighbour: the greatest odd number below its first number
abbrev pub before : List ℤ → List ℤ
before [] = pos 1 ∷ []
before (f ∷ fs) = beneath f ∷ []

-- between neighbours that go on with a and l, and with b and r, where a is below b: the least odd
-- number between a and b; else the even number between two odd ones, and 1; else b and what comes
-- before r where a is odd, and a and what comes after l where a is even
abbrev pub apart : ℤ → List ℤ → ℤ → List ℤ → List ℤ
apart a l b r =
    if int_lt (above a) b then above a ∷ []
    else (if int_eq b (a +ℤ pos 2) then (a +ℤ pos 1) ∷ pos 1 ∷ []
    else (if is_odd a then b ∷ before r else a ∷ after l))

-- between two neighbours: behind the longest front that they share
abbrev pub inside : List ℤ → List ℤ → List ℤ
inside [] r = pos 1 ∷ []
inside (a ∷ l) [] = pos 1 ∷ []
inside (a ∷ l) (b ∷ r) = if int_eq a b then a ∷ inside l r else apart a l b r

-- the segment between the neighbours that are there
abbrev pub between : Option (List ℤ) → Option (List ℤ) → List ℤ
between None None = pos 1 ∷ []
between (Some l) None = after l
between None (Some r) = before r
between (Some l) (Some r) = inside l r

-- l is below r where both are there
abbrev pub IsOrdered : Option (List ℤ) → Option (List ℤ) → Type 0
IsOrdered l r = IfSome l (λ a. IfSome r (λ b. IsBefore a b))

-- a segment above the left neighbour and below the right one
pub record LiesBetween (l : Option (List ℤ)) (segment : List ℤ) (r : Option (List ℤ)) : Type 0 where
  pub one : IsTrue (is_segment segment)
  pub above : IfSome l (λ a. IsBefore a segment)
  pub below : IfSome r (λ b. IsBefore segment b)

-- the first number out of range
abbrev pub first_out : List ℤ → Option ℤ
first_out cs = find (λ c. not (is_in_range c)) cs

-- ---- two numbers at most

abbrev pub with_second : Option ℤ → List ℤ
with_second None = []
with_second (Some c) = c ∷ []

abbrev pub one_or_two : ℤ × Option ℤ → List ℤ
one_or_two x = x.0 ∷ with_second x.1

-- ---- worked examples

alone : between None None ≡ pos 1 ∷ []
alone = refl

after_odd : between (Some (pos 5 ∷ [])) None ≡ pos 7 ∷ []
after_odd = refl

after_caret : between (Some (pos 2 ∷ pos 1 ∷ [])) None ≡ pos 3 ∷ []
after_caret = refl

before_odd : between None (Some (pos 1 ∷ [])) ≡ negsuc 0 ∷ []
before_odd = refl

before_caret : between None (Some (pos 2 ∷ pos 1 ∷ [])) ≡ pos 1 ∷ []
before_caret = refl

with_room : between (Some (pos 1 ∷ [])) (Some (pos 7 ∷ [])) ≡ pos 3 ∷ []
with_room = refl

next_odd : between (Some (pos 5 ∷ [])) (Some (pos 7 ∷ [])) ≡ pos 6 ∷ pos 1 ∷ []
next_odd = refl

before_a_caret : between (Some (pos 1 ∷ [])) (Some (pos 2 ∷ pos 1 ∷ [])) ≡ pos 2 ∷ negsuc 0 ∷ []
before_a_caret = refl

after_a_caret : between (Some (pos 2 ∷ pos 1 ∷ [])) (Some (pos 3 ∷ [])) ≡ pos 2 ∷ pos 3 ∷ []
after_a_caret = refl

in_a_caret : between (Some (pos 2 ∷ pos 1 ∷ [])) (Some (pos 2 ∷ pos 3 ∷ [])) ≡ pos 2 ∷ pos 2 ∷ pos 1 ∷ []
in_a_caret = refl

between_carets : between (Some (pos 2 ∷ pos 1 ∷ [])) (Some (pos 4 ∷ pos 1 ∷ [])) ≡ pos 3 ∷ []
between_carets = refl
