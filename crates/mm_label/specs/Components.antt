-- Components read back from bytes.
use Rattle.std.specs.Prelude.{ℕ, zero, suc, ℤ, pos, negsuc, ◌+◌, ◌-◌, ◌*◌, nat_lt, List, [], ◌∷◌, ◌≡◌, refl, length, Option, Some, None, if◌then◌else◌}

-- the component of this rank
abbrev pub of_rank : ℕ → ℤ
of_rank n = if nat_lt n 4294975552 then negsuc (4294975551 - n) else pos (n - 4294975552)

-- a component and the bytes after it
abbrev pub Found : Type 0
Found = Option (ℤ × List ℕ)

abbrev pub low_at : ℕ → List ℕ → Found
low_at n [] = None
low_at n (l ∷ bs) = Some (of_rank (n + l), bs)

abbrev pub four_at : ℕ → List ℕ → Found
four_at n [] = None
four_at n (w ∷ []) = None
four_at n (w ∷ x ∷ []) = None
four_at n (w ∷ x ∷ y ∷ []) = None
four_at n (w ∷ x ∷ y ∷ z ∷ bs) = Some (of_rank (n + (w * 16777216 + x * 65536 + y * 256 + z)), bs)

-- the component that the first bytes spell
abbrev pub component_at : List ℕ → Found
component_at [] = None
component_at (b ∷ bs) =
    if nat_lt b 31 then None
    else (if nat_lt b 32 then four_at 0 bs
    else (if nat_lt b 64 then low_at (4294967296 + (b - 32) * 256) bs
    else (if nat_lt b 192 then Some (of_rank (4294975488 + (b - 64)), bs)
    else (if nat_lt b 224 then low_at (4294975616 + (b - 192) * 256) bs
    else (if nat_lt b 225 then four_at 4294983808 bs else None)))))

-- the component before what f makes of the bytes after it
abbrev pub then_from : Found → (List ℕ → List ℤ) → List ℤ
then_from None f = []
then_from (Some x) f = x.0 ∷ f x.1

abbrev pub components_from : ℕ → List ℕ → List ℤ
components_from zero bs = []
components_from (suc n) bs = then_from (component_at bs) (λ rest. components_from n rest)

-- the components that the bytes spell, up to the first place where none is spelled
abbrev pub components : List ℕ → List ℤ
components bs = components_from (length bs) bs

small_ones : components (129 ∷ 130 ∷ 127 ∷ []) ≡ pos 1 ∷ pos 2 ∷ negsuc 0 ∷ []
small_ones = refl

large_ones : components (31 ∷ 0 ∷ 0 ∷ 0 ∷ 1 ∷ 192 ∷ 1 ∷ []) ≡ negsuc 4294975550 ∷ pos 65 ∷ []
large_ones = refl
