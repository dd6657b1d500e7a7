-- What a crash leaves of a shelf.
use Rattle.std.proofs.Common.{◌≡◌, ◌+◌, ◌^◌, ◌≤◌, ◌<◌, List, length, ap, arith}
use Rattle.mm_page.specs.Paging.{Shelf, IsLeft}

pub left-same : (s t : Shelf) → t ≡ s → IsLeft s t
left-same s t e = record { head = ap (λ x. x.head) e; page = λ n l. ap (λ x. x.page n) e }

pub few-count : {X : Type 0} (slots : List X) → length slots < 2 ^ 43 → (1 ≤ length slots + 1) × (length slots + 1 ≤ 2 ^ 43)
few-count slots h = (omega arith, omega (arith, h))
