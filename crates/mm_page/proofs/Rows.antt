-- Rows of slots and cells, and what is read from them.
use Rattle.std.proofs.Common.{◌≡◌, ℕ, zero, suc, ◌+◌, ◌*◌, ◌-◌, ◌/◌, ◌%◌, ◌≤◌, ◌<◌, List, [], ◌∷◌, ◌++◌, length, take, drop, get_or, refl, sym, ap, ap₂, ◌∙◌, subst, arith, append_assoc}
use Rattle.std.proofs.lemmas.List.{length-take-le, length-append, take-append-drop, take_all}
use Rattle.mm_keeper.specs.Entries.{Entries}
use Rattle.mm_page.specs.Limits.{size}
use Rattle.mm_page.specs.Leaf.{block, Stands, two, first_two, number_at, cell, cells, slots, cell_end, key_at, value_at, entries_at, entries_of, count_of, Holds, IsLeaf, place_in}
use Rattle.mm_page.proofs.Blocks.{stands-split}

pub slots-length : (at : ℕ) (m : Entries) → length (slots at m) ≡ 2 * length m
slots-length at [] = refl
slots-length at (e ∷ m) = omega (arith, slots-length (at + length (cell e)) m)

pub cells-app : (xs ys : Entries) → cells (xs ++ ys) ≡ cells xs ++ cells ys
cells-app [] ys = refl
cells-app (e ∷ xs) ys = ap (λ t. cell e ++ t) (cells-app xs ys) ∙ sym (append_assoc (cell e) (cells xs) (cells ys))

pub slots-app : (at : ℕ) (xs ys : Entries) → slots at (xs ++ ys) ≡ slots at xs ++ slots (at + length (cells xs)) ys
slots-app at [] ys = ap (λ t. slots t ys) (omega arith)
slots-app at (e ∷ xs) ys =
    let f : at + length (cell e) + length (cells xs) ≡ at + length (cells (e ∷ xs)) = omega (arith, length-append (cell e) (cells xs)) in
    ap (λ t. two at ++ t) (slots-app (at + length (cell e)) xs ys ∙ ap (λ t. slots (at + length (cell e)) xs ++ slots t ys) f)

pub cell-length : (e : List ℕ × List ℕ) → length (cell e) ≡ 4 + length e.0 + length e.1
cell-length e = omega (arith, length-append e.0 e.1)

pub cells-size : (m : Entries) → 2 * length m + length (cells m) ≡ size m
cells-size [] = refl
cells-size (e ∷ m) = omega (arith, cells-size m, cell-length e, length-append (cell e) (cells m))

pub number-block : (n : ℕ) (xs : List ℕ) → take 2 xs ≡ two n → first_two xs ≡ n
number-block n [] h = absurd cc
number-block n (a ∷ []) h = absurd cc
number-block n (a ∷ b ∷ xs) h =
    let x : a ≡ n / 256 = ap (λ t. get_or t 0 0) h in
    let y : b ≡ n % 256 = ap (λ t. get_or t 1 0) h in
    omega (arith, x, y)

-- what is read at a cell
pub record IsAt (bytes : List ℕ) (at : ℕ) (e : List ℕ × List ℕ) : Type 0 where
  pub key_length : number_at at bytes ≡ length e.0
  pub value_length : number_at (at + 2) bytes ≡ length e.1
  pub key : key_at bytes at ≡ e.0
  pub value : value_at bytes at ≡ e.1
  pub after : cell_end bytes at ≡ at + length (cell e)

pub cell-back : (bytes : List ℕ) (at : ℕ) (e : List ℕ × List ℕ) → Stands at (cell e) bytes → IsAt bytes at e
cell-back bytes at e h =
    let a = stands-split at (two (length e.0)) (two (length e.1) ++ (e.0 ++ e.1)) bytes h in
    let b = stands-split (at + 2) (two (length e.1)) (e.0 ++ e.1) bytes a.1 in
    let c = stands-split (at + 2 + 2) e.0 e.1 bytes b.1 in
    let k : number_at at bytes ≡ length e.0 = number-block (length e.0) (drop at bytes) a.0 in
    let v : number_at (at + 2) bytes ≡ length e.1 = number-block (length e.1) (drop (at + 2) bytes) b.0 in
    let f : at + 4 ≡ at + 2 + 2 = omega arith in
    let g : at + 4 + number_at at bytes ≡ at + 2 + 2 + length e.0 = omega (arith, k) in
    record {
      key_length = k;
      value_length = v;
      key = ap₂ (λ s t. block s t bytes) f k ∙ c.0;
      value = ap₂ (λ s t. block s t bytes) g v ∙ c.1;
      after = omega (arith, k, v, cell-length e);
    }

pub entries-back : (bytes : List ℕ) (m : Entries) (at : ℕ) → Stands at (cells m) bytes → entries_at bytes (length m) at ≡ m
entries-back bytes [] at h = refl
entries-back bytes (e ∷ m) at h =
    let s = stands-split at (cell e) (cells m) bytes h in
    let c = cell-back bytes at e s.0 in
    ap₂ (λ a b. a ∷ b) (ap₂ (λ a b. (a, b)) c.key c.value) (ap (λ t. entries_at bytes (length m) t) c.after ∙ entries-back bytes m (at + length (cell e)) s.1)

pub holds-entries : (bytes : List ℕ) (m : Entries) → Holds bytes m → entries_of bytes ≡ m
unfolding entries_of
holds-entries bytes m h =
    let n : count_of bytes ≡ length m = number-block (length m) (drop 2 bytes) h.count in
    ap (λ t. entries_at bytes t (16 + 2 * t)) n ∙ entries-back bytes m (16 + 2 * length m) h.row

pub holds-leaf : (bytes : List ℕ) (m : Entries) → length bytes ≡ 4096 → Holds bytes m → IsLeaf bytes
holds-leaf bytes m size h = record { size = size; holds = subst (λ t. Holds bytes t) (sym (holds-entries bytes m h)) h }

-- ---- by index

pub parted : (m : Entries) (i : ℕ) (d : List ℕ × List ℕ) → i < length m → m ≡ take i m ++ (get_or m i d ∷ drop (suc i) m)
parted [] i d h = absurd (omega (arith, h))
parted (e ∷ m) zero d h = refl
parted (e ∷ m) (suc i) d h = ap (λ t. e ∷ t) (parted m i d (omega (arith, h)))

-- the cell of an entry stands at its place
pub cell-there : (bytes : List ℕ) (m : Entries) (i : ℕ) (d : List ℕ × List ℕ) → Stands (16 + 2 * length m) (cells m) bytes → i < length m → Stands (place_in m i) (cell (get_or m i d)) bytes
cell-there bytes m i d h l =
    let xs = take i m in
    let e = get_or m i d in
    let ys = drop (suc i) m in
    let s = stands-split (16 + 2 * length m) (cells xs) (cells (e ∷ ys)) bytes (subst (λ t. Stands (16 + 2 * length m) t bytes) (ap cells (parted m i d l) ∙ cells-app xs (e ∷ ys)) h) in
    (stands-split (place_in m i) (cell e) (cells ys) bytes s.1).0

pub entry-back : (bytes : List ℕ) (m : Entries) (i : ℕ) (d : List ℕ × List ℕ) → Stands (16 + 2 * length m) (cells m) bytes → i < length m → IsAt bytes (place_in m i) (get_or m i d)
entry-back bytes m i d h l = cell-back bytes (place_in m i) (get_or m i d) (cell-there bytes m i d h l)

pub slot-back : (bytes : List ℕ) (m : Entries) (i : ℕ) (d : List ℕ × List ℕ) → Stands 16 (slots (16 + 2 * length m) m) bytes → i < length m → number_at (16 + 2 * i) bytes ≡ place_in m i
slot-back bytes m i d h l =
    let xs = take i m in
    let e = get_or m i d in
    let ys = drop (suc i) m in
    let at = 16 + 2 * length m in
    let s = stands-split 16 (slots at xs) (slots (at + length (cells xs)) (e ∷ ys)) bytes (subst (λ t. Stands 16 t bytes) (ap (λ t. slots at t) (parted m i d l) ∙ slots-app at xs (e ∷ ys)) h) in
    let f : 16 + length (slots at xs) ≡ 16 + 2 * i = omega (arith, slots-length at xs, length-take-le i m (omega (arith, l))) in
    number-block (place_in m i) (drop (16 + 2 * i) bytes)
    (subst (λ t. block t 2 bytes ≡ two (place_in m i)) f (stands-split (16 + length (slots at xs)) (two (place_in m i)) (slots (place_in m i + length (cell e)) ys) bytes s.1).0)

pub place-next : (m : Entries) (i : ℕ) (d : List ℕ × List ℕ) → i < length m → place_in m (suc i) ≡ place_in m i + length (cell (get_or m i d))
place-next m i d l =
    let e = get_or m i d in
    omega (arith, ap (λ t. length (cells t)) (more m i d l ∙ refl), ap length (cells-app (take i m) (e ∷ [])), length-append (cells (take i m)) (cells (e ∷ [])), length-append (cell e) [])
  where
    more : (m : Entries) (i : ℕ) (d : List ℕ × List ℕ) → i < length m → take (suc i) m ≡ take i m ++ (get_or m i d ∷ [])
    more [] i d h = absurd (omega (arith, h))
    more (e ∷ m) zero d h = refl
    more (e ∷ m) (suc i) d h = ap (λ t. e ∷ t) (more m i d (omega (arith, h)))

pub place-most : (m : Entries) (i : ℕ) → place_in m i ≤ 16 + 2 * length m + length (cells m)
place-most m i = omega (arith, ap (λ t. length (cells t)) (take-append-drop i m), ap length (cells-app (take i m) (drop i m)), length-append (cells (take i m)) (cells (drop i m)))

pub leaf-count : (bytes : List ℕ) → IsLeaf bytes → count_of bytes ≡ length (entries_of bytes)
leaf-count bytes h = number-block (length (entries_of bytes)) (drop 2 bytes) h.holds.count

-- what is read at the last slot
pub record IsLast (bytes : List ℕ) (n : ℕ) : Type 0 where
  pub end : cell_end bytes (number_at (14 + 2 * n) bytes) ≡ place_in (entries_of bytes) (length (entries_of bytes))
  pub bound : number_at (14 + 2 * n) bytes + 4 ≤ 4096

pub place-last : (bytes : List ℕ) (n : ℕ) → IsLeaf bytes → n ≡ length (entries_of bytes) → 0 < n → IsLast bytes n
place-last bytes n h e p =
    let m = entries_of bytes in
    let i = n - 1 in
    let l : i < length m = omega (arith, e, p) in
    let f : 14 + 2 * n ≡ 16 + 2 * i = omega (arith, p) in
    let s : number_at (14 + 2 * n) bytes ≡ place_in m i = ap (λ t. number_at t bytes) f ∙ slot-back bytes m i ([], []) h.holds.places l in
    let c = entry-back bytes m i ([], []) h.holds.row l in
    let x = place-next m i ([], []) l in
    let j : suc i ≡ length m = omega (arith, e, p) in
    record {
      end = ap (λ t. cell_end bytes t) s ∙ c.after ∙ sym x ∙ ap (λ t. place_in m t) j;
      bound = omega (arith, s, x, place-most m (suc i), h.holds.room, cell-length (get_or m i ([], [])));
    }

-- what the code reads at an index
pub record IsEntry (bytes : List ℕ) (i at : ℕ) (e : List ℕ × List ℕ) : Type 0 where
  pub slot : number_at (16 + 2 * i) bytes ≡ at
  pub here : IsAt bytes at e
  pub room : at + 4 + length e.0 + length e.1 ≤ 4096
  pub slots : 16 + 2 * i + 2 ≤ 4096

pub leaf-entry : (bytes : List ℕ) (i : ℕ) → IsLeaf bytes → i < length (entries_of bytes) → IsEntry bytes i (place_in (entries_of bytes) i) (get_or (entries_of bytes) i ([], []))
leaf-entry bytes i h l =
    let m = entries_of bytes in
    record {
      slot = slot-back bytes m i ([], []) h.holds.places l;
      here = entry-back bytes m i ([], []) h.holds.row l;
      room = omega (arith, place-next m i ([], []) l, place-most m (suc i), h.holds.room, cell-length (get_or m i ([], [])));
      slots = omega (arith, l, h.holds.room);
    }

-- the place behind the last cell, by what the entries take
pub place-end : (m : Entries) → place_in m (length m) ≡ 16 + size m
place-end m = omega (arith, ap (λ t. length (cells t)) (take_all (length m) m (omega arith)), cells-size m)

pub leaf-size : (bytes : List ℕ) → IsLeaf bytes → size (entries_of bytes) ≤ 4080
leaf-size bytes h = omega (arith, cells-size (entries_of bytes), h.holds.room)
