-- What is read is what was written, and right cells are a leaf.
use Rattle.std.proofs.Common.{◌≡◌, ℕ, zero, suc, ◌+◌, ◌*◌, ◌≤◌, ◌<◌, true, false, Some, None, List, [], ◌∷◌, ◌++◌, length, get_or, refl, sym, ap, ap₂, ◌∙◌, subst, arith, ◌==◌, nat_lt}
use Rattle.std.proofs.lemmas.List.{length-append}
use Rattle.mm_keeper.specs.Entries.{Entries, below, IsBelow, Rises}
use Rattle.mm_page.specs.Limits.{AreWithin}
use Rattle.mm_page.specs.Leaf.{block, two, number_at, cell, cells, slots, cell_end, key_at, value_at, entries_at, entries_of, count_of, start_of, IsLeaf}
use Rattle.mm_page.specs.Rules.{cell_fault, fault_from, fault_of, broken}
use Rattle.mm_page.specs.Inside.Rows.{IsCell, AreCells}
use Rattle.mm_page.specs.declared.rules.Violation.{Violation}
use Rattle.mm_page.proofs.Blocks.{block-glue, block-length}
use Rattle.mm_keeper.specs.Facts.Keys.{below_chain}
use Rattle.mm_page.proofs.Rows.{slots-length}

-- each key is below the next one, the first above a last one
abbrev pub Climbs : List ℕ → Entries → Type 0
Climbs k [] = Unit {0}
Climbs k (e ∷ m) = (below k e.0 ≡ true) × Climbs e.0 m

pub climbs-below : (k : List ℕ) (m : Entries) → Climbs k m → IsBelow k m
climbs-below k [] h = tt
climbs-below k (e ∷ m) h = (h.0, go m (climbs-below e.0 m h.1))
  where
    go : (m : Entries) → IsBelow e.0 m → IsBelow k m
    go [] i = tt
    go (d ∷ m) i = (below_chain k e.0 d.0 h.0 i.0, go m i.1)

pub climbs-rises : (k : List ℕ) (m : Entries) → Climbs k m → Rises m
climbs-rises k [] h = tt
climbs-rises k (e ∷ m) h = (climbs-below e.0 m h.1, climbs-rises e.0 m h.1)

-- the slots and cells of the entries that are read from a place on
pub record IsRead (bytes : List ℕ) (n i at : ℕ) (last : List ℕ) : Type 0 where
  pub places : block (16 + 2 * i) (2 * n) bytes ≡ slots at (entries_at bytes n at)
  pub row : block at (length (cells (entries_at bytes n at))) bytes ≡ cells (entries_at bytes n at)
  pub room : at + length (cells (entries_at bytes n at)) ≤ 4096
  pub limits : AreWithin (entries_at bytes n at)
  pub climbs : Climbs last (entries_at bytes n at)
  pub count : length (entries_at bytes n at) ≡ n

pub cell-read : (bytes : List ℕ) (i at : ℕ) (last : List ℕ) → length bytes ≡ 4096 → IsCell bytes i at last
    → (block at (4 + number_at at bytes + number_at (at + 2) bytes) bytes ≡ cell (key_at bytes at, value_at bytes at)) × (length (key_at bytes at) ≡ number_at at bytes) × (length (value_at bytes at) ≡ number_at (at + 2) bytes)
cell-read bytes i at last size h =
    let k = number_at at bytes in
    let v = number_at (at + 2) bytes in
    let a : length (key_at bytes at) ≡ k = block-length (at + 4) k bytes (omega (arith, h.room, size)) in
    let b : length (value_at bytes at) ≡ v = block-length (at + 4 + k) v bytes (omega (arith, h.room, size)) in
    let e : 4 + k + v ≡ 2 + (2 + (k + v)) = omega arith in
    let f : at + 2 + 2 ≡ at + 4 = omega arith in (
      ap (λ t. block at t bytes) e ∙ block-glue at 2 (2 + (k + v)) bytes
          ∙ ap₂ (λ s t. s ++ t) (h.key_length ∙ ap two (sym a))
          (block-glue (at + 2) 2 (k + v) bytes ∙ ap₂ (λ s t. s ++ t) (h.value_length ∙ ap two (sym b))
          (ap (λ t. block t (k + v) bytes) f ∙ block-glue (at + 4) k v bytes)),
      a,
      b,
    )

pub cells-read : (bytes : List ℕ) (n i at : ℕ) (last : List ℕ) → length bytes ≡ 4096 → AreCells bytes n i at last → IsRead bytes n i at last
cells-read bytes zero i at last size h = record { places = refl; row = refl; room = omega (arith, h); limits = tt; climbs = tt; count = refl }
cells-read bytes (suc n) i at last size h =
    let k = number_at at bytes in
    let v = number_at (at + 2) bytes in
    let e : List ℕ × List ℕ = (key_at bytes at, value_at bytes at) in
    let m = entries_at bytes n (cell_end bytes at) in
    let r : IsRead bytes n (suc i) (cell_end bytes at) (key_at bytes at) = cells-read bytes n (suc i) (cell_end bytes at) (key_at bytes at) size h.1 in
    let c = cell-read bytes i at last size h.0 in
    let long : length (cell e) ≡ 4 + k + v = omega (arith, length-append e.0 e.1, c.1, c.2) in
    let behind : at + length (cell e) ≡ cell_end bytes at = omega (arith, long) in
    record {
      places = ap (λ t. block (16 + 2 * i) t bytes) (omega arith) ∙ block-glue (16 + 2 * i) 2 (2 * n) bytes
          ∙ ap₂ (λ s t. s ++ t) h.0.place (ap (λ t. block t (2 * n) bytes) (omega arith) ∙ r.places ∙ ap (λ t. slots t m) (sym behind));
      row = ap (λ t. block at t bytes) (length-append (cell e) (cells m)) ∙ block-glue at (length (cell e)) (length (cells m)) bytes
          ∙ ap₂ (λ s t. s ++ t) (ap (λ t. block at t bytes) long ∙ c.0) (ap (λ t. block t (length (cells m)) bytes) behind ∙ r.row);
      room = omega (arith, length-append (cell e) (cells m), behind, r.room);
      limits = (omega (arith, c.1, h.0.some), omega (arith, c.1, h.0.most), omega (arith, c.2, h.0.value), r.limits);
      climbs = (h.0.rises, r.climbs);
      count = ap suc r.count;
    }

pub right-leaf : (bytes : List ℕ) → length bytes ≡ 4096 → get_or bytes 0 0 ≡ 76 → block 2 2 bytes ≡ two (count_of bytes)
    → AreCells bytes (count_of bytes) 0 (start_of bytes) [] → IsLeaf bytes
unfolding entries_of
right-leaf [] size first count h = absurd (omega (arith, size))
right-leaf (b ∷ bs) size first count h =
    let bytes = b ∷ bs in
    let r = cells-read bytes (count_of bytes) 0 (start_of bytes) [] size h in
    let m = entries_at bytes (count_of bytes) (start_of bytes) in
    record {
      size = size;
      holds = record {
        sort = ap (λ t. t ∷ []) first;
        count = count ∙ ap two (sym r.count);
        places = ap (λ t. block 16 t bytes) (slots-length (16 + 2 * length m) m ∙ ap (λ t. 2 * t) r.count) ∙ r.places ∙ ap (λ t. slots (16 + 2 * t) m) (sym r.count);
        row = ap (λ t. block (16 + 2 * t) (length (cells m)) bytes) r.count ∙ r.row;
        room = omega (arith, r.count, r.room);
        limits = r.limits;
        rises = climbs-rises [] m r.climbs;
      };
    }

-- ---- the loop over the slots

pub fault-step : (bytes : List ℕ) (n p i j at to : ℕ) (last key : List ℕ) → n ≡ suc p → j ≡ suc i → to ≡ cell_end bytes at → key ≡ key_at bytes at
    → cell_fault bytes i at last ≡ None → fault_from bytes n i at last ≡ fault_from bytes p j to key
fault-step bytes n p i j at to last key a b c d h = rw (a, b, c, d, h) refl

pub fault-some : (bytes : List ℕ) (n p i at : ℕ) (last : List ℕ) (w : Violation) → n ≡ suc p → cell_fault bytes i at last ≡ Some w → fault_from bytes n i at last ≡ Some w
fault-some bytes n p i at last w a h = rw (a, h) refl

pub cells-step : (bytes : List ℕ) (n p i j at to : ℕ) (last key : List ℕ) → n ≡ suc p → j ≡ suc i → to ≡ cell_end bytes at → key ≡ key_at bytes at
    → IsCell bytes i at last → AreCells bytes p j to key → AreCells bytes n i at last
cells-step bytes n p i j at to last key a b c d h r =
    subst (λ t. AreCells bytes t i at last) (sym a)
    (h, subst (λ t. AreCells bytes p (suc i) (cell_end bytes at) t) d (subst (λ t. AreCells bytes p (suc i) t key) c (subst (λ t. AreCells bytes p t to key) b r)))

neq : {a b : ℕ} → ¬ (a ≡ b) → (a == b) ≡ false
neq h = grind (arith, h)

ltb : {a b : ℕ} → a < b → nat_lt a b ≡ true
ltb h = grind (arith, h)

nlt : {a b : ℕ} → a ≤ b → nat_lt b a ≡ false
nlt h = grind (arith, h)

pub fault-found : (bytes : List ℕ) → get_or bytes 0 0 ≡ 76 → count_of bytes ≤ 2040 → fault_of bytes ≡ fault_from bytes (count_of bytes) 0 (start_of bytes) []
unfolding fault_of
fault-found bytes h k = rw (h, nlt k) refl

pub fault-sort : (bytes : List ℕ) (b : ℕ) → b ≡ get_or bytes 0 0 → ¬ (b ≡ 76) → broken 5 b 76 ≡ fault_of bytes
unfolding fault_of
fault-sort bytes b e h = rw (e, neq (subst (λ t. ¬ (t ≡ 76)) e h)) refl

pub fault-slots : (bytes : List ℕ) (n : ℕ) → n ≡ count_of bytes → get_or bytes 0 0 ≡ 76 → 2040 < n → broken 6 n 2040 ≡ fault_of bytes
unfolding fault_of
fault-slots bytes n e h k = rw (e, h, ltb (subst (λ t. 2040 < t) e k)) refl
