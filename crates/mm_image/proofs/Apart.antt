-- A key stands for one thing at most.
use Rattle.std.proofs.Common.{◌≡◌, ℕ, ℤ, ◌<◌, ◌/◌, ◌%◌, List, ◌∷◌, ◌++◌, refl, arith}
use Rattle.byteorder.specs.Endian.{big_bytes}
use Rattle.mm_label.specs.Bytes.{bytes_of}
use Rattle.mm_label.specs.Label.{IsLabel}
use Rattle.mm_image.specs.declared.parsed.Parsed.TheVariants.{Chunk, Occurrence, Count}
use Rattle.mm_image.specs.Laws.{KeysAreApart}
use Rattle.mm_image.specs.Facts.Keys.{no_zero, same_word}
use Rattle.mm_image.proofs.KeyFacts.{same_front}

pub same_number : (m n : ℕ) → m < 4294967296 → n < 4294967296 → big_bytes 4 m ≡ big_bytes 4 n → m ≡ n
same_number m n h k e =
    let p : m / 16777216 % 256 ≡ n / 16777216 % 256 = cc in
    let q : m / 65536 % 256 ≡ n / 65536 % 256 = cc in
    let r : m / 256 % 256 ≡ n / 256 % 256 = cc in
    let s : m % 256 ≡ n % 256 = cc in
    omega arith

pub apart : ((a b : List ℤ) → IsLabel a → IsLabel b → bytes_of a ≡ bytes_of b → a ≡ b) → KeysAreApart
apart one (Chunk a m) (Chunk b n) h k e =
    let t : bytes_of a ++ (0 ∷ big_bytes 4 m) ≡ bytes_of b ++ (0 ∷ big_bytes 4 n) = cc in
    let u = same_front (bytes_of a) (bytes_of b) (0 ∷ big_bytes 4 m) (0 ∷ big_bytes 4 n) t refl in
    let l : a ≡ b = one a b h.0 k.0 u.0 in
    let d : big_bytes 4 m ≡ big_bytes 4 n = let v = u.1 in cc in
    let i : m ≡ n = same_number m n h.1 k.1 d in
    cc
apart one (Chunk a m) (Occurrence w b) h k e = absurd cc
apart one (Chunk a m) (Count w) h k e = absurd cc
apart one (Occurrence v a) (Chunk b n) h k e = absurd cc
apart one (Occurrence v a) (Occurrence w b) h k e =
    let t : v ++ (0 ∷ bytes_of a) ≡ w ++ (0 ∷ bytes_of b) = cc in
    let u = same_word v w (bytes_of a) (bytes_of b) (no_zero v h.0) (no_zero w k.0) t in
    let l : a ≡ b = one a b h.1 k.1 u.1 in
    let w = u.0 in
    cc
apart one (Occurrence v a) (Count w) h k e = absurd cc
apart one (Count v) (Chunk b n) h k e = absurd cc
apart one (Count v) (Occurrence w b) h k e = absurd cc
apart one (Count v) (Count w) h k e = cc
