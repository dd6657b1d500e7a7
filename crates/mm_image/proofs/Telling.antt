-- What is written into values is read out of them.
use Rattle.std.proofs.Common.{◌≡◌, ℕ, zero, suc, ◌+◌, ◌≤◌, Bool, true, false, cond, ◌&&◌, List, [], ◌∷◌, ◌++◌, refl, ap, ◌∙◌, Some, None, length, take, arith}
use Rattle.std.specs.Prelude.{flat_map, nat_le}
use Rattle.std.proofs.lemmas.Bool.Decides.{nat_tests}
use Rattle.std.proofs.lemmas.List.{length-append, length-take}
use Rattle.byteorder.specs.Endian.{big_bytes, big_number}
use Rattle.byteorder.specs.Numbers.{big_number-reads_back}
use Rattle.mm_tree.specs.declared.plain.Kind.TheVariants.{Element, Words}
use Rattle.mm_tree.specs.Search.{list_of}
use Rattle.mm_tree.specs.Validity.{is_node_name}
use Rattle.mm_image.specs.Content.{attribute_bytes, sized_name}
use Rattle.mm_image.specs.Laws.{CountsAreLengths, FirstPieceNames}
use Rattle.mm_image.proofs.ChunkFacts.{name_short, valid_name, valid_parts}
use Rattle.mm_image.proofs.PieceFacts.{take_front}

take_twice : (m n : ℕ) (xs : List ℕ) → m ≤ n → take m (take n xs) ≡ take m xs
take_twice zero n xs h = refl
take_twice (suc m) zero xs h = absurd (omega arith)
take_twice (suc m) (suc n) [] h = refl
take_twice (suc m) (suc n) (x ∷ xs) h = ap (λ (z : List ℕ). x ∷ z) (take_twice m n xs (omega arith))

-- a name behind its length is read
name_read : (name rest : List ℕ) → is_node_name name ≡ true → sized_name (big_bytes 2 (length name) ++ take 997 (name ++ rest)) ≡ Some name
name_read name rest h =
    let short = name_short name h in
    let tail = take 997 (name ++ rest) in
    let size : big_number 2 (big_bytes 2 (length name) ++ tail) ≡ length name = big_number-reads_back 2 (length name) tail (omega arith) in
    let front : take (length name) tail ≡ name = take_twice (length name) 997 (name ++ rest) (omega arith) ∙ take_front name rest in
    let long : length name ≤ length tail = let t = length-take 997 (name ++ rest) in let u = length-append name rest in omega arith in
    ap (λ (n : ℕ). cond (nat_le (2 + n) (length (big_bytes 2 (length name) ++ tail)) && is_node_name (take n tail)) (Some (take n tail)) None) size
    ∙ (ap (λ (z : List ℕ). cond (nat_le (2 + length name) (length (big_bytes 2 (length name) ++ tail)) && is_node_name z) (Some z) None) front
    ∙ both (nat_le (2 + length name) (length (big_bytes 2 (length name) ++ tail))) (is_node_name name) (fits (length name) (length tail) long) h)
  where
    fits : (m n : ℕ) → m ≤ n → nat_le (2 + m) (suc (suc n)) ≡ true
    fits m n l = grind (arith, nat_tests)

    both : (a b : Bool) → a ≡ true → b ≡ true → cond (a && b) (Some name) None ≡ Some name
    both true true p q = refl
    both true false p q = absurd cc
    both false b p q = absurd cc

pub names_told : FirstPieceNames
names_told (Element name attributes) h = name_read name (big_bytes 4 (length attributes) ++ flat_map attribute_bytes attributes) (valid_name name attributes (valid_parts (Element name attributes) h))
names_told (Words text) h = refl

pub counts_told : CountsAreLengths
counts_told nodes w h = ap Some (big_number-reads_back 8 (length (list_of w nodes)) [] h)
