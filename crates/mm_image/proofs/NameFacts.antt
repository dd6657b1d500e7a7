-- Where no name is read.
use Rattle.std.proofs.Common.{◌≡◌, ℕ, ◌+◌, ◌-◌, Bool, true, false, cond, ◌&&◌, List, refl, ap, sym, ◌∙◌, Option, None, length, take, drop, arith}
use Rattle.std.specs.Prelude.{nat_le}
use Rattle.std.specs.Str.{IsUtf8, chars, is_utf8}
use Rattle.std.proofs.lemmas.Str.{IsUtf8-from_is_utf8}
use Rattle.byteorder.specs.Endian.{big_number}
use Rattle.mm_tree.specs.Characters.{is_short_name}
use Rattle.mm_tree.specs.Validity.{is_node_name}
use Rattle.mm_image.specs.Content.{sized_name}

neither : (a b : Bool) (x : Option (List ℕ)) → b ≡ false → None ≡ cond (a && b) x None
neither true false x e = refl
neither false false x e = refl
neither true true x e = absurd cc
neither false true x e = absurd cc

-- the bytes where the name should stand are no name
pub unnamed : (bytes : List ℕ) (n : ℕ) → n ≡ big_number 2 bytes → is_node_name (take (2 + n - 2) (drop 2 bytes)) ≡ false → None ≡ sized_name bytes
unnamed bytes n e f =
    let k : 2 + n - 2 ≡ big_number 2 bytes = omega arith in
    neither (nat_le (2 + big_number 2 bytes) (length bytes)) _ _ (sym (ap (λ (m : ℕ). is_node_name (take m (drop 2 bytes))) k) ∙ f)

pub not_short : (name : List ℕ) → is_short_name (chars name) ≡ false → is_node_name name ≡ false
not_short name e = by (is_utf8 name) (is_short_name (chars name)) e
  where
    by : (a b : Bool) → b ≡ false → (a && b) ≡ false
    by true b e = e
    by false b e = refl

pub not_text : (name : List ℕ) → (IsUtf8 name → ⊥) → is_node_name name ≡ false
not_text name n = by (is_utf8 name) refl
  where
    by : (a : Bool) → is_utf8 name ≡ a → (a && is_short_name (chars name)) ≡ false
    by true e = absurd (n (IsUtf8-from_is_utf8 name e))
    by false e = refl
