-- What bytes tell of a content that begins so: its fields one after the other.
use Rattle.std.specs.Prelude.{ℕ, Bool, true, false, ◌&&◌, not, ◌==◌, nat_le, zero, suc, List, [], ◌∷◌, length, take, drop, Option, Some, None, if◌then◌else◌}
use Rattle.std.specs.List.{list_any}
use Rattle.std.specs.Str.{bytes_eq}
use Rattle.byteorder.specs.Endian.{big_number}
use Rattle.mm_tree.specs.declared.plain.Attribute.{Attribute}
use Rattle.mm_tree.specs.declared.plain.Kind.{Kind}
use Rattle.mm_tree.specs.declared.plain.Kind.TheVariants.{Element, Words}
use Rattle.mm_tree.specs.Validity.{are_chars, is_blank, is_node_name}

-- not whole yet, whole and wrong, or right, with the bytes after it
pub data Field (A : Type 0) : Type 0 where
  Short : Field A
  Wrong : Field A
  Right : (x : A) (rest : List ℕ) → Field A

infixl 10 ◌>>=◌
abbrev pub ◌>>=◌ : {A B : Type 0} → Field A → (A → List ℕ → Field B) → Field B
Short >>= f = Short
Wrong >>= f = Wrong
(Right x rest) >>= f = f x rest

-- right where it passes the test
abbrev pub given : {A : Type 0} → Bool → A → List ℕ → Field A
given true x rest = Right x rest
given false x rest = Wrong

abbrev pub checked : {A : Type 0} → (A → Bool) → Field A → Field A
checked test p = p >>= λ x rest. given (test x) x rest

-- a number of so many bytes
abbrev pub number_at : ℕ → List ℕ → Field ℕ
number_at width bs = if nat_le width (length bs) then Right (big_number width bs) (drop width bs) else Short

-- so many bytes
abbrev pub bytes_at : ℕ → List ℕ → Field (List ℕ)
bytes_at n bs = if nat_le n (length bs) then Right (take n bs) (drop n bs) else Short

abbrev pub is_name_length : ℕ → Bool
is_name_length n = nat_le 1 n && nat_le n 512

-- none of these
abbrev pub is_new : List ℕ → List (List ℕ) → Bool
is_new name seen = not (list_any (bytes_eq name) seen)

-- a name behind its length, which is none of these
abbrev pub name_at : List (List ℕ) → List ℕ → Field (List ℕ)
name_at seen bs = checked (λ name. is_node_name name && is_new name seen) (checked is_name_length (number_at 2 bs) >>= bytes_at)

abbrev pub value_at : List ℕ → Field (List ℕ)
value_at bs = checked are_chars (number_at 4 bs >>= bytes_at)

abbrev pub attribute_at : List (List ℕ) → List ℕ → Field Attribute
attribute_at seen bs = name_at seen bs >>= λ name rest. value_at rest >>= λ value rest. Right (record { name = name; value = value }) rest

-- so many attributes, with names that differ from these and from each other
abbrev pub attributes_at : ℕ → List (List ℕ) → List ℕ → Field (List Attribute)
attributes_at zero seen bs = Right [] bs
attributes_at (suc n) seen bs = attribute_at seen bs >>= λ a rest. attributes_at n (a.name ∷ seen) rest >>= λ others rest. Right (a ∷ others) rest

unfoldable pub element_at : List ℕ → Field Kind
element_at bs = name_at [] bs >>= λ name rest. number_at 4 rest >>= λ n rest. attributes_at n [] rest >>= λ attributes rest. Right (Element name attributes) rest

-- no bytes follow the last field
abbrev pub ended : {A : Type 0} → Field A → Field A
ended Short = Short
ended Wrong = Wrong
ended (Right x []) = Right x []
ended (Right x (b ∷ bs)) = Wrong

-- what the bytes of a content tell so far; a text is not judged before it ends
unfoldable pub standing : List ℕ → Field Kind
standing [] = Short
standing (b ∷ bs) = if b == 84 then Right (Words bs) [] else (if b == 69 then ended (element_at bs) else Wrong)

abbrev pub is_wrong : {A : Type 0} → Field A → Bool
is_wrong Short = false
is_wrong Wrong = true
is_wrong (Right x rest) = false

-- with these bytes, no field of a content is whole and wrong
abbrev pub may_stand : List ℕ → Bool
may_stand bytes = not (is_wrong (standing bytes))

abbrev pub is_text : List ℕ → Bool
is_text text = are_chars text && not (is_blank text)

-- the kind of which this is the whole content, if it is that of one
abbrev pub kind_told : Field Kind → Option Kind
kind_told Short = None
kind_told Wrong = None
kind_told (Right (Element name attributes) rest) = Some (Element name attributes)
kind_told (Right (Words text) rest) = if is_text text then Some (Words text) else None

abbrev pub kind_in : List ℕ → Option Kind
kind_in bytes = kind_told (standing bytes)
