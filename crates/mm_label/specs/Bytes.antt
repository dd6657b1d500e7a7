-- How components are spelled in bytes. The encoding is this project's own: the order of the bytes is
-- the order of the components, and no spelling is a proper prefix of another.
use Rattle.std.specs.Prelude.{ℕ, ℤ, pos, negsuc, ◌+◌, ◌-◌, ◌/◌, ◌%◌, nat_lt, List, [], ◌∷◌, ◌≡◌, refl, if◌then◌else◌, flat_map}
use Rattle.std.specs.Int.{to_be_bytes, w32}

-- the place of a component among all components: 0 for the least, -4294975552
abbrev pub rank : ℤ → ℕ
rank (pos n) = n + 4294975552
rank (negsuc n) = 4294975551 - n

-- n in one byte, in two bytes, and in four bytes behind a byte of their own; `first` stands for 0
abbrev pub one : ℕ → ℕ → List ℕ
one first n = (first + n) ∷ []

abbrev pub two : ℕ → ℕ → List ℕ
two first n = (first + n / 256) ∷ n % 256 ∷ []

abbrev pub five : ℕ → ℕ → List ℕ
five first n = first ∷ to_be_bytes w32 n

-- the numbers below k by f, and those from k on by g, counted from k
abbrev pub split : ℕ → (ℕ → List ℕ) → (ℕ → List ℕ) → ℕ → List ℕ
split k f g n = if nat_lt n k then f n else g (n - k)

-- the table, from the least components on: to -8257, to -65, to 63, to 8255, to 4294975551
abbrev pub spelling : ℕ → List ℕ
spelling = split 4294967296 (five 31) (split 8192 (two 32) (split 128 (one 64) (split 8192 (two 192) (five 224))))

abbrev pub spell : ℤ → List ℕ
spell c = spelling (rank c)

-- the spellings, one after the other
abbrev pub bytes_of : List ℤ → List ℕ
bytes_of cs = flat_map spell cs

three_components : bytes_of (pos 1 ∷ pos 2 ∷ negsuc 0 ∷ []) ≡ 129 ∷ 130 ∷ 127 ∷ []
three_components = refl

last_of_one_byte : bytes_of (pos 63 ∷ []) ≡ 191 ∷ []
last_of_one_byte = refl

first_of_two_bytes : bytes_of (pos 64 ∷ pos 1 ∷ []) ≡ 192 ∷ 0 ∷ 129 ∷ []
first_of_two_bytes = refl

odd_of_two_bytes : bytes_of (pos 65 ∷ []) ≡ 192 ∷ 1 ∷ []
odd_of_two_bytes = refl

last_of_two_bytes : bytes_of (pos 8255 ∷ []) ≡ 223 ∷ 255 ∷ []
last_of_two_bytes = refl

first_of_five_bytes : bytes_of (pos 8256 ∷ pos 1 ∷ []) ≡ 224 ∷ 0 ∷ 0 ∷ 0 ∷ 0 ∷ 129 ∷ []
first_of_five_bytes = refl

odd_of_five_bytes : bytes_of (pos 8257 ∷ []) ≡ 224 ∷ 0 ∷ 0 ∷ 0 ∷ 1 ∷ []
odd_of_five_bytes = refl

greatest : bytes_of (pos 4294975551 ∷ []) ≡ 224 ∷ 255 ∷ 255 ∷ 255 ∷ 255 ∷ []
greatest = refl

negative_of_one_byte : bytes_of (negsuc 62 ∷ []) ≡ 65 ∷ []
negative_of_one_byte = refl

least_of_one_byte : bytes_of (negsuc 63 ∷ pos 1 ∷ []) ≡ 64 ∷ 129 ∷ []
least_of_one_byte = refl

negative_of_two_bytes : bytes_of (negsuc 64 ∷ []) ≡ 63 ∷ 255 ∷ []
negative_of_two_bytes = refl

least_odd_of_two_bytes : bytes_of (negsuc 8254 ∷ []) ≡ 32 ∷ 1 ∷ []
least_odd_of_two_bytes = refl

least_of_two_bytes : bytes_of (negsuc 8255 ∷ pos 1 ∷ []) ≡ 32 ∷ 0 ∷ 129 ∷ []
least_of_two_bytes = refl

negative_of_five_bytes : bytes_of (negsuc 8256 ∷ []) ≡ 31 ∷ 255 ∷ 255 ∷ 255 ∷ 255 ∷ []
negative_of_five_bytes = refl

least_odd : bytes_of (negsuc 4294975550 ∷ []) ≡ 31 ∷ 0 ∷ 0 ∷ 0 ∷ 1 ∷ []
least_odd = refl
