-- What is written is read.
use Rattle.std.proofs.Common.{◌≡◌, ◌≤◌, ◌<◌, ◌+◌, ◌^◌, ◌==◌, ℕ, List, [], ◌∷◌, ◌++◌, length, take, drop, refl, ap, sym, ◌∙◌, arith, append_assoc, length-append, Some, None, nat_lt, Bool, true, false, if◌then◌else◌}
use Rattle.std.proofs.lemmas.Bool.{le-ltb, ne_eqb}
use Rattle.std.proofs.Math.Seq.{take-append_seam, drop-append_seam, drop-append-add}
use Rattle.std.specs.declared.option.Option.{Option}
use Rattle.byteorder.specs.Endian.{big_number, big_bytes}
use Rattle.byteorder.specs.Numbers.{big_number-reads_back, length-bytes_high_first}
use Rattle.mm_keeper.specs.Entries.{Entries}
use Rattle.mm_journal.specs.Records.{Read}
use Rattle.mm_journal.specs.Records.Read.{Whole}
use Rattle.mm_logmap.specs.Batches.{encoded, value_mark, value_bytes, changed, changes, change_at, change_of, change_of_size}
use Rattle.mm_logmap.specs.Inside.Spelled.{Change, IsFit, AllFit, encode, applied}
use Rattle.mm_logmap.proofs.Changes.{changes-next, changes-none}

if_no : {A : Type 0} (b : Bool) (x y : A) → b ≡ false → (if b then x else y) ≡ y
if_no false x y e = refl
if_no true x y e = cc

-- what stands behind the first n bytes
past : (n : ℕ) (xs ys : List ℕ) → length xs ≡ n → drop n (xs ++ ys) ≡ ys
past n xs ys e = ap (λ (k : ℕ). drop k (xs ++ ys)) (sym e) ∙ drop-append_seam xs ys

first : (n : ℕ) (xs ys : List ℕ) → length xs ≡ n → take n (xs ++ ys) ≡ xs
first n xs ys e = ap (λ (k : ℕ). take k (xs ++ ys)) (sym e) ∙ take-append_seam xs ys

-- the lengths of a value as it is written and as it stands
abbrev taken : Option (List ℕ) → ℕ
taken value = length (value_bytes value)

-- a change behind its two lengths
sized : (next : ℕ → List ℕ → Entries → Read Entries) (at : ℕ) (bytes key : List ℕ) (n : ℕ) (value : Option (List ℕ)) (rest : List ℕ) (map : Entries)
    → 4 + length key + n ≤ length bytes → drop (4 + length key + n) bytes ≡ rest → take (length key) (drop 4 bytes) ≡ key
    → change_of_size next at bytes (length key) n value map ≡ next (at + (4 + length key + n)) rest (changed map key value)
unfolding change_of_size
sized next at bytes key n value rest map long behind same =
    if_no (nat_lt (length bytes) (4 + length key + n)) _ _ (le-ltb (length bytes) (4 + length key + n) long)
    ∙ ap (λ (r : List ℕ). next (at + (4 + length key + n)) r (changed map (take (length key) (drop 4 bytes)) value)) behind
    ∙ ap (λ (k : List ℕ). next (at + (4 + length key + n)) rest (changed map k value)) same

of : (next : ℕ → List ℕ → Entries → Read Entries) (at : ℕ) (bytes key : List ℕ) (value : Option (List ℕ)) (rest : List ℕ) (map : Entries) → IsFit (key, value)
    → 4 + length key + taken value ≤ length bytes → drop (4 + length key + taken value) bytes ≡ rest → take (length key) (drop 4 bytes) ≡ key
    → take (taken value) (drop (4 + length key) bytes) ≡ value_bytes value
    → change_of next at bytes (length key) (value_mark value) map ≡ next (at + (4 + length key + taken value)) rest (changed map key value)
unfolding change_of
of next at bytes key (Some value) rest map fit long behind same here =
    if_no (nat_lt (length key) 1) _ _ (le-ltb (length key) 1 (omega (arith, fit.0)))
    ∙ if_no (nat_lt 800 (length key)) _ _ (le-ltb 800 (length key) fit.1)
    ∙ if_no (length value == 65535) _ _ (ne_eqb (length value) 65535 (λ e. omega (arith, fit.2, e)))
    ∙ if_no (nat_lt 1024 (length value)) _ _ (le-ltb 1024 (length value) fit.2)
    ∙ ap (λ (v : List ℕ). change_of_size next at bytes (length key) (length value) (Some v) map) here
    ∙ sized next at bytes key (length value) (Some value) rest map long behind same
of next at bytes key None rest map fit long behind same here =
    if_no (nat_lt (length key) 1) _ _ (le-ltb (length key) 1 (omega (arith, fit.0)))
    ∙ if_no (nat_lt 800 (length key)) _ _ (le-ltb 800 (length key) fit.1)
    ∙ sized next at bytes key 0 None rest map long behind same

mark_fits : (key : List ℕ) (value : Option (List ℕ)) → IsFit (key, value) → value_mark value < 256 ^ 2
mark_fits key (Some value) fit = omega (arith, fit.2)
mark_fits key None fit = omega arith

-- one change that was written is read
unspelled : (next : ℕ → List ℕ → Entries → Read Entries) (at : ℕ) (key : List ℕ) (value : Option (List ℕ)) (rest : List ℕ) (map : Entries) → IsFit (key, value)
    → change_at next at (big_bytes 2 (length key) ++ (big_bytes 2 (value_mark value) ++ (key ++ (value_bytes value ++ rest)))) map
    ≡ next (at + (4 + length key + taken value)) rest (changed map key value)
unfolding change_at
unspelled next at key value rest map fit =
    if_no (nat_lt (length bytes) 4) _ _ (le-ltb (length bytes) 4 (omega (arith, long)))
    ∙ ap (λ (k : ℕ). change_of next at bytes k (big_number 2 (drop 2 bytes)) map) (big_number-reads_back 2 (length key) (big_bytes 2 (value_mark value) ++ behind) (omega (arith, fit.1)))
    ∙ ap (λ (v : ℕ). change_of next at bytes (length key) v map) (ap (big_number 2) two ∙ big_number-reads_back 2 (value_mark value) behind (mark_fits key value fit))
    ∙ of next at bytes key value rest map fit (omega (arith, long)) past_all (ap (take (length key)) four ∙ first (length key) key _ refl) (ap (take (taken value)) past_key ∙ first (taken value) (value_bytes value) rest refl)
  where
    behind : List ℕ
    behind = key ++ (value_bytes value ++ rest)

    bytes : List ℕ
    bytes = big_bytes 2 (length key) ++ (big_bytes 2 (value_mark value) ++ behind)

    l1 : length (big_bytes 2 (length key)) ≡ 2
    l1 = length-bytes_high_first 2 (length key)

    l2 : length (big_bytes 2 (value_mark value)) ≡ 2
    l2 = length-bytes_high_first 2 (value_mark value)

    long : length bytes ≡ 4 + (length key + (taken value + length rest))
    long = length-append (big_bytes 2 (length key)) (big_bytes 2 (value_mark value) ++ behind) ∙ omega (arith, l1, l2, length-append (big_bytes 2 (value_mark value)) behind, length-append key (value_bytes value ++ rest), length-append (value_bytes value) rest)

    two : drop 2 bytes ≡ big_bytes 2 (value_mark value) ++ behind
    two = past 2 (big_bytes 2 (length key)) _ l1

    four : drop 4 bytes ≡ behind
    four = ap (λ (n : ℕ). drop (n + 2) bytes) (sym l1) ∙ drop-append-add (big_bytes 2 (length key)) (big_bytes 2 (value_mark value) ++ behind) 2 ∙ past 2 (big_bytes 2 (value_mark value)) behind l2

    -- n bytes behind the two lengths
    more : (n : ℕ) → drop (4 + n) bytes ≡ drop n behind
    more n = (let e : 4 + n ≡ length (big_bytes 2 (length key)) + (2 + n) = omega (arith, l1) in ap (λ (k : ℕ). drop k bytes) e)
        ∙ drop-append-add (big_bytes 2 (length key)) (big_bytes 2 (value_mark value) ++ behind) (2 + n)
        ∙ (let e : 2 + n ≡ length (big_bytes 2 (value_mark value)) + n = omega (arith, l2) in ap (λ (k : ℕ). drop k (big_bytes 2 (value_mark value) ++ behind)) e)
        ∙ drop-append-add (big_bytes 2 (value_mark value)) behind n

    past_key : drop (4 + length key) bytes ≡ value_bytes value ++ rest
    past_key = more (length key) ∙ past (length key) key _ refl

    past_all : drop (4 + length key + taken value) bytes ≡ rest
    past_all = (let e : 4 + length key + taken value ≡ 4 + (length key + taken value) = omega arith in ap (λ (k : ℕ). drop k bytes) e)
        ∙ more (length key + taken value) ∙ drop-append-add key (value_bytes value ++ rest) (taken value) ∙ past (taken value) (value_bytes value) rest refl

respelled : (key : List ℕ) (value : Option (List ℕ)) (rest : List ℕ)
    → encoded key value ++ rest ≡ big_bytes 2 (length key) ++ (big_bytes 2 (value_mark value) ++ (key ++ (value_bytes value ++ rest)))
unfolding encoded
respelled key value rest =
    append_assoc (big_bytes 2 (length key) ++ big_bytes 2 (value_mark value) ++ key) (value_bytes value) rest
    ∙ append_assoc (big_bytes 2 (length key) ++ big_bytes 2 (value_mark value)) key (value_bytes value ++ rest)
    ∙ append_assoc (big_bytes 2 (length key)) (big_bytes 2 (value_mark value)) (key ++ (value_bytes value ++ rest))

-- WHAT IS WRITTEN IS READ: these bytes make these changes, wherever they stand
pub changes-encode : (cs : List Change) (n at : ℕ) (map : Entries) → AllFit cs → length (encode cs) ≤ n → changes n at (encode cs) map ≡ Whole (applied map cs)
changes-encode [] n at map fit room = changes-none n at [] map (omega arith)
changes-encode (c ∷ cs) n at map fit room =
    let e = respelled c.0 c.1 (encode cs) in
    let long : length (encode (c ∷ cs)) ≡ 4 + (length c.0 + (taken c.1 + length (encode cs))) = ap length e ∙ spelled_length c.0 c.1 (encode cs) in
    let next = changes-next n at (encode (c ∷ cs)) map (omega (arith, long)) room in
    next.2 ∙ ap (λ (bytes : List ℕ). change_at (changes next.0) at bytes map) e
    ∙ unspelled (changes next.0) at c.0 c.1 (encode cs) map fit.0
    ∙ changes-encode cs next.0 (at + (4 + length c.0 + taken c.1)) (changed map c.0 c.1) fit.1 (omega (arith, long, room, next.1))
  where
    spelled_length : (key : List ℕ) (value : Option (List ℕ)) (rest : List ℕ)
        → length (big_bytes 2 (length key) ++ (big_bytes 2 (value_mark value) ++ (key ++ (value_bytes value ++ rest)))) ≡ 4 + (length key + (taken value + length rest))
    spelled_length key value rest = omega (
      arith,
      length-append (big_bytes 2 (length key)) (big_bytes 2 (value_mark value) ++ (key ++ (value_bytes value ++ rest))),
      length-append (big_bytes 2 (value_mark value)) (key ++ (value_bytes value ++ rest)),
      length-append key (value_bytes value ++ rest),
      length-append (value_bytes value) rest,
      length-bytes_high_first 2 (length key),
      length-bytes_high_first 2 (value_mark value),
    )

pub encode-append : (cs ds : List Change) → encode (cs ++ ds) ≡ encode cs ++ encode ds
encode-append [] ds = refl
encode-append (c ∷ cs) ds = ap (λ (bytes : List ℕ). encoded c.0 c.1 ++ bytes) (encode-append cs ds) ∙ sym (append_assoc (encoded c.0 c.1) (encode cs) (encode ds))

pub applied-append : (cs ds : List Change) (map : Entries) → applied map (cs ++ ds) ≡ applied (applied map cs) ds
applied-append [] ds map = refl
applied-append (c ∷ cs) ds map = applied-append cs ds (changed map c.0 c.1)

pub fit-append : (cs ds : List Change) → AllFit cs → AllFit ds → AllFit (cs ++ ds)
fit-append [] ds f g = g
fit-append (c ∷ cs) ds f g = (f.0, fit-append cs ds f.1 g)
