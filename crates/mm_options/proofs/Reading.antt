-- What the getters read of what a parse found.
use Rattle.std.proofs.Common.{◌∙◌, ◌≡◌, ◌⊎◌, ◌<◌, ◌≤◌, inl, inr, codes, unwrap_or, ℕ, Bool, true, false, List, [], ◌∷◌, Option, Some, None, map, refl, arith, ◌^◌, ap}
use Rattle.std.specs.Prelude.{Result, Ok, Err, find, option_map, option_and_then, slice_get}
use Rattle.std.specs.Str.{bytes_eq}
use Rattle.std.specs.Str.Parse.{ParsesUnsigned}
use Rattle.clap.specs.Facts.{Entry}
use Rattle.clap.specs.Walk.{row_of}
use Rattle.std.specs.Borrow.{Bor}
use Rattle.clap.specs.Words.{IsUnsignedIn, ReadsOne, first_of, first_value, matched_of, one_text, read_as, rows_of}
use Rattle.clap.specs.declared.builder.value_parser.Reading.{Reading}
use Rattle.clap.specs.declared.parser.matches.MatchedArg.{MatchedArg}
use Rattle.clap.specs.declared.parser.matches.Found.{Found}
use Rattle.mm_options.specs.Options.{flag_in, number_in, number_of}
use Rattle.mm_options.specs.Inside.Command.{ReadsAs, SpellsNumber}

first_in : (entries : List Entry) (name : List ℕ)
    → first_of name (map row_of entries)
    ≡ option_and_then (λ a. option_map (λ s. s.now) (slice_get a.vals.items 0)) (option_map (λ e. e.1) (find (λ e. bytes_eq e.0.now name) entries))
first_in [] name = refl
first_in (e ∷ rest) name = go (bytes_eq e.0.now name) refl (first_in rest name) (head e.1.vals.items)
  where
    head : (values : List (Bor (List ℕ))) → slice_get (map (λ s. s.now) values) 0 ≡ option_map (λ s. s.now) (slice_get values 0)
    head [] = refl
    head (v ∷ vs) = refl

    go : (b : Bool) → bytes_eq e.0.now name ≡ b
        → first_of name (map row_of rest)
        ≡ option_and_then (λ a. option_map (λ s. s.now) (slice_get a.vals.items 0)) (option_map (λ e. e.1) (find (λ e. bytes_eq e.0.now name) rest))
        → slice_get (map (λ s. s.now) e.1.vals.items) 0 ≡ option_map (λ s. s.now) (slice_get e.1.vals.items 0)
        → first_of name (map row_of (e ∷ rest))
        ≡ option_and_then (λ a. option_map (λ s. s.now) (slice_get a.vals.items 0)) (option_map (λ e. e.1) (find (λ e. bytes_eq e.0.now name) (e ∷ rest)))
    go true h later here = rw h here
    go false h later here = rw h later

pub first_is : (found : Found) (name : List ℕ) → first_of name (rows_of found) ≡ first_value found name
first_is found name = first_in found.entries.items name

none_read : (found : Found) (name : List ℕ) → first_value found name ≡ None → one_text found name ≡ None
none_read found name h = at (matched_of found name) h
  where
    of_value : (how : Reading) (o : Option (Bor (List ℕ))) → option_map (λ s. s.now) o ≡ None → option_map (λ s. read_as how s.now) o ≡ None
    of_value how None h = refl
    of_value how (Some v) h = cc

    at : (o : Option MatchedArg) → option_and_then (λ a. option_map (λ s. s.now) (slice_get a.vals.items 0)) o ≡ None
        → option_and_then (λ a. option_map (λ s. read_as a.reading s.now) (slice_get a.vals.items 0)) o ≡ None
    at None h = refl
    at (Some a) h = of_value a.reading (slice_get a.vals.items 0) h

number_read : {E : Type 0} (G : List ℕ → Result ℕ E → Type 0) (text : List ℕ) (r : Option ℕ)
    → ((u : List ℕ) (x : Result ℕ E) → G u x → ParsesUnsigned 64 10 u x)
    → SpellsNumber text → ReadsOne G text r → r ≡ Some (number_of text)
number_read G text (Some v) parses spells read = ap Some (parses text (Ok v) read).1
number_read G text None parses spells read = absurd (parses text (Err read.0) read.1 (spells.0, spells.1))

pub number_found : {E : Type 0} (G : List ℕ → Result ℕ E → Type 0) (found : Found) (name : List ℕ) (r : Option ℕ)
    → ((u : List ℕ) (x : Result ℕ E) → G u x → ParsesUnsigned 64 10 u x)
    → ReadsAs found name SpellsNumber
    → (one_text found name ≡ None → r ≡ None)
    → ((text : List ℕ) → one_text found name ≡ Some text → ReadsOne G text r)
    → r ≡ number_in name (rows_of found)
number_found G found name r parses reads none some = go (first_value found name) refl
  where
    go : (o : Option (List ℕ)) → first_value found name ≡ o → r ≡ number_in name (rows_of found)
    go None h = rw (none (none_read found name h), first_is found name, h) refl
    go (Some text) h =
        let s = reads text h in
        rw (number_read G text r parses s.1 (some text s.0), first_is found name, h) refl

pub spells_number : (found : Found) (name : List ℕ) (low high : ℕ) → high < 2 ^ 64 → ReadsAs found name (IsUnsignedIn low high) → ReadsAs found name SpellsNumber
spells_number found name low high fits reads text h =
    let s = reads text h in
    (s.0, (s.1.0, s.1.1, omega arith, omega arith))

-- the number of an option, where it is given, and else a number in its range
pub number_in_range : (found : Found) (name : List ℕ) (low high other : ℕ) → ReadsAs found name (IsUnsignedIn low high) → low ≤ other → other ≤ high
    → (low ≤ unwrap_or (number_in name (rows_of found)) other) × (unwrap_or (number_in name (rows_of found)) other ≤ high)
number_in_range found name low high other reads above below =
    let first = first_is found name in
    rw first (go (first_value found name) refl)
  where
    go : (o : Option (List ℕ)) → first_value found name ≡ o
        → (low ≤ unwrap_or (option_map number_of o) other) × (unwrap_or (option_map number_of o) other ≤ high)
    go None h = (above, below)
    go (Some text) h =
        let s = (reads text h).1 in
        (s.2, s.3)

pub flag_found : (found : Found) (name : List ℕ) (r : Bool) → ReadsAs found name (λ text. (text ≡ codes "true") ⊎ (text ≡ codes "false"))
    → (one_text found name ≡ None → r ≡ false)
    → (one_text found name ≡ Some (codes "true") → r ≡ true)
    → (one_text found name ≡ Some (codes "false") → r ≡ false)
    → r ≡ flag_in name (rows_of found)
flag_found found name r reads none set unset = go (first_value found name) refl
  where
    go : (o : Option (List ℕ)) → first_value found name ≡ o → r ≡ flag_in name (rows_of found)
    go None h = rw (none (none_read found name h), first_is found name, h) refl
    go (Some text) h =
        let s = reads text h in
        elim s.1 [
          | inl is ↦ rw (first_is found name, h, is) (set (s.0 ∙ ap Some is))
          | inr is ↦ rw (first_is found name, h, is) (unset (s.0 ∙ ap Some is))
        ]
