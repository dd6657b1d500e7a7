-- What the program's lexemes stand for.
use Rattle.std.specs.Prelude.{ℕ, ◌≡◌, List, [], ◌∷◌, Option, Some, None}
use Rattle.std.specs.Borrow.{Bor}
use Rattle.std.specs.Prelude.{String, string_bytes}
use Rattle.std.specs.Str.{chars}
use Rattle.std.specs.declared.alloc.Global.{Global}
use Rattle.mm_xml.specs.declared.lexeme.Lexeme.{Lexeme}
use Rattle.mm_xml.specs.declared.lexeme.Lexeme.TheVariants as lexeme
use Rattle.mm_xml.specs.declared.reference.Part.{Part}
use Rattle.mm_xml.specs.declared.reference.Part.TheVariants as part
use Rattle.mm_tree.specs.declared.Kind.TheVariants.{Element}
use Rattle.mm_xml.specs.Inside.Lexing.{Found}
use Rattle.mm_xml.specs.Inside.Telling.{Sign, Character, Named, Passage, Skipped, Opens, Closes, Doctyped}

abbrev pub chars_of : String Global → List ℕ
chars_of text = chars (string_bytes text)

-- the first character, and those after it
abbrev pub Takes : Option (ℕ × Bor (List ℕ)) → List ℕ → Type 0
Takes None cs = cs ≡ []
Takes (Some x) cs = cs ≡ x.0 ∷ chars x.1.now

abbrev pub sign_of : Lexeme → Sign
sign_of (lexeme.Character c) = Character c
sign_of (lexeme.Named c) = Named (c ∷ [])
sign_of (lexeme.Passage cs) = Passage (chars cs.now)
sign_of lexeme.Skipped = Skipped
sign_of (lexeme.Open empty name attributes) = Opens empty (Element name attributes)
sign_of (lexeme.Close name) = Closes name
sign_of lexeme.Doctype = Doctyped

-- a lexeme and the characters after it, as the definition has them
abbrev pub Finds : Option (Lexeme × Bor (List ℕ)) → Found Sign → Type 0
Finds None found = found ≡ None
Finds (Some x) found = found ≡ Some (sign_of x.0, chars x.1.now)

-- what is read over, and the characters after it
abbrev pub Skips : Option (Bor (List ℕ)) → Found Sign → Type 0
Skips None found = found ≡ None
Skips (Some rest) found = found ≡ Some (Skipped, chars rest.now)

abbrev pub sign_of_part : Part → Sign
sign_of_part (part.Itself c) = Character c
sign_of_part (part.Named c) = Named (c ∷ [])

abbrev pub FindsPart : Option (Part × Bor (List ℕ)) → Found Sign → Type 0
FindsPart None found = found ≡ None
FindsPart (Some x) found = found ≡ Some (sign_of_part x.0, chars x.1.now)

-- something of any kind, and the characters after it
abbrev pub Gets : {A : Type 0} → Option (A × Bor (List ℕ)) → Found A → Type 0
Gets None found = found ≡ None
Gets (Some x) found = found ≡ Some (x.0, chars x.1.now)

abbrev pub Splits : Option (Bor (List ℕ) × Bor (List ℕ)) → Found (List ℕ) → Type 0
Splits None found = found ≡ None
Splits (Some x) found = found ≡ Some (chars x.0.now, chars x.1.now)

abbrev pub Rests : Option (Bor (List ℕ)) → Option (List ℕ) → Type 0
Rests None rest = rest ≡ None
Rests (Some x) rest = rest ≡ Some (chars x.now)

-- a character, as the list of it
abbrev pub GetsCharacter : Option (ℕ × Bor (List ℕ)) → Found (List ℕ) → Type 0
GetsCharacter None found = found ≡ None
GetsCharacter (Some x) found = found ≡ Some (x.0 ∷ [], chars x.1.now)

-- characters, as the text of them
abbrev pub GetsText : Option (String Global × Bor (List ℕ)) → Found (List ℕ) → Type 0
GetsText None found = found ≡ None
GetsText (Some x) found = found ≡ Some (chars_of x.0, chars x.1.now)
