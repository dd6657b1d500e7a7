-- The spaces at both ends of a line.
use Rattle.std.proofs.Common.{◌≡◌, ◌≢◌, ℕ, suc, ◌+◌, ◌-◌, ◌<◌, ◌≤◌, Bool, true, false, cond, ◌&&◌, ◌||◌, nat_le, List, [], ◌∷◌, ◌++◌, take, length, get_or, refl, ap, sym, ◌∙◌, subst, eqb, eqb-true, None, Some, Result, arith, le-leb}
use Rattle.std.proofs.lemmas.Bool.{false_from_ne_true}
use Rattle.std.proofs.lemmas.Str.{is_utf8-from_IsUtf8, IsUtf8-from_is_utf8}
use Rattle.std.specs.declared.option.Option.{Option}
use Rattle.std.specs.Str.{IsUtf8, is_utf8}
use Rattle.std.specs.List.{list_any, list_all}
use Rattle.std.specs.Io.BufRead.{strip_last}
use Rattle.mm_command.specs.declared.line.Line.{Line}
use Rattle.mm_command.specs.declared.line.LineError.{LineError}
use Rattle.std.specs.Borrow.{Bor}
use Rattle.std.specs.Str.Pattern.{FindsChar, FindsCharPrefix, FindsCharSuffix}
use Rattle.std.proofs.lemmas.Str.Pattern.{strip_prefix_char, strip_suffix_char, find_char}
use Rattle.mm_command.specs.Lines.{after_spaces, before_spaces, onto_unless_space, is_space, is_printable, one_word, line_limit, is_line_text, line_of_text, line_of, Gives}

pub test-false : {P : Type 0} (test : Bool) → (test ≡ true → P) → ¬ P → test ≡ false
test-false true holds fails = absurd (fails (holds refl))
test-false false holds fails = refl

-- a space at the end is dropped
before_spaces-space : (text : List ℕ) → before_spaces (text ++ 32 ∷ []) ≡ before_spaces text
before_spaces-space [] = refl
before_spaces-space (b ∷ text) = ap (onto_unless_space b) (before_spaces-space text)

-- what ends in no space stays
before_spaces-same : (text : List ℕ) → ((front : List ℕ) → text ≢ front ++ 32 ∷ []) → before_spaces text ≡ text
before_spaces-same [] other = refl
before_spaces-same (b ∷ []) other = rw (test-false (eqb b 32) (eqb-true b 32) (λ space. other [] (ap (λ x. x ∷ []) space)))
before_spaces-same (b ∷ c ∷ text) other = ap (onto_unless_space b) (before_spaces-same (c ∷ text) (λ front same. other (b ∷ front) (ap (λ t. b ∷ t) same)))

-- what begins with no space stays
after_spaces-same : (text : List ℕ) → ((rest : List ℕ) → text ≢ 32 ∷ rest) → after_spaces text ≡ text
after_spaces-same [] other = refl
after_spaces-same (b ∷ text) other = rw (test-false (eqb b 32) (eqb-true b 32) (λ space. other text (ap (λ x. x ∷ text) space)))

pub none-in-front : (text : List ℕ) → FindsCharPrefix 32 text None → after_spaces text ≡ text
none-in-front text found = after_spaces-same text (strip_prefix_char 32 text None found (omega arith))

pub none-behind : (text : List ℕ) → FindsCharSuffix 32 text None → before_spaces text ≡ text
none-behind text found = before_spaces-same text (strip_suffix_char 32 text None found (omega arith))

pub one_behind : (whole text : List ℕ) (more : Bor (List ℕ)) → before_spaces text ≡ before_spaces whole
    → (n : ℕ) × FindsCharSuffix 32 text (Some n) × (more.now ≡ take (length text - n) text) × (length more.now + n ≡ length text)
    → before_spaces more.now ≡ before_spaces whole
one_behind whole text more so_far found = sym (before_spaces-space more.now) ∙ sym (ap before_spaces (strip_suffix_char 32 text (Some more) found (omega arith))) ∙ so_far

-- a text without spaces
no-space : (text : List ℕ) → ((i : ℕ) → i < length text → get_or text i 0 ≢ 32) → list_any is_space text ≡ false
no-space [] other = refl
no-space (b ∷ text) other = ap (λ t. t || list_any is_space text) (test-false (eqb b 32) (eqb-true b 32) (other 0 (omega arith))) ∙ no-space text (λ i less. other (suc i) (omega (arith, less)))

pub is_one_word : (text label : List ℕ) → label ≡ text → 0 < length text → FindsChar 32 text None → one_word text ≡ Some label
is_one_word [] label is some found = absurd (omega (arith, some))
is_one_word (b ∷ text) label is some found =
    ap (λ t. cond t None (Some (b ∷ text))) (no-space (b ∷ text) (find_char 32 (b ∷ text) None found (omega arith))) ∙ ap Some (sym is)

all-three : {a b c : Bool} → a ≡ true → b ≡ true → c ≡ true → (a && (b && c)) ≡ true
all-three {a} {b} {c} first second third = rw first rw second third

-- a line that is text, and one that isn't
pub is_read : (line text : List ℕ) (result : Result Line LineError) → text ≡ strip_last 13 line → length text ≤ line_limit → list_all is_printable text ≡ true → IsUtf8 text
    → Gives result (line_of_text text) → Gives result (line_of line)
unfolding line_of
is_read line text result is short printable utf8 gives =
    let all : is_line_text text ≡ true = all-three (le-leb (length text) line_limit short) printable (is_utf8-from_IsUtf8 text utf8) in
    subst (λ (o : Option Line). Gives result o) (sym (ap (λ t. cond (is_line_text t) (line_of_text t) None) (sym is) ∙ ap (λ b. cond b (line_of_text text) None) all)) gives

none-of-three : (a b : Bool) → (a && (b && false)) ≡ false
none-of-three true true = refl
none-of-three true false = refl
none-of-three false b = refl

pub is_no_text : (line text : List ℕ) → text ≡ strip_last 13 line → ¬ (IsUtf8 text) → line_of line ≡ None
unfolding line_of
is_no_text line text is other =
    let none : is_utf8 text ≡ false = false_from_ne_true (is_utf8 text) (λ t. other (IsUtf8-from_is_utf8 text t)) in
    let fails : is_line_text text ≡ false = ap (λ b. nat_le (length text) line_limit && (list_all is_printable text && b)) none ∙ none-of-three (nat_le (length text) line_limit) (list_all is_printable text) in
    ap (λ t. cond (is_line_text t) (line_of_text t) None) (sym is) ∙ ap (λ b. cond b (line_of_text text) None) fails
