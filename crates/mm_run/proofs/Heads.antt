-- Command lines, of which only so much is kept as tells what they ask for.
use Rattle.std.proofs.Common.{◌≡◌, ℕ, ◌+◌, ◌<◌, ◌≤◌, true, false, cond, ◌&&◌, List, [], ◌∷◌, ◌++◌, length, take, ap, sym, ◌∙◌, arith, ⊎_elim, None, Some, Result, Ok, Err, IfOk, IfErr, subst}
use Rattle.std.proofs.lemmas.List.{take_all, length-take, length-take-le, nil_from_length}
use Rattle.std.proofs.lemmas.Bool.{cases_lt, lt-leb}
use Rattle.std.specs.declared.option.Option.{Option}
use Rattle.std.specs.Io.KnownBytes.{IsAtEnd}
use Rattle.std.specs.Io.BufRead.{strip_last, ends_with_byte}
use Rattle.std.specs.List.{list_all}
use Rattle.std.specs.Str.{is_utf8}
use Rattle.mm_command.specs.Lines.{line_of, line_of_text, line_limit, is_printable}
use Rattle.mm_run.specs.declared.reading.Next.{Next}
use Rattle.mm_run.specs.declared.reading.Next.TheVariants as next
use Rattle.mm_run.specs.declared.line.ReadError.{ReadError}
use Rattle.mm_run.specs.declared.line.ReadError.TheVariants.{Source, Memory}
use Rattle.mm_run.specs.declared.command.Payload.TheVariants.{Nothing}
use Rattle.mm_run.specs.Lines.{HasNoLineFeed}
use Rattle.mm_run.specs.Inside.Input.{Went}
use Rattle.mm_run.specs.Forms.{Form, form_of, takes_payload, quits}
use Rattle.mm_run.specs.Inside.Step.{WentCommand, WentQuit, GivesLine, GivesNext, IsLast, last_payload}
use Rattle.mm_run.proofs.Cutting.{part-rest, went-last, went-quit, went-alone, went-payload}
use Rattle.mm_run.proofs.Rows.{strip-at}

form-long : (line : List ℕ) → line_limit + 2 ≤ length line → form_of line ≡ None
unfolding line_of
form-long line long =
    let most : length line ≤ length (strip_last 13 line) + 1 = strip-at (ends_with_byte 13 line) line in
    ap (λ t. cond (t && (list_all is_printable (strip_last 13 line) && is_utf8 (strip_last 13 line))) (line_of_text (strip_last 13 line)) None) (lt-leb (length (strip_last 13 line)) line_limit (omega arith))

-- a line's first bytes tell what it asks for
pub form-kept : (line : List ℕ) → form_of (take (line_limit + 2) line) ≡ form_of line
form-kept line = ⊎_elim
    (λ (short : length line < line_limit + 2). ap form_of (take_all (line_limit + 2) line (omega arith)))
    (λ (long : line_limit + 2 ≤ length line). form-long (take (line_limit + 2) line) (omega (arith, length-take-le (line_limit + 2) line long)) ∙ sym (form-long line long))
    (cases_lt (length line) (line_limit + 2))

pub last-kept : (line : List ℕ) (next : Next) → IsLast (take (line_limit + 2) line) next → IsLast line next
last-kept line next.End is = nil_from_length line (omega (arith, ap length is, length-take (line_limit + 2) line))
last-kept line (next.Last command) is = (
  omega (arith, is.0, length-take (line_limit + 2) line),
  subst (λ (form : Form). command ≡ record { form = form; payload = last_payload (takes_payload form) }) (form-kept line) is.1,
)
last-kept line next.Quit is = is
last-kept line (next.Command command) is = is
last-kept line next.Full is = is

-- no line could be read
pub line-failed : (a b : Option (List ℕ)) (n m : ℕ) (text text' : List ℕ) (limit : ℕ) (error : ReadError) → GivesLine a b n m text text' limit (Err error) → GivesNext None a b n m (Err error)
line-failed a b n m text text' limit Source part = part-rest part
line-failed a b n m text text' limit Memory given = given

-- what is asked for by a line that was read into an empty text
pub read-form : (line text text' now : List ℕ) (form : Form) → form ≡ form_of now → now ≡ text' → text' ≡ take (line_limit + 2) (text ++ line) → text ≡ [] → form ≡ form_of line
read-form line text text' now form is same kept empty = is ∙ ap form_of (same ∙ kept ∙ ap (λ l. take (line_limit + 2) (l ++ line)) empty) ∙ form-kept line

-- the end of the input ends a line that was read into an empty text
pub last-given : {a b : Option (List ℕ)} {n m : ℕ} (line text text' now : List ℕ) (result : Result Next ReadError) → Went a b n m line → HasNoLineFeed line → IsAtEnd b → 0 < m
    → IfOk result (λ next. IsLast now next) → IfErr result (λ e. e ≡ Memory) → now ≡ text' → text' ≡ take (line_limit + 2) (text ++ line) → text ≡ [] → GivesNext None a b n m result
last-given line text text' now (Ok next) went part end few is memory same kept empty =
    went-last line next went part end few (last-kept line next (subst (λ l. IsLast l next) (same ∙ kept ∙ ap (λ l. take (line_limit + 2) (l ++ line)) empty) is))
last-given line text text' now (Err Source) went part end few is memory same kept empty = cc
last-given line text text' now (Err Memory) went part end few is memory same kept empty = record { got = line; went = went }

module _ {a b : Option (List ℕ)} {n m : ℕ} (line : List ℕ) (form : Form) (is : form ≡ form_of line) (went : Went a b n m (line ++ 10 ∷ [])) (part : HasNoLineFeed line) where
  pub head-quit : quits form ≡ true → WentQuit None a b n m
  head-quit quit = went-quit line went part (ap quits (sym is) ∙ quit)

  pub head-alone : quits form ≡ false → takes_payload form ≡ false → WentCommand None a b n m (record { form = form; payload = Nothing })
  head-alone other alone =
      subst (λ (f : Form). WentCommand None a b n m (record { form = f; payload = Nothing })) (sym is) (went-alone line went part (ap quits (sym is) ∙ other) (ap takes_payload (sym is) ∙ alone))

  pub head-payload : quits form ≡ false → takes_payload form ≡ true → (c : Option (List ℕ)) (k : ℕ) (result : Result Next ReadError)
      → GivesNext (Some (record { form = form; rows = [] })) b c m k result → GivesNext None a c n k result
  head-payload other takes c k result given =
      went-payload line went part (ap quits (sym is) ∙ other) (ap takes_payload (sym is) ∙ takes) c k result (subst (λ (f : Form). GivesNext (Some (record { form = f; rows = [] })) b c m k result) is given)
