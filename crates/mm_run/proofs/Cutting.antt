-- How commands are cut, line by line.
use Rattle.std.proofs.Common.{◌≡◌, ℕ, ◌<◌, Bool, true, false, List, [], ◌∷◌, ◌++◌, refl, ap, ◌∙◌, arith, length-append, append_assoc, None, Some, Result, Ok, Err, cond, eqb, eqb-true}
use Rattle.std.specs.declared.option.Option.{Option}
use Rattle.std.specs.Io.KnownBytes.{IsAtEnd}
use Rattle.mm_run.specs.declared.command.Command.{Command}
use Rattle.mm_command.specs.declared.line.Line.TheVariants.{Blank, Load, Insert, Delete, Replace, Search, Show, Check, Quit}
use Rattle.mm_run.specs.declared.command.Payload.{Payload}
use Rattle.mm_run.specs.declared.command.Payload.TheVariants.{Nothing, Cut}
use Rattle.mm_run.specs.declared.reading.Next.{Next}
use Rattle.mm_run.specs.declared.reading.Next.TheVariants as next
use Rattle.mm_run.specs.declared.line.ReadError.{ReadError}
use Rattle.mm_run.specs.declared.line.ReadError.TheVariants.{Source, Memory}
use Rattle.mm_run.specs.Lines.{lines, HasNoLineFeed}
use Rattle.mm_run.specs.Forms.{Form, form_of, takes_payload, quits}
use Rattle.mm_run.specs.Payloads.{closes, payload_of}
use Rattle.mm_run.specs.Commands.{Begun, grouped}
use Rattle.mm_run.specs.Inside.Input.{Went}
use Rattle.mm_run.specs.Inside.Step.{WentPart, WentRow, WentLastRow, WentCommand, WentLast, WentQuit, WentRest, GivesNext, IsLast, last_payload}
use Rattle.mm_run.proofs.Going.{went-more}
use Rattle.mm_run.proofs.Tested.{test-false}

-- a whole line comes first
lines-line : (line more : List ℕ) (ended : Bool) → HasNoLineFeed line → lines (line ++ 10 ∷ more) ended ≡ line ∷ lines more ended
lines-line [] more ended part = refl
lines-line (b ∷ line) more ended part = rw (test-false (eqb b 10) (eqb-true b 10) part.0, lines-line line more ended part.1)

pub lines-whole : (line more : List ℕ) (ended : Bool) → HasNoLineFeed line → lines ((line ++ 10 ∷ []) ++ more) ended ≡ line ∷ lines more ended
lines-whole line more ended part = ap (λ l. lines l ended) (append_assoc line (10 ∷ []) more) ∙ lines-line line more ended part

-- a part of a line is no line yet
pub lines-part : (line : List ℕ) → HasNoLineFeed line → lines line false ≡ []
lines-part [] part = refl
lines-part (b ∷ line) part = rw (test-false (eqb b 10) (eqb-true b 10) part.0, lines-part line part.1)

-- at the end it is one
pub lines-last : (b : ℕ) (line : List ℕ) → HasNoLineFeed (b ∷ line) → lines (b ∷ line) true ≡ (b ∷ line) ∷ []
lines-last b [] part = rw (test-false (eqb b 10) (eqb-true b 10) part.0)
lines-last b (x ∷ line) part = rw (test-false (eqb b 10) (eqb-true b 10) part.0, lines-last x line part.1)

-- whatever follows these bytes, they lead from one begun command to another
pub record Leads (start next : Option Begun) (got : List ℕ) : Type 0 where
  pub each : (more : List ℕ) (ended : Bool) → grouped start ended (lines (got ++ more) ended) ≡ grouped next ended (lines more ended)

-- bytes that lead on, and then what a call for a command does
module _ {start begun : Option Begun} {got : List ℕ} (leads : Leads start begun got) {a b : Option (List ℕ)} {n m : ℕ} (went : Went a b n m got) where
  leads-more : (xs more : List ℕ) (ended : Bool) → grouped start ended (lines ((got ++ xs) ++ more) ended) ≡ grouped begun ended (lines (xs ++ more) ended)
  leads-more xs more ended = ap (λ l. grouped start ended (lines l ended)) (append_assoc got xs more) ∙ leads.each (xs ++ more) ended

  rest-after : {c : Option (List ℕ)} {k : ℕ} → WentRest begun b c m k → WentRest start a c n k
  rest-after w = record { got = got ++ w.got; went = went-more went w.went; none = leads.each w.got false ∙ w.none }

  last-after : {c : Option (List ℕ)} {k : ℕ} {cut : List Command} → WentLast begun b c m k cut → WentLast start a c n k cut
  last-after w = record { got = got ++ w.got; went = went-more went w.went; last = leads.each w.got true ∙ w.last; end = w.end; few = w.few }

  pub next-after : (c : Option (List ℕ)) (k : ℕ) (result : Result Next ReadError) → GivesNext begun b c m k result → GivesNext start a c n k result
  next-after c k (Ok (next.Command command)) given = (
    record {
      got = got ++ given.0.got;
      went = went-more went given.0.went;
      some = omega (arith, given.0.some, length-append got given.0.got);
      cuts = record { each = λ more ended. leads-more given.0.got more ended ∙ given.0.cuts.each more ended };
    },
    given.1,
  )
  next-after c k (Ok (next.Last command)) given = last-after given
  next-after c k (Ok next.Quit) given = record {
    got = got ++ given.got;
    went = went-more went given.went;
    command = given.command;
    quit = given.quit;
    each = λ more ended. leads-more given.got more ended ∙ given.each more ended;
  }
  next-after c k (Ok next.End) given = last-after given
  next-after c k (Ok next.Full) given = (rest-after given.0, given.1)
  next-after c k (Err Source) given = rest-after given
  next-after c k (Err Memory) given = record { got = got ++ given.got; went = went-more went given.went }

-- a line of a payload leads on
row-leads : (form : Form) (rows : List (List ℕ)) (row : List ℕ) → HasNoLineFeed row → closes row ≡ false
    → Leads (Some (record { form = form; rows = rows })) (Some (record { form = form; rows = rows ++ row ∷ [] })) (row ++ 10 ∷ [])
row-leads form rows row part other = record { each = λ more ended. rw (lines-whole row more ended part, other) }

module _ (form : Form) (rows : List (List ℕ)) {a b : Option (List ℕ)} {n m : ℕ} where
  pub after-row : (w : WentRow a b n m false) (c : Option (List ℕ)) (k : ℕ) (result : Result Next ReadError)
      → GivesNext (Some (record { form = form; rows = rows ++ w.row ∷ [] })) b c m k result → GivesNext (Some (record { form = form; rows = rows })) a c n k result
  after-row w c k result given = next-after (row-leads form rows w.row w.part w.is_closing) w.went c k result given

  pub row-closed : (w : WentRow a b n m true) (payload : Payload) → payload ≡ payload_of rows
      → WentCommand (Some (record { form = form; rows = rows })) a b n m (record { form = form; payload = payload })
  row-closed w payload is = record {
    got = w.row ++ 10 ∷ [];
    went = w.went;
    some = omega (arith, length-append w.row (10 ∷ []));
    cuts = record { each = λ more ended. rw (lines-whole w.row more ended w.part, w.is_closing, is) };
  }

module _ (form : Form) (rows : List (List ℕ)) {a b : Option (List ℕ)} {n m : ℕ} where
  last-at : (row : List ℕ) → Went a b n m row → HasNoLineFeed row → IsAtEnd b → 0 < m → closes row ≡ true
      → WentLast (Some (record { form = form; rows = rows })) a b n m (record { form = form; payload = payload_of rows } ∷ [])
  unfolding closes
  last-at [] went part end few closed = cc
  last-at (x ∷ row) went part end few closed = record { got = x ∷ row; went = went; last = rw (lines-last x row part, closed); end = end; few = few }

  pub row-last : (w : WentLastRow a b n m true) (payload : Payload) → payload ≡ payload_of rows
      → WentLast (Some (record { form = form; rows = rows })) a b n m (record { form = form; payload = payload } ∷ [])
  row-last w payload is = rw is (last-at w.row w.went w.part w.end w.few w.is_closing)

  cut-at : (row : List ℕ) → Went a b n m row → HasNoLineFeed row → IsAtEnd b → 0 < m → closes row ≡ false
      → WentLast (Some (record { form = form; rows = rows })) a b n m (record { form = form; payload = Cut } ∷ [])
  cut-at [] went part end few other = record { got = []; went = went; last = refl; end = end; few = few }
  cut-at (x ∷ row) went part end few other = record { got = x ∷ row; went = went; last = rw (lines-last x row part, other); end = end; few = few }

  pub row-cut : WentLastRow a b n m false → WentLast (Some (record { form = form; rows = rows })) a b n m (record { form = form; payload = Cut } ∷ [])
  row-cut w = cut-at w.row w.went w.part w.end w.few w.is_closing

nothing-yet : (start : Option Begun) → grouped start false [] ≡ []
nothing-yet None = refl
nothing-yet (Some begun) = refl

-- a part of a line is no command yet
pub part-rest : {start : Option Begun} {a b : Option (List ℕ)} {n m : ℕ} → WentPart a b n m → WentRest start a b n m
part-rest {start} part = record { got = part.got; went = part.went; none = rw (lines-part part.got part.part) (nothing-yet start) }

-- the line that ends the run
pub went-quit : {a b : Option (List ℕ)} {n m : ℕ} (line : List ℕ) → Went a b n m (line ++ 10 ∷ []) → HasNoLineFeed line → quits (form_of line) ≡ true → WentQuit None a b n m
went-quit line went part quit = record {
  got = line ++ 10 ∷ [];
  went = went;
  command = record { form = form_of line; payload = Nothing };
  quit = quit;
  each = λ more ended. rw (lines-whole line more ended part, quit);
}

-- a command without a payload
pub went-alone : {a b : Option (List ℕ)} {n m : ℕ} (line : List ℕ) → Went a b n m (line ++ 10 ∷ []) → HasNoLineFeed line → quits (form_of line) ≡ false → takes_payload (form_of line) ≡ false
    → WentCommand None a b n m (record { form = form_of line; payload = Nothing })
went-alone line went part other alone = record {
  got = line ++ 10 ∷ [];
  went = went;
  some = omega (arith, length-append line (10 ∷ []));
  cuts = record { each = λ more ended. rw (lines-whole line more ended part, other, alone) };
}

-- a line that a payload follows leads to the payload
begin-leads : (line : List ℕ) → HasNoLineFeed line → quits (form_of line) ≡ false → takes_payload (form_of line) ≡ true
    → Leads None (Some (record { form = form_of line; rows = [] })) (line ++ 10 ∷ [])
begin-leads line part other takes = record { each = λ more ended. rw (lines-whole line more ended part, other, takes) }

pub went-payload : {a b : Option (List ℕ)} {n m : ℕ} (line : List ℕ) → Went a b n m (line ++ 10 ∷ []) → HasNoLineFeed line → quits (form_of line) ≡ false → takes_payload (form_of line) ≡ true
    → (c : Option (List ℕ)) (k : ℕ) (result : Result Next ReadError) → GivesNext (Some (record { form = form_of line; rows = [] })) b c m k result → GivesNext None a c n k result
went-payload line went part other takes c k result given = next-after (begin-leads line part other takes) went c k result given

last-form : (form : Form) → ◌≡◌ {A = List Command}
    (cond {A = List Command} (quits form) (record { form = form; payload = Nothing } ∷ []) (cond {A = List Command} (takes_payload form) (record { form = form; payload = Cut } ∷ []) (record { form = form; payload = Nothing } ∷ [])))
    (record { form = form; payload = last_payload (takes_payload form) } ∷ [])
last-form None = refl
last-form (Some Blank) = refl
last-form (Some Load) = refl
last-form (Some (Insert place label)) = refl
last-form (Some (Delete label)) = refl
last-form (Some (Replace label)) = refl
last-form (Some (Search find text)) = refl
last-form (Some (Show label)) = refl
last-form (Some Check) = refl
last-form (Some Quit) = refl

-- The end of the input ends a line.
pub went-last : {a b : Option (List ℕ)} {n m : ℕ} (line : List ℕ) (next : Next) → Went a b n m line → HasNoLineFeed line → IsAtEnd b → 0 < m → IsLast line next → GivesNext None a b n m (Ok next)
went-last line next.End went part end few is = record { got = line; went = went; last = rw is; end = end; few = few }
went-last [] (next.Last command) went part end few is = absurd (omega (arith, is.0))
went-last (x ∷ line) (next.Last command) went part end few is =
    record { got = x ∷ line; went = went; last = rw (lines-last x line part, is.1) (last-form (form_of (x ∷ line))); end = end; few = few }
went-last line next.Quit went part end few is = absurd is
went-last line (next.Command command) went part end few is = absurd is
went-last line next.Full went part end few is = absurd is
