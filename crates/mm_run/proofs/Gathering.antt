-- How a payload is gathered, line by line.
use Rattle.std.proofs.Common.{◌≡◌, ℕ, ◌+◌, ◌<◌, true, false, List, [], ◌∷◌, ◌++◌, length, refl, ap, ◌∙◌, sym, Some, Result, Ok, Err}
use Rattle.std.specs.declared.option.Option.{Option}
use Rattle.mm_run.specs.declared.command.Payload.{Payload}
use Rattle.mm_run.specs.declared.command.Payload.TheVariants.{Cut, Long}
use Rattle.mm_run.specs.declared.reading.Next.{Next}
use Rattle.mm_run.specs.declared.reading.Next.TheVariants as next
use Rattle.mm_run.specs.declared.line.ReadError.{ReadError}
use Rattle.mm_run.specs.declared.line.ReadError.TheVariants.{Source, Memory}
use Rattle.mm_run.specs.Forms.{Form, quits}
use Rattle.mm_run.specs.Payloads.{unstopped, joined, ended_rows, payload_of, payload_limit}
use Rattle.mm_run.specs.Inside.Step.{WentPart, WentRow, WentLastRow, GivesRow, GivesNext}
use Rattle.mm_run.proofs.Cutting.{after-row, row-closed, row-last, row-cut, part-rest}
use Rattle.mm_run.proofs.Rows.{ended-more, long-is, over-is, over-more}

-- the payload's lines went from some to more
pub record Onward (form : Form) (rows rows' : List (List ℕ)) (before after : Option (List ℕ)) (n m : ℕ) : Type 0 where
  pub each : (c : Option (List ℕ)) (k : ℕ) (result : Result Next ReadError)
      → GivesNext (Some (record { form = form; rows = rows' })) after c m k result → GivesNext (Some (record { form = form; rows = rows })) before c n k result

onward-more : {form : Form} {rows rows' : List (List ℕ)} {a b c : Option (List ℕ)} {n m k : ℕ} → Onward form rows rows' a b n m → (w : WentRow b c m k false) → Onward form rows (rows' ++ w.row ∷ []) a c n k
onward-more {form} {rows} {rows'} onward w = record { each = λ d j result given. onward.each d j result (after-row form rows' w d j result given) }

-- a payload so far, none of whose lines is missing
pub record Gathers (form : Form) (before after : Option (List ℕ)) (n m : ℕ) (payload : List ℕ) : Type 0 where
  pub rows : List (List ℕ)
  pub is : payload ≡ ended_rows rows
  pub onward : Onward form [] rows before after n m

pub gathers-start : (form : Form) (known : Option (List ℕ)) (n : ℕ) → Gathers form known known n n []
gathers-start form known n = record { rows = []; is = refl; onward = record { each = λ c k result given. given } }

module _ {form : Form} {a b : Option (List ℕ)} {n m : ℕ} {payload : List ℕ} (gathers : Gathers form a b n m payload) where
  pub gathers-more : {c : Option (List ℕ)} {k : ℕ} (w : WentRow b c m k false) (payload' : List ℕ) → payload' ≡ payload ++ (unstopped w.row ++ 10 ∷ []) → Gathers form a c n k payload'
  gathers-more w payload' added = record {
    rows = gathers.rows ++ w.row ∷ [];
    is = added ∙ ap (λ l. l ++ (unstopped w.row ++ 10 ∷ [])) gathers.is ∙ sym (ended-more gathers.rows w.row);
    onward = onward-more gathers.onward w;
  }

  pub gathers-closed : {c : Option (List ℕ)} {k : ℕ} → WentRow b c m k true → quits form ≡ false → (whole : Payload) → whole ≡ payload_of gathers.rows
      → GivesNext (Some (record { form = form; rows = [] })) a c n k (Ok (next.Command (record { form = form; payload = whole })))
  gathers-closed w other whole is = gathers.onward.each _ _ (Ok (next.Command (record { form = form; payload = whole }))) (row-closed form gathers.rows w whole is, other)

  pub gathers-last : {c : Option (List ℕ)} {k : ℕ} → WentLastRow b c m k true → (whole : Payload) → whole ≡ payload_of gathers.rows
      → GivesNext (Some (record { form = form; rows = [] })) a c n k (Ok (next.Last (record { form = form; payload = whole })))
  gathers-last w whole is = gathers.onward.each _ _ (Ok (next.Last (record { form = form; payload = whole }))) (row-last form gathers.rows w whole is)

  pub gathers-cut : {c : Option (List ℕ)} {k : ℕ} → WentLastRow b c m k false → GivesNext (Some (record { form = form; rows = [] })) a c n k (Ok (next.Last (record { form = form; payload = Cut })))
  gathers-cut w = gathers.onward.each _ _ (Ok (next.Last (record { form = form; payload = Cut }))) (row-cut form gathers.rows w)

  pub gathers-full : {c : Option (List ℕ)} {k : ℕ} → WentPart b c m k → k ≡ 0 → GivesNext (Some (record { form = form; rows = [] })) a c n k (Ok next.Full)
  gathers-full part full = gathers.onward.each _ _ (Ok next.Full) (part-rest part, full)

  pub gathers-failed : (c : Option (List ℕ)) (k : ℕ) (payload' : List ℕ) (limit : ℕ) (error : ReadError) → GivesRow b c m k payload payload' limit (Err error)
      → GivesNext (Some (record { form = form; rows = [] })) a c n k (Err error)
  gathers-failed c k payload' limit Source part = gathers.onward.each _ _ (Err Source) (part-rest part)
  gathers-failed c k payload' limit Memory given = gathers.onward.each _ _ (Err Memory) given

  -- a line that passes the limit, and then what skipping the rest does
  pub gathers-over : {c : Option (List ℕ)} {k : ℕ} (w : WentRow b c m k false) → payload_limit < length payload + length (unstopped w.row) → (d : Option (List ℕ)) (j : ℕ) (result : Result Next ReadError)
      → ((rows : List (List ℕ)) → payload_limit < length (joined rows) → GivesNext (Some (record { form = form; rows = rows })) c d k j result)
      → GivesNext (Some (record { form = form; rows = [] })) a d n j result
  gathers-over w over d j result skips =
      gathers.onward.each d j result (after-row form gathers.rows w d j result (skips (gathers.rows ++ w.row ∷ []) (over-is gathers.rows w.row payload gathers.is over)))

-- a payload that passed the limit goes on
pub record Skips (form : Form) (before after : Option (List ℕ)) (n m : ℕ) : Type 0 where
  pub each : (rows : List (List ℕ)) → payload_limit < length (joined rows)
      → (rows' : List (List ℕ)) × (payload_limit < length (joined rows')) × Onward form rows rows' before after n m

pub skips-start : (form : Form) (known : Option (List ℕ)) (n : ℕ) → Skips form known known n n
skips-start form known n = record { each = λ rows over. (rows, over, record { each = λ c k result given. given }) }

module _ {form : Form} {a b : Option (List ℕ)} {n m : ℕ} (skips : Skips form a b n m) where
  pub skips-more : {c : Option (List ℕ)} {k : ℕ} → WentRow b c m k false → Skips form a c n k
  skips-more w = record {
    each = λ rows over. let s = skips.each rows over in (s.0 ++ w.row ∷ [], over-more s.0 w.row s.1, onward-more s.2 w);
  }

  module _ {c : Option (List ℕ)} {k : ℕ} (rows : List (List ℕ)) (over : payload_limit < length (joined rows)) where
    pub skips-closed : WentRow b c m k true → quits form ≡ false → GivesNext (Some (record { form = form; rows = rows })) a c n k (Ok (next.Command (record { form = form; payload = Long })))
    skips-closed w other = let s = skips.each rows over in s.2.each _ _ (Ok (next.Command (record { form = form; payload = Long }))) (row-closed form s.0 w Long (long-is s.0 s.1), other)

    pub skips-last : WentLastRow b c m k true → GivesNext (Some (record { form = form; rows = rows })) a c n k (Ok (next.Last (record { form = form; payload = Long })))
    skips-last w = let s = skips.each rows over in s.2.each _ _ (Ok (next.Last (record { form = form; payload = Long }))) (row-last form s.0 w Long (long-is s.0 s.1))

    pub skips-cut : WentLastRow b c m k false → GivesNext (Some (record { form = form; rows = rows })) a c n k (Ok (next.Last (record { form = form; payload = Cut })))
    skips-cut w = let s = skips.each rows over in s.2.each _ _ (Ok (next.Last (record { form = form; payload = Cut }))) (row-cut form s.0 w)

    pub skips-full : WentPart b c m k → k ≡ 0 → GivesNext (Some (record { form = form; rows = rows })) a c n k (Ok next.Full)
    skips-full part full = let s = skips.each rows over in s.2.each _ _ (Ok next.Full) (part-rest part, full)

  pub skips-failed : (c : Option (List ℕ)) (k : ℕ) (rows : List (List ℕ)) → payload_limit < length (joined rows) → (payload payload' : List ℕ) (limit : ℕ) (error : ReadError) → GivesRow b c m k payload payload' limit (Err error)
      → GivesNext (Some (record { form = form; rows = rows })) a c n k (Err error)
  skips-failed c k rows over payload payload' limit Source part = let s = skips.each rows over in s.2.each c k (Err Source) (part-rest part)
  skips-failed c k rows over payload payload' limit Memory given = let s = skips.each rows over in s.2.each c k (Err Memory) given
