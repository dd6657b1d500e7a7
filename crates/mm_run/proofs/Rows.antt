-- The lines of a payload.
use Rattle.std.proofs.Common.{◌≡◌, ℕ, zero, suc, ◌+◌, ◌-◌, ◌<◌, ◌≤◌, Bool, true, false, cond, List, [], ◌∷◌, ◌++◌, length, take, drop, refl, ap, sym, ◌∙◌, arith, ⊎_elim, length-append, append_assoc, append-nil, eqb, subst}
use Rattle.std.proofs.Math.Seq.{take-append-add, take-append_seam, drop-append_seam}
use Rattle.std.proofs.lemmas.List.{take_all, length-take, length-take-le}
use Rattle.std.proofs.lemmas.Grind.{flat_map-append}
use Rattle.std.proofs.lemmas.Bool.{cases_lt, le-leb, lt-leb}
use Rattle.std.proofs.lemmas.Slice.Eq.{bytes_eq-Decides}
use Rattle.std.specs.Io.BufRead.{strip_last, ends_with_byte}
use Rattle.mm_run.specs.declared.command.Payload.TheVariants.{Whole, Long}
use Rattle.mm_run.specs.Payloads.{closes, unstopped, joined, ended_rows, payload_of, payload_limit}
use Rattle.mm_run.specs.Inside.Step.{EndsRow}
use Rattle.mm_run.proofs.Tested.{test-false}

pub strip-at : (ends : Bool) (line : List ℕ) → length line ≤ length (cond ends (take (length line - 1) line) line) + 1
strip-at true line = omega (arith, length-take (length line - 1) line)
strip-at false line = omega arith

-- a line of three bytes closes no payload
closes-long : (line : List ℕ) → 3 ≤ length line → closes line ≡ false
unfolding closes
closes-long line long =
    let dot : List ℕ = 46 ∷ [] in
    test-false {P = strip_last 13 line ≡ dot} (closes line) ((bytes_eq-Decides (strip_last 13 line) dot).0)
    (λ e. let same : length (strip_last 13 line) ≡ 1 = ap length e in let most : length line ≤ length (strip_last 13 line) + 1 = strip-at (ends_with_byte 13 line) line in omega arith)

-- its first three bytes tell whether it does
closes-kept : (n : ℕ) (line : List ℕ) → 3 ≤ n → closes (take n line) ≡ closes line
closes-kept n line few = ⊎_elim
    (λ (short : length line < n). ap closes (take_all n line (omega arith)))
    (λ (long : n ≤ length line). closes-long (take n line) (omega (arith, length-take-le n line long)) ∙ sym (closes-long line (omega arith)))
    (cases_lt (length line) n)

unstopped-at : (dot : Bool) (b n : ℕ) (line : List ℕ) → length (cond dot (take n line) (b ∷ take n line)) ≤ length (cond dot line (b ∷ line))
unstopped-at true b n line = omega (arith, length-take n line)
unstopped-at false b n line = omega (arith, length-take n line)

-- what is kept of a line is no longer than the line
unstopped-le : (n : ℕ) (line : List ℕ) → length (unstopped (take n line)) ≤ length (unstopped line)
unstopped-le zero line = omega arith
unstopped-le (suc n) [] = omega arith
unstopped-le (suc n) (b ∷ line) = unstopped-at (eqb b 46) b n line

unstopped-most : (line : List ℕ) → length line ≤ length (unstopped line) + 1
unstopped-most [] = omega arith
unstopped-most (b ∷ line) = most-at (eqb b 46) where
  most-at : (dot : Bool) → length (b ∷ line) ≤ length (cond dot line (b ∷ line)) + 1
  most-at true = omega arith
  most-at false = omega arith

-- what stands behind a payload after a line was read into it
module _ (old line new : List ℕ) (limit start : ℕ) (few : length old ≤ limit + 1) (is_start : start ≡ length old) (kept : new ≡ take (limit + 4) (old ++ line)) where
  split : new ≡ old ++ take (limit + 4 - length old) line
  split =
      let size : limit + 4 ≡ length old + (limit + 4 - length old) = omega arith in
      kept ∙ ap (λ (n : ℕ). take n (old ++ line)) size ∙ take-append-add old line (limit + 4 - length old)

  pub row-front : take start new ≡ old
  row-front = ap (λ (n : ℕ). take n new) is_start ∙ ap (take (length old)) split ∙ take-append_seam old _

  row-back : drop start new ≡ take (limit + 4 - length old) line
  row-back = ap (λ (n : ℕ). drop n new) is_start ∙ ap (drop (length old)) split ∙ drop-append_seam old _

  pub row-closes : closes (drop start new) ≡ closes line
  row-closes = ap closes row-back ∙ closes-kept (limit + 4 - length old) line (omega arith)

  both : take start new ++ unstopped (drop start new) ≡ old ++ unstopped (take (limit + 4 - length old) line)
  both = ap (λ l. l ++ unstopped (drop start new)) row-front ∙ ap (λ l. old ++ unstopped l) row-back

  pub row-added : length (take start new ++ unstopped (drop start new)) ≤ limit → take start new ++ unstopped (drop start new) ≡ old ++ unstopped line
  row-added fits =
      let short : length line ≤ limit + 4 - length old = omega (arith, ap length both, length-append old (unstopped (take (limit + 4 - length old) line)), unstopped-most (take (limit + 4 - length old) line), length-take (limit + 4 - length old) line) in
      both ∙ ap (λ l. old ++ unstopped l) (take_all (limit + 4 - length old) line short)

  pub row-over : limit < length (take start new ++ unstopped (drop start new)) → limit < length old + length (unstopped line)
  row-over over = omega (arith, ap length both, length-append old (unstopped (take (limit + 4 - length old) line)), unstopped-le (limit + 4 - length old) line)

  row-fits : (payload : List ℕ) → EndsRow (take start new ++ unstopped (drop start new)) payload limit true
      → (payload ≡ old ++ (unstopped line ++ 10 ∷ [])) × (length payload ≤ limit + 1)
  row-fits payload ends = (
    ends.1 ∙ ap (λ l. l ++ 10 ∷ []) (row-added ends.0) ∙ append_assoc old (unstopped line) (10 ∷ []),
    omega (arith, ends.0, ap length ends.1, length-append (take start new ++ unstopped (drop start new)) (10 ∷ [])),
  )

  -- the line was ended after a look at it that left it as it was
  pub row-ends : (mid payload : List ℕ) (fits : Bool) → mid ≡ new → fits ≡ true → EndsRow (take start mid ++ unstopped (drop start mid)) payload limit fits
      → (payload ≡ old ++ (unstopped line ++ 10 ∷ [])) × (length payload ≤ limit + 1)
  row-ends mid payload fits same is ends =
      row-fits payload (subst (λ (l : List ℕ). EndsRow (take start l ++ unstopped (drop start l)) payload limit true) same (subst (λ (b : Bool). EndsRow (take start mid ++ unstopped (drop start mid)) payload limit b) is ends))

  pub row-passes : (mid payload : List ℕ) (fits : Bool) → mid ≡ new → fits ≡ false → EndsRow (take start mid ++ unstopped (drop start mid)) payload limit fits
      → limit < length old + length (unstopped line)
  row-passes mid payload fits same is ends =
      let over : limit < length (take start mid ++ unstopped (drop start mid)) = subst (λ (b : Bool). EndsRow (take start mid ++ unstopped (drop start mid)) payload limit b) is ends in
      row-over (subst (λ (l : List ℕ). limit < length (take start l ++ unstopped (drop start l))) same over)

-- one line more
pub ended-more : (rows : List (List ℕ)) (row : List ℕ) → ended_rows (rows ++ row ∷ []) ≡ ended_rows rows ++ (unstopped row ++ 10 ∷ [])
ended-more rows row = flat_map-append (λ r. unstopped r ++ 10 ∷ []) rows (row ∷ []) ∙ ap (λ l. ended_rows rows ++ l) (append-nil (unstopped row ++ 10 ∷ []))

-- each line with its end, and the lines with line feeds between them
ended-joined : (row : List ℕ) (rows : List (List ℕ)) → ended_rows (row ∷ rows) ≡ joined (row ∷ rows) ++ 10 ∷ []
ended-joined row [] = append-nil (unstopped row ++ 10 ∷ [])
ended-joined row (next ∷ rows) =
    ap (λ l. (unstopped row ++ 10 ∷ []) ++ l) (ended-joined next rows)
    ∙ append_assoc (unstopped row) (10 ∷ []) (joined (next ∷ rows) ++ 10 ∷ [])
    ∙ sym (append_assoc (unstopped row) (10 ∷ joined (next ∷ rows)) (10 ∷ []))

length-joined : (rows : List (List ℕ)) → length (ended_rows rows) - 1 ≡ length (joined rows)
length-joined [] = refl
length-joined (row ∷ rows) = omega (arith, ap length (ended-joined row rows), length-append (joined (row ∷ rows)) (10 ∷ []))

-- the payload of lines that fit
pub finished-is : (rows : List (List ℕ)) (ended payload : List ℕ) → ended ≡ ended_rows rows → payload ≡ take (length ended - 1) ended → length ended ≤ payload_limit + 1 → Whole payload ≡ payload_of rows
finished-is [] ended payload is cut few =
    let none : payload ≡ [] = cut ∙ ap (λ l. take (length l - 1) l) is in
    ap Whole none
finished-is (row ∷ rows) ended payload is cut few =
    let whole : ended ≡ joined (row ∷ rows) ++ 10 ∷ [] = is ∙ ended-joined row rows in
    let size : length ended - 1 ≡ length (joined (row ∷ rows)) = omega (arith, ap length whole, length-append (joined (row ∷ rows)) (10 ∷ [])) in
    let same : payload ≡ joined (row ∷ rows) = cut ∙ ap (λ (n : ℕ). take n ended) size ∙ ap (take (length (joined (row ∷ rows)))) whole ∙ take-append_seam (joined (row ∷ rows)) (10 ∷ []) in
    ap Whole same ∙ sym (ap (λ t. cond t (Whole (joined (row ∷ rows))) Long) (le-leb (length (joined (row ∷ rows))) payload_limit (omega arith)))

-- the payload of lines that don't
pub long-is : (rows : List (List ℕ)) → payload_limit < length (joined rows) → Long ≡ payload_of rows
long-is rows over = sym (ap (λ t. cond t (Whole (joined rows)) Long) (lt-leb (length (joined rows)) payload_limit over))

pub over-is : (rows : List (List ℕ)) (row payload : List ℕ) → payload ≡ ended_rows rows → payload_limit < length payload + length (unstopped row) → payload_limit < length (joined (rows ++ row ∷ []))
over-is rows row payload is over = omega (arith, length-joined (rows ++ row ∷ []), ap length (ended-more rows row), ap length is, length-append (ended_rows rows) (unstopped row ++ 10 ∷ []), length-append (unstopped row) (10 ∷ []))

-- lines that don't fit fit no better with one more
pub over-more : (rows : List (List ℕ)) (row : List ℕ) → payload_limit < length (joined rows) → payload_limit < length (joined (rows ++ row ∷ []))
over-more rows row over = omega (arith, length-joined rows, length-joined (rows ++ row ∷ []), ap length (ended-more rows row), length-append (ended_rows rows) (unstopped row ++ 10 ∷ []), length-append (unstopped row) (10 ∷ []))
