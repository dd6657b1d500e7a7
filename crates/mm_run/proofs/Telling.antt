-- From the turns of a run to what it wrote.
use Rattle.std.proofs.Common.{◌∷◌, ◌≡◌, ℕ, ◌+◌, ◌≤◌, List, [], ◌++◌, length, take, refl, ap, sym, subst, ◌∙◌, arith, length-append, append-nil, Some, None, Result, Ok, Err, inl, inr, ⊎_elim, false}
use Rattle.std.specs.declared.option.Option.{Option}
use Rattle.std.specs.Io.KnownBytes.{prepend_known, append_known, IsAtEnd}
use Rattle.mm_host.specs.Causes.{HasCause, Rose, next_count}
use Rattle.mm_host.specs.Moves.{WritesAll}
use Rattle.mm_host.specs.declared.failed.Failed.{Failed}
use Rattle.mm_keeper.specs.Failing.{FailsAsListed}
use Rattle.mm_tree.specs.Trees.{Trees, none}
use Rattle.mm_tree.specs.Numbering.{Labelled}
use Rattle.mm_run.specs.declared.command.Command.{Command}
use Rattle.mm_run.specs.declared.status.Status.{Status}
use Rattle.mm_run.specs.declared.status.Status.TheVariants as status
use Rattle.mm_run.specs.Inside.Buffer.{Buffered}
use Rattle.mm_run.specs.Commands.{commands, all_commands}
use Rattle.mm_run.specs.Inside.Input.{rest, reach}
use Rattle.mm_run.specs.Statuses.{fault_line, sink_faults_after, HasSinkFaults}
use Rattle.mm_run.specs.Run.{AreAnswered, HasEnd, HasLine, IsShown, Runs, input_limit}
use Rattle.mm_run.specs.Steps.{AllowsUnfinished}
use Rattle.mm_run.specs.Inside.Turning.{Served, HasStopped, IsFront, EndsWith}
use Rattle.mm_run.specs.Turns.{State}
use Rattle.mm_options.specs.declared.options.Options.{Options}
use Rattle.mm_run.proofs.Going.{prepend_known-nil, prepend_known-append}
use Rattle.mm_run.proofs.Turns.{known-rest, append_known-twice}

-- nothing is left behind bytes that are none
at-end : (left : Option (List ℕ)) (held : List ℕ) → IsAtEnd (prepend_known held left) → IsAtEnd left
at-end None held end = tt
at-end (Some []) held end = refl
at-end (Some (x ∷ xs)) held end = absurd (omega (arith, ap length end, length-append held (x ∷ xs)))

-- a buffer with nothing held hides nothing
bare : (left : Option (List ℕ)) (buffer : Buffered) → buffer.held ≡ [] → rest left buffer ≡ left
bare left buffer nothing = ap (λ l. prepend_known l left) nothing ∙ prepend_known-nil left

full-reach : (buffer : Buffered) → buffer.held ≡ [] → buffer.room ≡ input_limit → reach buffer ≡ input_limit
full-reach buffer nothing room = omega (arith, ap length nothing)

told-which : (s : Status) (got held : List ℕ) (answered others : List Command) → (s ≡ status.SourceFault → held ≡ []) → AreAnswered got s answered others → AreAnswered (got ++ held) s answered others
told-which status.SourceFault got held answered others bare which = which ∙ ap (λ l. commands l false) (sym (append-nil got) ∙ ap (λ l. got ++ l) (sym (bare refl)))
told-which s got held answered others bare which = which

told-shown : (s : Status) (before now : ℕ) (replies shown : List ℕ) → now ≡ sink_faults_after s before → IsFront s replies shown → IsShown before now replies [] shown s
told-shown status.SinkFault before now replies shown count front = front
told-shown s before now replies shown count front = inl (front ∙ sym (append-nil replies), count)

told-end : (s : Status) (left' : Option (List ℕ)) (held got bytes : List ℕ) (room steps : ℕ) (written : Option (List ℕ)) (forest : Trees Labelled) (answered : List Command)
    → Some bytes ≡ prepend_known got (prepend_known held left') → input_limit ≡ (length held + room) + length got
    → HasStopped (record { rest = prepend_known held left'; reach = length held + room; written = written; forest = forest; steps = steps }) answered s → HasEnd left' bytes (got ++ held) answered s
told-end status.Ok left' held got bytes room steps written forest answered moved count stopped = ⊎_elim
    (λ end. let k = known-rest (Some bytes) (prepend_known held left') got bytes moved refl in
    let over : k.0 ≡ [] = subst IsAtEnd k.1 end.0 in
    inl (at-end left' held end.0, omega (arith, end.1, count, ap length k.2, length-append got k.0, ap length over)))
    (λ quit. inr quit)
    stopped
told-end status.Usage left' held got bytes room steps written forest answered moved count stopped = absurd stopped
told-end status.TooMuchInput left' held got bytes room steps written forest answered moved count stopped = (omega (arith, stopped.0, count, length-append got held), stopped.1)
told-end s left' held got bytes room steps written forest answered moved count stopped = tt

module _ (left left' written written' : Option (List ℕ)) (buffer buffer' : Buffered) (forest' : Trees Labelled) (steps steps' faults faults' : ℕ)
    (nothing : buffer.held ≡ []) (room : buffer.room ≡ input_limit) where
  -- the same from the empty buffer
  from-start : (options : Options) (new : State) (s : Status)
      → Served options (record { rest = rest left buffer; reach = reach buffer; written = written; forest = none; steps = steps }) new s
      → Served options (record { rest = left; reach = input_limit; written = written; forest = none; steps = steps }) new s
  from-start options new s served =
      subst (λ (n : ℕ). Served options (record { rest = left; reach = n; written = written; forest = none; steps = steps }) new s) (full-reach buffer nothing room)
      (subst (λ (r : Option (List ℕ)). Served options (record { rest = r; reach = reach buffer; written = written; forest = none; steps = steps }) new s) (bare left buffer nothing) served)

  pub tells : (options : Options) (bytes : List ℕ) (s : Status) → left ≡ Some bytes → (s ≡ status.SourceFault → buffer'.held ≡ []) → faults' ≡ sink_faults_after s faults
      → Served options (record { rest = rest left buffer; reach = reach buffer; written = written; forest = none; steps = steps })
      (record { rest = rest left' buffer'; reach = reach buffer'; written = written'; forest = forest'; steps = steps' }) s
      → (r : Runs options [] (record { left = left; written = written; sink_faults = faults; steps = steps }) (record { left = left'; written = written'; sink_faults = faults'; steps = steps' }) bytes s) × (s ≡ status.Ok → r.after ≡ forest')
  tells options bytes s known held count served =
      let h = (from-start options _ s served).each bytes known in (
        record {
          taken = h.got ++ buffer'.held;
          left = h.moved.bytes ∙ sym (prepend_known-append h.got buffer'.held left');
          few = omega (arith, h.moved.count, length-append h.got buffer'.held);
          answered = h.answered;
          others = h.others;
          split = h.split;
          which = told-which s h.got buffer'.held h.answered h.others held h.which;
          end = told-end s left' buffer'.held h.got bytes buffer'.room steps' written' forest' h.answered (sym known ∙ h.moved.bytes) h.moved.count h.stopped;
          replies = h.replies;
          after = h.after;
          answers = h.answers;
          shown = h.shown;
          is_shown = told-shown s faults faults' h.replies h.shown count h.is_front;
          written = h.written;
          total = h.total;
          costs = h.costs;
          unfinished = h.unfinished;
          allowed = h.allowed;
          steps = h.steps;
        },
        h.last,
      )

none-unfinished : (options : Options) (s : Status) (others : List Command) → AllowsUnfinished options s none others 0
none-unfinished options status.Memory others = inl refl
none-unfinished options status.DiskFault others = inl refl
none-unfinished options s others = refl

-- nothing was read, and no command answered
pub told-nothing : (options : Options) (line : List ℕ) (left written written' : Option (List ℕ)) (shown : List ℕ) (faults faults' steps steps' : ℕ) (bytes : List ℕ) (s : Status) → written' ≡ append_known written shown → steps' ≤ steps
    → ((others : List Command) → AreAnswered [] s [] others) → HasEnd left bytes [] [] s → IsShown faults faults' [] line shown s
    → Runs options line (record { left = left; written = written; sink_faults = faults; steps = steps }) (record { left = left; written = written'; sink_faults = faults'; steps = steps' }) bytes s
told-nothing options line left written written' shown faults faults' steps steps' bytes s wrote most which end is_shown = record {
  taken = [];
  left = sym (prepend_known-nil left);
  few = omega arith;
  answered = [];
  others = all_commands input_limit bytes;
  split = refl;
  which = which (all_commands input_limit bytes);
  end = end;
  replies = [];
  after = none;
  answers = (refl, refl);
  shown = shown;
  is_shown = is_shown;
  written = wrote;
  total = 0;
  costs = (refl, refl);
  unfinished = 0;
  allowed = none-unfinished options s (all_commands input_limit bytes);
  steps = omega (arith, most);
}

-- a line that was written, as far as that came
pub line-written : (a b : Option (List ℕ)) (piece line : List ℕ) (before now : ℕ) (result : Result (Unit {0}) Failed) → piece ≡ line → WritesAll a b result piece → HasCause before now result → EndsWith a b line before now
line-written a b piece line before now (Ok u) same wrote cause = record { shown = line; written = wrote.all ∙ ap (append_known a) same; whole = inl (refl, cause.answered) }
line-written a b piece line before now (Err e) same wrote cause = record {
  shown = take wrote.all.0 line;
  written = wrote.all.2 ∙ ap (λ l. append_known a (take wrote.all.0 l)) same;
  whole = inr (wrote.all.0, omega (arith, wrote.all.1, ap length same), refl, cause.failed);
}

-- no line, and so no failure at it
pub no-line : (replies shown : List ℕ) (before now : ℕ) → HasLine before now replies [] shown → (shown ≡ replies) × (now ≡ before)
no-line replies shown before now has = ⊎_elim (λ h. (h.0 ∙ append-nil replies, h.1)) (λ h. absurd (omega (arith, h.1))) has

-- the replies whole, and then the line
shown-line : (replies line first second : List ℕ) (n m k : ℕ) → HasLine n m replies [] first → HasLine m k [] line second → HasLine n k replies line (first ++ second)
shown-line replies line first second n m k told end =
    let whole = no-line replies first n m told in
    ⊎_elim
    (λ h. inl (ap (λ l. l ++ second) whole.0 ∙ ap (λ l. replies ++ l) h.0, h.1 ∙ whole.1))
    (λ h. inr (h.0, h.1, ap (λ l. l ++ second) whole.0 ∙ ap (λ l. replies ++ l) h.2, h.3 ∙ ap next_count whole.1))
    end

shown-more : (s : Status) (replies first second : List ℕ) (n m k : ℕ) → IsShown n m replies [] first s → HasLine m k [] (fault_line s) second → IsShown n k replies (fault_line s) (first ++ second) s
unfolding fault_line
shown-more status.SinkFault replies first second n m k told end = (told.0, told.1, ap (λ l. first ++ l) (no-line [] second m k end).0 ∙ append-nil first ∙ told.2)
shown-more s replies first second n m k told end = shown-line replies (fault_line s) first second n m k told end

-- What was told, and then the fault's line.
pub writes : (options : Options) (left left' a b c : Option (List ℕ)) (n m k steps steps' : ℕ) (bytes : List ℕ) (s : Status)
    → Runs options [] (record { left = left; written = a; sink_faults = n; steps = steps }) (record { left = left'; written = b; sink_faults = m; steps = steps' }) bytes s → EndsWith b c (fault_line s) m k
    → Runs options (fault_line s) (record { left = left; written = a; sink_faults = n; steps = steps }) (record { left = left'; written = c; sink_faults = k; steps = steps' }) bytes s
writes options left left' a b c n m k steps steps' bytes s told end = record {
  taken = told.taken;
  left = told.left;
  few = told.few;
  answered = told.answered;
  others = told.others;
  split = told.split;
  which = told.which;
  end = told.end;
  replies = told.replies;
  after = told.after;
  answers = told.answers;
  shown = told.shown ++ end.shown;
  is_shown = shown-more s told.replies told.shown end.shown n m k told.is_shown end.whole;
  written = end.written ∙ ap (λ w. append_known w end.shown) told.written ∙ append_known-twice a told.shown end.shown;
  total = told.total;
  costs = told.costs;
  unfinished = told.unfinished;
  allowed = told.allowed;
  steps = told.steps;
}

-- what the line may have added to the sink's count
pub counts : (s : Status) (b c : Option (List ℕ)) (n m k : ℕ) → m ≡ sink_faults_after s n → EndsWith b c (fault_line s) m k → HasSinkFaults s n k
unfolding fault_line
counts status.Ok b c n m k count end = (no-line [] end.shown m k end.whole).1 ∙ count
counts status.SinkFault b c n m k count end = (no-line [] end.shown m k end.whole).1 ∙ count
counts s b c n m k count end = ⊎_elim (λ h. inl (h.1 ∙ count)) (λ h. inr (h.3 ∙ ap next_count count)) end.whole

-- A keeper in memory that is to fail at no call doesn't fail.
pub never_fails : (calls : List ℕ) (faults : ℕ) → calls ≡ [] → FailsAsListed calls faults → Rose 0 faults → ⊥
never_fails [] faults no_calls listed rose = absurd (omega (arith, listed, rose))
never_fails (call ∷ calls) faults no_calls listed rose = absurd cc
