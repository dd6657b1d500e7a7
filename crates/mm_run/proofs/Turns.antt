-- A run goes on turn by turn.
use Rattle.std.proofs.Common.{inl, inr, ⊎_elim, ◌≡◌, ℕ, ◌+◌, ◌≤◌, ◌<◌, Bool, true, false, List, [], ◌∷◌, ◌++◌, length, take, refl, ap, sym, subst, ◌∙◌, arith, length-append, append_assoc, append-nil, None, Some, Err}
use Rattle.std.specs.Prelude.{nat_lt}
use Rattle.std.proofs.Math.Seq.{take-append-add}
use Rattle.std.proofs.lemmas.List.{take_all}
use Rattle.std.proofs.lemmas.Bool.{ltb-true, lt-ltb, le-ltb}
use Rattle.std.specs.declared.option.Option.{Option}
use Rattle.std.specs.Io.KnownBytes.{prepend_known, append_known, IsAtEnd}
use Rattle.mm_tree.specs.Trees.{Trees}
use Rattle.mm_tree.specs.Numbering.{Labelled}
use Rattle.mm_run.specs.declared.command.Command.{Command}
use Rattle.mm_command.specs.declared.line.Line.TheVariants as line
use Rattle.mm_run.specs.declared.command.Payload.{Payload}
use Rattle.mm_run.specs.declared.status.Status.{Status}
use Rattle.mm_run.specs.declared.status.Status.TheVariants as status
use Rattle.mm_run.specs.Forms.{Form, quits}
use Rattle.mm_run.specs.Commands.{commands, all_commands}
use Rattle.mm_run.specs.Answers.{Answers, AnswersForm, Replies}
use Rattle.mm_run.specs.Inside.Step.{Cuts, WentCommand, WentLast, WentQuit, WentRest}
use Rattle.mm_run.specs.Inside.Carrying.{Takes}
use Rattle.mm_run.specs.Inside.Turning.{Answered, Turning, HasStopped, IsAnswerFault, IsFront, IsPossible, Served, GivesAnswer}
use Rattle.mm_run.specs.Run.{AreAnswered}
use Rattle.mm_run.specs.Statuses.{source_faults_after}
use Rattle.mm_run.specs.Steps.{Allows, AllowsForm, AllowsNext, AllowsUnfinished, Costs}
use Rattle.mm_run.specs.Turns.{State, Moved, Idles, IsCommand, Reads, Replied, IsOnlyQuit, Ends, BrokeOff, Fails}
use Rattle.mm_options.specs.declared.options.Options.{Options}
use Rattle.mm_keeper.specs.Entries.{Entries}
use Rattle.mm_keeper.specs.Keeping.{Seen}
use Rattle.mm_run.specs.Inside.Input.{Went}
use Rattle.mm_run.proofs.Going.{went-more}

-- what the rest of a known input is
pub known-rest : (old new : Option (List ℕ)) (got bytes : List ℕ) → old ≡ prepend_known got new → old ≡ Some bytes → (rest : List ℕ) × (new ≡ Some rest) × (bytes ≡ got ++ rest)
known-rest old None got bytes e f = cc
known-rest old (Some rest) got bytes e f = (rest, refl, cc)

same-test : (a b : Bool) → (a ≡ true → b ≡ true) → (b ≡ true → a ≡ true) → a ≡ b
same-test true true f g = refl
same-test true false f g = sym (f refl)
same-test false true f g = g refl
same-test false false f g = refl

lt-shift : (k m n : ℕ) → nat_lt (k + m) (k + n) ≡ nat_lt m n
lt-shift k m n = same-test _ _ (λ e. lt-ltb m n (let h = ltb-true (k + m) (k + n) e in omega arith)) (λ e. lt-ltb (k + m) (k + n) (let h = ltb-true m n e in omega arith))

-- an input whose front is cut: what counts, and whether it ends
counts-after : (got rest : List ℕ) (n m : ℕ) → n ≡ m + length got → take n (got ++ rest) ≡ got ++ take m rest
counts-after got rest n m e = let f : n ≡ length got + m = omega arith in ap (λ (k : ℕ). take k (got ++ rest)) f ∙ take-append-add got rest m

ends-after : (got rest : List ℕ) (n m : ℕ) → n ≡ m + length got → nat_lt (length (got ++ rest)) n ≡ nat_lt (length rest) m
ends-after got rest n m e =
    let f : n ≡ length got + m = omega arith in
    ap (λ (k : ℕ). nat_lt k n) (length-append got rest) ∙ ap (nat_lt (length got + length rest)) f ∙ lt-shift (length got) (length rest) m

-- the commands of an input whose front is cut
module _ (got rest : List ℕ) (n m : ℕ) (e : n ≡ m + length got) where
  all-front : all_commands n (got ++ rest) ≡ commands (got ++ take m rest) (nat_lt (length rest) m)
  all-front = ap (λ l. commands l (nat_lt (length (got ++ rest)) n)) (counts-after got rest n m e) ∙ ap (commands (got ++ take m rest)) (ends-after got rest n m e)

  pub all-after : (cut : List Command) → Cuts None got cut → all_commands n (got ++ rest) ≡ cut ++ all_commands m rest
  all-after cut cuts = all-front ∙ cuts.each (take m rest) (nat_lt (length rest) m)

pub all-cut : {a b : Option (List ℕ)} {n m : ℕ} (got : List ℕ) (command : Command) → Went a b n m got → Cuts None got (command ∷ []) → (bytes : List ℕ) → a ≡ Some bytes
    → (others : List Command) × (all_commands n bytes ≡ command ∷ others)
all-cut {a} {b} {n} {m} got command went cuts bytes known =
    let k = known-rest a b got bytes went.bytes known in
    (all_commands m k.0, ap (all_commands n) k.2 ∙ all-after got k.0 n m went.count (command ∷ []) cuts)

pub all-command : {a b : Option (List ℕ)} {n m : ℕ} {command : Command} → WentCommand None a b n m command → (bytes : List ℕ) → a ≡ Some bytes
    → (others : List Command) × (all_commands n bytes ≡ command ∷ others)
all-command {a} {b} {n} {m} {command} w bytes known = all-cut w.got command w.went w.cuts bytes known

pub all-last : {a b : Option (List ℕ)} {n m : ℕ} {cut : List Command} → WentLast None a b n m cut → (bytes : List ℕ) → a ≡ Some bytes → all_commands n bytes ≡ cut
all-last {a} {b} {n} {m} {cut} w bytes known =
    let k = known-rest a b w.got bytes w.went.bytes known in
    let none : k.0 ≡ [] = subst IsAtEnd k.1 w.end in
    ap (all_commands n) (k.2 ∙ ap (λ l. w.got ++ l) none) ∙ all-front w.got [] n m w.went.count
    ∙ ap (λ l. commands (w.got ++ l) (nat_lt 0 m)) (take_all m [] (omega arith)) ∙ ap (λ l. commands l (nat_lt 0 m)) (append-nil w.got) ∙ ap (commands w.got) (lt-ltb 0 m w.few) ∙ w.last

pub all-quit : {a b : Option (List ℕ)} {n m : ℕ} (w : WentQuit None a b n m) (bytes : List ℕ) → a ≡ Some bytes → all_commands n bytes ≡ w.command ∷ []
all-quit {a} {b} {n} {m} w bytes known =
    let k = known-rest a b w.got bytes w.went.bytes known in
    ap (all_commands n) k.2 ∙ all-front w.got k.0 n m w.went.count ∙ w.each (take m k.0) (nat_lt (length k.0) m)

pub all-full : {a b : Option (List ℕ)} {n m : ℕ} → WentRest None a b n m → m ≡ 0 → (bytes : List ℕ) → a ≡ Some bytes → all_commands n bytes ≡ []
all-full {a} {b} {n} {m} w full bytes known =
    let k = known-rest a b w.got bytes w.went.bytes known in
    ap (all_commands n) k.2 ∙ all-front w.got k.0 n m w.went.count
    ∙ ap (λ (j : ℕ). commands (w.got ++ take j k.0) (nat_lt (length k.0) j)) full
    ∙ ap (commands (w.got ++ [])) (le-ltb (length k.0) 0 (omega arith)) ∙ ap (λ l. commands l false) (append-nil w.got) ∙ w.none

-- what went of an input, from state to state
pub went_of : {a b : State} {got : List ℕ} → Moved a b got → Went a.rest b.rest a.reach b.reach got
went_of moved = record { bytes = moved.bytes; count = moved.count }

pub moved_of : {a b : State} {got : List ℕ} → Went a.rest b.rest a.reach b.reach got → Moved a b got
moved_of went = record { bytes = went.bytes; count = went.count }

moved_more : {a b c : State} {xs ys : List ℕ} → Moved a b xs → Moved b c ys → Moved a c (xs ++ ys)
moved_more {a} {b} {c} {xs} {ys} first second = moved_of (went-more (went_of first) (went_of second))

pub append_known-twice : (a : Option (List ℕ)) (xs ys : List ℕ) → append_known (append_known a xs) ys ≡ append_known a (xs ++ ys)
append_known-twice None xs ys = refl
append_known-twice (Some bs) xs ys = ap (λ l. Some l) (append_assoc bs xs ys)

pub append_known-nil : (a : Option (List ℕ)) → append_known a [] ≡ a
append_known-nil None = refl
append_known-nil (Some bs) = ap (λ l. Some l) (append-nil bs)

-- ---- from what next_command gives

-- Bytes went, and nothing else was done.
pub idles_of : {a b : State} {got : List ℕ} → Went a.rest b.rest a.reach b.reach got → b.written ≡ a.written → b.steps ≤ a.steps → Idles a b got
idles_of went wrote most = record { moved = moved_of went; written = wrote; steps = most }

-- The input ended, with no command or with `quit`.
pub ends_last : {a b : State} {cut : List Command} → WentLast None a.rest b.rest a.reach b.reach cut → IsOnlyQuit cut → b.written ≡ a.written → b.steps ≤ a.steps → Ends a b
ends_last last only wrote most = record {
  got = last.got;
  idles = idles_of last.went wrote most;
  why = inl (subst IsOnlyQuit (sym last.last) only, (last.end, last.few));
}

-- The line `quit` came.
pub ends_quit : {a b : State} → WentQuit None a.rest b.rest a.reach b.reach → b.written ≡ a.written → b.steps ≤ a.steps → Ends a b
ends_quit quit wrote most = record {
  got = quit.got;
  idles = idles_of quit.went wrote most;
  why = inr (quit.command, quit.quit, quit.each);
}

-- a command has bytes
pub command_some : (got : List ℕ) (command : Command) → commands got true ≡ command ∷ [] → 0 < length got
command_some [] command is = absurd cc
command_some (b ∷ got) command is = omega arith

module _ (options : Options) where
  -- replies, one after the other
  replies-more : (f g h : Trees Labelled) (xs ys : List Command) (r s : List ℕ) → Replies options f xs r g → Replies options g ys s h → Replies options f (xs ++ ys) (r ++ s) h
  replies-more f g h [] ys r s first second =
      subst (λ (l : List ℕ). Replies options f ys (l ++ s) h) (sym first.0) (subst (λ (k : Trees Labelled). Replies options k ys s h) first.1 second)
  replies-more f g h (x ∷ xs) ys r s first second = (
    first.0,
    first.1 ++ s,
    first.2,
    first.3,
    replies-more first.2 g h xs ys first.1 s first.4 second,
    ap (λ l. l ++ s) first.5 ∙ append_assoc first.0 first.1 s,
  )

  -- the replies to one command
  replies-one : (f g : Trees Labelled) (command : Command) (reply : List ℕ) → Answers options f command reply g → Replies options f (command ∷ []) reply g
  replies-one f g command reply answers = (reply, [], g, answers, (refl, refl), sym (append-nil reply))

  -- the steps of one command
  costs-one : (f g : Trees Labelled) (command : Command) (reply : List ℕ) (n : ℕ) → Answers options f command reply g → Allows options f command n → Costs options f (command ∷ []) g (n + 0)
  costs-one f g command reply n answers allowed = (reply, g, n, 0, answers, allowed, (refl, refl), refl)

  -- nothing was answered
  pub answered-none : {a b : State} → b.written ≡ a.written → b.forest ≡ a.forest → b.steps ≤ a.steps → Answered options a b []
  answered-none {a} {b} w f none = record {
    replies = [];
    written = w ∙ sym (append_known-nil a.written);
    all = (refl, f);
    total = 0;
    costs = (f, refl);
    steps = omega (arith, none);
  }

  pub answered-one : {a b : State} (command : Command) (reply : List ℕ) → Answers options a.forest command reply b.forest → b.written ≡ append_known a.written reply
      → Takes (Allows options a.forest command) a.steps b.steps → Answered options a b (command ∷ [])
  answered-one {a} {b} command reply answers wrote takes = record {
    replies = reply;
    written = wrote;
    all = replies-one a.forest b.forest command reply answers;
    total = takes.0 + 0;
    costs = costs-one a.forest b.forest command reply takes.0 answers takes.1;
    steps = omega (arith, takes.2);
  }

  quit-form : (f : Form) (payload : Payload) (forest : Trees Labelled) → quits f ≡ true → AnswersForm options f payload forest [] forest
  quit-form None payload forest quit = cc
  quit-form (Some line.Quit) payload forest quit = record { text = refl; same = refl }
  quit-form (Some line.Blank) payload forest quit = cc
  quit-form (Some line.Load) payload forest quit = cc
  quit-form (Some (line.Insert place label)) payload forest quit = cc
  quit-form (Some (line.Delete label)) payload forest quit = cc
  quit-form (Some (line.Replace label)) payload forest quit = cc
  quit-form (Some (line.Search find text)) payload forest quit = cc
  quit-form (Some (line.Show label)) payload forest quit = cc
  quit-form (Some line.Check) payload forest quit = cc

  quit-allows : (f : Form) (payload : Payload) (forest : Trees Labelled) → quits f ≡ true → AllowsForm options f payload forest 0
  quit-allows None payload forest quit = cc
  quit-allows (Some line.Quit) payload forest quit = refl
  quit-allows (Some line.Blank) payload forest quit = cc
  quit-allows (Some line.Load) payload forest quit = cc
  quit-allows (Some (line.Insert place label)) payload forest quit = cc
  quit-allows (Some (line.Delete label)) payload forest quit = cc
  quit-allows (Some (line.Replace label)) payload forest quit = cc
  quit-allows (Some (line.Search find text)) payload forest quit = cc
  quit-allows (Some (line.Show label)) payload forest quit = cc
  quit-allows (Some line.Check) payload forest quit = cc

  quit-answers : (command : Command) (forest : Trees Labelled) → quits command.form ≡ true → Answers options forest command [] forest
  unfolding Answers
  quit-answers command forest quit = quit-form command.form command.payload forest quit

  quit-takes : (command : Command) (forest : Trees Labelled) → quits command.form ≡ true → Allows options forest command 0
  unfolding Allows
  quit-takes command forest quit = quit-allows command.form command.payload forest quit

  -- the line that ends the run has no reply
  pub answered-quit : {a b : State} (command : Command) → quits command.form ≡ true → b.written ≡ a.written → b.forest ≡ a.forest → b.steps ≤ a.steps → Answered options a b (command ∷ [])
  answered-quit {a} {b} command quit w f none =
      let answers : Answers options a.forest command [] b.forest = subst (λ (g : Trees Labelled). Answers options a.forest command [] g) (sym f) (quit-answers command a.forest quit) in
      record {
        replies = [];
        written = w ∙ sym (append_known-nil a.written);
        all = replies-one a.forest b.forest command [] answers;
        total = 0 + 0;
        costs = costs-one a.forest b.forest command [] 0 answers (quit-takes command a.forest quit);
        steps = omega (arith, none);
      }

  -- what one turn leaves of the commands
  pub rest-of : {a b : State} (turned : Turning options a b) (bytes : List ℕ) → a.rest ≡ Some bytes
      → (rest : List ℕ) × (b.rest ≡ Some rest) × (all_commands a.reach bytes ≡ turned.command ∷ all_commands b.reach rest)
  rest-of {a} {b} turned bytes known =
      let k = known-rest a.rest b.rest turned.got bytes turned.moved.bytes known in
      (k.0, k.1, ap (all_commands a.reach) k.2 ∙ all-after turned.got k.0 a.reach b.reach turned.moved.count _ turned.cuts)

  which-more : (s : Status) (a b c : State) (turned : Turning options a b) (got : List ℕ) (answered others : List Command)
      → HasStopped c answered s → AreAnswered got s answered others → AreAnswered (turned.got ++ got) s (turned.command ∷ answered) others
  which-more status.Ok a b c turned got answered others stopped which = which
  which-more status.Usage a b c turned got answered others stopped which = absurd stopped
  which-more status.SourceFault a b c turned got answered others stopped which = ap (λ l. turned.command ∷ l) which ∙ sym (turned.cuts.each got false)
  which-more s a b c turned got answered others stopped which = which

  stopped-more : (s : Status) (a b c : State) (turned : Turning options a b) (answered : List Command) → HasStopped c answered s → HasStopped c (turned.command ∷ answered) s
  stopped-more status.Ok a b c turned answered stopped = ⊎_elim (λ end. inl end) (λ quit. inr (inr quit)) stopped
  stopped-more status.Usage a b c turned answered stopped = absurd stopped
  stopped-more status.TooMuchInput a b c turned answered stopped = (stopped.0, (turned.goes_on, stopped.1))
  stopped-more s a b c turned answered stopped = tt

  front-more : (s : Status) (first replies shown : List ℕ) → IsFront s replies shown → IsFront s (first ++ replies) (first ++ shown)
  front-more status.SinkFault first replies shown h =
      (length first + h.0, omega (arith, h.1, length-append first replies), ap (λ l. first ++ l) h.2 ∙ sym (take-append-add first replies h.0))
  front-more s first replies shown h = ap (λ l. first ++ l) h

  -- A turn, and then the rest of the run.
  pub goes_on : (a b c : State) (s : Status) → Turning options a b → Served options b c s → Served options a c s
  goes_on a b c s turned served = record {
    possible = served.possible;
    each = λ bytes known.
        let r = rest-of turned bytes known in
        let h = served.each r.0 r.1 in
        let costs = turned.answered.costs in
        record {
          got = turned.got ++ h.got;
          moved = moved_more turned.moved h.moved;
          answered = turned.command ∷ h.answered;
          others = h.others;
          split = r.2 ∙ ap (λ l. turned.command ∷ l) h.split;
          which = which-more s a b c turned h.got h.answered h.others h.stopped h.which;
          stopped = stopped-more s a b c turned h.answered h.stopped;
          replies = turned.answered.replies ++ h.replies;
          after = h.after;
          answers = replies-more a.forest b.forest h.after (turned.command ∷ []) h.answered turned.answered.replies h.replies turned.answered.all h.answers;
          last = h.last;
          shown = turned.answered.replies ++ h.shown;
          is_front = front-more s turned.answered.replies h.replies h.shown h.is_front;
          written = h.written ∙ ap (λ w. append_known w h.shown) turned.answered.written ∙ append_known-twice a.written turned.answered.replies h.shown;
          total = costs.2 + h.total;
          costs = (costs.0, costs.1, costs.2, h.total, costs.4, costs.5, subst (λ (f : Trees Labelled). Costs options f h.answered h.after h.total) costs.6.0 h.costs, refl);
          unfinished = h.unfinished;
          allowed = h.allowed;
          steps = omega (arith, turned.answered.steps, h.steps, costs.6.1, costs.7);
        };
  }

  -- no command is left, and it takes no step
  nothing-left : (s : Status) (f : Trees Labelled) → AllowsUnfinished options s f [] 0
  nothing-left status.Memory f = inl refl
  nothing-left status.DiskFault f = inl refl
  nothing-left s f = refl

  -- All commands were answered.
  served-all : {a b : State} {cut : List Command} (s : Status) (got : List ℕ) → Moved a b got → Answered options a b cut → ((replies : List ℕ) → IsFront s replies replies)
      → ((bytes : List ℕ) → a.rest ≡ Some bytes → all_commands a.reach bytes ≡ cut) → AreAnswered got s cut [] → HasStopped b cut s → IsPossible s → Served options a b s
  served-all {a} {b} {cut} s got moved answered front all which stopped possible = record {
    possible = possible;
    each = λ bytes known. record {
      got = got;
      moved = moved;
      answered = cut;
      others = [];
      split = all bytes known ∙ sym (append-nil cut);
      which = which;
      stopped = stopped;
      replies = answered.replies;
      after = b.forest;
      answers = answered.all;
      last = λ e. refl;
      shown = answered.replies;
      is_front = front answered.replies;
      written = answered.written;
      total = answered.total;
      costs = answered.costs;
      unfinished = 0;
      allowed = nothing-left s b.forest;
      steps = omega (arith, answered.steps);
    };
  }

  -- The input ended, with these commands.
  pub ended-last : {a b : State} {cut : List Command} → WentLast None a.rest b.rest a.reach b.reach cut → Answered options a b cut → Served options a b status.Ok
  ended-last last answered = served-all status.Ok last.got (moved_of last.went) answered (λ replies. refl) (all-last last) refl (inl (last.end, last.few)) tt

  -- The line came that ends the run.
  pub ended-quit : {a b : State} (w : WentQuit None a.rest b.rest a.reach b.reach) → Answered options a b (w.command ∷ []) → Served options a b status.Ok
  ended-quit w answered = served-all status.Ok w.got (moved_of w.went) answered (λ replies. refl) (all-quit w) refl (inr (inl w.quit)) tt

  -- As many bytes were taken as count, and the rest of them is no whole command.
  pub ended-full : {a b : State} → WentRest None a.rest b.rest a.reach b.reach → b.reach ≡ 0 → Answered options a b [] → Served options a b status.TooMuchInput
  ended-full w full answered = served-all status.TooMuchInput w.got (moved_of w.went) answered (λ replies. refl) (all-full w full) refl (full, tt) tt

  -- none of the commands was answered
  served-none : {a b : State} (s : Status) (got : List ℕ) → Moved a b got → b.written ≡ a.written
      → ((bytes : List ℕ) → a.rest ≡ Some bytes → Takes (AllowsUnfinished options s a.forest (all_commands a.reach bytes)) a.steps b.steps)
      → IsFront s [] [] → ((others : List Command) → AreAnswered got s [] others) → HasStopped b [] s → IsPossible s → (s ≡ status.Ok → ⊥) → Served options a b s
  served-none {a} {b} s got moved w takes front which stopped possible failed = record {
    possible = possible;
    each = λ bytes known. let t = takes bytes known in record {
      got = got;
      moved = moved;
      answered = [];
      others = all_commands a.reach bytes;
      split = refl;
      which = which (all_commands a.reach bytes);
      stopped = stopped;
      replies = [];
      after = a.forest;
      answers = (refl, refl);
      last = λ e. absurd (failed e);
      shown = [];
      is_front = front;
      written = w ∙ sym (append_known-nil a.written);
      total = 0;
      costs = (refl, refl);
      unfinished = t.0;
      allowed = t.1;
      steps = omega (arith, t.2);
    };
  }

  -- The source failed before a command was whole.
  pub ended-broken : {a b : State} → WentRest None a.rest b.rest a.reach b.reach → b.written ≡ a.written → b.steps ≤ a.steps → Served options a b status.SourceFault
  ended-broken w same most = served-none status.SourceFault w.got (moved_of w.went) same (λ bytes known. (0, refl, omega (arith, most))) refl (λ others. sym w.none) tt tt (λ e. cc)

  -- Memory ran out before anything was answered.
  pub started-none : {a b : State} {got : List ℕ} → Idles a b got → Served options a b status.Memory
  started-none {a} {b} {got} idles = served-none status.Memory got idles.moved idles.written (λ bytes known. (0, inl refl, omega (arith, idles.steps))) refl (λ others. tt) tt tt (λ e. cc)

  -- the steps of a command that broke off
  unfinished-memory : (a : State) (b : ℕ) (command : Command) (cs : List Command) → ((others : List Command) × (cs ≡ command ∷ others)) → Takes (Allows options a.forest command) a.steps b
      → Takes (AllowsUnfinished options status.Memory a.forest cs) a.steps b
  unfinished-memory a b command cs next takes =
      (takes.0, inr (subst (λ (l : List Command). AllowsNext options a.forest l takes.0) (sym next.1) takes.1), takes.2)

  unfinished-disk : (a : State) (b : ℕ) (command : Command) (cs : List Command) → ((others : List Command) × (cs ≡ command ∷ others)) → Takes (Allows options a.forest command) a.steps b
      → Takes (AllowsUnfinished options status.DiskFault a.forest cs) a.steps b
  unfinished-disk a b command cs next takes =
      (takes.0, inr (subst (λ (l : List Command). AllowsNext options a.forest l takes.0) (sym next.1) takes.1), takes.2)

  nothing-more : (s : Status) (f : Trees Labelled) (others : List Command) → IsAnswerFault s → AllowsUnfinished options s f others 0
  nothing-more status.Memory f others is = inl refl
  nothing-more status.DiskFault f others is = inl refl
  nothing-more s f others is = refl

  -- One command more was answered, and then it failed.
  served-one : (a b : State) (command : Command) (s : Status) (got : List ℕ) → Moved a b got
      → ((bytes : List ℕ) → a.rest ≡ Some bytes → (others : List Command) × (all_commands a.reach bytes ≡ command ∷ others))
      → (reply : List ℕ) (after : Trees Labelled) → Answers options a.forest command reply after → (shown : List ℕ) → b.written ≡ append_known a.written shown → IsFront s reply shown
      → Takes (Allows options a.forest command) a.steps b.steps → ((others : List Command) → AreAnswered got s (command ∷ []) others) → HasStopped b (command ∷ []) s → IsPossible s → IsAnswerFault s
      → Served options a b s
  served-one a b command s got moved next reply after answers shown wrote front takes which stopped possible is = record {
    possible = possible;
    each = λ bytes known. let n = next bytes known in record {
      got = got;
      moved = moved;
      answered = command ∷ [];
      others = n.0;
      split = n.1;
      which = which n.0;
      stopped = stopped;
      replies = reply;
      after = after;
      answers = replies-one a.forest after command reply answers;
      last = λ e. absurd (subst IsAnswerFault e is);
      shown = shown;
      is_front = front;
      written = wrote;
      total = takes.0 + 0;
      costs = costs-one a.forest after command reply takes.0 answers takes.1;
      unfinished = 0;
      allowed = nothing-more s after n.0 is;
      steps = omega (arith, takes.2);
    };
  }

  -- ---- from what a turn does

  pub turning_of : {a b : State} → Replied options false a b → Turning options a b
  turning_of {a} {b} r = record {
    got = r.read.got;
    command = r.read.command;
    moved = r.read.moved;
    cuts = record { each = r.read.cut };
    goes_on = r.goes_on;
    answered = answered-one r.read.command r.reply r.answers r.written (r.read.spent, r.read.allowed, r.read.steps);
  }

  -- The last command was answered.
  pub served_last : {a b : State} → Replied options true a b → Served options a b status.Ok
  served_last {a} {b} r =
      let last : WentLast None a.rest b.rest a.reach b.reach (r.read.command ∷ []) = record {
        got = r.read.got;
        went = went_of r.read.moved;
        last = r.read.cut.0;
        end = r.read.cut.1.0;
        few = r.read.cut.1.1;
      } in
      ended-last last (answered-one r.read.command r.reply r.answers r.written (r.read.spent, r.read.allowed, r.read.steps))

  answered-only : {a b : State} (cut : List Command) → IsOnlyQuit cut → b.written ≡ a.written → b.forest ≡ a.forest → b.steps ≤ a.steps → Answered options a b cut
  answered-only [] only w f none = answered-none w f none
  answered-only (command ∷ []) only w f none = answered-quit command only w f none
  answered-only (command ∷ (next ∷ more)) only w f none = absurd only

  -- No command was left, or `quit` came.
  pub served_ended : {a b : State} → b.forest ≡ a.forest → Ends a b → Served options a b status.Ok
  served_ended {a} {b} same ends =
      let idles = ends.idles in
      ⊎_elim
      (λ h. let last : WentLast None a.rest b.rest a.reach b.reach (commands ends.got true) = record { got = ends.got; went = went_of idles.moved; last = refl; end = h.1.0; few = h.1.1 } in
      ended-last last (answered-only (commands ends.got true) h.0 idles.written same idles.steps))
      (λ h. let quit : WentQuit None a.rest b.rest a.reach b.reach = record { got = ends.got; went = went_of idles.moved; command = h.0; quit = h.1; each = h.2 } in
      ended-quit quit (answered-quit h.0 h.1 idles.written same idles.steps))
      ends.why

  -- the command that was read is the first
  next-of : (last : Bool) (a b : State) (r : Reads options last a b) (bytes : List ℕ) → a.rest ≡ Some bytes → (others : List Command) × (all_commands a.reach bytes ≡ r.command ∷ others)
  next-of false a b r bytes known = all-cut r.got r.command (went_of r.moved) (record { each = r.cut }) bytes known
  next-of true a b r bytes known =
      let last : WentLast None a.rest b.rest a.reach b.reach (r.command ∷ []) = record { got = r.got; went = went_of r.moved; last = r.cut.0; end = r.cut.1.0; few = r.cut.1.1 } in
      ([], all-last last bytes known)

  -- ---- from what next_turn calls

  -- A command was answered.
  pub replied : (last : Bool) (a b : State) (got : List ℕ) (command : Command) → Moved a b got → IsCommand last got command b → Takes (Allows options a.forest command) a.steps b.steps
      → quits command.form ≡ false → (reply : List ℕ) → Answers options a.forest command reply b.forest → b.written ≡ append_known a.written reply → Replied options last a b
  replied last a b got command moved cut takes goes_on reply answers wrote = record {
    read = record { got = got; moved = moved; command = command; cut = cut; spent = takes.0; allowed = takes.1; steps = takes.2 };
    goes_on = goes_on;
    reply = reply;
    answers = answers;
    written = wrote;
  }

  module _ {K S : Type 0} (has_maps : K → Type 0) (seen : K → Seen S) (moment : K → ℕ) (left_since : K → ℕ → Option Entries → Type 0) where
    -- A command broke off.
    broke_memory : (last : Bool) (a b : State) (keeper : K) (r : Reads options last a b)
        → BrokeOff has_maps seen moment left_since options r.command a.written b.written a.forest keeper → Served options a b status.Memory
    broke_memory last a b keeper r broke =
        let takes : Takes (Allows options a.forest r.command) a.steps b.steps = (r.spent, r.allowed, r.steps) in
        ⊎_elim
        (λ same. served-none status.Memory r.got r.moved same (λ bytes known. unfinished-memory a b.steps r.command _ (next-of last a b r bytes known) takes) refl (λ others. tt) tt tt (λ e. cc))
        (λ whole. served-one a b r.command status.Memory r.got r.moved (next-of last a b r) whole.0 whole.1 whole.2 whole.0 whole.3 refl takes (λ others. tt) tt tt tt)
        broke

    broke_disk : (last : Bool) (a b : State) (keeper : K) (r : Reads options last a b)
        → BrokeOff has_maps seen moment left_since options r.command a.written b.written a.forest keeper → Served options a b status.DiskFault
    broke_disk last a b keeper r broke =
        let takes : Takes (Allows options a.forest r.command) a.steps b.steps = (r.spent, r.allowed, r.steps) in
        ⊎_elim
        (λ same. served-none status.DiskFault r.got r.moved same (λ bytes known. unfinished-disk a b.steps r.command _ (next-of last a b r bytes known) takes) refl (λ others. tt) tt tt (λ e. cc))
        (λ whole. served-one a b r.command status.DiskFault r.got r.moved (next-of last a b r) whole.0 whole.1 whole.2 whole.0 whole.3 refl takes (λ others. tt) tt tt tt)
        broke

    -- A turn failed.
    pub served_failed : (a b : State) (keeper : K) (s : Status) → b.forest ≡ a.forest → Fails has_maps seen moment left_since options a b keeper s → Served options a b s
    served_failed a b keeper status.SourceFault same h =
        let broken : WentRest None a.rest b.rest a.reach b.reach = record { got = h.0; went = went_of h.1.moved; none = h.2 } in
        ended-broken broken h.1.written h.1.steps
    served_failed a b keeper status.TooMuchInput same h =
        let full : WentRest None a.rest b.rest a.reach b.reach = record { got = h.0; went = went_of h.1.moved; none = h.2 } in
        ended-full full h.3 (answered-none h.1.written same h.1.steps)
    served_failed a b keeper status.SinkFault same h =
        let r = h.1 in
        let cut = h.2 in
        served-one a b r.command status.SinkFault r.got r.moved (next-of h.0 a b r) cut.0 cut.1 cut.2 (take cut.3 cut.0) cut.5 (cut.3, cut.4, refl) (r.spent, r.allowed, r.steps) (λ others. tt) tt tt tt
    served_failed a b keeper status.DiskFault same h = broke_disk h.0 a b keeper h.1 h.2
    served_failed a b keeper status.Memory same h = ⊎_elim (λ h. started-none h.1) (λ h. broke_memory h.0 a b keeper h.1 h.2) h
    served_failed a b keeper s same h = absurd h

    -- An answer failed.
    pub failed : (last : Bool) (a b : State) (keeper : K) (s : Status) (got : List ℕ) (command : Command) → Moved a b got → IsCommand last got command b
        → Takes (Allows options a.forest command) a.steps b.steps → GivesAnswer has_maps seen moment left_since options command a.written b.written a.forest keeper (Err s)
        → Fails has_maps seen moment left_since options a b keeper s
    failed last a b keeper status.SinkFault got command moved cut takes h = (last, record { got = got; moved = moved; command = command; cut = cut; spent = takes.0; allowed = takes.1; steps = takes.2 }, h)
    failed last a b keeper status.DiskFault got command moved cut takes h = (last, record { got = got; moved = moved; command = command; cut = cut; spent = takes.0; allowed = takes.1; steps = takes.2 }, h)
    failed last a b keeper status.Memory got command moved cut takes h = inr (last, record { got = got; moved = moved; command = command; cut = cut; spent = takes.0; allowed = takes.1; steps = takes.2 }, h)
    failed last a b keeper s got command moved cut takes h = absurd h

-- a store and a sink don't answer that the source failed
pub source-still : (s : Status) (n : ℕ) → IsAnswerFault s → source_faults_after s n ≡ n
source-still status.SourceFault n is = absurd is
source-still s n is = refl
