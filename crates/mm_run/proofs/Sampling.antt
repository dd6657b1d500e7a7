-- What a sample comes to, from the run of its commands.
use Rattle.std.proofs.Common.{inl, ◌≡◌, ◌⊎◌, ℕ, ◌≤◌, List, [], ◌++◌, Option, Some, refl, ap, ap₂, sym, subst, ◌∙◌, arith, append-nil, take}
use Rattle.std.specs.Io.KnownBytes.{append_known}
use Rattle.mm_image.specs.Image.{image}
use Rattle.mm_keeper.specs.Entries.{weight_of}
use Rattle.mm_options.specs.declared.options.Options.{Options}
use Rattle.mm_sample.specs.Counts.{summary_of}
use Rattle.mm_sample.specs.Script.{script_text}
use Rattle.mm_sample.specs.Summary.{summary_text}
use Rattle.mm_sample.specs.declared.summary.Summary.{Summary}
use Rattle.mm_tree.specs.Numbering.{Labelled}
use Rattle.mm_tree.specs.Trees.{Trees, none}
use Rattle.mm_run.specs.Answers.{Replies}
use Rattle.mm_run.specs.Commands.{all_commands}
use Rattle.mm_run.specs.Inside.Telling.{TellsSample}
use Rattle.mm_run.specs.Inside.Turning.{EndsWith}
use Rattle.mm_run.specs.Run.{HasLine, Runs, Streams, input_limit}
use Rattle.mm_run.specs.Sample.{Samples, Spends, Summarizes}
use Rattle.mm_run.specs.Statuses.{fault_line, number_of, sink_faults_after}
use Rattle.mm_run.specs.Steps.{AllowsNext, AllowsUnfinished}
use Rattle.mm_run.specs.declared.command.Command.{Command}
use Rattle.mm_run.specs.declared.status.Status.{Status}
use Rattle.mm_run.specs.declared.status.Status.TheVariants as status
use Rattle.mm_run.proofs.Telling.{no-line}
use Rattle.mm_run.proofs.Turns.{append_known-twice}

allowed_as : (options : Options) (s : Status) (f : Trees Labelled) (others : List Command) (n : ℕ) → AllowsUnfinished options s f others n → (n ≡ 0) ⊎ AllowsNext options f others n
allowed_as options status.Memory f others n h = h
allowed_as options status.DiskFault f others n h = h
allowed_as options s f others n h = inl h

pub spends_of : (options : Options) (seed : ℕ) (old new : Streams) (bytes : List ℕ) (s : Status) → bytes ≡ script_text seed → Runs options [] old new bytes s → Spends options seed old.steps new.steps
spends_of options seed old new bytes s same r = record {
  answered = r.answered;
  others = r.others;
  split = ap (all_commands input_limit) (sym same) ∙ r.split;
  forest = r.after;
  total = r.total;
  costs = r.costs;
  unfinished = r.unfinished;
  allowed = allowed_as options s r.after r.others r.unfinished r.allowed;
  steps = r.steps;
}

-- the number 0 is that of one status alone
pub ok_of : (s : Status) → number_of s ≡ 0 → s ≡ status.Ok
ok_of status.Ok e = refl
ok_of status.Usage e = absurd cc
ok_of status.SourceFault e = absurd cc
ok_of status.SinkFault e = absurd cc
ok_of status.DiskFault e = absurd cc
ok_of (status.Damaged d) e = absurd cc
ok_of status.Memory e = absurd cc
ok_of status.TooMuchInput e = absurd cc

-- nothing was answered
pub spends_none : (options : Options) (seed before now : ℕ) → now ≤ before → Spends options seed before now
spends_none options seed before now most = record {
  answered = [];
  others = all_commands input_limit (script_text seed);
  split = refl;
  forest = none;
  total = 0;
  costs = (refl, refl);
  unfinished = 0;
  allowed = inl refl;
  steps = omega (arith, most);
}

told_some : (text shown : List ℕ) (old : Option (List ℕ)) → old ≡ Some [] → Some text ≡ append_known old shown → text ≡ shown
told_some text shown old empty e = let h : ◌≡◌ {A = Option (List ℕ)} (Some text) (Some shown) = e ∙ ap (λ (w : Option (List ℕ)). append_known w shown) empty in cc

-- all commands of the script were answered
pub summarizes_of : (options : Options) (seed : ℕ) (old new : Streams) (bytes text : List ℕ) (weight : ℕ) (s : Status) (summary : Summary) → bytes ≡ script_text seed → s ≡ status.Ok
    → (r : Runs options [] old new bytes s) → old.written ≡ Some [] → new.written ≡ Some text → weight ≡ weight_of (image r.after) → summary ≡ summary_of text weight → Summarizes options seed summary
summarizes_of options seed old new bytes text weight status.Ok summary same ok r empty whole weighs is =
    let answered : all_commands input_limit (script_text seed) ≡ r.answered = ap (all_commands input_limit) (sym same) ∙ r.split ∙ ap (λ (l : List Command). r.answered ++ l) r.which ∙ append-nil r.answered in
    let shown = no-line r.replies r.shown old.sink_faults new.sink_faults r.is_shown in
    let told : text ≡ r.replies = told_some text r.shown old.written empty (sym whole ∙ r.written) ∙ shown.0 in
    record {
      replies = r.replies;
      after = r.after;
      answers = subst (λ (cs : List Command). Replies options none cs r.replies r.after) (sym answered) r.answers;
      is = is ∙ ap₂ summary_of told weighs;
    }
summarizes_of options seed old new bytes text weight s summary same ok r empty whole weighs is = absurd cc

-- the summary as far as it was written, and then the line of a fault
pub sampled : (options : Options) (seed : ℕ) (a b c : Option (List ℕ)) (n m k : ℕ) (s : Status) → m ≡ sink_faults_after s n → TellsSample options seed a b s → EndsWith b c (fault_line s) m k
    → Samples options seed a c n k s
unfolding fault_line
sampled options seed a b c n m k status.Ok count h end = record {
  shown = summary_text seed h.0 ++ end.shown;
  written = end.written ∙ ap (λ w. append_known w end.shown) h.2 ∙ append_known-twice a (summary_text seed h.0) end.shown;
  shows = (h.0, h.1, ap (λ (l : List ℕ). summary_text seed h.0 ++ l) (no-line [] end.shown m k end.whole).0 ∙ append-nil (summary_text seed h.0));
}
sampled options seed a b c n m k status.SinkFault count h end = let front = take h.2 (summary_text seed h.0) in
    record {
      shown = front ++ end.shown;
      written = end.written ∙ ap (λ w. append_known w end.shown) h.4 ∙ append_known-twice a front end.shown;
      shows = (h.0, h.1, h.2, h.3, ap (λ (l : List ℕ). front ++ l) (no-line [] end.shown m k end.whole).0 ∙ append-nil front);
    }
sampled options seed a b c n m k status.Memory count h end = record {
  shown = end.shown;
  written = end.written ∙ ap (λ w. append_known w end.shown) h;
  shows = subst (λ (x : ℕ). HasLine x k [] (fault_line status.Memory) end.shown) count end.whole;
}
sampled options seed a b c n m k s count h end = absurd h
