-- One turn over an input, from what was done with its rest.
use Rattle.std.proofs.Common.{◌≡◌, ℕ, Bool, false, List, Err, Option, sym, subst}
use Rattle.mm_host.specs.Moments.{LeavesOnly}
use Rattle.mm_keeper.specs.Entries.{Entries}
use Rattle.mm_keeper.specs.Keeping.{Seen}
use Rattle.mm_options.specs.declared.options.Options.{Options}
use Rattle.mm_tree.specs.Numbering.{Labelled}
use Rattle.mm_tree.specs.Trees.{Trees}
use Rattle.mm_run.specs.Commands.{all_commands}
use Rattle.mm_run.specs.Stores.{IsLeftBy}
use Rattle.mm_run.specs.Turns.{Fails, Reading, State, Turns, commands_left, reach_of, rest_of}
use Rattle.mm_run.specs.declared.status.Status.{Status}

module _ {K S : Type 0} (has_maps : K → Type 0) (seen : K → Seen S) (moment : K → ℕ) (left_since : K → ℕ → Option Entries → Type 0) (options : Options) where
  -- a turn of an input that goes on failed
  pub turns_failed : {I : Type 0} (left : I → Option (List ℕ)) (i j : Reading I) (written : Option (List ℕ)) (f : Trees Labelled) (steps : ℕ) (over : Bool) (new : Trees Labelled → State) (keeper : K) (s : Status)
      → i ≡ j → i.over ≡ false → over ≡ false
      → Fails has_maps seen moment left_since options (record { rest = rest_of left i; reach = reach_of i; written = written; forest = f; steps = steps }) (new f) keeper s
      → Turns has_maps seen moment left_since options j.over over (record { rest = rest_of left j; reach = reach_of j; written = written; forest = f; steps = steps }) new keeper (Err s)
  turns_failed {I} left i j written f steps over new keeper s same before after h =
      subst (λ (k : Reading I). Turns has_maps seen moment left_since options k.over over (record { rest = rest_of left k; reach = reach_of k; written = written; forest = f; steps = steps }) new keeper (Err s)) same
      (subst (λ (b : Bool). Turns has_maps seen moment left_since options b over (record { rest = rest_of left i; reach = reach_of i; written = written; forest = f; steps = steps }) new keeper (Err s)) (sym before) (after, h))

-- the commands that a crash may have left done are those before the end
pub moment_left : {K I : Type 0} (moment : K → ℕ) (left_since : K → ℕ → Option Entries → Type 0) (options : Options) (f : Trees Labelled) (i j : Reading I) (bytes : List ℕ) (old new : K) → i ≡ j → i.over ≡ false
    → LeavesOnly moment left_since old new (IsLeftBy options f (all_commands (reach_of i) bytes)) → LeavesOnly moment left_since old new (IsLeftBy options f (commands_left j.over (reach_of j) bytes))
moment_left {K} {I} moment left_since options f i j bytes old new same before h =
    subst (λ (k : Reading I). LeavesOnly moment left_since old new (IsLeftBy options f (commands_left k.over (reach_of k) bytes))) same
    (subst (λ (b : Bool). LeavesOnly moment left_since old new (IsLeftBy options f (commands_left b (reach_of i) bytes))) (sym before) h)
