-- What the command is that the crate builds, and what a parse of it found.
use Rattle.std.proofs.Common.{◌∙◌, ◌≡◌, ◌||◌, false, [], sym, ap, ap₂, subst, Some}
use Rattle.std.specs.List.{All}
use Rattle.std.proofs.lemmas.List.Elements.{All-nil}
use Rattle.clap.specs.Built.{AddsArg}
use Rattle.clap.specs.Words.{App, IsPlainArg, Rule, app_of, args_of, groups_of, with_rule}
use Rattle.clap.specs.declared.builder.ArgAction.{ArgAction}
use Rattle.clap.specs.declared.builder.arg.Arg.{Arg}
use Rattle.clap.specs.declared.builder.command.Command.{Command}
use Rattle.clap.specs.declared.builder.command.Command.TheViews.{out-Command}
use Rattle.clap.proofs.CallerLemmas.{added_plain}
use Rattle.mm_options.specs.Inside.Command.{IsArgOf, IsCommandOf}

pub no_args : (c : Command) (app : App) → app_of c ≡ app → args_of c ≡ [] → groups_of c ≡ [] → (out-Command c).has_globals ≡ false → IsCommandOf c app
no_args c app same args groups globals = record {
  same = same;
  plain = (subst (All IsPlainArg) (sym args) (All-nil IsPlainArg), groups);
  globals = globals;
}

pub one_more : (old : Command) (app : App) (a : Arg) (rule : Rule) (new : Command) → IsCommandOf old app → IsArgOf a rule → AddsArg old a new
    → IsCommandOf new (with_rule app rule)
one_more old app a rule new before arg added = record {
  same = added.shape arg.global ∙ ap₂ with_rule before.same arg.same;
  plain = added_plain old new a added before.plain arg.plain;
  globals = added.globals ∙ ap₂ (λ x y. x || y) before.globals arg.global;
}

-- an argument with an action
pub acts : (a : Arg) (rule : Rule) (b : Arg) (action : ArgAction) → IsArgOf a rule → b ≡ record a { action = Some action }
    → IsArgOf b (record rule { action = Some action })
acts a rule b action arg is = record {
  same = rw is (ap (λ (r : Rule). record r { action = Some action }) arg.same);
  plain = rw is arg.plain;
  global = rw is arg.global;
}
