-- The command of the program, as the crate builds it.
use Rattle.std.specs.Prelude.{◌≡◌, ◌⊎◌, ◌^◌, ◌-◌, false, List, Some, codes, ℕ}
use Rattle.clap.specs.Words.{App, IsPlain, IsPlainArg, IsUnsignedIn, Rule, app_of, first_value, one_text, rule_of}
use Rattle.clap.specs.declared.parser.matches.Found.{Found}
use Rattle.clap.specs.declared.builder.arg.Arg.{Arg}
use Rattle.clap.specs.declared.builder.command.Command.{Command}
use Rattle.clap.specs.declared.builder.command.Command.TheViews.{out-Command}

-- the argument has this rule, stands for itself and excludes nothing
pub record IsArgOf (a : Arg) (rule : Rule) : Type 0 where
  pub same : rule_of a ≡ rule
  pub plain : IsPlainArg a
  pub global : a.global ≡ false

-- the command has this definition, and nothing in it excludes anything
pub record IsCommandOf (c : Command) (app : App) : Type 0 where
  pub same : app_of c ≡ app
  pub plain : IsPlain c
  pub globals : (out-Command c).has_globals ≡ false

-- the value of this name, where there is one, is a text that the typed getters read as it was written, and fits
abbrev pub ReadsAs : Found → List ℕ → (List ℕ → Type 0) → Type 0
ReadsAs found name Fits = (text : List ℕ) → first_value found name ≡ Some text
    → (one_text found name ≡ Some text) × Fits text

-- the text spells a number below 2^64
abbrev pub SpellsNumber : List ℕ → Type 0
SpellsNumber text = IsUnsignedIn 0 (2 ^ 64 - 1) text

pub record ReadsOptions (found : Found) : Type 0 where
  pub slice : ReadsAs found (codes "slice") (IsUnsignedIn 0 1024)
  pub limit : ReadsAs found (codes "limit") (IsUnsignedIn 1024 (2 ^ 40))
  pub read_only : ReadsAs found (codes "read-only") (λ text. (text ≡ codes "true") ⊎ (text ≡ codes "false"))
  pub sample : ReadsAs found (codes "sample") SpellsNumber
