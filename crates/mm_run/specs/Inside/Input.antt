-- How bytes leave an input: a source, and a buffer before it.
use Rattle.std.specs.Prelude.{◌≡◌, ℕ, ◌+◌, ◌<◌, List, [], ◌∷◌, ◌++◌, length, take, Bool, true, false, Result, Ok, Err}
use Rattle.std.specs.declared.option.Option.{Option}
use Rattle.std.specs.Io.KnownBytes.{prepend_known, IsAtEnd}
use Rattle.mm_run.specs.declared.buffer.Supply.{Supply}
use Rattle.mm_run.specs.declared.buffer.Supply.TheVariants.{Held, End, Full}
use Rattle.mm_run.specs.Inside.Buffer.{Buffered}
use Rattle.mm_run.specs.Lines.{HasNoLineFeed}

-- all that is still before the run, where the source tells it
abbrev pub rest : Option (List ℕ) → Buffered → Option (List ℕ)
rest left buffer = prepend_known buffer.held left

-- how many bytes may still be handed out
abbrev pub reach : Buffered → ℕ
reach buffer = length buffer.held + buffer.room

-- these bytes were handed out
pub record Went (before after : Option (List ℕ)) (reach_before reach_after : ℕ) (got : List ℕ) : Type 0 where
  pub bytes : before ≡ prepend_known got after
  pub count : reach_before ≡ reach_after + length got

-- What a call for more bytes does: it hands out none.
abbrev pub Supplies : {E : Type 0} → Option (List ℕ) → Option (List ℕ) → ℕ → ℕ → List ℕ → Result Supply E → Type 0
Supplies before after n m held (Ok Held) = Went before after n m [] × (0 < length held)
Supplies before after n m held (Ok End) = Went before after n m [] × IsAtEnd after × (0 < m)
Supplies before after n m held (Ok Full) = Went before after n m [] × (m ≡ 0)
Supplies before after n m held (Err e) = Went before after n m [] × (held ≡ [])

-- What was held up to the first line feed went behind the text, and the line feed too (true), or all that was held, which has none (false). Without memory nothing went.
abbrev pub TakesLine : {E : Type 0} → (held held' text text' : List ℕ) → ℕ → Result Bool E → Type 0
TakesLine held held' text text' limit (Ok true) = (part : List ℕ) × (held ≡ part ++ 10 ∷ held') × HasNoLineFeed part × (text' ≡ take limit (text ++ part))
TakesLine held held' text text' limit (Ok false) = (held' ≡ []) × HasNoLineFeed held × (text' ≡ take limit (text ++ held))
TakesLine held held' text text' limit (Err e) = held' ≡ held
