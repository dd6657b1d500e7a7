-- A walk along a keyword list goes on by one node.
use Rattle.std.specs.Prelude.{ℕ, ◌+◌, ◌≡◌, List, Option, None, MatchOption, drop}
use Rattle.mm_label.specs.Fronts.{Label, or_empty}
use Rattle.mm_lists.specs.Full.{IsCandidate}
use Rattle.mm_lists.specs.Lists.{head_of}

-- the walk along ms stood at its i-th node and stands at the one after it, or past the end; c is the candidate of the node that it left
pub record Advances (ls : List (List Label)) (ms : List Label) (i : ℕ) (was at c : Option Label) : Type 0 where
  pub here : at ≡ head_of (drop (i + 1) ms)
  pub found : MatchOption was (c ≡ None) (λ v. IsCandidate ls v (or_empty c))
