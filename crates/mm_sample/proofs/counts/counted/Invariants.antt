use Rattle.std.proofs.Common.{◌≡◌, map}
use Rattle.mm_sample.specs.Counts.{commands_in, accepted_in, refused_in, answers_in, nodes_in}
use Rattle.mm_sample.proofs.counts.counted.Given as goal

-- the counts are those of the lines so far
abbrev pub invariant-loop-line : goal.invariant-loop-line
invariant-loop-line l = record {
  commands : l.counts.commands ≡ commands_in (map (λ x. x.now) l.yielded);
  accepted : l.counts.accepted ≡ accepted_in (map (λ x. x.now) l.yielded);
  refused : l.counts.refused ≡ refused_in (map (λ x. x.now) l.yielded);
  answers : l.counts.answers ≡ answers_in (map (λ x. x.now) l.yielded);
  nodes : l.counts.nodes ≡ nodes_in (map (λ x. x.now) l.yielded);
}
