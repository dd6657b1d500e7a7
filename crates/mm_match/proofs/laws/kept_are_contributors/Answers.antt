use Rattle.mm_match.proofs.Contributing.{kept_are_contributors, kept_rise, paths_are_of_tree}
use Rattle.mm_match.proofs.laws.kept_are_contributors.Goals as goal

pub returns-clause-kept : goal.returns-clause-kept
returns-clause-kept c = kept_are_contributors

pub returns-clause-rising : goal.returns-clause-rising
returns-clause-rising c = kept_rise

pub returns-clause-paths : goal.returns-clause-paths
returns-clause-paths c = paths_are_of_tree
