use Rattle.std.proofs.Common.{◌≡◌, ◌++◌, List, ap, ◌∙◌}
use Rattle.std.specs.Prelude.{flat_map}
use Rattle.mm_keeper.specs.Entries.{Entries}
use Rattle.mm_tree.specs.Numbering.{forest_of}
use Rattle.mm_tree.specs.Search.{worded}
use Rattle.mm_image.specs.declared.entry.Entry.{Entry}
use Rattle.mm_image.specs.Image.{chunks}
use Rattle.mm_image.specs.Inside.Cutting.{listed}
use Rattle.mm_image.specs.Keyed.{keyed}
use Rattle.mm_image.proofs.Listing.{all_listed}
use Rattle.mm_image.proofs.bringing.entries.Goals as goal

pub returns : goal.returns
returns c =
    let ns = c.args.nodes.now in
    let first : keyed c.push_all_chunks.new.entries ≡ chunks (forest_of ns) = c.in_ok-push_all_chunks.ensures ∙ ap (λ (z : List Entry). keyed z ++ chunks (forest_of ns)) c.new-entries.ensures in
    let second = all_listed (worded (forest_of ns)) c.in_ok-lists.lists c.push_occurrences.ensures.ordered c.in_ok-lists.ensures.lists c.in_ok-lists.ensures.filled in
    c.in_ok-push_occurrences.ensures.entries ∙ (ap (λ (z : Entries). z ++ flat_map listed c.in_ok-lists.lists.entries) first ∙ ap (λ (z : Entries). chunks (forest_of ns) ++ z) second)
