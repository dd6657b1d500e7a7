use Rattle.std.proofs.Common.{◌≡◌, ◌∙◌, ap, sym, Some, None, Option, [], List, ℕ}
use Rattle.std.specs.Prelude.{unwrap_or}
use Rattle.mm_tree.specs.Hits.{name_of}
use Rattle.mm_image.specs.Facts.Naming.{found_named}
use Rattle.mm_image.specs.Looking.{entry_at}
use Rattle.mm_image.specs.Naming.{name_of_entry}
use Rattle.mm_keeper.specs.Entries.{index_of}
use Rattle.mm_image.proofs.naming.node_name.Goals as goal

pub returns-in-Ok-Some-clause-image : goal.returns-in-Ok-Some-clause-image
returns-in-Ok-Some-clause-image g c = λ f t h e.
    let m = (g.K.Keeper.seen c.args.keeper.now).now in
    let s = g.met.K.Keeper.sorted c.args.keeper.now c.requires h.0 in
    let named = found_named c.values_tell.ensures.names m f c.args.label.now t h.1 h.2 s e in
    let key = c.as_slice.ensures ∙ c.in_ok-key.ensures in
    ap (λ (o : Option (List ℕ)). unwrap_or o []) (sym c.in-Ok-Some.field-0-is ∙ c.in-Ok-Some.ensures.name h.0 ∙ ap (λ (k : List ℕ). name_of_entry (entry_at m (index_of m k))) key ∙ named)

pub returns-in-Ok-None-clause-undamaged : goal.returns-in-Ok-None-clause-undamaged
returns-in-Ok-None-clause-undamaged g c = λ f t h e.
    let m = (g.K.Keeper.seen c.args.keeper.now).now in
    let s = g.met.K.Keeper.sorted c.args.keeper.now c.requires h.0 in
    let named = found_named c.values_tell.ensures.names m f c.args.label.now t h.1 h.2 s e in
    let key = c.as_slice.ensures ∙ c.in_ok-key.ensures in
    let q : None ≡ Some (name_of t.0.kind) = sym c.in-Ok-None.field-0-is ∙ c.in-Ok-None.ensures.name h.0 ∙ ap (λ (k : List ℕ). name_of_entry (entry_at m (index_of m k))) key ∙ named in
    absurd cc
