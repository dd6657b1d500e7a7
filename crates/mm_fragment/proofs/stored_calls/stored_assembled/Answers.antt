use Rattle.std.proofs.Common.{inl, inr, refl, ◌≡◌, ap, sym, subst, ◌∙◌, arith, [], ◌∷◌, Option, MatchOption, Err, IfErr}
use Rattle.std.proofs.lemmas.Result.{IfOk-weaker, err_from_is_err_and}
use Rattle.mm_label.specs.Fronts.{Front, Label, Ordered}
use Rattle.mm_label.specs.Facts.Fronts.{front_refl}
use Rattle.mm_match.specs.Marks.{labels}
use Rattle.mm_tree.specs.declared.fragment.Fragment.{Fragment}
use Rattle.mm_tree.specs.Trees.{none}
use Rattle.mm_tree.specs.Fragments.{Named, fragment, fragment_tree}
use Rattle.mm_keeper.specs.Keeping.{Seen}
use Rattle.mm_fragment.specs.Inside.Stored.{BlamesNames, stored_shown}
use Rattle.mm_fragment.specs.Inside.Owning.{Precedes}
use Rattle.mm_fragment.specs.Showing.{named_in, shown_at}
use Rattle.mm_fragment.proofs.Naming.{kept_below, names_below}
use Rattle.mm_fragment.proofs.StoredShown.{matches_in_order, root_is_shown}
use Rattle.mm_fragment.proofs.StoredAssembling.{few, sound, root_sound, put_together, none_kept, some_node}
use Rattle.mm_fragment.proofs.stored_calls.stored_assembled.Goals as goal

pub returns-in_err-shown-clause-blame : goal.returns-in_err-shown-clause-blame
returns-in_err-shown-clause-blame g c = λ maps.
    let now = (g.K.Keeper.seen c.args.keeper.now).now in
    let ks = c.in_ok-kept.kept in
    let p = err_from_is_err_and c.from_residual-in_err-shown.result c.from_residual-in_err-shown.ensures.1 in
    names_below c.from_residual-in_err-shown.result now c.args.root.now (labels ks) (kept_below c.args.root.now c.args.matches.now ks c.in_ok-kept.ensures)
    (subst (λ z. IfErr z (BlamesNames now (labels ks))) (sym (p.1 ∙ ap Err p.2)) (c.in_err-shown.ensures.blame maps))

pub returns-in_err-shown-clause-undamaged : goal.returns-in_err-shown-clause-undamaged
returns-in_err-shown-clause-undamaged g c = λ f t i h n.
    let now = (g.K.Keeper.seen c.args.keeper.now).now in
    let ks = c.in_ok-kept.kept in
    let p = err_from_is_err_and c.from_residual-in_err-shown.result c.from_residual-in_err-shown.ensures.1 in
    sound c.args.words.now f c.args.root.now t c.args.matches.now ks i.1 h n c.in_ok-kept.ensures c.values_tell.ensures.names now i.2 (g.met.K.Keeper.sorted c.args.keeper.now c.requires.sound i.0) c.from_residual-in_err-shown.result
    (subst (λ z. IfErr z (BlamesNames now (labels ks))) (sym (p.1 ∙ ap Err p.2)) (c.in_err-shown.ensures.blame i.0))

pub returns-in_err-shown-clause-cost : goal.returns-in_err-shown-clause-cost
returns-in_err-shown-clause-cost g c = λ f t i h n.
    omega (arith, few c.args.words.now f c.args.root.now t c.args.matches.now c.in_ok-kept.kept i.1 h n c.in_ok-kept.ensures, c.show_all.ensures.most)

pub returns-in_err-fragment-clause-cost : goal.returns-in_err-fragment-clause-cost
returns-in_err-fragment-clause-cost g c = λ f t i h n.
    omega (arith, few c.args.words.now f c.args.root.now t c.args.matches.now c.in_ok-kept.kept i.1 h n c.in_ok-kept.ensures, c.show_all.ensures.most)

pub returns-in-Some-clause-value : goal.returns-in-Some-clause-value
returns-in-Some-clause-value g c = λ f t i h n.
    let query = c.args.words.now in
    let x = c.args.root.now in
    let order = subst (Ordered Precedes) (sym n) (matches_in_order query f x t i.1 h) in
    subst (λ (o : Option Fragment). MatchOption o (fragment query (named_in t) ≡ (shown_at query f x, none)) (λ u. fragment_tree u ≡ fragment query (named_in t))) c.in-Some.is
    (put_together query f x t c.args.matches.now c.in_ok-kept.kept i.1 h n c.in_ok-kept.ensures c.values_tell.ensures.names (g.K.Keeper.seen c.args.keeper.now).now i.2 (g.met.K.Keeper.sorted c.args.keeper.now c.requires.sound i.0)
    c.in_ok-shown.shown c.in_ok-fragment.field-0 (c.in_ok-shown.ensures.shown i.0 order) c.in_ok-fragment.ensures.tree c.in_ok-fragment.ensures.alone)

pub returns-in-Some-clause-cost : goal.returns-in-Some-clause-cost
returns-in-Some-clause-cost g c = λ f t i h n.
    omega (arith, few c.args.words.now f c.args.root.now t c.args.matches.now c.in_ok-kept.kept i.1 h n c.in_ok-kept.ensures, c.show_all.ensures.most)

pub returns-in_err-copy-in-None-clause-cost : goal.returns-in_err-copy-in-None-clause-cost
returns-in_err-copy-in-None-clause-cost g c = λ f t i h n.
    omega (arith, few c.args.words.now f c.args.root.now t c.args.matches.now c.in_ok-kept.kept i.1 h n c.in_ok-kept.ensures, c.show_all.ensures.most)

pub returns-in_ok-copy-in-None-clause-value : goal.returns-in_ok-copy-in-None-clause-value
returns-in_ok-copy-in-None-clause-value g c = λ f t i h n.
    let query = c.args.words.now in
    let x = c.args.root.now in
    let marks = c.args.matches.now in
    let now = (g.K.Keeper.seen c.args.keeper.now).now in
    let s = g.met.K.Keeper.sorted c.args.keeper.now c.requires.sound i.0 in
    let order = subst (Ordered Precedes) (sym n) (matches_in_order query f x t i.1 h) in
    let law = c.values_tell.ensures.names in
    let y = c.in_ok-copy-in-None.field-0 in
    let b = subst (λ (o : Option Fragment). MatchOption o (fragment query (named_in t) ≡ (shown_at query f x, none)) (λ u. fragment_tree u ≡ fragment query (named_in t))) c.in-None.is
    (put_together query f x t marks c.in_ok-kept.kept i.1 h n c.in_ok-kept.ensures law now i.2 s c.in_ok-shown.shown c.in_ok-fragment.field-0 (c.in_ok-shown.ensures.shown i.0 order) c.in_ok-fragment.ensures.tree c.in_ok-fragment.ensures.alone) in
    IfOk-weaker c.show.result _ _ (λ u z. z
    ∙ ap (λ (d : Seen g.row.K-Spot.Denot). (stored_shown d.now query marks y, none)) (c.show_all.ensures.ground.same i.0)
    ∙ ap (λ (l : Label). (stored_shown now query marks l, none)) c.in_ok-copy-in-None.ensures
    ∙ ap (λ (d : Named). (d, none)) (root_is_shown law now query f x t marks i.1 h i.2 s n)
    ∙ sym b) (c.show.ensures.shown (c.show_all.ensures.ground.maps.0 i.0) order)

pub returns-in_ok-copy-in-None-clause-blame : goal.returns-in_ok-copy-in-None-clause-blame
returns-in_ok-copy-in-None-clause-blame g c = λ maps.
    let y = c.in_ok-copy-in-None.field-0 in
    let x = c.args.root.now in
    names_below c.show.result (g.K.Keeper.seen c.args.keeper.now).now x (y ∷ []) (λ z i. elim i [
      | inl e ↦ subst (Front x) (sym (e ∙ c.in_ok-copy-in-None.ensures)) (front_refl x)
      | inr e ↦ absurd e
    ]) (subst (λ (d : Seen g.row.K-Spot.Denot). IfErr c.show.result (BlamesNames d.now (y ∷ []))) (c.show_all.ensures.ground.same maps) (c.show.ensures.blame (c.show_all.ensures.ground.maps.0 maps)))

pub returns-in_ok-copy-in-None-clause-undamaged : goal.returns-in_ok-copy-in-None-clause-undamaged
returns-in_ok-copy-in-None-clause-undamaged g c = λ f t i h n.
    let y = c.in_ok-copy-in-None.field-0 in
    root_sound c.args.words.now f c.args.root.now t c.args.matches.now c.in_ok-kept.kept i.1 h n c.in_ok-kept.ensures c.values_tell.ensures.names (g.K.Keeper.seen c.args.keeper.now).now i.2 (g.met.K.Keeper.sorted c.args.keeper.now c.requires.sound i.0)
    c.show.result y c.in_ok-copy-in-None.ensures
    (subst (λ (d : Seen g.row.K-Spot.Denot). IfErr c.show.result (BlamesNames d.now (y ∷ []))) (c.show_all.ensures.ground.same i.0) (c.show.ensures.blame (c.show_all.ensures.ground.maps.0 i.0)))

pub returns-in_ok-copy-in-None-clause-cost : goal.returns-in_ok-copy-in-None-clause-cost
returns-in_ok-copy-in-None-clause-cost g c = λ f t i h n.
    let query = c.args.words.now in
    let x = c.args.root.now in
    let s = g.met.K.Keeper.sorted c.args.keeper.now c.requires.sound i.0 in
    let order = subst (Ordered Precedes) (sym n) (matches_in_order query f x t i.1 h) in
    let z = none_kept query f x t c.args.matches.now c.in_ok-kept.kept i.1 h n c.in_ok-kept.ensures c.values_tell.ensures.names (g.K.Keeper.seen c.args.keeper.now).now i.2 s
    c.in_ok-shown.shown c.in_ok-fragment.field-0 (c.in_ok-shown.ensures.shown i.0 order) c.in_ok-fragment.ensures.tree c.in_ok-fragment.ensures.alone c.in-None.is in
    omega (arith, z, some_node (fragment query (named_in t)), c.show_all.ensures.most, c.show.ensures.most)
