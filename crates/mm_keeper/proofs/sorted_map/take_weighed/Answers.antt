use Rattle.std.proofs.Common.{◌≡◌, ◌-◌, length, sym, ap, ◌∙◌, subst, arith}
use Rattle.mm_keeper.specs.Entries.{without, Rises, lookup, weight_of}
use Rattle.mm_keeper.specs.Blocks.{joined}
use Rattle.mm_keeper.specs.Facts.Keys.{Rises-without}
use Rattle.mm_keeper.specs.Facts.Changing.{of-some, of-none, weight-without, without-none}
use Rattle.mm_keeper.proofs.sorted_map.take_weighed.Goals as goal

pub overflow_sub-weight : goal.overflow_sub-weight
overflow_sub-weight c =
    let m = joined c.args.blocks.now.items in
    let k = c.args.key.now in
    let x = c.in-Some.before in
    let o = of-some k x (lookup m k) c.in-Some.ensures.before in
    let less = weight-without k x.1 m o.1 in
    let nk : length c.key.result.now ≡ length k = ap length (c.key.ensures ∙ o.0) in
    let total = c.requires.sound.weight in
    omega (arith, less, nk, total)

pub overflow_sub-weight-in-Some : goal.overflow_sub-weight-in-Some
overflow_sub-weight-in-Some c =
    let m = joined c.args.blocks.now.items in
    let k = c.args.key.now in
    let x = c.in-Some.before in
    let o = of-some k x (lookup m k) c.in-Some.ensures.before in
    let less = weight-without k x.1 m o.1 in
    let nk : length c.key.result.now ≡ length k = ap length (c.key.ensures ∙ o.0) in
    let total = c.requires.sound.weight in
    let nv : length c.value.result.now ≡ length x.1 = ap length c.value.ensures in
    omega (arith, less, nk, nv, total)

pub returns-in-Some-clause-sound : goal.returns-in-Some-clause-sound
returns-in-Some-clause-sound c =
    let m = joined c.args.blocks.now.items in
    let k = c.args.key.now in
    let x = c.in-Some.before in
    let o = of-some k x (lookup m k) c.in-Some.ensures.before in
    let less = weight-without k x.1 m o.1 in
    let nk : length c.key.result.now ≡ length k = ap length (c.key.ensures ∙ o.0) in
    let total = c.requires.sound.weight in
    let nv : length c.value.result.now ≡ length x.1 = ap length c.value.ensures in
    let rest : joined c.take_out.new.blocks.items ≡ without m k = c.in-Some.ensures.without in
    let same : c.args.weight.now - length c.key.result.now - length c.value.result.now ≡ weight_of (without m k) = omega (arith, less, nk, nv, total) in
    record {
      rises = subst Rises (sym rest) (Rises-without k m c.requires.sound.rises);
      some = c.in-Some.ensures.some;
      weight = same ∙ ap weight_of (sym rest);
    }

pub returns-in-None-clause-sound : goal.returns-in-None-clause-sound
returns-in-None-clause-sound c =
    let m = joined c.args.blocks.now.items in
    let k = c.args.key.now in
    let rest : joined c.take_out.new.blocks.items ≡ m = c.in-None.ensures.without ∙ without-none k m (of-none k (lookup m k) c.in-None.ensures.before) in
    record {
      rises = subst Rises (sym rest) c.requires.sound.rises;
      some = c.in-None.ensures.some;
      weight = c.requires.sound.weight ∙ ap weight_of (sym rest);
    }
