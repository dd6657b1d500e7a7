use Rattle.std.proofs.Common.{◌≡◌, ◌<◌, ◌+◌, ◌-◌, ◌^◌, ℕ, List, length, Some, None, sym, ap, ap₂, ◌∙◌, subst, arith, option_map}
use Rattle.mm_keeper.specs.Entries.{put, Rises, lookup, weight_of}
use Rattle.mm_keeper.specs.Blocks.{joined}
use Rattle.mm_keeper.specs.Facts.Keys.{Rises-put}
use Rattle.mm_keeper.specs.Facts.Changing.{weigh-held, weigh-new}
use Rattle.mm_keeper.proofs.sorted_map.put_weighed.Goals as goal

pub overflow_sub-weight : goal.overflow_sub-weight
overflow_sub-weight c =
    let m = joined c.args.blocks.now.items in
    let k = c.args.key.now in
    let v = c.args.value.now in
    let same : joined c.make_room.new.blocks.items ≡ m = c.make_room.ensures.same in
    let e : c.in_ok-entry.entry ≡ (k, v) = c.in_ok-entry.ensures in
    let w = c.in-Ok-Some.before.1 in
    let held : lookup m k ≡ Some w = sym (ap (λ o. option_map (λ (x : List ℕ × List ℕ). x.1) o) (sym c.in-Ok-Some.field-0-is) ∙ c.in-Ok-Some.ensures.before ∙ ap₂ (λ a b. lookup a b) same (ap (λ x. x.0) e)) in
    let fits : c.args.weight.now < 2 ^ 64 = omega arith in
    let r = weigh-held c.args.weight.now k v w m c.requires.sound.weight fits held c.requires.room in
    let n : length c.value.result.now ≡ length w = ap length c.value.ensures in
    omega (arith, n, r.held)

pub overflow_add-weight : goal.overflow_add-weight
overflow_add-weight c =
    let m = joined c.args.blocks.now.items in
    let k = c.args.key.now in
    let v = c.args.value.now in
    let same : joined c.make_room.new.blocks.items ≡ m = c.make_room.ensures.same in
    let e : c.in_ok-entry.entry ≡ (k, v) = c.in_ok-entry.ensures in
    let w = c.in-Ok-Some.before.1 in
    let held : lookup m k ≡ Some w = sym (ap (λ o. option_map (λ (x : List ℕ × List ℕ). x.1) o) (sym c.in-Ok-Some.field-0-is) ∙ c.in-Ok-Some.ensures.before ∙ ap₂ (λ a b. lookup a b) same (ap (λ x. x.0) e)) in
    let fits : c.args.weight.now < 2 ^ 64 = omega arith in
    let r = weigh-held c.args.weight.now k v w m c.requires.sound.weight fits held c.requires.room in
    let n : length c.value.result.now ≡ length w = ap length c.value.ensures in
    omega (arith, n, r.fits)

pub overflow_add-weight-in-Ok-None-2 : goal.overflow_add-weight-in-Ok-None-2
overflow_add-weight-in-Ok-None-2 c =
    let m = joined c.args.blocks.now.items in
    let k = c.args.key.now in
    let v = c.args.value.now in
    let same : joined c.make_room.new.blocks.items ≡ m = c.make_room.ensures.same in
    let e : c.in_ok-entry.entry ≡ (k, v) = c.in_ok-entry.ensures in
    let held : lookup m k ≡ None = sym (ap (λ o. option_map (λ (x : List ℕ × List ℕ). x.1) o) (sym c.in-Ok-None.field-0-is) ∙ c.in-Ok-None.ensures.before ∙ ap₂ (λ a b. lookup a b) same (ap (λ x. x.0) e)) in
    let r = weigh-new c.args.weight.now k v m c.requires.sound.weight held c.requires.room in
    omega (arith, r.fits)

pub returns-in-Ok-Some-clause-sound : goal.returns-in-Ok-Some-clause-sound
returns-in-Ok-Some-clause-sound c =
    let m = joined c.args.blocks.now.items in
    let k = c.args.key.now in
    let v = c.args.value.now in
    let same : joined c.make_room.new.blocks.items ≡ m = c.make_room.ensures.same in
    let e : c.in_ok-entry.entry ≡ (k, v) = c.in_ok-entry.ensures in
    let w = c.in-Ok-Some.before.1 in
    let held : lookup m k ≡ Some w = sym (ap (λ o. option_map (λ (x : List ℕ × List ℕ). x.1) o) (sym c.in-Ok-Some.field-0-is) ∙ c.in-Ok-Some.ensures.before ∙ ap₂ (λ a b. lookup a b) same (ap (λ x. x.0) e)) in
    let fits : c.args.weight.now < 2 ^ 64 = omega arith in
    let r = weigh-held c.args.weight.now k v w m c.requires.sound.weight fits held c.requires.room in
    let n : length c.value.result.now ≡ length w = ap length c.value.ensures in
    let ok : joined c.put_in.new.blocks.items ≡ put m k v = c.in-Ok-Some.ensures.ok ∙ ap₂ (λ t x. put t x.0 x.1) same e in
    record {
      rises = subst Rises (sym ok) (Rises-put k v m c.requires.sound.rises);
      some = c.in-Ok-Some.ensures.some;
      weight = ap (λ i. c.args.weight.now - i + length v) n ∙ r.is ∙ ap weight_of (sym ok);
    }

pub returns-in-Ok-None-clause-sound : goal.returns-in-Ok-None-clause-sound
returns-in-Ok-None-clause-sound c =
    let m = joined c.args.blocks.now.items in
    let k = c.args.key.now in
    let v = c.args.value.now in
    let same : joined c.make_room.new.blocks.items ≡ m = c.make_room.ensures.same in
    let e : c.in_ok-entry.entry ≡ (k, v) = c.in_ok-entry.ensures in
    let held : lookup m k ≡ None = sym (ap (λ o. option_map (λ (x : List ℕ × List ℕ). x.1) o) (sym c.in-Ok-None.field-0-is) ∙ c.in-Ok-None.ensures.before ∙ ap₂ (λ a b. lookup a b) same (ap (λ x. x.0) e)) in
    let r = weigh-new c.args.weight.now k v m c.requires.sound.weight held c.requires.room in
    let ok : joined c.put_in.new.blocks.items ≡ put m k v = c.in-Ok-None.ensures.ok ∙ ap₂ (λ t x. put t x.0 x.1) same e in
    record {
      rises = subst Rises (sym ok) (Rises-put k v m c.requires.sound.rises);
      some = c.in-Ok-None.ensures.some;
      weight = r.is ∙ ap weight_of (sym ok);
    }
