-- One step of the walk from the last candidate to the first.
use Rattle.std.proofs.Common.{inl, inr, ◌≡◌, Bool, true, false, cond, List, [], ◌∷◌, ◌++◌, refl, sym, subst}
use Rattle.mm_label.specs.Fronts.{Label, Apart, Within, Lt, Ascends}
use Rattle.mm_elca.specs.Inside.Children.{AreBelow, AreChildrenTo, AreChildren}
use Rattle.mm_elca.specs.Inside.Clear.{HaveClear}
use Rattle.mm_elca.specs.Inside.Stack.{Stacked, Parted, Judged, Off}
use Rattle.mm_elca.specs.Owning.{OwnsEach, IsOwner, Candidates}
use Rattle.mm_elca.specs.Inside.Gathering.{Ready}
use Rattle.mm_label.specs.Facts.Fronts.{front_trans}
use Rattle.mm_label.specs.Facts.Members.{within_second}
use Rattle.mm_elca.proofs.Clearing.{ChildrenOf, Under, under_below, under_children, children_are}
use Rattle.mm_elca.proofs.Stacking.{off_apart, parted_under, stacked_more, judged_yes, judged_no, later_covers}

owns_told : (all ls : List (List Label)) (x : Label) (ks : List Label) → ChildrenOf all x ks → HaveClear ls x ks true → OwnsEach all x ls
owns_told all [] x ks k h = tt
owns_told all (ms ∷ ls) x ks k h =
    let p = h.0 in
    ((p.0, p.1, (p.2, λ y i d n g. let t = k.every y i d n in p.3 t.0 t.1 (front_trans t.0 y p.0 t.2 g))), owns_told all ls x ks k h.1)

owns_denied : (all ls : List (List Label)) (x : Label) (ks : List Label) → ChildrenOf all x ks → HaveClear ls x ks false → OwnsEach all x ls → ⊥
owns_denied all [] x ks k h o = absurd (cc)
owns_denied all (ms ∷ ls) x ks k h o = elim h [
  | inl n ↦ let m = o.0 in n m.0 m.1 m.2.0 (λ j w f. let t = k.full j w in m.2.1 j t.0 t.1 t.2 f)
  | inr r ↦ owns_denied all ls x ks k r o.1
]

step_apart : (all : List (List Label)) (x : Label) (passed was stack under : List Label) → Ready all x passed → Stacked passed was → Parted x was stack under → Off x stack
    → (u : Label) → Within u stack → Apart x u
step_apart all x passed was stack under r s p o = off_apart x stack p.falling o (λ u w. r.later u (s.from u (p.left u w)))

step_under : (all : List (List Label)) (x : Label) (passed was stack under : List Label) → Ready all x passed → Stacked passed was → Parted x was stack under → Off x stack → Under all x under
step_under all x passed was stack under r s p o = parted_under all x passed was stack under s p (step_apart all x passed was stack under r s p o) r.later r.full r.covers

pub step_below : (all : List (List Label)) (x : Label) (passed was stack under : List Label) → Ready all x passed → Stacked passed was → Parted x was stack under → Off x stack → AreBelow x under
step_below all x passed was stack under r s p o = under_below all x under (step_under all x passed was stack under r s p o)

pub step_children : (x : Label) (was stack under ks : List Label) → Parted x was stack under → AreChildrenTo x under ks → AreChildren x ks
step_children x was stack under ks p a = children_are x under ks p.rising a

pub step_stack : (all : List (List Label)) (x : Label) (passed was stack under more : List Label) → Ready all x passed → Stacked passed was → Parted x was stack under → Off x stack
    → more ≡ stack ++ x ∷ [] → Stacked (x ∷ passed) more
step_stack all x passed was stack under more r s p o e = subst (Stacked (x ∷ passed)) (sym e) (stacked_more x passed was stack under s p (step_apart all x passed was stack under r s p o))

pub step_done : (all : List (List Label)) (x : Label) (passed was stack under ks done more : List Label) (b : Bool) → Ready all x passed → Stacked passed was → Parted x was stack under → Off x stack → AreChildrenTo x under ks
    → Judged (IsOwner all) passed done → HaveClear all x ks b → more ≡ cond b (done ++ x ∷ []) done → Judged (IsOwner all) (x ∷ passed) more
step_done all x passed was stack under ks done more b r s p o a j t e = subst (Judged (IsOwner all) (x ∷ passed)) (sym e) (by b t)
  where
    of : ChildrenOf all x ks
    of = under_children all x under ks (step_under all x passed was stack under r s p o) a

    by : (b : Bool) → HaveClear all x ks b → Judged (IsOwner all) (x ∷ passed) (cond b (done ++ x ∷ []) done)
    by true t = judged_yes (IsOwner all) x passed done r.later (owns_told all all x ks of t) j
    by false t = judged_no (IsOwner all) x passed done (owns_denied all all x ks of t) j

ascends_later : (x : Label) (pre post : List Label) → Ascends (pre ++ x ∷ post) → (c : Label) → Within c post → Lt x c
ascends_later x [] post a c w = a.0 c w
ascends_later x (p ∷ pre) post a c w = ascends_later x pre post a.1 c w

pub ready_at : (all : List (List Label)) (x : Label) (pre post : List Label) → Candidates all (pre ++ x ∷ post) → Ready all x post
ready_at all x pre post k =
    let h = k.full x (within_second x pre (x ∷ post) (inl refl)) in
    record {
      here = (h.0, h.1);
      later = ascends_later x pre post k.ascends;
      full = λ c w. let t = k.full c (within_second c pre (x ∷ post) (inr w)) in (t.0, t.1);
      covers = λ y i f n. later_covers all x pre post k.ascends k.covers y i f n;
    }
