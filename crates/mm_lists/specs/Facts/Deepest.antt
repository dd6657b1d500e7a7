-- The deepest full nodes are one list.
use Rattle.std.proofs.Common.{inl, inr, ◌≡◌, List, [], ◌∷◌, sym, subst, ◌∙◌}
use Rattle.mm_label.specs.Fronts.{Label, Front, Apart, Within}
use Rattle.mm_lists.specs.Full.{Rising, Deepest}
use Rattle.mm_label.specs.Facts.Fronts.{front_refl, front_trans, front_antisym, front_le, le_antisym}
use Rattle.mm_label.specs.Facts.Lists.{met}
use Rattle.mm_label.specs.Facts.Ordered.{ordered_same}

not_back : (x a : Label) → Apart x a → Front a x → ⊥
not_back x a w f = w.1 (subst (Front x) (le_antisym x a w.0 (front_le a x f)) (front_refl x))

-- two of a rising list, one at or above the other, are the same
pub rising_front : (r : List Label) (a b : Label) → Rising r → Within a r → Within b r → Front a b → a ≡ b
rising_front [] a b g p q f = absurd p
rising_front (x ∷ r) a b g p q f = elim p [
  | inl e ↦ elim q [
    | inl h ↦ e ∙ sym h
    | inr k ↦ absurd ((g.0 b k).1 (subst (λ (t : Label). Front t b) e f))
  ]
  | inr k ↦ elim q [
    | inl h ↦ absurd (not_back x a (g.0 a k) (subst (Front a) h f))
    | inr h ↦ rising_front r a b g.1 k h f
  ]
]

same_at : (ls : List (List Label)) (r s : List Label) → Deepest ls r → Deepest ls s → (u : Label) → Within u r → Within u s
same_at ls r s d e u w =
    let t = met u s (e.covers u (d.full u w)) in
    let k = met t.0 r (d.covers t.0 (e.full t.0 t.1)) in
    let q = rising_front r u k.0 d.rising w k.1 (front_trans u t.0 k.0 t.2 k.2) in
    let p = front_antisym u t.0 t.2 (subst (Front t.0) (sym q) k.2) in
    subst (λ (x : Label). Within x s) (sym p) t.1

apart_once : (a b : Label) → Apart a b → Apart b a → ⊥
apart_once a b p q = not_back a b p (subst (λ (t : Label). Front t a) (le_antisym a b p.0 q.0) (front_refl a))

pub one_list : (ls : List (List Label)) (r s : List Label) → Deepest ls r → Deepest ls s → r ≡ s
one_list ls r s d e = ordered_same Apart r s apart_once d.rising e.rising (same_at ls r s d e) (same_at ls s r e d)
