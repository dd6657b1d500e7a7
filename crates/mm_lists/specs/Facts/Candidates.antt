-- The deeper of two lca, folded over the lists, is the deepest label above v at which each list is met.
use Rattle.std.proofs.Common.{inl, inr, ◌≡◌, ◌⊎◌, Bool, true, false, cond, List, [], ◌∷◌, ◌++◌, refl, sym, subst, Option, Some, None}
use Rattle.mm_label.specs.Fronts.{Label, Front, is_front, Le, Within, Meets}
use Rattle.mm_lists.specs.Full.{MeetsAll, IsCandidate}
use Rattle.mm_lists.specs.Inside.Narrowing.{ancestor_with, deeper, narrowed}
use Rattle.mm_label.specs.Label.{whole, lca}
use Rattle.mm_lists.specs.Facts.Nearest.{LeftMatch, RightMatch}
use Rattle.mm_label.specs.Facts.Fronts.{front_refl, front_trans, front_le, front_yes, front_no, fronts_of_one, le_trans, le_total, between_front, lca_left, lca_right, lca_whole, front_lca}
use Rattle.mm_label.specs.Facts.Lists.{met, meets, meets_above}

abbrev FrontOf : Label → Option Label → Type 0
FrontOf x None = ⊥
FrontOf x (Some m) = Front x m

from_left : (ms : List Label) (v x m : Label) (o : Option Label) → LeftMatch ms v o → Front x v → Within m ms → Front x m → Le m v → FrontOf x o
from_left ms v x m None h f w g k = absurd (h m w k)
from_left ms v x m (Some l) h f w g k = between_front x l v (le_trans x m l (front_le x m g) (h.2 m w k)) h.1 f

from_right : (ms : List Label) (v x m : Label) (p : Option Label) → RightMatch ms v p → Front x v → Within m ms → Front x m → Le v m → FrontOf x p
from_right ms v x m None h f w g k = absurd (h m w k)
from_right ms v x m (Some r) h f w g k = between_front x r m (le_trans x v r (front_le x v f) h.1) (h.2 m w k) g

-- a label above v meets a list exactly through the two matches next to v
pub nearest : (ms : List Label) (v x : Label) (o p : Option Label) → LeftMatch ms v o → RightMatch ms v p → Front x v → Meets x ms → FrontOf x o ⊎ FrontOf x p
nearest ms v x o p h k f m =
    let t = met x ms m in
    elim (le_total t.0 v) [
      | inl q ↦ inl (from_left ms v x t.0 o h f t.1 t.2 q)
      | inr q ↦ inr (from_right ms v x t.0 p k f t.1 t.2 q)
    ]

reach_front : (x : Label) (o : Option Label) → Front (ancestor_with x o) x
reach_front x None = tt
reach_front x (Some m) = lca_left x m

reach_whole : (x : Label) (o : Option Label) → whole (ancestor_with x o) ≡ ancestor_with x o
reach_whole x None = refl
reach_whole x (Some m) = lca_whole x m

front_reach : (z x : Label) (o : Option Label) → whole z ≡ z → Front z x → FrontOf z o → Front z (ancestor_with x o)
front_reach z x None w f g = absurd g
front_reach z x (Some m) w f g = front_lca z x m w f g

-- of two fronts of one label the deeper has both
deeper_has : (a b x z : Label) → Front a x → Front b x → Front z a ⊎ Front z b → Front z (deeper a b)
deeper_has a b x z f g h = by (is_front a b) refl
  where
    by : (t : Bool) → is_front a b ≡ t → Front z (cond t b a)
    by true e = elim h [ inl q ↦ front_trans z a b q (front_yes a b e) | inr q ↦ q ]
    by false e = elim h [
      | inl q ↦ q
      | inr q ↦ front_trans z b a q (elim (fronts_of_one a b x f g) [ inl p ↦ absurd (front_no a b e p) | inr p ↦ p ])
    ]

deeper_is : (a b : Label) → (deeper a b ≡ a) ⊎ (deeper a b ≡ b)
deeper_is a b = by (is_front a b)
  where
    by : (t : Bool) → (cond t b a ≡ a) ⊎ (cond t b a ≡ b)
    by true = inr refl
    by false = inl refl

reach_meets_left : (ms : List Label) (v x w : Label) (o : Option Label) → LeftMatch ms v o → Within w ms → Meets (ancestor_with x o) ms
reach_meets_left ms v x w None h k = meets [] ms w k tt
reach_meets_left ms v x w (Some l) h k = meets (lca x l) ms l h.0 (lca_right x l)

reach_meets_right : (ms : List Label) (v x w : Label) (p : Option Label) → RightMatch ms v p → Within w ms → Meets (ancestor_with x p) ms
reach_meets_right ms v x w None h k = meets [] ms w k tt
reach_meets_right ms v x w (Some r) h k = meets (lca x r) ms r h.0 (lca_right x r)

pub full_above : (a b : Label) (ls : List (List Label)) → Front a b → MeetsAll b ls → MeetsAll a ls
full_above a b [] f h = tt
full_above a b (l ∷ ls) f h = (meets_above a b l f h.0, full_above a b ls f h.1)

pub full_more : (x : Label) (ls : List (List Label)) (l : List Label) → MeetsAll x ls → Meets x l → MeetsAll x (ls ++ l ∷ [])
full_more x [] l h m = (m, tt)
full_more x (k ∷ ls) l h m = (h.0, full_more x ls l h.1 m)

pub full_fewer : (x : Label) (ls : List (List Label)) (l : List Label) → MeetsAll x (ls ++ l ∷ []) → MeetsAll x ls × Meets x l
full_fewer x [] l h = (tt, h.0)
full_fewer x (k ∷ ls) l h = let t = full_fewer x ls l h.1 in ((h.0, t.0), t.1)

-- before any list: the label itself
pub candidate_first : (v : Label) → whole v ≡ v → IsCandidate [] v v
candidate_first v e = record { full = (e, tt); above = front_refl v; deepest = λ z h f. f }

-- one list more
pub candidate_more : (ls : List (List Label)) (ms : List Label) (v x : Label) (o p : Option Label)
    → IsCandidate ls v x → LeftMatch ms v o → RightMatch ms v p → Meets [] ms → IsCandidate (ls ++ ms ∷ []) v (narrowed x o p)
candidate_more ls ms v x o p c h k some =
    let t = met [] ms some in
    let w = t.0 in
    let n = t.1 in
    let a = ancestor_with x o in
    let b = ancestor_with x p in
    let front : Front (deeper a b) x = elim (deeper_is a b) [
      | inl e ↦ subst (λ (t : Label). Front t x) (sym e) (reach_front x o)
      | inr e ↦ subst (λ (t : Label). Front t x) (sym e) (reach_front x p)
    ] in
    let is_whole : whole (deeper a b) ≡ deeper a b = elim (deeper_is a b) [
      | inl e ↦ subst (λ (t : Label). whole t ≡ t) (sym e) (reach_whole x o)
      | inr e ↦ subst (λ (t : Label). whole t ≡ t) (sym e) (reach_whole x p)
    ] in
    let here : Meets (deeper a b) ms = elim (deeper_is a b) [
      | inl e ↦ subst (λ (t : Label). Meets t ms) (sym e) (reach_meets_left ms v x w o h n)
      | inr e ↦ subst (λ (t : Label). Meets t ms) (sym e) (reach_meets_right ms v x w p k n)
    ] in
    record {
      full = (is_whole, full_more (deeper a b) ls ms (full_above (deeper a b) x ls front c.full.1) here);
      above = front_trans (deeper a b) x v front c.above;
      deepest = λ z f g.
          let t = full_fewer z ls ms f.1 in
          let q = c.deepest z (f.0, t.0) g in
          deeper_has a b x z (reach_front x o) (reach_front x p) (elim (nearest ms v z o p h k g t.1) [
            | inl r ↦ inl (front_reach z x o f.0 q r)
            | inr r ↦ inr (front_reach z x p f.0 q r)
          ]);
    }

-- the list that v itself is in changes nothing
pub candidate_own : (ls : List (List Label)) (ms : List Label) (v x : Label) → IsCandidate ls v x → Within v ms → IsCandidate (ls ++ ms ∷ []) v x
candidate_own ls ms v x c n = record {
  full = (c.full.0, full_more x ls ms c.full.1 (meets x ms v n c.above));
  above = c.above;
  deepest = λ z f g. c.deepest z (f.0, (full_fewer z ls ms f.1).0) g;
}

-- nothing is deeper than none
pub deeper_none : (a : Label) → deeper a [] ≡ a
deeper_none [] = refl
deeper_none (x ∷ a) = refl
