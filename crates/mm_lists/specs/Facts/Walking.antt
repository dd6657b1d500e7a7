-- A walk along a keyword list, from the first to the last.
use Rattle.std.proofs.Common.{inl, inr, ◌≡◌, ℕ, ◌+◌, ◌≤◌, ◌<◌, List, [], ◌∷◌, ◌++◌, refl, ap, sym, subst, ◌∙◌, Some, None, Option, length, drop, arith, get_or}
use Rattle.std.proofs.lemmas.List.{length-drop, drop_all, drop_more}
use Rattle.mm_label.specs.Fronts.{Label, Apart, Within, Ascends, or_empty}
use Rattle.mm_label.specs.Facts.Fronts.{le_antisym}
use Rattle.mm_label.specs.Facts.Lists.{within_cases, within_drop, ascends_tail, within_at}
use Rattle.mm_lists.specs.Full.{Rising, IsCandidate}
use Rattle.mm_lists.specs.Advancing.{Advances}
use Rattle.mm_lists.specs.Lists.{head_of}
use Rattle.mm_lists.specs.Facts.Nearest.{NextMatch}

pub rising_more : (ds : List Label) (u : Label) → Rising ds → ((d : Label) → Within d ds → Apart d u) → Rising (ds ++ u ∷ [])
rising_more [] u g b = (λ m w. absurd w, tt)
rising_more (d ∷ ds) u g b = (
  λ m w. elim (within_cases m u ds w) [ inl k ↦ g.0 m k | inr e ↦ subst (Apart d) (sym e) (b d (inl refl)) ],
  rising_more ds u g.1 (λ x w. b x (inr w)),
)

pub head_none : (ms : List Label) → None ≡ head_of ms → ms ≡ []
head_none [] e = refl
head_none (m ∷ ms) e = absurd (cc)

pub head_some : (ms : List Label) (v : Label) → Some v ≡ head_of ms → (rest : List Label) × (ms ≡ v ∷ rest)
head_some [] v e = absurd (cc)
head_some (m ∷ ms) v e = (ms, (cc))

-- the first after v is what follows it
pub next_is : (ms : List Label) (i : ℕ) (v : Label) (rest : List Label) (o : Option Label) → Ascends ms → drop i ms ≡ v ∷ rest → NextMatch ms v o → o ≡ head_of rest
next_is ms i v [] None a e n = refl
next_is ms i v (r ∷ rest) None a e n =
    let t = subst Ascends e (ascends_tail i ms a) in
    absurd (n r (within_drop i ms r (subst (Within r) (sym e) (inr (inl refl)))) (t.0 r (inl refl)))
next_is ms i v [] (Some r) a e n = absurd (within_at i ms r a n.0 v [] e n.1)
next_is ms i v (q ∷ rest) (Some r) a e n =
    let t = subst Ascends e (ascends_tail i ms a) in
    let w = within_at i ms r a n.0 v (q ∷ rest) e n.1 in
    let low = n.2 q (within_drop i ms q (subst (Within q) (sym e) (inr (inl refl)))) (t.0 q (inl refl)) in
    elim w [
      | inl k ↦ ap Some k
      | inr k ↦ ap Some (le_antisym r q low (t.1.0 r k).0)
    ]

pub drop_rest : (ms : List Label) (i : ℕ) (v : Label) (rest : List Label) → drop i ms ≡ v ∷ rest → (i < length ms) × (get_or ms i [] ≡ v) × (drop (i + 1) ms ≡ rest)
drop_rest ms i v rest e =
    let h : i < length ms = omega (arith, length-drop i ms, ap length e) in
    let k = drop_more ms i [] h in
    let p : get_or ms i [] ∷ drop (i + 1) ms ≡ v ∷ rest = sym k ∙ e in
    (h, (cc), (cc))

-- the node at which it stands is of the list
pub stands_within : (ms : List Label) (i : ℕ) (v : Label) → Some v ≡ head_of (drop i ms) → Within v ms
stands_within ms i v h = let t = head_some (drop i ms) v h in within_drop i ms v (subst (Within v) (sym t.1) (inl refl))

-- past the end nothing changes
pub advances_none : (ls : List (List Label)) (ms : List Label) (i : ℕ) (was at : Option Label) → was ≡ None → at ≡ None → was ≡ head_of (drop i ms) → Advances ls ms i was at None
advances_none ls ms i was at e q h =
    let r = head_none (drop i ms) (sym e ∙ h) in
    let n : length ms ≤ i = omega (arith, length-drop i ms, ap length r) in
    let d : drop (i + 1) ms ≡ [] = drop_all (i + 1) ms (omega arith) in
    subst (λ (o : Option Label). Advances ls ms i o at None) (sym e) (record { here = q ∙ sym (ap head_of d); found = refl })

pub advances_some : (ls : List (List Label)) (ms : List Label) (i : ℕ) (was : Option Label) (v : Label) (c at : Option Label) → Ascends ms → was ≡ Some v → was ≡ head_of (drop i ms)
    → IsCandidate ls v (or_empty c) → NextMatch ms v at → Advances ls ms i was at c
advances_some ls ms i was v c at a e h k n =
    let t = head_some (drop i ms) v (sym e ∙ h) in
    let r = drop_rest ms i v t.0 t.1 in
    subst (λ (o : Option Label). Advances ls ms i o at c) (sym e) (record { here = next_is ms i v t.0 at a t.1 n ∙ ap head_of (sym r.2); found = k })
