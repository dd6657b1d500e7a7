-- One walk over the candidates leaves the deepest.
use Rattle.std.proofs.Common.{inl, inr, ◌≡◌, ℕ, List, [], ◌∷◌, ◌++◌, refl, ap, sym, subst, ◌∙◌, ◌+◌, ◌≤◌, ◌<◌, Bool, true, false, cond, Some, None, Option, length, take, drop, take_all, arith}
use Rattle.std.proofs.lemmas.List.{length-drop, drop_all, take_more}
use Rattle.mm_label.specs.Fronts.{Label, Front, is_front, Le, Apart, Within, Meets, Ascends, or_empty}
use Rattle.mm_lists.specs.Full.{MeetsAll, IsFull, IsFullNode, Deepest, IsCandidate}
use Rattle.mm_slca.specs.Inside.Walk.{Walked, Stands, finished, taken_done, taken_held}
use Rattle.mm_lists.specs.Advancing.{Advances}
use Rattle.mm_lists.specs.Lists.{head_of}
use Rattle.mm_label.specs.Facts.Fronts.{front_trans, front_antisym, front_le, front_yes, front_no, le_trans, le_total, between_front, apart_trans}
use Rattle.mm_label.specs.Facts.Lists.{met, meets, within_last, within_cases, meets_longer, ascends_tail}
use Rattle.mm_lists.specs.Facts.Walking.{rising_more, head_none, head_some, drop_rest}

pub walk_first : (ls : List (List Label)) → MeetsAll [] ls → Walked ls [] [] []
walk_first ls f = record {
  rising = tt;
  before = λ d w. absurd w;
  full = λ d w. absurd w;
  held_full = (refl, f);
  covers = λ z v h w. absurd w;
}

-- the new candidate is the held one or above it: nothing changes
pub walk_above : (ls : List (List Label)) (done : List Label) (held : Label) (passed : List Label) (v c : Label)
    → Walked ls done held passed → IsCandidate ls v c → Front c held → Walked ls done held (passed ++ v ∷ [])
walk_above ls done held passed v c w k f = record {
  rising = w.rising;
  before = w.before;
  full = w.full;
  held_full = w.held_full;
  covers = λ z u h n g. elim (within_cases u v passed n) [
    | inl m ↦ w.covers z u h m g
    | inr e ↦ inr (front_trans z c held (k.deepest z h (subst (Front z) e g)) f)
  ];
}

-- it is below the held one, and takes its place
pub walk_below : (ls : List (List Label)) (done : List Label) (held : Label) (passed : List Label) (v c : Label)
    → Walked ls done held passed → IsCandidate ls v c → Front held c → Walked ls done c (passed ++ v ∷ [])
walk_below ls done held passed v c w k f = record {
  rising = w.rising;
  before = λ d n. let p = w.before d n in (le_trans d held c p.0 (front_le held c f), λ g. p.1 (between_front d held c p.0 (front_le held c f) g));
  full = w.full;
  held_full = k.full;
  covers = λ z u h n g. elim (within_cases u v passed n) [
    | inl m ↦ elim (w.covers z u h m g) [ inl q ↦ inl q | inr q ↦ inr (front_trans z held c q f) ]
    | inr e ↦ inr (k.deepest z h (subst (Front z) e g))
  ];
}

-- it is neither: then it comes after the held one, which is an answer
pub walk_past : (ls : List (List Label)) (done : List Label) (held : Label) (passed : List Label) (v c : Label)
    → Walked ls done held passed → IsCandidate ls v c → Le held v → (Front c held → ⊥) → (Front held c → ⊥)
    → Walked ls (done ++ held ∷ []) c (passed ++ v ∷ [])
walk_past ls done held passed v c w k l no_above no_below =
    let after : Le held c = elim (le_total held c)
    [ inl h ↦ h | inr h ↦ absurd (no_above (between_front c held v h l k.above)) ] in
    record {
      rising = rising_more done held w.rising w.before;
      before = λ d n. elim (within_cases d held done n) [
        | inl m ↦ apart_trans d held c (w.before d m) (after, no_below)
        | inr e ↦ subst (λ (x : Label). Apart x c) (sym e) (after, no_below)
      ];
      full = λ d n. elim (within_cases d held done n) [
        | inl m ↦ w.full d m
        | inr e ↦ subst (IsFull ls) (sym e) w.held_full
      ];
      held_full = k.full;
      covers = λ z u h n g. elim (within_cases u v passed n) [
        | inl m ↦ elim (w.covers z u h m g) [ inl q ↦ inl (meets_longer z held done q) | inr q ↦ inl (meets z (done ++ held ∷ []) held (within_last held done) q) ]
        | inr e ↦ inr (k.deepest z h (subst (Front z) e g))
      ];
    }

above_front : (d : Label) → Apart d [] → ⊥
above_front [] p = p.1 tt
above_front (x ∷ d) p = p.0

-- after the whole list: nothing is held
pub walk_none : (ls : List (List Label)) (ms done : List Label) → ((z : Label) → MeetsAll z ls → Meets z ms) → Walked ls done [] ms → Deepest ls done
walk_none ls ms done own w = record {
  rising = w.rising;
  full = λ u n. absurd (above_front u (w.before u n));
  covers = λ z h.
      let t = met z ms (own z h.1) in
      elim (w.covers z t.0 (h.0, h.1) t.1 t.2) [ inl q ↦ q | inr q ↦ absurd (h.2 (front_antisym z [] q tt)) ];
}

-- or the last candidate is
pub walk_held : (ls : List (List Label)) (ms done : List Label) (held : Label) → ((z : Label) → MeetsAll z ls → Meets z ms) → Walked ls done held ms → (held ≡ [] → ⊥) → Deepest ls (done ++ held ∷ [])
walk_held ls ms done held own w some = record {
  rising = rising_more done held w.rising w.before;
  full = λ u n. elim (within_cases u held done n) [
    | inl m ↦ let f = w.full u m in (f.0, f.1, λ e. (w.before u m).1 (subst (λ (x : Label). Front x held) (sym e) tt))
    | inr e ↦ subst (IsFullNode ls) (sym e) (w.held_full.0, w.held_full.1, some)
  ];
  covers = λ z h.
      let t = met z ms (own z h.1) in
      elim (w.covers z t.0 (h.0, h.1) t.1 t.2) [
        | inl q ↦ meets_longer z held done q
        | inr q ↦ meets z (done ++ held ∷ []) held (within_last held done) q
      ];
}

-- ---- as the code takes it

pub walk_step : (ls : List (List Label)) (done : List Label) (held : Label) (passed : List Label) (v c : Label)
    → Walked ls done held passed → IsCandidate ls v c → Le held v → Walked ls (taken_done done held c) (taken_held held c) (passed ++ v ∷ [])
walk_step ls done held passed v c w k l = by (is_front c held) (is_front held c) refl refl
  where
    by : (a b : Bool) → is_front c held ≡ a → is_front held c ≡ b → Walked ls (cond a done (cond b done (done ++ held ∷ []))) (cond a held c) (passed ++ v ∷ [])
    by true b e f = walk_above ls done held passed v c w k (front_yes c held e)
    by false true e f = walk_below ls done held passed v c w k (front_yes held c f)
    by false false e f = walk_past ls done held passed v c w k l (front_no c held e) (front_no held c f)

held_before : (v held c m : Label) → Front c v → Le v m → Le held m → Le (taken_held held c) m
held_before v held c m f l h = by (is_front c held)
  where
    by : (a : Bool) → Le (cond a held c) m
    by true = h
    by false = le_trans c v m (front_le c v f) l

-- ---- the list, from the i-th node on

-- one node more is passed, or nothing is left
pub stands_more : (ls : List (List Label)) (ms : List Label) (i : ℕ) (done : List Label) (held : Label) (was at c : Option Label) → Ascends ms
    → Stands ls ms i done held was → Advances ls ms i was at c → Stands ls ms (i + 1) (taken_done done held (or_empty c)) (taken_held held (or_empty c)) at
stands_more ls ms i done held None at c a s g = subst (λ (o : Option Label). Stands ls ms (i + 1) (taken_done done held (or_empty o)) (taken_held held (or_empty o)) at) (sym g.found) (
    let e = head_none (drop i ms) s.here in
    let n : length ms ≤ i = omega (arith, length-drop i ms, ap length e) in
    let t : take (i + 1) ms ≡ take i ms = take_all (i + 1) ms (omega arith) ∙ sym (take_all i ms n) in
    let d : drop (i + 1) ms ≡ [] = drop_all (i + 1) ms (omega arith) in
    record {
      walked = subst (λ (p : List Label). Walked ls done held p) (sym t) s.walked;
      here = g.here;
      later = λ m w. absurd (subst (Within m) d w);
    })
stands_more ls ms i done held (Some v) at c a s g =
    let t = head_some (drop i ms) v s.here in
    let rest = t.0 in
    let r = drop_rest ms i v rest t.1 in
    let asc = subst Ascends t.1 (ascends_tail i ms a) in
    let le : Le held v = s.later v (subst (Within v) (sym t.1) (inl refl)) in
    let more : take (i + 1) ms ≡ take i ms ++ v ∷ [] = take_more ms i [] r.0 ∙ ap (λ (x : Label). take i ms ++ x ∷ []) r.1 in
    record {
      walked = subst (λ (p : List Label). Walked ls (taken_done done held (or_empty c)) (taken_held held (or_empty c)) p) (sym more) (walk_step ls done held (take i ms) v (or_empty c) s.walked g.found le);
      here = g.here;
      later = λ m w.
          let u : Within m rest = subst (Within m) r.2 w in
          held_before v held (or_empty c) m g.found.above (asc.0 m u).0 (s.later m (subst (Within m) (sym t.1) (inr u)));
    }

pub stands_first : (ls : List (List Label)) (ms : List Label) → MeetsAll [] ls → Stands ls ms 0 [] [] (head_of ms)
stands_first ls ms f = record { walked = walk_first ls f; here = refl; later = λ m w. tt }

-- the list is passed: what is held is the last answer
pub stands_end : (ls : List (List Label)) (ms done : List Label) (held : Label) (at : Option Label) → ((z : Label) → MeetsAll z ls → Meets z ms)
    → Stands ls ms (length ms) done held at → Deepest ls (finished done held)
stands_end ls ms done [] at own s = walk_none ls ms done own (subst (λ (p : List Label). Walked ls done [] p) (take_all (length ms) ms (omega arith)) s.walked)
stands_end ls ms done (x ∷ held) at own s =
    walk_held ls ms done (x ∷ held) own (subst (λ (p : List Label). Walked ls done (x ∷ held) p) (take_all (length ms) ms (omega arith)) s.walked) (λ e. absurd (cc))

pub finished_some : (done : List Label) (h : Label) → 0 < length h → finished done h ≡ done ++ h ∷ []
finished_some done [] k = absurd (omega arith)
finished_some done (x ∷ h) k = refl

pub stands_taken : (ls : List (List Label)) (ms : List Label) (i : ℕ) (done : List Label) (held : Label) (was at c : Option Label) (more : List Label) (then : Label) → Ascends ms
    → Stands ls ms i done held was → Advances ls ms i was at c → more ≡ taken_done done held (or_empty c) → then ≡ taken_held held (or_empty c) → Stands ls ms (i + 1) more then at
stands_taken ls ms i done held was at c more then a s g p q =
    subst (λ (d : List Label). Stands ls ms (i + 1) d then at) (sym p)
    (subst (λ (h : Label). Stands ls ms (i + 1) (taken_done done held (or_empty c)) h at) (sym q)
    (stands_more ls ms i done held was at c a s g))
