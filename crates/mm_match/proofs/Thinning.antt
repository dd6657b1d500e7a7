-- One pass in document order keeps the marks that survive.
use Rattle.std.proofs.Common.{inl, inr, ◌≡◌, ◌⊎◌, Bool, true, false, not, ◌&&◌, cond, List, [], ◌∷◌, ◌++◌, refl, ap, sym, subst, ◌∙◌, Option, Some, None, ℕ, ◌≤◌, length, drop}
use Rattle.std.proofs.lemmas.List.{drop_all}
use Rattle.std.specs.List.{list_any, filter}
use Rattle.std.proofs.lemmas.Bool.{and_parts, and_from}
use Rattle.mm_match.specs.declared.mark.Mark.{Mark}
use Rattle.mm_label.specs.Fronts.{Label, Front, is_front, Le, Within, Ascends}
use Rattle.mm_match.specs.Marks.{mark_label, labels, is_beaten, kept}
use Rattle.mm_match.specs.Inside.Passing.{is_cut, thin, next_cut, taken}
use Rattle.mm_label.specs.Facts.Members.{in_within, any_at, any_none}
use Rattle.mm_label.specs.Facts.Fronts.{front_refl, front_trans, front_le, front_yes, is_front_of, le_antisym, between_front}

-- what was cut is a mark that is beaten
abbrev pub Sound : (Mark → Bool) → List Mark → Option Label → Type 0
Sound bad all None = Unit {0}
Sound bad all (Some c) = (p : Mark) × Within p all × (bad p ≡ true) × (p.label ≡ c)

-- whatever of the marks passed is beaten, what comes later below it lies below the cut
abbrev pub Covers : (Mark → Bool) → (Mark → Type 0) → Option Label → Type 0
Covers bad P cut = (p : Mark) → P p → bad p ≡ true → (x : Label) → ((q : Mark) → P q → Le q.label x) → Front p.label x → is_cut cut x ≡ true

cut_survives : (bad : Mark → Bool) (all : List Mark) (cut : Option Label) (m : Mark) → Sound bad all cut → is_cut cut m.label ≡ true
    → list_any (λ p. is_front p.label m.label && bad p) all ≡ true
cut_survives bad all None m s e = absurd (cc)
cut_survives bad all (Some c) m s e = any_at (λ p. is_front p.label m.label && bad p) s.0 all s.1
    (and_from (is_front s.0.label m.label) (bad s.0) (subst (λ (x : Label). is_front x m.label ≡ true) (sym s.3) e) s.2)

is_cut_below : (cut : Option Label) (a x : Label) → is_cut cut a ≡ true → Front a x → is_cut cut x ≡ true
is_cut_below None a x e f = absurd (cc)
is_cut_below (Some c) a x e f = is_front_of c x (front_trans c a x (front_yes c a e) f)

pub thin_keeps : (bad : Mark → Bool) (all : List Mark) (P : Mark → Type 0) (cut : Option Label) (ms : List Mark)
    → ((p : Mark) → Within p all → P p ⊎ Within p ms) → ((p : Mark) → Within p ms → Within p all)
    → ((p q : Mark) → P p → Within q ms → Le p.label q.label) → Ascends (labels ms)
    → Sound bad all cut → Covers bad P cut
    → thin bad cut ms ≡ filter (λ m. not (list_any (λ p. is_front p.label m.label && bad p) all)) ms
thin_keeps bad all P cut [] split of before rise sound covers = refl
thin_keeps bad all P cut (m ∷ ms) split of before rise sound covers =
    by (is_cut cut m.label) (bad m) refl refl (λ c s k. thin_keeps bad all (λ (p : Mark). P p ⊎ (p ≡ m)) c ms (next_split) (λ p w. of p (inr w)) next_before rise.1 s k)
  where
    Q : Mark → Type 0
    Q p = P p ⊎ (p ≡ m)

    next_split : (p : Mark) → Within p all → Q p ⊎ Within p ms
    next_split p w = elim (split p w) [ inl h ↦ inl (inl h) | inr h ↦ elim h [ inl e ↦ inl (inr e) | inr k ↦ inr k ] ]

    next_before : (p q : Mark) → Q p → Within q ms → Le p.label q.label
    next_before p q w k = elim w [
      | inl h ↦ before p q h (inr k)
      | inr e ↦ subst (λ (r : Mark). Le r.label q.label) (sym e) ((rise.0 q.label (in_within mark_label q ms k)).0)
    ]

    passed : (q : Mark) → P q → Le q.label m.label
    passed q w = before q m w (inl refl)

    by : (c b : Bool) → is_cut cut m.label ≡ c → bad m ≡ b →
        ((d : Option Label) → Sound bad all d → Covers bad Q d → thin bad d ms ≡ filter (λ m. not (list_any (λ p. is_front p.label m.label && bad p) all)) ms) →
        cond c (thin bad cut ms) (cond b (thin bad (Some m.label) ms) (m ∷ thin bad cut ms))
        ≡ cond (not (list_any (λ p. is_front p.label m.label && bad p) all)) (m ∷ filter (λ m. not (list_any (λ p. is_front p.label m.label && bad p) all)) ms) (filter (λ m. not (list_any (λ p. is_front p.label m.label && bad p) all)) ms)
    by true b e k again = rw (cut_survives bad all cut m sound e) (again cut sound
        (λ p w z x l f. elim w [
          | inl h ↦ covers p h z x (λ q g. l q (inl g)) f
          | inr h ↦ is_cut_below cut m.label x e (subst (λ (r : Mark). Front r.label x) h f)
        ]))
    by false true e k again =
        let t : list_any (λ p. is_front p.label m.label && bad p) all ≡ true = any_at (λ p. is_front p.label m.label && bad p) m all (of m (inl refl)) (and_from (is_front m.label m.label) (bad m) (is_front_of m.label m.label (front_refl m.label)) k) in
        rw t (again (Some m.label) (m, of m (inl refl), k, refl)
        (λ p w z x l f. elim w [
          | inl h ↦
              let g : Front p.label m.label = between_front p.label m.label x (passed p h) (l m (inr refl)) f in
              let d : is_cut cut m.label ≡ true = covers p h z m.label passed g in absurd (cc)
          | inr h ↦ is_front_of m.label x (subst (λ (r : Mark). Front r.label x) h f)
        ]))
    by false false e k again =
        let t : list_any (λ p. is_front p.label m.label && bad p) all ≡ false = any_none (λ p. is_front p.label m.label && bad p) all (λ p w z.
        let d = and_parts (is_front p.label m.label) (bad p) z in
        let f = front_yes p.label m.label d.0 in
        elim (split p w) [
          | inl h ↦ let d : is_cut cut m.label ≡ true = covers p h d.1 m.label passed f in absurd (cc)
          | inr h ↦ elim h [
            | inl g ↦ let z : bad m ≡ true = subst (λ (r : Mark). bad r ≡ true) g d.1 in absurd (cc)
            | inr g ↦ let q = rise.0 p.label (in_within mark_label p ms g) in absurd (q.1 (le_antisym m.label p.label q.0 (front_le p.label m.label f)))
          ]
        ]) in
        rw t (ap (λ (r : List Mark). m ∷ r) (again cut sound
        (λ p w z x l f. elim w [
          | inl h ↦ covers p h z x (λ q g. l q (inl g)) f
          | inr h ↦ let z : bad m ≡ true = subst (λ (r : Mark). bad r ≡ true) h z in absurd (cc)
        ])))

abbrev nobody : Mark → Type 0
nobody p = ⊥

pub thin_kept : (all : List Mark) → Ascends (labels all) → thin (is_beaten all) None all ≡ kept all
thin_kept all rise = thin_keeps (is_beaten all) all nobody None all (λ p w. inr w) (λ p w. w) (λ p q n w. absurd n) rise tt (λ p n. absurd n)

pub thin_step : (bad : Mark → Bool) (out : List Mark) (cut : Option Label) (m : Mark) (ms : List Mark)
    → out ++ thin bad cut (m ∷ ms) ≡ taken (bad m) out cut m ++ thin bad (next_cut (bad m) cut m) ms
thin_step bad out cut m ms = by (is_cut cut m.label) (bad m)
  where
    shift : (xs ys : List Mark) → xs ++ m ∷ ys ≡ (xs ++ m ∷ []) ++ ys
    shift [] ys = refl
    shift (x ∷ xs) ys = ap (λ (r : List Mark). x ∷ r) (shift xs ys)

    by : (c b : Bool) → out ++ cond c (thin bad cut ms) (cond b (thin bad (Some m.label) ms) (m ∷ thin bad cut ms))
        ≡ cond c out (cond b out (out ++ m ∷ [])) ++ thin bad (cond c cut (cond b (Some m.label) cut)) ms
    by true b = refl
    by false true = refl
    by false false = shift out (thin bad cut ms)

pub thin_all : (out all : List Mark) (cut : Option Label) (i : ℕ) → length all ≤ i → out ++ thin (is_beaten all) cut (drop i all) ≡ thin (is_beaten all) None all
    → Ascends (labels all) → out ≡ kept all
thin_all out all cut i h e rise =
    sym (ended out) ∙ (sym (ap (λ (t : List Mark). out ++ thin (is_beaten all) cut t) (drop_all i all h)) ∙ (e ∙ thin_kept all rise))
  where
    ended : (xs : List Mark) → xs ++ [] ≡ xs
    ended [] = refl
    ended (x ∷ xs) = ap (λ (t : List Mark). x ∷ t) (ended xs)
