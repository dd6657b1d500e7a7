-- From a match up to the root each node gets its words, and after all matches each node on a path has its mask.
use Rattle.std.proofs.Common.{inl, inr, ◌+◌, get_or, drop, ◌≡◌, Bool, true, false, not, ◌&&◌, cond, ℕ, ◌<◌, List, [], ◌∷◌, refl, ap, sym, subst, ◌∙◌, Option, Some, None, length, arith}
use Rattle.std.specs.Int.Bits.{bit_or}
use Rattle.std.specs.Ordering.{int_cmp, is_eq}
use Rattle.std.specs.Cmp.Lexicographic.{slice_cmp}
use Rattle.std.proofs.lemmas.Bool.{and_parts, and_from}
use Rattle.mm_list.specs.Facts.{drop_at}
use Rattle.mm_label.specs.Label.{whole}
use Rattle.mm_match.specs.declared.mark.Mark.{Mark}
use Rattle.mm_label.specs.Fronts.{Label, Front, is_front, Meets, same, parent, unless_empty, or_empty}
use Rattle.mm_match.specs.Marks.{labels, IsOnPath, at_or_below, mask_from, mask_at}
use Rattle.mm_match.specs.Inside.Passing.{is_between, more, let_in, gathered, is_above}
use Rattle.mm_label.specs.Facts.Fronts.{front_refl, front_trans, front_yes, is_front_of, front_no, same_is, same_of}
use Rattle.mm_match.proofs.Ties.{key_is, key_of}
use Rattle.mm_label.specs.Facts.Parents.{up, parent_front, parent_shorter, front_length}
use Rattle.mm_label.specs.Facts.Children.{front_none}

-- ---- up from the match

-- where the walk stands: at a node between the root and the match
abbrev pub Stands : Label → Label → Option Label → Type 0
Stands root label None = Unit {0}
Stands root label (Some a) = (whole a ≡ a) × Front root a × Front a label

-- the nodes above which the walk stands have their words
abbrev pub so_far : Label → Label → Option Label → Label → ℕ → Option ℕ → Option ℕ
so_far root label at x words mask = cond (is_between root x label && not (is_above x at)) (more mask words) mask

pub not_empty : (root x : Label) → (root ≡ [] → ⊥) → Front root x → x ≡ [] → ⊥
not_empty root x n f e = n (front_none root (subst (Front root) e f))

pub above_is : (root p x : Label) → (root ≡ [] → ⊥) → Front root x → is_above x (at_or_below root (unless_empty p)) ≡ is_front x p
above_is root [] [] n f = absurd (n (front_none root f))
above_is root [] (c ∷ x) n f = refl
above_is root (c ∷ p) x n f = by (is_front root (c ∷ p)) refl
  where
    other : (t : Bool) → is_front root (c ∷ p) ≡ false → is_front x (c ∷ p) ≡ t → false ≡ is_front x (c ∷ p)
    other true e h = absurd (front_no root (c ∷ p) e (front_trans root x (c ∷ p) f (front_yes x (c ∷ p) h)))
    other false e h = sym h

    by : (t : Bool) → is_front root (c ∷ p) ≡ t → is_above x (at_or_below root (Some (c ∷ p))) ≡ is_front x (c ∷ p)
    by true e = ap (λ (t : Bool). is_above x (cond t (Some (c ∷ p)) None)) e
    by false e = ap (λ (t : Bool). is_above x (cond t (Some (c ∷ p)) None)) e ∙ other (is_front x (c ∷ p)) e refl

pub stands_at : (root label p : Label) → whole p ≡ p → Front p label → Stands root label (at_or_below root (unless_empty p))
stands_at root label [] w f = tt
stands_at root label (c ∷ p) w f = by (is_front root (c ∷ p)) refl
  where
    by : (t : Bool) → is_front root (c ∷ p) ≡ t → Stands root label (cond t (Some (c ∷ p)) None)
    by true e = (w, front_yes root (c ∷ p) e, f)
    by false e = tt

pub shorter_at : (root p : Label) (n : ℕ) → length p < n → length (or_empty (at_or_below root (unless_empty p))) < n
shorter_at root [] n l = l
shorter_at root (c ∷ p) n l = by (is_front root (c ∷ p))
  where
    by : (t : Bool) → length (or_empty (cond t (Some (c ∷ p)) None)) < n
    by true = l
    by false = omega (arith, l)

-- what a node between has
pub record Between (root x label : Label) : Type 0 where
  pub is_whole : whole x ≡ x
  pub below : Front root x
  pub above : Front x label

pub between_is : (root x label : Label) → is_between root x label ≡ true → Between root x label
between_is root x label e =
    let p = and_parts (same (whole x) x) (is_front root x && is_front x label) e in
    let q = and_parts (is_front root x) (is_front x label) p.1 in
    record { is_whole = same_is (whole x) x p.0; below = front_yes root x q.0; above = front_yes x label q.1 }

pub between_of : (root x label : Label) → whole x ≡ x → Front root x → Front x label → is_between root x label ≡ true
between_of root x label w f g = and_from (same (whole x) x) (is_front root x && is_front x label) (same_of (whole x) x w) (and_from (is_front root x) (is_front x label) (is_front_of root x f) (is_front_of x label g))

pub starts : (root label x : Label) (words : ℕ) (mask : Option ℕ) → (root ≡ [] → ⊥) → so_far root label (at_or_below root (unless_empty label)) x words mask ≡ mask
starts root label x words mask n = by (is_between root x label) refl
  where
    by : (t : Bool) → is_between root x label ≡ t → cond (t && not (is_above x (at_or_below root (unless_empty label)))) (more mask words) mask ≡ mask
    by true e =
        let b = between_is root x label e in
        ap (λ (t : Bool). cond (not t) (more mask words) mask) (above_is root label x n b.below ∙ is_front_of x label b.above)
    by false e = refl

pub ends : (root label x : Label) (words : ℕ) (mask : Option ℕ) → so_far root label None x words mask ≡ cond (is_between root x label) (more mask words) mask
ends root label x words mask = by (is_between root x label)
  where
    by : (t : Bool) → cond (t && true) (more mask words) mask ≡ cond t (more mask words) mask
    by true = refl
    by false = refl

not_above : (a : Label) → (a ≡ [] → ⊥) → is_front a (parent a) ≡ false
not_above a n = by (is_front a (parent a)) refl
  where
    by : (t : Bool) → is_front a (parent a) ≡ t → is_front a (parent a) ≡ false
    by true e = let l = front_length a (parent a) (front_yes a (parent a) e) in let m = parent_shorter a n in absurd (omega arith)
    by false e = e

passes : (a x : Label) → whole x ≡ x → (x ≡ a → ⊥) → is_front x (parent a) ≡ is_front x a
passes a x w n = by (is_front x (parent a)) (is_front x a) refl refl
  where
    by : (t u : Bool) → is_front x (parent a) ≡ t → is_front x a ≡ u → is_front x (parent a) ≡ is_front x a
    by true u e f = e ∙ sym (is_front_of x a (front_trans x (parent a) a (front_yes x (parent a) e) (parent_front a)))
    by false false e f = e ∙ sym f
    by false true e f = elim (up x a w (front_yes x a f)) [ inl h ↦ absurd (front_no x (parent a) e h) | inr h ↦ absurd (n h) ]

-- one node more has its words
pub goes_on : (root label a x : Label) (words : ℕ) (old_at old mid_at mid new : Option ℕ) → (root ≡ [] → ⊥) → Stands root label (Some a)
    → (a ≡ x → (old_at ≡ old)) → mid_at ≡ so_far root label (Some a) a words old_at → mid ≡ so_far root label (Some a) x words old
    → new ≡ cond (is_eq (slice_cmp int_cmp a x)) (more mid_at words) mid
    → new ≡ so_far root label (at_or_below root (unless_empty (parent a))) x words old
goes_on root label a x words old_at old mid_at mid new n s same_old at_a at_x is = by (is_eq (slice_cmp int_cmp a x)) refl
  where
    nonempty : a ≡ [] → ⊥
    nonempty = not_empty root a n s.1

    held : mid_at ≡ old_at
    held = at_a ∙ ap (λ (t : Bool). cond (t && not (is_front a a)) (more old_at words) old_at) (between_of root a label s.0 s.1 s.2) ∙ ap (λ (t : Bool). cond (not t) (more old_at words) old_at) (is_front_of a a (front_refl a))

    by_between : (t : Bool) → is_between root x label ≡ t → (x ≡ a → ⊥) → cond (t && not (is_front x a)) (more old words) old ≡ cond (t && not (is_above x (at_or_below root (unless_empty (parent a))))) (more old words) old
    by_between true e d =
        let b = between_is root x label e in
        ap (λ (t : Bool). cond (not t) (more old words) old) (sym (above_is root (parent a) x n b.below ∙ passes a x b.is_whole d))
    by_between false e d = refl

    by : (t : Bool) → is_eq (slice_cmp int_cmp a x) ≡ t → new ≡ so_far root label (at_or_below root (unless_empty (parent a))) x words old
    by true e =
        let p = key_is a x e in
        is ∙ ap (λ (t : Bool). cond t (more mid_at words) mid) e ∙ ap (λ (m : Option ℕ). more m words) (held ∙ same_old p)
        ∙ sym (ap (λ (t : Bool). cond (t && not (is_above x (at_or_below root (unless_empty (parent a))))) (more old words) old) (subst (λ (z : Label). is_between root z label ≡ true) p (between_of root a label s.0 s.1 s.2))
        ∙ ap (λ (t : Bool). cond (not t) (more old words) old) (subst (λ (z : Label). is_above z (at_or_below root (unless_empty (parent a))) ≡ false) p (above_is root (parent a) a n s.1 ∙ not_above a nonempty)))
    by false e =
        is ∙ ap (λ (t : Bool). cond t (more mid_at words) mid) e ∙ at_x
        ∙ by_between (is_between root x label) refl (λ d. let k = key_of a x (sym d) in absurd cc)

-- ---- all matches

-- a node at or below the root
abbrev is_below : Label → Label → Bool
is_below root x = same (whole x) x && is_front root x

let_in_below : (root x : Label) (m : Mark) (mask : Option ℕ) → is_below root x ≡ true → let_in root x m mask ≡ cond (is_front x m.label) (more mask m.mask) mask
let_in_below root x m mask e =
    let p = and_parts (same (whole x) x) (is_front root x) e in
    ap (λ (t : Bool). cond (t && (is_front root x && is_front x m.label)) (more mask m.mask) mask) p.0 ∙ ap (λ (t : Bool). cond (t && is_front x m.label) (more mask m.mask) mask) p.1

gathered_some : (root x : Label) (n : ℕ) (ms : List Mark) → is_below root x ≡ true → gathered root x (Some n) ms ≡ Some (mask_from n x ms)
gathered_some root x n [] e = refl
gathered_some root x n (m ∷ ms) e = ap (λ (o : Option ℕ). gathered root x o ms) (let_in_below root x m (Some n) e) ∙ by (is_front x m.label) (λ k. gathered_some root x k ms e)
  where
    by : (t : Bool) → ((k : ℕ) → gathered root x (Some k) ms ≡ Some (mask_from k x ms)) → gathered root x (cond t (more (Some n) m.mask) (Some n)) ms ≡ Some (mask_from (cond t (bit_or n m.mask) n) x ms)
    by true again = again (bit_or n m.mask)
    by false again = again n

pub gathered_met : (root x : Label) (ms : List Mark) → whole x ≡ x → Front root x → Meets x (labels ms) → gathered root x None ms ≡ Some (mask_at x ms)
gathered_met root x [] w f met = absurd met
gathered_met root x (m ∷ ms) w f met = ap (λ (o : Option ℕ). gathered root x o ms) (let_in_below root x m None below) ∙ by (is_front x m.label) refl (gathered_met root x ms w f)
  where
    below : is_below root x ≡ true
    below = and_from (same (whole x) x) (is_front root x) (same_of (whole x) x w) (is_front_of root x f)

    by : (t : Bool) → is_front x m.label ≡ t → (Meets x (labels ms) → gathered root x None ms ≡ Some (mask_at x ms)) → gathered root x (cond t (more None m.mask) None) ms ≡ Some (mask_from (cond t (bit_or 0 m.mask) 0) x ms)
    by true e again = gathered_some root x (bit_or 0 m.mask) ms below
    by false e again = elim met [ inl h ↦ absurd (front_no x m.label e h) | inr h ↦ again h ]

let_in_apart : (root x : Label) (m : Mark) → is_between root x m.label ≡ false → let_in root x m None ≡ None
let_in_apart root x m e = ap (λ (t : Bool). cond t (more None m.mask) None) e

pub gathered_path : (root x : Label) (n : ℕ) (ms : List Mark) → gathered root x None ms ≡ Some n → IsOnPath root ms x
gathered_path root x n [] e = absurd cc
gathered_path root x n (m ∷ ms) e = by (is_between root x m.label) refl (gathered_path root x n ms)
  where
    by : (t : Bool) → is_between root x m.label ≡ t → (gathered root x None ms ≡ Some n → IsOnPath root ms x) → IsOnPath root (m ∷ ms) x
    by true h again = let b = between_is root x m.label h in record { is_whole = b.is_whole; below = b.below; above = inl b.above }
    by false h again =
        let r = again (sym (ap (λ (o : Option ℕ). gathered root x o ms) (let_in_apart root x m h)) ∙ e) in
        record { is_whole = r.is_whole; below = r.below; above = inr r.above }

pub gathered_next : (root x : Label) (before after : Option ℕ) (all : List Mark) (i : ℕ) (m : Mark) (total : Option ℕ) → i < length all → m ≡ get_or all i m
    → after ≡ let_in root x m before → gathered root x before (drop i all) ≡ total → gathered root x after (drop (i + 1) all) ≡ total
gathered_next root x before after all i m total h e a same =
    ap (λ (o : Option ℕ). gathered root x o (drop (i + 1) all)) a ∙ (ap (gathered root x before) (sym (drop_at all i m h e)) ∙ same)
