-- A label and its parent.
use Rattle.std.proofs.Common.{inl, inr, ◌≡◌, ◌⊎◌, Bool, true, false, cond, ◌<◌, ◌≤◌, [], ◌∷◌, refl, ap, sym, Some, length, arith}
use Rattle.std.specs.Prelude.{ℤ}
use Rattle.mm_label.specs.Label.{IsLabel, whole, onto_whole, is_odd, last_odd}
use Rattle.mm_label.specs.Fronts.{Label, Front, IsChild, but_last, parent, unless_empty}
use Rattle.mm_label.specs.Facts.Fronts.{front_trans, front_antisym, whole_front, whole_whole, front_whole}
use Rattle.mm_label.specs.Facts.Children.{front_none}

pub front_length : (a b : Label) → Front a b → length a ≤ length b
front_length [] b f = omega arith
front_length (x ∷ a) [] f = absurd f
front_length (x ∷ a) (y ∷ b) f = let i = front_length a b f.1 in omega arith

pub but_last_front : (x : Label) → Front (but_last x) x
but_last_front [] = tt
but_last_front (c ∷ []) = tt
but_last_front (c ∷ d ∷ ds) = (refl, but_last_front (d ∷ ds))

pub parent_front : (x : Label) → Front (parent x) x
parent_front x = front_trans (parent x) (but_last x) x (whole_front (but_last x)) (but_last_front x)

pub parent_whole : (x : Label) → whole (parent x) ≡ parent x
parent_whole x = whole_whole (but_last x)

-- a front of a label is the label itself or a front of what stands before its last number
pub nearer : (z x : Label) → Front z x → Front z (but_last x) ⊎ (z ≡ x)
nearer [] x f = inl tt
nearer (e ∷ z) [] f = absurd f
nearer (e ∷ z) (c ∷ []) f = let t = front_none z f.1 in let p = f.0 in inr cc
nearer (e ∷ z) (c ∷ d ∷ ds) f = elim (nearer z (d ∷ ds) f.1) [ inl h ↦ inl (f.0, h) | inr h ↦ let p = f.0 in inr cc ]

-- a front of whole segments is the label itself or a front of its parent
pub up : (z x : Label) → whole z ≡ z → Front z x → Front z (parent x) ⊎ (z ≡ x)
up z x w f = elim (nearer z x f) [ inl h ↦ inl (front_whole z (but_last x) w h) | inr h ↦ inr h ]

pub shorter : (c : ℤ) (x : Label) → length (but_last (c ∷ x)) < length (c ∷ x)
shorter c [] = omega arith
shorter c (d ∷ x) = let i = shorter d x in omega arith

pub parent_shorter : (x : Label) → (x ≡ [] → ⊥) → length (parent x) < length x
parent_shorter [] n = absurd (n refl)
parent_shorter (c ∷ x) n = let i = shorter c x in let j = front_length (parent (c ∷ x)) (but_last (c ∷ x)) (whole_front (but_last (c ∷ x))) in omega arith

-- of two labels above each other the upper one, of whole segments, is no longer the parent's
pub parent_of_child : (y x : Label) → whole y ≡ y → IsChild y x → parent x ≡ y
parent_of_child y [] v k = absurd (k.longer (sym (front_none y k.below)))
parent_of_child y (c ∷ x) v k =
    front_antisym (parent (c ∷ x)) y
    (elim (k.one (parent (c ∷ x)) (whole_whole (but_last (c ∷ x))) (parent_front (c ∷ x))) [
      | inl f ↦ f
      | inr e ↦ let l = front_length (parent (c ∷ x)) (but_last (c ∷ x)) (whole_front (but_last (c ∷ x))) in let m = shorter c x in let n = ap length e in absurd (omega arith)
    ])
    (elim (nearer y (c ∷ x) k.below) [
      | inl f ↦ front_whole y (but_last (c ∷ x)) v f
      | inr e ↦ absurd (k.longer (sym e))
    ])

-- ---- labels are no empty list, and whole

pub last_whole : (b : Bool) (x : Label) → (x ≡ [] → ⊥) → last_odd b x ≡ true → whole x ≡ x
last_whole b [] n o = absurd (n refl)
last_whole b (c ∷ []) n o = ap (λ (t : Bool). cond t (c ∷ []) []) o
last_whole b (c ∷ d ∷ ds) n o = ap (onto_whole c) (last_whole (is_odd c) (d ∷ ds) (λ e. absurd cc) o)

pub unless_empty_some : (p : Label) → (p ≡ [] → ⊥) → unless_empty p ≡ Some p
unless_empty_some [] n = absurd (n refl)
unless_empty_some (c ∷ p) n = refl

pub label_some : (x : Label) → IsLabel x → x ≡ [] → ⊥
label_some [] l e = let o = l.ends_odd in absurd cc
label_some (c ∷ x) l e = absurd cc

pub label_whole : (x : Label) → IsLabel x → whole x ≡ x
label_whole x l = last_whole false x (label_some x l) l.ends_odd
