-- The marks that survive are the root's, and those whose parent's does and that no sibling beats.
use Rattle.std.proofs.Common.{inl, inr, ◌≡◌, ◌⊎◌, ◌↔◌, ℕ, zero, suc, ◌<◌, Bool, true, false, not, ◌&&◌, cond, List, [], ◌∷◌, refl, ap, sym, subst, ◌∙◌, length, nat_eq, arith, Contains, AllPairs, true≢false}
use Rattle.std.specs.Prelude.{All}
use Rattle.std.specs.List.{list_any, filter}
use Rattle.std.proofs.lemmas.Bool.{eq-eqb, and_parts, and_from}
use Rattle.mm_label.specs.Label.{IsLabel, IsBefore}
use Rattle.mm_label.specs.Fronts.{Label, Front, is_front, Within, Ascends, same, parent}
use Rattle.mm_label.specs.Facts.Fronts.{front_refl, front_trans, front_antisym, front_le, front_yes, is_front_of, le_antisym, same_is, same_of}
use Rattle.mm_label.specs.Facts.Order.{before_lt}
use Rattle.mm_label.specs.Facts.Lists.{meets_above}
use Rattle.mm_label.specs.Facts.Members.{contains_of, within_of, within_in, in_within, any_found, any_at, any_none}
use Rattle.mm_label.specs.Facts.Places.{in_order}
use Rattle.mm_label.specs.Facts.Parents.{front_length, parent_front, parent_whole, parent_shorter, up, label_some, label_whole}
use Rattle.mm_match.specs.declared.mark.Mark.{Mark}
use Rattle.mm_match.specs.Marks.{mark_label, labels, IsOnPath, under, is_rival, is_beaten, survives, kept}
use Rattle.mm_match.specs.Contributors.{AreOfTree, IsContributor, KeptAreContributors, KeptRise, PathsAreOfTree}

-- ---- members of lists

-- the mark that has a label of the list
mark_at : (ms : List Mark) (x : Label) → Within x (labels ms) → (m : Mark) × Within m ms × (m.label ≡ x)
mark_at ms x w = let f = within_in mark_label x ms w in (f.0, f.1, sym f.2)

filtered : (t : Mark → Bool) (ms : List Mark) (m : Mark) → Within m (filter t ms) → Within m ms × (t m ≡ true)
filtered t [] m w = absurd w
filtered t (n ∷ ms) m w = by (t n) refl w (filtered t ms m)
  where
    by : (b : Bool) → t n ≡ b → Within m (cond b (n ∷ filter t ms) (filter t ms)) → (Within m (filter t ms) → Within m ms × (t m ≡ true)) → Within m (n ∷ ms) × (t m ≡ true)
    by true k (inl e) f = (inl e, ap t e ∙ k)
    by true k (inr v) f = (inr (f v).0, (f v).1)
    by false k v f = (inr (f v).0, (f v).1)

filtered_in : (t : Mark → Bool) (ms : List Mark) (m : Mark) → Within m ms → t m ≡ true → Within m (filter t ms)
filtered_in t [] m w k = absurd w
filtered_in t (n ∷ ms) m (inl e) k = subst (λ b. Within m (cond b (n ∷ filter t ms) (filter t ms))) (sym (ap t (sym e) ∙ k)) (inl e)
filtered_in t (n ∷ ms) m (inr w) k = by (t n) (filtered_in t ms m w k)
  where
    by : (b : Bool) → Within m (filter t ms) → Within m (cond b (n ∷ filter t ms) (filter t ms))
    by true v = inr v
    by false v = v

-- ---- the order of labels

ascends_from : (xs : List Label) → AllPairs IsBefore xs → Ascends xs
ascends_from [] p = tt
ascends_from (x ∷ xs) p = (
  λ m w. let c = contains_of m xs w in before_lt x m (subst (IsBefore x) c.2 (p 0 (suc c.0) m (omega arith) (omega (arith, c.1)))),
  ascends_from xs (λ i j d h k. p (suc i) (suc j) d (omega (arith, h)) (omega (arith, k))),
)

one_mark : (ms : List Mark) (p q : Mark) → Ascends (labels ms) → Within p ms → Within q ms → p.label ≡ q.label → p ≡ q
one_mark [] p q a v w e = absurd v
one_mark (m ∷ ms) p q a (inl f) (inl g) e = f ∙ sym g
one_mark (m ∷ ms) p q a (inl f) (inr w) e = absurd ((a.0 q.label (in_within mark_label q ms w)).1 (ap (λ (n : Mark). n.label) (sym f) ∙ e))
one_mark (m ∷ ms) p q a (inr v) (inl g) e = absurd ((a.0 p.label (in_within mark_label p ms v)).1 (ap (λ (n : Mark). n.label) (sym g) ∙ sym e))
one_mark (m ∷ ms) p q a (inr v) (inr w) e = one_mark ms p q a.1 v w e

filter_within : (t : Mark → Bool) (ms : List Mark) (x : Label) → Within x (labels (filter t ms)) → Within x (labels ms)
filter_within t ms x w = let f = mark_at (filter t ms) x w in subst (λ z. Within z (labels ms)) f.2 (in_within mark_label f.0 ms (filtered t ms f.0 f.1).0)

filter_ascends : (t : Mark → Bool) (ms : List Mark) → Ascends (labels ms) → Ascends (labels (filter t ms))
filter_ascends t [] a = tt
filter_ascends t (m ∷ ms) a = by (t m) (filter_ascends t ms a.1)
  where
    by : (b : Bool) → Ascends (labels (filter t ms)) → Ascends (labels (cond b (m ∷ filter t ms) (filter t ms)))
    by true r = (λ x w. a.0 x (filter_within t ms x w), r)
    by false r = r

pub kept_rise : KeptRise
kept_rise all p = in_order (labels (kept all)) (filter_ascends (survives all) all (ascends_from (labels all) p))

-- ---- what survives

-- no mark at or above it is beaten
Safe : List Mark → Mark → Type 0
Safe all m = (p : Mark) → Within p all → Front p.label m.label → is_beaten all p ≡ true → ⊥

so_not : (b : Bool) → b ≡ false → not b ≡ true
so_not true e = absurd cc
so_not false e = refl

not_so : (b : Bool) → not b ≡ true → b ≡ true → ⊥
not_so true e k = absurd cc
not_so false e k = absurd cc

survives_so : (all : List Mark) (m : Mark) → survives all m ≡ true → Safe all m
unfolding Safe
survives_so all m h p w f b = not_so (list_any (λ p. is_front p.label m.label && is_beaten all p) all) h
    (any_at (λ p. is_front p.label m.label && is_beaten all p) p all w (and_from (is_front p.label m.label) (is_beaten all p) (is_front_of p.label m.label f) b))

so_survives : (all : List Mark) (m : Mark) → Safe all m → survives all m ≡ true
unfolding Safe
so_survives all m s = so_not (list_any (λ p. is_front p.label m.label && is_beaten all p) all)
    (any_none (λ p. is_front p.label m.label && is_beaten all p) all (λ p w h. let q = and_parts (is_front p.label m.label) (is_beaten all p) h in s p w (front_yes p.label m.label q.0) q.1))

not_under_itself : (a : ℕ) → under a a ≡ true → ⊥
not_under_itself a h = not_so (nat_eq a a) (and_parts _ (not (nat_eq a a)) h).1 (eq-eqb a a refl)

-- a mark that is beaten has a sibling with all its words and more
rival_of : (all : List Mark) (m : Mark) → is_beaten all m ≡ true → (n : Mark) × Within n all × (parent m.label ≡ parent n.label) × (under m.mask n.mask ≡ true)
rival_of all m h =
    let f = any_found (is_rival m) all h in
    let q = and_parts (same (parent m.label) (parent f.0.label)) (under m.mask f.0.mask) f.2 in
    (f.0, f.1, same_is (parent m.label) (parent f.0.label) q.0, q.1)

beaten_by : (all : List Mark) (m n : Mark) → Within n all → parent m.label ≡ parent n.label → under m.mask n.mask ≡ true → is_beaten all m ≡ true
beaten_by all m n w e u = any_at (is_rival m) n all w (and_from (same (parent m.label) (parent n.label)) (under m.mask n.mask) (same_of (parent m.label) (parent n.label) e) u)

-- ---- the marks of a tree

all_at : (P : Label → Type 0) (xs : List Label) (x : Label) → All P xs → Within x xs → P x
all_at P xs x a w = let c = contains_of x xs w in subst P c.2 (a c.0 x c.1)

module _ (root : Mark) (others : List Mark) (t : AreOfTree root others) where
  ascending : Ascends (labels (root ∷ others))
  ascending = ascends_from (labels (root ∷ others)) t.ordered

  labelled : (m : Mark) → Within m (root ∷ others) → IsLabel m.label
  labelled m w = all_at IsLabel (labels (root ∷ others)) m.label t.labelled (in_within mark_label m (root ∷ others) w)

  parent_mark : (m : Mark) → Within m others → (p : Mark) × Within p (root ∷ others) × (p.label ≡ parent m.label)
  parent_mark m w = mark_at (root ∷ others) (parent m.label) (within_of (parent m.label) (labels (root ∷ others)) (t.parents m (contains_of m others w)))

  shorter : (m : Mark) → Within m (root ∷ others) → length (parent m.label) < length m.label
  shorter m w = parent_shorter m.label (label_some m.label (labelled m w))

  below : (n : ℕ) (m : Mark) → length m.label < n → Within m (root ∷ others) → Front root.label m.label
  below zero m h w = absurd (omega (arith, h))
  below (suc n) m h (inl e) = subst (λ (q : Mark). Front root.label q.label) (sym e) (front_refl root.label)
  below (suc n) m h (inr w) =
      let p = parent_mark m w in
      let s : length p.0.label < n = omega (arith, h, ap length p.2, shorter m (inr w)) in
      front_trans root.label p.0.label m.label (below n p.0 s p.1) (subst (λ z. Front z m.label) (sym p.2) (parent_front m.label))

  below_root : (m : Mark) → Within m (root ∷ others) → Front root.label m.label
  below_root m w = below (suc (length m.label)) m (omega arith) w

  root_unbeaten : is_beaten (root ∷ others) root ≡ true → ⊥
  root_unbeaten h = by (rival_of (root ∷ others) root h)
    where
      by : (n : Mark) × Within n (root ∷ others) × (parent root.label ≡ parent n.label) × (under root.mask n.mask ≡ true) → ⊥
      by (n, inl e, s, u) = not_under_itself root.mask (subst (λ (q : Mark). under root.mask q.mask ≡ true) e u)
      by (n, inr w, s, u) =
          let p = parent_mark n w in
          let l = front_length root.label p.0.label (below_root p.0 p.1) in
          omega (arith, l, ap length p.2, ap length s, shorter root (inl refl))

  root_safe : Safe (root ∷ others) root
  unfolding Safe
  root_safe p w f b =
      let e : p ≡ root = one_mark (root ∷ others) p root ascending w (inl refl) (front_antisym p.label root.label f (below_root p w)) in
      root_unbeaten (subst (λ (q : Mark). is_beaten (root ∷ others) q ≡ true) e b)

  parent_safe : (m p : Mark) → p.label ≡ parent m.label → Safe (root ∷ others) m → Safe (root ∷ others) p
  unfolding Safe
  parent_safe m p e s q w f b = s q w (front_trans q.label p.label m.label f (subst (λ z. Front z m.label) (sym e) (parent_front m.label))) b

  contributes : (m : Mark) → Within m others → Safe (root ∷ others) m → IsContributor (root ∷ others) m
  unfolding Safe
  contributes m w s =
      let p = parent_mark m w in record {
        parent_kept = contains_of (parent m.label) (labels (kept (root ∷ others)))
            (subst (λ z. Within z (labels (kept (root ∷ others)))) p.2 (in_within mark_label p.0 (kept (root ∷ others))
            (filtered_in (survives (root ∷ others)) (root ∷ others) p.0 p.1 (so_survives (root ∷ others) p.0 (parent_safe m p.0 p.2 s)))));
        unbeaten = λ n c e. by n (within_of n (root ∷ others) c) e (under m.mask n.mask) refl;
      }
    where
      by : (n : Mark) → Within n (root ∷ others) → parent n.label ≡ parent m.label → (b : Bool) → under m.mask n.mask ≡ b → under m.mask n.mask ≡ false
      by n v e true u = absurd (s m (inr w) (front_refl m.label) (beaten_by (root ∷ others) m n v (sym e) u))
      by n v e false u = u

  safe_of : (m : Mark) → Within m others → IsContributor (root ∷ others) m → Safe (root ∷ others) m
  unfolding Safe
  safe_of m w c p v f b =
      let q = mark_at (kept (root ∷ others)) (parent m.label) (within_of (parent m.label) (labels (kept (root ∷ others))) c.parent_kept) in
      let k = filtered (survives (root ∷ others)) (root ∷ others) q.0 q.1 in
      elim (up p.label m.label (label_whole p.label (labelled p v)) f) [
        | inl g ↦ survives_so (root ∷ others) q.0 k.1 p v (subst (λ z. Front p.label z) (sym q.2) g) b
        | inr e ↦
            let is : p ≡ m = one_mark (root ∷ others) p m ascending v (inr w) e in
            let r = rival_of (root ∷ others) m (subst (λ (q : Mark). is_beaten (root ∷ others) q ≡ true) is b) in
            true≢false (sym r.3 ∙ c.unbeaten r.0 (contains_of r.0 (root ∷ others) r.1) (sym r.2))
      ]

  kept_cases : (m : Mark) → Within m (kept (root ∷ others)) → (m ≡ root) ⊎ (Contains others m × IsContributor (root ∷ others) m)
  kept_cases m w = by (filtered (survives (root ∷ others)) (root ∷ others) m w)
    where
      by : Within m (root ∷ others) × (survives (root ∷ others) m ≡ true) → (m ≡ root) ⊎ (Contains others m × IsContributor (root ∷ others) m)
      by (inl e, s) = inl e
      by (inr v, s) = inr (contains_of m others v, contributes m v (survives_so (root ∷ others) m s))

  kept_of : (m : Mark) → (m ≡ root) ⊎ (Contains others m × IsContributor (root ∷ others) m) → Within m (kept (root ∷ others))
  kept_of m (inl e) = subst (λ (q : Mark). Within q (kept (root ∷ others))) (sym e) (filtered_in (survives (root ∷ others)) (root ∷ others) root (inl refl) (so_survives (root ∷ others) root root_safe))
  kept_of m (inr c) = let w = within_of m others c.0 in filtered_in (survives (root ∷ others)) (root ∷ others) m (inr w) (so_survives (root ∷ others) m (safe_of m w c.1))

pub kept_are_contributors : KeptAreContributors
kept_are_contributors root others t m = (λ c. kept_cases root others t m (within_of m (kept (root ∷ others)) c), λ h. contains_of m (kept (root ∷ others)) (kept_of root others t m h))

-- ---- the nodes on the paths to matches

module _ (root : Label) (matches : List Mark) (first : Mark) (others : List Mark) (r : IsLabel root) (a : Ascends (labels (first ∷ others)))
    (on : (x : Label) → Within x (labels (first ∷ others)) ↔ IsOnPath root matches x) where
  first_is : first.label ≡ root
  first_is =
      let p = (on first.label).0 (inl refl) in
      by ((on root).1 (record { is_whole = label_whole root r; below = front_refl root; above = meets_above root first.label (labels matches) p.below p.above })) p.below
    where
      by : Within root (labels (first ∷ others)) → Front root first.label → first.label ≡ root
      by (inl e) f = sym e
      by (inr w) f = let q = a.0 root w in absurd (q.1 (le_antisym first.label root q.0 (front_le root first.label f)))

  parents_there : (m : Mark) → Contains others m → Contains (labels (first ∷ others)) (parent m.label)
  parents_there m c =
      let w = in_within mark_label m others (within_of m others c) in
      let p = (on m.label).0 (inr w) in
      elim (up root m.label (label_whole root r) p.below) [
        | inl f ↦ contains_of (parent m.label) (labels (first ∷ others)) ((on (parent m.label)).1 (record { is_whole = parent_whole m.label; below = f; above = meets_above (parent m.label) m.label (labels matches) (parent_front m.label) p.above }))
        | inr e ↦ absurd ((a.0 m.label w).1 (first_is ∙ e))
      ]

pub paths_are_of_tree : PathsAreOfTree
paths_are_of_tree root matches [] r l a on = inl refl
paths_are_of_tree root matches (first ∷ others) r l a on = inr (record {
  first = first;
  others = others;
  are = refl;
  root_first = first_is root matches first others r a on;
  of_tree = record { ordered = in_order (labels (first ∷ others)) a; labelled = l; parents = parents_there root matches first others r a on };
})
