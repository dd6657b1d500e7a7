-- Marks as trees and as lists: what is kept of the list are the pruned trees.
use Rattle.std.proofs.Common.{inl, inr, ◌≡◌, ◌⊎◌, Bool, true, false, not, ◌&&◌, cond, List, [], ◌∷◌, ◌++◌, refl, ap, sym, subst, ◌∙◌}
use Rattle.std.specs.List.{list_any, filter}
use Rattle.std.proofs.lemmas.List.Elements.{filter-append}
use Rattle.std.proofs.lemmas.Bool.{and_parts, and_from}
use Rattle.mm_label.specs.Label.{whole}
use Rattle.mm_match.specs.declared.mark.Mark.{Mark}
use Rattle.mm_label.specs.Fronts.{Label, Front, is_front, Apart, same, parent, Within}
use Rattle.mm_match.specs.Marks.{is_rival, is_beaten, survives, kept, under}
use Rattle.mm_tree.specs.Trees.{Trees, none, node, preorder}
use Rattle.mm_tree.specs.Formed.{ApartFrom, Formed}
use Rattle.mm_label.specs.Facts.Fronts.{front_refl, front_trans, front_antisym, front_yes, is_front_of, apart_below, same_is, same_of}
use Rattle.mm_label.specs.Facts.Parents.{parent_front, parent_of_child}
use Rattle.mm_tree.specs.Facts.Places.{node_under, node_parent, node_whole, node_apart}
use Rattle.mm_label.specs.Facts.Members.{within_joined, within_first, within_second, any_at, any_none, any_same}

abbrev pub at : Mark → Label
at m = m.label

abbrev pub tops : Trees Mark → List Mark
tops none = []
tops (node m inner rest) = m ∷ tops rest

abbrev pub outdone : Mark → List Mark → Bool
outdone m all = list_any (λ n. under m.mask n.mask) all

-- those that no sibling beats, and below them the same
abbrev pub thinned : List Mark → Trees Mark → Trees Mark
thinned all none = none
thinned all (node m inner rest) = cond (outdone m all) (thinned all rest) (node m (thinned (tops inner) inner) (thinned all rest))

filter_none : (t : Mark → Bool) (xs : List Mark) → ((p : Mark) → Within p xs → t p ≡ false) → filter t xs ≡ []
filter_none t [] h = refl
filter_none t (x ∷ xs) h = rw (h x (inl refl)) (filter_none t xs (λ p w. h p (inr w)))

top_in : (p : Mark) (f : Trees Mark) → Within p (tops f) → Within p (preorder f)
top_in p none w = absurd w
top_in p (node m inner rest) w = elim w [ inl e ↦ inl e | inr k ↦ inr (within_second p (preorder inner) (preorder rest) (top_in p rest k)) ]

top_parent : (y : Label) (f : Trees Mark) (p : Mark) → whole y ≡ y → Formed at y f → Within p (tops f) → parent p.label ≡ y
top_parent y none p v u w = absurd w
top_parent y (node m inner rest) p v u w = elim w [ inl e ↦ ap (λ (q : Mark). parent q.label) e ∙ parent_of_child y m.label v u.0 | inr k ↦ top_parent y rest p v u.3 k ]

is_top : (y : Label) (f : Trees Mark) (p : Mark) → whole y ≡ y → Formed at y f → Within p (preorder f) → parent p.label ≡ y → Within p (tops f)
is_top y none p v u w e = absurd w
is_top y (node m inner rest) p v u w e = elim w [
  | inl h ↦ inl h
  | inr k ↦ elim (within_joined p (preorder inner) (preorder rest) k) [
    | inl h ↦ absurd (u.0.longer (front_antisym m.label y (subst (Front m.label) e (node_parent at m.label inner p u.0.is_whole u.1 h)) u.0.below))
    | inr h ↦ inr (is_top y rest p v u.3 h e)
  ]
]

-- f are some of the siblings under y, ts the roots of all of them, within all marks
record Placed (all ts : List Mark) (y : Label) (f : Trees Mark) : Type 0 where
  whole_above : whole y ≡ y
  formed : Formed at y f
  into : (p : Mark) → Within p (preorder f) → Within p all
  local : (x p : Mark) → Within x (tops f) → Within p all → Front x.label p.label → Within p (preorder f)
  siblings : (p : Mark) → Within p all → parent p.label ≡ y → Within p ts
  listed : (p : Mark) → Within p ts → Within p all × (parent p.label ≡ y)
  clean : (p : Mark) → Within p all → Front p.label y → is_beaten all p ≡ false
  wholes : (p : Mark) → Within p all → whole p.label ≡ p.label

beaten_is : (all ts : List Mark) (y : Label) (f : Trees Mark) (m : Mark) → Placed all ts y f → parent m.label ≡ y → is_beaten all m ≡ outdone m ts
beaten_is all ts y f m k e = any_same (is_rival m) (λ n. under m.mask n.mask) all ts
    (λ p w z. let d = and_parts (same (parent m.label) (parent p.label)) (under m.mask p.mask) z in (k.siblings p w (sym (same_is (parent m.label) (parent p.label) d.0) ∙ e), d.1))
    (λ p w z. let l = k.listed p w in (l.0, and_from (same (parent m.label) (parent p.label)) (under m.mask p.mask) (same_of (parent m.label) (parent p.label) (e ∙ sym l.1)) z))

-- a mark at or below the first root is that root or one of its tree
at_first : (all ts : List Mark) (y : Label) (m : Mark) (inner rest : Trees Mark) (p : Mark) → Placed all ts y (node m inner rest) → Within p all → Front m.label p.label → (p ≡ m) ⊎ Within p (preorder inner)
at_first all ts y m inner rest p k w f = elim (k.local m p (inl refl) w f) [
  | inl e ↦ inl e
  | inr h ↦ elim (within_joined p (preorder inner) (preorder rest) h) [
    | inl g ↦ inr g
    | inr g ↦ absurd ((node_apart at m.label y rest p k.formed.3 k.formed.2 g).1 f)
  ]
]

-- a beaten mark at or above the first root is that root
above_first : (all ts : List Mark) (y : Label) (m : Mark) (inner rest : Trees Mark) (p : Mark) → Placed all ts y (node m inner rest) → Within p all → Front p.label m.label → is_beaten all p ≡ true → p ≡ m
above_first all ts y m inner rest p k w f b = elim (k.formed.0.one p.label (k.wholes p w) f) [
  | inl h ↦ let c = k.clean p w h in absurd cc
  | inr h ↦ elim (at_first all ts y m inner rest p k w (subst (Front m.label) (sym h) (front_refl m.label))) [
    | inl e ↦ e
    | inr g ↦ absurd ((node_under at m.label inner p k.formed.1 g).1 h)
  ]
]

placed_inner : (all ts : List Mark) (y : Label) (m : Mark) (inner rest : Trees Mark) → Placed all ts y (node m inner rest) → is_beaten all m ≡ false → Placed all (tops inner) m.label inner
placed_inner all ts y m inner rest k b = record {
  whole_above = k.formed.0.is_whole;
  formed = k.formed.1;
  into = λ p w. k.into p (inr (within_first p (preorder inner) (preorder rest) w));
  local = λ x p t w f.
      let n = node_under at m.label inner x k.formed.1 (top_in x inner t) in
      elim (at_first all ts y m inner rest p k w (front_trans m.label x.label p.label n.0 f)) [
        | inl e ↦ absurd (n.1 (front_antisym x.label m.label (subst (λ (q : Mark). Front x.label q.label) e f) n.0))
        | inr g ↦ g
      ];
  siblings = λ p w e.
      elim (at_first all ts y m inner rest p k w (subst (λ (x : Label). Front x p.label) e (parent_front p.label))) [
        | inl h ↦ absurd (k.formed.0.longer (sym (sym (parent_of_child y m.label k.whole_above k.formed.0) ∙ (ap (λ (q : Mark). parent q.label) (sym h) ∙ e))))
        | inr g ↦ is_top m.label inner p k.formed.0.is_whole k.formed.1 g e
      ];
  listed = λ p w. (k.into p (inr (within_first p (preorder inner) (preorder rest) (top_in p inner w))), top_parent m.label inner p k.formed.0.is_whole k.formed.1 w);
  clean = λ p w f. by p w f (is_beaten all p) refl;
  wholes = k.wholes;
}
  where
    by : (p : Mark) → Within p all → Front p.label m.label → (t : Bool) → is_beaten all p ≡ t → t ≡ false
    by p w f true e = let h : is_beaten all m ≡ true = subst (λ (q : Mark). is_beaten all q ≡ true) (above_first all ts y m inner rest p k w f e) e in absurd cc
    by p w f false e = refl

roots_apart : (a : Label) (f : Trees Mark) (x : Mark) → ApartFrom at a f → Within x (tops f) → Apart a x.label
roots_apart a none x r w = absurd w
roots_apart a (node m inner rest) x r w = elim w [ inl e ↦ subst (λ (q : Mark). Apart a q.label) (sym e) r.0 | inr k ↦ roots_apart a rest x r.1 k ]

placed_rest : (all ts : List Mark) (y : Label) (m : Mark) (inner rest : Trees Mark) → Placed all ts y (node m inner rest) → Placed all ts y rest
placed_rest all ts y m inner rest k = record {
  whole_above = k.whole_above;
  formed = k.formed.3;
  into = λ p w. k.into p (inr (within_second p (preorder inner) (preorder rest) w));
  local = λ x p t w f.
      let a = apart_below m.label x.label p.label (roots_apart m.label rest x k.formed.2 t) f in
      elim (k.local x p (inr t) w f) [
        | inl e ↦ absurd (a.1 (subst (λ (q : Mark). Front m.label q.label) (sym e) (front_refl m.label)))
        | inr h ↦ elim (within_joined p (preorder inner) (preorder rest) h) [
          | inl g ↦ absurd (a.1 (node_under at m.label inner p k.formed.1 g).0)
          | inr g ↦ g
        ]
      ];
  siblings = k.siblings;
  listed = k.listed;
  clean = k.clean;
  wholes = k.wholes;
}

-- nothing at or below a beaten mark survives
none_survives : (all : List Mark) (m p : Mark) → Within m all → is_beaten all m ≡ true → Front m.label p.label → survives all p ≡ false
none_survives all m p w b f = ap not (any_at (λ q. is_front q.label p.label && is_beaten all q) m all w (and_from (is_front m.label p.label) (is_beaten all m) (is_front_of m.label p.label f) b))

first_survives : (all ts : List Mark) (y : Label) (m : Mark) (inner rest : Trees Mark) → Placed all ts y (node m inner rest) → is_beaten all m ≡ false → survives all m ≡ true
first_survives all ts y m inner rest k b = ap not (any_none (λ q. is_front q.label m.label && is_beaten all q) all (λ p w z.
    let d = and_parts (is_front p.label m.label) (is_beaten all p) z in
    let h : is_beaten all m ≡ true = subst (λ (q : Mark). is_beaten all q ≡ true) (above_first all ts y m inner rest p k w (front_yes p.label m.label d.0) d.1) d.1 in absurd cc))

survivors : (all ts : List Mark) (y : Label) (f : Trees Mark) → Placed all ts y f → filter (survives all) (preorder f) ≡ preorder (thinned ts f)
survivors all ts y none k = refl
survivors all ts y (node m inner rest) k =
    by (outdone m ts) (beaten_is all ts y (node m inner rest) m k (parent_of_child y m.label k.whole_above k.formed.0)) (λ b. survivors all (tops inner) m.label inner (placed_inner all ts y m inner rest k b)) (survivors all ts y rest (placed_rest all ts y m inner rest k))
  where
    by : (t : Bool) → is_beaten all m ≡ t → (is_beaten all m ≡ false → filter (survives all) (preorder inner) ≡ preorder (thinned (tops inner) inner)) → filter (survives all) (preorder rest) ≡ preorder (thinned ts rest)
        → filter (survives all) (m ∷ (preorder inner ++ preorder rest)) ≡ preorder (cond t (thinned ts rest) (node m (thinned (tops inner) inner) (thinned ts rest)))
    by true b i r =
        rw (none_survives all m m (k.into m (inl refl)) b (front_refl m.label))
        (filter-append (survives all) (preorder inner) (preorder rest)
        ∙ (ap (λ (l : List Mark). l ++ filter (survives all) (preorder rest)) (filter_none (survives all) (preorder inner) (λ p w. none_survives all m p (k.into m (inl refl)) b (node_under at m.label inner p k.formed.1 w).0))
        ∙ r))
    by false b i r =
        rw (first_survives all ts y m inner rest k b)
        (ap (λ (l : List Mark). m ∷ l) (filter-append (survives all) (preorder inner) (preorder rest)
        ∙ (ap (λ (l : List Mark). l ++ filter (survives all) (preorder rest)) (i b) ∙ ap (λ (l : List Mark). preorder (thinned (tops inner) inner) ++ l) r)))

all_placed : (y : Label) (f : Trees Mark) → whole y ≡ y → Formed at y f → Placed (preorder f) (tops f) y f
all_placed y f v u = record {
  whole_above = v;
  formed = u;
  into = λ p w. w;
  local = λ x p t w g. w;
  siblings = λ p w e. is_top y f p v u w e;
  listed = λ p w. (top_in p f w, top_parent y f p v u w);
  clean = λ p w g. let n = node_under at y f p u w in absurd (n.1 (front_antisym p.label y g n.0));
  wholes = λ p w. node_whole at y f p u w;
}

-- what is kept of the marks of siblings are the thinned siblings
pub kept_preorder : (y : Label) (f : Trees Mark) → whole y ≡ y → Formed at y f → kept (preorder f) ≡ preorder (thinned (tops f) f)
kept_preorder y f v u = survivors (preorder f) (tops f) y f (all_placed y f v u)
