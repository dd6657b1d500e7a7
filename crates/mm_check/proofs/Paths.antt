-- The elements above a label are enough to judge it, and the last of them tells.
use Rattle.std.proofs.Common.{inl, inr, ◌≡◌, ℕ, ℤ, zero, suc, ◌+◌, ◌-◌, ◌<◌, ◌≤◌, Bool, true, false, cond, ◌&&◌, ◌||◌, List, [], ◌∷◌, ◌++◌, length, drop, filter, refl, ap, sym, subst, ◌∙◌, append-nil, Option, Some, None, arith}
use Rattle.std.specs.Prelude.{◌==◌, MatchOption, slice_get}
use Rattle.std.specs.List.{list_any, starts_with}
use Rattle.std.specs.Ordering.{int_eq}
use Rattle.std.proofs.lemmas.Bool.{and_from, and_parts}
use Rattle.std.proofs.lemmas.Bool.Decides.{Decides-int_eq, nat_tests}
use Rattle.std.proofs.lemmas.List.Elements.{filter-append}
use Rattle.std.proofs.lemmas.List.Folds.{list_any-append}
use Rattle.mm_label.specs.Fronts.{Front, Label, Le, is_front}
use Rattle.mm_label.specs.Label.{IsLabel, is_child, is_empty, is_odd, is_segment, last_odd, level}
use Rattle.mm_label.specs.Facts.Fronts.{between_front, front_le, front_no, front_refl, front_trans, front_yes, fronts_of_one, is_front_of, le_antisym}
use Rattle.mm_label.specs.Facts.Levels.{level-cons, level_joined, segment_level}
use Rattle.mm_label.specs.Facts.Order.{splits}
use Rattle.mm_label.specs.Facts.Tests.{child_of}
use Rattle.mm_tree.specs.Numbering.{Labelled}
use Rattle.mm_tree.specs.Validity.{is_element}
use Rattle.mm_check.specs.Reading.{hangs}
use Rattle.mm_check.specs.Inside.Path.{AreAbove, AreBefore, AreLabels, AreNested, ComeBefore, Descend, IsAbove, ends_above, path_to}

abbrev pub in_front : Label → Label → Bool
in_front x y = is_front y x

-- ---- leaving

pub ends_last : (x : Label) (ys : List Label) (y : Label) → ends_above x (ys ++ y ∷ []) ≡ is_front y x
ends_last x [] y = refl
ends_last x (z ∷ []) y = refl
ends_last x (z ∷ w ∷ ws) y = ends_last x (w ∷ ws) y

all_above : (x : Label) (ys : List Label) → AreNested ys → ends_above x ys ≡ true → AreAbove ys x
all_above x [] n e = tt
all_above x (y ∷ []) n e = (front_yes y x e, tt)
all_above x (y ∷ z ∷ zs) n e = let i = all_above x (z ∷ zs) n.1 e in (front_trans y z x n.0.0 i.0, i)

pub keep_all : (x : Label) (ys : List Label) → AreAbove ys x → filter (in_front x) ys ≡ ys
keep_all x [] a = refl
keep_all x (y ∷ ys) a = ap (λ (t : Bool). cond t (y ∷ filter (in_front x) ys) (filter (in_front x) ys)) (is_front_of y x a.0) ∙ ap (λ (l : List Label). y ∷ l) (keep_all x ys a.1)

pub left_all : (x : Label) (ys : List Label) → AreNested ys → ends_above x ys ≡ true → filter (in_front x) ys ≡ ys
left_all x ys n e = keep_all x ys (all_above x ys n e)

-- the last one goes
pub left_one : (x : Label) (ys : List Label) (y : Label) → is_front y x ≡ false → filter (in_front x) (ys ++ y ∷ []) ≡ filter (in_front x) ys
left_one x ys y e = filter-append (in_front x) ys (y ∷ []) ∙ ap (λ (t : Bool). filter (in_front x) ys ++ cond t (y ∷ []) []) e ∙ append-nil (filter (in_front x) ys)

above_front : (y : Label) (ys zs : List Label) → IsAbove y (ys ++ zs) → IsAbove y ys
above_front y [] zs a = tt
above_front y (w ∷ ws) zs a = (a.0, above_front y ws zs a.1)

pub nested_front : (ys zs : List Label) → AreNested (ys ++ zs) → AreNested ys
nested_front [] zs n = tt
nested_front (y ∷ ys) zs n = (above_front y ys zs n.0, nested_front ys zs n.1)

pub popped : (x : Label) (all old new : List Label) (r : Option Label) → MatchOption r ((old ≡ []) × (new ≡ [])) (λ last. old ≡ new ++ last ∷ []) → false ≡ ends_above x old → AreNested old × (filter (in_front x) old ≡ filter (in_front x) all)
    → AreNested new × (filter (in_front x) new ≡ filter (in_front x) all)
popped x all old new None m e n = let z : true ≡ false = sym (ap (ends_above x) m.0) ∙ sym e in absurd cc
popped x all old new (Some last) m e n =
    let f : is_front last x ≡ false = sym (ends_last x new last) ∙ sym (ap (ends_above x) m) ∙ sym e in
    (nested_front new (last ∷ []) (subst AreNested m n.0), sym (ap (filter (in_front x)) m ∙ left_one x new last f) ∙ n.1)

-- ---- those that are left

pub filter_above : (x : Label) (ys : List Label) → AreAbove (filter (in_front x) ys) x
filter_above x [] = tt
filter_above x (y ∷ ys) = by (is_front y x) refl (filter_above x ys)
  where
    by : (t : Bool) → is_front y x ≡ t → AreAbove (filter (in_front x) ys) x → AreAbove (cond t (y ∷ filter (in_front x) ys) (filter (in_front x) ys)) x
    by true e i = (front_yes y x e, i)
    by false e i = i

filter_below : (x z : Label) (ys : List Label) → IsAbove z ys → IsAbove z (filter (in_front x) ys)
filter_below x z [] a = tt
filter_below x z (y ∷ ys) a = by (is_front y x) (filter_below x z ys a.1)
  where
    by : (t : Bool) → IsAbove z (filter (in_front x) ys) → IsAbove z (cond t (y ∷ filter (in_front x) ys) (filter (in_front x) ys))
    by true i = (a.0, i)
    by false i = i

pub filter_nested : (x : Label) (ys : List Label) → AreNested ys → AreNested (filter (in_front x) ys)
filter_nested x [] n = tt
filter_nested x (y ∷ ys) n = by (is_front y x) (filter_nested x ys n.1)
  where
    by : (t : Bool) → AreNested (filter (in_front x) ys) → AreNested (cond t (y ∷ filter (in_front x) ys) (filter (in_front x) ys))
    by true i = (filter_below x y ys n.0, i)
    by false i = i

pub filter_labels : (x : Label) (ys : List Label) → AreLabels ys → AreLabels (filter (in_front x) ys)
filter_labels x [] l = tt
filter_labels x (y ∷ ys) l = by (is_front y x) (filter_labels x ys l.1)
  where
    by : (t : Bool) → AreLabels (filter (in_front x) ys) → AreLabels (cond t (y ∷ filter (in_front x) ys) (filter (in_front x) ys))
    by true i = (l.0, i)
    by false i = i

pub filter_before : (x z : Label) (ys : List Label) → AreBefore ys z → AreBefore (filter (in_front x) ys) z
filter_before x z [] b = tt
filter_before x z (y ∷ ys) b = by (is_front y x) (filter_before x z ys b.1)
  where
    by : (t : Bool) → AreBefore (filter (in_front x) ys) z → AreBefore (cond t (y ∷ filter (in_front x) ys) (filter (in_front x) ys)) z
    by true i = (b.0, i)
    by false i = i

-- ---- levels

some_level : (b : Bool) (c : ℤ) (s : Label) → last_odd b (c ∷ s) ≡ true → 1 ≤ level (c ∷ s)
some_level b c [] e = let t = level-cons c [] in let u : ◌≡◌ {A = ℕ} (cond (is_odd c) 1 0) 1 = ap (λ (t : Bool). cond t 1 0) e in omega (arith, t, u)
some_level b c (d ∷ s) e = let t = level-cons c (d ∷ s) in let u = some_level (is_odd c) d s e in omega (arith, t, u)

-- of one level is one segment
one_segment : (b : Bool) (s : Label) → last_odd b s ≡ true → level s ≡ 1 → is_segment s ≡ true
one_segment b [] e l = absurd cc
one_segment b (c ∷ s) e l = by (is_odd c) refl s e l (one_segment (is_odd c) s)
  where
    by : (t : Bool) → is_odd c ≡ t → (s : Label) → last_odd (is_odd c) s ≡ true → level (c ∷ s) ≡ 1 → (last_odd (is_odd c) s ≡ true → level s ≡ 1 → is_segment s ≡ true) → cond t (is_empty s) (is_segment s) ≡ true
    by true q [] e l i = refl
    by true q (d ∷ s) e l i =
        let t = level-cons c (d ∷ s) in let u : ◌≡◌ {A = ℕ} (cond (is_odd c) 1 0) 1 = ap (λ (t : Bool). cond t 1 0) q in let v = some_level (is_odd c) d s e in absurd (omega (arith, t, u, v, l))
    by false q s e l i = let t = level-cons c s in let u : ◌≡◌ {A = ℕ} (cond (is_odd c) 1 0) 0 = ap (λ (t : Bool). cond t 1 0) q in i e (omega (arith, t, u, l))

last_joined : (b : Bool) (y : Label) (c : ℤ) (s : Label) → last_odd b (y ++ c ∷ s) ≡ last_odd (is_odd c) s
last_joined b [] c s = refl
last_joined b (d ∷ y) c s = last_joined (is_odd d) y c s

-- what lies below y: its levels are those of y and of the rest
record Rest (y x : Label) : Type 0 where
  rest : Label
  is : x ≡ y ++ rest
  levels : level x ≡ level y + level rest

rest_of : (y x : Label) → Front y x → Rest y x
rest_of y x f = let r = (splits y x).0 f in record { rest = r.0; is = r.1; levels = ap level r.1 ∙ level_joined y r.0 }

pub level_up : (y x : Label) → Front y x → level y ≤ level x
level_up y x f = let r = rest_of y x f in let l = r.levels in omega (arith, l)

pub level_more : (y x : Label) → Front y x → (y ≡ x → ⊥) → IsLabel x → level y < level x
level_more y x f n g = let r = rest_of y x f in by r.rest r.is r.levels
  where
    by : (s : Label) → x ≡ y ++ s → level x ≡ level y + level s → level y < level x
    by [] e l = absurd (n (sym (append-nil y) ∙ sym e))
    by (c ∷ s) e l = let u = some_level false c s (sym (last_joined false y c s) ∙ sym (ap (last_odd false) e) ∙ g.ends_odd) in omega (arith, l, u)

child_front : (y x : Label) → is_child y x ≡ true → Front y x
child_front y x e = (child_of y x e).below

drop_front : (y s : Label) → drop (length y) (y ++ s) ≡ s
drop_front [] s = refl
drop_front (c ∷ y) s = drop_front y s

pub child_level : (y x : Label) → is_child y x ≡ true → level y + 1 ≡ level x
child_level y x e =
    let p = and_parts (starts_with int_eq x y) (is_segment (drop (length y) x)) e in
    let r = rest_of y x (child_front y x e) in
    let s : is_segment r.rest ≡ true = sym (ap is_segment (ap (drop (length y)) r.is ∙ drop_front y r.rest)) ∙ p.1 in
    let u = segment_level r.rest s in
    let l = r.levels in omega (arith, l, u)

starts_of : (y s : Label) → starts_with int_eq (y ++ s) y ≡ true
starts_of [] s = refl
starts_of (c ∷ y) s = and_from (int_eq c c) _ ((Decides-int_eq c c).1 refl) (starts_of y s)

pub level_child : (y x : Label) → Front y x → IsLabel x → level y + 1 ≡ level x → is_child y x ≡ true
level_child y x f g e = let r = rest_of y x f in by r.rest r.is r.levels
  where
    by : (s : Label) → x ≡ y ++ s → level x ≡ level y + level s → is_child y x ≡ true
    by [] q l = let z : level [] ≡ 0 = refl in absurd (omega (arith, l, e, z))
    by (c ∷ s) q l =
        let o : last_odd (is_odd c) s ≡ true = sym (last_joined false y c s) ∙ sym (ap (last_odd false) q) ∙ g.ends_odd in
        let one : level (c ∷ s) ≡ 1 = omega (arith, l, e) in
        and_from (starts_with int_eq x y) _ (ap (λ (z : Label). starts_with int_eq z y) q ∙ starts_of y (c ∷ s)) (ap is_segment (ap (drop (length y)) q ∙ drop_front y (c ∷ s)) ∙ one_segment false (c ∷ s) o one)

-- ---- the last one tells

abbrev pub last_takes : Label → List Label → Bool
last_takes x [] = false
last_takes x (y ∷ []) = level y + 1 == level x
last_takes x (y ∷ z ∷ zs) = last_takes x (z ∷ zs)

same_truth : (a b : Bool) → (a ≡ true → b ≡ true) → (b ≡ true → a ≡ true) → a ≡ b
same_truth true true f g = refl
same_truth true false f g = sym (f refl)
same_truth false true f g = g refl
same_truth false false f g = refl

yes_same : (a b : ℕ) → a ≡ b → (a == b) ≡ true
yes_same a b e = grind (arith, nat_tests)

same_yes : (a b : ℕ) → (a == b) ≡ true → a ≡ b
same_yes a b e = grind (arith, nat_tests)

or_known : (a b : Bool) → (a ≡ true → b ≡ true) → (a || b) ≡ b
or_known true b f = sym (f refl)
or_known false b f = refl

or_none : (a : Bool) → (a || false) ≡ a
or_none true = refl
or_none false = refl

pub any_last : (x : Label) (ys : List Label) → IsLabel x → AreAbove ys x → AreBefore ys x → AreNested ys → list_any (λ y. is_child y x) ys ≡ last_takes x ys
any_last x [] g a b n = refl
any_last x (y ∷ []) g a b n =
    or_none (is_child y x) ∙ same_truth (is_child y x) (level y + 1 == level x) (λ e. yes_same (level y + 1) (level x) (child_level y x e)) (λ e. level_child y x a.0 g (same_yes (level y + 1) (level x) e))
any_last x (y ∷ z ∷ zs) g a b n = or_known (is_child y x) (list_any (λ y. is_child y x) (z ∷ zs)) above ∙ any_last x (z ∷ zs) g a.1 b.1 n.1
  where
    first : (a b : Bool) → a ≡ true → (a || b) ≡ true
    first true b e = refl
    first false b e = absurd cc

    above : is_child y x ≡ true → list_any (λ y. is_child y x) (z ∷ zs) ≡ true
    above e =
        let p = child_level y x e in
        let q = level_more z x a.1.0 b.1.0.1 g in
        let r = level_up y z n.0.0 in
        first (is_child z x) (list_any (λ y. is_child y x) zs) (level_child z x a.1.0 g (omega (arith, p, q, r)))

-- on the first level
pub top_child : (x : Label) → IsLabel x → is_child [] x ≡ (level x == 1)
top_child x g = same_truth (is_child [] x) (level x == 1) (λ e. let t = child_level [] x e in yes_same (level x) 1 (omega (arith, t))) (λ e. let t = same_yes (level x) 1 e in level_child [] x tt g (omega (arith, t)))

-- ---- the last one, as it is looked up

last_split : (t : List Label → Bool) (f : Label → Bool) → ((y : Label) → t (y ∷ []) ≡ f y) → ((y z : Label) (zs : List Label) → t (y ∷ z ∷ zs) ≡ t (z ∷ zs)) → (ys : List Label) (n : ℕ) (y : Label) → suc n ≡ length ys → Some y ≡ slice_get ys n → t ys ≡ f y
last_split t f one more [] n y q e = absurd (omega arith)
last_split t f one more (z ∷ []) zero y q e = let p : y ≡ z = cc in one z ∙ sym (ap f p)
last_split t f one more (z ∷ []) (suc n) y q e = absurd (omega arith)
last_split t f one more (z ∷ w ∷ ws) zero y q e = absurd (omega arith)
last_split t f one more (z ∷ w ∷ ws) (suc n) y q e = more z w ws ∙ last_split t f one more (w ∷ ws) n y (omega arith) e

found_some : (ys : List Label) (y : Label) → Some y ≡ slice_get ys (length ys - 1) → suc (length ys - 1) ≡ length ys
found_some [] y e = absurd cc
found_some (z ∷ zs) y e = omega arith

found_none : (ys : List Label) → None ≡ slice_get ys (length ys - 1) → ys ≡ []
found_none [] e = refl
found_none (z ∷ zs) e = absurd (some_at (z ∷ zs) (length (z ∷ zs) - 1) (omega arith) e)
  where
    some_at : (ys : List Label) (n : ℕ) → n < length ys → None ≡ slice_get ys n → ⊥
    some_at [] n l e = omega arith
    some_at (y ∷ ys) zero l e = cc
    some_at (y ∷ ys) (suc n) l e = some_at ys n (omega arith) e

pub ends_found : (x : Label) (ys : List Label) (y : Label) → Some y ≡ slice_get ys (length ys - 1) → ends_above x ys ≡ is_front y x
ends_found x ys y e = last_split (ends_above x) (λ z. is_front z x) (λ z. refl) (λ y z zs. refl) ys (length ys - 1) y (found_some ys y e) e

pub takes_found : (x : Label) (ys : List Label) (y : Label) → Some y ≡ slice_get ys (length ys - 1) → last_takes x ys ≡ (level y + 1 == level x)
takes_found x ys y e = last_split (last_takes x) (λ z. level z + 1 == level x) (λ z. refl) (λ y z zs. refl) ys (length ys - 1) y (found_some ys y e) e

pub takes_none : (x : Label) (ys : List Label) → None ≡ slice_get ys (length ys - 1) → last_takes x ys ≡ false
takes_none x ys e = ap (last_takes x) (found_none ys e)

pub some_levels : (x : Label) → IsLabel x → 1 ≤ level x
some_levels x g = let t = level_more [] x tt (named x g) g in omega (arith, t)
  where
    named : (x : Label) → IsLabel x → [] ≡ x → ⊥
    named [] g e = let t = g.ends_odd in cc
    named (c ∷ x) g e = cc

pub hangs_top : (x : Label) (ys : List Label) (l : ℕ) → IsLabel x → l ≡ level x → l ≡ 1 → true ≡ (is_child [] x || list_any (λ y. is_child y x) ys)
hangs_top x ys l g q e = sym (ap (λ (t : Bool). t || list_any (λ y. is_child y x) ys) (top_child x g ∙ yes_same (level x) 1 (sym q ∙ e)))

no_top : (x : Label) (l : ℕ) → IsLabel x → l ≡ level x → (l ≡ 1 → ⊥) → is_child [] x ≡ false
no_top x l g q n = by (is_child [] x) refl
  where
    by : (t : Bool) → is_child [] x ≡ t → t ≡ false
    by true e = let t = child_level [] x e in absurd (n (omega (arith, t, q)))
    by false e = refl

hangs_low : (x : Label) (ys : List Label) (l : ℕ) → IsLabel x → l ≡ level x → (l ≡ 1 → ⊥) → AreAbove ys x → AreBefore ys x → AreNested ys → last_takes x ys ≡ (is_child [] x || list_any (λ y. is_child y x) ys)
hangs_low x ys l g q n a b m = sym (ap (λ (t : Bool). t || list_any (λ y. is_child y x) ys) (no_top x l g q n) ∙ any_last x ys g a b m)

pub hangs_last : (x : Label) (ys : List Label) (l k : ℕ) (y : Label) → IsLabel x → l ≡ level x → (l ≡ 1 → ⊥) → k ≡ level y → Some y ≡ slice_get ys (length ys - 1) → AreAbove ys x → AreBefore ys x → AreNested ys
    → (k == l - 1) ≡ (is_child [] x || list_any (λ y. is_child y x) ys)
hangs_last x ys l k y g q n r f a b m =
    same_truth (k == l - 1) (level y + 1 == level x) (λ e. let t = same_yes k (l - 1) e in let s = some_levels x g in yes_same (level y + 1) (level x) (omega (arith, t, q, r, s)))
    (λ e. let t = same_yes (level y + 1) (level x) e in yes_same k (l - 1) (omega (arith, t, q, r)))
    ∙ sym (takes_found x ys y f)
    ∙ hangs_low x ys l g q n a b m

pub hangs_none : (x : Label) (ys : List Label) (l : ℕ) → IsLabel x → l ≡ level x → (l ≡ 1 → ⊥) → None ≡ slice_get ys (length ys - 1) → AreAbove ys x → AreBefore ys x → AreNested ys → false ≡ (is_child [] x || list_any (λ y. is_child y x) ys)
hangs_none x ys l g q n f a b m = sym (takes_none x ys f) ∙ hangs_low x ys l g q n a b m

-- ---- paths of nodes

pub path_hangs : (nodes : List Labelled) (x : Label) → hangs nodes x ≡ (is_child [] x || list_any (λ y. is_child y x) (path_to x nodes))
path_hangs nodes x = ap (λ (t : Bool). is_child [] x || t) (any nodes)
  where
    swap : (a b : Bool) → (a || b) ≡ (b || a)
    swap true true = refl
    swap true false = refl
    swap false true = refl
    swap false false = refl

    one : (e : Labelled) → (is_element e.kind && is_child e.label x) ≡ list_any (λ y. is_child y x) (cond (is_element e.kind && is_front e.label x) (e.label ∷ []) [])
    one e = by (is_element e.kind) (is_front e.label x) refl
      where
        never : (t : Bool) → is_child e.label x ≡ t → is_front e.label x ≡ false → t ≡ false
        never true c q = absurd (front_no e.label x q (child_front e.label x c))
        never false c q = refl

        by : (a b : Bool) → is_front e.label x ≡ b → (a && is_child e.label x) ≡ list_any (λ y. is_child y x) (cond (a && b) (e.label ∷ []) [])
        by true true q = sym (or_none (is_child e.label x))
        by true false q = never (is_child e.label x) refl q
        by false b q = refl

    any : (nodes : List Labelled) → list_any (λ e. is_element e.kind && is_child e.label x) nodes ≡ list_any (λ y. is_child y x) (path_to x nodes)
    any [] = refl
    any (e ∷ nodes) =
        swap (is_element e.kind && is_child e.label x) (list_any (λ e. is_element e.kind && is_child e.label x) nodes)
        ∙ ap (λ (t : Bool). t || (is_element e.kind && is_child e.label x)) (any nodes)
        ∙ ap (λ (t : Bool). list_any (λ y. is_child y x) (path_to x nodes) || t) (one e)
        ∙ sym (list_any-append (λ y. is_child y x) (path_to x nodes) (cond (is_element e.kind && is_front e.label x) (e.label ∷ []) []))

le_front : (d e v : Label) → Le d e → Front d v → Front e v → Front d e
le_front d e v l f g = elim (fronts_of_one d e v f g) [
  | inl h ↦ h
  | inr h ↦ subst (Front d) (le_antisym d e l (front_le e d h)) (front_refl d)
]

above_snoc : (z : Label) (ys : List Label) (y : Label) → IsAbove z ys → Front z y → IsAbove z (ys ++ y ∷ [])
above_snoc z [] y a f = (f, tt)
above_snoc z (w ∷ ws) y a f = (a.0, above_snoc z ws y a.1 f)

nested_snoc : (ys : List Label) (y : Label) → AreNested ys → AreAbove ys y → AreNested (ys ++ y ∷ [])
nested_snoc [] y n a = (tt, tt)
nested_snoc (z ∷ zs) y n a = (above_snoc z zs y n.0 a.0, nested_snoc zs y n.1 a.1)

above_joined : (ys zs : List Label) (x : Label) → AreAbove ys x → AreAbove zs x → AreAbove (ys ++ zs) x
above_joined [] zs x a b = b
above_joined (y ∷ ys) zs x a b = (a.0, above_joined ys zs x a.1 b)

paths_above : (x e : Label) (nodes : List Labelled) → Front e x → ComeBefore nodes e → AreAbove (path_to x nodes) e
paths_above x e [] f b = tt
paths_above x e (d ∷ nodes) f b = above_joined (path_to x nodes) _ e (paths_above x e nodes f b.1) (by (is_element d.kind) (is_front d.label x) refl)
  where
    by : (a b : Bool) → is_front d.label x ≡ b → AreAbove (cond (a && b) (d.label ∷ []) []) e
    by true true q = (le_front d.label e x b.0.0 (front_yes d.label x q) f, tt)
    by true false q = tt
    by false b q = tt

pub path_nested : (x : Label) (nodes : List Labelled) → Descend nodes → AreNested (path_to x nodes)
path_nested x [] d = tt
path_nested x (e ∷ nodes) d = by (is_element e.kind) (is_front e.label x) refl (path_nested x nodes d.1)
  where
    by : (a b : Bool) → is_front e.label x ≡ b → AreNested (path_to x nodes) → AreNested (path_to x nodes ++ cond (a && b) (e.label ∷ []) [])
    by true true q i = nested_snoc (path_to x nodes) e.label i (paths_above x e.label nodes (front_yes e.label x q) d.0)
    by true false q i = subst AreNested (sym (append-nil (path_to x nodes))) i
    by false b q i = subst AreNested (sym (append-nil (path_to x nodes))) i

-- the nodes are at or before this label
abbrev pub UpTo : List Labelled → Label → Type 0
UpTo [] x = Unit {0}
UpTo (e ∷ nodes) x = Le e.label x × UpTo nodes x

pub up_to : (nodes : List Labelled) (x : Label) → ComeBefore nodes x → UpTo nodes x
up_to [] x b = tt
up_to (e ∷ nodes) x b = (b.0.0, up_to nodes x b.1)

-- what is left of the path to one label is the path to a later one
pub path_left : (last x : Label) (nodes : List Labelled) → UpTo nodes last → Le last x → filter (in_front x) (path_to last nodes) ≡ path_to x nodes
path_left last x [] b l = refl
path_left last x (e ∷ nodes) b l =
    filter-append (in_front x) (path_to last nodes) _
    ∙ ap (λ (z : List Label). z ++ filter (in_front x) (cond (is_element e.kind && is_front e.label last) (e.label ∷ []) [])) (path_left last x nodes b.1 l)
    ∙ ap (λ (z : List Label). path_to x nodes ++ z) (one (is_element e.kind) (is_front e.label last) refl (is_front e.label x) refl)
  where
    one : (k a : Bool) → is_front e.label last ≡ a → (c : Bool) → is_front e.label x ≡ c → filter (in_front x) (cond (k && a) (e.label ∷ []) []) ≡ cond (k && c) (e.label ∷ []) []
    one true true p c q = ap (λ (t : Bool). cond t (e.label ∷ []) []) q
    one true false p true q = absurd (front_no e.label last p (between_front e.label last x b.0 l (front_yes e.label x q)))
    one true false p false q = refl
    one false a p c q = refl
