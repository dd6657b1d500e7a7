-- The gap beside or below a node, from the entry that one look-up finds.
use Rattle.std.proofs.Common.{inl, inr, ◌≡◌, ◌⊎◌, ℕ, zero, suc, ◌≤◌, Bool, true, false, cond, IsTrue, List, [], ◌∷◌, ◌++◌, length, drop, refl, ap, sym, subst, ◌∙◌, Option, Some, None, append-nil, arith, Ordering, Less}
use Rattle.std.specs.Prelude.{ℤ, nat_lt, slice_get, IfSome, option_map}
use Rattle.std.specs.Ordering.{int_cmp, is_lt, ordering_then}
use Rattle.std.specs.Cmp.{int_cmp_total}
use Rattle.std.specs.Cmp.Lexicographic.{slice_cmp}
use Rattle.std.proofs.lemmas.Cmp.{tied_itself}
use Rattle.mm_host.specs.declared.damage.Fault.{Fault}
use Rattle.mm_label.specs.Between.{IsOrdered}
use Rattle.mm_label.specs.Bytes.{bytes_of}
use Rattle.mm_label.specs.Fronts.{Apart, Front, IsChild, Label, Le, Lt}
use Rattle.mm_label.specs.Label.{IsBefore, IsLabel, is_child, last_odd, whole}
use Rattle.mm_label.specs.Facts.Fronts.{between_front, front_cases, front_le, le_antisym, le_trans}
use Rattle.mm_label.specs.Facts.Lists.{apart_lt}
use Rattle.mm_label.specs.Facts.Order.{lt_before, lt_is}
use Rattle.mm_label.specs.Facts.Parents.{parent_of_child}
use Rattle.mm_label.specs.Facts.Tests.{of_child}
use Rattle.mm_keeper.specs.Entries.{Entries, Entry, IsSorted, Rises, first_from, last_to, rank, within}
use Rattle.mm_tree.specs.declared.forest.place.Place.TheVariants.{Before, After, First, Last}
use Rattle.mm_tree.specs.Edits.{Gap, gap, has_node, last_label}
use Rattle.mm_tree.specs.Gaps.{IsOpen}
use Rattle.mm_tree.specs.Facts.Formed.{formed}
use Rattle.mm_tree.specs.Facts.Labels.{node_is_labelled}
use Rattle.mm_tree.specs.Forests.{is_before, is_well_formed, segment_below}
use Rattle.mm_tree.specs.Numbering.{Labelled}
use Rattle.mm_tree.specs.Trees.{Trees}
use Rattle.mm_image.specs.Image.{image}
use Rattle.mm_image.specs.Keys.{StandsFor}
use Rattle.mm_image.specs.Looking.{entry_at}
use Rattle.mm_image.specs.Facts.Finding.{IsDown, IsUp, down_found, up_found}
use Rattle.mm_image.specs.Facts.LabelOrder.{Ancestry, ByteOrder}
use Rattle.mm_edit.specs.Inside.Placing.{BlamesHeld, BlamesKey, FindsChild, IsLeft, IsRight, IsUnder, kept_after, kept_before}
use Rattle.mm_edit.proofs.Nearest.{gap_around, labels_of, last_around, left_found, node_found, right_found}
use Rattle.mm_edit.proofs.Numbers.{blames_more}
use Rattle.mm_edit.proofs.Seeks.{before_of, before_to, behind_of, behind_to, first_told, last_told, past_of, past_to, top_to, within_of, within_to}

-- ---- the entry that a look-up finds

get_past : {X : Type 0} (m : List X) (i : ℕ) → length m ≤ i → slice_get m i ≡ None
get_past [] i h = refl
get_past (d ∷ m) zero h = absurd (omega (arith, h))
get_past (d ∷ m) (suc i) h = get_past m i (omega (arith, h))

entry_within : (m : Entries) (i : ℕ) → entry_at m (within m i) ≡ slice_get m i
entry_within m i = by (nat_lt i (length m)) refl
  where
    by : (b : Bool) → nat_lt i (length m) ≡ b → entry_at m (cond b (Some i) None) ≡ slice_get m i
    by true e = refl
    by false e = sym (get_past m i (grind arith))

pub up_is : (m : Entries) (k : List ℕ) → Rises m → IsUp m k (entry_at m (first_from m k))
up_is m k r = subst (IsUp m k) (sym (entry_within m (rank m k))) (up_found m k r)

-- damage that a found key tells is that of a held one
pub down_blames : (m : Entries) (k : List ℕ) (f : Fault) → Rises m → BlamesKey (entry_at m (last_to m k)) f → BlamesHeld m f
down_blames m k f r b = by (entry_at m (last_to m k)) (down_found m k r) b
  where
    by : (o : Option Entry) → IsDown m k o → BlamesKey o f → BlamesHeld m f
    by None h b = blames_more (λ _. ⊥) _ f (λ key x. absurd x) b
    by (Some e) h b = blames_more _ _ f (λ key x. (e, h.0, x.0, subst (λ (z : List ℕ). StandsFor z None) (sym x.0) x.1)) b

pub up_blames : (m : Entries) (k : List ℕ) (f : Fault) → Rises m → BlamesKey (entry_at m (first_from m k)) f → BlamesHeld m f
up_blames m k f r b = by (entry_at m (first_from m k)) (up_is m k r) b
  where
    by : (o : Option Entry) → IsUp m k o → BlamesKey o f → BlamesHeld m f
    by None h b = blames_more (λ _. ⊥) _ f (λ key x. absurd x) b
    by (Some e) h b = blames_more _ _ f (λ key x. (e, h.0, x.0, subst (λ (z : List ℕ). StandsFor z None) (sym x.0) x.1)) b

-- ---- between a neighbour and what was found

before_stays : (p x k z : Label) → IsChild p x → IsUnder p k → Le k z → Lt z x → IsUnder p z
before_stays p x k z c u l q = (between_front p z x (le_trans p k z (front_le p k u.0) l) q.0 c.below, λ e. u.1 (le_antisym k p (subst (Le k) e l) (front_le p k u.0)))

after_stays : (p x k z : Label) → IsChild p x → IsUnder p k → Le z k → Apart x z → IsUnder p z
after_stays p x k z c u l a = (between_front p z k (le_trans p x z (front_le p x c.below) a.0) l u.0, λ e. c.longer (le_antisym x p (subst (Le x) e a.0) (front_le p x c.below)))

first_stays : (x k z : Label) → IsUnder x k → Le z k → Lt x z → IsUnder x z
first_stays x k z u l q = (between_front x z k q.0 l u.0, λ e. q.1 (sym e))

last_stays : (y k z : Label) → IsUnder y k → Le k z → (Apart y z → ⊥) → IsUnder y z
last_stays y k z u l q = (
  elim (front_cases y z) [ inl f ↦ f | inr n ↦ absurd (q (le_trans y k z (front_le y k u.0) l, n)) ],
  λ e. u.1 (le_antisym k y (subst (Le k) e l) (front_le y k u.0)),
)

kept_left : (ns : List Label) (y x : Label) (l : Option Label) → IsLeft ns y (λ d. Lt d x) l → l ≡ kept_before x l
kept_left ns y x None h = refl
kept_left ns y x (Some k) h = sym (ap (λ (b : Bool). cond b (Some k) None) (ap is_lt (lt_before k x h.2)))

kept_right : (ns : List Label) (y x : Label) (r : Option Label) → IsRight ns y (λ d. Apart x d) r → r ≡ kept_after x r
kept_right ns y x None h = refl
kept_right ns y x (Some k) h = sym (ap (λ (b : Bool). cond b (Some k) None) (ap is_lt (lt_before x k (apart_lt x k h.2))))

-- ---- the gaps

module _ (order : ByteOrder) (ancestry : Ancestry) where
  down_in : (f : Trees Labelled) (m : Entries) (key k : List ℕ) → m ≡ image f → IsSorted m → key ≡ k → IsDown (image f) k (entry_at m (last_to m key))
  down_in f m key k e s q = subst (λ (z : Entries). IsDown z k (entry_at m (last_to m key))) e (subst (λ (z : List ℕ). IsDown m z (entry_at m (last_to m key))) q (down_found m key s.rises))

  up_in : (f : Trees Labelled) (m : Entries) (key k : List ℕ) → m ≡ image f → IsSorted m → key ≡ k → IsUp (image f) k (entry_at m (first_from m key))
  up_in f m key k e s q = subst (λ (z : Entries). IsUp z k (entry_at m (first_from m key))) e (subst (λ (z : List ℕ). IsUp m z (entry_at m (first_from m key))) q (up_is m key s.rises))

  pub gap_before : (x p : Label) (f : Trees Labelled) (m : Entries) (key : List ℕ) (o : Option Label) → IsTrue (is_well_formed f) → has_node x f ≡ true → IsLabel x → IsChild p x → whole p ≡ p
      → m ≡ image f → IsSorted m → key ≡ 1 ∷ bytes_of x ++ [] → FindsChild p (entry_at m (last_to m key)) o → gap Before x [] None f ≡ record { parent = p; left = kept_before x o; right = Some x }
  gap_before x p f m key o w h g c v e s q t =
      let ns = labels_of f in
      let a = gap_around Before x f (formed f w) h in
      let here : (gap Before x [] None f).parent ≡ p = sym (parent_of_child (gap Before x [] None f).parent x a.3 a.0) ∙ parent_of_child p x v c in
      let l = subst (λ (y : Label). IsLeft ns y (λ d. Lt d x) (gap Before x [] None f).left) here a.1 in
      let last = last_told order ancestry f (λ d. Lt d x) (bytes_of x) w (λ d n i b. before_to order ancestry x d n g i b) (λ d n i u. before_of order ancestry x d n g i u) (entry_at m (last_to m key)) t.label
      (down_in f m key (1 ∷ bytes_of x) e s (q ∙ ap (λ (z : List ℕ). 1 ∷ z) (append-nil (bytes_of x)))) t.told in
      let is = left_found ns p (λ d. Lt d x) (gap Before x [] None f).left t.label o l last (λ k z u b d. before_stays p x k z c u b d) t.leads in
      let kept = is ∙ kept_left ns p x o (subst (IsLeft ns p (λ d. Lt d x)) is l) in
      λ i. record { parent = here i; left = kept i; right = a.2 i }

  pub gap_after : (x p : Label) (f : Trees Labelled) (m : Entries) (key : List ℕ) (o : Option Label) → IsTrue (is_well_formed f) → has_node x f ≡ true → IsLabel x → IsChild p x → whole p ≡ p
      → m ≡ image f → IsSorted m → key ≡ 1 ∷ bytes_of x ++ 255 ∷ [] → FindsChild p (entry_at m (first_from m key)) o → gap After x [] None f ≡ record { parent = p; left = Some x; right = kept_after x o }
  gap_after x p f m key o w h g c v e s q t =
      let ns = labels_of f in
      let a = gap_around After x f (formed f w) h in
      let here : (gap After x [] None f).parent ≡ p = sym (parent_of_child (gap After x [] None f).parent x a.3 a.0) ∙ parent_of_child p x v c in
      let r = subst (λ (y : Label). IsRight ns y (λ d. Apart x d) (gap After x [] None f).right) here a.2 in
      let first = first_told order ancestry f (λ d. Apart x d) (bytes_of x ++ 255 ∷ []) w (λ d n i b. past_to order ancestry x d n g i b) (λ d n i u. past_of order ancestry x d n g i u) (entry_at m (first_from m key)) t.label
      (up_in f m key (1 ∷ bytes_of x ++ 255 ∷ []) e s q) t.told in
      let is = right_found ns p (λ d. Apart x d) (gap After x [] None f).right t.label o r first (λ k z u b d. after_stays p x k z c u b d) t.leads in
      let kept = is ∙ kept_right ns p x o (subst (IsRight ns p (λ d. Apart x d)) is r) in
      λ i. record { parent = here i; left = a.1 i; right = kept i }

  label_there : (x : Label) (f : Trees Labelled) → IsTrue (is_well_formed f) → has_node x f ≡ true → IsLabel x
  label_there x f w h = let t = node_found x f h in subst IsLabel t.3 (node_is_labelled f w (t.0).0 t.2)

  pub gap_first : (x : Label) (f : Trees Labelled) (m : Entries) (key : List ℕ) (o : Option Label) → IsTrue (is_well_formed f) → has_node x f ≡ true
      → m ≡ image f → IsSorted m → key ≡ 1 ∷ bytes_of x ++ 1 ∷ [] → FindsChild x (entry_at m (first_from m key)) o → gap First x [] None f ≡ record { parent = x; left = None; right = o }
  gap_first x f m key o w h e s q t =
      let ns = labels_of f in
      let g = label_there x f w h in
      let a = gap_around First x f (formed f w) h in
      let first = first_told order ancestry f (λ d. Lt x d) (bytes_of x ++ 1 ∷ []) w (λ d n i b. behind_to order ancestry x d n g i b) (λ d n i u. behind_of order ancestry x d n g i u) (entry_at m (first_from m key)) t.label
      (up_in f m key (1 ∷ bytes_of x ++ 1 ∷ []) e s q) t.told in
      let is = right_found ns x (λ d. Lt x d) (gap First x [] None f).right t.label o a.2 first (λ k z u b d. first_stays x k z u b d) t.leads in
      λ i. record { parent = a.0 i; left = a.1 i; right = is i }

  pub gap_last : (x : Label) (f : Trees Labelled) (m : Entries) (key : List ℕ) (o : Option Label) → IsTrue (is_well_formed f) → has_node x f ≡ true
      → m ≡ image f → IsSorted m → key ≡ 1 ∷ bytes_of x ++ 255 ∷ [] → FindsChild x (entry_at m (last_to m key)) o → gap Last x [] None f ≡ record { parent = x; left = o; right = None }
  gap_last x f m key o w h e s q t =
      let ns = labels_of f in
      let g = label_there x f w h in
      let a = gap_around Last x f (formed f w) h in
      let last = last_told order ancestry f (λ d. Apart x d → ⊥) (bytes_of x ++ 255 ∷ []) w (λ d n i b. within_to order ancestry x d n g i b) (λ d n i u. within_of order ancestry x d n g i u) (entry_at m (last_to m key)) t.label
      (down_in f m key (1 ∷ bytes_of x ++ 255 ∷ []) e s q) t.told in
      let is = left_found ns x (λ d. Apart x d → ⊥) (gap Last x [] None f).left t.label o a.1 last (λ k z u b d. last_stays x k z u b d) t.leads in
      λ i. record { parent = a.0 i; left = is i; right = a.2 i }

  pub gap_top : (y : Label) (f : Trees Labelled) (m : Entries) (key : List ℕ) (o : Option Label) → IsTrue (is_well_formed f) → y ≡ [] → m ≡ image f → IsSorted m → key ≡ 1 ∷ bytes_of y ++ 255 ∷ []
      → FindsChild y (entry_at m (last_to m key)) o → ◌≡◌ {A = Gap} (record { parent = y; left = o; right = None }) (record { parent = []; left = last_label None f; right = None })
  gap_top y f m key o w n e s q t =
      let ns = labels_of f in
      let at = subst (λ (z : Label). FindsChild z (entry_at m (last_to m key)) o) n t in
      let last = last_told order ancestry f (λ d. Apart [] d → ⊥) (255 ∷ []) w (λ d n i b. top_to order ancestry d n) (λ d n i u a. a.1 tt) (entry_at m (last_to m key)) at.label
      (down_in f m key (1 ∷ 255 ∷ []) e s (q ∙ ap (λ (z : Label). 1 ∷ bytes_of z ++ 255 ∷ []) n)) at.told in
      let is = left_found ns [] (λ d. Apart [] d → ⊥) (last_label None f) at.label o (last_around f (formed f w)) last (λ k z u b d. last_stays [] k z u b d) at.leads in
      λ i. record { parent = n i; left = sym is i; right = None }

-- ---- open gaps

segments_before : (p k x : Label) → Front p k → Front p x → IsBefore k x → IsBefore (drop (length p) k) (drop (length p) x)
segments_before [] k x f g b = b
segments_before (c ∷ p) [] x f g b = absurd f
segments_before (c ∷ p) (a ∷ k) [] f g b = absurd g
segments_before (c ∷ p) (a ∷ k) (d ∷ x) f g b =
    segments_before p k x f.1 g.1
    (sym (ap (λ (o : Ordering). ordering_then o (slice_cmp int_cmp k x)) (tied_itself int_cmp_total a)) ∙ subst (λ (z : ℤ). ordering_then (int_cmp a z) (slice_cmp int_cmp k x) ≡ Less) (sym g.0 ∙ f.0) b)

abbrev pub Ends : Label → Type 0
Ends p = (p ≡ []) ⊎ (last_odd false p ≡ true)

children : (p : Label) (o : Option Label) → IfSome o (IsChild p) → IfSome o (λ l. IsTrue (is_child p l))
children p None h = tt
children p (Some k) h = of_child p k h

pub open_before : (p x : Label) (o : Option Label) → Ends p → IsChild p x → IfSome o (IsChild p) → IsOpen (record { parent = p; left = kept_before x o; right = Some x })
open_before p x None n c h = record { parent = n; left = tt; right = of_child p x c; ordered = tt }
open_before p x (Some k) n c h = by (is_before k x) refl
  where
    by : (b : Bool) → is_before k x ≡ b → IsOpen (record { parent = p; left = cond b (Some k) None; right = Some x })
    by true e = record { parent = n; left = of_child p k h; right = of_child p x c; ordered = segments_before p k x h.below c.below (lt_is (slice_cmp int_cmp k x) e) }
    by false e = record { parent = n; left = tt; right = of_child p x c; ordered = tt }

pub open_after : (p x : Label) (o : Option Label) → Ends p → IsChild p x → IfSome o (IsChild p) → IsOpen (record { parent = p; left = Some x; right = kept_after x o })
open_after p x None n c h = record { parent = n; left = of_child p x c; right = tt; ordered = tt }
open_after p x (Some k) n c h = by (is_before x k) refl
  where
    by : (b : Bool) → is_before x k ≡ b → IsOpen (record { parent = p; left = Some x; right = cond b (Some k) None })
    by true e = record { parent = n; left = of_child p x c; right = of_child p k h; ordered = segments_before p x k c.below h.below (lt_is (slice_cmp int_cmp x k) e) }
    by false e = record { parent = n; left = of_child p x c; right = tt; ordered = tt }

pub open_first : (p : Label) (o : Option Label) → Ends p → IfSome o (IsChild p) → IsOpen (record { parent = p; left = None; right = o })
open_first p o n h = record { parent = n; left = tt; right = children p o h; ordered = tt }

pub open_last : (p : Label) (o : Option Label) → Ends p → IfSome o (IsChild p) → IsOpen (record { parent = p; left = o; right = None })
open_last p o n h = record { parent = n; left = children p o h; right = tt; ordered = by o }
  where
    by : (o : Option Label) → IsOrdered (option_map (λ l. segment_below p l) o) None
    by None = tt
    by (Some k) = tt
