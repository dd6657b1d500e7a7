-- The candidates that own a match of each word are the answers.
use Rattle.std.proofs.Common.{inl, inr, ◌≡◌, ℕ, zero, suc, ◌<◌, length, get_or, arith, List, reverse, [], ◌∷◌, subst, ◌∙◌}
use Rattle.mm_label.specs.Fronts.{Label, Front, Within, Ascends}
use Rattle.mm_lists.specs.Full.{MeetsAll, IsFullNode, Word}
use Rattle.mm_label.specs.Label.{whole}
use Rattle.mm_tree.specs.Trees.{Trees, none, node}
use Rattle.mm_tree.specs.Search.{Worded, list_of, lists_of}
use Rattle.mm_lists.specs.Formed.{WellFormed}
use Rattle.mm_tree.specs.Elca.{elca}
use Rattle.mm_elca.specs.Owning.{IsOwn, OwnsEach, IsOwner}
use Rattle.mm_elca.specs.Inside.Gathering.{Gathered}
use Rattle.mm_label.specs.Facts.Fronts.{front_refl, front_antisym, front_cases}
use Rattle.mm_label.specs.Facts.Lists.{met, meets}
use Rattle.mm_lists.specs.Facts.Below.{NodeOf, node_below, full_lists, lists_full}
use Rattle.mm_label.specs.Facts.Children.{under}
use Rattle.mm_lists.specs.Facts.Listed.{listed_node, node_whole, full_at}
use Rattle.mm_elca.proofs.Owners.{OwnAt, OwnsAll, Owners, elca_owners, one_owners, at_list, list_at}
use Rattle.mm_elca.proofs.Owned.{elca_candidate}
use Rattle.mm_elca.specs.Inside.Stack.{Judged}
use Rattle.mm_elca.proofs.Stacking.{within_reversed, reversed_within, ascends_reversed}

-- a whole front of a node's label, below y, is a node
node_front : (y m z : Label) (f : Trees Worded) → WellFormed y f → NodeOf m f → whole z ≡ z → Front z m → Front y z → (z ≡ y → ⊥) → NodeOf z f
node_front y m z none g n w f b k = absurd n
node_front y m z (node e inner rest) g n w f b k = elim n [
  | inl h ↦ elim (g.0.one z w (subst (Front z) h f)) [
    | inl q ↦ absurd (k (front_antisym z y q b))
    | inr q ↦ inl q
  ]
  | inr h ↦ elim h [
    | inl q ↦
        let t = node_below e.label m inner g.1 q in
        let u = under y e.label z m g.0 w b k f t.0 in
        elim (front_cases z e.label) [
          | inl p ↦ inl (front_antisym z e.label p u)
          | inr p ↦ inr (inl (node_front e.label m z inner g.1 q w f u (λ r. p (subst (Front z) r (front_refl z)))))
        ]
    | inr q ↦ inr (inr (node_front y m z rest g.3 q w f b k))
  ]
]

own_lists : (query : List Word) (f : Trees Worded) (x m : Label) → OwnAt query f x m → IsOwn (lists_of query f) x m
own_lists query f x m o = (o.0, λ y i d n g. o.1 y i.0 (lists_full y query f i.1) d n g)

lists_own : (query : List Word) (f : Trees Worded) (x m : Label) → IsOwn (lists_of query f) x m → OwnAt query f x m
lists_own query f x m o = (o.0, λ y w a d n g. o.1 y (w, full_lists y query f a) d n g)

owns_lists : (query ws : List Word) (f : Trees Worded) (x : Label) → OwnsAll query f x ws → OwnsEach (lists_of query f) x (lists_of ws f)
owns_lists query [] f x h = tt
owns_lists query (w ∷ ws) f x h = let t = h.0 in ((t.0, at_list t.0 w f t.1, own_lists query f x t.0 t.2), owns_lists query ws f x h.1)

lists_owns : (query ws : List Word) (f : Trees Worded) (x : Label) → OwnsEach (lists_of query f) x (lists_of ws f) → OwnsAll query f x ws
lists_owns query [] f x h = tt
lists_owns query (w ∷ ws) f x h = let t = h.0 in ((t.0, list_at t.0 w f t.1, lists_own query f x t.0 t.2), lists_owns query ws f x h.1)

owner_full : (all ls : List (List Label)) (x : Label) → OwnsEach all x ls → MeetsAll x ls
owner_full all [] x h = tt
owner_full all (l ∷ ls) x h = let t = h.0 in (meets x l t.0 t.1 t.2.0, owner_full all ls x h.1)

own_at : (all : List (List Label)) (ws : List Word) (f : Trees Worded) (x : Label) (at : ℕ) → at < length ws → OwnsEach all x (lists_of ws f)
    → (m : Label) × Within m (list_of (get_or ws at []) f) × IsOwn all x m
own_at all [] f x at h o = absurd (omega arith)
own_at all (w ∷ ws) f x zero h o = o.0
own_at all (w ∷ ws) f x (suc at) h o = own_at all ws f x at (omega arith) o.1

pub answers_are : (query : List Word) (f : Trees Worded) (at : ℕ) (cs r : List Label) → WellFormed [] f → at < length query → Gathered (lists_of query f) (list_of (get_or query at []) f) cs
    → Ascends r → ((u : Label) → Within u r → Within u cs × IsOwner (lists_of query f) u) → ((u : Label) → Within u cs → IsOwner (lists_of query f) u → Within u r) → r ≡ elca query f
answers_are query f at cs r w h g a both every = one_owners query f r (elca query f) mine (elca_owners query f w)
  where
    mine : Owners query f r
    mine = record {
      ascends = a;
      owns = λ u k.
          let t = both u k in
          let i = g.full u t.0 in
          let m = met u (list_of (get_or query at []) f) (full_at query at u f h i.1) in
          (node_front [] m.0 u f w (listed_node (get_or query at []) m.0 f m.1) i.0 m.2 tt i.2, lists_owns query query f u t.1);
      every = λ z n o.
          let e = owns_lists query query f z o in
          let i : IsFullNode (lists_of query f) z = (node_whole [] z f w n, owner_full (lists_of query f) (lists_of query f) z e, (node_below [] z f w n).1) in
          let v = own_at (lists_of query f) query f z at h e in
          let c = g.each v.0 z v.1 i v.2.0 in
          every z (subst (λ (x : Label). Within x cs) (elca_candidate (lists_of query f) z v.0 c.0 (i.0, i.1) v.2 c.2) c.1) e;
    }

pub answers_from : (query : List Word) (f : Trees Worded) (at : ℕ) (cs done r : List Label) → WellFormed [] f → at < length query → Gathered (lists_of query f) (list_of (get_or query at []) f) cs
    → Judged (IsOwner (lists_of query f)) cs done → r ≡ reverse done → r ≡ elca query f
answers_from query f at cs done r w h g j t = t ∙ answers_are query f at cs (reverse done) w h g (ascends_reversed done j.descends)
    (λ u k. j.yes u (within_reversed u done k))
    (λ u k p. reversed_within u done (j.every u k p))

none_within : (ms : List Label) → length ms ≡ 0 → (x : Label) → Within x ms → ⊥
none_within [] e x w = w
none_within (m ∷ ms) e x w = absurd (omega arith)

pub elca_none : (query : List Word) (f : Trees Worded) (at : ℕ) → at < length query → length (list_of (get_or query at []) f) ≡ 0 → WellFormed [] f → [] ≡ elca query f
elca_none query f at h e w = answers_are query f at [] [] w h
    (record { full = λ c k. absurd k; each = λ v y k i p. absurd (none_within (list_of (get_or query at []) f) e v k) })
    tt (λ u k. absurd k) (λ u k p. k)
