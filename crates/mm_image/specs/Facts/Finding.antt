-- What a sorted list of entries answers: the first at or above a key, and the last at or below it.
use Rattle.std.proofs.Common.{inl, inr, ◌≡◌, ℕ, zero, suc, ◌<◌, Bool, true, false, cond, List, [], ◌∷◌, refl, ap, sym, subst, ◌∙◌, Option, Some, None, arith}
use Rattle.std.specs.Prelude.{slice_get, bytes_eq}
use Rattle.std.proofs.lemmas.Slice.Eq.{bytes_eq-Decides}
use Rattle.mm_label.specs.Fronts.{Within}
use Rattle.mm_keeper.specs.Entries.{Entry, Entries, below, IsBelow, Rises, rank, has, last_to, one_before, index_of}
use Rattle.mm_image.specs.Looking.{entry_at}
use Rattle.mm_image.specs.Facts.Upto.{UpTo, not_below, below_not, below_upto, upto_refl, upto_trans, upto_antisym}

-- the first entry at or above the key
abbrev pub IsUp : Entries → List ℕ → Option Entry → Type 0
IsUp m k None = (e : Entry) → Within e m → UpTo k e.0 → ⊥
IsUp m k (Some e) = Within e m × UpTo k e.0 × ((d : Entry) → Within d m → UpTo k d.0 → UpTo e.0 d.0)

-- the last entry at or below the key
abbrev pub IsDown : Entries → List ℕ → Option Entry → Type 0
IsDown m k None = (e : Entry) → Within e m → UpTo e.0 k → ⊥
IsDown m k (Some e) = Within e m × UpTo e.0 k × ((d : Entry) → Within d m → UpTo d.0 k → UpTo d.0 e.0)

-- the entry of the key
abbrev pub IsAt : Entries → List ℕ → Option Entry → Type 0
IsAt m k None = (e : Entry) → Within e m → e.0 ≡ k → ⊥
IsAt m k (Some e) = Within e m × (e.0 ≡ k)

below_in : (k : List ℕ) (m : Entries) → IsBelow k m → (e : Entry) → Within e m → UpTo k e.0
below_in k [] b e i = absurd i
below_in k (d ∷ m) b e i = elim i [
  | inl h ↦ subst (λ (z : Entry). UpTo k z.0) (sym h) (below_upto k d.0 b.0)
  | inr h ↦ below_in k m b.1 e h
]

pub up_found : (m : Entries) (k : List ℕ) → Rises m → IsUp m k (slice_get m (rank m k))
up_found [] k r = λ e i u. i
up_found (d ∷ m) k r = by (below d.0 k) refl (up_found m k r.1)
  where
    more : (o : Option Entry) → below d.0 k ≡ true → IsUp m k o → IsUp (d ∷ m) k o
    more None e h = λ c i u. elim i [ inl q ↦ below_not k d.0 e (subst (λ (z : Entry). UpTo k z.0) q u) | inr q ↦ h c q u ]
    more (Some x) e h = (inr h.0, h.1, λ c i u. elim i [ inl q ↦ absurd (below_not k d.0 e (subst (λ (z : Entry). UpTo k z.0) q u)) | inr q ↦ h.2 c q u ])

    by : (b : Bool) → below d.0 k ≡ b → IsUp m k (slice_get m (rank m k)) → IsUp (d ∷ m) k (slice_get (d ∷ m) (cond b (suc (rank m k)) 0))
    by true e h = more (slice_get m (rank m k)) e h
    by false e h = (inl refl, not_below k d.0 e, λ c i u. elim i [ inl q ↦ subst (λ (z : Entry). UpTo d.0 z.0) (sym q) (upto_refl d.0) | inr q ↦ below_in d.0 m r.0 c q ])

before_suc : (n : ℕ) → one_before (suc n) ≡ Some n
before_suc n = grind arith

below_strictly : (k : List ℕ) (m : Entries) → IsBelow k m → (e : Entry) → Within e m → below k e.0 ≡ true
below_strictly k [] b e i = absurd i
below_strictly k (d ∷ m) b e i = elim i [
  | inl h ↦ subst (λ (z : Entry). below k z.0 ≡ true) (sym h) b.0
  | inr h ↦ below_strictly k m b.1 e h
]

get_before : (m : Entries) (k : List ℕ) (n : ℕ) → n < rank m k → (x : Entry) × (slice_get m n ≡ Some x)
get_before [] k n h = absurd (omega (arith, h))
get_before (d ∷ m) k n h = by (below d.0 k) n h (get_before m k)
  where
    by : (b : Bool) (n : ℕ) → n < cond b (suc (rank m k)) 0 → ((i : ℕ) → i < rank m k → (x : Entry) × (slice_get m i ≡ Some x)) → (x : Entry) × (slice_get (d ∷ m) n ≡ Some x)
    by true zero h f = (d, refl)
    by true (suc n) h f = f n (omega (arith, h))
    by false n h f = absurd (omega (arith, h))

get_has : (m : Entries) (k : List ℕ) → has m k ≡ true → (x : Entry) × (slice_get m (rank m k) ≡ Some x)
get_has [] k h = absurd cc
get_has (d ∷ m) k h = by (below d.0 k) h (get_has m k)
  where
    by : (b : Bool) → cond b (has m k) (bytes_eq d.0 k) ≡ true → (has m k ≡ true → (x : Entry) × (slice_get m (rank m k) ≡ Some x)) → (x : Entry) × (slice_get (d ∷ m) (cond b (suc (rank m k)) 0) ≡ Some x)
    by true h f = f h
    by false h f = (d, refl)

pub down_found : (m : Entries) (k : List ℕ) → Rises m → IsDown m k (entry_at m (last_to m k))
down_found [] k r = λ e i u. i
down_found (d ∷ m) k r = by (below d.0 k) refl (down_found m k r.1)
  where
    -- the entry lies behind d
    behind : (o : Option Entry) → IsDown m k o → (x : Entry) → o ≡ Some x → IsDown (d ∷ m) k (Some x)
    behind None h x e = absurd cc
    behind (Some y) h x e =
        let s : y ≡ x = cc in
        subst (λ (z : Entry). IsDown (d ∷ m) k (Some z)) s (inr h.0, h.1, λ c i u. elim i [ inl q ↦ subst (λ (z : Entry). UpTo z.0 y.0) (sym q) (below_in d.0 m r.0 y h.0) | inr q ↦ h.2 c q u ])

    -- it is d
    here : below d.0 k ≡ true → IsDown m k None → IsDown (d ∷ m) k (Some d)
    here e h = (inl refl, below_upto d.0 k e, λ c i u. elim i [ inl q ↦ subst (λ (z : Entry). UpTo z.0 d.0) (sym q) (upto_refl d.0) | inr q ↦ absurd (h c q u) ])

    before : (n : ℕ) → rank m k ≡ n → below d.0 k ≡ true → IsDown m k (entry_at m (one_before n)) → IsDown (d ∷ m) k (entry_at (d ∷ m) (one_before (suc n)))
    before zero r e h = subst (λ (o : Option ℕ). IsDown (d ∷ m) k (entry_at (d ∷ m) o)) (sym (before_suc 0)) (here e h)
    before (suc n) r e h =
        let t = get_before m k n (omega (arith, r)) in
        let g : IsDown m k (slice_get m n) = subst (λ (o : Option ℕ). IsDown m k (entry_at m o)) (before_suc n) h in
        subst (λ (o : Option ℕ). IsDown (d ∷ m) k (entry_at (d ∷ m) o)) (sym (before_suc (suc n)))
        (subst (λ (o : Option Entry). IsDown (d ∷ m) k o) (sym t.1) (behind (slice_get m n) g t.0 t.1))

    under : (b : Bool) → has m k ≡ b → below d.0 k ≡ true → IsDown m k (entry_at m (cond b (Some (rank m k)) (one_before (rank m k))))
        → IsDown (d ∷ m) k (entry_at (d ∷ m) (cond b (Some (suc (rank m k))) (one_before (suc (rank m k)))))
    under true f e h =
        let t = get_has m k f in
        subst (λ (o : Option Entry). IsDown (d ∷ m) k o) (sym t.1) (behind (slice_get m (rank m k)) h t.0 t.1)
    under false f e h = before (rank m k) refl e h

    equal : (b : Bool) → bytes_eq d.0 k ≡ b → below d.0 k ≡ false → IsDown (d ∷ m) k (entry_at (d ∷ m) (cond b (Some 0) None))
    equal true f e = let s = (bytes_eq-Decides d.0 k).0 f in (inl refl, subst (UpTo d.0) s (upto_refl d.0), λ c i u. subst (UpTo c.0) (sym s) u)
    equal false f e = λ c i u.
        let t : UpTo d.0 k = elim i [ inl q ↦ subst (λ (z : Entry). UpTo z.0 k) q u | inr q ↦ upto_trans d.0 c.0 k (below_in d.0 m r.0 c q) u ] in
        let s = upto_antisym d.0 k t (not_below k d.0 e) in let g = (bytes_eq-Decides d.0 k).1 s in absurd cc

    by : (b : Bool) → below d.0 k ≡ b → IsDown m k (entry_at m (last_to m k))
        → IsDown (d ∷ m) k (entry_at (d ∷ m) (cond (cond b (has m k) (bytes_eq d.0 k)) (Some (cond b (suc (rank m k)) 0)) (one_before (cond b (suc (rank m k)) 0))))
    by true e h = under (has m k) refl e h
    by false e h = equal (bytes_eq d.0 k) refl e

pub at_found : (m : Entries) (k : List ℕ) → Rises m → IsAt m k (entry_at m (index_of m k))
at_found [] k r = λ e i u. i
at_found (d ∷ m) k r = by (below d.0 k) refl (at_found m k r.1)
  where
    more : (o : Option Entry) → below d.0 k ≡ true → IsAt m k o → IsAt (d ∷ m) k o
    more None e h = λ c i u. elim i [ inl q ↦ below_not k d.0 e (subst (λ (z : Entry). UpTo k z.0) q (subst (UpTo k) (sym u) (upto_refl k))) | inr q ↦ h c q u ]
    more (Some x) e h = (inr h.0, h.1)

    under : (b : Bool) → below d.0 k ≡ true → IsAt m k (entry_at m (cond b (Some (rank m k)) None)) → IsAt (d ∷ m) k (entry_at (d ∷ m) (cond b (Some (suc (rank m k))) None))
    under true e h = more (slice_get m (rank m k)) e h
    under false e h = more None e h

    equal : (b : Bool) → bytes_eq d.0 k ≡ b → below d.0 k ≡ false → IsAt (d ∷ m) k (entry_at (d ∷ m) (cond b (Some 0) None))
    equal true f e = (inl refl, (bytes_eq-Decides d.0 k).0 f)
    equal false f e = λ c i u. elim i [
      | inl q ↦ let g = (bytes_eq-Decides d.0 k).1 (sym (ap (λ (z : Entry). z.0) q) ∙ u) in absurd cc
      | inr q ↦ let g = subst (λ (z : List ℕ). below d.0 z ≡ true) u (below_strictly d.0 m r.0 c q) in absurd cc
    ]

    by : (b : Bool) → below d.0 k ≡ b → IsAt m k (entry_at m (index_of m k)) → IsAt (d ∷ m) k (entry_at (d ∷ m) (cond (cond b (has m k) (bytes_eq d.0 k)) (Some (cond b (suc (rank m k)) 0)) None))
    by true e h = under (has m k) e h
    by false e h = equal (bytes_eq d.0 k) refl e

-- a key has one entry at most
pub same_key : (m : Entries) (d e : Entry) → Rises m → Within d m → Within e m → d.0 ≡ e.0 → d ≡ e
same_key [] d e r i j q = absurd i
same_key (x ∷ m) d e r i j q = elim i [
  | inl a ↦ elim j [
    | inl b ↦ a ∙ sym b
    | inr b ↦ let g = below_strictly x.0 m r.0 e b in absurd (below_itself x.0 (subst (λ (z : List ℕ). below x.0 z ≡ true) (sym q ∙ ap (λ (z : Entry). z.0) a) g))
  ]
  | inr a ↦ elim j [
    | inl b ↦ let g = below_strictly x.0 m r.0 d a in absurd (below_itself x.0 (subst (λ (z : List ℕ). below x.0 z ≡ true) (q ∙ ap (λ (z : Entry). z.0) b) g))
    | inr b ↦ same_key m d e r.1 a b q
  ]
]
  where
    below_itself : (k : List ℕ) → below k k ≡ true → ⊥
    below_itself k h = below_not k k h (upto_refl k)
