-- The walk over the candidates from the last to the first.
use Rattle.std.proofs.Common.{ℕ, length, ◌+◌, ◌*◌, ◌≤◌, arith, ap, inl, inr, true, ◌≡◌, ◌⊎◌, List, reverse, [], ◌∷◌, ◌++◌, refl, sym, subst, ◌∙◌}
use Rattle.std.proofs.lemmas.Grind.{reverse_onto}
use Rattle.mm_label.specs.Fronts.{Label, Front, is_front, Apart, Within, Meets, Lt, Ascends}
use Rattle.mm_lists.specs.Full.{IsFull, IsFullNode}
use Rattle.mm_elca.specs.Inside.Stack.{Falling, Descends, Stacked, Parted, Judged, Off}
use Rattle.mm_label.specs.Facts.Fronts.{front_yes, front_no, front_refl, front_trans, front_antisym, fronts_of_one, front_le, le_antisym, apart_trans, apart_below}
use Rattle.mm_label.specs.Facts.Lists.{met, within_longer, within_last, within_cases}
use Rattle.mm_lists.specs.Facts.Walking.{rising_more}
use Rattle.mm_elca.proofs.Clearing.{Under}

falling_more : (ds : List Label) (u : Label) → Falling ds → ((d : Label) → Within d ds → Apart u d) → Falling (ds ++ u ∷ [])
falling_more [] u g b = (λ m w. absurd w, tt)
falling_more (d ∷ ds) u g b = (
  λ m w. elim (within_cases m u ds w) [ inl k ↦ g.0 m k | inr e ↦ subst (λ (x : Label). Apart x d) (sym e) (b d (inl refl)) ],
  falling_more ds u g.1 (λ x w. b x (inr w)),
)

falling_less : (ds : List Label) (u : Label) → Falling (ds ++ u ∷ []) → Falling ds × ((d : Label) → Within d ds → Apart u d)
falling_less [] u g = (tt, λ d w. absurd w)
falling_less (d ∷ ds) u g =
    let t = falling_less ds u g.1 in (
      (λ m w. g.0 m (within_longer m u ds w), t.0),
      λ x w. elim w [ inl e ↦ subst (Apart u) (sym e) (g.0 u (within_last u ds)) | inr k ↦ t.1 x k ],
    )

descends_more : (ds : List Label) (u : Label) → Descends ds → ((d : Label) → Within d ds → Lt u d) → Descends (ds ++ u ∷ [])
descends_more [] u g b = (λ m w. absurd w, tt)
descends_more (d ∷ ds) u g b = (
  λ m w. elim (within_cases m u ds w) [ inl k ↦ g.0 m k | inr e ↦ subst (λ (x : Label). Lt x d) (sym e) (b d (inl refl)) ],
  descends_more ds u g.1 (λ x w. b x (inr w)),
)

pub stacked_first : Stacked [] []
stacked_first = record { falling = tt; from = λ t w. w; over = λ c w. absurd w }

pub parted_first : (x : Label) (was : List Label) → Falling was → Parted x was was []
parted_first x was f = record {
  falling = f;
  rising = tt;
  left = λ t w. w;
  below = λ t w. absurd w;
  apart = λ u t w v. absurd w;
  all = λ t w. inl w;
}

pub parted_more : (x t : Label) (was stack under : List Label) → Parted x was (stack ++ t ∷ []) under → Front x t → Parted x was stack (under ++ t ∷ [])
parted_more x t was stack under p f =
    let g = falling_less stack t p.falling in
    record {
      falling = g.0;
      rising = rising_more under t p.rising (λ u w. p.apart u t w (within_last t stack));
      left = λ s w. p.left s (within_longer s t stack w);
      below = λ s w. elim (within_cases s t under w) [
        | inl k ↦ p.below s k
        | inr e ↦ (subst (λ (c : Label). Within c was) (sym e) (p.left t (within_last t stack)), subst (Front x) (sym e) f)
      ];
      apart = λ u s w v. elim (within_cases u t under w) [
        | inl k ↦ p.apart u s k (within_longer s t stack v)
        | inr e ↦ subst (λ (c : Label). Apart c s) (sym e) (g.1 s v)
      ];
      all = λ s w. elim (p.all s w) [
        | inl k ↦ elim (within_cases s t stack k) [
          | inl q ↦ inl q
          | inr e ↦ inr (subst (λ (c : Label). Within c (under ++ t ∷ [])) (sym e) (within_last t under))
        ]
        | inr k ↦ inr (within_longer s t under k)
      ];
    }

-- where the last of the stack isn't below x, none is
pub off_all : (x t : Label) (stack : List Label) → Falling (stack ++ t ∷ []) → Lt x t → (Front x t → ⊥) → (u : Label) → Within u (stack ++ t ∷ []) → Apart x u
off_all x t stack g l n u w = elim (within_cases u t stack w) [
  | inl k ↦ apart_trans x t u (l.0, n) ((falling_less stack t g).1 u k)
  | inr e ↦ subst (Apart x) (sym e) (l.0, n)
]

pub stacked_more : (x : Label) (passed was stack under : List Label) → Stacked passed was → Parted x was stack under → ((u : Label) → Within u stack → Apart x u)
    → Stacked (x ∷ passed) (stack ++ x ∷ [])
stacked_more x passed was stack under s p off = record {
  falling = falling_more stack x p.falling off;
  from = λ t w. elim (within_cases t x stack w) [ inl k ↦ inr (s.from t (p.left t k)) | inr e ↦ inl e ];
  over = λ c w. elim w [
    | inl e ↦ (x, within_last x stack, subst (Front x) (sym e) (front_refl x))
    | inr k ↦
        let t = s.over c k in
        elim (p.all t.0 t.1) [
          | inl q ↦ (t.0, within_longer t.0 x stack q, t.2)
          | inr q ↦ (x, within_last x stack, front_trans x t.0 c (p.below t.0 q).1 t.2)
        ]
  ];
}

-- what was taken off is what is below x
pub parted_under : (all : List (List Label)) (x : Label) (passed was stack under : List Label) → Stacked passed was → Parted x was stack under
    → ((u : Label) → Within u stack → Apart x u) → ((c : Label) → Within c passed → Lt x c) → ((c : Label) → Within c passed → IsFull all c)
    → ((y : Label) → IsFull all y → Front x y → (y ≡ x → ⊥) → (c : Label) × Within c passed × Front y c) → Under all x under
parted_under all x passed was stack under s p off lt full covers = record {
  rising = p.rising;
  full = λ t w.
      let b = p.below t w in
      let k = s.from t b.0 in
      (full t k, b.1, λ e. (lt t k).1 (sym e));
  every = λ y i f n.
      let c = covers y i f n in
      let t = s.over c.0 c.1 in
      elim (p.all t.0 t.1) [
        | inl q ↦ absurd ((apart_below x t.0 c.0 (off t.0 q) t.2).1 (front_trans x y c.0 f c.2))
        | inr q ↦ (t.0, q, fronts_of_one y t.0 c.0 c.2 t.2)
      ];
}

-- a full label below x has a candidate among those that come after x
not_before : (x y c : Label) → Front x y → Front y c → Lt c x → ⊥
not_before x y c f g l = l.1 (le_antisym c x l.0 (front_le x c (front_trans x y c f g)))

in_it : (x : Label) (p post : List Label) → Within x (p ++ x ∷ post)
in_it x [] post = inl refl
in_it x (q ∷ p) post = inr (in_it x p post)

after : (x y c : Label) (p post : List Label) → Ascends (p ++ x ∷ post) → Front x y → (y ≡ x → ⊥) → Front y c → Within c (p ++ x ∷ post) → Within c post
after x y c [] post a f n g w = elim w [ inl e ↦ absurd (n (front_antisym y x (subst (Front y) e g) f)) | inr k ↦ k ]
after x y c (q ∷ p) post a f n g w = elim w [
  | inl e ↦ absurd (not_before x y c f g (subst (λ (d : Label). Lt d x) (sym e) (a.0 x (in_it x p post))))
  | inr k ↦ after x y c p post a.1 f n g k
]

pub later_covers : (all : List (List Label)) (x : Label) (pre post : List Label) → Ascends (pre ++ x ∷ post) → ((y : Label) → IsFullNode all y → Meets y (pre ++ x ∷ post))
    → (y : Label) → IsFull all y → Front x y → (y ≡ x → ⊥) → (c : Label) × Within c post × Front y c
later_covers all x pre post a cov y i f n =
    let m = met y (pre ++ x ∷ post) (cov y (i.0, i.1, λ e. n (e ∙ sym (front_antisym x [] (subst (Front x) e f) tt)))) in
    (m.0, after x y m.0 pre post a f n m.2 m.1, m.2)

pub judged_first : (P : Label → Type 0) → Judged P [] []
judged_first P = record { descends = tt; yes = λ d w. absurd w; every = λ c w h. w }

pub judged_yes : (P : Label → Type 0) (x : Label) (passed done : List Label) → ((c : Label) → Within c passed → Lt x c) → P x → Judged P passed done → Judged P (x ∷ passed) (done ++ x ∷ [])
judged_yes P x passed done lt h j = record {
  descends = descends_more done x j.descends (λ d w. lt d (j.yes d w).0);
  yes = λ d w. elim (within_cases d x done w) [
    | inl k ↦ let t = j.yes d k in (inr t.0, t.1)
    | inr e ↦ (inl e, subst P (sym e) h)
  ];
  every = λ c w p. elim w [
    | inl e ↦ subst (λ (d : Label). Within d (done ++ x ∷ [])) (sym e) (within_last x done)
    | inr k ↦ within_longer c x done (j.every c k p)
  ];
}

pub judged_no : (P : Label → Type 0) (x : Label) (passed done : List Label) → (P x → ⊥) → Judged P passed done → Judged P (x ∷ passed) done
judged_no P x passed done h j = record {
  descends = j.descends;
  yes = λ d w. let t = j.yes d w in (inr t.0, t.1);
  every = λ c w p. elim w [ inl e ↦ absurd (h (subst P e p)) | inr k ↦ j.every c k p ];
}

-- ---- as the code takes it

pub parted_taken : (x t : Label) (was old new under more : List Label) → Parted x was old under → (old ≡ new ++ t ∷ []) × (is_front x t ≡ true) → more ≡ under ++ t ∷ [] → Parted x was new more
parted_taken x t was old new under more p h e =
    subst (Parted x was new) (sym e) (parted_more x t was new under (subst (λ (s : List Label). Parted x was s under) h.0 p) (front_yes x t h.1))

snoc_cases : (ds : List Label) → (ds ≡ []) ⊎ ((s : List Label) × (t : Label) × (ds ≡ s ++ t ∷ []))
snoc_cases [] = inl refl
snoc_cases (d ∷ ds) = elim (snoc_cases ds) [
  | inl e ↦ inr ([], d, subst (λ (r : List Label). d ∷ r ≡ d ∷ []) (sym e) refl)
  | inr h ↦ inr (d ∷ h.0, h.1, subst (λ (r : List Label). d ∷ r ≡ (d ∷ h.0) ++ h.1 ∷ []) (sym h.2) refl)
]

-- what is left on the stack comes after x and all below it
pub off_apart : (x : Label) (stack : List Label) → Falling stack → Off x stack → ((u : Label) → Within u stack → Lt x u) → (u : Label) → Within u stack → Apart x u
off_apart x stack g o l u w = elim (snoc_cases stack) [
  | inl e ↦ absurd (subst (Within u) e w)
  | inr h ↦
      off_all x h.1 h.0 (subst Falling h.2 g) (l h.1 (subst (Within h.1) (sym h.2) (within_last h.1 h.0))) (front_no x h.1 (o h.0 h.1 h.2)) u (subst (Within u) h.2 w)
]

last_length : (ys : List Label) (t : Label) → length (ys ++ t ∷ []) ≡ length ys + 1
last_length [] t = refl
last_length (y ∷ ys) t = let h = last_length ys t in omega arith

pub snoc_length : (xs ys : List Label) (t : Label) → xs ≡ ys ++ t ∷ [] → length xs ≡ length ys + 1
snoc_length xs ys t e = ap length e ∙ last_length ys t

-- each of the words takes one look-up, and one for each that was taken off
pub cost_step : (k from to was new under v : ℕ) → new + under ≡ was + 1 → v ≡ under → to ≤ from + k * (1 + v) → to + k * new ≤ from + k * was + 2 * k
cost_step k from to was new under v h e c =
    let p : k * new + k * under ≡ k * was + k = omega (arith, ap (λ (n : ℕ). k * n) h) in
    let q : k * v ≡ k * under = ap (λ (n : ℕ). k * n) e in
    omega (arith, p, q, c)

joined_last : (ys zs : List Label) (t : Label) → (ys ++ t ∷ []) ++ zs ≡ ys ++ t ∷ zs
joined_last [] zs t = refl
joined_last (y ∷ ys) zs t = ap (λ (r : List Label). y ∷ r) (joined_last ys zs t)

pub snoc_joined : (xs ys zs : List Label) (t : Label) → xs ≡ ys ++ t ∷ [] → xs ++ zs ≡ ys ++ t ∷ zs
snoc_joined xs ys zs t e = ap (λ (r : List Label). r ++ zs) e ∙ joined_last ys zs t

-- ---- the answers are turned round

ascends_more : (ds : List Label) (u : Label) → Ascends ds → ((d : Label) → Within d ds → Lt d u) → Ascends (ds ++ u ∷ [])
ascends_more [] u g b = (λ m w. absurd w, tt)
ascends_more (d ∷ ds) u g b = (
  λ m w. elim (within_cases m u ds w) [ inl k ↦ g.0 m k | inr e ↦ subst (Lt d) (sym e) (b d (inl refl)) ],
  ascends_more ds u g.1 (λ x w. b x (inr w)),
)

reverse_first : (d : Label) (ds : List Label) → reverse (d ∷ ds) ≡ reverse ds ++ d ∷ []
reverse_first d ds = reverse_onto ds d []

pub within_reversed : (u : Label) (ds : List Label) → Within u (reverse ds) → Within u ds
within_reversed u [] w = w
within_reversed u (d ∷ ds) w = elim (within_cases u d (reverse ds) (subst (Within u) (reverse_first d ds) w)) [
  | inl k ↦ inr (within_reversed u ds k)
  | inr e ↦ inl e
]

pub reversed_within : (u : Label) (ds : List Label) → Within u ds → Within u (reverse ds)
reversed_within u [] w = w
reversed_within u (d ∷ ds) w = subst (Within u) (sym (reverse_first d ds)) (elim w [
  | inl e ↦ subst (λ (x : Label). Within x (reverse ds ++ d ∷ [])) (sym e) (within_last d (reverse ds))
  | inr k ↦ within_longer u d (reverse ds) (reversed_within u ds k)
])

pub ascends_reversed : (ds : List Label) → Descends ds → Ascends (reverse ds)
ascends_reversed [] g = tt
ascends_reversed (d ∷ ds) g = subst Ascends (sym (reverse_first d ds))
    (ascends_more (reverse ds) d (ascends_reversed ds g.1) (λ m w. g.0 m (within_reversed m ds w)))
