-- Look-ups: in entries that rise each key stands once, and what puts and removes leave there.
use Rattle.std.proofs.Common.{◌≡◌, refl, ap, sym, ◌∙◌, subst, Bool, true, false, ℕ, List, [], ◌∷◌}
use Rattle.std.specs.Prelude.{Option, Some, None, if◌then◌else◌, is_some}
use Rattle.std.specs.Str.{bytes_eq}
use Rattle.mm_keeper.specs.Entries.{Entry, Entries, below, IsBelow, Rises, has, lookup, put, without}
use Rattle.mm_keeper.specs.Facts.Keys.{IsBelow-less, Rises-put, Rises-without, no_more, no_order}
use Rattle.mm_edit.specs.Difference.{Key, keys, without_all, put_all}
use Rattle.mm_edit.specs.Inside.Finding.{find, has_key}
use Rattle.mm_edit.proofs.Keys.{same, same_self, differs}

abbrev pub Value : Type 0
Value = Option (List ℕ)

pub find_above : (k : Key) (m : Entries) → IsBelow k m → find m k ≡ None
find_above k [] b = refl
find_above k (e ∷ m) b = ap (λ t. if t then Some e.1 else find m k) (no_more k e.0 b.0) ∙ find_above k m b.1

pub lookup_is : (k : Key) (m : Entries) → Rises m → lookup m k ≡ find m k
lookup_is k [] r = refl
lookup_is k (e ∷ m) r = by (below e.0 k) (bytes_eq e.0 k) refl refl (lookup_is k m r.1)
  where
    by : (b c : Bool) → below e.0 k ≡ b → bytes_eq e.0 k ≡ c → lookup m k ≡ find m k → (if b then lookup m k else (if c then Some e.1 else None)) ≡ (if c then Some e.1 else find m k)
    by true true p q h = absurd (let d = differs e.0 k p in cc)
    by true false p q h = h
    by false true p q h = refl
    by false false p q h = sym (find_above k m (IsBelow-less k e.0 m (no_order e.0 k p q) r.0))

pub has_is : (k : Key) (m : Entries) → Rises m → has m k ≡ is_some (find m k)
has_is k [] r = refl
has_is k (e ∷ m) r = by (below e.0 k) (bytes_eq e.0 k) refl refl (has_is k m r.1)
  where
    by : (b c : Bool) → below e.0 k ≡ b → bytes_eq e.0 k ≡ c → has m k ≡ is_some (find m k) → (if b then has m k else c) ≡ is_some (if c then Some e.1 else find m k)
    by true true p q h = absurd (let d = differs e.0 k p in cc)
    by true false p q h = h
    by false true p q h = refl
    by false false p q h = ap is_some (sym (find_above k m (IsBelow-less k e.0 m (no_order e.0 k p q) r.0)))

pub find_at : (e : Entry) (m : Entries) → find (e ∷ m) e.0 ≡ Some e.1
find_at e m = ap (λ t. if t then Some e.1 else find m e.0) (same_self e.0)

some_none : {A : Type 0} (a : A) (r : Option A) → r ≡ Some a → r ≡ None → ⊥
some_none a r p q = cc

-- two lists that rise and find the same are the same
pub same_entries : (a b : Entries) → Rises a → Rises b → ((k : Key) → find a k ≡ find b k) → a ≡ b
same_entries [] [] r s f = refl
same_entries [] (e ∷ b) r s f = absurd (some_none e.1 (find (e ∷ b) e.0) (find_at e b) (sym (f e.0)))
same_entries (e ∷ a) [] r s f = absurd (some_none e.1 (find (e ∷ a) e.0) (find_at e a) (f e.0))
same_entries (e ∷ a) (g ∷ b) r s f = by (bytes_eq e.0 g.0) (below e.0 g.0) refl refl (same_entries a b r.1 s.1)
  where
    key_is : bytes_eq e.0 g.0 ≡ true → e.0 ≡ g.0
    key_is q = same e.0 g.0 q

    value_is : bytes_eq e.0 g.0 ≡ true → Some e.1 ≡ Some g.1
    value_is q = sym (find_at e a) ∙ f e.0 ∙ ap (λ k. find (g ∷ b) k) (key_is q) ∙ find_at g b

    some_is : (x y : List ℕ) → Some x ≡ Some y → x ≡ y
    some_is x y h = cc

    entry_is : bytes_eq e.0 g.0 ≡ true → e ≡ g
    entry_is q = ap (λ z. (z, e.1)) (key_is q) ∙ ap (λ z. (g.0, z)) (some_is e.1 g.1 (value_is q))

    -- behind the same head the rests find the same
    rest_at : (k : Key) (t : Bool) → bytes_eq e.0 k ≡ t → bytes_eq e.0 g.0 ≡ true → find a k ≡ find b k
    rest_at k true h q =
        let e_k = same e.0 k h in
        find_above k a (subst (λ z. IsBelow z a) e_k r.0) ∙ sym (find_above k b (subst (λ z. IsBelow z b) (sym (key_is q) ∙ e_k) s.0))
    rest_at k false h q =
        sym (ap (λ t. if t then Some e.1 else find a k) h) ∙ f k ∙ ap (λ t. if t then Some g.1 else find b k) (ap (λ z. bytes_eq z k) (sym (key_is q)) ∙ h)

    by : (t u : Bool) → bytes_eq e.0 g.0 ≡ t → below e.0 g.0 ≡ u → (((k : Key) → find a k ≡ find b k) → a ≡ b) → e ∷ a ≡ g ∷ b
    by true u q p ih = ap (λ z. z ∷ a) (entry_is q) ∙ ap (λ z. g ∷ z) (ih (λ k. rest_at k (bytes_eq e.0 k) refl q))
    by false true q p ih = absurd (some_none e.1 (find (g ∷ b) e.0) (sym (f e.0) ∙ find_at e a) (find_above e.0 (g ∷ b) (p, IsBelow-less e.0 g.0 b p s.0)))
    by false false q p ih =
        let l = no_order e.0 g.0 p q in
        absurd (some_none g.1 (find (e ∷ a) g.0) (f g.0 ∙ find_at g b) (find_above g.0 (e ∷ a) (l, IsBelow-less g.0 e.0 a l r.0)))

-- ---- what puts and removes leave

pub find-put : (k v : List ℕ) (m : Entries) (q : Key) → Rises m → find (put m k v) q ≡ (if bytes_eq k q then Some v else find m q)
find-put k v [] q r = refl
find-put k v (e ∷ m) q r = by (below e.0 k) (bytes_eq e.0 k) (bytes_eq e.0 q) (bytes_eq k q) refl refl refl refl (find-put k v m q r.1)
  where
    by : (b c d t : Bool) → below e.0 k ≡ b → bytes_eq e.0 k ≡ c → bytes_eq e.0 q ≡ d → bytes_eq k q ≡ t
        → find (put m k v) q ≡ (if t then Some v else find m q)
        → find (if b then e ∷ put m k v else (k, v) ∷ (if c then m else e ∷ m)) q ≡ (if t then Some v else (if d then Some e.1 else find m q))
    by true c true true p0 p1 p2 p3 ih = absurd (let h = same e.0 q p2 ∙ sym (same k q p3) in let d = differs e.0 k p0 in let x : bytes_eq e.0 k ≡ true = subst (λ z. bytes_eq e.0 z ≡ true) h (same_self e.0) in cc)
    by true c true false p0 p1 p2 p3 ih = ap (λ t. if t then Some e.1 else find (put m k v) q) p2
    by true c false t p0 p1 p2 p3 ih = ap (λ t. if t then Some e.1 else find (put m k v) q) p2 ∙ ih
    by false c d true p0 p1 p2 p3 ih = ap (λ t. if t then Some v else find (if c then m else e ∷ m) q) p3
    by false true true false p0 p1 p2 p3 ih = absurd (let x : bytes_eq k q ≡ true = subst (λ z. bytes_eq z q ≡ true) (same e.0 k p1) p2 in cc)
    by false true false false p0 p1 p2 p3 ih = ap (λ t. if t then Some v else find m q) p3
    by false false d false p0 p1 p2 p3 ih = ap (λ t. if t then Some v else find (e ∷ m) q) p3 ∙ ap (λ t. if t then Some e.1 else find m q) p2

pub find-without : (k : List ℕ) (m : Entries) (q : Key) → Rises m → find (without m k) q ≡ (if bytes_eq k q then None else find m q)
find-without k [] q r = by (bytes_eq k q)
  where
    by : (t : Bool) → ◌≡◌ {A = Value} None (if t then None else None)
    by true = refl
    by false = refl
find-without k (e ∷ m) q r = by (below e.0 k) (bytes_eq e.0 k) (bytes_eq e.0 q) (bytes_eq k q) refl refl refl refl (find-without k m q r.1)
  where
    by : (b c d t : Bool) → below e.0 k ≡ b → bytes_eq e.0 k ≡ c → bytes_eq e.0 q ≡ d → bytes_eq k q ≡ t
        → find (without m k) q ≡ (if t then None else find m q)
        → find (if b then e ∷ without m k else (if c then m else e ∷ m)) q ≡ (if t then None else (if d then Some e.1 else find m q))
    by true c true true p0 p1 p2 p3 ih = absurd (let h = same e.0 q p2 ∙ sym (same k q p3) in let d = differs e.0 k p0 in let x : bytes_eq e.0 k ≡ true = subst (λ z. bytes_eq e.0 z ≡ true) h (same_self e.0) in cc)
    by true c true false p0 p1 p2 p3 ih = ap (λ t. if t then Some e.1 else find (without m k) q) p2
    by true c false t p0 p1 p2 p3 ih = ap (λ t. if t then Some e.1 else find (without m k) q) p2 ∙ ih
    by false true d true p0 p1 p2 p3 ih = find_above q m (subst (λ z. IsBelow z m) (same e.0 k p1 ∙ same k q p3) r.0)
    by false true true false p0 p1 p2 p3 ih = absurd (let x : bytes_eq k q ≡ true = subst (λ z. bytes_eq z q ≡ true) (same e.0 k p1) p2 in cc)
    by false true false false p0 p1 p2 p3 ih = refl
    by false false d true p0 p1 p2 p3 ih =
        let l = subst (λ z. below z e.0 ≡ true) (same k q p3) (no_order e.0 k p0 p1) in
        find_above q (e ∷ m) (l, IsBelow-less q e.0 m l r.0)
    by false false d false p0 p1 p2 p3 ih = ap (λ t. if t then Some e.1 else find m q) p2

pub has_key_is : (m : Entries) (q : Key) → has_key m q ≡ is_some (find m q)
has_key_is [] q = refl
has_key_is (e ∷ m) q = by (bytes_eq e.0 q) (has_key_is m q)
  where
    by : (t : Bool) → has_key m q ≡ is_some (find m q) → (if t then true else has_key m q) ≡ is_some (if t then Some e.1 else find m q)
    by true h = refl
    by false h = h

-- ---- many, one after the other

pub rises-without_all : (g m : Entries) → Rises m → Rises (without_all (keys g) m)
rises-without_all [] m r = r
rises-without_all (e ∷ g) m r = rises-without_all g (without m e.0) (Rises-without e.0 m r)

pub rises-put_all : (es m : Entries) → Rises m → Rises (put_all es m)
rises-put_all [] m r = r
rises-put_all (e ∷ es) m r = rises-put_all es (put m e.0 e.1) (Rises-put e.0 e.1 m r)

pub find-without_all : (g m : Entries) (q : Key) → Rises m → find (without_all (keys g) m) q ≡ (if is_some (find g q) then None else find m q)
find-without_all [] m q r = refl
find-without_all (e ∷ g) m q r = find-without_all g (without m e.0) q (Rises-without e.0 m r) ∙ by (bytes_eq e.0 q) (find g q) (find-without e.0 m q r)
  where
    by : (t : Bool) (f : Value) → find (without m e.0) q ≡ (if t then None else find m q)
        → (if is_some f then None else find (without m e.0) q) ≡ (if is_some (if t then Some e.1 else f) then None else find m q)
    by true None h = h
    by true (Some v) h = refl
    by false None h = h
    by false (Some v) h = refl

pub find-put_all : (es m : Entries) (q : Key) → Rises es → Rises m → find (put_all es m) q ≡ (if is_some (find es q) then find es q else find m q)
find-put_all [] m q s r = refl
find-put_all (e ∷ es) m q s r = find-put_all es (put m e.0 e.1) q s.1 (Rises-put e.0 e.1 m r) ∙ by (bytes_eq e.0 q) refl (find es q) refl (find-put e.0 e.1 m q r)
  where
    by : (t : Bool) → bytes_eq e.0 q ≡ t → (f : Value) → find es q ≡ f → find (put m e.0 e.1) q ≡ (if t then Some e.1 else find m q)
        → (if is_some f then f else find (put m e.0 e.1) q) ≡ (if is_some (if t then Some e.1 else f) then (if t then Some e.1 else f) else find m q)
    by true p None n h = h
    by true p (Some v) n h = absurd (some_none v (find es q) n (find_above q es (subst (λ z. IsBelow z es) (same e.0 q p) s.0)))
    by false p None n h = h
    by false p (Some v) n h = refl
