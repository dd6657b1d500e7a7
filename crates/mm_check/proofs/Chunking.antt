-- The run of chunk entries, place by place.
use Rattle.std.proofs.Common.{inl, inr, ◌≡◌, ◌⊎◌, ℕ, zero, suc, ◌+◌, ◌<◌, ◌≤◌, Bool, true, false, cond, List, [], ◌∷◌, ◌++◌, length, drop, refl, ap, sym, subst, ◌∙◌, append-nil, append_assoc, Option, Some, None, Err, Ordering, Less, Equal, Greater, nat_cmp, arith}
use Rattle.std.specs.Prelude.{◌==◌, slice_get}
use Rattle.std.specs.Ordering.{is_lt, ordering_then}
use Rattle.std.specs.Cmp.Lexicographic.{slice_cmp}
use Rattle.std.proofs.lemmas.Bool.Decides.{nat_tests}
use Rattle.std.proofs.lemmas.List.Elements.{filter-append}
use Rattle.mm_keeper.specs.Entries.{Entries, Entry, IsBelow, Rises, below, first_from, rank, weight_of, within}
use Rattle.mm_tree.specs.Numbering.{Labelled}
use Rattle.mm_image.specs.Keys.{chunk_key}
use Rattle.mm_check.specs.declared.reader.Reader.{Reader}
use Rattle.mm_check.specs.declared.verdict.Named.{Named}
use Rattle.mm_check.specs.Blame.{begins_chunk, chunks_in, first_is_one}
use Rattle.mm_check.specs.Laws.{AreBytes, AreValues}
use Rattle.mm_check.specs.Reading.{Open, Progress, read}
use Rattle.mm_check.specs.Inside.Chunks.{AreChunks, FirstComes, HasSpelled, Reached, Weighs}
use Rattle.mm_check.specs.Inside.Reader.{HasFinished, HasStepped, Stands, outcome}
use Rattle.mm_check.specs.Inside.Stopping.{from}
use Rattle.mm_check.proofs.Order.{rises_back}
use Rattle.mm_check.proofs.Passing.{from_next, from_within}

-- ---- keys from 01 on

same_byte : (b : ℕ) → (b == 1) ≡ true → b ≡ 1
same_byte b e = grind (arith, nat_tests)

other_byte : (b : ℕ) → (b == 1) ≡ false → (b < 1) ⊎ (1 < b)
other_byte b e = grind (arith, nat_tests)

less_byte : (a b : ℕ) → nat_cmp a b ≡ Less → a < b
less_byte a b e = grind arith

more_byte : (a b : ℕ) → nat_cmp a b ≡ Greater → b < a
more_byte a b e = grind arith

tied_byte : (a b : ℕ) → nat_cmp a b ≡ Equal → a ≡ b
tied_byte a b e = grind arith

-- a key below 01 is no chunk's
low_key : (k : List ℕ) → below k (1 ∷ []) ≡ true → first_is_one k ≡ false
low_key [] e = refl
low_key (b ∷ bs) e = by (b == 1) refl (nat_cmp b 1) refl e
  where
    never : (bs : List ℕ) → is_lt (slice_cmp nat_cmp bs []) ≡ true → ⊥
    never [] e = cc
    never (c ∷ cs) e = cc

    by : (t : Bool) → (b == 1) ≡ t → (o : Ordering) → nat_cmp b 1 ≡ o → is_lt (ordering_then o (slice_cmp nat_cmp bs [])) ≡ true → t ≡ false
    by false q o p e = refl
    by true q Less p e = let s = same_byte b q in let l = less_byte b 1 p in absurd (omega (arith, s, l))
    by true q Equal p e = absurd (never bs e)
    by true q Greater p e = absurd cc

-- no chunk's key stands behind one from 01 on that is none
gap : (k d : List ℕ) → below k (1 ∷ []) ≡ false → first_is_one k ≡ false → below k d ≡ true → first_is_one d ≡ false
gap [] d n c l = absurd cc
gap (b ∷ bs) [] n c l = refl
gap (b ∷ bs) (x ∷ xs) n c l = by (x == 1) refl
  where
    above : (b < 1) ⊎ (1 < b) → (o : Ordering) → nat_cmp b 1 ≡ o → is_lt (ordering_then o (slice_cmp nat_cmp bs [])) ≡ false → 1 < b
    above (inl h) Less p e = absurd cc
    above (inl h) Equal p e = let t = tied_byte b 1 p in absurd (omega (arith, t, h))
    above (inl h) Greater p e = let t = more_byte b 1 p in absurd (omega (arith, t, h))
    above (inr h) o p e = h

    never : 1 < b → x ≡ 1 → (o : Ordering) → nat_cmp b x ≡ o → is_lt (ordering_then o (slice_cmp nat_cmp bs xs)) ≡ true → ⊥
    never h q Less p e = let t = less_byte b x p in omega (arith, t, h, q)
    never h q Equal p e = let t = tied_byte b x p in omega (arith, t, h, q)
    never h q Greater p e = cc

    by : (t : Bool) → (x == 1) ≡ t → t ≡ false
    by true q = absurd (never (above (other_byte b c) (nat_cmp b 1) refl n) (same_byte x q) (nat_cmp b x) refl l)
    by false q = refl

pub none_behind : (e : Entry) (es : Entries) → below e.0 (1 ∷ []) ≡ false → begins_chunk e ≡ false → IsBelow e.0 es → chunks_in es ≡ []
none_behind e [] n c b = refl
none_behind e (d ∷ es) n c b = ap (λ (t : Bool). cond t (d ∷ chunks_in es) (chunks_in es)) (gap e.0 d.0 n c b.0) ∙ none_behind e es n c b.1

-- ---- from the first key at or above 01

abbrev NoneBelow : Entries → Type 0
NoneBelow [] = Unit {0}
NoneBelow (e ∷ es) = (below e.0 (1 ∷ []) ≡ false) × NoneBelow es

-- a key behind one from 01 on is from 01 on
stays : (k d : List ℕ) → below k (1 ∷ []) ≡ false → below k d ≡ true → below d (1 ∷ []) ≡ false
stays [] d n l = absurd cc
stays (b ∷ bs) [] n l = absurd cc
stays (b ∷ bs) (x ∷ xs) n l = by (nat_cmp x 1) refl (slice_cmp nat_cmp xs []) refl
  where
    least : (o : Ordering) → nat_cmp b 1 ≡ o → is_lt (ordering_then o (slice_cmp nat_cmp bs [])) ≡ false → 1 ≤ b
    least Less p e = absurd cc
    least Equal p e = let t = tied_byte b 1 p in omega (arith, t)
    least Greater p e = let t = more_byte b 1 p in omega (arith, t)

    up : (o : Ordering) → nat_cmp b x ≡ o → is_lt (ordering_then o (slice_cmp nat_cmp bs xs)) ≡ true → b ≤ x
    up Less p e = let t = less_byte b x p in omega (arith, t)
    up Equal p e = let t = tied_byte b x p in omega (arith, t)
    up Greater p e = absurd cc

    never : (xs : List ℕ) → slice_cmp nat_cmp xs [] ≡ Less → ⊥
    never [] e = cc
    never (c ∷ cs) e = cc

    by : (o : Ordering) → nat_cmp x 1 ≡ o → (p : Ordering) → slice_cmp nat_cmp xs [] ≡ p → is_lt (ordering_then o p) ≡ false
    by Less q p r = let a = less_byte x 1 q in let s = least (nat_cmp b 1) refl n in let t = up (nat_cmp b x) refl l in absurd (omega (arith, a, s, t))
    by Equal q Less r = absurd (never xs r)
    by Equal q Equal r = refl
    by Equal q Greater r = refl
    by Greater q p r = refl

none_below_on : (k : List ℕ) (es : Entries) → below k (1 ∷ []) ≡ false → IsBelow k es → NoneBelow es
none_below_on k [] n b = tt
none_below_on k (e ∷ es) n b = (stays k e.0 n b.0, none_below_on k es n b.1)

above_one : (m : Entries) → Rises m → NoneBelow (drop (rank m (1 ∷ [])) m)
above_one [] r = tt
above_one (e ∷ m) r = by (below e.0 (1 ∷ [])) refl (above_one m r.1)
  where
    by : (t : Bool) → below e.0 (1 ∷ []) ≡ t → NoneBelow (drop (rank m (1 ∷ [])) m) → NoneBelow (drop (cond t (suc (rank m (1 ∷ []))) 0) (e ∷ m))
    by true q i = i
    by false q i = (q, none_below_on e.0 m q r.0)

rises_drop : (n : ℕ) (m : Entries) → Rises m → Rises (drop n m)
rises_drop zero m r = r
rises_drop (suc n) [] r = tt
rises_drop (suc n) (e ∷ m) r = rises_drop n m r.1

none_below_back : (xs ys : Entries) → NoneBelow (xs ++ ys) → NoneBelow ys
none_below_back [] ys n = n
none_below_back (x ∷ xs) ys n = none_below_back xs ys n.1

pub chunks_from : (m : Entries) → chunks_in (drop (rank m (1 ∷ [])) m) ≡ chunks_in m
chunks_from [] = refl
chunks_from (e ∷ m) = by (below e.0 (1 ∷ [])) refl (chunks_from m)
  where
    by : (t : Bool) → below e.0 (1 ∷ []) ≡ t → chunks_in (drop (rank m (1 ∷ [])) m) ≡ chunks_in m → chunks_in (drop (cond t (suc (rank m (1 ∷ []))) 0) (e ∷ m)) ≡ chunks_in (e ∷ m)
    by true q i = i ∙ sym (ap (λ (t : Bool). cond t (e ∷ chunks_in m) (chunks_in m)) (low_key e.0 q))
    by false q i = refl

all_chunks : (es : Entries) → AreChunks es → chunks_in es ≡ es
all_chunks [] a = refl
all_chunks (e ∷ es) a = ap (λ (t : Bool). cond t (e ∷ chunks_in es) (chunks_in es)) a.0 ∙ ap (λ (l : Entries). e ∷ l) (all_chunks es a.1)

chunks_joined : (xs ys : Entries) → AreChunks xs → AreChunks ys → AreChunks (xs ++ ys)
chunks_joined [] ys a b = b
chunks_joined (x ∷ xs) ys a b = (a.0, chunks_joined xs ys a.1 b)

values_joined : (xs ys : Entries) → AreValues xs → AreValues ys → AreValues (xs ++ ys)
values_joined [] ys a b = b
values_joined (x ∷ xs) ys a b = (a.0, values_joined xs ys a.1 b)

-- ---- one entry more

-- what stands from the place on
pub record Left (m : Entries) (i : ℕ) (e : Entry) : Type 0 where
  pub rest : Entries
  pub are : from m (Some i) ≡ e ∷ rest
  pub next : rest ≡ from m (within m (i + 1))

abbrev left_at : (m : Entries) (i : ℕ) (e : Entry) → slice_get m i ≡ Some e → Left m i e
left_at m i e h = record { rest = from m (within m (i + 1)); are = from_next m i e h; next = refl }

chunk_first : (e : Entry) (es : Entries) → begins_chunk e ≡ true → chunks_in (e ∷ es) ≡ e ∷ chunks_in es
chunk_first e es q = ap (λ (t : Bool). cond t (e ∷ chunks_in es) (chunks_in es)) q

first_comes : (nodes : List Labelled) (node : Option Open) (l : Entries) (e : Entry) (es : Entries) → l ≡ e ∷ es → FirstComes nodes node l → FirstComes nodes node (e ∷ es)
first_comes nodes node l e es q c = subst (FirstComes nodes node) q c

first_below : (nodes : List Labelled) (node : Open) (e : Entry) (rest : Entries) → chunk_key node.label node.number ≡ e.0 → IsBelow e.0 rest → FirstComes nodes (Some node) rest
first_below nodes node e [] k b = tt
first_below nodes node e (d ∷ rest) k b = subst (λ (z : List ℕ). below z d.0 ≡ true) (sym k) b.0

-- the entry is passed
pub passed_chunk : (m : Entries) (old new : Reader) (i : ℕ) (e : Entry) → Rises m → slice_get m i ≡ Some e → Reached m old (Some i) → begins_chunk e ≡ true → AreBytes e.1
    → ((p : Progress) → Stands old p → FirstComes p.nodes p.node (e ∷ []) → HasStepped p e new) → Reached m new (within m (i + 1))
passed_chunk m old new i e r h a c v f =
    let l = left_at m i e h in
    let s = f (record { nodes = a.nodes; node = a.node }) a.stands (first_comes a.nodes a.node (from m (Some i)) e l.rest l.are a.comes) in
    let split = a.split ∙ ap (λ (z : Entries). a.done ++ z) l.are in
    let rises : Rises (e ∷ l.rest) = rises_back a.done (e ∷ l.rest) (subst Rises split (rises_drop (rank m (1 ∷ [])) m r)) in
    record {
      nodes = s.nodes;
      node = Some s.node;
      done = a.done ++ e ∷ [];
      stands = s.stands;
      split = split ∙ sym (append_assoc a.done (e ∷ []) l.rest);
      chunks = chunks_joined a.done (e ∷ []) a.chunks (c, tt);
      values = values_joined a.done (e ∷ []) a.values (v, tt);
      comes = first_below s.nodes s.node e l.rest s.key rises.0;
      same = sym (ap (outcome (record { nodes = a.nodes; node = a.node })) (ap chunks_in l.are ∙ chunk_first e l.rest c) ∙ s.same (chunks_in l.rest)) ∙ a.same;
    }

-- what is named at the entry is named in all
pub named_chunk : (m : Entries) (old : Reader) (i : ℕ) (e : Entry) (n : Named) → slice_get m i ≡ Some e → Reached m old (Some i) → begins_chunk e ≡ true
    → ((p : Progress) → Stands old p → FirstComes p.nodes p.node (e ∷ []) → (es : Entries) → outcome p (e ∷ es) ≡ Err n) → read [] None (chunks_in m) ≡ Err n
named_chunk m old i e n h a c f =
    let l = left_at m i e h in
    let p : Progress = record { nodes = a.nodes; node = a.node } in
    sym a.same ∙ ap (outcome p) (ap chunks_in l.are ∙ chunk_first e l.rest c) ∙ f p a.stands (first_comes a.nodes a.node (from m (Some i)) e l.rest l.are a.comes) (chunks_in l.rest)

-- an entry that is no chunk, and none behind it
pub no_chunk_left : (m : Entries) (old : Reader) (i : ℕ) (e : Entry) → Rises m → slice_get m i ≡ Some e → Reached m old (Some i) → begins_chunk e ≡ false → chunks_in (from m (Some i)) ≡ []
no_chunk_left m old i e r h a c =
    let l = left_at m i e h in
    let split = a.split ∙ ap (λ (z : Entries). a.done ++ z) l.are in
    let rises : Rises (e ∷ l.rest) = rises_back a.done (e ∷ l.rest) (subst Rises split (rises_drop (rank m (1 ∷ [])) m r)) in
    let low : NoneBelow (e ∷ l.rest) = none_below_back a.done (e ∷ l.rest) (subst NoneBelow split (above_one m r)) in
    ap chunks_in l.are ∙ ap (λ (t : Bool). cond t (e ∷ chunks_in l.rest) (chunks_in l.rest)) c ∙ none_behind e l.rest low.0 c rises.0

pub no_more_left : (m : Entries) → chunks_in (from m None) ≡ []
no_more_left m = refl

-- before any entry
pub none_reached : (m : Entries) (r : Reader) → Stands r (record { nodes = []; node = None }) → Reached m r (first_from m (1 ∷ []))
none_reached m r s = record {
  nodes = [];
  node = None;
  done = [];
  stands = s;
  split = sym here;
  chunks = tt;
  values = tt;
  comes = first (from m (first_from m (1 ∷ [])));
  same = ap (λ (l : Entries). read [] None (chunks_in l)) here ∙ ap (read [] None) (chunks_from m);
}
  where
    here : from m (first_from m (1 ∷ [])) ≡ drop (rank m (1 ∷ [])) m
    here = from_within m (rank m (1 ∷ []))

    first : (l : Entries) → FirstComes [] None l
    first [] = tt
    first (e ∷ l) = refl

-- ---- all chunks were read

chunks_append : (xs ys : Entries) → chunks_in (xs ++ ys) ≡ chunks_in xs ++ chunks_in ys
chunks_append xs ys = filter-append begins_chunk xs ys

pub all_read_here : (m : Entries) (old new : Reader) (at : Option ℕ) → Reached m old at → chunks_in (from m at) ≡ [] → ((p : Progress) → Stands old p → HasFinished p new) → HasSpelled m new at
all_read_here m old new at a z f =
    let p : Progress = record { nodes = a.nodes; node = a.node } in
    let h = f p a.stands in
    let mine : chunks_in m ≡ a.done = sym (chunks_from m) ∙ ap chunks_in a.split ∙ chunks_append a.done (from m at) ∙ ap (λ (l : Entries). chunks_in a.done ++ l) z ∙ append-nil (chunks_in a.done) ∙ all_chunks a.done a.chunks in
    record {
      nodes = h.nodes;
      are = sym a.same ∙ ap (outcome p) z ∙ h.ended;
      values = subst AreValues (sym mine) a.values;
      number = h.number;
      kept = h.kept;
      split = a.split ∙ ap (λ (l : Entries). l ++ from m at) (sym mine);
    }

pub named_at_end : (m : Entries) (old : Reader) (at : Option ℕ) (n : Named) → Reached m old at → chunks_in (from m at) ≡ [] → ((p : Progress) → Stands old p → outcome p [] ≡ Err n) → read [] None (chunks_in m) ≡ Err n
named_at_end m old at n a z f = let p : Progress = record { nodes = a.nodes; node = a.node } in sym a.same ∙ ap (outcome p) z ∙ f p a.stands

-- ---- weights

some_key : (e : Entry) → begins_chunk e ≡ true → 1 ≤ length e.0
some_key ([], v) q = absurd cc
some_key (b ∷ bs, v) q = omega arith

pub weighs : (m : Entries) (i : ℕ) (e : Entry) → slice_get m i ≡ Some e → begins_chunk e ≡ true → Weighs m i (within m (i + 1))
weighs m i e h c =
    let l = left_at m i e h in
    let w = ap weight_of l.are in
    let k = ap length l.are in
    let s = some_key e c in
    record { weight = omega (arith, w, s); count = omega (arith, k) }

-- entries without weight are no chunks
pub weightless : (es : Entries) → weight_of es ≡ 0 → chunks_in es ≡ []
weightless [] w = refl
weightless (e ∷ es) w = by (begins_chunk e) refl (weightless es (omega (arith, w)))
  where
    by : (t : Bool) → begins_chunk e ≡ t → chunks_in es ≡ [] → cond t (e ∷ chunks_in es) (chunks_in es) ≡ []
    by true q i = let s = some_key e q in absurd (omega (arith, s, w))
    by false q i = i
