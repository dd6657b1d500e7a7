-- Nodes whose labels differ have no key together, and none with a count.
use Rattle.std.proofs.Common.{inl, inr, ◌≡◌, refl, ap, sym, ◌∙◌, subst, Bool, true, false, ℕ, ℤ, ◌≤◌, zero, suc, List, [], ◌∷◌, ◌++◌, arith}
use Rattle.std.specs.Prelude.{Option, Some, None, if◌then◌else◌}
use Rattle.std.proofs.lemmas.Bool.Decides.{nat_tests}
use Rattle.std.specs.Str.{bytes_eq}
use Rattle.mm_label.specs.Fronts.{Lt, Ordered, Within}
use Rattle.mm_label.specs.Label.{IsLabel}
use Rattle.mm_label.specs.Facts.Members.{within_first, within_flat, within_in, within_joined, within_second}
use Rattle.mm_keeper.specs.Entries.{Entry, Entries}
use Rattle.mm_tree.specs.Facts.Words.{own_word}
use Rattle.mm_tree.specs.Formed.{node_label}
use Rattle.mm_tree.specs.Numbering.{Labelled}
use Rattle.mm_tree.specs.Search.{own}
use Rattle.mm_tree.specs.Trees.{Trees, preorder}
use Rattle.mm_tree.specs.Validity.{is_valid_kind, piece_count}
use Rattle.mm_image.specs.Content.{piece}
use Rattle.mm_image.specs.Image.{chunks_of}
use Rattle.mm_image.specs.Keys.{IsKeyed, chunk_key, key_of, occurrence_key}
use Rattle.mm_image.specs.Laws.{KeysAreApart}
use Rattle.mm_image.specs.declared.parsed.Parsed.{Parsed}
use Rattle.mm_image.specs.declared.parsed.Parsed.TheVariants.{Chunk, Occurrence, Count}
use Rattle.mm_image.specs.Facts.Pieces.{few_pieces}
use Rattle.mm_image.specs.Facts.Rising.{Nodes, within_range}
use Rattle.mm_edit.specs.Difference.{Key}
use Rattle.mm_edit.specs.Inside.Finding.{has_key}
use Rattle.mm_edit.specs.Inside.Nodes.{brought, occurring, owned, tally, AreApart, IsFit}
use Rattle.mm_edit.proofs.Keys.{same}
use Rattle.mm_edit.proofs.Values.{tally_some}

-- nodes in the order of the document, with labels and valid kinds
pub record AreSound (xs : List Labelled) : Type 0 where
  pub label : (d : Labelled) → Within d xs → IsLabel d.label
  pub kind : (d : Labelled) → Within d xs → is_valid_kind d.kind ≡ true
  pub order : Ordered (λ a b. Lt (node_label a) (node_label b)) xs

pub sound_nodes : (f : Trees Labelled) → Nodes f → AreSound (preorder f)
sound_nodes f n = record { label = n.label; kind = n.kind; order = n.order }

pub nodes_sound : (f : Trees Labelled) → AreSound (preorder f) → Nodes f
nodes_sound f s = record { label = s.label; kind = s.kind; order = s.order }

ordered_front : {A : Type 0} (R : A → A → Type 0) (a b : List A) → Ordered R (a ++ b) → Ordered R a
ordered_front R [] b o = tt
ordered_front R (x ∷ a) b o = (λ y i. o.0 y (within_first y a b i), ordered_front R a b o.1)

ordered_back : {A : Type 0} (R : A → A → Type 0) (a b : List A) → Ordered R (a ++ b) → Ordered R b
ordered_back R [] b o = o
ordered_back R (x ∷ a) b o = ordered_back R a b o.1

pub sound_middle : (a m b : List Labelled) → AreSound (a ++ (m ++ b)) → AreSound m
sound_middle a m b s = record {
  label = λ d i. s.label d (within_second d a (m ++ b) (within_first d m b i));
  kind = λ d i. s.kind d (within_second d a (m ++ b) (within_first d m b i));
  order = ordered_front (λ a b. Lt (node_label a) (node_label b)) m b (ordered_back (λ a b. Lt (node_label a) (node_label b)) a (m ++ b) s.order);
}

-- ---- whose key it is

abbrev owner : Parsed → Option (List ℤ)
owner (Chunk label number) = Some label
owner (Occurrence word label) = Some label
owner (Count word) = None

-- the key is that of a piece of the node, or of a word that it holds
record IsOwn (d : Labelled) (k : Key) : Type 0 where
  stands_for : Parsed
  keyed : IsKeyed stands_for
  key : key_of stands_for ≡ k
  owned_by : owner stands_for ≡ Some d.label

brought_own : (d : Labelled) → IsLabel d.label → is_valid_kind d.kind ≡ true → (e : Entry) → Within e (brought d) → IsOwn d e.0
brought_own d g v e w = elim (within_joined e (chunks_of d) (occurring d) w) [
  | inl q ↦
      let t = within_range (λ i. (chunk_key d.label i, piece d.kind i)) e (piece_count d.kind) 0 q in
      let few = few_pieces d.kind v in
      let most : piece_count d.kind ≤ 4294967296 = grind (arith, nat_tests, few) in
      let l = t.2 in
      record { stands_for = Chunk d.label t.0; keyed = (g, omega arith); key = sym (ap (λ (z : Entry). z.0) t.3); owned_by = refl }
  | inr q ↦
      let t = within_in (λ (w : List ℕ). (occurrence_key w d.label, [])) e (own d.kind) q in
      record { stands_for = Occurrence t.0 d.label; keyed = (own_word t.0 d.kind t.1, g); key = sym (ap (λ (z : Entry). z.0) t.2); owned_by = refl }
]

one_owner : KeysAreApart → (d e : Labelled) (k : Key) → IsOwn d k → IsOwn e k → d.label ≡ e.label
one_owner law d e k a b = let p = ap owner (law a.stands_for b.stands_for a.keyed b.keyed (a.key ∙ sym b.key)) in let q : Some d.label ≡ Some e.label = sym a.owned_by ∙ p ∙ b.owned_by in cc

key_within : (m : Entries) (k : Key) → has_key m k ≡ true → (e : Entry) × Within e m × (e.0 ≡ k)
key_within [] k h = absurd cc
key_within (e ∷ m) k h = by (bytes_eq e.0 k) refl h (key_within m k)
  where
    by : (t : Bool) → bytes_eq e.0 k ≡ t → (if t then true else has_key m k) ≡ true → (has_key m k ≡ true → (d : Entry) × Within d m × (d.0 ≡ k)) → (d : Entry) × Within d (e ∷ m) × (d.0 ≡ k)
    by true q h f = (e, inl refl, same e.0 k q)
    by false q h f = let t = f h in (t.0, inr t.1, t.2)

own_key : (xs : List Labelled) (k : Key) → AreSound xs → has_key (owned xs) k ≡ true → (d : Labelled) × Within d xs × IsOwn d k
own_key xs k s h =
    let e = key_within (owned xs) k h in
    let t = within_flat brought e.0 xs e.1 in
    (t.0, t.1, subst (IsOwn t.0) e.2 (brought_own t.0 (s.label t.0 t.1) (s.kind t.0 t.1) e.0 t.2))

are_apart : KeysAreApart → (xs : List Labelled) → AreSound xs → AreApart xs
are_apart law [] s = tt
are_apart law (d ∷ xs) s = (λ k h. by k h (has_key (owned xs) k) refl, are_apart law xs others)
  where
    others : AreSound xs
    others = record { label = λ e i. s.label e (inr i); kind = λ e i. s.kind e (inr i); order = s.order.1 }

    by : (k : Key) → has_key (brought d) k ≡ true → (b : Bool) → has_key (owned xs) k ≡ b → b ≡ false
    by k h false q = refl
    by k h true q =
        let t = own_key xs k others q in
        let e = key_within (brought d) k h in
        let mine = subst (IsOwn d) e.2 (brought_own d (s.label d (inl refl)) (s.kind d (inl refl)) e.0 e.1) in
        absurd ((s.order.0 t.0 t.1).1 (one_owner law d t.0 k mine t.2))

uncounted : KeysAreApart → (xs : List Labelled) (k : Key) (d : Labelled) → IsOwn d k → tally xs k ≡ 0
uncounted law xs k d o = by (tally xs k) refl
  where
    no_owner : (w : List ℕ) → Some d.label ≡ owner (Count w) → ⊥
    no_owner w e = cc

    by : (n : ℕ) → tally xs k ≡ n → n ≡ 0
    by zero e = refl
    by (suc n) e =
        let t = tally_some k xs n e in
        let p = law o.stands_for (Count t.word) o.keyed (own_word t.word t.who.kind t.holds) (o.key ∙ t.key) in
        absurd (no_owner t.word (sym o.owned_by ∙ ap owner p))

pub nodes_fit : KeysAreApart → (xs : List Labelled) → AreSound xs → IsFit xs
nodes_fit law xs s = record { apart = are_apart law xs s; sorts = λ k h. let t = own_key xs k s h in uncounted law xs k t.0 t.2 }
