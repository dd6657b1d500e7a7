-- The target of an edit, as it is read and as it stands in a forest.
use Rattle.std.proofs.Common.{inl, inr, ◌≡◌, ◌≤◌, ◌<◌, ◌*◌, refl, ap, sym, subst, ℕ, ℤ, ◌+◌, Bool, true, false, not, List, [], ◌∷◌, Option, Some, None, arith, length, length-append, length-drop, drop}
use Rattle.std.specs.Prelude.{if◌then◌else◌, nat_lt}
use Rattle.std.proofs.lemmas.Bool.Decides.{nat_tests}
use Rattle.std.proofs.lemmas.List.{length-map}
use Rattle.byteorder.specs.Endian.{big_bytes}
use Rattle.mm_label.specs.Fronts.{Lt, Within}
use Rattle.mm_label.specs.Label.{IsLabel}
use Rattle.mm_label.specs.Bytes.{bytes_of}
use Rattle.mm_label.specs.Facts.Fronts.{front_le}
use Rattle.mm_label.specs.Facts.Members.{within_joined}
use Rattle.mm_label.specs.Facts.Ordered.{ordered_joined}
use Rattle.mm_keeper.specs.Entries.{Entries, Entry, IsSorted, rank}
use Rattle.mm_tree.specs.Edits.{delete_refusal, found}
use Rattle.mm_tree.specs.Facts.Places.{node_under, preorder_rises}
use Rattle.mm_tree.specs.Formed.{Formed, node_label}
use Rattle.mm_tree.specs.Forests.{and_then}
use Rattle.mm_tree.specs.Numbering.{Labelled}
use Rattle.mm_tree.specs.Trees.{Tree, Trees, one, preorder}
use Rattle.mm_tree.specs.declared.refusal.Refusal.{Refusal}
use Rattle.mm_tree.specs.declared.refusal.Refusal.TheVariants.{Absent}
use Rattle.mm_image.specs.Image.{entries_of, image}
use Rattle.mm_image.specs.Keys.{chunk_key, count_key}
use Rattle.mm_image.specs.Subtrees.{begins, leading, run_of}
use Rattle.mm_image.specs.Facts.LabelOrder.{Ancestry, ByteOrder}
use Rattle.mm_image.specs.Facts.Members.{node_is_valid}
use Rattle.mm_image.specs.Facts.Rising.{Nodes, entries_rise}
use Rattle.mm_image.specs.Facts.Standing.{Stands, stored_label, stored_tree}
use Rattle.mm_tree.specs.Facts.Formed.{labelled_formed}
use Rattle.mm_edit.specs.Inside.Changes.{Becomes, change, changes, number_of, words_of}
use Rattle.mm_edit.specs.Inside.Counting.{count_entry, counts_at}
use Rattle.mm_edit.proofs.Editing.{Leads, both_numbers, counts_follow, counts_within, part_of}
use Rattle.mm_edit.proofs.Values.{word_listed}
use Rattle.mm_tree.specs.Facts.Found.{present, found_none}

-- ---- refused exactly where no node has the label

abbrev refusal : Bool → Option Refusal
refusal b = if not b then Some Absent else None

pub accepted : (x : List ℤ) (f : Trees Labelled) (n : Tree Labelled) → found x f ≡ Some n → delete_refusal x f ≡ None
accepted x f n h = ap refusal (present x f n h)

pub refused : (x : List ℤ) (f : Trees Labelled) → found x f ≡ None → delete_refusal x f ≡ Some Absent
refused x f h = ap refusal (found_none x f h)

-- ---- what is read rises

standing_nodes : (label : List ℤ) (t : Tree Labelled) → IsLabel label → Stands label t → Nodes (one t)
standing_nodes label t g s = record {
  label = stored_label (preorder (one t)) (stored_tree label t g s);
  kind = node_is_valid (one t) s.kinds;
  order = (
    λ p w. elim (within_joined p (preorder t.1) [] w) [
      | inl k ↦ let n = node_under node_label label t.1 p formed k in subst (λ (z : List ℤ). Lt z (node_label p)) s.same (front_le label (node_label p) n.0, λ e. n.1 (sym e))
      | inr k ↦ absurd k
    ],
    ordered_joined (λ a b. Lt (node_label a) (node_label b)) (preorder t.1) [] (preorder_rises node_label label t.1 formed) tt (λ a b p q. absurd q),
  );
}
  where
    formed : Formed node_label label t.1
    formed = labelled_formed label None t.1 s.labels

pub standing_rises : ByteOrder → Ancestry → (label : List ℤ) (t : Tree Labelled) → IsLabel label → Stands label t → IsSorted (entries_of (one t))
standing_rises order ancestry label t g s = record { rises = entries_rise order ancestry (one t) (standing_nodes label t g s) }

-- ---- no more entries are read than there are

leading_few : (front : List ℕ) (m : Entries) → length (leading front m) ≤ length m
leading_few front [] = omega arith
leading_few front (e ∷ m) = by (begins front e) (leading_few front m)
  where
    by : (b : Bool) → length (leading front m) ≤ length m → length (if b then e ∷ leading front m else []) ≤ length (e ∷ m)
    by true h = omega (arith, h)
    by false h = omega arith

pub run_few : (label : List ℤ) (m : Entries) → length (run_of label m) ≤ length m
run_few label m = let t = leading_few (bytes_of label) (drop (rank m (chunk_key label 0)) m) in omega (arith, t, length-drop (rank m (chunk_key label 0)) m)

entry_few : (w : List ℕ) (n m : ℕ) → 0 < n + m → 1 ≤ length (count_entry w n) + length (count_entry w m)
entry_few w n m l = by (nat_lt 0 n) refl (nat_lt 0 m) refl
  where
    by : (b : Bool) → nat_lt 0 n ≡ b → (c : Bool) → nat_lt 0 m ≡ c → 1 ≤ length {A = Entry} (if b then (count_key w, big_bytes 8 n) ∷ [] else []) + length {A = Entry} (if c then (count_key w, big_bytes 8 m) ∷ [] else [])
    by true p c q = omega arith
    by false p true q = omega arith
    by false p false q = absurd (grind (arith, nat_tests))

counts_few : (number other : List ℕ → ℕ) (ws : List (List ℕ)) → ((w : List ℕ) → Within w ws → 0 < number w + other w) → length ws ≤ length (counts_at number ws) + length (counts_at other ws)
counts_few number other [] h = omega arith
counts_few number other (w ∷ ws) h =
    let t = counts_few number other ws (λ v i. h v (inr i)) in
    let k = entry_few w (number w) (other w) (h w (inl refl)) in
    omega (arith, t, k, length-append (count_entry w (number w)) (counts_at number ws), length-append (count_entry w (other w)) (counts_at other ws))

-- each word of the nodes has a count before or after
pub words_few : (f g taken given : Trees Labelled) → Becomes f g taken given
    → Leads (image f) (image g) (part_of f (entries_of taken) (words_of taken given)) (part_of g (entries_of given) (words_of taken given))
    → length (changes taken given) ≤ length (image f) + length (image g)
words_few f g taken given becomes a =
    let t = counts_few (number_of f) (number_of g) (words_of taken given) (λ w i.
    let k = counts_follow f g taken given becomes.run w in
    let l = counts_within f g taken given becomes.run w in
    let m = word_listed w (and_then taken given) i in
    let n = both_numbers taken given w in
    omega (arith, k, l, m, n)) in
    omega (arith, t, a.few, a.few_after, length-map (words_of taken given) (change taken given), length-append (entries_of taken) (counts_at (number_of f) (words_of taken given)), length-append (entries_of given) (counts_at (number_of g) (words_of taken given)))

pub delete_cost : (steps read now words run all new : ℕ) → read ≤ steps + 1 + run → run ≤ all → now ≤ read + words → words ≤ all + new → now ≤ steps + 4 * (all + new + 1)
delete_cost steps read now words run all new a b c d = omega arith

pub read_cost : (steps read run all new : ℕ) → read ≤ steps + 1 + run → run ≤ all → read ≤ steps + 4 * (all + new + 1)
read_cost steps read run all new a b = omega arith
