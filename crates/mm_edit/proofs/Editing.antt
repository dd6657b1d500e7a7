-- The difference of the images before and after an edit is that of the parts in hand.
use Rattle.std.proofs.Common.{◌≡◌, ◌≤◌, refl, ap, ◌∙◌, subst, ℕ, Bool, ◌+◌, IsTrue, List, ◌++◌, arith, length}
use Rattle.std.specs.Prelude.{nat_lt, filter, not}
use Rattle.std.proofs.lemmas.List.Filters.{length-filter_both}
use Rattle.mm_keeper.specs.Entries.{Entries, Rises, weight_of}
use Rattle.mm_tree.specs.Forests.{and_then, is_well_formed}
use Rattle.mm_tree.specs.Numbering.{Labelled}
use Rattle.mm_tree.specs.Trees.{Trees, preorder}
use Rattle.mm_tree.specs.Untouched.{OneRun}
use Rattle.mm_image.specs.Image.{entries_of, image}
use Rattle.mm_image.specs.Keys.{count_key}
use Rattle.mm_image.specs.Laws.{ImagesRise, KeysAreApart}
use Rattle.mm_image.specs.Facts.LabelOrder.{Ancestry, ByteOrder}
use Rattle.mm_image.specs.Facts.Rising.{nodes_of}
use Rattle.mm_edit.specs.Difference.{changed, gone}
use Rattle.mm_edit.specs.Inside.Changes.{Becomes, number_of, words_of}
use Rattle.mm_edit.specs.Inside.Counting.{counts_at}
use Rattle.mm_edit.specs.Inside.Nodes.{IsFit, IsMapOf, IsPart, run_keys, tally}
use Rattle.mm_edit.proofs.Fit.{AreSound, nodes_fit, nodes_sound, sound_middle, sound_nodes}
use Rattle.mm_edit.proofs.Local.{difference_is_local, weight_is_local}
use Rattle.mm_edit.proofs.Parts.{AreEntriesOf, AreWordsOf, counts_same, in_hand_is_part, preorder_joined, tree_entries, words_both}
use Rattle.mm_edit.proofs.Rooming.{filter_light}
use Rattle.mm_edit.proofs.Runs.{runs_swap, tally_joined, tally_three}
use Rattle.mm_edit.proofs.Values.{image_value, tally_number}

-- the entries in hand, and the counts of the words in hand, of a forest
abbrev pub part_of : Trees Labelled → Entries → List (List ℕ) → Entries
part_of f own ws = own ++ counts_at (number_of f) ws

-- what the difference of the parts is
pub record Leads (now new before after : Entries) : Type 0 where
  pub rises_before : Rises before
  pub rises_after : Rises after
  pub removes : gone now new ≡ gone before after
  pub puts : changed now new ≡ changed before after
  pub weight : weight_of new + weight_of before ≡ weight_of now + weight_of after
  pub few : length before ≤ length now
  pub few_after : length after ≤ length new
  pub light : weight_of before ≤ weight_of now

filter_few : {A : Type 0} (p : A → Bool) (xs : List A) → length (filter p xs) ≤ length xs
filter_few p xs = omega (arith, length-filter_both p (λ x. not (p x)) (λ _. refl) xs)

of_image : ImagesRise → (f : Trees Labelled) → IsTrue (is_well_formed f) → IsMapOf (image f) (preorder f)
of_image rise f g = record { rises = (rise f g).rises; at = image_value f }

-- counts by keys are counts by words
counted_part : (f : Trees Labelled) (own : Entries) (ws : List (List ℕ)) → own ++ counts_at (λ w. tally (preorder f) (count_key w)) ws ≡ part_of f own ws
counted_part f own ws = ap (λ z. own ++ z) (counts_same (λ w. tally (preorder f) (count_key w)) (number_of f) ws (λ w i. tally_number f w))

module _ (apart : KeysAreApart) (rise : ImagesRise) where
  -- one run of nodes gives place to another
  pub edit_leads : (now new : Trees Labelled) (taken given : List Labelled) (own_taken own_given : Entries) (ws : List (List ℕ))
      → IsTrue (is_well_formed now) → IsTrue (is_well_formed new) → OneRun (preorder now) (preorder new) taken given
      → AreEntriesOf own_taken taken → AreEntriesOf own_given given → AreWordsOf ws taken given
      → Leads (image now) (image new) (part_of now own_taken ws) (part_of new own_given ws)
  edit_leads now new taken given own_taken own_given ws g h run t u w =
      let before = in_hand_is_part (preorder now) taken given own_taken ws t w.rise w.at in
      let after = in_hand_is_part (preorder new) given taken own_given ws u w.rise (λ k. ap (nat_lt 0) (turned (tally given k) (tally taken k)) ∙ w.at k) in
      let s = runs_swap run.front taken given run.back (image now) (image new) _ _
      (subst IsFit run.old_is (nodes_fit apart (preorder now) (sound_nodes now (nodes_of now g))))
      (subst IsFit run.new_is (nodes_fit apart (preorder new) (sound_nodes new (nodes_of new h))))
      (subst (IsMapOf (image now)) run.old_is (of_image rise now g))
      (subst (IsMapOf (image new)) run.new_is (of_image rise new h))
      (subst (λ z. IsPart (own_taken ++ counts_at (λ w. tally (preorder now) (count_key w)) ws) z taken given) run.old_is before)
      (subst (λ z. IsPart (own_given ++ counts_at (λ w. tally (preorder new) (count_key w)) ws) z given taken) run.new_is after) in
      let d = difference_is_local (run_keys taken given) (image now) (image new) _ _ (rise now g) (rise new h) s in
      let told : Leads (image now) (image new) (own_taken ++ counts_at (λ w. tally (preorder now) (count_key w)) ws) (own_given ++ counts_at (λ w. tally (preorder new) (count_key w)) ws) =
      record {
        rises_before = before.rises;
        rises_after = after.rises;
        removes = d.0;
        puts = d.1;
        weight = weight_is_local (run_keys taken given) (image now) (image new) _ _ s;
        few = subst (λ z. length z ≤ length (image now)) s.taken_is (filter_few (λ e. run_keys taken given e.0) (image now));
        few_after = subst (λ z. length z ≤ length (image new)) s.given_is (filter_few (λ e. run_keys taken given e.0) (image new));
        light = subst (λ z. weight_of z ≤ weight_of (image now)) s.taken_is (filter_light (λ e. run_keys taken given e.0) (image now));
      } in
      subst (λ z. Leads (image now) (image new) z (part_of new own_given ws)) (counted_part now own_taken ws)
      (subst (λ z. Leads (image now) (image new) (own_taken ++ counts_at (λ w. tally (preorder now) (count_key w)) ws) z) (counted_part new own_given ws) told)
    where
      turned : (m n : ℕ) → m + n ≡ n + m
      turned m n = omega arith

  -- trees give place to others: the entries of the ones go, those of the others come, and the counts of their words change
  pub swap_leads : ByteOrder → Ancestry → (f g taken given : Trees Labelled) → IsTrue (is_well_formed f) → Becomes f g taken given
      → Leads (image f) (image g) (part_of f (entries_of taken) (words_of taken given)) (part_of g (entries_of given) (words_of taken given))
  swap_leads order ancestry f g taken given formed becomes =
      let run = becomes.run in
      let r = sound_middle run.front (preorder taken) run.back (subst AreSound run.old_is (sound_nodes f (nodes_of f formed))) in
      let s = sound_middle run.front (preorder given) run.back (subst AreSound run.new_is (sound_nodes g (nodes_of g becomes.formed))) in
      edit_leads f g (preorder taken) (preorder given) (entries_of taken) (entries_of given) (words_of taken given) formed becomes.formed run
      (tree_entries order ancestry taken (nodes_sound taken r)) (tree_entries order ancestry given (nodes_sound given s)) (words_both taken given)

-- where one run of nodes gives place to another, a count follows from those of the runs
pub counts_follow : (now new taken given : Trees Labelled) → OneRun (preorder now) (preorder new) (preorder taken) (preorder given)
    → (w : List ℕ) → number_of new w + number_of taken w ≡ number_of now w + number_of given w
counts_follow now new taken given run w =
    let k = count_key w in
    let a : tally (preorder now) k ≡ tally run.front k + (tally (preorder taken) k + tally run.back k) = ap (λ z. tally z k) run.old_is ∙ tally_three run.front (preorder taken) run.back k in
    let b : tally (preorder new) k ≡ tally run.front k + (tally (preorder given) k + tally run.back k) = ap (λ z. tally z k) run.new_is ∙ tally_three run.front (preorder given) run.back k in
    omega (arith, a, b, tally_number now w, tally_number new w, tally_number taken w, tally_number given w)

-- and is none below that of the nodes that leave
pub counts_within : (now new taken given : Trees Labelled) → OneRun (preorder now) (preorder new) (preorder taken) (preorder given)
    → (w : List ℕ) → number_of taken w ≤ number_of now w
counts_within now new taken given run w =
    let k = count_key w in
    let a : tally (preorder now) k ≡ tally run.front k + (tally (preorder taken) k + tally run.back k) = ap (λ z. tally z k) run.old_is ∙ tally_three run.front (preorder taken) run.back k in
    omega (arith, a, tally_number now w, tally_number taken w)

-- a word's number in both is the sum
pub both_numbers : (taken given : Trees Labelled) (w : List ℕ) → number_of (and_then taken given) w ≡ number_of taken w + number_of given w
both_numbers taken given w =
    let k = count_key w in
    let a : tally (preorder (and_then taken given)) k ≡ tally (preorder taken) k + tally (preorder given) k = ap (λ z. tally z k) (preorder_joined taken given) ∙ tally_joined (preorder taken) (preorder given) k in
    omega (arith, a, tally_number (and_then taken given) w, tally_number taken w, tally_number given w)
