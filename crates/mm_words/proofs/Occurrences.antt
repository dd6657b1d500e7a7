-- Words, each once, where it comes first.
use Rattle.std.proofs.Common.{◌≡◌, ℕ, Bool, true, false, cond, not, ◌&&◌, ◌||◌, List, [], ◌∷◌, ◌++◌, ap, ap₂, sym, refl, ◌∙◌, filter, bytes_eq, append_assoc, drop, ◌+◌, ◌<◌, length, get_or, nat_cmp}
use Rattle.std.specs.Borrow.{Bor}
use Rattle.std.specs.BTreeSet.{BTreeSet, contains_by, Updates, IsUnchanged, IsEmpty}
use Rattle.std.specs.BTreeMap.{is_at}
use Rattle.std.specs.Cmp.Lexicographic.{slice_cmp}
use Rattle.std.specs.List.{list_any}
use Rattle.std.proofs.lemmas.Map.Text.{is_eq-slice_cmp}
use Rattle.std.proofs.lemmas.Cmp.{nat_list_eq_equiv}
use Rattle.std.proofs.lemmas.Slice.Eq.{bytes_eq-Decides}
use Rattle.std.proofs.lemmas.List.Folds.{list_any-append}
use Rattle.mm_list.specs.Facts.{drop_at}
use Rattle.mm_words.specs.Words.{without, first_occurrences}

-- those of these words that are not among the first
abbrev pub unseen : List (List ℕ) → List (List ℕ) → List (List ℕ)
unseen seen ws = filter (λ v. not (list_any (bytes_eq v) seen)) ws

-- one test behind another
filter_twice : (p q r : List ℕ → Bool) → ((v : List ℕ) → r v ≡ (q v && p v)) → (ws : List (List ℕ)) → filter p (filter q ws) ≡ filter r ws
filter_twice p q r e [] = refl
filter_twice p q r e (w ∷ ws) = by_tests (q w) (p w) refl (e w) (filter_twice p q r e ws)
  where
    by_tests : (a b : Bool) → p w ≡ b → r w ≡ (a && b) → filter p (filter q ws) ≡ filter r ws → filter p (cond a (w ∷ filter q ws) (filter q ws)) ≡ cond (r w) (w ∷ filter r ws) (filter r ws)
    by_tests false b f g rest = rw g rest
    by_tests true false f g rest = rw (f, g) rest
    by_tests true true f g rest = rw (f, g) (ap (λ vs. w ∷ vs) rest)

-- a word that was seen changes nothing
pub old_word : (w : List ℕ) (seen ws : List (List ℕ)) → list_any (bytes_eq w) seen ≡ true → unseen seen (first_occurrences (w ∷ ws)) ≡ unseen seen (first_occurrences ws)
old_word w seen ws h = rw h (filter_twice (λ v. not (list_any (bytes_eq v) seen)) (λ v. not (bytes_eq w v)) (λ v. not (list_any (bytes_eq v) seen)) (λ v. by_test v (bytes_eq w v) refl) (first_occurrences ws))
  where
    by_test : (v : List ℕ) (b : Bool) → bytes_eq w v ≡ b → not (list_any (bytes_eq v) seen) ≡ (not b && not (list_any (bytes_eq v) seen))
    by_test v false e = refl
    by_test v true e = ap not (ap (λ u. list_any (bytes_eq u) seen) (sym ((bytes_eq-Decides w v).0 e)) ∙ h)

seen_more : (v w : List ℕ) (seen : List (List ℕ)) → not (list_any (bytes_eq v) (seen ++ w ∷ [])) ≡ (not (bytes_eq w v) && not (list_any (bytes_eq v) seen))
seen_more v w seen = ap not (list_any-append (bytes_eq v) seen (w ∷ [])) ∙ ap (λ b. not (list_any (bytes_eq v) seen || (b || false))) (nat_list_eq_equiv.symm v w) ∙ by_tests (list_any (bytes_eq v) seen) (bytes_eq w v)
  where
    by_tests : (a b : Bool) → not (a || (b || false)) ≡ (not b && not a)
    by_tests true true = refl
    by_tests true false = refl
    by_tests false true = refl
    by_tests false false = refl

-- a new word goes behind those that were seen
pub new_word : (w : List ℕ) (seen ws : List (List ℕ)) → list_any (bytes_eq w) seen ≡ false → seen ++ unseen seen (first_occurrences (w ∷ ws)) ≡ (seen ++ w ∷ []) ++ unseen (seen ++ w ∷ []) (first_occurrences ws)
new_word w seen ws h =
    let e : filter (λ v. not (list_any (bytes_eq v) seen)) (without w (first_occurrences ws)) ≡ unseen (seen ++ w ∷ []) (first_occurrences ws)
    = filter_twice (λ v. not (list_any (bytes_eq v) seen)) (λ v. not (bytes_eq w v)) (λ v. not (list_any (bytes_eq v) (seen ++ w ∷ []))) (λ v. seen_more v w seen) (first_occurrences ws) in
    ap (λ b. seen ++ cond (not b) (w ∷ filter (λ v. not (list_any (bytes_eq v) seen)) (without w (first_occurrences ws))) (filter (λ v. not (list_any (bytes_eq v) seen)) (without w (first_occurrences ws)))) h
    ∙ ap (λ vs. seen ++ w ∷ vs) e
    ∙ sym (append_assoc seen (w ∷ []) (unseen (seen ++ w ∷ []) (first_occurrences ws)))

-- ---- a loop over words

-- the set has these words
abbrev pub HasWords : BTreeSet (Bor (List ℕ)) → List (List ℕ) → Type 0
HasWords set found = (w : List ℕ) → contains_by (λ k. slice_cmp nat_cmp w k.now) set ≡ list_any (bytes_eq w) found

pub no_words : (set : BTreeSet (Bor (List ℕ))) (found : List (List ℕ)) → IsEmpty set → found ≡ [] → HasWords set found
no_words set found e f w = ap (λ ks. list_any (is_at (λ k. slice_cmp nat_cmp w k.now)) ks) e ∙ ap (λ ws. list_any (bytes_eq w) ws) (sym f)

all_unseen : (ws : List (List ℕ)) → unseen [] ws ≡ ws
all_unseen [] = refl
all_unseen (w ∷ ws) = ap (λ vs. w ∷ vs) (all_unseen ws)

pub at_start : (words found : List (List ℕ)) → found ≡ [] → found ++ unseen found (first_occurrences words) ≡ first_occurrences words
at_start words found e = rw e (all_unseen (first_occurrences words))

pub more_words : (old new : BTreeSet (Bor (List ℕ))) (key : Bor (List ℕ)) (found : List (List ℕ)) → Updates (λ x y. slice_cmp nat_cmp x.now y.now) old new key true → HasWords old found → HasWords new (found ++ key.now ∷ [])
more_words old new key found u h w =
    u.0 (record { ref_ptr = (0, 0); now = w })
    ∙ ap₂ (λ a b. cond a true b) (is_eq-slice_cmp key.now w) (h w)
    ∙ by_tests (bytes_eq key.now w) (list_any (bytes_eq w) found)
    ∙ ap (λ b. list_any (bytes_eq w) found || (b || false)) (nat_list_eq_equiv.symm key.now w)
    ∙ sym (list_any-append (bytes_eq w) found (key.now ∷ []))
  where
    by_tests : (a b : Bool) → cond a true b ≡ (b || (a || false))
    by_tests true true = refl
    by_tests true false = refl
    by_tests false true = refl
    by_tests false false = refl

pub same_words : (old new : BTreeSet (Bor (List ℕ))) (found : List (List ℕ)) → IsUnchanged old new → HasWords old found → HasWords new found
same_words old new found u h w = ap (λ ks. list_any (is_at (λ k. slice_cmp nat_cmp w k.now)) ks) u ∙ h w

pub old_found : (words found : List (List ℕ)) (i : ℕ) (word : List ℕ) → i < length words → word ≡ get_or words i word → list_any (bytes_eq word) found ≡ true
    → found ++ unseen found (first_occurrences (drop i words)) ≡ first_occurrences words → found ++ unseen found (first_occurrences (drop (i + 1) words)) ≡ first_occurrences words
old_found words found i word h e old rest =
    ap (λ vs. found ++ vs) (sym (old_word word found (drop (i + 1) words) old)) ∙ ap (λ vs. found ++ unseen found (first_occurrences vs)) (sym (drop_at words i word h e)) ∙ rest

pub new_found : (words found : List (List ℕ)) (i : ℕ) (word : List ℕ) → i < length words → word ≡ get_or words i word → list_any (bytes_eq word) found ≡ false
    → found ++ unseen found (first_occurrences (drop i words)) ≡ first_occurrences words → (found ++ word ∷ []) ++ unseen (found ++ word ∷ []) (first_occurrences (drop (i + 1) words)) ≡ first_occurrences words
new_found words found i word h e new rest =
    sym (new_word word found (drop (i + 1) words) new) ∙ ap (λ vs. found ++ unseen found (first_occurrences vs)) (sym (drop_at words i word h e)) ∙ rest
