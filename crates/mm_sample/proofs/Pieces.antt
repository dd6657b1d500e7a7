-- Texts that are written piece by piece, each from its draws.
use Rattle.std.proofs.Common.{◌≡◌, ℕ, zero, suc, ◌+◌, ◌-◌, ◌*◌, ◌<◌, ◌≤◌, List, [], ◌∷◌, ◌++◌, sym, ◌∙◌, ap, arith, append_assoc, if◌then◌else◌, is_ok, OnOk, Result, Ok, Err}
use Rattle.std.proofs.lemmas.List.{append-nil}
use Rattle.std.proofs.lemmas.List.Folds.{concat-append}
use Rattle.std.specs.Prelude.{codes}
use Rattle.std.specs.List.{concat}
use Rattle.mm_sample.specs.Draws.{next, after}
use Rattle.mm_sample.specs.Script.{section, sections, load, loads, change, change_end, search_line, rounds, script_text}

pub written : {T E : Type 0} (r : Result T E) (items longer bytes piece : List ℕ) → longer ≡ (if is_ok r then items ++ bytes else items) → bytes ≡ piece → OnOk r (longer ≡ items ++ piece)
written (Ok t) items longer bytes piece e p = e ∙ ap (λ b. items ++ b) p
written (Err x) items longer bytes piece e p = tt

-- draws follow one another
pub after-add : (m n x : ℕ) → after (m + n) x ≡ after n (after m x)
unfolding after
after-add zero n x = let e : 0 + n ≡ n = omega arith in ap (λ k. after k x) e
after-add (suc m) n x = let e : suc m + n ≡ suc (m + n) = omega arith in ap (λ k. after k x) e ∙ after-add m n (next x)

-- one more piece, from k draws
pub drawn_on : (k i x y z : ℕ) → y ≡ after (k * i) x → z ≡ after k y → z ≡ after (k * (i + 1)) x
drawn_on k i x y z e f = let m : k * i + k ≡ k * (i + 1) = omega arith in f ∙ (ap (λ n. after k n) e ∙ (sym (after-add (k * i) k x) ∙ ap (λ n. after n x) m))

-- one more piece is written: what is left becomes less by it
pub piece_by_piece : (items piece more rest longer whole : List ℕ) → items ++ rest ≡ whole → rest ≡ piece ++ more → longer ≡ items ++ piece → longer ++ more ≡ whole
piece_by_piece items piece more rest longer whole h r n = ap (λ t. t ++ more) n ∙ (append_assoc items piece more ∙ (ap (λ t. items ++ t) (sym r) ∙ h))

pub two_pieces : (items first second one both : List ℕ) → one ≡ items ++ first → both ≡ one ++ second → both ≡ items ++ (first ++ second)
two_pieces items first second one both e f = f ∙ (ap (λ t. t ++ second) e ∙ append_assoc items first second)

-- ---- sections

pub sections_left : (n i x y : ℕ) → i < n → y ≡ after 4 x → sections (n - i) x ≡ section x ++ sections (n - (i + 1)) y
unfolding sections
sections_left n i x y h e = let k : n - i ≡ suc (n - (i + 1)) = omega arith in ap (λ m. sections m x) k ∙ ap (λ z. section x ++ sections (n - (i + 1)) z) (sym e)

pub all_sections : (n i x : ℕ) (items whole : List ℕ) → n ≤ i → items ++ sections (n - i) x ≡ whole → items ≡ whole
unfolding sections
all_sections n i x items whole h e = let k : n - i ≡ 0 = omega arith in sym (append-nil items) ∙ (ap (λ m. items ++ sections m x) (sym k) ∙ e)

-- ---- loads

pub loads_left : (n i x y : ℕ) → i < n → y ≡ after 32 x → concat (loads (n - i) i x) ≡ load i x ++ concat (loads (n - (i + 1)) (i + 1) y)
unfolding loads
loads_left n i x y h e = let k : n - i ≡ suc (n - (i + 1)) = omega arith in ap (λ m. concat (loads m i x)) k ∙ ap (λ z. load i x ++ concat (loads (n - (i + 1)) (i + 1) z)) (sym e)

pub all_loads : (n i x : ℕ) (items whole : List ℕ) → n ≤ i → items ++ concat (loads (n - i) i x) ≡ whole → items ≡ whole
unfolding loads
all_loads n i x items whole h e = let k : n - i ≡ 0 = omega arith in sym (append-nil items) ∙ (ap (λ m. items ++ concat (loads m i x)) (sym k) ∙ e)

-- ---- rounds

pub rounds_left : (n i x y z : ℕ) → i < n → y ≡ change_end x → z ≡ after 3 y → concat (rounds (n - i) x) ≡ (change x ++ search_line y) ++ concat (rounds (n - (i + 1)) z)
unfolding rounds
rounds_left n i x y z h e f =
    let k : n - i ≡ suc (n - (i + 1)) = omega arith in
    ap (λ m. concat (rounds m x)) k ∙ (sym (append_assoc (change x) (search_line (change_end x)) (concat (rounds (n - (i + 1)) (after 3 (change_end x)))))
    ∙ (ap (λ t. (change x ++ search_line t) ++ concat (rounds (n - (i + 1)) (after 3 t))) (sym e) ∙ ap (λ t. (change x ++ search_line y) ++ concat (rounds (n - (i + 1)) t)) (sym f)))

pub all_rounds : (n i x : ℕ) (items whole : List ℕ) → n ≤ i → items ++ concat (rounds (n - i) x) ≡ whole → items ≡ whole
unfolding rounds
all_rounds n i x items whole h e = let k : n - i ≡ 0 = omega arith in sym (append-nil items) ∙ (ap (λ m. items ++ concat (rounds m x)) (sym k) ∙ e)

-- ---- the whole

pub whole_script : (seed start x : ℕ) (empty loaded edited all : List ℕ) → start ≡ seed → empty ≡ [] → loaded ≡ empty ++ concat (loads 200 0 start) → x ≡ after 6400 start → edited ≡ loaded ++ concat (rounds 300 x) → all ≡ edited ++ codes "check\n" → all ≡ script_text seed
unfolding script_text
whole_script seed start x empty loaded edited all s e l d r a =
    a ∙ (ap (λ t. t ++ codes "check\n") (r ∙ (ap (λ t. t ++ concat (rounds 300 x)) (l ∙ (ap (λ t. t ++ concat (loads 200 0 start)) e ∙ ap (λ n. concat (loads 200 0 n)) s)) ∙ ap (λ n. concat (loads 200 0 seed) ++ concat (rounds 300 n)) (d ∙ ap (λ n. after 6400 n) s)))
    ∙ (append_assoc (concat (loads 200 0 seed)) (concat (rounds 300 (after 6400 seed))) (codes "check\n")
    ∙ (ap (λ t. concat (loads 200 0 seed) ++ t) (sym (concat-append (rounds 300 (after 6400 seed)) (codes "check\n" ∷ [])))
    ∙ sym (concat-append (loads 200 0 seed) (rounds 300 (after 6400 seed) ++ codes "check\n" ∷ [])))))
