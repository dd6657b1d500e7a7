-- Bytes that are joined out of full pieces and a last one are cut into these.
use Rattle.std.proofs.Common.{◌≡◌, ℕ, zero, suc, ◌+◌, ◌*◌, ◌/◌, ◌<◌, ◌≤◌, List, [], ◌∷◌, ◌++◌, refl, ap, sym, ◌∙◌, length, take, drop, map, arith}
use Rattle.std.proofs.lemmas.List.{append-nil, append_assoc, length-append}
use Rattle.std.specs.List.{range_with_len}
use Rattle.mm_image.specs.Content.{piece_limit}
use Rattle.mm_image.specs.Inside.Cutting.{AreFull, join, pieces_of}
use Rattle.mm_image.specs.Facts.Pieces.{take_all}

pub join_push : (ps : List (List ℕ)) (p : List ℕ) → join (ps ++ p ∷ []) ≡ join ps ++ p
join_push [] p = append-nil p
join_push (q ∷ ps) p = ap (λ (z : List ℕ). q ++ z) (join_push ps p) ∙ sym (append_assoc q (join ps) p)

pub full_push : (ps : List (List ℕ)) (p : List ℕ) → AreFull ps → length p ≡ piece_limit → AreFull (ps ++ p ∷ [])
full_push [] p f e = (e, tt)
full_push (q ∷ ps) p f e = (f.0, full_push ps p f.1 e)

-- ---- the pieces of bytes

drop_behind : (p r : List ℕ) (n : ℕ) → drop (length p + n) (p ++ r) ≡ drop n r
drop_behind [] r n = ap (λ (k : ℕ). drop k r) (omega arith)
drop_behind (x ∷ p) r n = let e : length (x ∷ p) + n ≡ suc (length p + n) = omega arith in ap (λ (k : ℕ). drop k (x ∷ p ++ r)) e ∙ drop_behind p r n

pub take_front : (p r : List ℕ) → take (length p) (p ++ r) ≡ p
take_front [] r = refl
take_front (x ∷ p) r = ap (λ (z : List ℕ). x ∷ z) (take_front p r)

shifted : {X : Type 0} (f g : ℕ → X) → ((i : ℕ) → f (i + 1) ≡ g i) → (n a : ℕ) → map f (range_with_len (a + 1) n) ≡ map g (range_with_len a n)
shifted f g h zero a = refl
shifted f g h (suc n) a = let t = h a in let u = shifted f g h n (a + 1) in cc

count_more : (p r : List ℕ) → length p ≡ piece_limit → (length (p ++ r) + 999) / 1000 ≡ suc ((length r + 999) / 1000)
count_more p r e = let t = length-append p r in omega arith

abbrev cut : List ℕ → ℕ → List ℕ
cut bytes i = take piece_limit (drop (piece_limit * i) bytes)

-- a full piece and what stands behind it
pub one_more : (p r : List ℕ) → length p ≡ piece_limit → pieces_of (p ++ r) ≡ p ∷ pieces_of r
one_more p r e =
    let first : take piece_limit (p ++ r) ≡ p = ap (λ (k : ℕ). take k (p ++ r)) (sym e) ∙ take_front p r in
    let later : (i : ℕ) → cut (p ++ r) (i + 1) ≡ cut r i = λ i.
    let m : piece_limit * (i + 1) ≡ length p + piece_limit * i = omega arith in
    ap (take piece_limit) (ap (λ (k : ℕ). drop k (p ++ r)) m ∙ drop_behind p r (piece_limit * i)) in
    let s = shifted (cut (p ++ r)) (cut r) later ((length r + 999) / 1000) 0 in
    ap (λ (n : ℕ). map (cut (p ++ r)) (range_with_len 0 n)) (count_more p r e) ∙ both first s
  where
    both : {X : Type 0} {x y : X} {xs ys : List X} → x ≡ y → xs ≡ ys → x ∷ xs ≡ y ∷ ys
    both h k = cc

pub cut_with_last : (ps : List (List ℕ)) (last : List ℕ) → AreFull ps → 0 < length last → length last ≤ piece_limit → pieces_of (join ps ++ last) ≡ ps ++ last ∷ []
cut_with_last [] last f s l =
    let n : (length last + 999) / 1000 ≡ 1 = omega arith in
    ap (λ (n : ℕ). map (cut last) (range_with_len 0 n)) n ∙ ap (λ (z : List ℕ). z ∷ []) (take_all piece_limit last l)
cut_with_last (p ∷ ps) last f s l =
    ap pieces_of (append_assoc p (join ps) last) ∙ (one_more p (join ps ++ last) f.0 ∙ ap (λ (z : List (List ℕ)). p ∷ z) (cut_with_last ps last f.1 s l))

pub cut_full : (ps : List (List ℕ)) → AreFull ps → pieces_of (join ps) ≡ ps
cut_full [] f = refl
cut_full (p ∷ ps) f = one_more p (join ps) f.0 ∙ ap (λ (z : List (List ℕ)). p ∷ z) (cut_full ps f.1)

pub no_items : (xs : List ℕ) → length xs ≡ 0 → xs ≡ []
no_items [] l = refl
no_items (x ∷ xs) l = absurd (omega arith)
