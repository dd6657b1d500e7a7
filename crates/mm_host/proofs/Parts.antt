-- Bytes moved in parts.
use Rattle.std.proofs.Common.{◌≡◌, ℕ, ◌+◌, ◌-◌, min, List, ◌++◌, length, take, drop, refl, ap, sym, ◌∙◌, append_assoc, None, Some, Ok, arith, length-take, length-drop, length-append}
use Rattle.std.proofs.Math.Seq.{take-add}
use Rattle.std.proofs.lemmas.List.{take-append-drop, take_all, drop-drop, nil_from_length, take_at}
use Rattle.std.specs.declared.option.Option.{Option}
use Rattle.std.specs.Io.KnownBytes.{append_known}
use Rattle.mm_host.specs.declared.failed.Failed.{Failed}
use Rattle.mm_host.specs.Moves.{Reads}

pub append_known-twice : (a : Option (List ℕ)) (xs ys : List ℕ) → append_known (append_known a xs) ys ≡ append_known a (xs ++ ys)
append_known-twice None xs ys = refl
append_known-twice (Some bs) xs ys = ap (λ l. Some l) (append_assoc bs xs ys)

-- a slice's end is the list's
pub part-to_end : (n : ℕ) (xs : List ℕ) → take (length xs - n) (drop n xs) ≡ drop n xs
part-to_end n xs = take_all _ _ (omega (arith, length-drop n xs))

-- what is written of a piece, and then more of it
pub written-more : (a b c : Option (List ℕ)) (n m : ℕ) (piece : List ℕ) → b ≡ append_known a (take n piece)
    → c ≡ append_known b (take m (take (length piece - n) (drop n piece))) → c ≡ append_known a (take (n + m) piece)
written-more a b c n m piece e f =
    f ∙ ap (λ l. append_known b (take m l)) (part-to_end n piece) ∙ ap (λ o. append_known o (take m (drop n piece))) e
    ∙ append_known-twice a _ _ ∙ ap (append_known a) (sym (take-add n m piece))

-- a read of the front of what is left
pub reads-front : (bytes into front : List ℕ) (at n : ℕ) → n ≡ min (length (take (length bytes - at) (drop at bytes))) (length into)
    → front ≡ take n (take (length bytes - at) (drop at bytes)) → Reads {E = Failed} (Some (drop at bytes)) (Some (drop (at + n) bytes)) (Ok n) (front ++ drop n into)
reads-front bytes into front at n count is_front =
    let whole : take (length bytes - at) (drop at bytes) ≡ drop at bytes = part-to_end at bytes in
    let same : front ≡ take n (drop at bytes) = is_front ∙ ap (take n) whole in
    let same_length : length (take (length bytes - at) (drop at bytes)) ≡ length (drop at bytes) = ap length whole in
    let front_length : length front ≡ min n (length (drop at bytes)) = ap length same ∙ length-take n (drop at bytes) in
    let cut : take n (front ++ drop n into) ≡ front = take_at front (drop n into) n (omega arith) in
    record {
      moved = ap (λ l. Some l) (sym (take-append-drop n (drop at bytes)) ∙ ap (λ l. l ++ drop n (drop at bytes)) (sym same ∙ sym cut) ∙ ap (λ l. take n (front ++ drop n into) ++ l) (drop-drop n at bytes));
      none_left = λ none room. nil_from_length (drop at bytes) (omega (arith, length-append front (drop n into), length-drop n into));
    }
