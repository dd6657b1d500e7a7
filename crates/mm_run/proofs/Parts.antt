-- A line that comes in parts.
use Rattle.std.proofs.Common.{◌≡◌, ℕ, ◌<◌, ◌≤◌, List, [], ◌∷◌, ◌++◌, length, take, ap, sym, ◌∙◌, arith, ⊎_elim, length-append, append_assoc, append-nil, Ok}
use Rattle.std.proofs.lemmas.List.{take_all, take-take, take-append-le, length-take-le}
use Rattle.std.proofs.lemmas.Bool.{cases_lt}
use Rattle.std.specs.declared.option.Option.{Option}
use Rattle.std.specs.Io.KnownBytes.{prepend_known, IsAtEnd}
use Rattle.mm_run.specs.declared.line.Ending.TheVariants.{Feed, Input}
use Rattle.mm_run.specs.Inside.Buffer.{Buffered}
use Rattle.mm_run.specs.Lines.{HasNoLineFeed}
use Rattle.mm_run.specs.Inside.Input.{rest, reach, Went}
use Rattle.mm_run.specs.Inside.Step.{KeepsLine, WentPart, WentSome, GivesLine}
use Rattle.mm_run.proofs.Going.{prepend_known-append, went-none, went-more, went-still, no_feed-append}

-- what is cut from the front may be cut again
take-take-append : (n : ℕ) (xs ys : List ℕ) → take n (take n xs ++ ys) ≡ take n (xs ++ ys)
take-take-append n xs ys = ⊎_elim
    (λ (short : length xs < n). ap (λ l. take n (l ++ ys)) (take_all n xs (omega arith)))
    (λ (long : n ≤ length xs).
    let cut : n ≤ length (take n xs) = omega (arith, length-take-le n xs long) in
    take-append-le n (take n xs) ys cut ∙ take-take n n xs (omega arith) ∙ sym (take-append-le n xs ys long))
    (cases_lt (length xs) n)

-- a line so far, which has no end yet
pub record SoFar (before after : Option (List ℕ)) (n m : ℕ) (text text' : List ℕ) (limit : ℕ) : Type 0 where
  pub line : List ℕ
  pub went : Went before after n m line
  pub keeps : KeepsLine text text' limit line

pub so_far-start : (known : Option (List ℕ)) (n : ℕ) (text : List ℕ) (limit : ℕ) → length text ≤ limit → SoFar known known n n text text limit
so_far-start known n text limit room = record {
  line = [];
  went = went-none known n;
  keeps = record { part = tt; kept = sym (ap (take limit) (append-nil text) ∙ take_all limit text room) };
}

-- what went out of a buffer
taken : (left : Option (List ℕ)) (buffer buffer' : Buffered) (part : List ℕ) → buffer.held ≡ part ++ buffer'.held → buffer'.room ≡ buffer.room
    → Went (rest left buffer) (rest left buffer') (reach buffer) (reach buffer') part
taken left buffer buffer' part split room = record {
  bytes = ap (λ l. prepend_known l left) split ∙ prepend_known-append part buffer'.held left;
  count = omega (arith, ap length split, length-append part buffer'.held, room);
}

module _ {before after : Option (List ℕ)} {n m limit : ℕ} {text text' : List ℕ} (so : SoFar before after n m text text' limit) where
  pub so_far-still : (c : Option (List ℕ)) (k : ℕ) → Went after c m k [] → SoFar before c n k text text' limit
  so_far-still c k still = record { line = so.line; went = went-still so.went still; keeps = so.keeps }

  kept-more : (part : List ℕ) → HasNoLineFeed part → (text'' : List ℕ) → text'' ≡ take limit (text' ++ part) → KeepsLine text text'' limit (so.line ++ part)
  kept-more part none text'' is = record {
    part = no_feed-append so.line part so.keeps.part none;
    kept = is ∙ ap (λ l. take limit (l ++ part)) so.keeps.kept ∙ take-take-append limit (text ++ so.line) part ∙ ap (take limit) (append_assoc text so.line part);
  }

  pub so_far-end : IsAtEnd after → 0 < m → GivesLine before after n m text text' limit (Ok Input)
  so_far-end end few = (so.line, so.went, so.keeps, end, few)

  pub so_far-rest : WentPart before after n m
  so_far-rest = record { got = so.line; went = so.went; part = so.keeps.part }

  pub so_far-some : WentSome before after n m
  so_far-some = record { got = so.line; went = so.went }

  pub so_far-part : {c : Option (List ℕ)} {k : ℕ} (part : List ℕ) → Went after c m k part → HasNoLineFeed part → (text'' : List ℕ) → text'' ≡ take limit (text' ++ part) → SoFar before c n k text text'' limit
  so_far-part part went none text'' is = record { line = so.line ++ part; went = went-more so.went went; keeps = kept-more part none text'' is }

  pub so_far-feed : {c : Option (List ℕ)} {k : ℕ} (part : List ℕ) → Went after c m k (part ++ 10 ∷ []) → HasNoLineFeed part → (text'' : List ℕ) → text'' ≡ take limit (text' ++ part)
      → GivesLine before c n k text text'' limit (Ok Feed)
  so_far-feed {c} {k} part went none text'' is = (
    so.line ++ part,
    (let both = went-more so.went went in record { bytes = both.bytes ∙ ap (λ l. prepend_known l c) (sym (append_assoc so.line part (10 ∷ []))); count = omega (arith, both.count, length-append so.line (part ++ 10 ∷ []), length-append so.line part, length-append part (10 ∷ []), length-append (so.line ++ part) (10 ∷ [])) }),
    kept-more part none text'' is,
  )

-- the buffer hands out nothing
pub taken-none : (left : Option (List ℕ)) (buffer buffer' : Buffered) → buffer'.held ≡ buffer.held → buffer'.room ≡ buffer.room
    → Went (rest left buffer) (rest left buffer') (reach buffer) (reach buffer') []
taken-none left buffer buffer' same room = taken left buffer buffer' [] (sym same) room

-- the buffer hands out a line's end
pub taken-feed : (left : Option (List ℕ)) (buffer buffer' : Buffered) (part : List ℕ) → buffer.held ≡ part ++ 10 ∷ buffer'.held → buffer'.room ≡ buffer.room
    → Went (rest left buffer) (rest left buffer') (reach buffer) (reach buffer') (part ++ 10 ∷ [])
taken-feed left buffer buffer' part split room = taken left buffer buffer' (part ++ 10 ∷ []) (split ∙ sym (append_assoc part (10 ∷ []) buffer'.held)) room

-- the buffer hands out all that it holds
pub taken-all : (left : Option (List ℕ)) (buffer buffer' : Buffered) → buffer'.held ≡ [] → buffer'.room ≡ buffer.room
    → Went (rest left buffer) (rest left buffer') (reach buffer) (reach buffer') buffer.held
taken-all left buffer buffer' none room = taken left buffer buffer' buffer.held (sym (append-nil buffer.held) ∙ ap (λ l. buffer.held ++ l) (sym none)) room
