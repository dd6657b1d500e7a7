-- The words that a node holds itself, read out of the matches: those whose mark is among them.
use Rattle.std.specs.Prelude.{ℕ, ◌+◌, ◌≡◌, ◌&&◌, ◌||◌, Bool, true, List, [], ◌∷◌, nat_eq, nat_lt, if◌then◌else◌}
use Rattle.std.specs.List.{list_any}
use Rattle.std.specs.Cmp.Lexicographic.{pointwise, slice_cmp}
use Rattle.std.specs.Ordering.{int_cmp, int_eq, is_lt}
use Rattle.mm_label.specs.Fronts.{Label}
use Rattle.mm_match.specs.declared.mark.Mark.{Mark}

-- the mark stands before that of x with this bit: by the bits, then by the labels
abbrev pub is_before : ℕ → Label → Mark → Bool
is_before bit x m = nat_lt m.mask bit || (nat_eq m.mask bit && is_lt (slice_cmp int_cmp m.label x))

abbrev pub is_mark : ℕ → Label → Mark → Bool
is_mark bit x m = nat_eq m.mask bit && pointwise int_eq m.label x

-- one mark before another
abbrev pub Precedes : Mark → Mark → Type 0
Precedes a b = is_before b.mask b.label a ≡ true

-- of words whose bits go on from this one: those with a mark for x
abbrev pub marked_words : ℕ → List (List ℕ) → List Mark → Label → List (List ℕ)
marked_words bit [] marks x = []
marked_words bit (w ∷ ws) marks x = if list_any (is_mark bit x) marks then w ∷ marked_words (bit + bit) ws marks x else marked_words (bit + bit) ws marks x
