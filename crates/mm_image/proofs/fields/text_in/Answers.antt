use Rattle.std.proofs.Common.{◌≡◌, ℕ, ◌∙◌, ap, sym, Bool, cond, ◌&&◌, not, Some, None, List, false, true, refl}
use Rattle.std.specs.List.{list_all}
use Rattle.std.specs.Str.{chars}
use Rattle.mm_tree.specs.declared.plain.Kind.TheVariants.{Words}
use Rattle.mm_tree.specs.Characters.{is_char, is_space}
use Rattle.mm_tree.specs.Validity.{are_chars, is_blank}
use Rattle.mm_image.specs.Fields.{is_text}
use Rattle.mm_image.proofs.Getting.{chars_no, chars_none}
use Rattle.mm_image.proofs.fields.text_in.Goals as goal
use Rattle.mm_image.proofs.fields.text_in.Goals.{in_default-via-in-Ok+then-are_chars+else-not-is_blank, in_default-via-in-Ok+else-are_chars, in_default-via-in_default}

first_false : (a b : Bool) → a ≡ false → (a && b) ≡ false
first_false true b e = absurd cc
first_false false b e = refl

second_false : (a b : Bool) → b ≡ true → (a && not b) ≡ false
second_false true true e = refl
second_false false b e = refl
second_false true false e = absurd cc

pub returns-in_default : goal.returns-in_default
returns-in_default c =
    let bytes = c.args.bytes.now in
    let none_there : is_text bytes ≡ false = elim c.in_default.branch [
      | in_default-via-in-Ok+then-are_chars+else-not-is_blank w ↦ second_false (are_chars bytes) (is_blank bytes) (ap (λ (z : List ℕ). list_all is_space (chars z)) (sym w.in-Ok.ensures.cases.0) ∙ sym w.if-not-is_blank.ensures)
      | in_default-via-in-Ok+else-are_chars w ↦ first_false (are_chars bytes) (not (is_blank bytes)) (chars_no bytes (ap (λ (z : List ℕ). list_all is_char (chars z)) (sym w.in-Ok.ensures.cases.0) ∙ sym w.if-are_chars.ensures))
      | in_default-via-in_default w ↦ first_false (are_chars bytes) (not (is_blank bytes)) (chars_none bytes w.in_default.ensures.cases.0)
    ] in
    sym (ap (λ (t : Bool). cond t (Some (Words bytes)) None) none_there)
