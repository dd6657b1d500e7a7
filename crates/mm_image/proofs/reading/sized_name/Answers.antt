use Rattle.std.proofs.Common.{◌≡◌, ℕ, List, sym, subst, ◌∙◌, false}
use Rattle.std.specs.Str.{chars}
use Rattle.mm_tree.specs.Characters.{is_short_name}
use Rattle.mm_tree.specs.Validity.{is_node_name}
use Rattle.mm_image.proofs.NameFacts.{unnamed, not_short, not_text}
use Rattle.mm_image.proofs.reading.sized_name.Goals as goal
use Rattle.mm_image.proofs.reading.sized_name.Goals.{in_default-via-in-Ok+else-is_short_name, in_default-via-in_default}

pub returns-in_default : goal.returns-in_default
returns-in_default c = elim c.in_default.branch [
  | in_default-via-in-Ok+else-is_short_name w ↦
      let name = w.in-Ok.ensures.cases.0 in
      let short : is_short_name (chars w.in-Ok.name.now) ≡ false = sym w.is_short_name.ensures ∙ w.if-is_short_name.false in
      unnamed c.args.bytes.now c.read_u16-size.result c.read_u16-size.ensures (subst (λ (z : List ℕ). is_node_name z ≡ false) name (not_short w.in-Ok.name.now short))
  | in_default-via-in_default w ↦
      unnamed c.args.bytes.now c.read_u16-size.result c.read_u16-size.ensures (not_text _ w.in_default.ensures.cases.0)
]
