use Rattle.std.proofs.Common.{◌≡◌, ℕ, ◌∙◌, ap, sym, Bool, List, false, true}
use Rattle.std.proofs.lemmas.Result.{err_from_is_err_and}
use Rattle.std.specs.Str.{chars}
use Rattle.mm_tree.specs.Characters.{is_short_name}
use Rattle.mm_tree.specs.Validity.{is_node_name}
use Rattle.mm_image.specs.Fields.{given, Right}
use Rattle.mm_image.proofs.Getting.{name_got, name_no_bytes, name_no_size, name_yes}
use Rattle.mm_image.proofs.NameFacts.{not_short, not_text}
use Rattle.mm_image.proofs.fields.name_at.Goals as goal
use Rattle.mm_image.proofs.fields.name_at.Goals.{in_default-via-in-Ok+else-is_short_name, in_default-via-in_default}

pub returns-in_err-size : goal.returns-in_err-size
returns-in_err-size c =
    let p = err_from_is_err_and c.from_residual.result c.from_residual.ensures.1 in
    rw (p.1, p.2) (name_no_size c.in_err-size.field-0.0 c.args.bytes.now c.in_err-size.ensures)

pub returns-in_err-name : goal.returns-in_err-name
returns-in_err-name c =
    let p = err_from_is_err_and c.from_residual-in_err-name.result c.from_residual-in_err-name.ensures.1 in
    rw (p.1, p.2) (name_no_bytes c.in_err-name.field-0.0 c.args.bytes.now c.in_ok-size.size c.in_ok-size.rest.now c.in_ok-size.ensures c.if-size-eq0.false c.if-size-gt-NAME_LIMIT.false c.in_err-name.ensures)

pub returns-in-Ok : goal.returns-in-Ok
returns-in-Ok c =
    let name = c.in_ok-name.name.now in
    let rest = c.in_ok-name.rest.now in
    let cases = c.in-Ok.ensures.cases in
    let yes : is_node_name name ≡ true = name_yes name cases.1 (ap (λ (z : List ℕ). is_short_name (chars z)) (sym cases.0) ∙ sym c.if-is_short_name.ensures) in
    name_got c.args.bytes.now c.in_ok-size.size c.in_ok-size.rest.now name rest c.in_ok-size.ensures c.if-size-eq0.false c.if-size-gt-NAME_LIMIT.false c.in_ok-name.ensures
    ∙ ap (λ (t : Bool). given t name rest) yes
    ∙ ap (λ (z : List ℕ). Right z rest) (sym cases.0)

pub returns-in_default : goal.returns-in_default
returns-in_default c =
    let name = c.in_ok-name.name.now in
    let rest = c.in_ok-name.rest.now in
    let no : is_node_name name ≡ false = elim c.in_default.branch [
      | in_default-via-in-Ok+else-is_short_name w ↦ not_short name (ap (λ (z : List ℕ). is_short_name (chars z)) (sym w.in-Ok.ensures.cases.0) ∙ sym w.if-is_short_name.ensures)
      | in_default-via-in_default w ↦ not_text name w.in_default.ensures.cases.0
    ] in
    name_got c.args.bytes.now c.in_ok-size.size c.in_ok-size.rest.now name rest c.in_ok-size.ensures c.if-size-eq0.false c.if-size-gt-NAME_LIMIT.false c.in_ok-name.ensures
    ∙ ap (λ (t : Bool). given t name rest) no
