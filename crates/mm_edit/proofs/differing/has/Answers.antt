use Rattle.std.proofs.Common.{◌∙◌}
use Rattle.std.specs.Prelude.{option_map}
use Rattle.mm_image.specs.Keyed.{keyed}
use Rattle.mm_edit.proofs.Telling.{has_value, some_same}
use Rattle.mm_edit.proofs.differing.has.Goals as goal

pub returns : goal.returns
returns c = λ s. c.is_some.ensures ∙ some_same (λ e. e.now.value) c.find.result ∙ has_value c.args.key.now (keyed c.args.entries.now) (option_map (λ e. e.now.value) c.find.result) (c.find.ensures s)
