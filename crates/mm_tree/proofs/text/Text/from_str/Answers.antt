-- What a `str` lends is UTF-8, and so is its copy.
use Rattle.std.proofs.Common.{sym, subst}
use Rattle.std.specs.Str.{IsUtf8}
use Rattle.std.proofs.lemmas.Str.{is_utf8-from_IsUtf8}
use Rattle.mm_tree.proofs.text.Text.from_str.Goals as goal

pub invariant_of-result : goal.invariant_of-result
invariant_of-result c = is_utf8-from_IsUtf8 _ (subst IsUtf8 (sym c.in_ok-bytes.ensures.ok) c.as_bytes.ensures.utf8)
