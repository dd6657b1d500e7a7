use Rattle.mm_tree.proofs.UntouchedLaws.{load_leaves, insert_leaves, delete_leaves, replace_leaves}
use Rattle.mm_tree.proofs.laws.untouched.Goals as goal

pub returns : goal.returns
returns c = record { load = load_leaves; insert = insert_leaves; delete = delete_leaves; replace = replace_leaves }
