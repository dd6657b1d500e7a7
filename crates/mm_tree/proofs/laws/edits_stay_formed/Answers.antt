use Rattle.mm_tree.proofs.StayingLaws.{load_stays, insert_stays, delete_stays, replace_stays}
use Rattle.mm_tree.proofs.laws.edits_stay_formed.Goals as goal

pub returns-clause-load : goal.returns-clause-load
returns-clause-load c = load_stays c.lies_between.ensures

pub returns-clause-insert : goal.returns-clause-insert
returns-clause-insert c = insert_stays c.lies_between.ensures

pub returns-clause-delete : goal.returns-clause-delete
returns-clause-delete c = delete_stays

pub returns-clause-replace : goal.returns-clause-replace
returns-clause-replace c = replace_stays
