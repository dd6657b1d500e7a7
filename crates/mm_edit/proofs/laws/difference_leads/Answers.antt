use Rattle.mm_edit.proofs.Leading.{difference_leads, difference_is_apart, difference_rises, difference_is_least}
use Rattle.mm_edit.proofs.laws.difference_leads.Goals as goal

pub returns : goal.returns
returns c = record { leads = difference_leads; apart = difference_is_apart; rises = difference_rises; least = difference_is_least }
