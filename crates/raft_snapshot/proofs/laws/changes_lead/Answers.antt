use Rattle.raft_snapshot.proofs.Changes.{change_leads, shares_over}
use Rattle.raft_snapshot.proofs.laws.changes_lead.Goals as goal

pub returns-clause-change : goal.returns-clause-change
returns-clause-change g c = λ old new keep is. change_leads old new keep is

pub returns-clause-over : goal.returns-clause-over
returns-clause-over g c = λ old mid new j k i one two low high covered. shares_over old mid new j k i one two low high covered
