use Rattle.group_model.proofs.Following.{broker_follows, counts_follow}
use Rattle.group_model.proofs.laws.one_row_changes_the_desk.Goals as goal

pub returns : goal.returns
returns g = record { broker = broker_follows; counts = counts_follow }
