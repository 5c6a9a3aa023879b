use Rattle.group_safety.proofs.Chained as chained
use Rattle.group_safety.proofs.log.commit_is_final.Goals as goal

pub returns : goal.returns
returns g n nodes events past w r list c = chained.settled n nodes events past w r list c
