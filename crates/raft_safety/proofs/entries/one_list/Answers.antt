use Rattle.raft_safety.proofs.Chains.{st, chain, chain_one, chain_length, chain_front, greatest_one}
use Rattle.raft_safety.proofs.entries.one_list.Goals as goal

pub returns : goal.returns
returns g c = let m = g.M.Machine.spec in let law = g.met.M.Machine.lawful in record {
  exists = λ n events past w r. let s = st m law n events past w r in (s.list, chain m law n events past w r);
  alone = chain_one;
  long = chain_length;
  number = greatest_one;
  grows = λ past w list a k x short at b. chain_front past w list k x short a at b;
}
