use Rattle.raft_snapshot.proofs.TextLaws.{stable_lawful, stable_found, stable_only, stable_apart}
use Rattle.raft_snapshot.proofs.laws.stable_texts_are_whole.Goals as goal

pub returns : goal.returns
returns g c =
    let m = g.M.Machine.spec in
    let law = g.met.M.Machine.lawful in
    record {
      lawful = λ version. stable_lawful m version (law.commands_lawful version) (law.states_lawful version);
      again = stable_only m law;
      found = stable_found m law;
      apart = stable_apart m law;
    }
