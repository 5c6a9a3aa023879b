use Rattle.process_lives.specs.Servers.{server_code}
use Rattle.process_lives.proofs.Servers.{lives_keep_one_list}
use Rattle.process_lives.proofs.laws.lives_keep_one_list.Goals as goal

pub returns : goal.returns
returns g c = λ n past now lived.
    let p = g.P.ServerProcess in
    lives_keep_one_list g.M.Machine.spec n (server_code p.replay p.turn (p.begins_with n) (p.header n) p.is_frame) g.met.M.Machine.lawful (g.met.P.ServerProcess.runs n) past now lived
