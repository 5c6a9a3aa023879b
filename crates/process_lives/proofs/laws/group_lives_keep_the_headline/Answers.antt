use Rattle.process_lives.proofs.Groups.{group_lives_keep_the_headline}
use Rattle.process_lives.proofs.laws.group_lives_keep_the_headline.Goals as goal

pub returns : goal.returns
returns g c = λ n nodes past now lived.
    let server = g.S.GroupServerProcess in
    let client = g.C.GroupClientProcess in
    group_lives_keep_the_headline server.raft server.shows client.size client.agent n nodes server.replay server.turn (server.begins_with n) (server.header n) client.replay client.turn (client.begins_with n nodes) (client.header n nodes)
    (server.runs n) (client.runs n nodes) past now lived
