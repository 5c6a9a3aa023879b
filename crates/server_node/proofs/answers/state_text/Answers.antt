use Rattle.server_node.proofs.Standing.{state_down, state_up}
use Rattle.server_node.proofs.answers.state_text.Goals as goal

pub returns-in_ok-append-in-Some : goal.returns-in_ok-append-in-Some
returns-in_ok-append-in-Some c = λ s r.
    let got = c.in-Some.ensures s r in
    state_up s.raft c.in-Some.state.now c.new-text.result.items c.append.new.out.items got.0 got.1 c.new-text.ensures.items c.in_ok-append-in-Some.ensures.1

pub returns-in-None : goal.returns-in-None
returns-in-None c = λ s r. state_down s.raft c.new-text.result.items (c.in-None.ensures s r) c.new-text.ensures.items
