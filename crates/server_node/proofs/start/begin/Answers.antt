use Rattle.std.proofs.Common.{option_map, subst, sym}
use Rattle.fsm_model.specs.ClusterMachine.{cluster_spec}
use Rattle.raft_core.specs.Steps.{Stores}
use Rattle.raft_records.specs.Starts.{IsStored}
use Rattle.server_node.specs.Lives.{BeginsWith, header_text}
use Rattle.server_node.specs.Nodes.{NodeView}
use Rattle.server_node.proofs.start.begin.Goals as goal

pub returns-in-Ok-restart-clause-begins : goal.returns-in-Ok-restart-clause-begins
returns-in-Ok-restart-clause-begins c = λ is.
    let store = option_map (λ text. text.now) c.args.stored in
    let here = subst (λ h. IsStored cluster_spec h store c.in-Ok.stable) is c.in-Ok.ensures.stored in
    subst (λ (v : NodeView). BeginsWith c.args.size c.args.me store v) (sym c.new.ensures)
    (record {
      member = c.in-Ok-restart.ensures.member;
      place = c.in-Ok-restart.ensures.number;
      stored = subst (λ p. IsStored cluster_spec (header_text c.args.size c.args.me) store p) (sym c.in-Ok-restart.ensures.shown) here;
      server = λ s stores. c.in-Ok-restart.ensures.server s (subst (λ part. Stores cluster_spec part s) c.in-Ok-restart.ensures.shown stores);
    })
