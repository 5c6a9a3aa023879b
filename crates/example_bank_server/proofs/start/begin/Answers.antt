use Rattle.std.proofs.Common.{option_map, subst, sym}
use Rattle.raft_core.specs.Steps.{Stores}
use Rattle.example_bank_server.specs.Lives.{header_text}
use Rattle.raft_records.specs.Starts.{IsStored}
use Rattle.example_bank_server.proofs.start.begin.Goals as goal

pub returns-in-Ok-restart-clause-server : goal.returns-in-Ok-restart-clause-server
returns-in-Ok-restart-clause-server g c =
    λ s stores. c.in-Ok-restart.ensures.server s (subst (λ part. Stores g.M.Machine.spec part s) c.in-Ok-restart.ensures.shown stores)

pub returns-in-Ok-restart-clause-begins : goal.returns-in-Ok-restart-clause-begins
returns-in-Ok-restart-clause-begins g c = λ is.
    let m = g.M.Machine.spec in
    let store = option_map (λ text. text.now) c.args.stored in
    let here = subst (λ h. IsStored m h store c.in-Ok.stable) is c.in-Ok.ensures.stored in
    record {
      member = c.in-Ok-restart.ensures.member;
      place = c.in-Ok-restart.ensures.number;
      stored = subst (λ p. IsStored m (header_text c.args.size c.args.me) store p) (sym c.in-Ok-restart.ensures.shown) here;
      server = λ s stores. c.in-Ok-restart.ensures.server s (subst (λ part. Stores m part s) c.in-Ok-restart.ensures.shown stores);
    }
