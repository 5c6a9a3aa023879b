use Rattle.std.proofs.Common.{IfOk, subst}
use Rattle.std.specs.Prelude.{IfSome}
use Rattle.raft_records.specs.Remembering.{Remembers}
use Rattle.server_node.proofs.handing.remembered.Goals as goal

pub returns : goal.returns
returns c = subst (λ v. IfOk c.remember.result (λ known. IfSome known (λ b. Remembers b v))) c.raft.ensures c.remember.ensures
