use Rattle.std.proofs.Common.{ℕ, subst}
use Rattle.std.specs.Prelude.{OnOk}
use Rattle.rows.specs.declared.command.Command.TheVariants as commands
use Rattle.rows.specs.declared.worker.ClientRequestKind.TheVariants as kinds
use Rattle.server.specs.Inner.Acts.{EachDoes, write_act}
use Rattle.server.proofs.server.Server.report.Goals as goal

pub returns-clause-taken : goal.returns-clause-taken
returns-clause-taken c =
    let a = c.args in
    subst (λ (n : ℕ). OnOk c.write.result (EachDoes a.self.now (write_act a.self.now a.client kinds.Report (commands.Report n a.items)) c.write.new.self a.outbox.now c.write.new.outbox)) c.node_of.ensures c.write.ensures.taken
