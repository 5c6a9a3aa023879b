use Rattle.server.proofs.Handings.{log_is_read}
use Rattle.server.proofs.server.Server.handle_log_message.Goals as goal

pub returns : goal.returns
returns c =
    let h = c.handle_in_log in
    let got = c.handle_in_log.ensures in
    log_is_read c.args.self.now h.new.self c.args.outbox.now h.new.outbox c.args.message c.requires.up c.requires.log c.requires.goes h.result got.same got.taken got.admitted got.keeps got.refused got.stays got.desk got.unsent
