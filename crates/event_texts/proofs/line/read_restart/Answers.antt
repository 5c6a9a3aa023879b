use Rattle.std.proofs.Common.{◌≡◌, ◌∙◌, ap, rules, sym}
use Rattle.rows.specs.declared.actor.Actor.TheVariants.{Client, Server}
use Rattle.event_texts.proofs.LineParts.{restart_of, who_restarts}
use Rattle.event_texts.proofs.line.read_restart.Goals as goal

pub returns-in_err-server-clause-read : goal.returns-in_err-server-clause-read
returns-in_err-server-clause-read c event is parts =
    let who = who_restarts event is _ parts in
    let read = c.read_text.ensures.read who.0 who.1 who.2 in
    search rules

pub returns-in-Server-clause-read : goal.returns-in-Server-clause-read
returns-in-Server-clause-read c event is parts =
    let who = who_restarts event is _ parts in
    let read = c.read_text.ensures.read who.0 who.1 who.2 in
    let same : Server c.in-Server.server ≡ who.0 = search rules in
    ap restart_of same ∙ sym who.3

pub returns-in-Client-clause-read : goal.returns-in-Client-clause-read
returns-in-Client-clause-read c event is parts =
    let who = who_restarts event is _ parts in
    let read = c.read_text.ensures.read who.0 who.1 who.2 in
    let same : Client c.in-Client.client ≡ who.0 = search rules in
    ap restart_of same ∙ sym who.3
