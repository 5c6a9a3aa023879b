use Rattle.std.proofs.Common.{◌≡◌, [], Some, append-nil, subst, sym}
use Rattle.rows.specs.Versions.{newest}
use Rattle.fields_model.specs.Format.{whole}
use Rattle.raft_core.specs.StoredParts.{stored_part}
use Rattle.raft_snapshot.specs.Changes.{log_change}
use Rattle.raft_snapshot.specs.Texts.{front}
use Rattle.raft_records.specs.Records.{IsDelta, changed_by}
use Rattle.example_bank_server.proofs.Handing.{change_saved}
use Rattle.example_bank_server.proofs.node.NodeActor.save.Goals as goal

pub returns-then-get : goal.returns-then-get
returns-then-get g c = ([], sym (append-nil c.args.out.now.items), λ first led. tt)

pub returns-in-Whole : goal.returns-in-Whole
returns-in-Whole g c = ([], sym (append-nil c.args.out.now.items), λ first led. tt)

pub returns-in_ok-write_change-in-Behind : goal.returns-in_ok-write_change-in-Behind
returns-in_ok-write_change-in-Behind g c =
    let m = g.M.Machine.spec in
    let now = stored_part c.self.inside.server in
    let keep = c.in-Behind.keep in
    let format = front (m.commands newest) in
    let text = format.text (log_change now.term now.vote now.log keep) in
    let wrote = c.in_ok-write_change-in-Behind.ensures.ok in (
      text,
      wrote.1,
      λ first led.
          let here = subst (λ v. IsDelta c.args.change.now first (stored_part v)) (sym c.self.view_is) led in
          let shares = subst (λ d. IsDelta d first now) c.in-Behind.is here in
          subst (λ v. changed_by first (whole format text) ≡ Some (stored_part v)) c.self.view_is
          (change_saved m g.met.M.Machine.lawful first now keep wrote.0 (c.changes_lead.ensures.change first now keep shares)),
    )
