use Rattle.std.proofs.Common.{ap, subst, ◌∙◌, arith}
use Rattle.fields_model.specs.Format.{Gives}
use Rattle.raft_snapshot.specs.Texts.{stable_at}
use Rattle.raft_snapshot.proofs.TextLaws.{stable_only, found_of}
use Rattle.raft_snapshot.proofs.reading.read_stable.Goals as goal

pub returns-clause-found : goal.returns-clause-found
returns-clause-found g c = found_of g.M.Machine.spec g.met.M.Machine.lawful c.args.bytes.now c.read_text.result (λ i. omega (arith, c.type_inv.bytes i)) c.read_text.ensures

pub returns-clause-only : goal.returns-clause-only
returns-clause-only g c =
    let m = g.M.Machine.spec in
    λ version s fits e. subst (λ f. Gives c.read_text.result f) (ap (stable_at m) e ∙ stable_only m g.met.M.Machine.lawful version s fits) c.read_text.ensures
