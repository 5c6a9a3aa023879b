use Rattle.std.proofs.Common.{inl, subst, sym}
use Rattle.std.proofs.lemmas.Result.{IfErr-weaker, IfOk-weaker, on_ok_weaker}
use Rattle.sim_scenario.specs.Complaints.{IsGoodText}
use Rattle.sim_files.specs.Inner.Printed.{ShowsComplaints}
use Rattle.sim_files.specs.Notes.{ShowsNotes}
use Rattle.sim_files.proofs.Reasons.{stops_checking}
use Rattle.sim_files.proofs.checking.check_bytes.Goals as goal

pub returns-in-Ok-clause-ok : goal.returns-in-Ok-clause-ok
returns-in-Ok-clause-ok g c =
    let read = c.in-Ok.ensures.cases in
    IfOk-weaker c.check_text.result _ _ (λ status ok. (ok.0, (read.1, subst IsGoodText read.0 ok.1))) c.check_text.ensures.ok

pub returns-in-Ok-clause-notes : goal.returns-in-Ok-clause-notes
returns-in-Ok-clause-notes g c =
    let contents = g.W.Write.contents in
    on_ok_weaker c.check_text.result
    (subst (λ text. ShowsNotes text (contents c.args.out.now) (contents c.check_text.new.out)) c.in-Ok.ensures.cases.0)
    c.check_text.ensures.notes

pub returns-in-Ok-clause-fault : goal.returns-in-Ok-clause-fault
returns-in-Ok-clause-fault g c =
    IfErr-weaker c.check_text.result _ _
    (λ fault. stops_checking fault (λ file. subst IsGoodText (sym c.in-Ok.ensures.cases.0) file.1))
    c.check_text.ensures.fault

pub returns-in-Ok-clause-bad : goal.returns-in-Ok-clause-bad
returns-in-Ok-clause-bad g c =
    let contents = g.W.Write.contents in
    let read = c.in-Ok.ensures.cases in
    IfErr-weaker c.check_text.result _ _
    (λ fault shown bad.
    inl (read.1, subst (λ text. ShowsComplaints text (contents c.args.out.now) (contents c.check_text.new.out)) read.0 (shown bad)))
    c.check_text.ensures.bad
