use Rattle.std.proofs.Common.{◌↔◌, ◌≢◌, [], IsTrue, inl, inr, rules}
use Rattle.std.proofs.lemmas.Result.{IfOk-weaker}
use Rattle.sim_expand.specs.Checked.{AreGood, AreShortComplaints}
use Rattle.sim_expand.proofs.checking.short_complaints.Goals as goal

pub returns-then-branch : goal.returns-then-branch
returns-then-branch c =
    let short = c.in-Ok.short in
    let judged : IsTrue c.in_ok-are_good-in-Ok.field-0 ↔ AreGood short.steps.items = rw c.deref.ensures.value at c.in_ok-are_good-in-Ok.ensures in
    let true : IsTrue c.in_ok-are_good-in-Ok.field-0 = search rules in
    inl ((short, c.in-Ok.ensures.ok, judged.0 true), c.new.ensures.items)

pub returns-else-branch : goal.returns-else-branch
returns-else-branch c =
    let short = c.in-Ok.short in
    let judged : IsTrue c.in_ok-are_good-in-Ok.field-0 ↔ AreGood short.steps.items = rw c.deref.ensures.value at c.in_ok-are_good-in-Ok.ensures in
    let bad : ¬ AreGood short.steps.items = λ all. let true : IsTrue c.in_ok-are_good-in-Ok.field-0 = judged.1 all in search rules in
    IfOk-weaker c.explained.result (λ found. found.items ≢ []) (λ found. AreShortComplaints c.args.text.now found.items)
    (λ found some. inr (inr (short, c.in-Ok.ensures.ok, bad), some)) c.explained.ensures
