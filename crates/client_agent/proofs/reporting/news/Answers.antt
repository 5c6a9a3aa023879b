use Rattle.std.proofs.Common.{◌≡◌, ◌+◌, ◌-◌, ◌<◌, ◌++◌, List, length, take, drop, ap, sym, ◌∙◌, arith}
use Rattle.std.proofs.lemmas.List.{length_push}
use Rattle.rows.specs.declared.command.Report.{Report}
use Rattle.group_model.specs.Agents.{news_of}
use Rattle.client_agent.specs.Inner.Runs.{runs_of}
use Rattle.client_agent.proofs.Told.{told_of, said_row, one_taken}
use Rattle.client_agent.proofs.reporting.news.Goals as goal

pub loop-row-preserved : goal.loop-row-preserved
loop-row-preserved c =
    let s = runs_of c.args.started.now c.args.running.now in
    let row = c.row-item.result in
    let items = c.loop-row.items in
    let item = c.in-Some.item in
    let rest = told_of s c.args.ended.now (drop (c.loop-row.row-index + 1) c.args.rows.now) in
    let told = c.in-Some.ensures ∙ ap (news_of row) (c.state_to_report-state.ensures c.args.running.now c.in_ok-ids.ensures) in
    let here = said_row s c.args.ended.now c.args.rows.now c.loop-row.row-index row item (omega arith) c.row-item.is told in
    let pushed = c.in_ok-push.ensures.ok in
    let longer : length c.push.new.self ≡ length items + 1 = ap length pushed ∙ length_push items item in
    let below : length items < 64 = omega arith in
    record {
      few = omega arith;
      all = ap (λ (zs : List Report). zs ++ take (64 - length zs) rest) pushed
          ∙ sym (one_taken items item rest below)
          ∙ ap (λ more. items ++ take (64 - length items) more) (sym here)
          ∙ c.loop-row.invariant.all;
    }
