use Rattle.std.proofs.Common.{◌≡◌, ℕ, length, arith, subst}
use Rattle.std.proofs.lemmas.Grind.{common_steps}
use Rattle.pages.specs.Runs.{IsRun}
use Rattle.pages.proofs.Walks.{copied_more}
use Rattle.pages.proofs.table.Table.copied_rows.Goals as goal

pub loop-copies-preserved : goal.loop-copies-preserved
loop-copies-preserved g c =
    let at : c.len-in-loop-copies.result ≡ length c.loop-copies.copies.items = grind (arith, common_steps) in
    let run = subst (λ (n : ℕ). IsRun c.args.self.now n c.run_from.result.now) at c.run_from.ensures in
    copied_more c.args.self.now c.loop-copies.copies.items c.append_copies.new.out.items c.run_from.result.now c.loop-copies.invariant run c.in_ok-append_copies.ensures
