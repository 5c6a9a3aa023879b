use Rattle.std.proofs.Common.{◌≡◌, ℕ, subst, arith, ap}
use Rattle.std.proofs.lemmas.Bool.{MatchBool-at_true}
use Rattle.world.specs.Inner.HistoryView.{HistoryView}
use Rattle.rows.specs.GroupSizes.{IsGroup}
use Rattle.world.specs.WorldView.{WorldView}
use Rattle.world.proofs.Begins.{Begun, begun_none, begun_next, begun_reached, begun_refines}
use Rattle.world.proofs.world.RaftWorld.new.Goals as goal

pub invariant_of-result : goal.invariant_of-result
invariant_of-result g c =
    let all : c.loop-position.position ≡ c.args.n = omega arith in
    let seen : WorldView g.row.M.Denot g.row.M-Command.Denot = record { servers = c.loop-position.servers.items; sent = c.new.result.sent; trace = c.new.result.trace; chain = c.new.result.chain } in
    let begun : Begun g.M.Machine.spec c.args.n c.args.n c.loop-position.servers.items = subst (λ (k : ℕ). Begun g.M.Machine.spec c.args.n k c.loop-position.servers.items) all c.loop-position.invariant in
    let size : IsGroup c.args.n = MatchBool-at_true _ _ c.if-not-is_group_size.false c.is_group_size.ensures.both in
    begun_reached g.M.Machine.spec c.args.n seen size begun (ap (λ (x : HistoryView g.row.M-Command.Denot). x.sent) c.new.ensures) (ap (λ (x : HistoryView g.row.M-Command.Denot). x.trace) c.new.ensures) (ap (λ (x : HistoryView g.row.M-Command.Denot). x.chain) c.new.ensures)

pub loop-position-init : goal.loop-position-init
loop-position-init g c = rw c.new-servers.ensures.items (begun_none g.M.Machine.spec c.args.n)

pub loop-position-preserved : goal.loop-position-preserved
loop-position-preserved g c =
    begun_next g.M.Machine.spec c.args.n c.loop-position.position c.loop-position.servers.items c.push.new.self.items c.in_ok-newcomer.field-0 c.loop-position.invariant c.in_ok-push.ensures.items
    c.in_ok-newcomer.ensures.number c.in_ok-newcomer.ensures.server

pub returns-clause-ok : goal.returns-clause-ok
returns-clause-ok g c =
    let all : c.loop-position.position ≡ c.args.n = omega arith in
    let seen : WorldView g.row.M.Denot g.row.M-Command.Denot = record { servers = c.loop-position.servers.items; sent = c.new.result.sent; trace = c.new.result.trace; chain = c.new.result.chain } in
    let begun : Begun g.M.Machine.spec c.args.n c.args.n c.loop-position.servers.items = subst (λ (k : ℕ). Begun g.M.Machine.spec c.args.n k c.loop-position.servers.items) all c.loop-position.invariant in
    let size : IsGroup c.args.n = MatchBool-at_true _ _ c.if-not-is_group_size.false c.is_group_size.ensures.both in
    record {
      size = size;
      count = begun.count;
      trace = ap (λ (x : HistoryView g.row.M-Command.Denot). x.trace) c.new.ensures;
      chain = ap (λ (x : HistoryView g.row.M-Command.Denot). x.chain) c.new.ensures;
      refines = begun_refines g.M.Machine.spec c.args.n seen begun (ap (λ (x : HistoryView g.row.M-Command.Denot). x.sent) c.new.ensures);
    }
