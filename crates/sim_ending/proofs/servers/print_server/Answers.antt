use Rattle.std.proofs.Common.{subst}
use Rattle.std.specs.Io.KnownBytes.{Appends}
use Rattle.std.proofs.lemmas.Result.{on_ok_weaker}
use Rattle.sim_ending.proofs.Standing.{down_is, no_role_is, up_is}
use Rattle.sim_ending.proofs.servers.print_server.Goals as goal
use Rattle.sim_ending.proofs.servers.print_server.Goals.{in_default-via-in-Some+in_default, in_default-via-in_default}

pub returns-in_default-clause-line : goal.returns-in_default-clause-line
returns-in_default-clause-line g c =
    let old = g.W.Write.contents c.args.out.now in
    let new = g.W.Write.contents c.print_down.new.out in
    let term = c.term-term.result in
    let last = c.last-last.result in
    elim c.in_default.branch [
      | in_default-via-in-Some+in_default w ↦
          on_ok_weaker c.print_down.result
          (λ line s is. subst (Appends old new) (down_is c.args.number s term last (c.term-term.ensures.value s is) (c.last-last.ensures.value s is) (rw w.in_default.is-1 at (c.applied.ensures.value s is))) line)
          c.print_down.ensures.line
      | in_default-via-in_default w ↦
          on_ok_weaker c.print_down.result
          (λ line s is. subst (Appends old new) (no_role_is c.args.number s term last (c.term-term.ensures.value s is) (c.last-last.ensures.value s is) (rw w.in_default.is-0 at (c.role.ensures.value s is))) line)
          c.print_down.ensures.line
    ]

pub returns-clause-line : goal.returns-clause-line
returns-clause-line g c =
    let old = g.W.Write.contents c.args.out.now in
    let new = g.W.Write.contents c.print_up.new.out in
    let term = c.term-term.result in
    let last = c.last-last.result in
    let role = c.in-Some-Some.role in
    let applied = c.in-Some-Some.applied in
    on_ok_weaker c.print_up.result
    (λ line s is.
    let up = rw c.in-Some-Some.is-1 at (c.applied.ensures.value s is) in
    subst (Appends old new) (up_is c.args.number s term last (c.term-term.ensures.value s is) (c.last-last.ensures.value s is) role applied (rw c.in-Some-Some.is-0 at (c.role.ensures.value s is)) up.1) line)
    c.print_up.ensures.line
