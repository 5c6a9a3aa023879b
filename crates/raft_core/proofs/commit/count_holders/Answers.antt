use Rattle.std.proofs.Common.{◌≡◌, ◌||◌, arith, true, false, eqb, leb, get_or, sym, ◌∙◌}
use Rattle.std.proofs.lemmas.Bool.{eq-eqb, ne_eqb}
use Rattle.raft_core.specs.Commits.{holds_index}
use Rattle.raft_core.proofs.Quorums.{count-none}
use Rattle.raft_core.proofs.Commits.{count-holder}
use Rattle.raft_core.proofs.commit.count_holders.Goals as goal
use Rattle.raft_core.proofs.commit.count_holders.Goals.{then-position, else-position, then-is_holder, else-is_holder}

pub loop-position-init : goal.loop-position-init
loop-position-init c = record { counted = sym (count-none (holds_index c.args.me c.args.matched.now c.args.index)); bound = omega arith }

pub loop-position-preserved : goal.loop-position-preserved
loop-position-preserved c =
    let a = c.args in
    let i = c.loop-position.position in
    let at = c.position.ensures.value in
    let tells : (eqb i a.me || leb a.index (get_or a.matched.now i 0)) ≡ c.if-position.is_holder =
    elim c.if-position.branch [
      | then-position w ↦ rw (eq-eqb i a.me (w.if-position.true ∙ at)) (sym (w.is_holder-is ∙ eq-eqb i c.position.result w.if-position.true))
      | else-position w ↦ rw (ne_eqb i a.me (λ e. w.if-position.false (e ∙ sym at))) (sym w.is_holder-is)
    ] in
    elim c.if-is_holder.branch [
      | then-is_holder w ↦
          let next = count-holder a.me a.matched.now a.index i 0 true c.loop-position-test.true (tells ∙ w.if-is_holder.true) in
          record { counted = omega (arith, next); bound = omega arith }
      | else-is_holder w ↦
          let next = count-holder a.me a.matched.now a.index i 0 false c.loop-position-test.true (tells ∙ w.if-is_holder.false) in
          record { counted = omega (arith, next); bound = omega arith }
    ]
