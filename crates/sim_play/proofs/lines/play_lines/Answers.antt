use Rattle.std.proofs.Common.{◌≡◌, ◌+◌, ◌<◌, ◌≤◌, ◌++◌, Err, ap₂, arith, inl, inr, length, length-append, map, rules, string_bytes, subst, take, ◌∙◌}
use Rattle.std.proofs.lemmas.List.{take_all}
use Rattle.sim_play.specs.Played.{LinesPlayed, refused_as}
use Rattle.sim_play.specs.PlaySteps.{StepRefused, StepTaken}
use Rattle.sim_play.proofs.GoodSteps.{good_at}
use Rattle.sim_play.proofs.Steps.{one_more_line, one_more_played}
use Rattle.sim_play.proofs.lines.play_lines.Goals as goal

pub loop-line-preserved : goal.loop-line-preserved
loop-line-preserved c =
    let lines = c.args.lines.now in
    let i = c.loop-line.line-index in
    let line = c.line-item.result in
    let inside : i < length lines = search rules in
    let was = c.loop-line.invariant.played in
    let own = refused_as (string_bytes line) c.in_ok-play_line.field-0 in
    let count = c.count_of.ensures.value (string_bytes line) in
    let played = rw c.as_str.ensures.value at c.in_ok-play_line.ensures.played in
    record {
      few = let most = c.count_of.ensures.most in let few = c.loop-line.invariant.few in omega arith;
      played = (
        was.0 ++ own,
        length-append was.0 own ∙ ap₂ ◌+◌ was.1 count,
        rw (one_more_line lines i line inside c.line-item.is)
            (one_more_played StepTaken StepRefused (map string_bytes (take i lines)) (string_bytes line) c.args.play.now c.loop-line.play c.play_line.new.play was.0 own was.2 played),
      );
    }

pub returns-clause-played : goal.returns-clause-played
returns-clause-played c =
    let lines = c.args.lines.now in
    let i = c.loop-line.line-index in
    let most : length lines ≤ i = search rules in
    let was = c.loop-line.invariant.played in (
      was.0,
      was.1,
      subst (λ ss. LinesPlayed StepTaken StepRefused (map string_bytes ss) c.args.play.now was.0 c.loop-line.play) (take_all i lines most) was.2,
    )

pub returns-in_err-play_line-clause-fault : goal.returns-in_err-play_line-clause-fault
returns-in_err-play_line-clause-fault c =
    let lines = c.args.lines.now in
    let i = c.loop-line.line-index in
    let inside : i < length lines = search rules in
    let same : c.from_residual.result ≡ Err c.in_err-play_line.field-0.0 = search rules in
    rw same (
    elim (rw c.as_str.ensures.value at c.in_err-play_line.ensures.fault) [
      | inl memory ↦ inl memory
      | inr bad ↦ inr (bad.0, λ good. bad.1 (good_at lines i c.line-item.result good inside c.line-item.is))
    ]
    )
