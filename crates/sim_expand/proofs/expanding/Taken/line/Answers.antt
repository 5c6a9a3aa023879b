use Rattle.std.proofs.Common.{◌≡◌, ◌∙◌, ◌+◌, ◌<◌, ◌≤◌, ◌++◌, ◌∷◌, [], Err, ap, arith, false, inl, inr, length, length-append, refl, rules, string_bytes}
use Rattle.sim_play.specs.Played.{refused_as}
use Rattle.sim_expand.proofs.Taking.{line_taken, pushed_line}
use Rattle.sim_expand.proofs.expanding.Taken.line.Goals as goal

pub returns-clause-ok : goal.returns-clause-ok
returns-clause-ok c =
    let old = c.args.self.now in
    let line = c.args.line.now in
    let own = c.in_ok-own.own in
    let pushed : c.push.new.self.items ≡ old.lines.items ++ own ∷ [] = search rules in
    let text : string_bytes own ≡ line = search rules in
    let put = pushed_line old.lines.items c.push.new.self.items own line pushed text in
    let short : length old.lines.items < 1_000_000 = search rules in
    let count : length c.push.new.self.items ≡ length old.lines.items + 1 = ap length pushed ∙ length-append old.lines.items (own ∷ []) in
    let few : length c.push.new.self.items ≤ 1_000_000 = omega (arith, short, count) in
    let found : c.play_line.new.play.lacked ≡ false = search rules in
    let new = record old { play = c.play_line.new.play; lines = c.push.new.self } in
    line_taken old new line (refused_as line c.in_ok-play_line.field-0) c.requires.stands c.requires.may_stand c.in_ok-play_line.ensures.played found refl refl refl put few

pub returns-in_err-play_line-clause-refused : goal.returns-in_err-play_line-clause-refused
returns-in_err-play_line-clause-refused c =
    let same : c.from_residual-in_err-play_line.result ≡ Err c.in_err-play_line.field-0.0 = search rules in
    rw same (elim c.in_err-play_line.ensures.fault [
      | inl memory ↦ inl memory
      | inr bad ↦ inr (bad.0, inl bad.1)
    ])
