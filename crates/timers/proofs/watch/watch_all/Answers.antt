use Rattle.std.proofs.Common.{◌∙◌, [], ◌∷◌, ◌++◌, ap, arith}
use Rattle.timers.specs.Watches.{seen_for, so_long}
use Rattle.timers.proofs.Parts.{mapped_more}
use Rattle.timers.proofs.watch.watch_all.Goals as goal

pub loop-what-preserved : goal.loop-what-preserved
loop-what-preserved c =
    let what = c.what-item.result in
    let grace = c.args.grace in
    let before = c.args.before.now in
    let ms = c.args.ms in
    mapped_more (λ w. seen_for grace w (so_long ms before w)) c.args.seen.now c.loop-what.what-index what [] c.loop-what.now.items c.push.new.self.items (omega arith) c.what-item.is
    c.loop-what.invariant
    (c.in_ok-push.ensures.items ∙ ap (λ w. c.loop-what.now.items ++ w ∷ []) (c.seen_for.ensures ∙ ap (seen_for grace what) c.so_long-long.ensures))
