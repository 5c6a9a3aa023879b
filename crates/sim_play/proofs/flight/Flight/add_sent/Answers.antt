use Rattle.std.proofs.Common.{◌≡◌, ◌∙◌, ◌+◌, ◌-◌, ◌++◌, ◌∷◌, [], ap, arith, rules, sym}
use mathlib.Core.List.{append_assoc}
use Rattle.std.specs.List.{range_with_len}
use Rattle.sim_play.proofs.Numbers.{range_more}
use Rattle.sim_play.proofs.flight.Flight.add_sent.Goals as goal

pub loop-number-preserved : goal.loop-number-preserved
loop-number-preserved c =
    let before = c.loop-number.invariant in
    let old = c.args.self.now in
    let number = c.loop-number.number in
    let count = number - old.seen in
    let one_more : number + 1 - old.seen ≡ count + 1 = omega (arith, before.0) in
    let last : old.seen + 1 + count ≡ number + 1 = omega (arith, before.0) in
    let pushed : c.put_again.new.self.waiting ≡ c.loop-number.self.waiting ++ (number + 1) ∷ [] = search rules in
    let longer : range_with_len (old.seen + 1) (number + 1 - old.seen) ≡ range_with_len (old.seen + 1) count ++ (number + 1) ∷ [] =
    rw (one_more, ← last) (range_more (old.seen + 1) count) in
    let waiting = pushed
    ∙ ap (λ xs. xs ++ (number + 1) ∷ []) before.3
    ∙ append_assoc old.waiting (range_with_len (old.seen + 1) count) ((number + 1) ∷ [])
    ∙ ap (λ xs. old.waiting ++ xs) (sym longer) in
    (omega (arith, before.0), search rules, search rules, waiting)
