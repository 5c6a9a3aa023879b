use Rattle.std.proofs.Common.{◌+◌, ◌^◌, ◌<◌, false, [], ◌∷◌, ◌++◌, length, take, get_or, refl, sym, subst, arith, rules}
use Rattle.std.proofs.lemmas.List.{take_more, length-take}
use Rattle.sim_draw.specs.declared.record.Sending.{Sending}
use Rattle.sim_draw.specs.Inner.Layouts.{AreFans, AreSlots}
use Rattle.sim_draw.proofs.Losses.{fans_more, slots_more}
use Rattle.sim_draw.proofs.layout.slots_of.Goals as goal

pub loop-sending-preserved : goal.loop-sending-preserved
loop-sending-preserved c =
    let all = c.args.sendings.now in
    let i = c.loop-sending.sending-index in
    let nothing : Sending = record { row = 0; from = 0; to = 0; came = false } in
    let s = get_or all i nothing in
    let front = take i all in
    let lt : i < length all = search rules in
    let short : length all < 2 ^ 63 = search rules in
    let more = take_more all i nothing lt in
    let fits : length front + 1 < 2 ^ 64 = omega (arith, length-take i all, lt, short) in
    let events = c.args.events in
    let before = c.loop-sending.invariant in
    record {
      fans = subst (λ xs. AreFans events xs c.place_among.new.fans.items) (sym more)
          (subst (AreFans events (front ++ s ∷ [])) (sym c.place_among.ensures.fans)
          (fans_more events front s c.loop-sending.fans.items fits before.fans _ refl));
      slots = subst (λ xs. AreSlots events xs c.push.new.self.items) (sym more)
          (slots_more events front s c.loop-sending.fans.items c.loop-sending.slots.items _ _ before.fans before.slots
          c.place_among.ensures.place c.in_ok-push.ensures.items);
    }
