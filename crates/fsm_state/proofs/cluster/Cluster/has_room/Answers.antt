use Rattle.std.proofs.Common.{[], ◌∙◌}
use Rattle.std.proofs.lemmas.List.{map-id}
use Rattle.rows.specs.Sizes.{plus, fits}
use Rattle.fsm_state.specs.Inner.Alone.{has_room}
use Rattle.fsm_state.proofs.cluster.Cluster.has_room.Goals as goal

pub returns : goal.returns
returns c =
    let es = c.args.ended.now in
    let ws = c.args.wanted.now in
    c.is_enough.ensures
    ∙ (λ i. fits (plus (c.used-used.ensures i) (c.taken-more.ensures.value [] i)) (plus (c.room_of-room.ensures i) (c.taken-less.ensures.value [] i)))
    ∙ (λ i. has_room c.args.self.now (map-id es i) (map-id ws i) c.args.node)
