use Rattle.std.proofs.Common.{◌≡◌, Some, sym, subst, slice_get}
use Rattle.group_inputs.specs.Events.{position_of}
use Rattle.world.specs.GroupView.{GroupView}
use Rattle.world.proofs.group.world.World.receiver.Goals as goal

pub returns-clause-some : goal.returns-clause-some
returns-clause-some c = record {
  frame = c.in_ok-frame.field-0;
  at = subst (λ (x : GroupView). slice_get x.outbox.frames (position_of c.args.k) ≡ Some c.in_ok-frame.field-0) c.self.view_is (sym c.in_ok-frame.ensures);
  is_to = sym c.to.ensures;
}
