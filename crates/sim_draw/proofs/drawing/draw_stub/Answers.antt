use Rattle.std.specs.Prelude.{string_bytes}
use Rattle.sim_draw.proofs.Drawn.{stub_drawn}
use Rattle.sim_draw.proofs.drawing.draw_stub.Goals as goal

pub returns : goal.returns
returns c =
    stub_drawn c.draw_lost_end.result c.args.shapes.now.items c.put.new.shapes.items c.draw_lost_end.new.shapes.items c.args.layout.now c.args.place c.args.sending.now (string_bytes c.args.text)
    c.at-from.result c.stub_end-end.result c.towards-side.result c.at-from.ensures c.stub_end-end.ensures c.towards-side.ensures c.in_ok-put.ensures c.draw_lost_end.ensures
