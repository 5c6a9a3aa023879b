use Rattle.std.proofs.Common.{◌≡◌, ◌++◌, string_bytes, take}
use Rattle.std.specs.List.{flat_map}
use Rattle.sim_draw.specs.Inner.Shapes.{text_of, head_text}
use Rattle.sim_draw.proofs.svg.svg_of.Given as goal

abbrev pub invariant-loop-shape : goal.invariant-loop-shape
invariant-loop-shape l = string_bytes l.svg ≡ head_text l.fn.size.0 l.fn.size.1 l.title ++ flat_map text_of (take l.shape-index l.shapes)
