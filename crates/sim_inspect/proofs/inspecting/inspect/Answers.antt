use Rattle.std.proofs.Common.{◌<◌, ap, arith, length, map, string_bytes}
use Rattle.std.proofs.lemmas.List.{length-map}
use Rattle.sim_playback.proofs.LineTexts.{on_ok}
use Rattle.sim_inspect.proofs.inspecting.inspect.Goals as goal

pub returns-clause-lines : goal.returns-clause-lines
returns-clause-lines g c =
    let lines = c.deref.result.now in
    let some : 0 < length (map string_bytes lines) =
    omega (arith, length-map lines string_bytes, ap length c.deref.ensures.value, c.in_ok-lines.ensures) in
    on_ok c.print_lines.result (λ told. (map string_bytes lines, some, told)) c.print_lines.ensures.lines
