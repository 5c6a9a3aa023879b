use Rattle.std.proofs.Common.{◌≡◌, string_bytes, take}
use Rattle.std.specs.List.{flat_map}
use Rattle.runner.specs.Pages.{script_byte}
use Rattle.runner.proofs.script.in_script.Given as goal

abbrev pub invariant-loop-byte : goal.invariant-loop-byte
invariant-loop-byte l = string_bytes l.out ≡ flat_map script_byte (take l.byte-index l.json)
