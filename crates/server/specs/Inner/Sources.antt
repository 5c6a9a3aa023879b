-- Where the bytes of a frame stand that comes.
use Rattle.std.specs.Prelude.{ℕ, List}
use Rattle.wire.specs.Frames.{Frame}
use Rattle.server.specs.declared.server.frames.Source.{Source}
use Rattle.server.specs.declared.server.frames.Source.TheVariants as sources
use Rattle.server.specs.SentBytes.{bytes_at}

abbrev pub source_bytes : Source → List Frame → List ℕ
source_bytes (sources.Apart bytes) sent = bytes.now
source_bytes (sources.Sent at) sent = bytes_at sent at
