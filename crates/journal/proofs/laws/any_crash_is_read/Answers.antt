use Rattle.journal.specs.Records.{wal_record}
use Rattle.journal.proofs.RecordLaws.{record_lawful, record_filled}
use Rattle.journal.proofs.Crashing.{read_after_crash}
use Rattle.journal.proofs.laws.any_crash_is_read.Goals as goal

pub returns : goal.returns
returns g c = read_after_crash g.A.Actor.replay g.A.Actor.part g.A.Actor.turn wal_record record_lawful record_filled
