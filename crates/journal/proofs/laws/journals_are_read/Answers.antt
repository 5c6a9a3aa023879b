use Rattle.journal.specs.Records.{wal_record}
use Rattle.journal.proofs.RecordLaws.{record_lawful, record_filled}
use Rattle.journal.proofs.Reading.{one_journal, beginnings_are_torn, torn_read}
use Rattle.journal.proofs.Scanning.{beginnings_may_be_torn}
use Rattle.journal.proofs.laws.journals_are_read.Goals as goal

pub returns : goal.returns
returns c = record {
  lawful = record_lawful;
  one = one_journal wal_record record_lawful;
  cut = beginnings_are_torn wal_record record_lawful;
  tails = beginnings_may_be_torn;
  torn = torn_read wal_record record_lawful record_filled;
}
