use Rattle.expiry.proofs.DeskCounts.{heartbeats_by_counts, expires_by_counts}
use Rattle.expiry.proofs.laws.desks_go_by_counts.Goals as goal

pub returns : goal.returns
returns g = record {
  beats = heartbeats_by_counts;
  expires = expires_by_counts;
}
