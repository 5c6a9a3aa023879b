use Rattle.std.proofs.Common.{◌≡◌, drop}
use Rattle.std.specs.List.{list_all}
use Rattle.fsm_model.specs.Admission.{fits_job}
use Rattle.fsm_state.proofs.cluster.Cluster.fit_job.Given as goal

abbrev pub invariant-loop-place : goal.invariant-loop-place
invariant-loop-place l = list_all (fits_job l.self l.job) l.places ≡ list_all (fits_job l.self l.job) (drop l.place-index l.places)
