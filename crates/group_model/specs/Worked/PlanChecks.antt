-- What is kept of a plan.
use Rattle.std.specs.Prelude.{◌≡◌, ℕ, Ok, Err, [], ◌∷◌}
use Rattle.rows.specs.declared.refusal.Refusal.TheVariants as refusals
use Rattle.rows.specs.declared.plan.Plan.{Plan}
use Rattle.rows.specs.declared.command.AcceptedPlace.{AcceptedPlace}
use Rattle.fsm_model.specs.Worked.Words.{web, main, size, size_with_disk, eval_id, alloc_id}
use Rattle.group_model.specs.Acceptance.{accept}
use Rattle.group_model.specs.Worked.Words.{token, one_runs, on_disks}

abbrev pub moves_it : ℕ → Plan
moves_it version = record {
  eval = eval_id 4 0;
  token = token 1 1;
  job = web;
  version = version;
  snapshot = 6;
  stops = alloc_id 5 0 ∷ alloc_id 6 0 ∷ alloc_id 5 0 ∷ [];
  places = record { group = main; index = 0; node = 2 } ∷ [];
}

abbrev pub to_two : AcceptedPlace
to_two = record { group = main; index = 0; node = 2; size = size 600 300 }

-- The stop and the place are kept: node 2 is then in full use. What is of another job is not
-- stopped, and what is named twice once.
abbrev pub KeptWhole : Type 0
KeptWhole = accept (one_runs (size 400 100)) (moves_it 4) 6 ≡ Ok (record { stops = alloc_id 5 0 ∷ []; places = to_two ∷ []; refused = [] })

-- One more in use, and the stop alone is kept.
abbrev pub StopAlone : Type 0
StopAlone = accept (one_runs (size 401 100)) (moves_it 4) 6 ≡ Ok (record { stops = alloc_id 5 0 ∷ []; places = []; refused = 2 ∷ [] })

-- Another version, or a snapshot that is too old.
abbrev pub OtherVersion : Type 0
OtherVersion = accept (one_runs (size 400 100)) (moves_it 3) 6 ≡ Err refusals.JobChanged

abbrev pub OldSnapshot : Type 0
OldSnapshot = accept (one_runs (size 400 100)) (moves_it 3) 7 ≡ Err refusals.SnapshotTooOld

-- ---- disk decides: `main[0]` and `main[1]` on node 1, whose disk is 100

abbrev pub both_on_one : Plan
both_on_one = record {
  eval = eval_id 4 0;
  token = token 1 1;
  job = web;
  version = 4;
  snapshot = 4;
  stops = [];
  places = record { group = main; index = 0; node = 1 } ∷ record { group = main; index = 1; node = 1 } ∷ [];
}

abbrev pub on_one : ℕ → ℕ → AcceptedPlace
on_one disk index = record { group = main; index = index; node = 1; size = size_with_disk 100 100 disk }

-- it bears two of 50, and not two of 60
abbrev pub DiskForBoth : Type 0
DiskForBoth = accept (on_disks 50) both_on_one 4 ≡ Ok (record { stops = []; places = on_one 50 0 ∷ on_one 50 1 ∷ []; refused = [] })

abbrev pub NoDiskForBoth : Type 0
NoDiskForBoth = accept (on_disks 60) both_on_one 4 ≡ Ok (record { stops = []; places = []; refused = 1 ∷ [] })
