-- What `check` notes of a scenario: whom its steps name and the group lacks, and the groups of the
-- jobs that they put, at least one of each, that no node of the scenario has room for.
use Rattle.std.specs.Prelude.{◌≡◌, ◌⊎◌, ◌&&◌, ◌++◌, ◌∷◌, if◌then◌else◌, ℕ, Bool, nat_lt, List, [], Option, Some, None, codes, decimal, map}
use Rattle.std.specs.List.{filter}
use Rattle.std.specs.Option.{option_map_or}
use Rattle.rows.specs.declared.job.Group.{Group}
use Rattle.rows.specs.declared.job.JobSpec.{JobSpec}
use Rattle.rows.specs.declared.node.NodeSpec.{NodeSpec}
use Rattle.rows.specs.declared.request.OperatorRequest.{OperatorRequest}
use Rattle.rows.specs.declared.request.OperatorRequest.TheVariants.{JobPut}
use Rattle.group_model.specs.Inputs as inputs
use Rattle.group_model.specs.Worlds.{Event, AtServer}
use Rattle.sim_scenario.specs.declared.noting.Named.{Named}
use Rattle.sim_scenario.specs.declared.noting.Absence.{Absence}
use Rattle.sim_scenario.specs.declared.noting.Note.{Note}
use Rattle.sim_scenario.specs.declared.noting.Note.TheVariants as notes
use Rattle.sim_scenario.specs.declared.noting.TooLarge.{TooLarge as LargeGroup}
use Rattle.sim_scenario.specs.declared.scenario.Scenario.{Scenario}
use Rattle.sim_scenario.specs.Complaints.{IsStepLine}
use Rattle.sim_scenario.specs.EachLine.{OfEachLine}
use Rattle.sim_scenario.specs.Named.{is_absent, named_text, step_names, step_taker}
use Rattle.sim_scenario.specs.Objects.{step_lines}
use Rattle.sim_scenario.specs.Rooms.{is_too_large}
use Rattle.sim_scenario.specs.Steps.{Step, AnEvent, IsLine}

-- the job that a request, an input of a server, an event and a step puts, if it puts one
abbrev pub request_job : OperatorRequest → Option JobSpec
request_job (JobPut job) = Some job
request_job _ = None

abbrev pub input_job : inputs.Input → Option JobSpec
input_job (inputs.Request request) = request_job request
input_job _ = None

abbrev pub event_job : Event → Option JobSpec
event_job (AtServer server input) = input_job input
event_job _ = None

abbrev pub step_job : Step → Option JobSpec
step_job (AnEvent event) = event_job event
step_job _ = None

-- at least one of the group is put, and no node has room for one
abbrev pub needs_note : List NodeSpec → Group → Bool
needs_note nodes g = nat_lt 0 g.count && is_too_large nodes g

-- the note of a group of the job that this step puts, steps being counted from 1
abbrev pub note_of : ℕ → List ℕ → Group → Note
note_of number job g =
    notes.TooLarge (record { step = number; job = job; group = g.name; class = g.class; size = g.size })

-- the notes of a job that this step puts, in the order of its groups
abbrev pub job_notes : List NodeSpec → ℕ → JobSpec → List Note
job_notes nodes number job = map (note_of number job.name) (filter (needs_note nodes) job.groups)

-- the note of one whom a step names, if anyone, where the group lacks it
abbrev pub absence_notes : Scenario → ℕ → Option Named → List Note
absence_notes s number None = []
absence_notes s number (Some named) = if is_absent s named then notes.Absent (record { step = number; named = named }) ∷ [] else []

-- the notes of a step: whose it is and whom it names, where the group lacks them, and those of the
-- job that it puts, if it puts one
abbrev pub step_notes : Scenario → ℕ → Step → List Note
step_notes s number step =
    absence_notes s number (step_taker step) ++ absence_notes s number (step_names step)
    ++ option_map_or (job_notes s.nodes.items number) (step_job step) []

-- the notes of a line: those of the step whose line it is, and none where it is no step's
abbrev pub AreLineNotes : Scenario → ℕ → List ℕ → List Note → Type 0
AreLineNotes s number line all =
    ((step : Step) × IsLine step line × (all ≡ step_notes s number step))
    ⊎ ((¬ IsStepLine line) × (all ≡ []))

-- the notes of a scenario: those of each of its lines in turn, steps being counted from 1
abbrev pub AreNotes : Scenario → List Note → Type 0
AreNotes s all = OfEachLine (AreLineNotes s) 1 (step_lines s) all

-- what is printed of a note
abbrev pub group_text : LargeGroup → List ℕ
group_text n =
    codes "note: step " ++ decimal n.step ++ codes ": group " ++ n.group ++ codes " of job " ++ n.job
    ++ codes " takes " ++ decimal n.size.cpu ++ codes " MHz, " ++ decimal n.size.mem
    ++ codes " MB and " ++ decimal n.size.disk ++ codes " MB of disk of class " ++ n.class
    ++ codes "; no node has that, so nothing of it is placed"

abbrev pub absence_text : Absence → List ℕ
absence_text a =
    codes "note: step " ++ decimal a.step ++ codes ": the group has no " ++ named_text a.named
    ++ codes ", so the step never does anything"

abbrev pub note_text : Note → List ℕ
note_text (notes.Absent absence) = absence_text absence
note_text (notes.TooLarge group) = group_text group
