-- The text of requests.
use Rattle.std.specs.Prelude.{ℕ, List, [], ◌∷◌, true, false, Bool, map, codes, decimal}
use Rattle.std.specs.List.{join_with_byte}
use Rattle.rows.specs.Fits.{CommandFits}
use Rattle.rows.specs.Requests.{command_of}
use Rattle.rows.specs.declared.job.Group.{Group}
use Rattle.rows.specs.declared.job.JobSpec.{JobSpec}
use Rattle.rows.specs.declared.request.OperatorRequest.{OperatorRequest}
use Rattle.rows.specs.declared.request.OperatorRequest.TheVariants.{JobPut, JobStop, EvalPut, Drain}

-- a group's name, count, class, processor time, memory and disk, with colons between
abbrev pub group_text : Group → List ℕ
group_text g = join_with_byte 58 (g.name ∷ decimal g.count ∷ g.class ∷ decimal g.size.cpu ∷ decimal g.size.mem ∷ decimal g.size.disk ∷ [])

-- groups with commas between
abbrev pub groups_text : List Group → List ℕ
groups_text gs = join_with_byte 44 (map group_text gs)

-- what stands behind `put`, with spaces between
abbrev pub job_text : JobSpec → List ℕ
job_text job = join_with_byte 32 (job.name ∷ decimal job.priority ∷ groups_text job.groups ∷ [])

abbrev pub mode_text : Bool → List ℕ
mode_text true = codes "force"
mode_text false = codes "slow"

-- what stands behind `drain`
abbrev pub drain_text : ℕ → Bool → List ℕ
drain_text node force = join_with_byte 32 (decimal node ∷ mode_text force ∷ [])

abbrev pub request_text : OperatorRequest → List ℕ
request_text (JobPut job) = join_with_byte 32 (codes "put" ∷ job_text job ∷ [])
request_text (JobStop name) = join_with_byte 32 (codes "stop" ∷ name ∷ [])
request_text (EvalPut name) = join_with_byte 32 (codes "eval" ∷ name ∷ [])
request_text (Drain node force) = join_with_byte 32 (codes "drain" ∷ drain_text node force ∷ [])

-- the values of a request are within their limits
abbrev pub RequestFits : OperatorRequest → Type 0
RequestFits request = CommandFits (command_of request)
