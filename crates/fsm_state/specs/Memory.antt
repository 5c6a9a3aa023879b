-- For which commands memory may be wanting.
use Rattle.std.specs.Prelude.{◌≢◌, [], None, filter}
use Rattle.rows.specs.declared.command.Command.{Command}
use Rattle.rows.specs.declared.command.Command.TheVariants as commands
use Rattle.fsm_tables.specs.Lookups.{lives_on}
use Rattle.fsm_model.specs.Words.{State, job_of, node_of, eval_of}

-- where a state is asked whether it admits a command: jobs or claims have to be gathered for it
abbrev pub AdmissionMayEndOutOfMemory : State → Command → Type 0
AdmissionMayEndOutOfMemory s (commands.NodeDown node) = filter (lives_on node) s.allocs ≢ []
AdmissionMayEndOutOfMemory s (commands.Migrate ids) = Unit {0}
AdmissionMayEndOutOfMemory s (commands.Plan plan) = Unit {0}
AdmissionMayEndOutOfMemory s (commands.Report node reports) = Unit {0}
AdmissionMayEndOutOfMemory s _ = ⊥

-- where a command is applied: it may put rows, each into a page that another state may share
abbrev pub EffectMayEndOutOfMemory : State → Command → Type 0
EffectMayEndOutOfMemory s commands.Noop = ⊥
EffectMayEndOutOfMemory s (commands.JobPut job) = Unit {0}
EffectMayEndOutOfMemory s (commands.JobStop name) = job_of name s ≢ None
EffectMayEndOutOfMemory s (commands.NodePut node) = Unit {0}
EffectMayEndOutOfMemory s (commands.NodeDown node) = node_of node s ≢ None
EffectMayEndOutOfMemory s (commands.Disconnect node) = node_of node s ≢ None
EffectMayEndOutOfMemory s (commands.Drain node force) = node_of node s ≢ None
EffectMayEndOutOfMemory s (commands.DrainDone node) = node_of node s ≢ None
EffectMayEndOutOfMemory s (commands.Migrate ids) = Unit {0}
EffectMayEndOutOfMemory s (commands.EvalPut name) = job_of name s ≢ None
EffectMayEndOutOfMemory s (commands.EvalStatus id change) = eval_of id s ≢ None
EffectMayEndOutOfMemory s (commands.Plan plan) = Unit {0}
EffectMayEndOutOfMemory s (commands.Report node reports) = Unit {0}
