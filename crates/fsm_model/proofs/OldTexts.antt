-- What texts of version 1 say is without disk, and a state of theirs that is safe by two sums is
-- safe.
use Rattle.std.proofs.Common.{◌≡◌, ℕ, ◌≤◌, Bool, true, false, cond, List, [], ◌∷◌, Some, refl, sym, subst, arith}
use Rattle.std.specs.Prelude.{sum_by, nat_eq}
use Rattle.std.specs.List.{AllByRecursion}
use Rattle.std.proofs.lemmas.List.Sums.{sum_by-cons}
use Rattle.rows.specs.declared.size.Size.{Size}
use Rattle.rows.specs.declared.job.Group.{Group}
use Rattle.rows.specs.declared.job.Job.{Job}
use Rattle.rows.specs.declared.node.Node.{Node}
use Rattle.rows.specs.declared.allocation.Allocation.{Allocation}
use Rattle.rows.specs.declared.command.AcceptedPlace.{AcceptedPlace}
use Rattle.rows.specs.declared.command.Command.{Command}
use Rattle.rows.specs.declared.command.Command.TheVariants as commands
use Rattle.rows.specs.Sizes.{Part, Cpu, Mem, Disk, amount}
use Rattle.fields_model.specs.Ids.{size}
use Rattle.fields_model.specs.Rows.{group, groups, job, node, allocation}
use Rattle.fields_model.specs.Commands.{accepted_place, command}
use Rattle.fields_model.specs.StateText.{state}
use Rattle.fsm_tables.specs.Claims.{Claim, claim_of, claims, on_node, used, is_live}
use Rattle.fsm_model.specs.Words.{State}
use Rattle.fsm_model.specs.SafeFacts.{Within, Safe}
use Rattle.fsm_model.specs.OldTexts.{HasNoDisk, AskForNoDisk, IsStateWithoutDisk, IsWithoutDisk, WithinOfTwo, SafeOfTwo}

-- ---- no size has disk

none_is : (n : ℕ) → Some 0 ≡ Some n → n ≡ 0
none_is n e = cc

no_disk : (z : Size) → (size 1).Fits z → HasNoDisk z
no_disk z h = none_is z.disk h.1.1.1

-- what holds of each item for one reason holds for another
each_by : {A : Type 0} (P Q : A → Type 0) → ((x : A) → P x → Q x) → (xs : List A) → AllByRecursion P xs → AllByRecursion Q xs
each_by P Q f [] h = tt
each_by P Q f (x ∷ xs) h = (f x h.0, each_by P Q f xs h.1)

ask_for_none : (gs : List Group) → (groups 1).Fits gs → AskForNoDisk gs
ask_for_none gs h = each_by (group 1).Fits (λ (g : Group). HasNoDisk g.size) (λ g fits. no_disk g.size fits.1.1.1) gs h.0.2

job_asks_for_none : (j : Job) → (job 1).Fits j → AskForNoDisk j.groups
job_asks_for_none j h = ask_for_none j.groups h.1.1.1.1

node_has_none : (n : Node) → (node 1).Fits n → HasNoDisk n.size
node_has_none n h = no_disk n.size h.1.1.0

alloc_has_none : (a : Allocation) → (allocation 1).Fits a → HasNoDisk a.size
alloc_has_none a h = no_disk a.size h.1.1.0.1.1.1

pub old_states_have_none : (s : State) → (state 1).Fits s → IsStateWithoutDisk s
old_states_have_none s h = record {
  jobs = each_by (job 1).Fits (λ (j : Job). AskForNoDisk j.groups) job_asks_for_none s.jobs h.1.0.2;
  nodes = each_by (node 1).Fits (λ (n : Node). HasNoDisk n.size) node_has_none s.nodes h.1.1.0.2;
  allocs = each_by (allocation 1).Fits (λ (a : Allocation). HasNoDisk a.size) alloc_has_none s.allocs h.1.1.1.1.2;
}

place_has_none : (k : AcceptedPlace) → (accepted_place 1).Fits k → HasNoDisk k.size
place_has_none k h = no_disk k.size h.1.1.1

pub old_commands_have_none : (c : Command) → (command 1).Fits c → IsWithoutDisk c
old_commands_have_none commands.Noop h = tt
old_commands_have_none (commands.JobPut spec) h = ask_for_none spec.groups h.1.1.1
old_commands_have_none (commands.JobStop name) h = tt
old_commands_have_none (commands.NodePut spec) h = no_disk spec.size h.1.1.1
old_commands_have_none (commands.NodeDown n) h = tt
old_commands_have_none (commands.Disconnect n) h = tt
old_commands_have_none (commands.Drain n force) h = tt
old_commands_have_none (commands.DrainDone n) h = tt
old_commands_have_none (commands.Migrate ids) h = tt
old_commands_have_none (commands.EvalPut name) h = tt
old_commands_have_none (commands.EvalStatus eval change) h = tt
old_commands_have_none (commands.Plan plan) h = each_by (accepted_place 1).Fits (λ (k : AcceptedPlace). HasNoDisk k.size) place_has_none plan.places h.1.1.1.1.1.1.1
old_commands_have_none (commands.Report n items) h = tt

-- ---- so no disk is used

claims_have_none : (rows : List Allocation) → AllByRecursion (λ (a : Allocation). HasNoDisk a.size) rows → AllByRecursion (λ (c : Claim). HasNoDisk c.size) (claims rows)
claims_have_none [] h = tt
claims_have_none (a ∷ rows) h =
    let rest = claims_have_none rows h.1 in
    elim (is_live a) as (λ b. AllByRecursion (λ (c : Claim). HasNoDisk c.size) (cond b (claim_of a ∷ claims rows) (claims rows))) [ true ↦ (h.0, rest) | false ↦ rest ]

no_part : (here : Bool) (n : ℕ) → n ≡ 0 → cond here n 0 ≡ 0
no_part true n e = e
no_part false n e = refl

none_used : (n : ℕ) (cs : List Claim) → AllByRecursion (λ (c : Claim). HasNoDisk c.size) cs → sum_by (on_node n Disk) cs ≡ 0
none_used n [] h = refl
none_used n (c ∷ cs) h =
    let first : on_node n Disk c ≡ 0 = no_part (nat_eq c.node n) c.size.disk h.0 in
    let rest : sum_by (on_node n Disk) cs ≡ 0 = none_used n cs h.1 in
    omega (arith, sum_by-cons (on_node n Disk) c cs, first, rest)

no_less : (n : ℕ) → 0 ≤ n
no_less n = omega arith

third_within : (cs : List Claim) (n : Node) → AllByRecursion (λ (c : Claim). HasNoDisk c.size) cs → WithinOfTwo cs n → (p : Part) → amount p (used n.number cs) ≤ amount p n.size
third_within cs n none h Cpu = h.0
third_within cs n none h Mem = h.1
third_within cs n none h Disk = subst (λ (k : ℕ). k ≤ n.size.disk) (sym (none_used n.number cs none)) (no_less n.size.disk)

pub old_is_safe : (s : State) → (state 1).Fits s → SafeOfTwo s → Safe s
old_is_safe s fits two =
    let none = claims_have_none s.allocs (old_states_have_none s fits).allocs in
    record {
      within = each_by (WithinOfTwo (claims s.allocs)) (Within (claims s.allocs)) (λ n h. third_within (claims s.allocs) n none h) s.nodes two.within;
      placed = two.placed;
      apart = two.apart;
    }
