-- The desk after a step of the log is what it makes of the entries that it sees; and it is of the
-- applied state then.
use Rattle.std.proofs.Common.{◌≡◌, ℕ, ◌≤◌, Bool, true, false, ◌==◌, Option, Some, None, List, [], ◌∷◌, ◌++◌, take, drop, take-take, refl, sym, ap, subst, ◌∙◌}
use Rattle.std.proofs.lemmas.List.{take-append-drop}
use Rattle.std.specs.Prelude.{IfSome}
use Rattle.rows.specs.declared.command.Command.{Command}
use Rattle.rows.specs.States.{AreTables}
use Rattle.machine_model.specs.After.{after, after_from}
use Rattle.machine_model.specs.declared.entry.Entry.{Entry}
use Rattle.raft_model.specs.Logs.{commands, state_after}
use Rattle.raft_model.specs.Rafts.{Raft, is_leader, Candidate}
use Rattle.raft_snapshot.specs.Watching.{SeesAll, SeesStep}
use Rattle.fsm_model.specs.Words.{State}
use Rattle.fsm_model.specs.Effect.{applied}
use Rattle.fsm_model.specs.ClusterMachine.{cluster_spec}
use Rattle.fsm_model.proofs.StateLaws.{empty_are_tables, applied_are_tables}
use Rattle.group_model.specs.Desks.{after_entry, after_entries, applied_state, newly, desk_after}
use Rattle.machine_model.proofs.Afters.{after_from-append}
use Rattle.raft_snapshot.proofs.Applies.{commands-append}
use Rattle.leader.specs.OpenDesks.{OpenDesk}
use Rattle.leader.specs.Staying.{IsOver}
use Rattle.leader.proofs.Staying.{opens_over}
use Rattle.server.specs.ServerViews.{group_desk, IsOfLeader}
use Rattle.server.specs.Inner.DeskWatch.{OpensWhere, DeskSees}
use Rattle.server.specs.Inner.LogSteps.{where_leads}
use Rattle.server.proofs.Serving.{drop_same}
use Rattle.server.proofs.Leads.{LeadsOn, stays, rises}

-- tables are in order in each state of a log
tables_from : (s : State) (cs : List Command) → AreTables s → AreTables (after_from cluster_spec s cs)
tables_from s [] t = t
tables_from s (c ∷ cs) t = tables_from (applied s c) cs (applied_are_tables s c t)

pub log_tables : (es : List (Entry Command)) → AreTables (state_after cluster_spec es)
log_tables es = tables_from cluster_spec.empty (commands es) empty_are_tables

-- a desk of this term, and of this state
abbrev IsAt : ℕ → State → Option OpenDesk → Type 0
IsAt term s d = IfSome d (λ o. (o.term ≡ term) × IsOver s o)

-- ---- one entry

module _ (term : ℕ) (s : State) (tables : AreTables s) (e : Entry Command) where
  opens_at : (b : Bool) (mid : Option OpenDesk) → (e.term == term) ≡ b → OpensWhere b term (applied s e.command) mid → (group_desk mid ≡ after_entry term e.term (applied s e.command) None) × IsAt term (applied s e.command) mid
  opens_at true None is h = absurd h
  opens_at true (Some o) is h = rw is (ap (λ d. Some d) h.desk, (h.term, opens_over (applied s e.command) term o h))
  opens_at false None is h = rw is (refl, tt)
  opens_at false (Some o) is h = absurd (cc)

  one_entry : (w mid : Option OpenDesk) → IsAt term s w → DeskSees w term e (applied s e.command) mid → (group_desk mid ≡ after_entry term e.term (applied s e.command) (group_desk w)) × IsAt term (applied s e.command) mid
  one_entry None mid at h = opens_at (e.term == term) mid refl h
  one_entry (Some o) None at h = absurd h
  one_entry (Some o) (Some p) at h =
      let f = h.desk (record { before = s; tables = tables; left = refl; of = at.1 }) in
      (ap (λ d. Some d) f.desk, (h.term ∙ at.0, f.over))

-- entry by entry
all_entries : (term : ℕ) (s : State) (es : List (Entry Command)) (w new : Option OpenDesk) → AreTables s → IsAt term s w → SeesAll cluster_spec DeskSees term s es w new → (group_desk new ≡ after_entries term s es (group_desk w)) × IsAt term (after_from cluster_spec s (commands es)) new
unfolding commands
all_entries term s [] w new t at h = rw h (refl, at)
all_entries term s (e ∷ es) w new t at h =
    let one = one_entry term s t e w h.0 at h.1 in
    let more = all_entries term (applied s e.command) es h.0 new (applied_are_tables s e.command t) one.1 h.2 in
    (more.0 ∙ ap (after_entries term (applied s e.command) es) one.0, more.1)

-- ---- a step of the log

state_on : (log : List (Entry Command)) (c d : ℕ) → c ≤ d → after_from cluster_spec (state_after cluster_spec (take c log)) (commands (drop c (take d log))) ≡ state_after cluster_spec (take d log)
state_on log c d le =
    let rest = drop c (take d log) in
    let whole : take d log ≡ take c log ++ rest = sym (take-append-drop c (take d log)) ∙ ap (λ (es : List (Entry Command)). es ++ rest) (take-take c d log le) in
    sym (ap (state_after cluster_spec) whole ∙ ap (after cluster_spec) (commands-append (take c log) rest) ∙ after_from-append cluster_spec cluster_spec.empty (commands (take c log)) (commands rest))

-- a desk is the leader's, of its term and of the state that it has applied
abbrev IsLed : Raft Command → Option OpenDesk → Type 0
IsLed s d = IfSome d (λ o. (is_leader s.mode ≡ true) × ((o.term ≡ s.term) × IsOver (applied_state s) o))

led : (s : Raft Command) (d : Option OpenDesk) → IfSome d (IsOfLeader s) → IsLed s d
led s None h = tt
led s (Some o) h = (h.leads, (h.term, h.over))

is_of_leader : (s : Raft Command) (d : Option OpenDesk) → IsLed s d → IfSome d (IsOfLeader s)
is_of_leader s None h = tt
is_of_leader s (Some o) h = record { leads = h.0; term = h.1.0; over = h.1.1 }

led_at : (s : Raft Command) (term : ℕ) (d : Option OpenDesk) → term ≡ s.term → IsLed s d → IsAt term (applied_state s) d
led_at s term None is h = tt
led_at s term (Some o) is h = (h.1.0 ∙ sym is, h.1.1)

at_led : (s : Raft Command) (d : Option OpenDesk) → is_leader s.mode ≡ true → IsAt s.term (applied_state s) d → IsLed s d
at_led s None leads h = tt
at_led s (Some o) leads h = (leads, (h.0, h.1))

none_led : (s : Raft Command) (votes : List Bool) (d : Option OpenDesk) → s.mode ≡ Candidate votes → IsLed s d → d ≡ None
none_led s votes None mode h = refl
none_led s votes (Some o) mode h = absurd (let q : false ≡ true = sym (ap is_leader mode) ∙ h.0 in cc)

abbrev GoesOn : Raft Command → Raft Command → Option OpenDesk → Option OpenDesk → Type 0
GoesOn s t w new = (group_desk new ≡ desk_after s t (group_desk w)) × IsLed t new

module _ (s t : Raft Command) (w seen : Option OpenDesk) where
  leads_still : is_leader t.mode ≡ true → IsLed s w → SeesAll cluster_spec DeskSees t.term (applied_state s) (newly s t) w seen → LeadsOn s t → GoesOn s t w seen
  leads_still leads h sees (stays was term log commit) =
      let all = all_entries t.term (applied_state s) (newly s t) w seen (log_tables (take s.commit s.log)) (led_at s t.term w term h) sees in
      let state : after_from cluster_spec (applied_state s) (commands (newly s t)) ≡ applied_state t =
      subst (λ (l : List (Entry Command)). after_from cluster_spec (state_after cluster_spec (take s.commit l)) (commands (newly s t)) ≡ applied_state t) log (state_on t.log s.commit t.commit commit) in
      (rw leads all.0, at_led t seen leads (subst (λ x. IsAt t.term x seen) state all.1))
  leads_still leads h sees (rises votes mode commit) =
      let nothing : newly s t ≡ [] = ap (λ c. drop s.commit (take c t.log)) commit ∙ drop_same s.commit t.log in
      let none : w ≡ None = none_led s votes w mode h in
      let same : seen ≡ w = subst (λ es. SeesAll cluster_spec DeskSees t.term (applied_state s) es w seen) nothing sees in
      rw (same, none, leads, nothing) (refl, tt)

  leads_or : (b : Bool) → is_leader t.mode ≡ b → IsLed s w → SeesStep cluster_spec DeskSees s t w seen → (is_leader t.mode ≡ true → LeadsOn s t) → GoesOn s t w (where_leads b seen)
  leads_or true leads h sees on = leads_still leads h (rw leads at sees) (on leads)
  leads_or false leads h sees on = rw leads (refl, tt)

-- The desk after a step of the log, closed where the server does not lead, is that of the
-- definitions; and it is of the leader.
pub goes_on : (s t : Raft Command) (w seen new : Option OpenDesk) → IfSome w (IsOfLeader s) → SeesStep cluster_spec DeskSees s t w seen → (is_leader t.mode ≡ true → LeadsOn s t) → new ≡ where_leads (is_leader t.mode) seen → (group_desk new ≡ desk_after s t (group_desk w)) × IfSome new (IsOfLeader t)
goes_on s t w seen new h sees on is =
    let g = leads_or s t w seen (is_leader t.mode) refl (led s w h) sees on in
    rw is (g.0, is_of_leader t (where_leads (is_leader t.mode) seen) g.1)
