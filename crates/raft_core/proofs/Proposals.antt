-- What a proposal is to each server that a value stands for.
use Rattle.std.proofs.Common.{◌≡◌, ℕ, ◌&&◌, true, false, nat_lt, if◌then◌else◌, Bool, Ok, Err, Option, Some, None, List, [], ◌∷◌, length, refl, sym, ap, subst, ◌∙◌}
use Rattle.rows.specs.declared.refusal.Refusal.{Refusal}
use Rattle.rows.specs.declared.refusal.Refusal.TheVariants as refusals
use Rattle.machine_model.specs.MachineSpec.{MachineSpec}
use Rattle.machine_model.specs.declared.entry.Entry.{Entry}
use Rattle.wire.specs.Frames.{Frame}
use Rattle.raft_model.specs.Logs.{MAX}
use Rattle.raft_model.specs.Rafts.{Raft, RaftTurn, is_up, is_leader, silent, extended}
use Rattle.raft_model.specs.Steps.{step, unless, Input, Propose}
use Rattle.raft_snapshot.specs.Bases.{state_from}
use Rattle.raft_snapshot.specs.Prefixes.{with_prefix}
use Rattle.raft_snapshot.specs.Compacted.{IsCompacted}
use Rattle.raft_snapshot.proofs.Logs.{with_prefix-length, with_prefix-grown}
use Rattle.raft_snapshot.proofs.Shown.{may_fill, whole_shown}
use Rattle.raft_core.specs.Inputs.{Own}
use Rattle.raft_core.specs.RaftView.{RaftView}
use Rattle.raft_core.specs.Refusals.{refusal_by, HidesNothing, IsRefused}
use Rattle.raft_core.specs.Steps.{RefinesRaft, Steps, Takes}
use Rattle.raft_core.specs.Inner.Proposals.{shown_refusal, IsShownRefused}
use Rattle.raft_core.proofs.Sends.{sends-none}

module _ {S C : Type 0} (m : MachineSpec S C) (view : RaftView S C) (shown : IsCompacted view.base view.server) (command : C) (s : Raft C) (r : RefinesRaft m view s) where
  length_is : length s.log ≡ length view.server.log
  length_is =
      let may = may_fill m view.base view.server shown r.covered r.fits in
      ap (λ (x : Raft C). length x.log) r.is ∙ with_prefix-length r.covered view.server.log may.within may.term

  mode_is : s.mode ≡ view.server.mode
  mode_is = ap (λ (x : Raft C). x.mode) r.is

  refusal_of : (up leads index_left : Bool) (known : Option ℕ) (own : Option Refusal) (turn : RaftTurn C) →
      refusal_by (if up then (if leads then unless (if index_left then own else Some refusals.Exhausted) turn else Err (refusals.NotLeader known)) else Err refusals.Down)
      ≡ (if up then (if leads then (if index_left then own else Some refusals.Exhausted) else Some (refusals.NotLeader known)) else Some refusals.Down)
  refusal_of false leads index_left known own turn = refl
  refusal_of true false index_left known own turn = refl
  refusal_of true true false known own turn = refl
  refusal_of true true true known None turn = refl
  refusal_of true true true known (Some cause) turn = refl

  taken_of : (up leads index_left : Bool) (known : Option ℕ) (own : Option Refusal) (turn : RaftTurn C) →
      (if up then (if leads then (if index_left then own else Some refusals.Exhausted) else Some (refusals.NotLeader known)) else Some refusals.Down) ≡ None →
      (if up then (if leads then unless (if index_left then own else Some refusals.Exhausted) turn else Err (refusals.NotLeader known)) else Err refusals.Down) ≡ Ok turn
  taken_of false leads index_left known own turn none = absurd (cc)
  taken_of true false index_left known own turn none = absurd (cc)
  taken_of true true false known own turn none = absurd (cc)
  taken_of true true true known None turn none = refl
  taken_of true true true known (Some cause) turn none = absurd (cc)

  known_is : s.known ≡ view.server.known
  known_is = ap (λ (x : Raft C). x.known) r.is

  -- the definitions' refusal, by what is shown
  refusal_is : (n me : ℕ) → refusal_by (step m n me s (Propose command)) ≡ shown_refusal m view command
  refusal_is n me = rw (mode_is, length_is, known_is, whole_shown m view.base view.server s r)
      (refusal_of (is_up view.server.mode) (is_leader view.server.mode) (nat_lt (length view.server.log) MAX) view.server.known (m.admission (state_from m view.base view.server.log) command) _)

  step_is : (n me : ℕ) → shown_refusal m view command ≡ None → step m n me s (Propose command) ≡ Ok (silent (extended s command))
  step_is n me none = rw (mode_is, length_is, known_is, whole_shown m view.base view.server s r)
      (taken_of (is_up view.server.mode) (is_leader view.server.mode) (nat_lt (length view.server.log) MAX) view.server.known (m.admission (state_from m view.base view.server.log) command) _ none)

  early_of : (leads index_left : Bool) (x : Option Refusal) → leads ≡ true → index_left ≡ true → (if leads && index_left then None else x) ≡ None
  early_of leads index_left x l o = rw (l, o) refl

  refused_as : (n me : ℕ) (cause : Refusal) → IsShownRefused m view command cause → IsRefused m n me s (Own (Propose command)) cause
  refused_as n me refusals.NoMemory is = ap is_leader mode_is ∙ is.0
  refused_as n me cause is = refusal_is n me ∙ is

  hides_as : (n me : ℕ) (cause : Refusal) → IsShownRefused m view command cause → HidesNothing m n me s (Own (Propose command)) cause
  hides_as n me refusals.NoMemory is = early_of (is_leader s.mode) (nat_lt (length s.log) MAX) _ (ap is_leader mode_is ∙ is.0) (ap (λ (k : ℕ). nat_lt k MAX) length_is ∙ is.1)
  hides_as n me cause is = tt

  -- a command is appended, whatever was sent
  proposed : (new : RaftView S C) → shown_refusal m view command ≡ None → new.base ≡ view.base → new.server ≡ extended view.server command → (sent : List Frame) → Takes m view s (Own (Propose command)) new sent sent
  proposed new none base server sent = λ input reads.
      let P = r.covered in
      let may = may_fill m view.base view.server shown P r.fits in
      let entry : Entry C = record { term = view.server.term; command = command } in
      let is : extended s command ≡ with_prefix P new.server =
      ap (λ (x : Raft C). extended x command) r.is
      ∙ ap (λ (l : List (Entry C)). record view.server { log = l }) (with_prefix-grown P view.server.log may.within may.term (entry ∷ []))
      ∙ ap (with_prefix P) (sym server) in
      let at : Steps m view s (Propose command) new sent sent = record {
        turn = silent (extended s command);
        step = step_is view.size view.me none;
        refines = record { covered = P; fits = rw base r.fits; is = is };
        sent = sends-none m sent;
      } in
      subst (λ (i : Input C). Steps m view s i new sent sent) (sym reads) at

-- so of each of them
module _ {S C : Type 0} (m : MachineSpec S C) (view : RaftView S C) (shown : IsCompacted view.base view.server) (command : C) where
  pub refused_each : (cause : Refusal) → IsShownRefused m view command cause → (s : Raft C) → RefinesRaft m view s → IsRefused m view.size view.me s (Own (Propose command)) cause
  refused_each cause is s r = refused_as m view shown command s r view.size view.me cause is

  pub hides_each : (cause : Refusal) → IsShownRefused m view command cause → (s : Raft C) → RefinesRaft m view s → HidesNothing m view.size view.me s (Own (Propose command)) cause
  hides_each cause is s r = hides_as m view shown command s r view.size view.me cause is

  pub proposed_each : (new : RaftView S C) → shown_refusal m view command ≡ None → new.base ≡ view.base → new.server ≡ extended view.server command → (s : Raft C) (sent : List Frame) → RefinesRaft m view s → Takes m view s (Own (Propose command)) new sent sent
  proposed_each new none base server s sent r = proposed m view shown command s r new none base server sent
