-- What a leader sends at a beat.
use Rattle.std.proofs.Common.{◌≡◌, ℕ, zero, suc, ◌+◌, ◌^◌, ◌<◌, ◌≤◌, Bool, true, false, nat_le, if◌then◌else◌, Option, Some, None, List, length, take, drop, refl, sym, ap, ◌∙◌, arith}
use Rattle.std.proofs.lemmas.List.{length-take, length-drop}
use Rattle.machine_model.specs.MachineSpec.{MachineSpec}
use Rattle.machine_model.specs.declared.entry.Entry.{Entry}
use Rattle.wire.specs.Frames.{Frame}
use Rattle.raft_snapshot.specs.Bases.{Base, IsBaseOf}
use Rattle.raft_snapshot.specs.Prefixes.{with_prefix}
use Rattle.raft_snapshot.specs.Compacted.{IsCompacted}
use Rattle.raft_snapshot.proofs.Shown.{may_fill}
use Rattle.raft_snapshot.proofs.Snapshots.{beat-with_prefix}
use Rattle.raft_model.specs.Messages.{Body, Message, Install, to_others}
use Rattle.raft_model.specs.Quorums.{index_at}
use Rattle.raft_model.specs.Rafts.{Raft, Leader, is_up, beat_body, beat_message}
use Rattle.raft_core.specs.declared.role.Role.{Role}
use Rattle.raft_core.specs.declared.role.Role.TheVariants as roles
use Rattle.raft_core.specs.Inner.Beats.{body_from, sent_from}
use Rattle.raft_core.specs.Inner.Moves.{Beats}
use Rattle.raft_core.specs.Frames.{Sends}
use Rattle.raft_core.specs.RaftView.{RaftView, while_up, mode_of}

module _ {C : Type 0} (log : List (Entry C)) where
  pub few_behind : (index : ℕ) → length (take 32 (drop index log)) ≤ 32
  few_behind index = omega (arith, length-take 32 (drop index log))

  -- the last index sent is one of the log, or none is sent
  pub behind_fits : (index : ℕ) → index < 2 ^ 40 → length log < 2 ^ 40 → index + length (take 32 (drop index log)) < 2 ^ 40
  behind_fits index fits short = omega (arith, length-take 32 (drop index log), length-drop index log)

others-same : {C : Type 0} (me : ℕ) (f g : ℕ → Message C) (n : ℕ) → ((j : ℕ) → j < n → f j ≡ g j) → to_others me f n ≡ to_others me g n
unfolding to_others
others-same me f g zero same = refl
others-same me f g (suc n) same =
    let e : f n ≡ g n = same n (omega arith) in
    let r : to_others me f n ≡ to_others me g n = others-same me f g n (λ j below. same j (omega arith)) in rw (e, r) refl

module _ {S C : Type 0} (m : MachineSpec S C) (base : Base S) (shown : Raft C) (is : IsCompacted base shown) (covered : List (Entry C)) (fits : IsBaseOf m base covered) where
  -- what the code sends is what the leader owes whose covered entries these are
  owed : (me next to : ℕ) → sent_from me shown.term shown.commit covered shown.log next to ≡ record { from = me; to = to; term = shown.term; body = beat_body (with_prefix covered shown) next }
  owed me next to =
      let may = may_fill m base shown is covered fits in
      let size : shown.covered ≡ length covered = is.count ∙ sym fits.index in
      let says = beat-with_prefix covered shown may size next in
      let low : nat_le next shown.covered ≡ nat_le next (length covered) = ap (nat_le next) size in
      ap (λ (b : Body C). let x : Message C = record { from = me; to = to; term = shown.term; body = b } in x) (sym (says ∙ bodies_at next (nat_le next shown.covered) refl low)) where
        bodies_at : (next : ℕ) (b : Bool) → nat_le next shown.covered ≡ b → nat_le next shown.covered ≡ nat_le next (length covered) → (if nat_le next shown.covered then Install covered else beat_body shown next) ≡ body_from shown.commit covered shown.log next
        bodies_at next true low same = rw (← same, low) refl
        bodies_at next false low same = rw (← same, low) refl

  pub all_owed : (me n : ℕ) (next : List ℕ) → to_others me (λ to. sent_from me shown.term shown.commit covered shown.log (index_at next to) to) n ≡ to_others me (beat_message me (with_prefix covered shown) next) n
  all_owed me n next = others-same me (λ to. sent_from me shown.term shown.commit covered shown.log (index_at next to) to) (beat_message me (with_prefix covered shown) next) n (λ j below. owed me (index_at next j) j)

-- what a leader sends, for each list that its snapshot may cover
pub beats_by : {S C : Type 0} (m : MachineSpec S C) (old : RaftView S C) (base : Base S) (machine : Option S) (me size term : ℕ) (vote : Option ℕ) (log : List (Entry C)) (commit : ℕ) (known : Option ℕ) (role : Role) (votes : List Bool) (next match : List ℕ) (held : Bool) (before after : List Frame) → record { me = me; size = size; base = base; server = while_up machine (record { term = term; vote = vote; log = log; covered = base.index; commit = commit; known = known; mode = mode_of role votes next match }); projected = held } ≡ old → IsCompacted old.base old.server → is_up old.server.mode ≡ true → role ≡ roles.Leader → length next ≡ size → ((covered : List (Entry C)) → IsBaseOf m base covered → Sends m before after (to_others me (λ to. sent_from me term commit covered log (index_at next to) to) (length next))) → Beats m old before after
beats_by m old base None me size term vote log commit known role votes next match held before after old-is shown up leads each sent = absurd (let down : false ≡ true = rw (← old-is) at up in cc)
beats_by m old base (Some machine) me size term vote log commit known role votes next match held before after old-is shown up leads each sent =
    rw (← old-is) (record { up = rw (← old-is) at up; sent = λ covered fits. rw leads (rw (each, all_owed m base (record { term = term; vote = vote; log = log; covered = base.index; commit = commit; known = known; mode = Leader next match }) (rw (← old-is, leads) at shown) covered fits me size next) at (sent covered fits)) })
