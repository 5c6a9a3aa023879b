-- What a Compact leaves.
use Rattle.std.proofs.Common.{◌≡◌, ℕ, ◌≤◌, Bool, true, false, List, [], ◌++◌, length, take, drop, Option, Some, None, IfSome, sym, ap, ◌∙◌, arith, length-append, length-drop, length-take-le}
use Rattle.std.proofs.Math.Seq.{drop-append_seam}
use Rattle.std.proofs.lemmas.List.{take-append-drop}
use Rattle.machine_model.specs.MachineSpec.{MachineSpec}
use Rattle.machine_model.specs.After.{after_from}
use Rattle.machine_model.specs.declared.entry.Entry.{Entry}
use Rattle.raft_model.specs.Logs.{term_at, commands}
use Rattle.raft_model.specs.Rafts.{Raft, Mode, is_up}
use Rattle.raft_snapshot.specs.Bases.{Base, noop_prefix, state_from}
use Rattle.raft_snapshot.specs.Compacted.{IsCompacted, compacted_base, compacted_further}
use Rattle.raft_snapshot.proofs.Applies.{state_from-append}
use Rattle.raft_snapshot.proofs.Blanks.{noop_prefix-length}
use Rattle.raft_core.specs.declared.role.Role.{Role}
use Rattle.raft_core.specs.declared.role.Role.TheVariants as roles
use Rattle.raft_core.specs.RaftView.{RaftView, IsUpToCommit, IsProjected, HasElectionIndex, RaftInvariant, while_up}
use Rattle.raft_core.specs.Inner.Moves.{Compacts}
use Rattle.raft_core.proofs.Lives.{state_none}

module _ {S C : Type 0} (m : MachineSpec S C) (base : Base S) (shown : Raft C) where
  -- where nothing is newly applied, it is as it was
  pub same_base : IsCompacted base shown → shown.commit ≡ base.index → compacted_base m base shown ≡ base
  same_base is same =
      ap (λ (k : ℕ). let b : Base S = record { index = k; term = term_at shown.log k; state = state_from m base (take k shown.log) } in b) same
      ∙ ap (λ (t : ℕ). let b : Base S = record { index = base.index; term = t; state = state_from m base (take base.index shown.log) } in b) (sym is.term)
      ∙ ap (λ (x : S). let b : Base S = record { index = base.index; term = base.term; state = x } in b) (state_none m base shown.log)

  pub same_shown : IsCompacted base shown → shown.commit ≡ base.index → shown.log ≡ noop_prefix m base.index base.term ++ drop base.index shown.log → compacted_further m shown ≡ shown
  same_shown is same blanks =
      ap (λ (k : ℕ). record shown { covered = k; log = noop_prefix m k (term_at shown.log k) ++ drop k shown.log }) same
      ∙ ap (λ (t : ℕ). record shown { covered = base.index; log = noop_prefix m base.index t ++ drop base.index shown.log }) (sym is.term)
      ∙ ap (λ (l : List (Entry C)). record shown { covered = base.index; log = l }) (sym blanks)
      ∙ ap (λ (k : ℕ). record shown { covered = k }) (sym is.count)

pub compacted_already : {S C : Type 0} (m : MachineSpec S C) (old : RaftView S C) (base : Base S) (machine : Option S) (me size term : ℕ) (vote : Option ℕ) (log : List (Entry C)) (commit : ℕ) (known : Option ℕ) (mode : Mode) (held : Bool) → record { me = me; size = size; base = base; server = while_up machine (record { term = term; vote = vote; log = log; covered = base.index; commit = commit; known = known; mode = mode }); projected = held } ≡ old → is_up old.server.mode ≡ true → IsCompacted old.base old.server → commit ≡ base.index → log ≡ noop_prefix m base.index base.term ++ drop base.index log → Compacts m old old
compacted_already m old base None me size term vote log commit known mode held old-is up shown same blanks = absurd (let down : false ≡ true = rw (← old-is) at up in cc)
compacted_already m old base (Some machine) me size term vote log commit known mode held old-is up shown same blanks =
    let s : Raft _ = record { term = term; vote = vote; log = log; covered = base.index; commit = commit; known = known; mode = mode } in
    let is : IsCompacted base s = rw (← old-is) at shown in
    rw (← old-is) (record {
      up = rw (← old-is) at up;
      within = omega (arith, same, is.within);
      base = sym (same_base m base s is same);
      server = sym (same_shown m base s is same blanks);
    })

module _ {S C : Type 0} (m : MachineSpec S C) (base now : Base S) (log new : List (Entry C)) (commit term : ℕ) (now-is : now ≡ record { index = commit; term = term; state = state_from m base (take commit log) }) (new-is : new ≡ noop_prefix m commit term ++ drop commit log) (covered : base.index ≤ commit) (within : commit ≤ length log) where
  blanks : length (noop_prefix m commit term) ≡ commit
  blanks = noop_prefix-length m commit term []

  -- the log is as long as it was
  size : length new ≡ length log
  size = omega (arith, ap length new-is, length-append (noop_prefix m commit term) (drop commit log), blanks, length-drop commit log)

  -- and leads to the state to which it led
  whole : state_from m now new ≡ state_from m base log
  whole =
      let behind : drop commit (noop_prefix m commit term ++ drop commit log) ≡ drop commit log = ap (λ (k : ℕ). drop k (noop_prefix m commit term ++ drop commit log)) (sym blanks) ∙ drop-append_seam (noop_prefix m commit term) (drop commit log) in
      let past : base.index ≤ length (take commit log) = omega (arith, covered, length-take-le commit log within) in
      ap (λ (b : Base S). state_from m b new) now-is
      ∙ ap (λ (l : List (Entry C)). after_from m (state_from m base (take commit log)) (commands (drop commit l))) new-is
      ∙ ap (λ (l : List (Entry C)). after_from m (state_from m base (take commit log)) (commands l)) behind
      ∙ sym (state_from-append m base (take commit log) (drop commit log) past)
      ∙ ap (state_from m base) (take-append-drop commit log)

  lives : (s : S) (matched : List ℕ) → IsUpToCommit m base log commit matched s → IsUpToCommit m now new commit matched s
  lives s matched live = record {
    covered = omega (arith, ap (λ (b : Base S). b.index) now-is);
    committed = omega (arith, size, within);
    state = live.state ∙ sym (ap (λ (k : ℕ). state_from m now (take k new)) (sym (ap (λ (b : Base S). b.index) now-is)) ∙ state_none m now new ∙ ap (λ (b : Base S). b.state) now-is);
    levels = live.levels;
  }

  leads : (role : Role) (machine projected : Option S) → IfSome projected (IsProjected m base log role machine) → IfSome projected (IsProjected m now new role machine)
  leads role machine None is = tt
  leads role machine (Some a) is = record { up = is.up; leads = is.leads; state = is.state ∙ sym whole }

  indexes_left : (role : Role) → HasElectionIndex role log → HasElectionIndex role new
  indexes_left roles.Follower index_left = tt
  indexes_left roles.Candidate index_left = omega (arith, size, index_left)
  indexes_left roles.Leader index_left = tt

  -- what its type keeps
  pub compacted_keeps : (me size term : ℕ) (role : Role) (votes : List Bool) (next matched : List ℕ) (s : S) (projected : Option S) → RaftInvariant m me size term base log role commit votes next matched (Some s) projected → RaftInvariant m me size term now new role commit votes next matched (Some s) projected
  compacted_keeps me size term role votes next matched s projected kept = record {
    number = kept.number;
    group = kept.group;
    elected = kept.elected;
    index_left = indexes_left role kept.index_left;
    votes_each = kept.votes_each;
    next_each = kept.next_each;
    next_least = kept.next_least;
    next_most = kept.next_most;
    matched_each = kept.matched_each;
    live = lives s matched kept.live;
    second = leads role (Some s) projected kept.second;
  }
