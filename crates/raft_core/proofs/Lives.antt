-- What a server that starts keeps.
use Rattle.std.proofs.Common.{◌≡◌, ℕ, zero, suc, ◌-◌, ◌^◌, ◌<◌, ◌≤◌, lit<, Bool, true, Option, Some, None, IfSome, slice_index, replicate, take, drop, add-zero, List, [], ◌∷◌, ◌++◌, length, length-append, refl, sym, ap, ◌∙◌, arith}
use Rattle.std.proofs.Math.Seq.{take-append_seam}
use Rattle.std.proofs.lemmas.List.{length-replicate, take-append-le, drop-take}
use Rattle.machine_model.specs.MachineSpec.{MachineSpec}
use Rattle.machine_model.specs.declared.entry.Entry.{Entry}
use Rattle.machine_model.specs.After.{after_from}
use Rattle.raft_model.specs.Logs.{commands}
use Rattle.raft_snapshot.specs.Bases.{Base, state_from}
use Rattle.raft_model.specs.Rafts.{Raft, is_up, is_leader, extended}
use Rattle.raft_core.specs.RaftView.{IsUpToCommit, IsProjected, HasElectionIndex, HasTerm, RaftInvariant, while_up, mode_of}
use Rattle.raft_core.specs.declared.role.Role.{Role}
use Rattle.raft_core.specs.declared.role.Role.TheVariants as roles

zero_levels : (n j : ℕ) → slice_index (replicate n 0) j < 2 ^ 40
zero_levels zero j = lit< tt
zero_levels (suc n) zero = lit< tt
zero_levels (suc n) (suc j) = zero_levels n j

replicate_least : (n k j : ℕ) → 1 ≤ k → j < n → 1 ≤ slice_index (replicate n k) j
replicate_least zero k j some below = absurd (omega arith)
replicate_least (suc n) k zero some below = some
replicate_least (suc n) k (suc j) some below = replicate_least n k j some (omega arith)

replicate_most : (n k b j : ℕ) → k ≤ b → slice_index (replicate n k) j ≤ b
replicate_most zero k b j most = omega arith
replicate_most (suc n) k b zero most = most
replicate_most (suc n) k b (suc j) most = replicate_most n k b j most

-- lists that were filled with one index
pub filled_least : (next : List ℕ) (n k size : ℕ) → next ≡ replicate n k → 1 ≤ k → length next ≡ size → (j : ℕ) → j < size → 1 ≤ slice_index next j
filled_least next n k size is some each j below =
    let all : length next ≡ n = ap length is ∙ length-replicate n k in
    rw is (replicate_least n k j some (omega (arith, all, each, below)))

pub filled_most : (next : List ℕ) (n k : ℕ) → next ≡ replicate n k → k ≤ 2 ^ 40 → (j : ℕ) → slice_index next j ≤ 2 ^ 40
filled_most next n k is most j = rw is (replicate_most n k (2 ^ 40) j most)

-- at the base nothing more is applied
pub state_none : {S C : Type 0} (m : MachineSpec S C) (base : Base S) (log : List (Entry C)) → state_from m base (take base.index log) ≡ base.state
unfolding commands
state_none m base log = ap (λ (l : List (Entry _)). after_from m base.state (commands l)) (ap (λ (i : ℕ). drop base.index (take i log)) (sym (add-zero base.index)) ∙ drop-take base.index 0 log)

-- what is covered is applied, and nothing else
pub begun : {S C : Type 0} (m : MachineSpec S C) (base : Base S) (log : List (Entry C)) (matched : List ℕ) (s : S) → base.index ≤ length log → s ≡ base.state → ((j : ℕ) → slice_index matched j < 2 ^ 40) → IsUpToCommit m base log base.index matched s
begun m base log matched s within is levels = record {
  covered = omega arith;
  committed = within;
  state = is ∙ sym (state_none m base log);
  levels = levels;
}

pub fresh : {S C : Type 0} (m : MachineSpec S C) (base : Base S) (log : List (Entry C)) (n : ℕ) (matched : List ℕ) (s : S) → base.index ≤ length log → s ≡ base.state → matched ≡ replicate n 0 → IsUpToCommit m base log base.index matched s
fresh m base log n matched s within is levels = begun m base log matched s within is (λ j. rw levels (zero_levels n j))

module _ {S C : Type 0} (m : MachineSpec S C) where
  live_grown : (base : Base S) (log : List (Entry C)) (e : Entry C) (commit : ℕ) (matched : List ℕ) (machine : Option S) → IfSome machine (IsUpToCommit m base log commit matched) → IfSome machine (IsUpToCommit m base (log ++ e ∷ []) commit matched)
  live_grown base log e commit matched None live = tt
  live_grown base log e commit matched (Some s) live = record {
    covered = live.covered;
    committed = omega (arith, live.committed, length-append log (e ∷ []));
    state = live.state ∙ sym (ap (state_from m base) (take-append-le commit log (e ∷ []) live.committed));
    levels = live.levels;
  }

  -- one more entry
  pub grown : (me size term : ℕ) (base : Base S) (log : List (Entry C)) (e : Entry C) (old new : Role) (commit : ℕ) (votes : List Bool) (next matched : List ℕ) (machine was is : Option S) → RaftInvariant m me size term base log old commit votes next matched machine was → HasTerm new term → HasElectionIndex new (log ++ e ∷ []) → IfSome is (IsProjected m base (log ++ e ∷ []) new machine) → RaftInvariant m me size term base (log ++ e ∷ []) new commit votes next matched machine is
  grown me size term base log e old new commit votes next matched machine was is kept elected index_left projected = record {
    number = kept.number;
    group = kept.group;
    elected = elected;
    index_left = index_left;
    votes_each = kept.votes_each;
    next_each = kept.next_each;
    next_least = kept.next_least;
    next_most = kept.next_most;
    matched_each = kept.matched_each;
    live = live_grown base log e commit matched machine kept.live;
    second = projected;
  }

  live_reset : (base : Base S) (log : List (Entry C)) (commit : ℕ) (matched levels : List ℕ) (n : ℕ) (machine : Option S) → levels ≡ replicate n 0 → IfSome machine (IsUpToCommit m base log commit matched) → IfSome machine (IsUpToCommit m base log commit levels)
  live_reset base log commit matched levels n None is live = tt
  live_reset base log commit matched levels n (Some s) is live = record { covered = live.covered; committed = live.committed; state = live.state; levels = λ j. rw is (zero_levels n j) }

  -- nothing is known of what others hold, and no second machine is there
  pub reset : (me size term : ℕ) (base : Base S) (log : List (Entry C)) (role : Role) (commit : ℕ) (votes : List Bool) (old_next old_matched next matched : List ℕ) (first n k : ℕ) (machine was : Option S) → RaftInvariant m me size term base log role commit votes old_next old_matched machine was → 1 ≤ first → first ≤ 2 ^ 40 → next ≡ replicate n first → matched ≡ replicate k 0 → length next ≡ size → length matched ≡ size → RaftInvariant m me size term base log role commit votes next matched machine None
  reset me size term base log role commit votes old_next old_matched next matched first n k machine was is least most begins none next_each matched_each = record {
    number = is.number;
    group = is.group;
    elected = is.elected;
    index_left = is.index_left;
    votes_each = is.votes_each;
    next_each = next_each;
    next_least = filled_least next n first size begins least next_each;
    next_most = filled_most next n first begins most;
    matched_each = matched_each;
    live = live_reset base log commit old_matched matched k machine none is.live;
    second = tt;
  }

-- what others are known to hold, of one that is up
pub up_levels : {S C : Type 0} (m : MachineSpec S C) (base : Base S) (log : List (Entry C)) (commit : ℕ) (matched : List ℕ) (machine : Option S) (s : Raft C) → is_up (while_up machine s).mode ≡ true → IfSome machine (IsUpToCommit m base log commit matched) → (j : ℕ) → slice_index matched j < 2 ^ 40
up_levels m base log commit matched None s up live = absurd (cc up)
up_levels m base log commit matched (Some machine) s up live = live.levels

-- a leader needs no further room
pub leader_room : {S C : Type 0} (machine : Option S) (term : ℕ) (vote : Option ℕ) (log more : List (Entry C)) (covered commit : ℕ) (known : Option ℕ) (role : Role) (votes : List Bool) (next matched : List ℕ) → is_leader (while_up machine (record { term = term; vote = vote; log = log; covered = covered; commit = commit; known = known; mode = mode_of role votes next matched })).mode ≡ true → HasElectionIndex role more
leader_room None term vote log more covered commit known role votes next matched leads = absurd (cc leads)
leader_room (Some s) term vote log more covered commit known roles.Follower votes next matched leads = tt
leader_room (Some s) term vote log more covered commit known roles.Candidate votes next matched leads = absurd (cc leads)
leader_room (Some s) term vote log more covered commit known roles.Leader votes next matched leads = tt

-- a server that leads is up, and a second machine in the state after its whole log is one it keeps
pub second_grown : {S C : Type 0} (m : MachineSpec S C) (base : Base S) (machine projected : Option S) (term : ℕ) (vote : Option ℕ) (log more : List (Entry C)) (covered commit : ℕ) (known : Option ℕ) (role : Role) (votes : List Bool) (next matched : List ℕ) → is_leader (while_up machine (record { term = term; vote = vote; log = log; covered = covered; commit = commit; known = known; mode = mode_of role votes next matched })).mode ≡ true → IfSome projected (λ s. s ≡ state_from m base more) → IfSome projected (IsProjected m base more role machine)
second_grown m base machine None term vote log more covered commit known role votes next matched leads is = tt
second_grown m base None (Some a) term vote log more covered commit known role votes next matched leads is = absurd (cc leads)
second_grown m base (Some s) (Some a) term vote log more covered commit known roles.Follower votes next matched leads is = absurd (cc leads)
second_grown m base (Some s) (Some a) term vote log more covered commit known roles.Candidate votes next matched leads is = absurd (cc leads)
second_grown m base (Some s) (Some a) term vote log more covered commit known roles.Leader votes next matched leads is = record { up = refl; leads = refl; state = is }

-- a second machine is in the state before the last entry of a log that grew
pub second_behind : {S C : Type 0} (m : MachineSpec S C) (base : Base S) (log : List (Entry C)) (e : Entry C) (role : Role) (machine projected : Option S) (now : Base S) (new : List (Entry C)) → now ≡ base → new ≡ log ++ e ∷ [] → IfSome projected (IsProjected m base log role machine) → IfSome projected (λ s. s ≡ state_from m now (take (length new - 1) new))
second_behind m base log e role machine None now new same is kept = tt
second_behind m base log e role machine (Some s) now new same is kept =
    let size : length new - 1 ≡ length log = omega (arith, ap length is, length-append log (e ∷ [])) in
    rw (same, size, is) (kept.state ∙ ap (state_from m base) (sym (take-append_seam log (e ∷ []))))

-- what is stored is seen also of a server that is down
pub term_up : {S C : Type 0} (machine : Option S) (s : Raft C) → (while_up machine s).term ≡ s.term
term_up None s = refl
term_up (Some machine) s = refl

pub log_up : {S C : Type 0} (machine : Option S) (s : Raft C) → (while_up machine s).log ≡ s.log
log_up None s = refl
log_up (Some machine) s = refl

-- a log that grew by a command, also of a server that is down
pub extended_by : {S C : Type 0} (machine : Option S) (s : Raft C) (command : C) (log : List (Entry C)) → log ≡ s.log ++ record { term = s.term; command = command } ∷ [] → while_up machine (record s { log = log }) ≡ extended (while_up machine s) command
extended_by None s command log is = rw is refl
extended_by (Some machine) s command log is = rw is refl
