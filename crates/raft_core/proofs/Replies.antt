-- What a leader knows of the others' logs, after an answer.
use Rattle.std.proofs.Common.{◌≡◌, ℕ, zero, suc, ◌-◌, ◌^◌, ◌<◌, ◌≤◌, max, min, Bool, true, false, nat_le, Option, Some, None, is_some, IfSome, List, [], ◌∷◌, ◌++◌, length, take, drop, slice_index, slice_set, refl, sym, ap, ◌∙◌, arith}
use Rattle.std.proofs.Math.Seq.{take-append_seam}
use Rattle.machine_model.specs.MachineSpec.{MachineSpec}
use Rattle.machine_model.specs.declared.entry.Entry.{Entry}
use Rattle.raft_snapshot.specs.Bases.{Base, state_from}
use Rattle.raft_model.specs.Quorums.{index_at}
use Rattle.raft_model.specs.Rafts.{Raft, Leader, greatest}
use Rattle.raft_core.specs.Inner.Commits.{is_chosen_in}
use Rattle.raft_core.specs.declared.role.Role.{Role}
use Rattle.raft_core.specs.declared.role.Role.TheVariants as roles
use Rattle.raft_core.specs.RaftView.{RaftView, mode_of, IsUpToCommit, IsProjected, RaftInvariant}
use Rattle.raft_core.specs.Inner.Replies.{after_append_reply, next_after, match_after}

-- what holds of each item holds of each after a write
set-each : (P : ℕ → Type 0) (xs : List ℕ) (i v j : ℕ) → P v → P (slice_index xs j) → P (slice_index (slice_set xs i v) j)
set-each P [] i v j new old = old
set-each P (x ∷ xs) zero v zero new old = new
set-each P (x ∷ xs) zero v (suc j) new old = old
set-each P (x ∷ xs) (suc i) v zero new old = old
set-each P (x ∷ xs) (suc i) v (suc j) new old = set-each P xs i v j new old

length-slice_set : (xs : List ℕ) (i v : ℕ) → length (slice_set xs i v) ≡ length xs
length-slice_set [] i v = refl
length-slice_set (x ∷ xs) zero v = refl
length-slice_set (x ∷ xs) (suc i) v = ap suc (length-slice_set xs i v)

pub index-at : (xs : List ℕ) (i : ℕ) → index_at xs i ≡ slice_index xs i
index-at [] i = refl
index-at (x ∷ xs) zero = refl
index-at (x ∷ xs) (suc i) = index-at xs i

module _ (last i at : ℕ) where
  next-each : (P : ℕ → Type 0) (ok t : Bool) (next match : List ℕ) → nat_le at last ≡ t → (t ≡ true → P (suc (max (index_at match i) at))) → P (max (suc (index_at match i)) (min (index_at next i - 1) (suc at))) → (j : ℕ) → P (slice_index next j) → P (slice_index (next_after last i ok at next match) j)
  next-each P true true next match is up down j old = rw is (set-each P next i (suc (max (index_at match i) at)) j (up refl) old)
  next-each P true false next match is up down j old = rw is old
  next-each P false t next match is up down j old = set-each P next i _ j down old

  pub next-least : (ok : Bool) (next match : List ℕ) (size : ℕ) → ((j : ℕ) → j < size → 1 ≤ slice_index next j) → (j : ℕ) → j < size → 1 ≤ slice_index (next_after last i ok at next match) j
  next-least ok next match size old j below = next-each (λ x. 1 ≤ x) ok (nat_le at last) next match refl (λ e. omega arith) (omega arith) j (old j below)

  pub next-most : (ok : Bool) (next match : List ℕ) → at < 2 ^ 40 → ((j : ℕ) → slice_index match j < 2 ^ 40) → ((j : ℕ) → slice_index next j ≤ 2 ^ 40) → (j : ℕ) → slice_index (next_after last i ok at next match) j ≤ 2 ^ 40
  next-most ok next match short levels old j =
      let level : index_at match i < 2 ^ 40 = rw (index-at match i) (levels i) in
      next-each (λ x. x ≤ 2 ^ 40) ok (nat_le at last) next match refl (λ e. omega arith) (omega arith) j (old j)

  match-each : (ok t : Bool) (match : List ℕ) → nat_le at last ≡ t → at < 2 ^ 40 → index_at match i < 2 ^ 40 → (j : ℕ) → slice_index match j < 2 ^ 40 → slice_index (match_after last i ok at match) j < 2 ^ 40
  match-each true true match is short level j old = rw is (set-each (λ x. x < 2 ^ 40) match i (max (index_at match i) at) j (omega arith) old)
  match-each true false match is short level j old = rw is old
  match-each false t match is short level j old = old

  pub match-below : (ok : Bool) (match : List ℕ) → at < 2 ^ 40 → ((j : ℕ) → slice_index match j < 2 ^ 40) → (j : ℕ) → slice_index (match_after last i ok at match) j < 2 ^ 40
  match-below ok match short levels j = match-each ok (nat_le at last) match refl short (rw (index-at match i) (levels i)) j (levels j)

  next-length_at : (ok t : Bool) (next match : List ℕ) → nat_le at last ≡ t → length (next_after last i ok at next match) ≡ length next
  next-length_at true true next match is = rw is (length-slice_set next i _)
  next-length_at true false next match is = rw is refl
  next-length_at false t next match is = length-slice_set next i _

  pub next-length : (ok : Bool) (next match : List ℕ) → length (next_after last i ok at next match) ≡ length next
  next-length ok next match = next-length_at ok (nat_le at last) next match refl

  match-length_at : (ok t : Bool) (match : List ℕ) → nat_le at last ≡ t → length (match_after last i ok at match) ≡ length match
  match-length_at true true match is = rw is (length-slice_set match i _)
  match-length_at true false match is = rw is refl
  match-length_at false t match is = refl

  pub match-length : (ok : Bool) (match : List ℕ) → length (match_after last i ok at match) ≡ length match
  match-length ok match = match-length_at ok (nat_le at last) match refl

module _ {C : Type 0} (n me term : ℕ) (vote : Option ℕ) (log : List (Entry C)) (covered commit : ℕ) (known : Option ℕ) (next match : List ℕ) (i at : ℕ) where
  abbrev pub leader : List ℕ → List ℕ → ℕ → Raft C
  leader next match commit = record { term = term; vote = vote; log = log; covered = covered; commit = commit; known = known; mode = Leader next match }

  hears_at : (ok t : Bool) → nat_le at (length log) ≡ t → after_append_reply n me (leader next match commit) i ok at (Leader next match) ≡ leader (next_after (length log) i ok at next match) (match_after (length log) i ok at match) (greatest (is_chosen_in n me term log (match_after (length log) i ok at match)) commit (length log))
  hears_at true true is = rw is refl
  hears_at true false is = rw is refl
  hears_at false t is = refl

  -- a leader that has heard
  pub leader_hears : (ok : Bool) → after_append_reply n me (leader next match commit) i ok at (Leader next match) ≡ leader (next_after (length log) i ok at next match) (match_after (length log) i ok at match) (greatest (is_chosen_in n me term log (match_after (length log) i ok at match)) commit (length log))
  leader_hears ok = hears_at ok (nat_le at (length log)) refl

-- a list that was lent out is put back whole
pub put_back : (xs ys : List ℕ) (len : ℕ) → len ≡ length ys → take len (ys ++ drop (length ys) xs) ≡ ys
put_back xs ys len is = ap (λ (n : ℕ). take n (ys ++ drop (length ys) xs)) is ∙ take-append_seam ys (drop (length ys) xs)

live_at : {S C : Type 0} (m : MachineSpec S C) (base : Base S) (log : List (Entry C)) (commit : ℕ) (match : List ℕ) (new : Option S) → IfSome new (λ s. (base.index ≤ commit) × (commit ≤ length log) × (s ≡ state_from m base (take commit log))) → ((j : ℕ) → slice_index match j < 2 ^ 40) → IfSome new (IsUpToCommit m base log commit match)
live_at m base log commit match None live levels = tt
live_at m base log commit match (Some s) live levels = record { covered = live.0; committed = live.1; state = live.2; levels = levels }

-- a second machine is kept while the first is there
pub second_stays : {S C : Type 0} (m : MachineSpec S C) (base : Base S) (log : List (Entry C)) (role : Role) (old new projected : Option S) → is_some new ≡ true → IfSome projected (IsProjected m base log role old) → IfSome projected (IsProjected m base log role new)
second_stays m base log role old new None up kept = tt
second_stays m base log role old new (Some s) up kept = record { up = up; leads = kept.leads; state = kept.state }

module _ {S C : Type 0} (m : MachineSpec S C) (me size term : ℕ) (base : Base S) (log : List (Entry C)) (role : Role) (votes : List Bool) (next match : List ℕ) (i at : ℕ) where
  -- a server keeps what its type asks, whatever an answer says
  pub keeps : (ok : Bool) (before after : ℕ) (old new was is : Option S) → RaftInvariant m me size term base log role before votes next match old was → ((j : ℕ) → slice_index match j < 2 ^ 40) → at < 2 ^ 40 → IfSome new (λ s. (base.index ≤ after) × (after ≤ length log) × (s ≡ state_from m base (take after log))) → IfSome is (IsProjected m base log role new) → RaftInvariant m me size term base log role after votes (next_after (length log) i ok at next match) (match_after (length log) i ok at match) new is
  keeps ok before after old new was is kept levels short live projected = record {
    number = kept.number;
    group = kept.group;
    elected = kept.elected;
    index_left = kept.index_left;
    votes_each = kept.votes_each;
    next_each = next-length (length log) i at ok next match ∙ kept.next_each;
    next_least = next-least (length log) i at ok next match size kept.next_least;
    next_most = next-most (length log) i at ok next match short levels kept.next_most;
    matched_each = match-length (length log) i at ok match ∙ kept.matched_each;
    live = live_at m base log after (match_after (length log) i ok at match) new live (match-below (length log) i at ok match short levels);
    second = projected;
  }

-- what the code leaves is a leader that has heard
pub heard_by : {S C : Type 0} (old : RaftView S C) (base : Base S) (me size term : ℕ) (vote : Option ℕ) (log : List (Entry C)) (covered commit : ℕ) (known : Option ℕ) (role : Role) (votes : List Bool) (next match new_next new_match : List ℕ) (new_commit i at : ℕ) (ok held : Bool) → record { me = me; size = size; base = base; server = record { term = term; vote = vote; log = log; covered = covered; commit = commit; known = known; mode = mode_of role votes next match }; projected = held } ≡ old → role ≡ roles.Leader → new_next ≡ next_after (length log) i ok at next match → new_match ≡ match_after (length log) i ok at match → length match ≡ size → new_commit ≡ greatest (is_chosen_in (length new_match) me term log new_match) commit (length log) → record { term = term; vote = vote; log = log; covered = covered; commit = new_commit; known = known; mode = mode_of role votes new_next new_match } ≡ after_append_reply old.size old.me old.server i ok at old.server.mode
heard_by old base me size term vote log covered commit known role votes next match new_next new_match new_commit i at ok held old-is leads next-is match-is each risen =
    let n : length new_match ≡ size = ap length match-is ∙ match-length (length log) i at ok match ∙ each in
    rw (← old-is, leads, risen, n, next-is, match-is) (sym (leader_hears size me term vote log covered commit known next match i at ok))
