-- How servers stand, and what is told by that.
use Rattle.std.specs.Prelude.{◌≡◌, ◌⊎◌, ◌≤◌, ◌==◌, ◌&&◌, ◌||◌, ◌/◌, ℕ, Bool, true, false, if◌then◌else◌, nat_lt, not, is_some, count_by, length, MatchOption, Option, Some, None, List, [], ◌∷◌}
use Rattle.std.specs.List.{list_any}
use Rattle.raft_model.specs.Rafts as rafts
use Rattle.raft_core.specs.declared.role.Role.{Role}
use Rattle.raft_core.specs.declared.role.Role.TheVariants.{Follower, Candidate, Leader}
use Rattle.raft_core.specs.Steps.{role_of}
use Rattle.leader.specs.OpenDesks.{OpenDesk}
use Rattle.server.specs.ServerViews.{ServerView}
use Rattle.sim_expand.specs.declared.standing.ServerStanding.{ServerStanding}

-- so many plans wait at a desk; none do where it is closed
abbrev pub plans_of : Option OpenDesk → ℕ
plans_of None = 0
plans_of (Some o) = length o.desk.plans

-- a server of this number, for whose workers so many answers wait, stands so
pub record StandsSo (id : ℕ) (view : ServerView) (waiting : ℕ) (s : ServerStanding) : Type 0 where
  pub number : s.id ≡ id
  pub role : s.role ≡ role_of view.raft.server.mode
  pub term : s.term ≡ view.raft.server.term
  pub last : s.last ≡ length view.raft.server.log
  pub applied : MatchOption s.applied (rafts.is_up view.raft.server.mode ≡ false) (λ n. (rafts.is_up view.raft.server.mode ≡ true) × (n ≡ view.raft.server.commit))
  pub answers : s.waiting ≡ waiting
  pub plans : s.plans ≡ plans_of view.desk

-- ---- who leads

abbrev pub is_leading : Role → Bool
is_leading Follower = false
is_leading Candidate = false
is_leading Leader = true

abbrev pub leads_as : Option Role → Bool
leads_as None = false
leads_as (Some role) = is_leading role

abbrev pub leads : ServerStanding → Bool
leads s = leads_as s.role

-- it is one of these
abbrev pub IsOneOf : ServerStanding → List ServerStanding → Type 0
IsOneOf own [] = ⊥
IsOneOf own (s ∷ servers) = (own ≡ s) ⊎ IsOneOf own servers

-- none of these leads in a later term
abbrev pub NoneLater : ℕ → List ServerStanding → Type 0
NoneLater term [] = Unit {0}
NoneLater term (s ∷ servers) = (leads s ≡ true → s.term ≤ term) × NoneLater term servers

-- it is one of them that leads in the greatest term in which one leads
pub record IsLatestLeader (servers : List ServerStanding) (own : ServerStanding) : Type 0 where
  pub one : IsOneOf own servers
  pub leads : leads own ≡ true
  pub latest : NoneLater own.term servers

-- of what was found and one server more, the one that leads in the later term
abbrev pub later_than : ServerStanding → ServerStanding → Option ServerStanding
later_than other s = if nat_lt other.term s.term then Some s else Some other

abbrev pub later_of : Option ServerStanding → ServerStanding → Option ServerStanding
later_of None s = Some s
later_of (Some other) s = later_than other s

abbrev pub later : Option ServerStanding → ServerStanding → Option ServerStanding
later found s = if leads s then later_of found s else found

-- ---- how far the logs are

abbrev pub is_up : ServerStanding → Bool
is_up s = is_some s.applied

abbrev pub is_all : Option ℕ → ℕ → Bool
is_all None last = false
is_all (Some applied) last = applied == last

-- it is up, and all of its log is applied
abbrev pub has_all_applied : ServerStanding → Bool
has_all_applied s = is_all s.applied s.last

-- a server that is up has a shorter log than another
abbrev pub is_shorter : ServerStanding → ServerStanding → Bool
is_shorter other own = is_up other && nat_lt other.last own.last

abbrev pub is_less : Option ℕ → Option ℕ → Bool
is_less (Some less) (Some most) = nat_lt less most
is_less _ _ = false

-- it is up and has applied less than another that is up
abbrev pub is_behind : ServerStanding → ServerStanding → Bool
is_behind other own = is_less other.applied own.applied

-- not all of a leader's log is applied there, and more than half of the servers are up, or one that
-- is up has a shorter log
abbrev pub may_commit : List ServerStanding → ServerStanding → Bool
may_commit servers own =
    not (has_all_applied own)
    && (nat_lt (length servers / 2) (count_by is_up servers) || list_any (λ s. is_shorter s own) servers)
