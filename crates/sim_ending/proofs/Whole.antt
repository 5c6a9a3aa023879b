-- The last lines, put together of their parts.
use Rattle.std.proofs.Common.{◌≢◌, ℕ, ◌∙◌, Option, Some, None, Result, Ok, Err, OnOk, List, [], length, filter, refl, subst, sym, true≢false}
use Rattle.std.specs.Io.KnownBytes.{Appends, Keeps}
use Rattle.std.specs.List.{flat_map}
use Rattle.std.proofs.KnownBytes.{Appends-nil, Appends-trans}
use Rattle.rows.specs.declared.allocation.Allocation.{Allocation}
use Rattle.fsm_tables.specs.Claims.{is_live}
use Rattle.fsm_model.specs.ClusterMachine.{cluster_spec}
use Rattle.fsm_model.specs.Words.{State}
use Rattle.group_frames.specs.GroupFrames.{CarriesGroup}
use Rattle.group_model.specs.Agents.{Agent}
use Rattle.server.specs.ServerViews.{ServerView}
use Rattle.world.proofs.Zips.{zip_length}
use Rattle.world.specs.GroupClaims.{OneGroupList}
use Rattle.world.specs.GroupView.{GroupView, client_in}
use Rattle.sim_ending.specs.Endings.{AreLiveRows, HasRows, InEachRun, NoneIsUp, StopsAtRows, TellsEnding, client_line, numbered_lines, of_newest, of_none, row_line, total_line}
use Rattle.sim_ending.specs.Inner.Newest.{IsNewestState}
use Rattle.sim_ending.specs.Inner.Tells.{OfServers, TellsRows, TellsServers, agent_line}
use Rattle.sim_ending.proofs.Told.{numbered-map}

-- ---- allocations

pub none_told : (views : List ServerView) (old : Option (List ℕ)) → OfServers views NoneIsUp → OfServers views (TellsRows old old)
none_told views old none servers are = ([], of_none (none servers are), Appends-nil old)

module _ (views : List ServerView) (state : State) (newest : OfServers views (λ servers. IsNewestState servers state)) where
  pub rows_told : (rows : List Allocation) (old new : Option (List ℕ)) → AreLiveRows state.allocs rows → Appends old new (flat_map row_line rows) → OfServers views (TellsRows old new)
  rows_told rows old new live lines servers are =
      let s = newest servers are in
      (rows, of_newest s.0 rows s.1 (subst (λ (x : State). AreLiveRows x.allocs rows) s.2 live), lines)

  pub rows_there : filter is_live state.allocs ≢ [] → OfServers views HasRows
  rows_there some servers are =
      let s = newest servers are in
      record { server = s.0; newest = s.1; some = subst (λ (x : State). filter is_live x.allocs ≢ []) s.2 some }

  -- then some server is up
  pub not_none : {P : Type 0} → OfServers views (λ servers. NoneIsUp servers → P)
  not_none servers are none = let s = newest servers are in absurd (true≢false (sym s.1.up ∙ none s.1.place s.0 s.1.at))

-- ---- the whole

module _ (view : GroupView) (group : OneGroupList view) where
  pub ending_told : (a b c d e : Option (List ℕ)) → OfServers view.servers (TellsServers a b) → OfServers view.servers (TellsRows b c) → Appends c d (numbered_lines agent_line 1 view.clients)
      → Appends d e (total_line (length view.trace) (length view.outbox.frames)) → TellsEnding view a e
  ending_told a b c d e servers rows clients total = record {
    past = group.past;
    world = group.world;
    runs = group.runs;
    ever = λ past w runs.
        let r = runs.refines in
        let front = servers w.servers r.servers in
        let told = rows w.servers r.servers in
        let known : Appends c d (numbered_lines client_line 1 w.clients) =
        subst (λ (all : List Agent). Appends c d (numbered_lines client_line 1 all)) r.clients (rw (numbered-map client_line client_in 1 view.clients) at clients) in
        let counted : Appends d e (total_line (length view.trace) (length w.sent)) =
        subst (λ (n : ℕ). Appends d e (total_line (length view.trace) n)) (zip_length (CarriesGroup cluster_spec) view.outbox.frames w.sent r.sent) total in
        (_, record { rows = told.0; told = told.1; are = refl }, Appends-trans a b e _ _ front (Appends-trans b c e _ _ told.2 (Appends-trans c d e _ _ known counted)));
  }

  pub rows_wanted : OfServers view.servers HasRows → InEachRun view (λ w. HasRows w.servers)
  rows_wanted rows = record {
    past = group.past;
    world = group.world;
    runs = group.runs;
    ever = λ past w runs. rows w.servers runs.refines.servers;
  }

  pub stopped_at_rows : (a b : Option (List ℕ)) → OfServers view.servers (TellsServers a b) → OfServers view.servers HasRows → StopsAtRows view a b
  stopped_at_rows a b servers rows = record {
    past = group.past;
    world = group.world;
    runs = group.runs;
    ever = λ past w runs. (rows w.servers runs.refines.servers, servers w.servers runs.refines.servers);
  }

-- what is flushed stays
pub flushed : (a b c : Option (List ℕ)) (bytes : List ℕ) → Appends a b bytes → Keeps b c → Appends a c bytes
flushed None b c bytes told kept = tt
flushed (Some x) None c bytes told kept = absurd told
flushed (Some x) (Some y) None bytes told kept = absurd kept
flushed (Some x) (Some y) (Some z) bytes told kept = kept ∙ told

-- what holds anyway holds of a success
pub on_ok_known : {T E P : Type 0} (r : Result T E) → P → OnOk r P
on_ok_known (Ok x) known = known
on_ok_known (Err e) known = tt
