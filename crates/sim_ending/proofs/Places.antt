-- Servers place by place, of all servers of the definitions that they may be.
use Rattle.std.proofs.Common.{◌≡◌, ℕ, ◌+◌, ◌<◌, ◌≤◌, nat_lt, Bool, true, false, cond, Option, Some, None, Bor, add-one, List, length, take, slice_get, sym, subst, arith, ◌∙◌}
use Rattle.std.proofs.lemmas.List.{take_all}
use Rattle.std.proofs.lemmas.Option.{get_or_from_slice_get, same_Some, slice_get_within}
use Rattle.std.specs.Prelude.{IfSome, MatchOption}
use Rattle.std.specs.Io.KnownBytes.{Appends}
use Rattle.fsm_model.specs.Words.{State}
use Rattle.raft_model.specs.Rafts.{is_up}
use Rattle.group_model.specs.Desks.{applied_state}
use Rattle.group_model.specs.Servers.{Server}
use Rattle.server.specs.ServerViews.{ServerView, RefinesServer}
use Rattle.world.proofs.Zips.{zip_at, zip_length}
use Rattle.sim_ending.specs.Endings.{NoneIsUp, numbered_lines, server_line}
use Rattle.sim_ending.specs.Inner.Newest.{IsFound, IsNewestState, newer}
use Rattle.sim_ending.specs.Inner.Tells.{OfServers, TellsServers}
use Rattle.sim_ending.specs.declared.newest.Newest.{Newest}
use Rattle.sim_ending.proofs.Finding.{HasApplied, newer_is_found, newest_state_is, none_found}
use Rattle.sim_ending.proofs.Told.{numbered_more}

module _ (views : List ServerView) (i : ℕ) (view : ServerView) (here : slice_get views i ≡ Some view) where
  -- the line of one more
  pub servers_more : (old mid new : Option (List ℕ)) → OfServers views (λ servers. Appends old mid (numbered_lines server_line 1 (take i servers)))
      → ((s : Server) → RefinesServer view s → Appends mid new (server_line (i + 1) s)) → OfServers views (λ servers. Appends old new (numbered_lines server_line 1 (take (i + 1) servers)))
  servers_more old mid new before own servers are =
      let s = zip_at RefinesServer views servers i view are here in
      numbered_more servers i s.0 (slice_get_within servers i s.0 s.1) (sym (get_or_from_slice_get servers i s.0 s.0 s.1)) server_line old mid new (before servers are) (own s.0 s.2)

  -- the newest with one more
  pub found_more : (found : Option Newest) (applied : Option ℕ) (after : Option Newest) → OfServers views (λ servers. IsFound servers i found) → ((s : Server) → RefinesServer view s → HasApplied s applied)
      → after ≡ newer found i applied → OfServers views (λ servers. IsFound servers (i + 1) after)
  found_more found applied after before own is servers are =
      let s = zip_at RefinesServer views servers i view are here in
      rw (is, add-one) (newer_is_found servers i s.0 s.1 found applied (before servers are) (own s.0 s.2))

pub within_more : (found : Option Newest) (i : ℕ) (applied : Option ℕ) (after : Option Newest) → IfSome found (λ f. f.place < i) → after ≡ newer found i applied → IfSome after (λ f. f.place < i + 1)
within_more found i applied after before is = rw is (go found applied before)
  where
    chosen : (f : Newest) (n : ℕ) (b : Bool) → f.place < i → IfSome (cond b (Some (record { place = i; applied = n })) (Some f)) (λ x. x.place < i + 1)
    chosen f n true within = omega arith
    chosen f n false within = omega arith

    go : (o : Option Newest) (a : Option ℕ) → IfSome o (λ f. f.place < i) → IfSome (newer o i a) (λ f. f.place < i + 1)
    go None None within = tt
    go (Some f) None within = omega arith
    go None (Some n) within = omega arith
    go (Some f) (Some n) within = chosen f n (nat_lt f.applied n) within

module _ (views : List ServerView) where
  pub none_found_up : OfServers views (λ servers. IsFound servers (length views) None) → OfServers views NoneIsUp
  none_found_up found servers are = none_found servers (length views) (zip_length RefinesServer views servers are) (found servers are)

  -- the state of the one that was found
  pub found_state : (found : Newest) (view : ServerView) → slice_get views found.place ≡ Some view → OfServers views (λ servers. IsFound servers (length views) (Some found)) → (state : Option (Bor State))
      → ((s : Server) → RefinesServer view s → MatchOption state (is_up s.raft.mode ≡ false) (λ r. (is_up s.raft.mode ≡ true) × (r.now ≡ applied_state s.raft)))
      → OfServers views (λ servers. MatchOption state (NoneIsUp servers) (λ r. IsNewestState servers r.now))
  found_state found view here is state says servers are =
      let s = zip_at RefinesServer views servers found.place view are here in
      newest_state_is servers (length views) (zip_length RefinesServer views servers are) found (is servers are) state (λ other at. says other (subst (λ (x : Server). RefinesServer view x) (same_Some s.0 other (sym s.1 ∙ at)) s.2))

  -- the lines of all
  pub servers_all : (seen : ℕ) → length views ≤ seen → (old new : Option (List ℕ)) → OfServers views (λ servers. Appends old new (numbered_lines server_line 1 (take seen servers))) → OfServers views (TellsServers old new)
  servers_all seen all old new lines servers are =
      let many = zip_length RefinesServer views servers are in
      let whole : take seen servers ≡ servers = take_all seen servers (omega (arith, many)) in
      rw whole at (lines servers are)
