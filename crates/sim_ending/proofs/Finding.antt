-- The newest of the servers so far, and of one more.
use Rattle.std.proofs.Common.{◌≡◌, ℕ, suc, ◌<◌, ◌≤◌, nat_lt, Bool, true, false, cond, Option, Some, None, List, length, slice_get, refl, sym, subst, arith, ◌∙◌, Bor, true≢false}
use Rattle.std.proofs.lemmas.Bool.Decides.{nat_tests}
use Rattle.std.proofs.lemmas.Option.{same_Some, slice_get_within}
use Rattle.std.specs.Prelude.{MatchOption}
use Rattle.fsm_model.specs.Words.{State}
use Rattle.raft_model.specs.Rafts.{is_up}
use Rattle.group_model.specs.Desks.{applied_state}
use Rattle.group_model.specs.Servers.{Server}
use Rattle.sim_ending.specs.Endings.{IsNewest, NoneIsUp}
use Rattle.sim_ending.specs.Inner.Newest.{IsFound, IsNewestState, newer}
use Rattle.sim_ending.specs.declared.newest.Newest.{Newest}

-- what is known of how much a server has applied
abbrev pub HasApplied : Server → Option ℕ → Type 0
HasApplied s applied = MatchOption applied (is_up s.raft.mode ≡ false) (λ n. (is_up s.raft.mode ≡ true) × (n ≡ s.raft.commit))

module _ (servers : List Server) (seen : ℕ) (s : Server) (here : slice_get servers seen ≡ Some s) where
  -- what holds of those before and of the next one holds of those up to it
  pub one_more : (P : Server → Type 0) → ((i : ℕ) (other : Server) → i < seen → slice_get servers i ≡ Some other → P other) → P s → (i : ℕ) (other : Server) → i < suc seen → slice_get servers i ≡ Some other → P other
  one_more P before own i other below at = go (nat_lt i seen) refl
    where
      go : (b : Bool) → nat_lt i seen ≡ b → P other
      go true is = before i other (grind (arith, nat_tests)) at
      go false is =
          let same : i ≡ seen = grind (arith, nat_tests) in
          subst P (same_Some s other (sym here ∙ rw same at at)) own

  none_more : IsFound servers seen None → is_up s.raft.mode ≡ false → IsFound servers (suc seen) None
  none_more before down = one_more (λ other. is_up other.raft.mode ≡ false) before down

  found_stays : (found : Newest) → IsFound servers seen (Some found) → (is_up s.raft.mode ≡ true → s.raft.commit ≤ found.applied) → IsFound servers (suc seen) (Some found)
  found_stays found before less =
      (before.0, before.1, before.2, before.3, one_more (λ other. is_up other.raft.mode ≡ true → other.raft.commit ≤ found.applied) before.4 less)

  found_anew : (applied : ℕ) → is_up s.raft.mode ≡ true → applied ≡ s.raft.commit → ((i : ℕ) (other : Server) → i < seen → slice_get servers i ≡ Some other → is_up other.raft.mode ≡ true → other.raft.commit ≤ applied) → IsFound servers (suc seen) (Some (record { place = seen; applied = applied }))
  found_anew applied up is before =
      (s, here, up, sym is, one_more (λ other. is_up other.raft.mode ≡ true → other.raft.commit ≤ applied) before (λ awake. omega arith))

  pub newer_is_found : (found : Option Newest) (applied : Option ℕ) → IsFound servers seen found → HasApplied s applied → IsFound servers (suc seen) (newer found seen applied)
  newer_is_found None None before down = none_more before down
  newer_is_found (Some found) None before down = found_stays found before (λ up. absurd (true≢false (sym up ∙ down)))
  newer_is_found None (Some applied) before up = found_anew applied up.0 up.1 (λ i other below at awake. absurd (true≢false (sym awake ∙ before i other below at)))
  newer_is_found (Some found) (Some applied) before up = go (nat_lt found.applied applied) refl
    where
      go : (b : Bool) → nat_lt found.applied applied ≡ b → IsFound servers (suc seen) (cond b (Some (record { place = seen; applied = applied })) (Some found))
      go true is =
          let more : found.applied < applied = grind (arith, nat_tests) in
          found_anew applied up.0 up.1 (λ i other below at awake. let less = before.4 i other below at awake in omega arith)
      go false is =
          let most : applied ≤ found.applied = grind (arith, nat_tests) in
          found_stays found before (λ awake. omega (arith, up.1))

module _ (servers : List Server) where
  all_seen : (P : Server → Type 0) (seen : ℕ) → seen ≡ length servers → ((i : ℕ) (s : Server) → i < seen → slice_get servers i ≡ Some s → P s) → (i : ℕ) (s : Server) → slice_get servers i ≡ Some s → P s
  all_seen P seen all each i s at = let within : i < length servers = slice_get_within servers i s at in each i s (omega arith) at

  pub none_found : (seen : ℕ) → seen ≡ length servers → IsFound servers seen None → NoneIsUp servers
  none_found seen all none = all_seen (λ s. is_up s.raft.mode ≡ false) seen all none

  pub newest_found : (seen : ℕ) → seen ≡ length servers → (found : Newest) → IsFound servers seen (Some found) → (s : Server) × (slice_get servers found.place ≡ Some s) × IsNewest servers s
  newest_found seen all found is =
      let s = is.0 in (
        s,
        is.1,
        record {
          place = found.place;
          at = is.1;
          up = is.2;
          most = all_seen (λ other. is_up other.raft.mode ≡ true → other.raft.commit ≤ s.raft.commit) seen all (λ i other below at up. let less = is.4 i other below at up in omega (arith, is.3));
        },
      )

  -- the state of the one that was found, which is up
  pub newest_state_is : (seen : ℕ) → seen ≡ length servers → (found : Newest) → IsFound servers seen (Some found) → (state : Option (Bor State))
      → ((s : Server) → slice_get servers found.place ≡ Some s → MatchOption state (is_up s.raft.mode ≡ false) (λ r. (is_up s.raft.mode ≡ true) × (r.now ≡ applied_state s.raft)))
      → MatchOption state (NoneIsUp servers) (λ r. IsNewestState servers r.now)
  newest_state_is seen all found is None says = absurd (true≢false (sym is.2 ∙ says is.0 is.1))
  newest_state_is seen all found is (Some r) says = let newest = newest_found seen all found is in (newest.0, newest.2, (says newest.0 newest.1).1)
