-- The greatest term, who leads in it, and the numbers of the last lines.
use Rattle.std.proofs.Common.{◌≡◌, ◌∙◌, ℕ, ◌+◌, ◌<◌, ◌≤◌, ◌++◌, ◌∷◌, true, false, List, [], Option, Some, None, ap, ap₂, arith, count_by, fold, get_or, inl, inr, length, refl, slice_get, subst, sym, take}
use Rattle.std.proofs.lemmas.List.{take_all, take_more}
use Rattle.std.proofs.lemmas.List.Sums.{fold-append}
use Rattle.std.proofs.lemmas.Option.{get_or_from_slice_get, slice_get_within}
use Rattle.std.specs.Prelude.{IfNone, IfSome}
use Rattle.rows.specs.GroupSizes.{IsGroup}
use Rattle.rows.specs.declared.allocation.Allocation.{Allocation}
use Rattle.raft_core.specs.Steps.{role_of}
use Rattle.raft_core.specs.declared.role.Role.{Role}
use Rattle.raft_core.specs.declared.role.Role.TheVariants as roles
use Rattle.raft_model.specs.Rafts.{Mode, Down, Follower, Candidate, Leader}
use Rattle.fsm_model.specs.ClusterMachine.{cluster_spec}
use Rattle.fsm_model.specs.Words.{State}
use Rattle.group_frames.specs.GroupFrames.{CarriesGroup}
use Rattle.group_model.specs.Servers.{Server}
use Rattle.server.specs.ServerViews.{ServerView, RefinesServer}
use Rattle.world.proofs.Zips.{zip_at, zip_length}
use Rattle.world.specs.GroupClaims.{OneGroupList}
use Rattle.world.specs.GroupView.{GroupView}
use Rattle.sim_ending.specs.declared.numbers.EndNumbers.{EndNumbers}
use Rattle.sim_ending.specs.Endings.{AreLiveRows, NoneIsUp, of_newest, of_none}
use Rattle.sim_ending.specs.EndNumbers.{HasNumbers, IsFirstLeader, NoneLeads, RowNumbers, greatest_term, is_leader, is_running, later, leads_in}
use Rattle.sim_ending.specs.Inner.Newest.{IsNewestState}
use Rattle.sim_ending.specs.Inner.Tells.{OfServers}
use Rattle.sim_ending.proofs.Finding.{one_more}

-- ---- who leads

pub other_leads_not : (mode : Mode) (role : Option Role) → role ≡ role_of mode → (role ≡ Some roles.Leader → ⊥) → is_leader mode ≡ false
other_leads_not Down role is other = refl
other_leads_not Follower role is other = refl
other_leads_not (Candidate votes) role is other = refl
other_leads_not (Leader next match) role is other = absurd (other is)

-- ---- one more server

module _ (views : List ServerView) (i : ℕ) (view : ServerView) (here : slice_get views i ≡ Some view) where
  pub term_more : (term own after : ℕ) → OfServers views (λ servers. term ≡ greatest_term (take i servers)) → ((s : Server) → RefinesServer view s → own ≡ s.raft.term)
      → after ≡ later term own → OfServers views (λ servers. after ≡ greatest_term (take (i + 1) servers))
  term_more term own after before is next servers are =
      let s = zip_at RefinesServer views servers i view are here in
      let at : s.0 ≡ get_or servers i s.0 = sym (get_or_from_slice_get servers i s.0 s.0 s.1) in
      let taken : take (i + 1) servers ≡ take i servers ++ s.0 ∷ [] =
      take_more servers i s.0 (slice_get_within servers i s.0 s.1) ∙ ap (λ x. take i servers ++ x ∷ []) (sym at) in
      let whole : greatest_term (take (i + 1) servers) ≡ later (greatest_term (take i servers)) s.0.raft.term =
      ap greatest_term taken ∙ fold-append (λ t (x : Server). later t x.raft.term) 0 (take i servers) (s.0 ∷ []) in
      next ∙ ap₂ later (before servers are) (is s.0 s.2) ∙ sym whole

  pub none_leads_more : (term : ℕ) → OfServers views (λ servers. NoneLeads term servers i) → ((s : Server) → RefinesServer view s → false ≡ leads_in term s)
      → OfServers views (λ servers. NoneLeads term servers (i + 1))
  none_leads_more term before own servers are =
      let s = zip_at RefinesServer views servers i view are here in
      λ k other below at. one_more servers i s.0 s.1 (λ x. leads_in term x ≡ false) (before servers are) (sym (own s.0 s.2)) k other (omega (arith, below)) at

  pub first_leads : (term : ℕ) → OfServers views (λ servers. NoneLeads term servers i) → ((s : Server) → RefinesServer view s → true ≡ leads_in term s)
      → (found : Option ℕ) → found ≡ Some i → OfServers views (λ servers. IsFirstLeader term servers found)
  first_leads term before own found is servers are =
      let s = zip_at RefinesServer views servers i view are here in
      rw is ((s.0, s.1, sym (own s.0 s.2)), before servers are)

module _ (views : List ServerView) where
  pub term_all : (seen term : ℕ) → length views ≤ seen → OfServers views (λ servers. term ≡ greatest_term (take seen servers)) → OfServers views (λ servers. term ≡ greatest_term servers)
  term_all seen term all is servers are =
      let many = zip_length RefinesServer views servers are in
      is servers are ∙ ap greatest_term (take_all seen servers (omega (arith, many)))

  pub none_leads_all : (seen term : ℕ) → length views ≤ seen → OfServers views (λ servers. NoneLeads term servers seen) → OfServers views (λ servers. IsFirstLeader term servers None)
  none_leads_all seen term all none servers are =
      let many = zip_length RefinesServer views servers are in
      λ i s below at. none servers are i s (omega (arith, many, below)) at

  -- ---- allocations

  pub no_rows : OfServers views NoneIsUp → OfServers views (RowNumbers 0 0)
  no_rows none servers are = ([], of_none (none servers are), refl, refl)

  pub some_rows : (state : State) → OfServers views (λ servers. IsNewestState servers state) → (rows : List Allocation) (live running : ℕ) → AreLiveRows state.allocs rows
      → live ≡ length rows → running ≡ count_by is_running rows → OfServers views (RowNumbers live running)
  some_rows state newest rows live running are_rows is_live is_running servers are =
      let s = newest servers are in
      (rows, of_newest s.0 rows s.1 (subst (λ (x : State). AreLiveRows x.allocs rows) s.2 are_rows), is_live, is_running)

-- ---- the whole

module _ (view : GroupView) (group : OneGroupList view) where
  pub numbers_had : (n : EndNumbers) (term : ℕ) (leader : Option ℕ) → n.term ≡ term → n.leader ≡ leader → OfServers view.servers (λ servers. term ≡ greatest_term servers)
      → OfServers view.servers (λ servers. IsFirstLeader term servers leader) → OfServers view.servers (RowNumbers n.live n.running)
      → n.events ≡ length view.trace → n.messages ≡ length view.outbox.frames → HasNumbers view n
  numbers_had n term leader is_term is_leader terms leaders rows happened sent = record {
    past = group.past;
    world = group.world;
    runs = group.runs;
    ever = λ past w runs.
        let r = runs.refines in
        record {
          term = is_term ∙ terms w.servers r.servers;
          leader = rw (is_term, is_leader) (leaders w.servers r.servers);
          rows = rows w.servers r.servers;
          happened = happened;
          sent = sent ∙ zip_length (CarriesGroup cluster_spec) view.outbox.frames w.sent r.sent;
        };
  }

-- the place of a server among at most five
pub place_is : (r : Option ℕ) (place n : ℕ) → IfSome r (λ s. s ≡ place) → IfNone r (5 ≤ place) → place < n → IsGroup n → r ≡ Some place
place_is None place n some none below group = absurd (few group)
  where
    few : IsGroup n → ⊥
    few (inl three) = omega (arith, three, none, below)
    few (inr five) = omega (arith, five, none, below)
place_is (Some s) place n some none below group = ap Some some
