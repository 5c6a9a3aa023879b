-- What the machines of a world's servers have to do with its one list.
use Rattle.std.proofs.Common.{◌≡◌, ℕ, ◌≤◌, Bool, true, false, Bor, Option, Some, None, if◌then◌else◌, MatchOption, IfSome, List, length, take, refl, sym, ap, ◌∙◌, subst, slice_get}
use Rattle.std.proofs.lemmas.Option.{same_Some}
use Rattle.std.proofs.lemmas.List.{length-take-le}
use Rattle.std.specs.Option.{option_copied}
use Rattle.machine_model.specs.MachineSpec.{MachineSpec, LawfulMachine}
use Rattle.machine_model.specs.declared.entry.Entry.{Entry}
use Rattle.machine_model.proofs.Afters.{after-count}
use Rattle.raft_model.specs.Logs.{commands, state_after}
use Rattle.raft_model.specs.Rafts.{Raft, is_up}
use Rattle.raft_model.specs.Worlds.{World}
use Rattle.raft_model.specs.Chains.{Agree, Chain}
use Rattle.raft_core.specs.RaftView.{RaftView}
use Rattle.raft_core.specs.Steps.{RefinesRaft}
use Rattle.raft_safety.proofs.Places.{get-last}
use Rattle.raft_safety.proofs.Sound.{commands_length}
use Rattle.world.specs.WorldView.{WorldView, RunsTo}
use Rattle.world.specs.Claims.{OneListEver, StatesSafeEver, OneHistory, running_state, machine_of}
use Rattle.world.proofs.Zips.{zip_at, zip_none}

module _ {S C : Type 0} (m : MachineSpec S C) where
  -- a server as it is up, or down
  pub running_is : (s : Raft C) (o : Option (Bor S)) → MatchOption o (is_up s.mode ≡ false) (λ r. (is_up s.mode ≡ true) × (r.now ≡ state_after m (take s.commit s.log))) → option_copied o ≡ running_state m (Some s)
  running_is s None down = rw down refl
  running_is s (Some r) up = let u = up.0 in rw u (ap (λ x. Some x) up.1)

  module _ (seen : WorldView S C) (i : ℕ) (past : List (World C)) (w : World C) (runs : RunsTo m seen past w) where
    pub no_machine : slice_get seen.servers i ≡ None → None ≡ machine_of m w i
    no_machine gone = let st = runs.refines in let none : slice_get w.servers i ≡ None = zip_none (RefinesRaft m) seen.servers w.servers i st.servers gone in rw none refl

    pub machine_is : (h : RaftView S C) (o : Option (Bor S)) → slice_get seen.servers i ≡ Some h →
        ((s : Raft C) → RefinesRaft m h s → MatchOption o (is_up s.mode ≡ false) (λ r. (is_up s.mode ≡ true) × (r.now ≡ state_after m (take s.commit s.log)))) → option_copied o ≡ machine_of m w i
    machine_is h o here says =
        let st = runs.refines in
        let s = zip_at (RefinesRaft m) seen.servers w.servers i h st.servers here in
        let there : slice_get w.servers i ≡ Some s.0 = s.1 in
        rw there (running_is s.0 o (says s.0 s.2))

  -- a state after the first k of the list
  pub record IsPart (list : List (Entry C)) (a : S) : Type 0 where
    pub count : ℕ
    pub short : count ≤ length list
    pub is : a ≡ state_after m (take count list)

  part_of : (past : List (World C)) (w : World C) (list : List (Entry C)) → Chain past w list → (i : ℕ) (s : Raft C) (up : Bool) (a : S) → is_up s.mode ≡ up → slice_get w.servers i ≡ Some s →
      (if up then Some (state_after m (take s.commit s.log)) else None) ≡ Some a → IsPart list a
  part_of past w list chain i s false a is here h = absurd (cc)
  part_of past w list chain i s true a is here h =
      let same : Agree s.commit s.log list = chain.agrees (length past) i s (record { world = w; world_is = get-last past w; here = here }) in
      record {
        count = s.commit;
        short = same.right;
        is = sym (same_Some (state_after m (take s.commit s.log)) a h) ∙ ap (λ l. state_after m l) same.same;
      }

  -- each running machine's state is that after a first part of the list
  pub part : (past : List (World C)) (w : World C) (list : List (Entry C)) → Chain past w list → (i : ℕ) (a : S) (o : Option (Raft C)) → slice_get w.servers i ≡ o → running_state m o ≡ Some a → IsPart list a
  part past w list chain i a None here h = absurd (cc)
  part past w list chain i a (Some s) here h = part_of past w list chain i s (is_up s.mode) a refl here h

  pub machine_safe : (seen : WorldView S C) → OneListEver m seen → StatesSafeEver m seen → (i : ℕ) (o : Option (Bor S)) →
      ((past : List (World C)) (w : World C) → RunsTo m seen past w → option_copied o ≡ machine_of m w i) → IfSome o (λ a. m.safe a.now)
  machine_safe seen l s i None says = tt
  machine_safe seen l s i (Some a) says =
      let chain = l.ever l.past l.world l.runs in
      let p = part l.past l.world l.list chain i a.now (slice_get l.world.servers i) refl (sym (says l.past l.world l.runs)) in
      subst (λ x. m.safe x) (sym p.is) (s.ever l.past l.world l.runs l.list chain p.count)

  counted : LawfulMachine m → (list : List (Entry C)) (a : S) → IsPart list a → a ≡ state_after m (take (m.count a) list)
  counted law list a p =
      let count : m.count a ≡ p.count = ap (λ x. m.count x) p.is ∙ (after-count m law (commands (take p.count list)) ∙ (commands_length (take p.count list) ∙ length-take-le p.count list p.short)) in
      p.is ∙ ap (λ k. state_after m (take k list)) (sym count)

  -- two states after first parts of one list
  pub history_of : LawfulMachine m → (list : List (Entry C)) (a b : S) → IsPart list a → IsPart list b → OneHistory m a b
  history_of law list a b p q = record { list = list; one = counted law list a p; other = counted law list b q }

  pub one_history : LawfulMachine m → (seen : WorldView S C) → OneListEver m seen → (i j : ℕ) (a b : S) →
      ((past : List (World C)) (w : World C) → RunsTo m seen past w → Some a ≡ machine_of m w i) → ((past : List (World C)) (w : World C) → RunsTo m seen past w → Some b ≡ machine_of m w j) → OneHistory m a b
  one_history law seen l i j a b is_a is_b =
      let chain = l.ever l.past l.world l.runs in
      history_of law l.list a b
      (part l.past l.world l.list chain i a (slice_get l.world.servers i) refl (sym (is_a l.past l.world l.runs)))
      (part l.past l.world l.list chain j b (slice_get l.world.servers j) refl (sym (is_b l.past l.world l.runs)))
