-- Rounds of a leader, one after the other, and what so many come to.
use Rattle.std.proofs.Common.{◌≡◌, ℕ, suc, ◌+◌, ◌<◌, ◌≤◌, inl, inr, true, Some, length, refl, sym, ap, ◌∙◌, subst, arith, slice_get, true≢false}
use Rattle.std.proofs.lemmas.Bool.Decides.{eqb_tells}
use Rattle.std.proofs.lemmas.Option.{same_Some}
use Rattle.machine_model.specs.MachineSpec.{MachineSpec, LawfulMachine}
use Rattle.raft_model.specs.Rafts.{Raft, is_leader}
use Rattle.raft_model.specs.Worlds.{World, Leads}
use Rattle.raft_safety.proofs.Places.{get-within}
use Rattle.raft_progress.specs.Peace.{Peace, leads_here, leads_on, Rounds, no_round, a_round}
use Rattle.raft_progress.proofs.Moves.{Reached, reached_size}
use Rattle.raft_progress.proofs.Rounds.{peace_leads, rounds_commit, round_applies}
use Rattle.recovery.specs.Runs.{is_up_in}
use Rattle.recovery.specs.Inner.Spreads.{SameUp, Once, Ready, Rounded, Spread, AllApplied, Rounding}
use Rattle.recovery.proofs.Swaps.{once_self, once_on}
use Rattle.recovery.proofs.Spreads.{is_up_at}

module _ {S C : Type 0} (m : MachineSpec S C) where
  -- in peace a server leads to the end
  peace_end : (i T : ℕ) (x v : World C) → Peace m i T x v → Leads v i T
  peace_end i T x v (leads_here l) = l
  peace_end i T x v (leads_on e u p is h l) = l

module _ {S C : Type 0} (m : MachineSpec S C) (law : LawfulMachine m) (n : ℕ) (two : 2 ≤ n) (i : ℕ) (w : World C) (r : Reached m n w) (ready : Ready n i w) where
  pub rounding_start : (t : ℕ) → Leads w i t → Rounding m n i w 0 w
  rounding_start t l = record {
    up = λ k. refl;
    ready = ready;
    once = λ a b there then. subst (λ z. Once a z) (same_Some a b (sym there ∙ then)) (once_self a);
    term = t;
    leads_first = l;
    leads = l;
    so_far = no_round (leads_here l);
    last = inl refl;
  }

  -- one more
  pub rounding_more : (k : ℕ) (x v : World C) → Rounding m n i w k x → Spread m n i x v → Rounding m n i w (suc k) v
  rounding_more k x v a s =
      let g = s.round a.term a.leads in
      let l = a.leads in
      record {
        up = λ j. s.up j ∙ a.up j;
        ready = s.ready;
        once = λ b c there then. once_on b l.server c (a.once b l.server there l.here) (s.once l.server c l.here then);
        term = a.term;
        leads_first = a.leads_first;
        leads = peace_end m i a.term x v g.peace;
        so_far = a_round v a.so_far g.peace (λ j less q other. g.each j less (a.up j ∙ q) other);
        last = inr (k, x, refl, a.up, a.so_far, g);
      }

  -- so many are enough
  pub rounds_apply : (k : ℕ) (v : World C) (me : Raft C) → slice_get w.servers i ≡ Some me → Reached m n v → Rounding m n i w k v → suc (suc (length me.log + length me.log)) ≤ k → AllApplied i v
  rounds_apply k v me here rv a many = elim a.last [
    | inl none ↦ absurd (omega (arith, none, many))
    | inr b ↦ by b.0 b.1 b.2 b.3 b.4 b.5
  ]
    where
      by : (fewer : ℕ) (z : World C) → k ≡ suc fewer → SameUp w z → Rounds m n (is_up_in w) i a.term w fewer z → Rounded m n i a.term z v → AllApplied i v
      by fewer z e up rs g now then j s there alive =
          let lw = a.leads_first in
          let lv = a.leads in
          let lz = peace_leads m i a.term z v g.peace in
          let size : length lw.server.log ≡ length me.log = ap (λ (x : Raft C). length x.log) (same_Some lw.server me (sym lw.here ∙ here)) in
          let enough : suc (length lw.server.log + length lw.server.log) ≤ fewer = omega (arith, e, many, size) in
          let whole = rounds_commit m law n two (is_up_in w) ready.quorum i a.term ready.less w r lw (suc fewer) v lv (a_round v rs g.peace (λ p less q other. g.each p less (up p ∙ q) other)) (inl (omega (arith, enough))) in
          let its : length now.log ≡ length lw.server.log = elim (a.once lw.server now lw.here then) [
            | inl o ↦ ap length o.0
            | inr o ↦ absurd (true≢false (sym (ap is_leader lw.mode) ∙ o.0))
          ] in
          elim (eqb_tells j i) [
            | inl q ↦
                let mine : lv.server ≡ s = same_Some lv.server s (sym lv.here ∙ (ap (slice_get v.servers) (sym q.1) ∙ there)) in
                omega (arith, whole, its, ap (λ (x : Raft C). x.commit) mine)
            | inr q ↦
                let less : j < n = omega (arith, get-within v.servers j s there, reached_size m n v rv) in
                let at_w : is_up_in w j ≡ true = sym (a.up j) ∙ is_up_at v j s there alive in
                let f = round_applies m law n two (is_up_in w) ready.quorum i a.term ready.less w r lw fewer z v lz rs (inl enough) j less at_w q.1 (g.each j less (up j ∙ at_w) q.1) in
                omega (arith, f.3, its, g.kept j less (up j ∙ at_w) q.1 f.0 s f.1 there)
          ]
