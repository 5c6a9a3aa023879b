-- Each entry of each log was appended by a leader of its term, at an earlier moment.
use Rattle.std.proofs.Common.{◌≡◌, ℕ, suc, ◌<◌, Some, List, take, length, sym, ap, ◌∙◌, arith, slice_get}
use Rattle.machine_model.specs.MachineSpec.{MachineSpec, LawfulMachine}
use Rattle.raft_model.specs.Logs.{term_at}
use Rattle.raft_model.specs.Rafts.{Raft}
use Rattle.raft_model.specs.Worlds.{World, Event, Run, moment}
use Rattle.raft_model.specs.Chains.{Agree, At}
use Rattle.raft_safety.specs.Claims.{Origin}
use Rattle.raft_safety.proofs.Logs.{agree_sym, agree_term, rooted_at}
use Rattle.raft_safety.proofs.Moments.{front_get}
use Rattle.raft_safety.proofs.Origins.{origin_agree}
use Rattle.raft_safety.proofs.Chains.{at_story, server_ok}
use Rattle.raft_safety.proofs.Places.{take_below}

module _ {S C : Type 0} (m : MachineSpec S C) (law : LawfulMachine m) (n : ℕ) (events : List (Event C)) (past : List (World C)) (w : World C) (run : Run m n events past w)
    (k i : ℕ) (s : Raft C) (a : At past w k i s) (p : ℕ) (less : p < length s.log) where
  pub front_origin : Origin m (take k events) (take k past) a.world s.log p
  front_origin =
      let t = at_story m law n events past w run k i s a in
      let G = t.history in
      let ok = server_ok m law n events past w run k i s a in
      let u = term_at s.log (suc p) in
      let at_u : Agree (suc p) s.log (G.ledger u) = rooted_at G.ledger s.log (suc p) ok.log.rooted (omega arith) (omega (arith, less)) in
      origin_agree m (take k events) (take k past) a.world (G.ledger u) s.log p (agree_sym at_u)
      (t.born.own u p (omega (arith, at_u.right)) (sym (agree_term (suc p) (suc p) s.log (G.ledger u) at_u (omega arith) (omega arith))))

  at_all : (j d : ℕ) (x : Raft C) → At (take k past) a.world j d x → At past w j d x
  at_all j d x b = record { world = b.world; world_is = front_get past w k a.world a.world_is j b.world b.world_is; here = b.here }

  pub log_origin : Origin m events past w s.log p
  log_origin = let o = front_origin in record {
    moment = o.moment;
    who = o.who;
    before = o.before;
    after = o.after;
    event = o.event;
    before_at = at_all o.moment o.who o.before o.before_at;
    event_at = (take_below k events o.moment o.event o.event_at).1;
    after_at = at_all (suc o.moment) o.who o.after o.after_at;
    had = o.had;
    has = o.has;
    before_term = o.before_term;
    after_term = o.after_term;
    leads = o.leads;
    grew = o.grew;
  }
