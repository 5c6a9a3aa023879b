-- What is out at the desk of a term's leader.
use Rattle.std.proofs.Common.{◌≡◌, ℕ, zero, suc, inl, inr, Bool, true, false, cond, ◌&&◌, ◌==◌, nat_eq, Option, Some, None, Result, Ok, Err, List, [], ◌∷◌, refl, ap, ◌∙◌, slice_get, arith}
use Rattle.std.proofs.lemmas.Bool.{and_parts, and_from, eqb-true, eq-eqb}
use Rattle.std.proofs.lemmas.Option.{same_Some}
use Rattle.rows.specs.declared.evaluation.EvalId.{EvalId}
use Rattle.rows.specs.declared.token.Token.{Token}
use Rattle.rows.specs.declared.refusal.Refusal.{Refusal}
use Rattle.rows.specs.declared.refusal.Refusal.TheVariants as refusals
use Rattle.raft_model.specs.Rafts.{is_leader}
use Rattle.raft_model.proofs.Cases.{bool_cases}
use Rattle.group_model.specs.Brokers.{Mark, Free, Out, Acked, Task, task_of, same_token, marked_out, task_out, outstanding}
use Rattle.group_model.specs.Desks.{Desk}
use Rattle.group_model.specs.Servers.{Server}
use Rattle.group_safety.specs.Deliveries.{token_of_mark, token_of_task, token_at, token_in}

same_serial : (a b : Token) → same_token a b ≡ true → a ≡ b
same_serial a b h = let p = and_parts (nat_eq a.term b.term) (nat_eq a.serial b.serial) h in
    (λ j. record { term = eqb-true a.term b.term p.0 j; serial = eqb-true a.serial b.serial p.1 j })

no_ok : (r : Refusal) (n : ℕ) → let x : Result ℕ Refusal = Err r in x ≡ Ok n → ⊥
no_ok r n e = cc

held_out : (token other : Token) (w wait : ℕ) (b : Bool) → same_token other token ≡ b → cond b (Ok w) (Err refusals.TokenDiffers) ≡ Ok wait → other ≡ token
held_out token other w wait true same e = same_serial other token same
held_out token other w wait false same e = absurd (no_ok refusals.TokenDiffers wait e)

mark_out : (token : Token) (wait : ℕ) (mark : Mark) → marked_out token mark ≡ Ok wait → token_of_mark mark ≡ Some token
mark_out token wait Free e = absurd (cc)
mark_out token wait (Out other w) e = ap Some (held_out token other w wait (same_token other token) refl e)
mark_out token wait Acked e = absurd (cc)

task_held : (token : Token) (wait : ℕ) (o : Option Task) → task_out token o ≡ Ok wait → token_of_task o ≡ Some token
task_held token wait None e = absurd (cc)
task_held token wait (Some t) e = mark_out token wait t.mark e

-- what is outstanding at an open desk is out there
pub desk_out : (eval : EvalId) (token : Token) (wait : ℕ) (d : Desk) → outstanding eval token d.broker ≡ Ok wait → token_at eval (Some d) ≡ Some token
desk_out eval token wait d e = task_held token wait (task_of eval d.broker.tasks) e

-- the term's one leader is who is asked
pub leader_out : (servers : List Server) (term : ℕ) (eval : EvalId) (i : ℕ) (s : Server) → slice_get servers i ≡ Some s → is_leader s.raft.mode ≡ true → s.raft.term ≡ term →
    ((j : ℕ) (x : Server) → slice_get servers j ≡ Some x → is_leader x.raft.mode ≡ true → x.raft.term ≡ term → i ≡ j) → token_in servers term eval ≡ token_at eval s.desk
leader_out [] term eval i s here leads its one = absurd (cc)
leader_out (x ∷ servers) term eval zero s here leads its one =
    let same : x ≡ s = same_Some x s here in
    rw (and_from (is_leader x.raft.mode) (x.raft.term == term) (ap (λ (y : Server). is_leader y.raft.mode) same ∙ leads) (eq-eqb x.raft.term term (ap (λ (y : Server). y.raft.term) same ∙ its))) (ap (λ (y : Server). token_at eval y.desk) same)
leader_out (x ∷ servers) term eval (suc i) s here leads its one = elim (bool_cases (is_leader x.raft.mode && (x.raft.term == term))) [
  | inl e ↦ let p = and_parts (is_leader x.raft.mode) (x.raft.term == term) e in absurd (let q = one zero x refl p.0 (eqb-true x.raft.term term p.1) in omega (arith, q))
  | inr e ↦ rw e (leader_out servers term eval i s here leads its (λ j y at l t. let q = one (suc j) y at l t in omega (arith, q)))
]
