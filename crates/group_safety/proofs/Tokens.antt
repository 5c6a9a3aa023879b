-- What is outstanding at an open desk is so under a token of the leader's term.
use Rattle.std.proofs.Common.{◌≡◌, ℕ, inl, inr, Bool, true, false, cond, nat_eq, Option, Some, None, Result, Ok, Err, List, [], ◌∷◌, refl, sym, ◌∙◌, subst}
use Rattle.std.proofs.lemmas.Bool.{and_parts, eqb-true}
use Rattle.std.proofs.lemmas.Option.{same_Some}
use Rattle.std.specs.List.{AllByRecursion}
use Rattle.std.specs.Ordering.{is_eq}
use Rattle.std.specs.declared.cmp.Ordering.{Ordering}
use Rattle.rows.specs.declared.evaluation.EvalId.{EvalId}
use Rattle.rows.specs.declared.refusal.Refusal.{Refusal}
use Rattle.rows.specs.declared.refusal.Refusal.TheVariants as refusals
use Rattle.rows.specs.declared.token.Token.{Token}
use Rattle.rows.specs.Keys.{eval_cmp}
use Rattle.fsm_tables.specs.Rows.{row_of}
use Rattle.group_model.specs.Brokers.{Mark, Free, Out, Acked, Task, task_id, task_of, same_token, marked_out, task_out, outstanding}
use Rattle.group_model.specs.Desks.{Desk}
use Rattle.group_model.specs.Servers.{Server}
use Rattle.group_safety.specs.Desks.{IsOfTerm, TokensAre, DeskIs}

-- a row that is found is one of the rows
pub found_row : {K X : Type 0} (R : K → K → Ordering) (key : X → K) (P : X → Type 0) (k : K) (rows : List X) (x : X) → AllByRecursion P rows → row_of R key k rows ≡ Some x → P x
found_row R key P k [] x h e = absurd (cc)
found_row R key P k (y ∷ rows) x h e = elim (is_eq (R k (key y))) as (λ b. cond b (Some y) (row_of R key k rows) ≡ Some x → P x) [ true ↦ λ q. subst P (same_Some y x q) h.0 | false ↦ λ q. found_row R key P k rows x h.1 q ] e

held_term : (term : ℕ) (token held : Token) (wait w : ℕ) (b : Bool) → held.term ≡ term → same_token held token ≡ b → cond b (Ok w) (Err refusals.TokenDiffers) ≡ Ok wait → token.term ≡ term
held_term term token held wait w true own same e = sym (eqb-true held.term token.term (and_parts (nat_eq held.term token.term) (nat_eq held.serial token.serial) same).0) ∙ own
held_term term token held wait w false own same e = absurd (differs refusals.TokenDiffers wait e) where
  differs : (r : Refusal) (n : ℕ) → let x : Result ℕ Refusal = Err r in x ≡ Ok n → ⊥
  differs r n e = cc

mark_term : (term : ℕ) (token : Token) (wait : ℕ) (mark : Mark) → IsOfTerm term mark → marked_out token mark ≡ Ok wait → token.term ≡ term
mark_term term token wait Free own e = absurd (cc)
mark_term term token wait (Out held w) own e = held_term term token held wait w (same_token held token) own refl e
mark_term term token wait Acked own e = absurd (cc)

task_term : (term : ℕ) (token : Token) (wait : ℕ) (o : Option Task) → ((t : Task) → o ≡ Some t → IsOfTerm term t.mark) → task_out token o ≡ Ok wait → token.term ≡ term
task_term term token wait None own e = absurd (cc)
task_term term token wait (Some t) own e = mark_term term token wait t.mark (own t refl) e

pub its_own : (m : Server) (d : Desk) (id : EvalId) (token : Token) (wait : ℕ) → DeskIs m → m.desk ≡ Some d → outstanding id token d.broker ≡ Ok wait → token.term ≡ m.raft.term
its_own m d id token wait (inl h) is out = absurd (let q = sym h.0 ∙ is in cc)
its_own m d id token wait (inr h) is out =
    let same : h.0 ≡ d = same_Some h.0 d (sym h.1 ∙ is) in
    let tokens : TokensAre m.raft.term d.broker.tasks = subst (λ (x : Desk). TokensAre m.raft.term x.broker.tasks) same h.3.tokens in
    task_term m.raft.term token wait (task_of id d.broker.tasks) (λ t e. found_row eval_cmp task_id (λ (x : Task). IsOfTerm m.raft.term x.mark) id d.broker.tasks t tokens e) out
