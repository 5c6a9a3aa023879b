-- Tokens are fencing tokens.
use Rattle.std.proofs.Common.{◌≡◌, ℕ, ◌≤◌, ◌<◌, ◌&&◌, nat_eq, true, inl, inr, Option, Some, None, [], ◌∷◌, ◌++◌, length, take, take-take, refl, sym, ap, ◌∙◌, subst, arith, slice_get}
use Rattle.std.proofs.lemmas.Bool.{and_parts, and_from, eqb-true, eq-eqb}
use Rattle.std.proofs.lemmas.Option.{same_Some}
use Rattle.rows.specs.declared.evaluation.EvalId.{EvalId}
use Rattle.rows.specs.declared.token.Token.{Token}
use Rattle.rows.specs.declared.command.AcceptedPlan.{AcceptedPlan}
use Rattle.rows.specs.declared.command.Command.{Command}
use Rattle.rows.specs.declared.command.Command.TheVariants as commands
use Rattle.machine_model.specs.declared.entry.Entry.{Entry}
use Rattle.raft_model.proofs.Cases.{bool_cases}
use Rattle.raft_safety.proofs.Places.{get-where, get-one, get-within, get-more, get-last, push_length, take_append}
use Rattle.fsm_model.specs.Words.{same_eval}
use Rattle.spec.specs.Spec.{SpecState, init, state_of, Action, appends, commits, at_server, starts, delivers, ends, Actions, none, more}
use Rattle.spec.specs.Safety.{WasPending, WasDelivered, IsFenced, HasOneHolder}
use Rattle.spec.proofs.Steps.{same_ids, same_itself}

plan_is : (a b : AcceptedPlan) → commands.Plan a ≡ commands.Plan b → a ≡ b
plan_is a b e = cc

-- what holds besides
record Kept (g : SpecState) : Type 0 where
  within : g.committed ≤ length g.log
  newer : (i j : ℕ) (one two : EvalId × Token) → i < j → slice_get g.delivered i ≡ Some one → slice_get g.delivered j ≡ Some two → one.1.term ≡ two.1.term → one.1.serial < two.1.serial
  pending : (j : ℕ) (pair : EvalId × Token) → slice_get g.delivered j ≡ Some pair → WasPending g pair.0
  out : (term : ℕ) (eval : EvalId) (token : Token) → g.outstanding term eval ≡ Some token → (token.term ≡ term) × WasDelivered g eval token
  last : (term : ℕ) (eval : EvalId) (token other : Token) → g.outstanding term eval ≡ Some token → WasDelivered g eval other → other.term ≡ term → other.serial ≤ token.serial
  own : (p : ℕ) (e : Entry Command) (plan : AcceptedPlan) → slice_get g.log p ≡ Some e → e.command ≡ commands.Plan plan → plan.token.term ≡ e.term
  delivered : (p : ℕ) (e : Entry Command) (plan : AcceptedPlan) → slice_get g.log p ≡ Some e → e.command ≡ commands.Plan plan → WasDelivered g plan.eval plan.token
  later : (p q : ℕ) (d e : Entry Command) (one two : AcceptedPlan) → p < q → slice_get g.log p ≡ Some d → slice_get g.log q ≡ Some e → d.command ≡ commands.Plan one → e.command ≡ commands.Plan two →
      one.eval ≡ two.eval → d.term ≡ e.term → one.token.serial ≤ two.token.serial
  -- no plan's token is newer than what is outstanding
  below : (p : ℕ) (e : Entry Command) (plan : AcceptedPlan) (token : Token) → slice_get g.log p ≡ Some e → e.command ≡ commands.Plan plan → g.outstanding e.term plan.eval ≡ Some token → plan.token.serial ≤ token.serial

-- what was pending was so, where the log grows and more of it is committed
pending_stays : (g h : SpecState) (eval : EvalId) → g.committed ≤ h.committed → take g.committed h.log ≡ take g.committed g.log → WasPending g eval → WasPending h eval
pending_stays g h eval rise same p = record {
  first = p.first;
  place = p.place;
  row = p.row;
  committed = omega (arith, p.committed, rise);
  here = ap (λ l. slice_get (state_of l).evals p.place) (sym (take-take p.first g.committed h.log p.committed) ∙ (ap (take p.first) same ∙ take-take p.first g.committed g.log p.committed)) ∙ p.here;
  same = p.same;
  pending = p.pending;
}

-- what an action keeps that appends and delivers nothing
same_kept : (g h : SpecState) → h.log ≡ g.log → h.delivered ≡ g.delivered → g.committed ≤ h.committed → h.committed ≤ length h.log →
    ((term : ℕ) (eval : EvalId) (token : Token) → h.outstanding term eval ≡ Some token → g.outstanding term eval ≡ Some token) → Kept g → Kept h
same_kept g h log given rise fits stays k =
    let at_log = λ (p : ℕ) (e : Entry Command) (at : slice_get h.log p ≡ Some e). ap (λ l. slice_get l p) (sym log) ∙ at in
    let at_given = λ (j : ℕ) (pair : EvalId × Token) (at : slice_get h.delivered j ≡ Some pair). ap (λ l. slice_get l j) (sym given) ∙ at in
    let keep : (eval : EvalId) (token : Token) → WasDelivered g eval token → WasDelivered h eval token = λ eval token d. (d.0, ap (λ l. slice_get l d.0) given ∙ d.1) in
    record {
      within = fits;
      newer = λ i j one two less at_i at_j. k.newer i j one two less (at_given i one at_i) (at_given j two at_j);
      pending = λ j pair at. pending_stays g h pair.0 rise (ap (take g.committed) log) (k.pending j pair (at_given j pair at));
      out = λ term eval token is. let o = k.out term eval token (stays term eval token is) in (o.0, keep eval token o.1);
      last = λ term eval token other is d its. k.last term eval token other (stays term eval token is) (d.0, at_given d.0 (eval, other) d.1) its;
      own = λ p e plan at. k.own p e plan (at_log p e at);
      delivered = λ p e plan at is. keep plan.eval plan.token (k.delivered p e plan (at_log p e at) is);
      later = λ p q d e one two less at_p at_q. k.later p q d e one two less (at_log p d at_p) (at_log q e at_q);
      below = λ p e plan token at is out. k.below p e plan token (at_log p e at) is (stays e.term plan.eval token out);
    }

same_pair : (a b : EvalId) (s t : Token) → a ≡ b → s ≡ t → ◌≡◌ {A = EvalId × Token} (a, s) (b, t)
same_pair a b s t e f = (λ i. (e i, f i))

one_pair : (a b : EvalId) (s t : Token) → ◌≡◌ {A = EvalId × Token} (a, s) (b, t) → (a ≡ b) × (s ≡ t)
one_pair a b s t e = (ap (λ (v : EvalId × Token). v.0) e, ap (λ (v : EvalId × Token). v.1) e)

it_is : (t : ℕ) (e eval : EvalId) (token : Token) → t ≡ token.term → e ≡ eval → (nat_eq t token.term && same_eval e eval) ≡ true
it_is t e eval token its same = and_from (nat_eq t token.term) (same_eval e eval) (eq-eqb t token.term its) (ap (λ (v : EvalId). same_eval e v) (sym same) ∙ same_itself e)

act : (g h : SpecState) → Kept g → Action g h → Kept h
act g h k (appends e f) =
    let mine = λ (d : Entry Command) (plan : AcceptedPlan) (same : e ≡ d) (is : d.command ≡ commands.Plan plan).
    subst (λ (v : Entry Command). g.outstanding v.term plan.eval ≡ Some plan.token) same (f.token plan (ap (λ (v : Entry Command). v.command) same ∙ is)) in
    record {
      within = omega (arith, k.within, push_length g.log e);
      newer = k.newer;
      pending = λ j pair at. pending_stays g h pair.0 (omega arith) (sym (take_append g.committed g.log (e ∷ []) k.within)) (k.pending j pair at);
      out = k.out;
      last = k.last;
      own = λ p d plan at is. elim (get-where g.log (e ∷ []) p d at) [
        | inl q ↦ k.own p d plan q.1 is
        | inr q ↦ let o = k.out d.term plan.eval plan.token (mine d plan (get-one e q.1.0 d q.1.1) is) in o.0
      ];
      delivered = λ p d plan at is. elim (get-where g.log (e ∷ []) p d at) [
        | inl q ↦ k.delivered p d plan q.1 is
        | inr q ↦ let o = k.out d.term plan.eval plan.token (mine d plan (get-one e q.1.0 d q.1.1) is) in o.1
      ];
      later = λ p q d z one two less at_p at_q is_one is_two eval term. elim (get-where g.log (e ∷ []) q z at_q) [
        | inl b ↦ elim (get-where g.log (e ∷ []) p d at_p) [
          | inl a ↦ k.later p q d z one two less a.1 b.1 is_one is_two eval term
          | inr a ↦ absurd (omega (arith, a.0, b.0, less))
        ]
        | inr b ↦
            let within = get-within (g.log ++ e ∷ []) q z at_q in
            elim (get-where g.log (e ∷ []) p d at_p) [
              | inl a ↦ k.below p d one two.token a.1 is_one
                  (subst (λ t. g.outstanding t one.eval ≡ Some two.token) (sym term) (subst (λ v. g.outstanding z.term v ≡ Some two.token) (sym eval) (mine z two (get-one e b.1.0 z b.1.1) is_two)))
              | inr a ↦ absurd (omega (arith, a.0, less, within, push_length g.log e))
            ]
      ];
      below = λ p d plan token at is out. elim (get-where g.log (e ∷ []) p d at) [
        | inl q ↦ k.below p d plan token q.1 is out
        | inr q ↦ omega (arith, ap (λ (t : Token). t.serial) (same_Some plan.token token (sym (mine d plan (get-one e q.1.0 d q.1.1) is) ∙ out)))
      ];
    }
act g h k (commits j rise fits) = same_kept g h refl refl rise fits (λ term eval token is. is) k
act g h k (at_server i old new here m) = same_kept g h refl refl (omega arith) k.within (λ term eval token is. is) k
act g h k (starts c ids id here new p) = same_kept g h refl refl (omega arith) k.within (λ term eval token is. is) k
act g h k (ends outstanding stays) = same_kept g h refl refl (omega arith) k.within stays k
act g h k (delivers eval token m le waits free newest) =
    let pair : EvalId × Token = (eval, token) in
    let keep : (e : EvalId) (t : Token) → WasDelivered g e t → WasDelivered h e t = λ e t d. (d.0, get-more g.delivered (pair ∷ []) d.0 (e, t) d.1) in
    record {
      within = k.within;
      newer = λ a b one two less at_a at_b term. elim (get-where g.delivered (pair ∷ []) b two at_b) [
        | inl q ↦ elim (get-where g.delivered (pair ∷ []) a one at_a) [
          | inl r ↦ k.newer a b one two less r.1 q.1 term
          | inr r ↦ absurd (omega (arith, r.0, q.0, less))
        ]
        | inr q ↦
            let within = get-within (g.delivered ++ pair ∷ []) b two at_b in
            let same : pair ≡ two = get-one pair q.1.0 two q.1.1 in
            elim (get-where g.delivered (pair ∷ []) a one at_a) [
              | inl r ↦ subst (λ (v : EvalId × Token). one.1.serial < v.1.serial) same (newest a one r.1 (term ∙ ap (λ (v : EvalId × Token). v.1.term) (sym same)))
              | inr r ↦ absurd (omega (arith, r.0, less, within, push_length g.delivered pair))
            ]
      ];
      pending = λ j other at. elim (get-where g.delivered (pair ∷ []) j other at) [
        | inl q ↦ pending_stays g h other.0 (omega arith) refl (k.pending j other q.1)
        | inr q ↦ subst (λ (v : EvalId × Token). WasPending h v.0) (get-one pair q.1.0 other q.1.1)
            (record { first = m; place = waits.place; row = waits.row; committed = le; here = waits.here; same = waits.same; pending = waits.pending })
      ];
      out = λ t e other is. elim (bool_cases (nat_eq t token.term && same_eval e eval)) [
        | inl b ↦
            let q = rw b at is in
            let now : token ≡ other = same_Some token other q in
            let parts = and_parts (nat_eq t token.term) (same_eval e eval) b in (
              ap (λ (v : Token). v.term) (sym now) ∙ sym (eqb-true t token.term parts.0),
              (length g.delivered, get-last g.delivered pair ∙ ap Some (same_pair eval e token other (sym (same_ids e eval parts.1)) now)),
            )
        | inr b ↦ let q = rw b at is in let o = k.out t e other q in (o.0, keep e other o.1)
      ];
      last = λ t e had other is d its. elim (get-where g.delivered (pair ∷ []) d.0 (e, other) d.1) [
        | inl r ↦ elim (bool_cases (nat_eq t token.term && same_eval e eval)) [
          | inl b ↦
              let q = rw b at is in
              let now : token ≡ had = same_Some token had q in
              let less = newest d.0 (e, other) r.1 (its ∙ eqb-true t token.term (and_parts (nat_eq t token.term) (same_eval e eval) b).0) in
              omega (arith, less, ap (λ (v : Token). v.serial) now)
          | inr b ↦ let q = rw b at is in k.last t e had other q (d.0, r.1) its
        ]
        | inr r ↦
            let new = one_pair eval e token other (get-one pair r.1.0 (e, other) r.1.1) in
            let q = rw (it_is t e eval token (sym its ∙ ap (λ (v : Token). v.term) (sym new.1)) (sym new.0)) at is in
            omega (arith, ap (λ (v : Token). v.serial) (same_Some token had q), ap (λ (v : Token). v.serial) new.1)
      ];
      own = k.own;
      delivered = λ p e plan at is. keep plan.eval plan.token (k.delivered p e plan at is);
      later = k.later;
      below = λ p e plan other at is out. elim (bool_cases (nat_eq e.term token.term && same_eval plan.eval eval)) [
        | inl b ↦
            let q = rw b at out in
            let now : token ≡ other = same_Some token other q in
            let parts = and_parts (nat_eq e.term token.term) (same_eval plan.eval eval) b in
            let d = k.delivered p e plan at is in
            let less = newest d.0 (plan.eval, plan.token) d.1 (k.own p e plan at is ∙ eqb-true e.term token.term parts.0) in
            omega (arith, less, ap (λ (v : Token). v.serial) now)
        | inr b ↦ let q = rw b at out in k.below p e plan other at is q
      ];
    }

kept : (n c : ℕ) (g : SpecState) → Actions (init n c) g → Kept g
kept n c g none = record {
  within = omega arith;
  newer = λ i j one two less at. absurd (cc);
  pending = λ j pair at. absurd (cc);
  out = λ term eval token is. absurd (cc);
  last = λ term eval token other is d its. absurd (cc);
  own = λ p e plan at is. absurd (cc);
  delivered = λ p e plan at is. absurd (cc);
  later = λ p q d e one two less at. absurd (cc);
  below = λ p e plan token at is out. absurd (cc);
}
kept n c g (more {h = h} a b) = act h g (kept n c h a) b

pub fenced : (n c : ℕ) (g : SpecState) → Actions (init n c) g → IsFenced g
fenced n c g a =
    let k = kept n c g a in
    let entry = λ (term : ℕ) (plan : AcceptedPlan). let e : Entry Command = record { term = term; command = commands.Plan plan } in e in
    record {
      newer = k.newer;
      pending = k.pending;
      outstanding = k.out;
      last = k.last;
      plans = λ p term plan at. (k.own p (entry term plan) plan at refl, k.delivered p (entry term plan) plan at refl);
      later = λ p q term one two less at_p at_q same. k.later p q (entry term one) (entry term two) one two less at_p at_q refl refl same refl;
    }

-- ---- one holder at a time

one_token : (outstanding : ℕ → EvalId → Option Token) (term : ℕ) (eval : EvalId) (one two : Token) → outstanding term eval ≡ Some one → outstanding term eval ≡ Some two → one ≡ two
one_token outstanding term eval one two a b = same_Some one two (sym a ∙ b)

no_token : {token : Token} → let none : Option Token = None in none ≡ Some token → ⊥
no_token h = cc

-- where nothing is delivered, and whatever is outstanding was so
none_given : (g h : SpecState) → h.delivered ≡ g.delivered → ((term : ℕ) (eval : EvalId) (token : Token) → h.outstanding term eval ≡ Some token → g.outstanding term eval ≡ Some token) →
    (term : ℕ) (eval : EvalId) → HasOneHolder g h term eval
none_given g h given stays term eval = record {
  holds = λ j token its now before. absurd (before (ap (λ l. slice_get l j) (sym given) ∙ now));
  not_again = λ j one two is its now. ap (λ l. slice_get l j) (sym given) ∙ now;
  same = λ one two a b. one_token g.outstanding term eval one two a (stays term eval two b);
  ended = λ token d is. stays term eval token is;
}

pub one_holder : (g h : SpecState) → Action g h → (term : ℕ) (eval : EvalId) → HasOneHolder g h term eval
one_holder g h (appends e f) term eval = none_given g h refl (λ term eval token is. is) term eval
one_holder g h (commits j rise fits) term eval = none_given g h refl (λ term eval token is. is) term eval
one_holder g h (at_server i old new here m) term eval = none_given g h refl (λ term eval token is. is) term eval
one_holder g h (starts c ids id here new p) term eval = none_given g h refl (λ term eval token is. is) term eval
one_holder g h (ends outstanding stays) term eval = none_given g h refl stays term eval
one_holder g h (delivers id token m le waits free newest) term eval = let pair : EvalId × Token = (id, token) in record {
  holds = λ j other its now before. elim (get-where g.delivered (pair ∷ []) j (eval, other) now) [
    | inl q ↦ absurd (before q.1)
    | inr q ↦
        let new = one_pair id eval token other (get-one pair q.1.0 (eval, other) q.1.1) in
        rw (it_is term eval id token (sym its ∙ ap (λ (v : Token). v.term) (sym new.1)) (sym new.0)) (ap Some new.1)
  ];
  not_again = λ j one two is its now. elim (get-where g.delivered (pair ∷ []) j (eval, two) now) [
    | inl q ↦ q.1
    | inr q ↦
        let new = one_pair id eval token two (get-one pair q.1.0 (eval, two) q.1.1) in
        absurd (nobody one (sym its ∙ ap (λ (v : Token). v.term) (sym new.1)) (sym new.0) is)
  ];
  same = λ one two a b. elim (bool_cases (nat_eq term token.term && same_eval eval id)) [
    | inl c ↦
        let parts = and_parts (nat_eq term token.term) (same_eval eval id) c in
        absurd (nobody one (eqb-true term token.term parts.0) (same_ids eval id parts.1) a)
    | inr c ↦ let q = rw c at b in one_token g.outstanding term eval one two a q
  ];
  ended = λ other d is. elim (bool_cases (nat_eq term token.term && same_eval eval id)) [
    | inl c ↦
        let q = rw c at is in
        let now : token ≡ other = same_Some token other q in
        let less = newest d.0 (eval, other) d.1 (ap (λ (v : Token). v.term) (sym now)) in
        absurd (omega (arith, less, ap (λ (v : Token). v.serial) now))
    | inr c ↦ rw c at is
  ];
} where
  nobody : (one : Token) → term ≡ token.term → eval ≡ id → g.outstanding term eval ≡ Some one → ⊥
  nobody one its same a = no_token (sym free ∙ ((λ i. g.outstanding (sym its i) (sym same i)) ∙ a))
