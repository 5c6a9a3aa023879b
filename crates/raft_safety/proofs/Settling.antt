-- What is committed is settled.
use Rattle.std.proofs.Common.{◌≡◌, ℕ, zero, suc, ◌-◌, ◌<◌, ◌≤◌, Some, List, [], ◌∷◌, ◌++◌, take, refl, sym, ap, ◌∙◌, arith, slice_get, append_assoc}
use Rattle.std.proofs.lemmas.Option.{same_Some}
use Rattle.machine_model.specs.declared.entry.Entry.{Entry}
use Rattle.raft_model.specs.Logs.{term_at}
use Rattle.raft_model.specs.Rafts.{Raft}
use Rattle.raft_model.specs.Worlds.{World}
use Rattle.raft_model.specs.Chains.{Agree, At, Chain}
use Rattle.raft_safety.specs.Claims.{LogMatching}
use Rattle.raft_safety.specs.Tickets.{Stood, GoesOn, IsCommittedIn}
use Rattle.raft_safety.proofs.Places.{get-more, get-some, get-within}
use Rattle.raft_safety.proofs.Logs.{agree_trans, agree_less, agree_term}

-- what a list has below k, its first k items have
get_take : {A : Type 0} (k : ℕ) (xs : List A) (p : ℕ) → p < k → slice_get (take k xs) p ≡ slice_get xs p
get_take zero xs p less = absurd (omega (arith, less))
get_take (suc k) [] p less = refl
get_take (suc k) (x ∷ xs) zero less = refl
get_take (suc k) (x ∷ xs) (suc p) less = get_take k xs p (omega (arith, less))

module _ {C : Type 0} where
  -- two logs that agree have the same entries
  pub agree_get : (k p : ℕ) (A B : List (Entry C)) → Agree k A B → p < k → slice_get A p ≡ slice_get B p
  agree_get k p A B a less = sym (get_take k A p less) ∙ (ap (λ (l : List (Entry C)). slice_get l p) a.same ∙ get_take k B p less)

  -- the term at an index is that of the entry there
  pub get_term : (A : List (Entry C)) (p : ℕ) (e : Entry C) → slice_get A p ≡ Some e → term_at A (suc p) ≡ e.term
  unfolding term_at
  get_term [] p e at = absurd (cc)
  get_term (x ∷ A) zero e at = ap (λ (y : Entry C). y.term) (same_Some x e at)
  get_term (x ∷ A) (suc p) e at = get_term A p e at

  -- a server of a run is one of each run that goes on from it
  pub at_later : (past : List (World C)) (w : World C) (later : List (World C)) (last : World C) → GoesOn past w later last → (k i : ℕ) (s : Raft C) → At past w k i s → At later last k i s
  at_later past w later last on k i s a =
      let front = get-more (past ++ w ∷ []) on.rest k a.world a.world_is in
      let all : later ++ last ∷ [] ≡ (past ++ w ∷ []) ++ on.rest = on.worlds ∙ sym (append_assoc past (w ∷ []) on.rest) in
      record { world = a.world; world_is = ap (λ (l : List (World C)). slice_get l k) all ∙ front; here = a.here }

  -- and what stood stood
  pub stood_later : (past : List (World C)) (w : World C) (later : List (World C)) (last : World C) (index term : ℕ) (command : C) → GoesOn past w later last → Stood past w index term command → Stood later last index term command
  stood_later past w later last index term command on s =
      record { moment = s.moment; who = s.who; server = s.server; at = at_later past w later last on s.moment s.who s.server s.at; one = s.one; there = s.there }

  module _ (past : List (World C)) (w : World C) (match : LogMatching past w) (list : List (Entry C)) (chain : Chain past w list)
      (k i index : ℕ) (s : Raft C) (a : At past w k i s) (one : 1 ≤ index) (le : index ≤ s.commit) where
    agrees : Agree s.commit s.log list
    agrees = chain.agrees k i s a

    -- what another log has at this index in the term that the server has there
    same : (entry : Entry C) → slice_get list (index - 1) ≡ Some entry → (command : C) → Stood past w index entry.term command → command ≡ entry.command
    same entry there command t =
        let log = t.server.log in
        let place : suc (index - 1) ≡ index = omega (arith, one) in
        let within = get-within log (index - 1) _ t.there in
        let its : term_at log index ≡ entry.term = ap (term_at log) (sym place) ∙ get_term log (index - 1) _ t.there in
        let ours : term_at list index ≡ entry.term = ap (term_at list) (sym place) ∙ get_term list (index - 1) entry there in
        let terms : term_at log index ≡ term_at s.log index = its ∙ sym (agree_term s.commit index s.log list agrees one le ∙ ours) in
        let matched : Agree index log s.log = match t.moment k t.who i index t.server s t.at a one (omega (arith, within, one)) (let g = agrees.left in omega (arith, g, le)) terms in
        let both : Agree index log list = agree_trans matched (agree_less index le agrees) in
        let entries = sym t.there ∙ (agree_get index (index - 1) log list both (omega (arith, one)) ∙ there) in
        ap (λ (e : Entry C). e.command) (same_Some _ entry entries)

    -- and however the run goes on
    kept : (entry : Entry C) → slice_get list (index - 1) ≡ Some entry → (later : List (World C)) (last : World C) (longer : List (Entry C)) → GoesOn past w later last → Chain later last longer → slice_get longer (index - 1) ≡ Some entry
    kept entry there later last longer on c =
        let less : index - 1 < s.commit = omega (arith, one, le) in
        let then : Agree s.commit s.log longer = c.agrees k i s (at_later past w later last on k i s a) in
        sym (agree_get s.commit (index - 1) s.log longer then less) ∙ (agree_get s.commit (index - 1) s.log list agrees less ∙ there)

    -- what is committed is settled
    pub settled : IsCommittedIn past w list index (term_at s.log index)
    settled =
        let e = get-some list (index - 1) (let g = agrees.right in omega (arith, g, le, one)) in
        let place : suc (index - 1) ≡ index = omega (arith, one) in
        record {
          entry = e.0;
          of = sym (get_term list (index - 1) e.0 e.1) ∙ (ap (term_at list) place ∙ sym (agree_term s.commit index s.log list agrees one le));
          settled = record { one = one; there = e.1; alone = same e.0 e.1; stays = kept e.0 e.1 };
        }
