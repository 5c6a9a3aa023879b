-- The parts of a line, one behind the other.
use Rattle.std.proofs.Common.{◌≡◌, ◌∙◌, ◌+◌, ◌++◌, ◌∷◌, [], ℕ, List, Some, Result, Ok, Err, OnErr, ap, append_assoc, append-nil, length, sym, take, true}
use Rattle.std.specs.Prelude.{codes, slice_get}
use Rattle.std.specs.List.{flat_map}
use Rattle.std.proofs.lemmas.Grind.{flat_map-append}
use Rattle.std.proofs.lemmas.List.{take_more}
use Rattle.std.proofs.lemmas.Option.{get_or_from_slice_get, slice_get_within}
use Rattle.machine_model.specs.MachineSpec.{MachineSpec}
use Rattle.raft_model.specs.Logs.{state_after}
use Rattle.raft_model.specs.Rafts.{Raft, is_up}
use Rattle.raft_core.specs.RaftView.{RaftView}
use Rattle.raft_core.specs.Steps.{RefinesRaft, role_of}
use Rattle.example_bank_server.specs.Lines.{Shows, ShowsState, up, applied_text, balance_text, role_word, server_text}

-- it holds whatever the call answered
pub err_any : {T E : Type 0} (r : Result T E) {P : Type 0} → P → OnErr r P
err_any (Ok x) p = tt
err_any (Err e) p = p

put_both : (old mid new front back : List ℕ) → mid ≡ old ++ front → new ≡ mid ++ back → new ≡ old ++ (front ++ back)
put_both old mid new front back first second = second ∙ ap (λ l. l ++ back) first ∙ append_assoc old front back

three : (start one two all front told last : List ℕ) → start ≡ [] → one ≡ start ++ front → two ≡ one ++ told → all ≡ two ++ last → all ≡ front ++ (told ++ last)
three start one two all front told last none first second third =
    let front_is : one ≡ front = first ∙ ap (λ l. l ++ front) none in
    third ∙ ap (λ l. l ++ last) second ∙ append_assoc one told last ∙ ap (λ l. l ++ (told ++ last)) front_is

same_server_text : (me me2 : ℕ) (role role2 : List ℕ) (term term2 last last2 : ℕ) → me ≡ me2 → role ≡ role2 → term ≡ term2 → last ≡ last2
    → server_text me role term last ≡ server_text me2 role2 term2 last2
same_server_text me me2 role role2 term term2 last last2 p q r s =
    ap (λ x. server_text x role term last) p ∙ ap (λ x. server_text me2 x term last) q ∙ ap (λ x. server_text me2 role2 x last) r
    ∙ ap (λ x. server_text me2 role2 term2 x) s

-- one balance more
pub balances_more : (balances : List ℕ) (i x : ℕ) (old mid new front : List ℕ) (y : ℕ) → slice_get balances i ≡ Some x → y ≡ x
    → mid ≡ old ++ (front ++ flat_map balance_text (take i balances)) → new ≡ mid ++ balance_text y → new ≡ old ++ (front ++ flat_map balance_text (take (i + 1) balances))
balances_more balances i x old mid new front y at same first second =
    let so = flat_map balance_text (take i balances) in
    let inside = slice_get_within balances i x at in
    let taken : take (i + 1) balances ≡ take i balances ++ x ∷ [] =
    take_more balances i x inside ∙ ap (λ z. take i balances ++ z ∷ []) (get_or_from_slice_get balances i x x at) in
    let more : flat_map balance_text (take (i + 1) balances) ≡ so ++ balance_text x =
    ap (flat_map balance_text) taken ∙ flat_map-append balance_text (take i balances) (x ∷ []) ∙ ap (λ l. so ++ l) (append-nil (balance_text x)) in
    second ∙ ap (λ z. mid ++ balance_text z) same ∙ ap (λ l. l ++ balance_text x) first ∙ append_assoc old (front ++ so) (balance_text x)
    ∙ ap (λ l. old ++ l) (append_assoc front so (balance_text x)) ∙ ap (λ l. old ++ (front ++ l)) (sym more)

module _ {S C : Type 0} (m : MachineSpec S C) (words : S → List ℕ) (view : RaftView S C) where
  pub state_put : (state : S) (applied : ℕ) (old mid new : List ℕ) → is_up view.server.mode ≡ true
      → ((s : Raft C) → RefinesRaft m view s → state ≡ state_after m (take s.commit s.log)) → applied ≡ view.server.commit
      → mid ≡ old ++ applied_text applied → new ≡ mid ++ words state
      → (told : List ℕ) × ShowsState m words view told × (new ≡ old ++ told)
  state_put state applied old mid new lives is count first second =
      (applied_text applied ++ words state, up state lives is (ap (λ n. applied_text n ++ words state) count), put_both old mid new (applied_text applied) (words state) first second)

  pub line_put : (me term last : ℕ) (role start one two all : List ℕ) → me ≡ view.me → role ≡ role_word (role_of view.server.mode) → term ≡ view.server.term → last ≡ length view.server.log
      → start ≡ [] → one ≡ start ++ server_text me role term last → ((told : List ℕ) × ShowsState m words view told × (two ≡ one ++ told)) → all ≡ two ++ codes "\n"
      → Shows m words view all
  line_put me term last role start one two all p q r s none first (told, state, second) third =
      record {
        told = told;
        state = state;
        is =
            three start one two all (server_text me role term last) told (codes "\n") none first second third
            ∙ ap (λ l. l ++ (told ++ codes "\n")) (same_server_text me view.me role (role_word (role_of view.server.mode)) term view.server.term last (length view.server.log) p q r s);
      }
