-- Which actors a group has, and its cells before their first event.
use Rattle.std.proofs.Common.{◌≡◌, ◌⊎◌, ℕ, zero, suc, ◌+◌, ◌<◌, ◌≤◌, Bool, true, false, true≢false, List, [], ◌∷◌, ◌++◌, refl, sym, ap, ◌∙◌, subst, inl, inr, arith}
use Rattle.std.specs.Prelude.{MatchBool, ◌||◌, length, map}
use Rattle.std.specs.List.{AllByRecursion}
use Rattle.rows.specs.declared.actor.Actor.{Actor}
use Rattle.rows.specs.declared.node.NodeSpec.{NodeSpec}
use Rattle.rows.specs.declared.actor.Actor.TheVariants.{Server, Client}
use Rattle.event_book.specs.declared.view.SeatView.{SeatView}
use Rattle.event_book.specs.Actors.{same_actor}
use Rattle.event_book.specs.Seats.{actor_in, lists_actor}
use Rattle.event_book.proofs.Actors.{is_same, same_is}
use Rattle.cells.specs.declared.own_input.OwnInput.{OwnInput}
use Rattle.cells.specs.Actors.{group_size}
use Rattle.std.proofs.lemmas.Bool.{eqb-true}
use Rattle.cells.specs.Cells.{CellView}
use Rattle.cells.specs.Groups.{AreOfGroup}
use Rattle.cells.specs.Opening.{AreNew, IsNewCell, IsOfGroup, MayOpen}
use Rattle.cells.specs.Inner.Begun.{HasSeat}

either : (a b : Bool) → (a || b) ≡ true → (a ≡ true) ⊎ (b ≡ true)
either true b h = inl refl
either false b h = inr h

or_later : (a b : Bool) → b ≡ true → (a || b) ≡ true
or_later true b h = refl
or_later false b h = h

-- who is named is one of those that are within
named_within : (P : Actor → Type 0) (all : List Actor) (a : Actor) → AllByRecursion P all → lists_actor all a ≡ true → P a
named_within P [] a within h = absurd (true≢false (sym h))
named_within P (x ∷ xs) a within h = elim (either (same_actor x a) (lists_actor xs a) h) [
  | inl e ↦ subst P (same_is x a e) within.0
  | inr e ↦ named_within P xs a within.1 e
]

all_within : (P : Actor → Type 0) (all : List Actor) → ((a : Actor) → lists_actor all a ≡ true → P a) → AllByRecursion P all
all_within P [] h = tt
all_within P (x ∷ xs) h = (h x (ap (λ (b : Bool). b || lists_actor xs x) (is_same x x refl)), all_within P xs (λ a named. h a (or_later (same_actor x a) (lists_actor xs a) named)))

of_group : (n m : ℕ) (all : List Actor) → AreOfGroup n m all → (a : Actor) → lists_actor all a ≡ true → IsOfGroup n m a
of_group n m all g (Server i) h = g.no_more_servers i h
of_group n m all g (Client c) h = let k = g.no_more_clients c h in (omega (arith, k.1, k.2), omega (arith, k.1, k.2))

client_number : (m c : ℕ) → 1 ≤ c → c ≤ m → (k : ℕ) × (c ≡ suc k) × (k < m)
client_number m zero low high = absurd (omega (arith, low))
client_number m (suc k) low high = (k, refl, omega (arith, high))

-- those that are within, and all of them, are the group's
pub are_of_group : (n m : ℕ) (all : List Actor) → AllByRecursion (IsOfGroup n m) all → ((i : ℕ) → i < n → lists_actor all (Server i) ≡ true) → ((k : ℕ) → k < m → lists_actor all (Client (suc k)) ≡ true) → AreOfGroup n m all
are_of_group n m all within servers clients = record {
  servers = servers;
  no_more_servers = λ i h. named_within (IsOfGroup n m) all (Server i) within h;
  clients = clients;
  no_more_clients = λ c h. let w = named_within (IsOfGroup n m) all (Client c) within h in client_number m c w.0 w.1;
}

pub group_within : (n m : ℕ) (all : List Actor) → AreOfGroup n m all → AllByRecursion (IsOfGroup n m) all
group_within n m all g = all_within (IsOfGroup n m) all (of_group n m all g)

group_lists : (n m : ℕ) (all : List Actor) → AreOfGroup n m all → (a : Actor) → IsOfGroup n m a → lists_actor all a ≡ true
group_lists n m all g (Server i) h = g.servers i h
group_lists n m all g (Client c) h = let k = client_number m c h.0 h.1 in subst (λ (x : ℕ). lists_actor all (Client x) ≡ true) (sym k.1) (g.clients k.0 k.2)

-- two lists of one group's actors have the same of them
pub listed_too : (n m : ℕ) (xs ys : List Actor) (a : Actor) → AreOfGroup n m xs → AreOfGroup n m ys → lists_actor xs a ≡ true → lists_actor ys a ≡ true
listed_too n m xs ys a g h is = group_lists n m ys h a (of_group n m xs g a is)

-- ---- seats

seats_within : (n m : ℕ) (seats : List (SeatView OwnInput)) → AllByRecursion (MayOpen n m) seats → AllByRecursion (IsOfGroup n m) (map actor_in seats)
seats_within n m [] may = tt
seats_within n m (s ∷ ss) may = (may.0.1, seats_within n m ss may.1)

-- seats of actors of the group are of all of them where each of the group's actors has one, and only there
pub seats_of_group : (n m : ℕ) (all : List Actor) (seats : List (SeatView OwnInput)) → AreOfGroup n m all → AllByRecursion (MayOpen n m) seats → AllByRecursion (HasSeat seats) all → AreOfGroup n m (map actor_in seats)
seats_of_group n m all seats g may have =
    let has : (a : Actor) → lists_actor all a ≡ true → HasSeat seats a = λ a named. named_within (HasSeat seats) all a have named in
    are_of_group n m (map actor_in seats) (seats_within n m seats may) (λ i h. has (Server i) (g.servers i h)) (λ k h. has (Client (suc k)) (g.clients k h))

pub group_has_seats : (n m : ℕ) (all : List Actor) (seats : List (SeatView OwnInput)) → AreOfGroup n m all → AreOfGroup n m (map actor_in seats) → AllByRecursion (HasSeat seats) all
group_has_seats n m all seats g seated = all_within (HasSeat seats) all (λ a named. listed_too n m all (map actor_in seats) a g seated named)

-- one cell more
pub one_cell_more : (n : ℕ) (nodes : List NodeSpec) (cells : List CellView) (seats : List (SeatView OwnInput)) (cell : CellView) (seat : SeatView OwnInput) → AreNew n nodes cells seats → IsNewCell n nodes cell seat → AreNew n nodes (cells ++ cell ∷ []) (seats ++ seat ∷ [])
one_cell_more n nodes [] [] cell seat h new = (new, tt)
one_cell_more n nodes [] (s ∷ ss) cell seat h new = absurd h
one_cell_more n nodes (x ∷ xs) [] cell seat h new = absurd h
one_cell_more n nodes (x ∷ xs) (s ∷ ss) cell seat h new = (h.0, one_cell_more n nodes xs ss cell seat h.1 new)

-- where all are within, and each server is there, it is told by the clients
pub of_group_either : (b : Bool) (n m : ℕ) (all : List Actor) → AllByRecursion (IsOfGroup n m) all → ((i : ℕ) → i < n → lists_actor all (Server i) ≡ true)
    → (b ≡ true → (k : ℕ) → k < m → lists_actor all (Client (suc k)) ≡ true) → (b ≡ false → (k : ℕ) × (k < m) × (lists_actor all (Client (suc k)) ≡ false))
    → MatchBool b (AreOfGroup n m all) (AreOfGroup n m all → ⊥)
of_group_either true n m all within servers has lacks = are_of_group n m all within servers (has refl)
of_group_either false n m all within servers has lacks = λ g. let k = lacks refl in true≢false (sym (g.clients k.0 k.1) ∙ k.2)

-- a server that lacks is of the group
pub lacks_server : (n m : ℕ) (all : List Actor) → (i : ℕ) × (i < n) × (lists_actor all (Server i) ≡ false) → AreOfGroup n m all → ⊥
lacks_server n m all k g = true≢false (sym (g.servers k.0 k.1) ∙ k.2)

pub one_less : (a b k : ℕ) → a + 1 ≡ b → b ≡ suc k → a ≡ k
one_less a b k e f = omega (arith, e, f)

-- ---- how many servers there are

size_over : (all : List Actor) (i : ℕ) → lists_actor all (Server i) ≡ true → i < group_size all
size_over [] i h = absurd (true≢false (sym h))
size_over (Server k ∷ all) i h = elim (either (same_actor (Server k) (Server i)) (lists_actor all (Server i)) h) [
  | inl e ↦ let is : k ≡ i = eqb-true k i e in omega (arith, is)
  | inr e ↦ let more = size_over all i e in omega (arith, more)
]
size_over (Client k ∷ all) i h = size_over all i h

size_within : (n m : ℕ) (all : List Actor) → AllByRecursion (IsOfGroup n m) all → group_size all ≤ n
size_within n m [] h = omega arith
size_within n m (Server k ∷ all) h = let more = size_within n m all h.1 in omega (arith, more, h.0)
size_within n m (Client k ∷ all) h = size_within n m all h.1

at_least : (n m : ℕ) (all : List Actor) → AreOfGroup n m all → n ≤ group_size all
at_least zero m all g = omega arith
at_least (suc n) m all g = let more = size_over all n (g.servers n (omega arith)) in omega (arith, more)

pub size_is : (n m : ℕ) (all : List Actor) → AreOfGroup n m all → group_size all ≡ n
size_is n m all g = let low = at_least n m all g in let high = size_within n m all (group_within n m all g) in omega (arith, low, high)

-- one seat more
pub one_seat_more : (n m : ℕ) (seats : List (SeatView OwnInput)) (seat : SeatView OwnInput) → AllByRecursion (MayOpen n m) seats → MayOpen n m seat → AllByRecursion (MayOpen n m) (seats ++ seat ∷ [])
one_seat_more n m [] seat h may = (may, tt)
one_seat_more n m (x ∷ xs) seat h may = (h.0, one_seat_more n m xs seat h.1 may)

pub as_many : (n : ℕ) (nodes : List NodeSpec) (cells : List CellView) (seats : List (SeatView OwnInput)) → AreNew n nodes cells seats → length cells ≡ length seats
as_many n nodes [] [] h = refl
as_many n nodes [] (s ∷ ss) h = absurd h
as_many n nodes (x ∷ xs) [] h = absurd h
as_many n nodes (x ∷ xs) (s ∷ ss) h = ap suc (as_many n nodes xs ss h.1)
