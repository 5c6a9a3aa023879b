-- What is noted of the frames that an event sent, one by one.
use Rattle.std.proofs.Common.{◌≡◌, ◌∙◌, ℕ, zero, suc, ◌+◌, ◌-◌, ◌<◌, ◌≤◌, false, Option, Some, None, List, [], ◌∷◌, ◌++◌, length, map, take, drop, get_or, slice_get, nat_lt, if◌then◌else◌, length-append, refl, sym, ap, append_assoc, arith}
use Rattle.std.proofs.lemmas.List.{length-drop, map-append, take_more}
use Rattle.std.specs.Option.{unwrap_or}
use Rattle.wire.specs.Frames.{Frame}
use Rattle.group_inputs.specs.Events.{IsSameEvent}
use Rattle.group_inputs.specs.declared.event.Event.{Event}
use Rattle.group_inputs.specs.declared.event.Event.TheVariants as events
use Rattle.sim_draw.specs.declared.record.Record.{Record}
use Rattle.sim_draw.specs.declared.record.Sending.{Sending}
use Rattle.sim_draw.specs.declared.record.Step.{Step}
use Rattle.sim_draw.specs.Inner.Records.{receiver_line, lifeline_of, delivered_place, message_in, as_sent}

-- what stands behind the first n
behind : {X : Type 0} (n : ℕ) (xs : List X) (i : ℕ) → slice_get (drop n xs) i ≡ slice_get xs (n + i)
behind zero xs i =
    let same : i ≡ 0 + i = omega arith in
    ap (slice_get xs) same
behind (suc n) [] i = refl
behind (suc n) (x ∷ xs) i =
    let same : suc (n + i) ≡ suc n + i = omega arith in
    behind n xs i ∙ ap (slice_get (x ∷ xs)) same

map_more : {X Y : Type 0} (g : Option X → Y) (xs : List X) (k : ℕ) → k < length xs →
    map (λ x. g (Some x)) (take (suc k) xs) ≡ map (λ x. g (Some x)) (take k xs) ++ g (slice_get xs k) ∷ []
map_more g [] k lt = absurd (omega arith)
map_more g (x ∷ xs) zero lt = refl
map_more g (x ∷ xs) (suc k) lt = ap (λ ys. g (Some x) ∷ ys) (map_more g xs k (omega arith))

pub one_sent : {X Y : Type 0} (g : Option X → Y) (old now new : List Y) (xs : List X) (n k : ℕ) →
    n ≤ k → k < length xs → now ≡ old ++ map (λ x. g (Some x)) (take (k - n) (drop n xs)) →
    new ≡ now ++ g (slice_get xs k) ∷ [] →
    new ≡ old ++ map (λ x. g (Some x)) (take (k + 1 - n) (drop n xs))
one_sent g old now new xs n k from lt was is =
    let here : slice_get (drop n xs) (k - n) ≡ slice_get xs k = behind n xs (k - n) ∙ ap (slice_get xs) (omega arith) in
    let more = map_more g (drop n xs) (k - n) (omega (arith, length-drop n xs)) in
    let next : k + 1 - n ≡ suc (k - n) = omega arith in
    is
    ∙ ap (λ ys. ys ++ g (slice_get xs k) ∷ []) was
    ∙ append_assoc old _ _
    ∙ ap (λ y. old ++ (map (λ x. g (Some x)) (take (k - n) (drop n xs)) ++ g y ∷ [])) (sym here)
    ∙ ap (λ ys. old ++ ys) (sym more)
    ∙ ap (λ m. old ++ map (λ x. g (Some x)) (take m (drop n xs))) (sym next)

-- the lifeline of a receiver goes by how many servers and clients there are
pub same_line : (a b : Record) (o : Option Frame) → a.servers ≡ b.servers → a.clients ≡ b.clients → receiver_line a o ≡ receiver_line b o
same_line a b None e f = refl
same_line a b (Some frame) e f =
    ap (λ s. lifeline_of s a.clients (Some frame.to)) e ∙ ap (λ n. lifeline_of b.servers n (Some frame.to)) f

pub same_sending : (now new : List Sending) (row row2 from to to2 : ℕ) → row ≡ row2 → to ≡ to2 →
    new ≡ now ++ record { row = row; from = from; to = to; came = false } ∷ [] →
    new ≡ now ++ record { row = row2; from = from; to = to2; came = false } ∷ []
same_sending now new row row2 from to to2 e f is =
    is
    ∙ ap (λ r. now ++ record { row = r; from = from; to = to; came = false } ∷ []) e
    ∙ ap (λ t. now ++ record { row = row2; from = from; to = t; came = false } ∷ []) f

-- an event once more delivers the same message
pub same_place : (event again : Event) → IsSameEvent event again → delivered_place again ≡ delivered_place event
same_place (events.Deliver k) (events.Deliver n) same = ap (λ m. if nat_lt 0 m then Some (m - 1) else None) same
same_place (events.Server server input) (events.Server again copy) same = refl
same_place (events.Client client input) (events.Client again copy) same = refl
same_place (events.Deliver k) (events.Server again copy) same = absurd same
same_place (events.Deliver k) (events.Client again copy) same = absurd same
same_place (events.Server server input) (events.Deliver n) same = absurd same
same_place (events.Server server input) (events.Client again copy) same = absurd same
same_place (events.Client client input) (events.Deliver n) same = absurd same
same_place (events.Client client input) (events.Server again copy) same = absurd same

-- the message of one event more
pub one_row : (now new : List Step) (step : Step) (all : List Event) (i : ℕ) (event : Event) → i < length all →
    event ≡ get_or all i event → step.message ≡ delivered_place event →
    map message_in now ≡ map delivered_place (take i all) → new ≡ now ++ step ∷ [] →
    map message_in new ≡ map delivered_place (take (i + 1) all)
one_row now new step all i event lt at message was is =
    ap (map message_in) is
    ∙ map-append message_in now (step ∷ [])
    ∙ ap (λ ms. ms ++ step.message ∷ []) was
    ∙ ap (λ m. map delivered_place (take i all) ++ m ∷ []) message
    ∙ sym (map-append delivered_place (take i all) (event ∷ []))
    ∙ ap (λ e. map delivered_place (take i all ++ e ∷ [])) at
    ∙ ap (map delivered_place) (sym (take_more all i event lt))

pub one_longer : {X : Type 0} (now new : List X) (x : X) → new ≡ now ++ x ∷ [] → length new ≡ length now + 1
one_longer now new x is = ap length is ∙ length-append now (x ∷ [])

-- what is noted of frames goes by the next row and by how many servers and clients there are
as_same : (a b : Record) (from : ℕ) (frame : Frame) → a.steps.items ≡ b.steps.items → a.servers ≡ b.servers → a.clients ≡ b.clients →
    as_sent a from frame ≡ as_sent b from frame
as_same a b from frame rows servers clients =
    ap (λ steps. record { row = length steps; from = from; to = unwrap_or (receiver_line a (Some frame)) from; came = false }) rows
    ∙ ap (λ line. record { row = length b.steps.items; from = from; to = unwrap_or line from; came = false }) (same_line a b (Some frame) servers clients)

pub same_sents : (a b : Record) (from : ℕ) (frames : List Frame) → a.steps.items ≡ b.steps.items → a.servers ≡ b.servers → a.clients ≡ b.clients →
    map (as_sent a from) frames ≡ map (as_sent b from) frames
same_sents a b from [] rows servers clients = refl
same_sents a b from (frame ∷ frames) rows servers clients =
    ap (λ one. one ∷ map (as_sent a from) frames) (as_same a b from frame rows servers clients)
    ∙ ap (λ rest. as_sent b from frame ∷ rest) (same_sents a b from frames rows servers clients)
