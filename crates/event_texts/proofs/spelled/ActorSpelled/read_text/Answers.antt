use Rattle.std.proofs.Common.{◌≡◌, ◌∙◌, ◌+◌, ◌<◌, ◌^◌, ◌∷◌, ℕ, List, Some, ap, arith, decimal, drop, get_or, length, refl, rules, sym}
use Rattle.rows.specs.Fits.{NodeIdFits}
use Rattle.rows.specs.declared.actor.Actor.{Actor}
use Rattle.rows.specs.declared.actor.Actor.TheVariants.{Server, Client}
use Rattle.event_texts.specs.Laws.PlainTexts.{decimal_lacks}
use Rattle.event_texts.specs.EventLines.{ServerFits, server_text}
use Rattle.event_texts.specs.Inner.Actors.{ActorFits, actor_text}
use Rattle.event_texts.proofs.spelled.ActorSpelled.read_text.Goals as goal

-- a number does not begin with the client's letter
no_letter : (n : ℕ) (rest : List ℕ) → n < 2 ^ 64 → 99 ∷ rest ≡ decimal n → ⊥
no_letter n rest lt is =
    let count : 0 < length (decimal n) = rw (← is) (omega arith) in
    decimal_lacks 99 n (λ h. omega arith) lt 0 0 count (ap (λ text. get_or text 0 0) (sym is))

-- what has the letter is a client
with_letter : (actor : Actor) (rest : List ℕ) → ActorFits actor → 99 ∷ rest ≡ actor_text actor
    → (client : ℕ) × NodeIdFits client × (actor ≡ Client client) × (rest ≡ decimal client)
with_letter (Server server) rest fits is = absurd (no_letter (server + 1) rest (omega arith) is)
with_letter (Client client) rest fits is = (client, fits, refl, ap (λ text. drop 1 text) is)

-- what lacks it is a server
without_letter : (actor : Actor) (text : List ℕ) → ActorFits actor → text ≡ actor_text actor → ((rest : List ℕ) → text ≡ 99 ∷ rest → ⊥)
    → (server : ℕ) × ServerFits server × (actor ≡ Server server) × (text ≡ server_text server)
without_letter (Server server) text fits is none = (server, fits, refl, is)
without_letter (Client client) text fits is none = absurd (none (decimal client) is)

pub returns-in_err-read_client-in-Some-clause-read : goal.returns-in_err-read_client-in-Some-clause-read
returns-in_err-read_client-in-Some-clause-read c actor fits is =
    let front : c.args.text.now ≡ 99 ∷ c.in-Some.client.now = search rules in
    let found = with_letter actor c.in-Some.client.now fits (sym front ∙ is) in
    let read = c.read_client.ensures.read found.0 found.1 found.3 in
    search rules

pub returns-in_err-read_server-in-None-clause-read : goal.returns-in_err-read_server-in-None-clause-read
returns-in_err-read_server-in-None-clause-read c actor fits is =
    let none : (rest : List ℕ) → c.args.text.now ≡ 99 ∷ rest → ⊥ = λ rest e. search rules in
    let found = without_letter actor c.args.text.now fits is none in
    let read = c.read_server.ensures.read found.0 found.1 found.3 in
    search rules

pub returns-in_ok-read_client-in-Some-clause-read : goal.returns-in_ok-read_client-in-Some-clause-read
returns-in_ok-read_client-in-Some-clause-read c actor fits is =
    let front : c.args.text.now ≡ 99 ∷ c.in-Some.client.now = search rules in
    let found = with_letter actor c.in-Some.client.now fits (sym front ∙ is) in
    let read = c.read_client.ensures.read found.0 found.1 found.3 in
    let same : c.in_ok-read_client-in-Some.field-0 ≡ found.0 = search rules in
    rw same (ap Some (sym found.2))

pub returns-in_ok-read_server-in-None-clause-read : goal.returns-in_ok-read_server-in-None-clause-read
returns-in_ok-read_server-in-None-clause-read c actor fits is =
    let none : (rest : List ℕ) → c.args.text.now ≡ 99 ∷ rest → ⊥ = λ rest e. search rules in
    let found = without_letter actor c.args.text.now fits is none in
    let read = c.read_server.ensures.read found.0 found.1 found.3 in
    let same : c.in_ok-read_server-in-None.field-0 ≡ found.0 = search rules in
    rw same (ap Some (sym found.2))
