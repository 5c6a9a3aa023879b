-- Names, numbers, ids and the like hold no separator of words or of items.
use Rattle.std.proofs.Common.{◌≡◌, ◌≢◌, ◌+◌, ◌<◌, ◌^◌, ◌++◌, ◌∷◌, ℕ, List, arith, decimal, false, get_or, refl, true}
use Rattle.std.specs.Int.{IsInRange}
use Rattle.std.specs.List.{list_all}
use Rattle.std.proofs.lemmas.Fmt.{decimal_is_IsNumeral}
use Rattle.std.proofs.lemmas.List.Elements.{All-append, All-cons, All-from_get_or}
use Rattle.std.proofs.lemmas.List.Sums.{AllPass-from_list_all}
use Rattle.std.proofs.lemmas.Str.Parse.{digit_at}
use Rattle.rows.specs.Fits.{AllocIdFits, EvalIdFits, GroupFits, IndexFits, NodeIdFits, PlaceFits, TokenFits}
use Rattle.rows.specs.Names.{NameFits, is_name_byte}
use Rattle.rows.specs.declared.actor.Actor.{Actor}
use Rattle.rows.specs.declared.actor.Actor.TheVariants.{Server, Client}
use Rattle.rows.specs.declared.allocation.AllocId.{AllocId}
use Rattle.rows.specs.declared.evaluation.EvalId.{EvalId}
use Rattle.rows.specs.declared.job.Group.{Group}
use Rattle.rows.specs.declared.plan.Place.{Place}
use Rattle.rows.specs.declared.token.Token.{Token}
use Rattle.event_texts.specs.Inner.Plain.{IsPlainWord, IsWithout}
use Rattle.event_texts.specs.Requests.{group_text}
use Rattle.event_texts.specs.EventLines.{ServerFits, server_text}
use Rattle.event_texts.specs.Inner.Actors.{ActorFits, actor_text}
use Rattle.event_texts.specs.WorkerLines.{alloc_text, eval_text, place_text, token_text}

pub name_lacks : (c : ℕ) (name : List ℕ) → is_name_byte c ≡ false → list_all is_name_byte name ≡ true → IsWithout c name
name_lacks c name other all k d lt e =
    let yes : is_name_byte (get_or name k d) ≡ true = AllPass-from_list_all is_name_byte name all k d lt in
    absurd (cc)

pub decimal_lacks : (c n : ℕ) → (IsInRange 48 57 c → ⊥) → n < 2 ^ 64 → IsWithout c (decimal n)
decimal_lacks c n other lt = All-from_get_or (λ b. b ≢ c) (decimal n) 0 (λ i h e.
    let digit = digit_at (decimal n) i (decimal_is_IsNumeral n lt).0.1 h in
    other (rw e at digit))

number_plain : (n : ℕ) → n < 2 ^ 64 → IsPlainWord (decimal n)
number_plain n lt = (decimal_lacks 32 n (λ h. omega arith) lt, decimal_lacks 44 n (λ h. omega arith) lt)

between : (separator : ℕ) (front back : List ℕ) → separator ≢ 32 → separator ≢ 44 → IsPlainWord front → IsPlainWord back
    → IsPlainWord (front ++ separator ∷ back)
between separator front back space comma f b = (
  All-append (λ c. c ≢ 32) front (separator ∷ back) f.0 (All-cons (λ c. c ≢ 32) separator back space b.0),
  All-append (λ c. c ≢ 44) front (separator ∷ back) f.1 (All-cons (λ c. c ≢ 44) separator back comma b.1),
)

pub name_plain : (name : List ℕ) → NameFits name → IsPlainWord name
name_plain name fits = (name_lacks 32 name refl fits.2, name_lacks 44 name refl fits.2)

pub index_plain : (n : ℕ) → IndexFits n → IsPlainWord (decimal n)
index_plain n fits = number_plain n (omega arith)

pub node_plain : (n : ℕ) → NodeIdFits n → IsPlainWord (decimal n)
node_plain n fits = number_plain n (omega arith)

pub client_plain : (n : ℕ) → NodeIdFits n → IsPlainWord (decimal n)
client_plain n fits = node_plain n fits

pub server_plain : (server : ℕ) → ServerFits server → IsPlainWord (server_text server)
server_plain server fits = number_plain (server + 1) (omega arith)

pub actor_plain : (actor : Actor) → ActorFits actor → IsPlainWord (actor_text actor)
actor_plain (Server server) fits = server_plain server fits
actor_plain (Client client) fits =
    let number = client_plain client fits in
    (All-cons (λ c. c ≢ 32) 99 _ (λ e. omega arith) number.0, All-cons (λ c. c ≢ 44) 99 _ (λ e. omega arith) number.1)

pub eval_plain : (eval : EvalId) → EvalIdFits eval → IsPlainWord (eval_text eval)
eval_plain eval fits =
    between 46 (decimal eval.index) _ (λ e. omega arith) (λ e. omega arith) (number_plain eval.index (omega arith)) (number_plain eval.slot (omega arith))

pub alloc_plain : (id : AllocId) → AllocIdFits id → IsPlainWord (alloc_text id)
alloc_plain id fits =
    between 46 (decimal id.index) _ (λ e. omega arith) (λ e. omega arith) (number_plain id.index (omega arith)) (number_plain id.slot (omega arith))

pub token_plain : (token : Token) → TokenFits token → IsPlainWord (token_text token)
token_plain token fits =
    between 46 (decimal token.term) _ (λ e. omega arith) (λ e. omega arith) (number_plain token.term (omega arith)) (number_plain token.serial (omega arith))

colon : (front back : List ℕ) → IsPlainWord front → IsPlainWord back → IsPlainWord (front ++ 58 ∷ back)
colon front back = between 58 front back (λ e. omega arith) (λ e. omega arith)

pub place_plain : (place : Place) → PlaceFits place → IsPlainWord (place_text place)
place_plain place fits =
    colon place.group _ (name_plain place.group fits.0)
    (colon (decimal place.index) _ (number_plain place.index (omega arith)) (number_plain place.node (omega arith)))

pub group_plain : (g : Group) → GroupFits g → IsPlainWord (group_text g)
group_plain g fits =
    colon g.name _ (name_plain g.name fits.0)
    (colon (decimal g.count) _ (number_plain g.count (omega arith))
    (colon g.class _ (name_plain g.class fits.2)
    (colon (decimal g.size.cpu) _ (number_plain g.size.cpu (omega arith))
    (colon (decimal g.size.mem) _ (number_plain g.size.mem (omega arith)) (number_plain g.size.disk (omega arith))))))
