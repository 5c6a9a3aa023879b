-- The lines of a transcript are printable ASCII.
use Rattle.std.proofs.Common.{◌≡◌, ◌<◌, ◌≤◌, ◌^◌, ◌∷◌, ◌&&◌, ◌||◌, ℕ, List, [], true, false, Bool, arith, codes, decimal, eqb, get_or, inl, inr, leb, map, refl}
use Rattle.std.specs.Cmp.{first_so, second_so}
use Rattle.std.specs.List.{AllByRecursion, join_with_byte, list_all}
use Rattle.std.proofs.lemmas.Bool.{leb-true, eqb-true, or_cases}
use Rattle.std.proofs.lemmas.Fmt.{decimal_is_IsNumeral}
use Rattle.std.proofs.lemmas.List.Elements.{All-append, All-cons, All-from_get_or}
use Rattle.std.proofs.lemmas.List.Sums.{AllPass-from_list_all}
use Rattle.std.proofs.lemmas.Str.Parse.{digit_at}
use Rattle.rows.specs.Fits.{AllocIdFits, EvalIdFits, GroupFits, IndexFits, JobSpecFits, NodeIdFits, NodeSpecFits, PlaceFits, PlanFits, TokenFits}
use Rattle.rows.specs.Names.{NameFits, is_name_byte}
use Rattle.rows.specs.declared.allocation.AllocId.{AllocId}
use Rattle.rows.specs.declared.evaluation.EvalId.{EvalId}
use Rattle.rows.specs.declared.job.Group.{Group}
use Rattle.rows.specs.declared.job.JobSpec.{JobSpec}
use Rattle.rows.specs.declared.node.NodeSpec.{NodeSpec}
use Rattle.rows.specs.declared.plan.Place.{Place}
use Rattle.rows.specs.declared.plan.Plan.{Plan}
use Rattle.rows.specs.declared.token.Token.{Token}
use Rattle.rows.specs.declared.request.OperatorRequest.{OperatorRequest}
use Rattle.rows.specs.declared.request.OperatorRequest.TheVariants.{JobPut, JobStop, EvalPut, Drain}
use Rattle.rows.specs.declared.worker.EvalOutcome.{EvalOutcome}
use Rattle.rows.specs.declared.worker.EvalOutcome.TheVariants.{Blocked, Complete, Failed}
use Rattle.group_model.specs.Worlds.{Event, Deliver, AtServer, AtClient}
use Rattle.group_model.specs.Inputs as inputs
use Rattle.group_model.specs.Agents as agents
use Rattle.event_texts.specs.EventLines.{ClientInputHasLine, HasLine, ServerFits, ServerInputHasLine, client_text, client_event_words, end_text, event_line, event_words, server_text, server_event_words}
use Rattle.event_texts.specs.Inner.Printable.{IsPrintable}
use Rattle.event_texts.specs.Requests.{RequestFits, drain_text, group_text, groups_text, job_text, mode_text, request_text}
use Rattle.event_texts.specs.Transcripts.{node_line}
use Rattle.event_texts.specs.WorkerLines.{EndFits, alloc_text, comma_list, eval_text, outcome_words, place_text, plan_words, token_text}

abbrev pub ArePrintable : List (List ℕ) → Type 0
ArePrintable = AllByRecursion IsPrintable

-- ---- bytes

abbrev is_printable : ℕ → Bool
is_printable b = leb 32 b && leb b 127

name_byte : (b : ℕ) → is_name_byte b ≡ true → (32 ≤ b) × (b < 128)
name_byte b e =
    elim (or_cases ((leb 97 b && leb b 122) || (leb 48 b && leb b 57)) (eqb b 45) e) [
      | inl sign ↦ elim (or_cases (leb 97 b && leb b 122) (leb 48 b && leb b 57) sign) [
        | inl letter ↦
            let ge = leb-true 97 b (first_so (leb 97 b) (leb b 122) letter) in
            let le = leb-true b 122 (second_so (leb 97 b) (leb b 122) letter) in
            (omega arith, omega arith)
        | inr digit ↦
            let ge = leb-true 48 b (first_so (leb 48 b) (leb b 57) digit) in
            let le = leb-true b 57 (second_so (leb 48 b) (leb b 57) digit) in
            (omega arith, omega arith)
      ]
      | inr dash ↦ let is = eqb-true b 45 dash in (omega arith, omega arith)
    ]

name_printable : (name : List ℕ) → NameFits name → IsPrintable name
name_printable name fits k d lt = name_byte (get_or name k d) (AllPass-from_list_all is_name_byte name fits.2 k d lt)

-- what is written as it stands
pub word : (text : List ℕ) → list_all is_printable text ≡ true → IsPrintable text
word text all k d lt =
    let b = get_or text k d in
    let yes : is_printable b ≡ true = AllPass-from_list_all is_printable text all k d lt in
    let ge = leb-true 32 b (first_so (leb 32 b) (leb b 127) yes) in
    let le = leb-true b 127 (second_so (leb 32 b) (leb b 127) yes) in
    (omega arith, omega arith)

number : (n : ℕ) → n < 2 ^ 64 → IsPrintable (decimal n)
number n lt = All-from_get_or (λ b. (32 ≤ b) × (b < 128)) (decimal n) 0 (λ i h.
    let digit = digit_at (decimal n) i (decimal_is_IsNumeral n lt).0.1 h in
    (omega arith, omega arith))

-- ---- texts with a byte between

joined : (separator : ℕ) (texts : List (List ℕ)) → 32 ≤ separator → separator < 128 → ArePrintable texts → IsPrintable (join_with_byte separator texts)
joined separator [] ge lt all = λ k d within. absurd (omega arith)
joined separator (text ∷ []) ge lt all = all.0
joined separator (text ∷ next ∷ texts) ge lt all =
    All-append (λ b. (32 ≤ b) × (b < 128)) text _ all.0
    (All-cons (λ b. (32 ≤ b) × (b < 128)) separator _ (ge, lt) (joined separator (next ∷ texts) ge lt all.1))

words : (texts : List (List ℕ)) → ArePrintable texts → IsPrintable (join_with_byte 32 texts)
words texts all = joined 32 texts (omega arith) (omega arith) all

each : {A : Type 0} (Fits : A → Type 0) (spelling : A → List ℕ) → ((x : A) → Fits x → IsPrintable (spelling x)) → (xs : List A) → AllByRecursion Fits xs
    → ArePrintable (map spelling xs)
each Fits spelling printable [] fits = tt
each Fits spelling printable (x ∷ xs) fits = (printable x fits.0, each Fits spelling printable xs fits.1)

commas : (items : List (List ℕ)) → ArePrintable items → IsPrintable (comma_list items)
commas [] all = word (codes "-") refl
commas (item ∷ items) all = joined 44 (item ∷ items) (omega arith) (omega arith) all

-- ---- values

server : (s : ℕ) → ServerFits s → IsPrintable (server_text s)
server s fits = number _ (omega arith)

node_id : (n : ℕ) → NodeIdFits n → IsPrintable (decimal n)
node_id n fits = number n (omega arith)

client : (c : ℕ) → NodeIdFits c → IsPrintable (client_text c)
client c fits = All-cons (λ b. (32 ≤ b) × (b < 128)) 99 (decimal c) (omega arith, omega arith) (node_id c fits)

index : (n : ℕ) → IndexFits n → IsPrintable (decimal n)
index n fits = number n (omega arith)

eval : (e : EvalId) → EvalIdFits e → IsPrintable (eval_text e)
eval e fits = joined 46 (decimal e.index ∷ decimal e.slot ∷ []) (omega arith) (omega arith) (number e.index (omega arith), (number e.slot (omega arith), tt))

alloc : (a : AllocId) → AllocIdFits a → IsPrintable (alloc_text a)
alloc a fits = joined 46 (decimal a.index ∷ decimal a.slot ∷ []) (omega arith) (omega arith) (number a.index (omega arith), (number a.slot (omega arith), tt))

token : (t : Token) → TokenFits t → IsPrintable (token_text t)
token t fits = joined 46 (decimal t.term ∷ decimal t.serial ∷ []) (omega arith) (omega arith) (number t.term (omega arith), (number t.serial (omega arith), tt))

place : (p : Place) → PlaceFits p → IsPrintable (place_text p)
place p fits =
    joined 58 (p.group ∷ decimal p.index ∷ decimal p.node ∷ []) (omega arith) (omega arith)
    (name_printable p.group fits.0, (number p.index (omega arith), (number p.node (omega arith), tt)))

group : (g : Group) → GroupFits g → IsPrintable (group_text g)
group g fits =
    joined 58 (g.name ∷ decimal g.count ∷ g.class ∷ decimal g.size.cpu ∷ decimal g.size.mem ∷ decimal g.size.disk ∷ []) (omega arith) (omega arith)
    (name_printable g.name fits.0, (number g.count (omega arith), (name_printable g.class fits.2, (number g.size.cpu (omega arith), (number g.size.mem (omega arith), (number g.size.disk (omega arith), tt))))))

job : (j : JobSpec) → JobSpecFits j → IsPrintable (job_text j)
job j fits =
    let groups = joined 44 (map group_text j.groups) (omega arith) (omega arith) (each GroupFits group_text group j.groups fits.2.1) in
    words (j.name ∷ decimal j.priority ∷ groups_text j.groups ∷ []) (name_printable j.name fits.0, (number j.priority (omega arith), (groups, tt)))

mode : (force : Bool) → IsPrintable (mode_text force)
mode true = word (codes "force") refl
mode false = word (codes "slow") refl

request : (r : OperatorRequest) → RequestFits r → IsPrintable (request_text r)
request (JobPut j) fits = words (codes "put" ∷ job_text j ∷ []) (word (codes "put") refl, (job j fits, tt))
request (JobStop name) fits = words (codes "stop" ∷ name ∷ []) (word (codes "stop") refl, (name_printable name fits, tt))
request (EvalPut name) fits = words (codes "eval" ∷ name ∷ []) (word (codes "eval") refl, (name_printable name fits, tt))
request (Drain n force) fits =
    words (codes "drain" ∷ drain_text n force ∷ [])
    (word (codes "drain") refl, (words (decimal n ∷ mode_text force ∷ []) (node_id n fits, (mode force, tt)), tt))

ending : (ok : Bool) → IsPrintable (end_text ok)
ending true = word (codes "complete") refl
ending false = word (codes "failed") refl

outcome : (o : EvalOutcome) → EndFits o → ArePrintable (outcome_words o)
outcome (Blocked snapshot) fits = (word (codes "blocked") refl, (index snapshot fits, tt))
outcome Complete fits = (word (codes "complete") refl, (word (codes "0") refl, tt))
outcome Failed fits = (word (codes "failed") refl, (word (codes "0") refl, tt))

plan : (p : Plan) → PlanFits p → ArePrintable (plan_words p)
plan p fits = (eval p.eval fits.0, (token p.token fits.1, (name_printable p.job fits.2, (index p.version fits.3, (index p.snapshot fits.4, (commas (map alloc_text p.stops) (each AllocIdFits alloc_text alloc p.stops fits.5.1), (commas (map place_text p.places) (each PlaceFits place_text place p.places fits.6.1), tt)))))))

-- ---- events

at_server : (s : ℕ) (input : inputs.Input) → ServerFits s → ServerInputHasLine input → ArePrintable (server_event_words s input)
at_server s (inputs.Arrives message) at fits = absurd fits
at_server s inputs.Timeout at fits = (word (codes "timeout") refl, (server s at, tt))
at_server s inputs.Beat at fits = (word (codes "beat") refl, (server s at, tt))
at_server s (inputs.Request r) at fits = (word (codes "request") refl, (server s at, (request r fits, tt)))
at_server s (inputs.TakeFrom to) at fits = (word (codes "take") refl, (server s at, (server to fits, tt)))
at_server s (inputs.SubmitTo to p) at fits = (word (codes "submit") refl, (server s at, (server to fits.0, plan p fits.1)))
at_server s (inputs.FinishAt to e t o) at fits =
    (word (codes "finish") refl, (server s at, (server to fits.0, (eval e fits.1, (token t fits.2, outcome o fits.3)))))
at_server s (inputs.NackAt to e t) at fits =
    (word (codes "nack") refl, (server s at, (server to fits.0, (eval e fits.1, (token t fits.2, tt)))))
at_server s inputs.PlanTurn at fits = (word (codes "plan") refl, (server s at, tt))
at_server s (inputs.Lapse e) at fits = (word (codes "lapse") refl, (server s at, (eval e fits, tt)))
at_server s (inputs.Expire n beats) at fits = (word (codes "expire") refl, (server s at, (node_id n fits.0, (index beats fits.1, tt))))
at_server s (inputs.DrainTurn n) at fits = (word (codes "drain") refl, (server s at, (node_id n fits, tt)))
at_server s inputs.FreeTurn at fits = (word (codes "free") refl, (server s at, tt))
at_server s inputs.Reap at fits = (word (codes "reap") refl, (server s at, tt))
at_server s inputs.Compact at fits = (word (codes "compact") refl, (server s at, tt))
at_server s inputs.Crash at fits = (word (codes "crash") refl, (server s at, tt))
at_server s inputs.Restart at fits = (word (codes "restart") refl, (server s at, tt))

at_client : (c : ℕ) (input : agents.Input) → NodeIdFits c → ClientInputHasLine input → ArePrintable (client_event_words c input)
at_client c (agents.Arrives from response) at fits = absurd fits
at_client c (agents.RegisterAt s) at fits = (word (codes "register") refl, (node_id c at, (server s fits, tt)))
at_client c (agents.Ping s) at fits = (word (codes "ping") refl, (node_id c at, (server s fits, tt)))
at_client c (agents.PullFrom s) at fits = (word (codes "pull") refl, (node_id c at, (server s fits, tt)))
at_client c (agents.End id ok) at fits = (word (codes "end") refl, (node_id c at, (alloc id fits, (ending ok, tt))))
at_client c agents.Crash at fits = (word (codes "crash") refl, (client c at, tt))
at_client c agents.Restart at fits = (word (codes "restart") refl, (client c at, tt))

event_words_printable : (event : Event) → HasLine event → ArePrintable (event_words event)
event_words_printable (Deliver k) fits = (word (codes "deliver") refl, (number _ fits, tt))
event_words_printable (AtServer s input) fits = at_server s input fits.0 fits.1
event_words_printable (AtClient c input) fits = at_client c input fits.0 fits.1

pub event_printable : (event : Event) → HasLine event → IsPrintable (event_line event)
event_printable event fits = words (event_words event) (event_words_printable event fits)

pub node_printable : (node : NodeSpec) → NodeSpecFits node → IsPrintable (node_line node)
node_printable node fits =
    words (codes "node" ∷ decimal node.number ∷ node.class ∷ decimal node.size.cpu ∷ decimal node.size.mem ∷ decimal node.size.disk ∷ [])
    (word (codes "node") refl, (node_id node.number fits.0, (name_printable node.class fits.1, (number node.size.cpu (omega arith), (number node.size.mem (omega arith), (number node.size.disk (omega arith), tt))))))
