-- Reports of servers' states, and texts that are made one by one.
use Rattle.std.proofs.Common.{◌≡◌, ◌∙◌, ℕ, ◌+◌, ◌<◌, Err, IfOk, List, Ok, Result, String, Vec, [], ◌∷◌, ◌++◌, ap, get_or, length, map, string_bytes, subst, sym, take}
use Rattle.std.proofs.lemmas.List.{map-append, take_more}
use Rattle.std.specs.declared.alloc.Global.{Global}
use Rattle.fsm_model.specs.Words.{State}
use Rattle.group_model.specs.Desks.{applied_state}
use Rattle.group_model.specs.Servers.{Server}
use Rattle.server.specs.ServerViews.{ServerView, RefinesServer}
use Rattle.sim_reports.specs.declared.report.StateReport.{StateReport}
use Rattle.sim_inspect.specs.Inner.Applied.{IsStateOf}
use Rattle.sim_inspect.specs.Inner.StateRows.{IsStateReport}

pub state_is : {E : Type 0} (told : Result StateReport E) (view : ServerView) (state : State) (servers : Vec ℕ Global) (numbers : List ℕ)
    → ((s : Server) → RefinesServer view s → state ≡ applied_state s.raft) → servers.items ≡ numbers
    → IfOk told (IsStateReport state) → IfOk told (λ report. report.servers ≡ servers) → IfOk told (IsStateOf view numbers)
state_is (Ok report) view state servers numbers same own is at = record {
  state = λ s of. subst (λ (st : State). IsStateReport st report) (same s of) is;
  servers = ap (λ (v : Vec ℕ Global). v.items) at ∙ own;
}
state_is (Err e) view state servers numbers same own is at = tt

-- one text more
pub texts_more : {A : Type 0} (text_of : A → List ℕ) (items : List A) (i : ℕ) (x : A) (old new : List (String Global)) (y : String Global)
    → i < length items → x ≡ get_or items i x → map string_bytes old ≡ map text_of (take i items) → string_bytes y ≡ text_of x → new ≡ old ++ y ∷ []
    → map string_bytes new ≡ map text_of (take (i + 1) items)
texts_more {A} text_of items i x old new y inside at before own grown =
    let taken : take (i + 1) items ≡ take i items ++ x ∷ [] = take_more items i x inside ∙ ap (λ z. take i items ++ z ∷ []) (sym at) in
    ap (map string_bytes) grown
    ∙ map-append string_bytes old (y ∷ [])
    ∙ ap (λ (ts : List (List ℕ)). ts ++ string_bytes y ∷ []) before
    ∙ ap (λ (t : List ℕ). map text_of (take i items) ++ t ∷ []) own
    ∙ sym (map-append text_of (take i items) (x ∷ []))
    ∙ ap (map text_of) (sym taken)
