-- Who leads in the latest term.
use Rattle.std.proofs.Common.{◌≡◌, ◌∙◌, ◌≤◌, ◌<◌, ◌∷◌, Bool, true, false, Option, None, Some, List, [], ap, arith, fold, inl, inr, refl, subst, sym}
use Rattle.std.specs.Prelude.{◌⊎◌, ◌||◌, MatchOption, if◌then◌else◌, nat_lt, option_map}
use Rattle.std.specs.List.{list_any}
use denote.Ref.{Bor}
use Rattle.std.proofs.lemmas.Bool.{ltb-false, ltb-true, true≢false}
use Rattle.sim_expand.specs.declared.standing.ServerStanding.{ServerStanding}
use Rattle.sim_expand.specs.Inner.Standings.{IsLatestLeader, IsOneOf, NoneLater, later, leads}

-- what was found, after these servers more, where one that leads was found before
record Latest (first : ServerStanding) (servers : List ServerStanding) (own : ServerStanding) : Type 0 where
  leading : leads own ≡ true
  from : first.term ≤ own.term
  latest : NoneLater own.term servers
  one : (own ≡ first) ⊎ IsOneOf own servers

abbrev Found : ServerStanding → List ServerStanding → Option ServerStanding → Type 0
Found first servers found = (own : ServerStanding) × (found ≡ Some own) × Latest first servers own

-- with one server more, which leads in a later term
with_later : (first s own : ServerStanding) (servers : List ServerStanding) → first.term < s.term → Latest s servers own → Latest first (s ∷ servers) own
with_later first s own servers less l =
    let from = l.from in
    record {
      leading = l.leading;
      from = omega (arith, less, from);
      latest = (λ _. from, l.latest);
      one = inr l.one;
    }

or_behind : (first s own : ServerStanding) (servers : List ServerStanding) → (own ≡ first) ⊎ IsOneOf own servers → (own ≡ first) ⊎ IsOneOf own (s ∷ servers)
or_behind first s own servers (inl same) = inl same
or_behind first s own servers (inr one) = inr (inr one)

-- with one more, which does not
with_other : (first s own : ServerStanding) (servers : List ServerStanding) → (leads s ≡ true → s.term ≤ first.term) → Latest first servers own → Latest first (s ∷ servers) own
with_other first s own servers less l =
    let from = l.from in
    record {
      leading = l.leading;
      from = from;
      latest = ((λ is. let most = less is in omega (arith, most, from)), l.latest);
      one = or_behind first s own servers l.one;
    }

latest_by : (servers : List ServerStanding) (first s : ServerStanding) (a b : Bool) → leads s ≡ a → nat_lt first.term s.term ≡ b → (leads s ≡ true → Found s servers (fold later (Some s) servers)) → Found first servers (fold later (Some first) servers)
    → Found first (s ∷ servers) (fold later (if a then (if b then Some s else Some first) else Some first) servers)
latest_by servers first s true true on less rest others =
    let found = rest on in
    (found.0, found.1, with_later first s found.0 servers (ltb-true first.term s.term less) found.2)
latest_by servers first s true false on less rest others = (others.0, others.1, with_other first s others.0 servers (λ _. ltb-false first.term s.term less) others.2)
latest_by servers first s false b off less rest others = (others.0, others.1, with_other first s others.0 servers (λ led. absurd (true≢false (sym led ∙ off))) others.2)

latest_from : (servers : List ServerStanding) (first : ServerStanding) → leads first ≡ true → Found first servers (fold later (Some first) servers)
latest_from [] first is = (first, refl, record { leading = is; from = omega arith; latest = tt; one = inl refl })
latest_from (s ∷ servers) first is = latest_by servers first s (leads s) (nat_lt first.term s.term) refl refl (λ on. latest_from servers s on) (latest_from servers first is)

-- the leader found among servers, or that none leads
abbrev Led : List ServerStanding → Option ServerStanding → Type 0
Led servers found = MatchOption found (list_any leads servers ≡ false) (IsLatestLeader servers)

led_with : (s : ServerStanding) (servers : List ServerStanding) (found : Option ServerStanding) → leads s ≡ false → Led servers found → Led (s ∷ servers) found
led_with s servers None off none = ap (λ b. b || list_any leads servers) off ∙ none
led_with s servers (Some own) off is = record {
  one = inr is.one;
  leads = is.leads;
  latest = ((λ on. absurd (true≢false (sym on ∙ off))), is.latest);
}

led_from : (servers : List ServerStanding) (s own : ServerStanding) → Latest s servers own → IsLatestLeader (s ∷ servers) own
led_from servers s own l = record { one = l.one; leads = l.leading; latest = ((λ _. l.from), l.latest) }

latest_of : (s : ServerStanding) (servers : List ServerStanding) (a : Bool) → leads s ≡ a → Led servers (fold later None servers) → Led (s ∷ servers) (fold later (if a then Some s else None) servers)
latest_of s servers true on others =
    let found = latest_from servers s on in
    rw found.1 (led_from servers s found.0 found.2)
latest_of s servers false off others = led_with s servers (fold later None servers) off others

-- the fold of `later` finds who leads in the latest term
latest_leads : (servers : List ServerStanding) → Led servers (fold later None servers)
latest_leads [] = refl
latest_leads (s ∷ servers) = latest_of s servers (leads s) refl (latest_leads servers)

lent : (servers : List ServerStanding) (found : Option (Bor ServerStanding)) → Led servers (option_map (λ s. s.now) found) → MatchOption found (list_any leads servers ≡ false) (λ own. IsLatestLeader servers own.now)
lent servers None is = is
lent servers (Some own) is = is

-- the same of one that is lent
pub lent_leads : (servers : List ServerStanding) (found : Option (Bor ServerStanding)) → option_map (λ s. s.now) found ≡ fold later None servers
    → MatchOption found (list_any leads servers ≡ false) (λ own. IsLatestLeader servers own.now)
lent_leads servers found same = lent servers found (subst (Led servers) (sym same) (latest_leads servers))
