-- What a `settle` takes each time that it does something.
use Rattle.std.proofs.Common.{◌≤◌, ◌<◌, ◌+◌, ◌*◌, ℕ, Bool, true, false, IfErr, Result, arith, subst}
use Rattle.std.proofs.Math.Nat.{mul-le-mul_right}
use Rattle.rows.specs.declared.refusal.Refusal.{Refusal}
use Rattle.sim_expand.specs.declared.expanding.Taken.{Taken}
use Rattle.sim_expand.specs.Counts.{most_at_once}
use Rattle.sim_expand.specs.Inner.Taking.{TakesUpTo, WhyNoMore, most_in_flow}
use Rattle.sim_expand.proofs.Taking.{if_stops_behind, reached, some_and_some, stops_behind, stops_with_more, up_to_more}

-- the lines of up to 64 clients, and a flow
flow_after : (n : ℕ) (behind : Bool) → n ≤ 64 → n + most_in_flow behind ≤ most_at_once behind
flow_after n false few = omega (arith, few)
flow_after n true few = omega (arith, few)

pub flow_at_once : (behind : Bool) → most_in_flow behind ≤ most_at_once behind
flow_at_once false = omega arith
flow_at_once true = omega arith

pub stops_at_once : (n : ℕ) (t : Taken) (r : Refusal) → n ≤ 64 → WhyNoMore n t r → WhyNoMore (most_at_once t.behind) t r
stops_at_once n t r few why =
    let within = flow_after n t.behind few in
    stops_with_more n (most_at_once t.behind) t r (omega (arith, within)) why

module _ (n : ℕ) where
  pub some_after : (a b c : Taken) → n ≤ 64 → TakesUpTo n a b → TakesUpTo (most_in_flow b.behind) b c → TakesUpTo (most_at_once a.behind) a c
  some_after a b c few some last =
      let last = subst (λ behind. TakesUpTo (most_in_flow behind) b c) some.3.behind last in
      up_to_more (n + most_in_flow a.behind) (most_at_once a.behind) a c (flow_after n a.behind few) (some_and_some n (most_in_flow a.behind) a b c some last)

  pub if_stops_after : {X : Type 0} (r : Result X Refusal) (a b : Taken) → n ≤ 64 → TakesUpTo n a b → IfErr r (WhyNoMore (most_in_flow b.behind) b) → IfErr r (WhyNoMore (most_at_once a.behind) a)
  if_stops_after r a b few some why =
      let why = subst (λ behind. IfErr r (WhyNoMore (most_in_flow behind) b)) some.3.behind why in
      if_stops_behind r n (most_in_flow a.behind) (most_at_once a.behind) a b (flow_after n a.behind few) (reached n a b some) why

-- ---- so many times

times_more : (k m : ℕ) → k * m + m ≤ (k + 1) * m
times_more k m = omega arith

module _ (k : ℕ) (most m : ℕ) (a b c : Taken) (some : TakesUpTo (k * m) a b) where
  -- what was taken, and no more
  pub no_more_times : k ≤ most → TakesUpTo (most * m) a b
  no_more_times within = up_to_more (k * m) (most * m) a b (mul-le-mul_right m within) some

  -- once more, in vain
  pub once_in_vain : k ≤ most → TakesUpTo 0 b c → TakesUpTo (most * m) a c
  once_in_vain within last =
      let times = mul-le-mul_right m within in
      up_to_more (k * m + 0) (most * m) a c (omega (arith, times)) (some_and_some (k * m) 0 a b c some last)

  pub once_more : TakesUpTo m b c → TakesUpTo ((k + 1) * m) a c
  once_more last = up_to_more (k * m + m) ((k + 1) * m) a c (times_more k m) (some_and_some (k * m) m a b c some last)

  pub stops_once_more : (r : Refusal) → k < most → WhyNoMore m b r → WhyNoMore (most * m) a r
  stops_once_more r within why =
      let times : (k + 1) * m ≤ most * m = mul-le-mul_right m (omega (arith, within)) in
      stops_with_more (k * m + m) (most * m) a r (omega (arith, times, times_more k m)) (stops_behind (k * m) m a b r (reached (k * m) a b some) why)
