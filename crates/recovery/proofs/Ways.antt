-- Recoveries, one after the other, with their events.
use Rattle.std.proofs.Common.{◌≡◌, ℕ, suc, ◌+◌, ◌≤◌, Ok, List, [], ◌∷◌, ◌++◌, length, refl, ap, subst, arith, append_assoc}
use Rattle.machine_model.specs.MachineSpec.{MachineSpec}
use Rattle.raft_model.specs.Worlds.{World, Event, Deliver, TimesOut, Beats, happens}
use Rattle.raft_progress.specs.Recovery.{Recovery, no_event, a_delivery, a_timeout, a_beat}
use Rattle.raft_progress.proofs.Moves.{recovery_sent}
use Rattle.recovery.specs.Runs.{events_of}
use Rattle.recovery.specs.Inner.Spreads.{Way}

module _ {S C : Type 0} (m : MachineSpec S C) (i : ℕ) where
  pub no_way : (w : World C) → Way m i w [] 0 0 w
  unfolding events_of
  no_way w = record { recovery = no_event; events = refl }

  pub way_delivery : (w : World C) (es : List (Event C)) (t b : ℕ) (x : World C) (place : ℕ) (y : World C) → Way m i w es t b x → length w.sent ≤ place → happens m x (Deliver place) ≡ Ok y → Way m i w (es ++ Deliver place ∷ []) t b y
  unfolding events_of
  way_delivery w es t b x place y a new h = record { recovery = a_delivery place y a.recovery new h; events = ap (λ l. l ++ Deliver place ∷ []) a.events }

  pub way_timeout : (w : World C) (es : List (Event C)) (t b : ℕ) (x y : World C) → Way m i w es t b x → happens m x (TimesOut i) ≡ Ok y → Way m i w (es ++ TimesOut i ∷ []) (suc t) b y
  unfolding events_of
  way_timeout w es t b x y a h = record { recovery = a_timeout y a.recovery h; events = ap (λ l. l ++ TimesOut i ∷ []) a.events }

  pub way_beat : (w : World C) (es : List (Event C)) (t b : ℕ) (x y : World C) → Way m i w es t b x → happens m x (Beats i) ≡ Ok y → Way m i w (es ++ Beats i ∷ []) t (suc b) y
  unfolding events_of
  way_beat w es t b x y a h = record { recovery = a_beat y a.recovery h; events = ap (λ l. l ++ Beats i ∷ []) a.events }

  -- so many timeouts and beats
  way_count : (w : World C) (es : List (Event C)) (t b t2 b2 : ℕ) (x : World C) → t ≡ t2 → b ≡ b2 → Way m i w es t b x → Way m i w es t2 b2 x
  way_count w es t b t2 b2 x et eb a = subst (λ z. Way m i w es t2 z x) eb (subst (λ z. Way m i w es z b x) et a)

  way_events : (w : World C) (es fs : List (Event C)) (t b : ℕ) (x : World C) → es ≡ fs → Way m i w es t b x → Way m i w fs t b x
  way_events w es fs t b x e a = subst (λ z. Way m i w z t b x) e a

  -- one after another
  by_recovery : (w : World C) (es : List (Event C)) (t b : ℕ) (x : World C) → Way m i w es t b x → (t2 b2 : ℕ) (y : World C) (r : Recovery m i x t2 b2 y) → Way m i w (es ++ events_of m i x t2 b2 y r) (t + t2) (b + b2) y
  unfolding events_of
  by_recovery w es t b x a t2 b2 y no_event = way_count w (es ++ []) t b (t + t2) (b + b2) x (omega arith) (omega arith) (way_events w es (es ++ []) t b x (nil es) a)
    where
      nil : (l : List (Event C)) → l ≡ l ++ []
      nil [] = refl
      nil (e ∷ l) = ap (λ z. e ∷ z) (nil l)
  by_recovery w es t b x a t2 b2 y (a_delivery {t = t1} {b = b1} {x = u} place z r new h) =
      let old = by_recovery w es t b x a t1 b1 u r in
      let since : length w.sent ≤ length x.sent = recovery_sent m i w t b x a.recovery in
      way_events w ((es ++ events_of m i x t1 b1 u r) ++ Deliver place ∷ []) (es ++ (events_of m i x t1 b1 u r ++ Deliver place ∷ [])) (t + t1) (b + b1) y (append_assoc es (events_of m i x t1 b1 u r) (Deliver place ∷ []))
      (way_delivery w (es ++ events_of m i x t1 b1 u r) (t + t1) (b + b1) u place y old (omega (arith, since, new)) h)
  by_recovery w es t b x a t2 b2 y (a_timeout {t = t1} {b = b1} {x = u} z r h) =
      let old = by_recovery w es t b x a t1 b1 u r in
      way_count w _ (suc (t + t1)) (b + b1) (t + t2) (b + b2) y (omega arith) (omega arith)
      (way_events w ((es ++ events_of m i x t1 b1 u r) ++ TimesOut i ∷ []) (es ++ (events_of m i x t1 b1 u r ++ TimesOut i ∷ [])) (suc (t + t1)) (b + b1) y (append_assoc es (events_of m i x t1 b1 u r) (TimesOut i ∷ []))
      (way_timeout w (es ++ events_of m i x t1 b1 u r) (t + t1) (b + b1) u y old h))
  by_recovery w es t b x a t2 b2 y (a_beat {t = t1} {b = b1} {x = u} z r h) =
      let old = by_recovery w es t b x a t1 b1 u r in
      way_count w _ (t + t1) (suc (b + b1)) (t + t2) (b + b2) y (omega arith) (omega arith)
      (way_events w ((es ++ events_of m i x t1 b1 u r) ++ Beats i ∷ []) (es ++ (events_of m i x t1 b1 u r ++ Beats i ∷ [])) (t + t1) (suc (b + b1)) y (append_assoc es (events_of m i x t1 b1 u r) (Beats i ∷ []))
      (way_beat w (es ++ events_of m i x t1 b1 u r) (t + t1) (b + b1) u y old h))

  pub way_more : (w : World C) (es : List (Event C)) (t b : ℕ) (x : World C) (fs : List (Event C)) (t2 b2 : ℕ) (y : World C) → Way m i w es t b x → Way m i x fs t2 b2 y → Way m i w (es ++ fs) (t + t2) (b + b2) y
  way_more w es t b x fs t2 b2 y a c = subst (λ l. Way m i w (es ++ l) (t + t2) (b + b2) y) c.events (by_recovery w es t b x a t2 b2 y c.recovery)
