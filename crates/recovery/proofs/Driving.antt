-- What the events of a part of a run come to, as the value's runs go on.
use Rattle.std.proofs.Common.{◌≡◌, ℕ, suc, ◌+◌, ◌-◌, ◌*◌, ◌<◌, ◌≤◌, inl, inr, true, false, Bool, Some, Ok, List, [], ◌∷◌, ◌++◌, length, refl, sym, ap, ◌∙◌, subst, arith, slice_get, append_assoc, true≢false}
use Rattle.std.proofs.lemmas.Option.{same_Some}
use Rattle.rows.specs.GroupSizes.{IsGroup}
use Rattle.machine_model.specs.MachineSpec.{MachineSpec, LawfulMachine}
use Rattle.raft_model.specs.Messages.{Message}
use Rattle.raft_model.specs.Rafts.{Raft, is_leader}
use Rattle.raft_model.specs.Worlds.{World, Event, Deliver, TimesOut, Beats, happens, receiver}
use Rattle.raft_model.proofs.Cases.{same_ok}
use Rattle.raft_safety.proofs.Places.{get-some, get-within}
use Rattle.raft_progress.proofs.Moves.{Reached, reached_size, recovery_sent}
use Rattle.raft_progress.proofs.Rising.{lowered}
use Rattle.world.proofs.Recoveries.{two}
use Rattle.recovery.specs.declared.calm_event.CalmEvent.TheVariants as calms
use Rattle.recovery.specs.declared.unsettled.Unsettled.{Unsettled}
use Rattle.recovery.specs.declared.unsettled.Unsettled.TheVariants.{NoQuorum, Exhausted, NoMemory, Crashed}
use Rattle.recovery.specs.Runs.{is_up_in, Settles}
use Rattle.recovery.specs.Inner.Spreads.{Ready, Way, Came, CanSwap, CanExchange, SwapDone, not_up, both, CanBeatOrTimeOut, ActDone, it_beats, it_stands, SpreadSoFar, SpreadDone, LedDone, Leading, ConfirmSoFar, AppliedDone, AllApplied, Chosen, Highest, IsBehind, CanObserveNewerTerm, Risen, seat}
use Rattle.recovery.specs.Inner.Drives.{Drive, LawfulDrive, EverOf, Ever, EverAt, KnownOf, Known, KnownAt, Trail, Drove, WentOf, Went, WentAt, CanGo, HasGone, NothingYet, NotTaken, IsWithin, SwapStops, CameBy, Stops}
use Rattle.recovery.specs.Inner.Goings.{QuorumIsUp, RoomIsThere, WhyDriveUnsettled, leader_there, leads_in, ForServer, ForNobody, IsOf}
use Rattle.recovery.proofs.Spreads.{may_act}
use Rattle.recovery.proofs.Ways.{no_way, way_more, way_delivery}
use Rattle.recovery.proofs.Turns.{act_way, so_far_start, can_swap, so_far_more, so_far_done}
use Rattle.recovery.proofs.Rises.{level_risen, Tried, tried, can_act, came_level, Tell, told, came_told}
use Rattle.recovery.proofs.Finishes.{led_already, led_by, leading_then, confirm_start, confirm_more, confirm_ready, confirm_done, confirm_all, whole}
use Rattle.recovery.proofs.Goings.{nil_end, trail_one, trail_sent, trail_at, drove_none, drove_more, known_more, known_with, known_after, went_none, went_more, went_as, went_with, goes_none, goes_more, goes_as, goes_with, log_known_more, log_known_after, log_known_with, halts_as, halts_later}

-- A round so far, by places of all messages: those below this one were delivered, of those that were
-- sent before `end`.
pub record SpreadTold {V S C : Type 0} (m : MachineSpec S C) (d : Drive V S C) (i place end : ℕ) (ts : List d.Own) (w x : d.Moment) : Type 0 where
  pub below : ℕ
  pub all : ℕ
  pub at : place ≡ d.sent w + below
  pub ends : end ≡ d.sent w + all
  pub drove : Drove d ts w x (λ es y z. SpreadSoFar m i (length y.sent + below) (length y.sent + all) es y z)

module _ {V S C : Type 0} (m : MachineSpec S C) (d : Drive V S C) (dl : LawfulDrive m d) where
  -- ---- how far it came

  came_none : (i : ℕ) (w : World C) → Came m i [] w w
  came_none i w = record { timeouts = 0; beats = 0; way = no_way m i w }

  came_more : (i : ℕ) (es fs : List (Event C)) (w x v : World C) → Came m i es w x → Came m i fs x v → Came m i (es ++ fs) w v
  came_more i es fs w x v a b = record { timeouts = a.timeouts + b.timeouts; beats = a.beats + b.beats; way = way_more m i w es a.timeouts a.beats x fs b.timeouts b.beats v a.way b.way }

  still_came : (i : ℕ) (ts : List d.Own) (w v : d.Moment) → NothingYet d ts w v → CameBy d m i ts w v
  still_came i ts w v s = subst (λ l. CameBy d m i l w v) (sym s.0) (subst (λ z. CameBy d m i [] w z) (sym s.1) (drove_none m d dl w (λ es x y. Came m i es x y) (came_none i (d.log w))))

  -- memory was wanting for an event
  pub stops_at : (i : ℕ) (old new : V) (P : d.Moment → Type 0) (why : Unsettled) → KnownOf d old P → NotTaken d old new why → Stops d m i old new why
  stops_at i old new P why k h = halts_as m d dl (NothingYet d) (CameBy d m i) old new P why k (λ ts w v p s. still_came i ts w v s) h

  -- on the way from a later world
  pub stops_later : (i : ℕ) (old mid new : V) (P : World C → Type 0) (R : List (Event C) → World C → World C → Type 0) (why : Unsettled) → Known d old P → Went d old mid R →
      ((es : List (Event C)) (w x : World C) → Reached m (d.size old) w → P w → R es w x → Came m i es w x) → Stops d m i mid new why → Stops d m i old new why
  stops_later i old mid new P R why k g f h = halts_later m d dl (CameBy d m i) (CameBy d m i) old mid new (λ w. P (d.log w)) (λ ts w x. Drove d ts w x R) why k g
      (λ ts us w x v rw p a b. drove_more m d dl ts us w x v R (λ es x y. Came m i es x y) (λ es x y. Came m i es x y) a b
      (came_more i a.events b.events (d.log w) (d.log x) (d.log v) (f a.events (d.log w) (d.log x) rw p a.told) b.told)) h

  -- for a delivery and its answer
  pub stops_swap : (i : ℕ) (old mid new : V) (P : d.Moment → Type 0) (R : List d.Own → d.Moment → d.Moment → Type 0) (place : ℕ) (why : Unsettled) → KnownOf d old P → WentOf d old mid R →
      ((ts : List d.Own) (w x : d.Moment) → Reached m (d.size old) (d.log w) → P w → R ts w x → CameBy d m i ts w x × ((p : ℕ) × d.At x place p × (length (let y = d.log w in y.sent) ≤ p))) →
      SwapStops d place mid new why → Stops d m i old new why
  stops_swap i old mid new P R place why k g f h = halts_later m d dl (IsWithin d place) (CameBy d m i) old mid new P R why k g
      (λ ts us w x v rw p a b. within ts us w x v (f ts w x rw p a) b) h
    where
      within : (ts us : List d.Own) (w x v : d.Moment) → CameBy d m i ts w x × ((p : ℕ) × d.At x place p × (length (let y = d.log w in y.sent) ≤ p)) → IsWithin d place us x v → CameBy d m i (ts ++ us) w v
      within ts us w x v c (inl s) = subst (λ l. CameBy d m i l w v) (nil_end ts ∙ ap (λ l. ts ++ l) (sym s.0)) (subst (λ z. CameBy d m i ts w z) (sym s.1) c.0)
      within ts us w x v c (inr t) =
          let a = c.0 in
          let p = c.1.0 in
          let path = t p c.1.1 in
          let came = a.told in
          let b : Drove d us x v (λ es y z. es ≡ Deliver p ∷ []) = record { events = Deliver p ∷ []; path = path; told = refl } in
          drove_more m d dl ts us w x v (λ es x y. Came m i es x y) (λ es y z. es ≡ Deliver p ∷ []) (λ es x y. Came m i es x y) a b
          (record { timeouts = came.timeouts; beats = came.beats; way = way_delivery m i (d.log w) a.events came.timeouts came.beats (d.log x) p (d.log v) came.way c.1.2 (trail_one m d dl x us (Deliver p) v path) })

  -- ---- its own turn

  leads_at : (w : World C) (i : ℕ) (s : Raft C) (b : Bool) → slice_get w.servers i ≡ Some s → leads_in w i ≡ b → is_leader s.mode ≡ b
  leads_at w i s b here h = sym (ap (λ q. leader_there q) here) ∙ h

  module _ (old : V) (i : ℕ) (b : Bool) (k : Known d old (λ w. CanBeatOrTimeOut m i w)) (reads : Ever d old (λ w. b ≡ leads_in w i)) where
    pub beat_taken : b ≡ true → KnownOf d old (λ w. CanGo d m (calms.Beat i) i w)
    beat_taken is = record {
      past = k.past;
      moment = k.moment;
      runs = k.runs;
      ever = λ past w r.
          let c = k.ever past w r in
          let y = c.beats (leads_at (d.log w) i c.server true c.here (sym (reads past w r) ∙ is)) in
          (Beats i, refl, record { next = y.0; happens = y.1; actor = refl; other = λ h. h });
    }

    pub stand_taken : b ≡ false → KnownOf d old (λ w. CanGo d m (calms.Timeout i) i w)
    stand_taken is = record {
      past = k.past;
      moment = k.moment;
      runs = k.runs;
      ever = λ past w r.
          let c = k.ever past w r in
          let y = c.stands (leads_at (d.log w) i c.server false c.here (sym (reads past w r) ∙ is)) in
          (TimesOut i, refl, record { next = y.0; happens = y.1; actor = refl; other = λ h. h });
    }

    both_known : Known d old (λ w. CanBeatOrTimeOut m i w × (b ≡ leads_in w i))
    both_known = log_known_with m d dl old (λ w. CanBeatOrTimeOut m i w) (λ w. b ≡ leads_in w i) k reads

    pub beat_done : (new : V) → b ≡ true → WentOf d old new (λ ts w v. HasGone d (calms.Beat i) ts w v) → Went d old new (λ es w v. ActDone m i es w v)
    beat_done new is h = went_as m d dl old new (λ w. CanBeatOrTimeOut m i (d.log w) × (b ≡ leads_in (d.log w) i)) (λ ts w v. HasGone d (calms.Beat i) ts w v) (λ ts w v. Drove d ts w v (λ es x y. ActDone m i es x y)) both_known h (λ ts w v rw rv p t.
        let c = p.0 in
        let path = t (Beats i) refl in
        record {
          events = Beats i ∷ [];
          path = path;
          told = record { timeouts = 0; beats = 1; acted = it_beats c.server c.here (leads_at (d.log w) i c.server true c.here (sym p.1 ∙ is)) (trail_one m d dl w ts (Beats i) v path) };
        })

    pub stand_done : (new : V) → b ≡ false → WentOf d old new (λ ts w v. HasGone d (calms.Timeout i) ts w v) → Went d old new (λ es w v. ActDone m i es w v)
    stand_done new is h = went_as m d dl old new (λ w. CanBeatOrTimeOut m i (d.log w) × (b ≡ leads_in (d.log w) i)) (λ ts w v. HasGone d (calms.Timeout i) ts w v) (λ ts w v. Drove d ts w v (λ es x y. ActDone m i es x y)) both_known h (λ ts w v rw rv p t.
        let c = p.0 in
        let path = t (TimesOut i) refl in
        record {
          events = TimesOut i ∷ [];
          path = path;
          told = record { timeouts = 1; beats = 0; acted = it_stands c.server c.here (leads_at (d.log w) i c.server false c.here (sym p.1 ∙ is)) (trail_one m d dl w ts (TimesOut i) v path) };
        })

  -- memory was wanting for it
  pub own_stops : (old new : V) (i : ℕ) (why : Unsettled) → Known d old (λ w. CanBeatOrTimeOut m i w) → NotTaken d old new why → Stops d m i old new why
  own_stops old new i why k h = stops_at i old new (λ w. CanBeatOrTimeOut m i (d.log w)) why k h

  -- ---- a message and its answer

  module _ (old : V) (i place server : ℕ) (k : KnownAt d old place (λ p w. CanExchange m i p server w)) where
    pub request_taken : KnownOf d old (λ w. CanGo d m (calms.Deliver place) server w)
    request_taken = known_more m d dl old (λ w. (p : ℕ) × d.At w place p × CanExchange m i p server (d.log w)) (λ w. CanGo d m (calms.Deliver place) server w) k (λ w r c.
        let x = c.2 in
        let s = x.can in
        (Deliver c.0, (c.0, c.1, refl), record { next = s.first; happens = s.delivered; actor = ap (λ o. receiver m o) x.at ∙ ap (λ z. Some z) x.to; other = λ h. h }))

    pub request_stops : (new : V) (why : Unsettled) → NotTaken d old new why → SwapStops d place old new why
    request_stops new why h = halts_as m d dl (NothingYet d) (IsWithin d place) old new (λ w. (p : ℕ) × d.At w place p × CanExchange m i p server (d.log w)) why k (λ ts w v p s. inl s) h

    module _ (mid : V) (a : ℕ) (count : EverOf d old (λ w. a ≡ d.sent w)) (h : WentOf d old mid (λ ts w v. HasGone d (calms.Deliver place) ts w v)) where
      abbrev Told : d.Moment → Type 0
      Told w = ((p : ℕ) × d.At w place p × CanExchange m i p server (d.log w)) × (a ≡ d.sent w)

      with_count : KnownOf d old (λ w. Told w)
      with_count = known_with m d dl old (λ w. (p : ℕ) × d.At w place p × CanExchange m i p server (d.log w)) (λ w. a ≡ d.sent w) k count

      -- where the answer stands
      module _ (w x : d.Moment) (ts : List d.Own) (c : Told w) (t : HasGone d (calms.Deliver place) ts w x) where
        abbrev behind : ℕ
        behind = length (let y = d.log w in y.sent)

        path : Trail d w ts (Deliver c.0.0 ∷ []) x
        path = t (Deliver c.0.0) (c.0.0, c.0.1, refl)

        is : (let e = c.0.2 in let s = e.can in s.first) ≡ d.log x
        is = let e = c.0.2 in let s = e.can in same_ok _ _ (sym s.delivered ∙ trail_one m d dl w ts (Deliver c.0.0) x path)

        answer_at : slice_get (let y = d.log x in y.sent) behind ≡ Some (let e = c.0.2 in let s = e.can in s.answer)
        answer_at = let e = c.0.2 in let s = e.can in ap (λ (q : World C). slice_get q.sent behind) (sym is) ∙ s.answer_at

        takes : happens m (d.log x) (Deliver behind) ≡ Ok (let e = c.0.2 in let s = e.can in s.second)
        takes = let e = c.0.2 in let s = e.can in ap (λ q. happens m q (Deliver behind)) (sym is) ∙ s.heard

        there : d.At x a behind
        there =
            let e = c.0.2 in
            let s = e.can in
            let within = get-within (let y = d.log x in y.sent) behind s.answer answer_at in
            let here : d.sent w + 0 ≡ a = omega (arith, c.1) in
            let log_here : behind + 0 ≡ behind = omega arith in
            subst (λ q. d.At x q behind) here (subst (λ q. d.At x (d.sent w + 0) q) log_here (trail_at m d dl w ts (Deliver c.0.0 ∷ []) x path 0 (omega (arith, within, trail_sent m d dl w ts (Deliver c.0.0 ∷ []) x path))))

      pub answer_taken : KnownOf d mid (λ w. CanGo d m (calms.Deliver a) i w)
      answer_taken = known_after m d dl old mid (λ w. Told w) (λ x. CanGo d m (calms.Deliver a) i x) (λ ts w v. HasGone d (calms.Deliver place) ts w v) with_count h (λ ts w x rw rx c t.
          let e = c.0.2 in
          let s = e.can in (
            Deliver (behind w x ts c t),
            (behind w x ts c t, there w x ts c t, refl),
            record { next = s.second; happens = takes w x ts c t; actor = ap (λ o. receiver m o) (answer_at w x ts c t) ∙ ap (λ z. Some z) s.to_me; other = λ h2. h2 },
          ))

      pub exchange_done : (new : V) → WentOf d mid new (λ ts w v. HasGone d (calms.Deliver a) ts w v) → WentAt d place old new (λ p es w v. SwapDone m p w es v)
      exchange_done new h2 = went_more m d dl old mid new (λ w. Told w) (λ ts w v. HasGone d (calms.Deliver place) ts w v) (λ ts w v. HasGone d (calms.Deliver a) ts w v)
          (λ ts w v. (p : ℕ) → d.At w place p → Drove d ts w v (λ es x y. SwapDone m p x es y)) with_count h h2 (λ ts us w x v rw rx rv c t u q at.
          let e = c.0.2 in
          let first = path w x ts c t in
          let second = u (Deliver (behind w x ts c t)) (behind w x ts c t, there w x ts c t, refl) in
          let one : Drove d ts w x (λ es y z. es ≡ Deliver c.0.0 ∷ []) = record { events = Deliver c.0.0 ∷ []; path = first; told = refl } in
          let two : Drove d us x v (λ es y z. es ≡ Deliver (behind w x ts c t) ∷ []) = record { events = Deliver (behind w x ts c t) ∷ []; path = second; told = refl } in
          let up : is_up_in (d.log w) (let z = e.message in z.to) ≡ true = ap (is_up_in (d.log w)) e.to ∙ e.up in
          subst (λ p. Drove d (ts ++ us) w v (λ es x y. SwapDone m p x es y)) (dl.at_one w place c.0.0 q c.0.1 at)
          (drove_more m d dl ts us w x v (λ es y z. es ≡ Deliver c.0.0 ∷ []) (λ es y z. es ≡ Deliver (behind w x ts c t) ∷ []) (λ es x y. SwapDone m c.0.0 x es y) one two
          (both (d.log x) e.message e.at up (trail_one m d dl w ts (Deliver c.0.0) x first) (trail_one m d dl x us (Deliver (behind w x ts c t)) v second))))

      pub answer_stops : (new : V) (why : Unsettled) → NotTaken d mid new why → SwapStops d place old new why
      answer_stops new why nt = halts_later m d dl (NothingYet d) (IsWithin d place) old mid new (λ w. Told w) (λ ts w v. HasGone d (calms.Deliver place) ts w v) why with_count h (λ ts us w x v rw c t s.
          inr (λ q at. subst (λ l. Trail d w l (Deliver q ∷ []) v) (nil_end ts ∙ ap (λ l. ts ++ l) (sym s.0)) (subst (λ z. Trail d w ts (Deliver q ∷ []) z) (sym s.1) (t (Deliver q) (q, at, refl))))) nt

  pub swap_taken : (old : V) (i place server : ℕ) → KnownAt d old place (λ p w. CanSwap m i p w) → EverAt d old place (λ p w. ForServer p server w) → KnownAt d old place (λ p w. CanExchange m i p server w)
  swap_taken old i place server k f = record {
    past = k.past;
    moment = k.moment;
    runs = k.runs;
    ever = λ past w r.
        let c = k.ever past w r in
        let a = c.2 in
        let t = f past w r c.0 c.1 a.message a.at in
        (c.0, c.1, record { message = a.message; at = a.at; to = t.0; up = t.1; can = a.can (ap (is_up_in (d.log w)) t.0 ∙ t.1) });
  }

  pub swap_none : (old : V) (i place : ℕ) → KnownAt d old place (λ p w. CanSwap m i p w) → EverAt d old place (λ p w. ForNobody p w) → WentAt d place old old (λ p es w v. SwapDone m p w es v)
  swap_none old i place k f = went_none m d dl old (λ ts w v. (p : ℕ) → d.At w place p → Drove d ts w v (λ es x y. SwapDone m p x es y))
      (λ w. ((p : ℕ) × d.At w place p × CanSwap m i p (d.log w)) × ((p : ℕ) → d.At w place p → ForNobody p (d.log w)))
      (known_with m d dl old (λ w. (p : ℕ) × d.At w place p × CanSwap m i p (d.log w)) (λ w. (p : ℕ) → d.At w place p → ForNobody p (d.log w)) k f)
      (λ w r c q at.
      let a = c.0.2 in
      let here : SwapDone m c.0.0 (d.log w) [] (d.log w) = not_up a.message a.at (c.1 c.0.0 c.0.1 a.message a.at) in
      subst (λ p. Drove d [] w w (λ es x y. SwapDone m p x es y)) (dl.at_one w place c.0.0 q c.0.1 at) (drove_none m d dl w (λ es x y. SwapDone m c.0.0 x es y) here))

  -- ---- a round

  module _ (law : LawfulMachine m) (old : V) (group : IsGroup (d.size old)) (i first : ℕ) (count : EverOf d old (λ w. first ≡ d.sent w)) (k : Known d old (λ w. Ready (d.size old) i w)) where
    abbrev n : ℕ
    n = d.size old

    abbrev AtFirst : d.Moment → Type 0
    AtFirst w = Ready n i (d.log w) × (first ≡ d.sent w)

    from : KnownOf d old (λ w. AtFirst w)
    from = known_with m d dl old (λ w. Ready n i (d.log w)) (λ w. first ≡ d.sent w) k count

    pub may_begin : Known d old (λ w. CanBeatOrTimeOut m i w)
    may_begin = log_known_more m d dl old (λ w. Ready n i w) (λ w. CanBeatOrTimeOut m i w) k (λ w r p. may_act m law n (two n group) i w r p)

    pub spread_init : (mid : V) (end : ℕ) → EverOf d mid (λ v. end ≡ d.sent v) → Went d old mid (λ es w v. ActDone m i es w v) → WentOf d old mid (λ ts w v. SpreadTold m d i first end ts w v)
    spread_init mid end e g = went_as m d dl old mid (λ w. AtFirst w) (λ ts w v. Drove d ts w v (λ es x y. ActDone m i es x y) × (end ≡ d.sent v)) (λ ts w v. SpreadTold m d i first end ts w v) from
        (went_with m d dl old mid (λ ts w v. Drove d ts w v (λ es x y. ActDone m i es x y)) (λ v. end ≡ d.sent v) g e)
        (λ ts w v rw rv p c.
        let a = c.0 in
        let s = so_far_start m law n (two n group) i (d.log w) rw p.0 a.events (d.log v) a.told in
        let way = s.way in
        let grown = recovery_sent m i (d.log w) s.timeouts s.beats (d.log v) way.recovery in
        let x : World C = d.log w in
        let y : World C = d.log v in
        let start : length x.sent ≡ length x.sent + 0 = omega arith in
        let stop : length y.sent ≡ length x.sent + (length y.sent - length x.sent) = omega (arith, grown) in
        record {
          below = 0;
          all = length y.sent - length x.sent;
          at = omega (arith, p.1);
          ends = omega (arith, c.1, grown, trail_sent m d dl w ts a.events v a.path);
          drove = record {
            events = a.events;
            path = a.path;
            told = subst (λ q. SpreadSoFar m i q (length x.sent + (length y.sent - length x.sent)) a.events x y) start (subst (λ q. SpreadSoFar m i (length x.sent) q a.events x y) stop s);
          };
        })

    module _ (mid : V) (place end : ℕ) (g : WentOf d old mid (λ ts w v. SpreadTold m d i place end ts w v)) where
      -- the next message, by its place in the log
      module _ (less : place < end) (ts : List d.Own) (w x : d.Moment) (rw : Reached m n (d.log w)) (p : AtFirst w) (c : SpreadTold m d i place end ts w x) where
        abbrev its_place : ℕ
        its_place = length (let y = d.log w in y.sent) + c.below

        may_swap : CanSwap m i its_place (d.log x)
        may_swap =
            let a = c.drove in
            can_swap m law n (two n group) i (d.log w) rw p.0 its_place (length (let y = d.log w in y.sent) + c.all) a.events (d.log x) a.told (omega arith) (omega (arith, less, c.at, c.ends))

        stands : d.At x place its_place
        stands =
            let a = c.drove in
            let s = may_swap in
            let within = get-within (let y = d.log x in y.sent) its_place s.message s.at in
            subst (λ q. d.At x q its_place) (sym c.at) (trail_at m d dl w ts a.events x a.path c.below (omega (arith, within, trail_sent m d dl w ts a.events x a.path)))

      pub spread_can : place < end → KnownAt d mid place (λ p w. CanSwap m i p w)
      spread_can less = known_after m d dl old mid (λ w. AtFirst w) (λ x. (p : ℕ) × d.At x place p × CanSwap m i p (d.log x)) (λ ts w v. SpreadTold m d i place end ts w v) from g
          (λ ts w x rw rx p c. (its_place less ts w x rw p c, stands less ts w x rw p c, may_swap less ts w x rw p c))

      pub spread_more : place < end → (then : V) → WentAt d place mid then (λ p es w v. SwapDone m p w es v) → WentOf d old then (λ ts w v. SpreadTold m d i (place + 1) end ts w v)
      spread_more less then h = went_more m d dl old mid then (λ w. AtFirst w) (λ ts w v. SpreadTold m d i place end ts w v) (λ ts w v. (p : ℕ) → d.At w place p → Drove d ts w v (λ es x y. SwapDone m p x es y)) (λ ts w v. SpreadTold m d i (place + 1) end ts w v) from g h
          (λ ts us w x v rw rx rv p c t.
          let q = its_place less ts w x rw p c in
          let a = c.drove in
          let b = t q (stands less ts w x rw p c) in
          let y : World C = d.log w in
          let next : suc q ≡ length y.sent + (c.below + 1) = omega arith in
          record {
            below = c.below + 1;
            all = c.all;
            at = omega (arith, c.at);
            ends = c.ends;
            drove = drove_more m d dl ts us w x v (λ es y z. SpreadSoFar m i (length y.sent + c.below) (length y.sent + c.all) es y z) (λ es x y. SwapDone m q x es y) (λ es y z. SpreadSoFar m i (length y.sent + (c.below + 1)) (length y.sent + c.all) es y z) a b
                (subst (λ z. SpreadSoFar m i z (length y.sent + c.all) (a.events ++ b.events) y (d.log v)) next
                (so_far_more m law n (two n group) i y rw p.0 q (length y.sent + c.all) a.events (d.log x) a.told (omega arith) (omega (arith, less, c.at, c.ends)) b.events (d.log v) b.told));
          })

      pub spread_end : end ≤ place → Went d old mid (λ es w v. SpreadDone m n i es w v)
      spread_end done = went_as m d dl old mid (λ w. AtFirst w) (λ ts w v. SpreadTold m d i place end ts w v) (λ ts w v. Drove d ts w v (λ es x y. SpreadDone m n i es x y)) from g
          (λ ts w v rw rv p c.
          let a = c.drove in
          let y : World C = d.log w in
          record { events = a.events; path = a.path; told = so_far_done m law n (two n group) i y rw p.0 (length y.sent + c.below) (length y.sent + c.all) a.events (d.log v) a.told (omega (arith, done, c.at, c.ends)) })

      pub spread_stops : place < end → (then : V) (why : Unsettled) → SwapStops d place mid then why → Stops d m i old then why
      spread_stops less then why h = stops_swap i old mid then (λ w. AtFirst w) (λ ts w v. SpreadTold m d i place end ts w v) place why from g
          (λ ts w x rw p c.
          let a = c.drove in
          let s = a.told in (
            record { events = a.events; path = a.path; told = record { timeouts = s.timeouts; beats = s.beats; way = s.way } },
            (its_place less ts w x rw p c, stands less ts w x rw p c, omega arith),
          )) h

  -- ---- it leads

  module _ (old : V) (i : ℕ) (b : Bool) (k : Known d old (λ w. Ready (d.size old) i w)) (reads : Ever d old (λ w. b ≡ leads_in w i)) where
    with_reads : Known d old (λ w. Ready (d.size old) i w × (b ≡ leads_in w i))
    with_reads = log_known_with m d dl old (λ w. Ready (d.size old) i w) (λ w. b ≡ leads_in w i) k reads

    pub lead_already : b ≡ true → Went d old old (λ es w v. LedDone m (d.size old) i es w v)
    lead_already is = goes_none m d dl old (λ es w v. LedDone m (d.size old) i es w v) (λ w. Ready (d.size old) i w × (b ≡ leads_in w i)) with_reads (λ w r p.
        let a = p.0 in
        let s = get-some w.servers i (omega (arith, a.less, reached_size m (d.size old) w r)) in
        led_already m (d.size old) i w a s.0 s.1 (leads_at w i s.0 true s.1 (sym p.1 ∙ is)))

    pub lead_by : (new : V) → b ≡ false → Went d old new (λ es w v. SpreadDone m (d.size old) i es w v) → Went d old new (λ es w v. LedDone m (d.size old) i es w v)
    lead_by new is g = goes_as m d dl old new (λ w. Ready (d.size old) i w × (b ≡ leads_in w i)) (λ es w v. SpreadDone m (d.size old) i es w v) (λ es w v. LedDone m (d.size old) i es w v) with_reads g (λ es w v rw rv p c.
        let a = p.0 in
        let s = get-some w.servers i (omega (arith, a.less, reached_size m (d.size old) w rw)) in
        led_by m (d.size old) i w v es s.0 s.1 (leads_at w i s.0 false s.1 (sym p.1 ∙ is)) c)

  -- ---- it leads on

  module _ (law : LawfulMachine m) (old : V) (group : IsGroup (d.size old)) (i last : ℕ) (reads : Ever d old (λ w. IsOf (λ s. length s.log) i last w)) (k : Known d old (λ w. Leading (d.size old) i w)) where
    abbrev size_of : ℕ
    size_of = d.size old

    abbrev Before : World C → Type 0
    Before w = Leading size_of i w × IsOf (λ s. length s.log) i last w

    from_there : Known d old (λ w. Before w)
    from_there = log_known_with m d dl old (λ w. Leading size_of i w) (λ w. IsOf (λ s. length s.log) i last w) k reads

    pub confirm_init : Went d old old (λ es w v. ConfirmSoFar m size_of i 0 es w v)
    confirm_init = goes_none m d dl old (λ es w v. ConfirmSoFar m size_of i 0 es w v) (λ w. Leading size_of i w) k (λ w r p. confirm_start m law size_of (two size_of group) i w r p)

    module _ (mid : V) (rounds : ℕ) (g : Went d old mid (λ es w v. ConfirmSoFar m size_of i rounds es w v)) where
      pub confirm_may : Known d mid (λ w. Ready (d.size mid) i w)
      confirm_may =
          let one = g.1 in
          subst (λ q. Known d mid (λ w. Ready q i w)) (sym one.size) (log_known_after m d dl old mid (λ w. Leading size_of i w) (λ w. Ready size_of i w) (λ es w v. ConfirmSoFar m size_of i rounds es w v) k g
          (λ es w v rw rv p c. confirm_ready m law size_of (two size_of group) i w rw p rounds es v c))

      pub confirm_round : (then : V) → Went d mid then (λ es w v. SpreadDone m (d.size mid) i es w v) → Went d old then (λ es w v. ConfirmSoFar m size_of i (rounds + 1) es w v)
      confirm_round then h =
          let one = g.1 in
          goes_more m d dl old mid then (λ w. Leading size_of i w) (λ es w v. ConfirmSoFar m size_of i rounds es w v) (λ es w v. SpreadDone m size_of i es w v) (λ es w v. ConfirmSoFar m size_of i (rounds + 1) es w v) k g
          (subst (λ q. Went d mid then (λ es w v. SpreadDone m q i es w v)) one.size h)
          (λ es fs w x v rw rx rv p c e. subst (λ q. ConfirmSoFar m size_of i q (es ++ fs) w v) (let z : suc rounds ≡ rounds + 1 = omega arith in z) (confirm_more m law size_of (two size_of group) i w rw p rounds es x c fs v e))

      few_for : (w : World C) → Before w → rounds ≤ 2 * last + 2 → (s : Raft C) → slice_get w.servers i ≡ Some s → rounds ≤ 2 * length s.log + 2
      few_for w p few s at = omega (arith, few, p.1 s at)

      pub confirm_applied : rounds ≤ 2 * last + 2 → Ever d mid (λ w. AllApplied i w) → Went d old mid (λ es w v. AppliedDone m i es w v)
      confirm_applied few all = goes_as m d dl old mid (λ w. Before w) (λ es w v. ConfirmSoFar m size_of i rounds es w v × AllApplied i v) (λ es w v. AppliedDone m i es w v) from_there
          (goes_with m d dl old mid (λ es w v. ConfirmSoFar m size_of i rounds es w v) (λ v. AllApplied i v) g all)
          (λ es w v rw rv p c. confirm_done m law size_of (two size_of group) i w rw p.0 rounds es v c.0 (few_for w p few) c.1)

      pub confirm_end : rounds ≡ 2 * last + 2 → Went d old mid (λ es w v. AppliedDone m i es w v)
      confirm_end all = goes_as m d dl old mid (λ w. Before w) (λ es w v. ConfirmSoFar m size_of i rounds es w v) (λ es w v. AppliedDone m i es w v) from_there g
          (λ es w v rw rv p c.
          let a = p.0 in
          let l = a.leads in
          confirm_done m law size_of (two size_of group) i w rw p.0 rounds es v c (few_for w p (omega (arith, all)))
          (confirm_all m law size_of (two size_of group) i w rw p.0 rounds es v c l.server l.here rv (omega (arith, all, p.1 l.server l.here))))

      pub confirm_stops : (then : V) (why : Unsettled) → Stops d m i mid then why → Stops d m i old then why
      confirm_stops then why h = stops_later i old mid then (λ w. Leading size_of i w) (λ es w v. ConfirmSoFar m size_of i rounds es w v) why k g
          (λ es w v rw p c. record { timeouts = 0; beats = rounds; way = c.way }) h

  -- ---- it hears of the greatest term

  pub risen_already : (old : V) (i k : ℕ) → Known d old (λ w. Chosen (d.size old) i w) → Ever d old (λ w. Highest (d.size old) k w) → Ever d old (λ w. IsBehind i k w → ⊥) → Went d old old (λ es w v. Risen m (d.size old) i w es v)
  risen_already old i k c high level = goes_none m d dl old (λ es w v. Risen m (d.size old) i w es v) (λ w. (Chosen (d.size old) i w × Highest (d.size old) k w) × (IsBehind i k w → ⊥))
      (log_known_with m d dl old (λ w. Chosen (d.size old) i w × Highest (d.size old) k w) (λ w. IsBehind i k w → ⊥) (log_known_with m d dl old (λ w. Chosen (d.size old) i w) (λ w. Highest (d.size old) k w) c high) level)
      (λ w r p. let a = p.0.0 in level_risen m (d.size old) i a.less w r p.0.0 k p.0.1 p.1)

  pub hear_known : (old : V) (i k : ℕ) → Known d old (λ w. Chosen (d.size old) i w) → Ever d old (λ w. Highest (d.size old) k w) → Ever d old (λ w. IsBehind i k w) → Known d old (λ w. CanObserveNewerTerm (d.size old) i k w)
  hear_known old i k c high behind = record { past = c.past; moment = c.moment; runs = c.runs; ever = λ past w r. record { chosen = c.ever past w r; high = high past w r; behind = behind past w r } }

  module _ (n i k : ℕ) (w : World C) (r : Reached m n w) (c : CanObserveNewerTerm n i k w) where
    sv : (s : Raft C) × (slice_get w.servers i ≡ Some s)
    sv = let a = c.chosen in get-some w.servers i (omega (arith, a.less, reached_size m n w r))

    zv : (s : Raft C) × (slice_get w.servers k ≡ Some s)
    zv = let a = c.high in get-some w.servers k (omega (arith, a.less, reached_size m n w r))

    low : (sv.0).term < (zv.0).term
    low = c.behind sv.0 zv.0 sv.1 zv.1

    less_i : i < n
    less_i = let a = c.chosen in a.less

    abbrev TriedBy : List (Event C) → ℕ → ℕ → World C → Type 0
    TriedBy es t b y = Tried m n i less_i w r c.chosen sv.0 sv.1 k c.high zv.0 zv.1 low es t b y

    pub hears_act : CanBeatOrTimeOut m i w
    hears_act = let a = can_act m n i less_i w r c.chosen sv.0 sv.1 k c.high zv.0 zv.1 low in record { server = sv.0; here = sv.1; beats = a.0; stands = a.1 }

    module _ (es : List (Event C)) (y : World C) (done : ActDone m i es w y) where
      after : TriedBy es done.timeouts done.beats y
      after = tried m n i less_i w r c.chosen sv.0 sv.1 k c.high zv.0 zv.1 low es done.timeouts done.beats y done.acted

      pub hears_level : (IsBehind i k y → ⊥) → Risen m n i w es y
      hears_level level = came_level m n i less_i w r c.chosen sv.0 sv.1 k c.high zv.0 zv.1 low es done.timeouts done.beats y after level

      module _ (behind : IsBehind i k y) where
        tells_it : Tell m n i less_i (length w.sent + seat i k) y (lowered (let a = after in a.now) ((zv.0).term))
        tells_it = told m n i less_i w r c.chosen sv.0 sv.1 k c.high zv.0 zv.1 low es done.timeouts done.beats y after behind

        pub hears_exchange : CanExchange m i (length w.sent + seat i k) k y
        hears_exchange =
            let a = after in
            let h = c.high in
            let t = tells_it in
            record { message = record { from = i; to = k; term = a.now.term; body = a.body }; at = a.asked; to = refl; up = a.same k ∙ h.up; can = t.can }

        pub hears_told : (fs : List (Event C)) (v : World C) → SwapDone m (length w.sent + seat i k) y fs v → Risen m n i w (es ++ fs) v
        hears_told fs v (not_up z at down) =
            let e = hears_exchange in
            let same : z ≡ e.message = same_Some z e.message (sym at ∙ e.at) in
            absurd (true≢false (sym e.up ∙ (ap (is_up_in y) (sym e.to) ∙ (ap (λ (q : Message C). is_up_in y q.to) (sym same) ∙ down))))
        hears_told fs v (both first z at up h1 h2) = came_told m n i less_i w r c.chosen sv.0 sv.1 k c.high zv.0 zv.1 low es done.timeouts done.beats y after behind first v h1 h2

  module _ (old : V) (i k first : ℕ) (count : EverOf d old (λ w. first ≡ d.sent w)) (c : Known d old (λ w. CanObserveNewerTerm (d.size old) i k w)) where
    abbrev heard_n : ℕ
    heard_n = d.size old

    abbrev Hearing : d.Moment → Type 0
    Hearing w = CanObserveNewerTerm heard_n i k (d.log w) × (first ≡ d.sent w)

    hearing : KnownOf d old (λ w. Hearing w)
    hearing = known_with m d dl old (λ w. CanObserveNewerTerm heard_n i k (d.log w)) (λ w. first ≡ d.sent w) c count

    pub hear_act : Known d old (λ w. CanBeatOrTimeOut m i w)
    hear_act = log_known_more m d dl old (λ w. CanObserveNewerTerm heard_n i k w) (λ w. CanBeatOrTimeOut m i w) c (λ w r p. hears_act heard_n i k w r p)

    module _ (mid : V) (g : Went d old mid (λ es w v. ActDone m i es w v)) where
      pub hear_within : (i < d.size mid) × (k < d.size mid)
      hear_within =
          let one = g.1 in
          let p = c.ever c.past c.moment c.runs in
          let a = p.chosen in
          let b = p.high in
          (omega (arith, a.less, one.size), omega (arith, b.less, one.size))

      pub hear_level : Ever d mid (λ v. IsBehind i k v → ⊥) → Went d old mid (λ es w v. Risen m heard_n i w es v)
      hear_level level = goes_as m d dl old mid (λ w. CanObserveNewerTerm heard_n i k w) (λ es w v. ActDone m i es w v × (IsBehind i k v → ⊥)) (λ es w v. Risen m heard_n i w es v) c
          (goes_with m d dl old mid (λ es w v. ActDone m i es w v) (λ v. IsBehind i k v → ⊥) g level)
          (λ es w v rw rv p e. hears_level heard_n i k w rw p es v e.0 e.1)

      module _ (behind : Ever d mid (λ v. IsBehind i k v)) where
        abbrev place : ℕ
        place = first + seat i k

        went_on : Went d old mid (λ es w v. ActDone m i es w v × IsBehind i k v)
        went_on = goes_with m d dl old mid (λ es w v. ActDone m i es w v) (λ v. IsBehind i k v) g behind

        -- the message, by its place in the log
        module _ (ts : List d.Own) (w v : d.Moment) (rw : Reached m heard_n (d.log w)) (p : Hearing w) (a : Drove d ts w v (λ es x y. ActDone m i es x y × IsBehind i k y)) where
          abbrev log_place : ℕ
          log_place = length (let y = d.log w in y.sent) + seat i k

          may_exchange : CanExchange m i log_place k (d.log v)
          may_exchange = hears_exchange heard_n i k (d.log w) rw p.0 a.events (d.log v) a.told.0 a.told.1

          within : d.sent w + seat i k < d.sent v
          within =
              let e = may_exchange in
              let here = get-within (let y = d.log v in y.sent) log_place e.message e.at in
              omega (arith, here, trail_sent m d dl w ts a.events v a.path)

          asked_at : d.At v place log_place
          asked_at = let same : d.sent w + seat i k ≡ place = omega (arith, p.1) in subst (λ q. d.At v q log_place) same (trail_at m d dl w ts a.events v a.path (seat i k) within)

        pub hear_exchange : KnownAt d mid place (λ p v. CanExchange m i p k v)
        hear_exchange = known_after m d dl old mid (λ w. Hearing w) (λ v. (p : ℕ) × d.At v place p × CanExchange m i p k (d.log v)) (λ ts w v. Drove d ts w v (λ es x y. ActDone m i es x y × IsBehind i k y)) hearing went_on
            (λ ts w v rw rv p a. (log_place ts w v rw p a, asked_at ts w v rw p a, may_exchange ts w v rw p a))

        pub hear_place : (end : ℕ) → EverOf d mid (λ v. end ≡ d.sent v) → place < end
        hear_place end e =
            let q = known_after m d dl old mid (λ w. Hearing w) (λ v. place < d.sent v) (λ ts w v. Drove d ts w v (λ es x y. ActDone m i es x y × IsBehind i k y)) hearing went_on (λ ts w v rw rv p a. omega (arith, p.1, within ts w v rw p a)) in
            omega (arith, q.ever q.past q.moment q.runs, e q.past q.moment q.runs)

        pub hear_told : (new : V) → WentAt d place mid new (λ p es w v. SwapDone m p w es v) → Went d old new (λ es w v. Risen m heard_n i w es v)
        hear_told new h = went_more m d dl old mid new (λ w. Hearing w) (λ ts w v. Drove d ts w v (λ es x y. ActDone m i es x y × IsBehind i k y)) (λ ts w v. (p : ℕ) → d.At w place p → Drove d ts w v (λ es x y. SwapDone m p x es y))
            (λ ts w v. Drove d ts w v (λ es x y. Risen m heard_n i x es y)) hearing went_on h
            (λ ts us w x v rw rx rv p a t.
            let q = log_place ts w x rw p a in
            let b = t q (asked_at ts w x rw p a) in
            drove_more m d dl ts us w x v (λ es x y. ActDone m i es x y × IsBehind i k y) (λ es x y. SwapDone m q x es y) (λ es x y. Risen m heard_n i x es y) a b
            (hears_told heard_n i k (d.log w) rw p.0 a.events (d.log x) a.told.0 a.told.1 b.events (d.log v) b.told))

        pub hear_stops : (new : V) (why : Unsettled) → SwapStops d place mid new why → Stops d m i old new why
        hear_stops new why h = stops_swap i old mid new (λ w. Hearing w) (λ ts w v. Drove d ts w v (λ es x y. ActDone m i es x y × IsBehind i k y)) place why hearing went_on
            (λ ts w x rw p a.
            let done = a.told.0 in (
              record { events = a.events; path = a.path; told = record { timeouts = done.timeouts; beats = done.beats; way = act_way m i (d.log w) a.events done.timeouts done.beats (d.log x) done.acted } },
              (log_place ts w x rw p a, asked_at ts w x rw p a, omega arith),
            )) h

  -- ---- all of it

  module _ (law : LawfulMachine m) (old : V) (group : IsGroup (d.size old)) (i : ℕ) (k : Known d old (λ w. Chosen (d.size old) i w)) where
    abbrev all_n : ℕ
    all_n = d.size old

    module _ (mid : V) (g : Went d old mid (λ es w v. Risen m all_n i w es v)) where
      pub then_ready : Known d mid (λ w. Ready (d.size mid) i w)
      then_ready =
          let one = g.1 in
          subst (λ q. Known d mid (λ w. Ready q i w)) (sym one.size) (log_known_after m d dl old mid (λ w. Chosen all_n i w) (λ w. Ready all_n i w) (λ es w v. Risen m all_n i w es v) k g (λ es w v rw rv p c. let a = c.ready in a))

      pub rise_stops : (new : V) (why : Unsettled) → Stops d m i mid new why → Stops d m i old new why
      rise_stops new why h = stops_later i old mid new (λ w. Chosen all_n i w) (λ es w v. Risen m all_n i w es v) why k g (λ es w v rw p a. record { timeouts = a.timeouts; beats = a.beats; way = a.way }) h

      module _ (last : V) (h : Went d mid last (λ es w v. LedDone m (d.size mid) i es w v)) where
        abbrev BothParts : List (Event C) → World C → World C → Type 0
        BothParts es w v = (x : World C) × (fs : List (Event C)) × (gs : List (Event C)) × Risen m all_n i w fs x × LedDone m all_n i gs x v × (es ≡ fs ++ gs)

        both_parts : Went d old last (λ es w v. BothParts es w v)
        both_parts =
            let one = g.1 in
            goes_more m d dl old mid last (λ w. Chosen all_n i w) (λ es w v. Risen m all_n i w es v) (λ es w v. LedDone m all_n i es w v) (λ es w v. BothParts es w v) k g
            (subst (λ q. Went d mid last (λ es w v. LedDone m q i es w v)) one.size h)
            (λ es fs w x v rw rx rv p a b. (x, es, fs, a, b, refl))

        pub then_leading : Known d last (λ w. Leading (d.size last) i w)
        then_leading =
            let one = both_parts.1 in
            subst (λ q. Known d last (λ w. Leading q i w)) (sym one.size) (log_known_after m d dl old last (λ w. Chosen all_n i w) (λ w. Leading all_n i w) (λ es w v. BothParts es w v) k both_parts (λ es w v rw rv p c. leading_then m all_n i c.0 v c.2 c.4))

        pub lead_stops : (new : V) (why : Unsettled) → Stops d m i last new why → Stops d m i old new why
        lead_stops new why q = stops_later i old last new (λ w. Chosen all_n i w) (λ es w v. BothParts es w v) why k both_parts (λ es w v rw p c.
            let a = c.3 in
            let b = c.4 in
            let way = way_more m i w c.1 a.timeouts a.beats c.0 c.2 b.timeouts 0 v a.way b.way in
            record { timeouts = a.timeouts + b.timeouts; beats = a.beats + 0; way = subst (λ l. Way m i w l (a.timeouts + b.timeouts) (a.beats + 0) v) (sym c.5) way }) q

        pub settles : (new : V) → Went d last new (λ es w v. AppliedDone m i es w v) → Went d old new (λ es w v. Settles m all_n i es w v)
        settles new q = goes_more m d dl old last new (λ w. Chosen all_n i w) (λ es w v. BothParts es w v) (λ es w v. AppliedDone m i es w v) (λ es w v. Settles m all_n i es w v) k both_parts q
            (λ es fs w x v rw rx rv p c e.
            subst (λ l. Settles m all_n i l w v) (sym (append_assoc c.1 c.2 fs) ∙ ap (λ l. l ++ fs) (sym c.5))
            (whole m law all_n group i w rw p c.1 c.2 fs c.0 x v rv c.3 c.4 e))

  -- ---- what is answered

  pub halted_at : (old new : V) (i : ℕ) (why : Unsettled) → QuorumIsUp d old → RoomIsThere d old → Stops d m i old new why → WhyDriveUnsettled d m old new why
  halted_at old new i NoQuorum q r h = absurd h
  halted_at old new i Exhausted q r h = absurd h
  halted_at old new i NoMemory q r h = record { quorum = q; room = r; who = i; stops = h }
  halted_at old new i (Crashed j) q r h = record { quorum = q; room = r; who = i; stops = h }
