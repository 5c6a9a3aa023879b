-- A round of server i, place by place.
use Rattle.std.proofs.Common.{◌≡◌, ℕ, suc, ◌<◌, ◌≤◌, inl, inr, Some, List, [], ◌∷◌, ◌++◌, length, refl, sym, ap, ◌∙◌, subst, arith, slice_get, append_assoc, true≢false}
use Rattle.std.proofs.lemmas.Option.{same_Some}
use Rattle.machine_model.specs.MachineSpec.{MachineSpec, LawfulMachine}
use Rattle.raft_model.specs.Messages.{Message}
use Rattle.raft_model.specs.Rafts.{Raft, is_leader}
use Rattle.raft_model.specs.Worlds.{World, Event, Deliver}
use Rattle.raft_safety.proofs.Places.{get-some, get-within}
use Rattle.raft_progress.proofs.Moves.{Reached}
use Rattle.raft_progress.proofs.Goes.{calm_sent}
use Rattle.recovery.specs.Runs.{is_up_in}
use Rattle.recovery.specs.Inner.Spreads.{Ready, Way, HasBeatOrTimedOut, it_beats, it_stands, CanSwap, SwapDone, not_up, both, ActDone, SpreadSoFar, RoundTakes, SpreadDone}
use Rattle.recovery.proofs.Spreads.{Opened, opened, going_start, swap_at, going_swap, going_past, spread}
use Rattle.recovery.proofs.Ways.{no_way, way_delivery, way_timeout, way_beat}

module _ {S C : Type 0} (m : MachineSpec S C) (i : ℕ) (w : World C) where
  -- the events of the server's own turn
  pub act_way : (es : List (Event C)) (t b : ℕ) (y : World C) → HasBeatOrTimedOut m i w es t b y → Way m i w es t b y
  act_way es t b y (it_beats s here leads h) = way_beat m i w [] 0 0 w y (no_way m i w) h
  act_way es t b y (it_stands s here not h) = way_timeout m i w [] 0 0 w y (no_way m i w) h

  act_kind : (es : List (Event C)) (t b : ℕ) (y : World C) → HasBeatOrTimedOut m i w es t b y → RoundTakes i w t b
  act_kind es t b y (it_beats s here leads h) a at = inl (ap (λ (z : Raft C). is_leader z.mode) (same_Some a s (sym at ∙ here)) ∙ leads, refl, refl)
  act_kind es t b y (it_stands s here not h) a at = inr (ap (λ (z : Raft C). is_leader z.mode) (same_Some a s (sym at ∙ here)) ∙ not, refl, refl)

module _ {S C : Type 0} (m : MachineSpec S C) (law : LawfulMachine m) (n : ℕ) (two : 2 ≤ n) (i : ℕ) (w : World C) (r : Reached m n w) (ready : Ready n i w) where
  pub so_far_start : (es : List (Event C)) (y : World C) → ActDone m i es w y → SpreadSoFar m i (length w.sent) (length y.sent) es w y
  so_far_start es y a = record {
    opened = y;
    own = es;
    timeouts = a.timeouts;
    beats = a.beats;
    acted = a.acted;
    ends = refl;
    going = going_start m law n two i w r ready y (opened m law n two i w r ready es a.timeouts a.beats y a.acted);
    way = act_way m i w es a.timeouts a.beats y a.acted;
  }

  module _ (place end : ℕ) (es : List (Event C)) (x : World C) (a : SpreadSoFar m i place end es w x) where
    o : Opened m law n two i w r ready a.opened
    o = opened m law n two i w r ready a.own a.timeouts a.beats a.opened a.acted

    -- who is up now was up
    same : (k : ℕ) → is_up_in x k ≡ is_up_in w k
    same k = let g = a.going in g.up k ∙ o.up k

    module _ (new : length w.sent ≤ place) (less : place < end) where
      message : (z : Message C) × (slice_get (let y = a.opened in y.sent) place ≡ Some z)
      message = let y = a.opened in get-some y.sent place (omega (arith, less, a.ends))

      at_x : slice_get x.sent place ≡ Some message.0
      at_x = let g = a.going in calm_sent m law n two (is_up_in w) ready.quorum i ready.less ready.up (length w.sent) a.opened x place message.0 g.calm message.1

      pub can_swap : CanSwap m i place x
      can_swap = record {
        message = message.0;
        at = at_x;
        can = λ up.
            let s = swap_at m law n two i w r ready a.opened o place message.0 x a.going new message.1 (sym (same (message.0).to) ∙ up) in
            record { first = s.first; second = s.second; delivered = s.delivered; answer = s.answer; to_me = s.to_me; answer_at = s.answer_at; heard = s.heard };
      }

      pub so_far_more : (fs : List (Event C)) (v : World C) → SwapDone m place x fs v → SpreadSoFar m i (suc place) end (es ++ fs) w v
      so_far_more fs v (not_up z there down) = record {
        opened = a.opened;
        own = a.own;
        timeouts = a.timeouts;
        beats = a.beats;
        acted = a.acted;
        ends = a.ends;
        going = going_past m law n two i w r ready a.opened o place x a.going (λ u at up.
            let one : u ≡ message.0 = same_Some u message.0 (sym at ∙ message.1) in
            let two : message.0 ≡ z = same_Some message.0 z (sym at_x ∙ there) in
            true≢false (sym up ∙ (ap (λ (q : Message C). is_up_in w q.to) (one ∙ two) ∙ (sym (same z.to) ∙ down))));
        way = subst (λ l. Way m i w l a.timeouts a.beats x) (nil es) a.way;
      }
        where
          nil : (l : List (Event C)) → l ≡ l ++ []
          nil [] = refl
          nil (e ∷ l) = ap (λ q. e ∷ q) (nil l)
      so_far_more fs v (both first z there up h1 h2) =
          let is : message.0 ≡ z = same_Some message.0 z (sym at_x ∙ there) in
          record {
            opened = a.opened;
            own = a.own;
            timeouts = a.timeouts;
            beats = a.beats;
            acted = a.acted;
            ends = a.ends;
            going = going_swap m law n two i w r ready a.opened o place message.0 x first v a.going new message.1 (ap (λ (q : Message C). is_up_in w q.to) is ∙ (sym (same z.to) ∙ up)) h1 h2;
            way = subst (λ l. Way m i w l a.timeouts a.beats v) (append_assoc es (Deliver place ∷ []) (Deliver (length x.sent) ∷ []))
                (way_delivery m i w (es ++ Deliver place ∷ []) a.timeouts a.beats first (length x.sent) v
                (way_delivery m i w es a.timeouts a.beats x place first a.way new h1) (omega (arith, new, get-within x.sent place z there)) h2);
          }

    -- all of them
    pub so_far_done : end ≤ place → SpreadDone m n i es w x
    so_far_done all = record {
      spread = spread m law n two i w r ready a.opened o place x a.going (omega (arith, all, a.ends));
      timeouts = a.timeouts;
      beats = a.beats;
      way = a.way;
      kind = act_kind m i w a.own a.timeouts a.beats a.opened a.acted;
    }
