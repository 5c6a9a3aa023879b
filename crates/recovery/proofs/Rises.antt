-- A server that is behind in term stands or beats, and hears of the greatest term.
use Rattle.std.proofs.Common.{◌≡◌, ◌≢◌, ℕ, zero, suc, ◌+◌, ◌<◌, ◌≤◌, inl, inr, true, false, nat_lt, ◌==◌, Some, Ok, List, [], ◌∷◌, ◌++◌, length, refl, sym, ap, ◌∙◌, subst, arith, slice_get, slice_set, append_assoc}
use Rattle.std.proofs.lemmas.Bool.{ltb-true, ltb-false, eqb-true, eqb-false}
use Rattle.std.proofs.lemmas.Bool.Decides.{eqb_tells, leb_tells}
use Rattle.std.proofs.lemmas.List.{length-append}
use Rattle.std.proofs.lemmas.Option.{same_Some}
use Rattle.machine_model.specs.MachineSpec.{MachineSpec}
use Rattle.raft_model.specs.Logs.{MAX, last_term}
use Rattle.raft_model.specs.Quorums.{index_at}
use Rattle.raft_model.specs.Messages.{Message, Body, VoteRequest, VoteReply, to_others}
use Rattle.machine_model.specs.declared.entry.Entry.{Entry}
use Rattle.raft_model.specs.Rafts.{Raft, RaftTurn, is_up, is_leader, is_up_to_date, silent, election_started, vote_request_to, beat_body, beat_message}
use Rattle.raft_model.specs.Steps.{Arrives, Timeout, Beat, step}
use Rattle.raft_model.specs.Worlds.{World, Event, Deliver, TimesOut, Beats, happens}
use Rattle.raft_model.proofs.Cases.{bool_cases, same_ok}
use Rattle.raft_safety.proofs.Places.{get_set-same, set-length, get-some, get-last, get-within, get-more}
use Rattle.raft_safety.proofs.Quorums.{quorum_more}
use Rattle.raft_progress.proofs.Moves.{get_set-other, Reached, reached_size, own_turn, came_turn, turned, turned_here}
use Rattle.raft_progress.proofs.Asking.{stands_now}
use Rattle.raft_progress.proofs.Answering.{answer, beats_now}
use Rattle.raft_progress.proofs.Leaders.{leads_in}
use Rattle.raft_progress.proofs.Rising.{SaysNo, lowered, denies, turns_down, told_step}
use Rattle.recovery.specs.Runs.{is_up_in}
use Rattle.recovery.specs.Inner.Spreads.{SameUp, Ready, Way, Swappable, HasBeatOrTimedOut, it_beats, it_stands, Chosen, Highest, IsBehind, Risen, seat}
use Rattle.recovery.proofs.Swaps.{turned_up}
use Rattle.recovery.proofs.Spreads.{up_is}
use Rattle.recovery.proofs.Ways.{no_way, way_delivery, way_timeout, way_beat}

-- ---- the message to one of the others

module _ {C : Type 0} (me : ℕ) (message : ℕ → Message C) where
  seat_next : (k : ℕ) → k ≢ me → seat me (suc k) ≡ suc (seat me k)
  seat_next k other = elim (bool_cases (nat_lt me k)) [
    | inl b ↦ elim (bool_cases (nat_lt me (suc k))) [
      | inl c ↦ rw b (rw c (omega (arith, ltb-true me k b)))
      | inr c ↦ absurd (omega (arith, ltb-true me k b, ltb-false me (suc k) c))
    ]
    | inr b ↦ elim (bool_cases (nat_lt me (suc k))) [
      | inl c ↦ absurd (other (omega (arith, ltb-false me k b, ltb-true me (suc k) c)))
      | inr c ↦ rw b (rw c refl)
    ]
  ]

  seat_own : seat me (suc me) ≡ seat me me
  seat_own = elim (bool_cases (nat_lt me me)) [
    | inl b ↦ absurd (omega (arith, ltb-true me me b))
    | inr b ↦ elim (bool_cases (nat_lt me (suc me))) [
      | inl c ↦ rw b (rw c (omega arith))
      | inr c ↦ absurd (omega (arith, ltb-false me (suc me) c))
    ]
  ]

  others_length : (k : ℕ) → length (to_others me message k) ≡ seat me k
  unfolding to_others
  others_length zero = elim (bool_cases (nat_lt me 0)) [
    | inl b ↦ absurd (omega (arith, ltb-true me 0 b))
    | inr b ↦ rw b refl
  ]
  others_length (suc k) = elim (bool_cases (k == me)) [
    | inl b ↦ rw b (
        let e : k ≡ me = eqb-true k me b in
        length-append (to_others me message k) [] ∙ (let z : length (to_others me message k) + 0 ≡ seat me k = omega (arith, others_length k) in z ∙ (ap (seat me) e ∙ (sym seat_own ∙ ap (λ q. seat me (suc q)) (sym e)))))
    | inr b ↦ rw b (
        let z : length (to_others me message k) + 1 ≡ suc (seat me k) = omega (arith, others_length k) in
        length-append (to_others me message k) (message k ∷ []) ∙ (z ∙ sym (seat_next k (eqb-false k me b))))
  ]

  pub seated : (n k : ℕ) → k < n → k ≢ me → slice_get (to_others me message n) (seat me k) ≡ Some (message k)
  unfolding to_others
  seated zero k less other = absurd (omega (arith, less))
  seated (suc n) k less other = elim (eqb_tells k n) [
    | inr e ↦ get-more (to_others me message n) _ (seat me k) (message k) (seated n k (omega (arith, less, e.1)) other)
    | inl e ↦ elim (bool_cases (n == me)) [
      | inl b ↦ absurd (other (e.1 ∙ eqb-true n me b))
      | inr b ↦ rw b (
          let at : slice_get (to_others me message n ++ message n ∷ []) (length (to_others me message n)) ≡ Some (message n) = get-last (to_others me message n) (message n) in
          ap (slice_get (to_others me message n ++ message n ∷ [])) (ap (seat me) e.1 ∙ sym (others_length n)) ∙ (at ∙ ap (λ z. Some (message z)) (sym e.1)))
    ]
  ]

-- behind what was sent before
pub get-past : {A : Type 0} (xs ys : List A) (p : ℕ) (x : A) → slice_get ys p ≡ Some x → slice_get (xs ++ ys) (length xs + p) ≡ Some x
get-past [] ys p x h = ap (slice_get ys) (let e : 0 + p ≡ p = omega arith in e) ∙ h
get-past (z ∷ zs) ys p x h = ap (slice_get (z ∷ (zs ++ ys))) (let e : suc (length zs) + p ≡ suc (length zs + p) = omega arith in e) ∙ get-past zs ys p x h

-- ---- it hears of a later term

module _ {S C : Type 0} (m : MachineSpec S C) (n i : ℕ) (less_n : i < n) where
  pub record Tell (place : ℕ) (x : World C) (new : Raft C) : Type 0 where
    pub can : Swappable m i place x
    pub up : SameUp x can.second
    pub here : slice_get can.second.servers i ≡ Some new
    pub rest : (j : ℕ) → j ≢ i → slice_get can.second.servers j ≡ slice_get x.servers j
    pub grown : length x.sent ≤ length can.first.sent

  pub tells : (x : World C) (place k : ℕ) (c z : Raft C) (body back : Body C) → length x.servers ≡ n → slice_get x.servers i ≡ Some c → is_up c.mode ≡ true → k < n → k ≢ i →
      slice_get x.servers k ≡ Some z → is_up z.mode ≡ true → slice_get x.sent place ≡ Some (record { from = i; to = k; term = c.term; body = body }) → c.term < z.term →
      step m n k z (Arrives (record { from = i; to = k; term = c.term; body = body })) ≡ Ok (record { server = z; sent = answer i z.term k back ∷ [] }) → SaysNo back → Tell place x (lowered c z.term)
  tells x place k c z body back size here up less other there alive at low is denial =
      let turn : RaftTurn C = record { server = z; sent = answer i z.term k back ∷ [] } in
      let x1 : World C = turned m n x k turn in
      let h1 : happens m x (Deliver place) ≡ Ok x1 = came_turn m n x place i k c.term body z turn size at there is in
      let me : slice_get x1.servers i ≡ Some c = get_set-other x.servers k z i (λ e. other (sym e)) ∙ here in
      let size1 : length x1.servers ≡ n = set-length x.servers k z ∙ size in
      let last : slice_get x1.sent (length x.sent) ≡ Some (answer i z.term k back) = get-last x.sent (answer i z.term k back) in
      let l : Raft C = lowered c z.term in
      let x2 : World C = turned m n x1 i (silent l) in
      let h2 : happens m x1 (Deliver (length x.sent)) ≡ Ok x2 = came_turn m n x1 (length x.sent) k i z.term back c (silent l) size1 last me (told_step m n i k c z.term back up less low denial) in
      let up1 : SameUp x x1 = turned_up m n x k turn z there alive alive in
      let up2 : SameUp x1 x2 = turned_up m n x1 i (silent l) c me up refl in
      record {
        can = record { first = x1; second = x2; delivered = h1; answer = answer i z.term k back; to_me = refl; answer_at = last; heard = h2 };
        up = λ q. up2 q ∙ up1 q;
        here = turned_here m n x1 i (silent l) c me;
        rest = λ j apart. get_set-other x1.servers i l j apart ∙ (elim (eqb_tells j k) [
          | inl q ↦ ap (slice_get (slice_set x.servers k z)) q.1 ∙ (get_set-same x.servers k z (get-within x.servers k z there) ∙ (sym there ∙ ap (slice_get x.servers) (sym q.1)))
          | inr q ↦ get_set-other x.servers k z j q.1
        ]);
        grown = omega (arith, get-within x1.sent (length x.sent) (answer i z.term k back) last);
      }

  module _ (w : World C) (r : Reached m n w) (chosen : Chosen n i w) where
    -- where nobody is ahead it may go on
    level_ready : (v : World C) (t : Raft C) → SameUp w v → slice_get v.servers i ≡ Some t → ((s : Raft C) → slice_get w.servers i ≡ Some s → t.log ≡ s.log) → ((j : ℕ) → j ≢ i → slice_get v.servers j ≡ slice_get w.servers j) →
        ((j : ℕ) (s : Raft C) → j < n → is_up_in w j ≡ true → j ≢ i → slice_get w.servers j ≡ Some s → s.term ≤ t.term) → t.term < MAX → Ready n i v
    level_ready v t same here log rest top fits =
        let s = get-some w.servers i (omega (arith, chosen.less, reached_size m n w r)) in
        let mine = chosen.room i s.0 chosen.less chosen.up s.1 in
        let size = ap length (log s.0 s.1) in
        record {
          less = chosen.less;
          up = same i ∙ chosen.up;
          quorum = quorum_more n (is_up_in w) (is_up_in v) (λ j lo q. same j ∙ q) chosen.quorum;
          best = λ j a me less q there at.
              let one : me.log ≡ s.0.log = ap (λ (z : Raft C). z.log) (same_Some me t (sym at ∙ here)) ∙ log s.0 s.1 in
              elim (eqb_tells j i) [
                | inl e ↦
                    let both : a.log ≡ s.0.log = ap (λ (z : Raft C). z.log) (same_Some a t (sym there ∙ (ap (slice_get v.servers) e.1 ∙ here))) ∙ log s.0 s.1 in
                    by_log a.log me.log s.0.log s.0.log both one (chosen.best i s.0 s.0 chosen.less chosen.up s.1 s.1)
                | inr e ↦ by_log a.log me.log a.log s.0.log refl one (chosen.best j a s.0 less (sym (same j) ∙ q) (sym (rest j e.1) ∙ there) s.1)
              ];
          level = λ j a me less q there at.
              let one : me ≡ t = same_Some me t (sym at ∙ here) in
              elim (eqb_tells j i) [
                | inl e ↦
                    let two : a ≡ t = same_Some a t (sym there ∙ (ap (slice_get v.servers) e.1 ∙ here)) in
                    omega (arith, ap (λ (z : Raft C). z.term) one, ap (λ (z : Raft C). z.term) two)
                | inr e ↦ omega (arith, ap (λ (z : Raft C). z.term) one, top j a less (sym (same j) ∙ q) e.1 (sym (rest j e.1) ∙ there))
              ];
          room = λ me at not.
              let one : me ≡ t = same_Some me t (sym at ∙ here) in
              (omega (arith, fits, ap (λ (z : Raft C). z.term) one), omega (arith, mine.1, size, ap (λ (z : Raft C). length z.log) one));
        }
      where
        by_log : (a b c d : List (Entry C)) → a ≡ c → b ≡ d → is_up_to_date c (length d) (last_term d) ≡ true → is_up_to_date a (length b) (last_term b) ≡ true
        by_log a b c d x y h = subst (λ l. is_up_to_date l (length b) (last_term b) ≡ true) (sym x) (subst (λ l. is_up_to_date c (length l) (last_term l) ≡ true) (sym y) h)

    -- where nobody is ahead at first
    pub level_risen : (k : ℕ) → Highest n k w → (IsBehind i k w → ⊥) → Risen m n i w [] w
    level_risen k high level =
        let s = get-some w.servers i (omega (arith, chosen.less, reached_size m n w r)) in
        let z = get-some w.servers k (omega (arith, high.less, reached_size m n w r)) in
        let mine = chosen.room i s.0 chosen.less chosen.up s.1 in
        let above : (z.0).term ≤ (s.0).term = elim (leb_tells (z.0).term (s.0).term) [
          | inl e ↦ e.1
          | inr e ↦ absurd (level (λ a b at there. let one = same_Some a s.0 (sym at ∙ s.1) in let two = same_Some b z.0 (sym there ∙ z.1) in omega (arith, e.1, ap (λ (x : Raft C). x.term) one, ap (λ (x : Raft C). x.term) two)))
        ] in
        record {
          up = λ j. refl;
          ready = level_ready w s.0 (λ j. refl) s.1 (λ a at. ap (λ (x : Raft C). x.log) (same_Some s.0 a (sym s.1 ∙ at))) (λ j apart. refl) (λ j a less q apart there. omega (arith, above, high.top j a z.0 less q there z.1)) (omega (arith, mine.0));
          log = λ a b there then. ap (λ (x : Raft C). x.log) (same_Some b a (sym then ∙ there));
          timeouts = 0;
          beats = 0;
          few_timeouts = omega arith;
          few_beats = omega arith;
          way = no_way m i w;
        }

    module _ (s : Raft C) (here : slice_get w.servers i ≡ Some s) (k : ℕ) (high : Highest n k w) (z : Raft C) (there : slice_get w.servers k ≡ Some z) (behind : s.term < z.term) where
      other : k ≢ i
      other e = omega (arith, behind, ap (λ (x : Raft C). x.term) (same_Some z s (sym there ∙ (ap (slice_get w.servers) e ∙ here))))

      alive : is_up z.mode ≡ true
      alive = up_is w k z there high.up

      mine_up : is_up s.mode ≡ true
      mine_up = up_is w i s here chosen.up

      size : length w.servers ≡ n
      size = reached_size m n w r

      -- after its own turn
      pub record Tried (es : List (Event C)) (t b : ℕ) (y : World C) : Type 0 where
        pub now : Raft C
        pub here_now : slice_get y.servers i ≡ Some now
        pub up_now : is_up now.mode ≡ true
        pub log : now.log ≡ s.log
        pub same : SameUp w y
        pub rest : (j : ℕ) → j ≢ i → slice_get y.servers j ≡ slice_get w.servers j
        pub count : length y.servers ≡ n
        pub longer : length w.sent ≤ length y.sent
        pub body : Body C
        pub asked : slice_get y.sent (length w.sent + seat i k) ≡ Some (record { from = i; to = k; term = now.term; body = body })
        pub refused : now.term < z.term → (back : Body C) × (step m n k z (Arrives (record { from = i; to = k; term = now.term; body = body })) ≡ Ok (record { server = z; sent = answer i z.term k back ∷ [] })) × SaysNo back
        pub fits : z.term ≤ now.term → now.term < MAX
        pub few_timeouts : t ≤ 1
        pub few_beats : b ≤ 1
        pub way : Way m i w es t b y

      after_turn : (es : List (Event C)) (t b : ℕ) (y : World C) (now : Raft C) (body : ℕ → Body C) → y ≡ turned m n w i (record { server = now; sent = to_others i (λ j. record { from = i; to = j; term = now.term; body = body j }) n }) →
          is_up now.mode ≡ true → now.log ≡ s.log →
          (now.term < z.term → (back : Body C) × (step m n k z (Arrives (record { from = i; to = k; term = now.term; body = body k })) ≡ Ok (record { server = z; sent = answer i z.term k back ∷ [] })) × SaysNo back) →
          (z.term ≤ now.term → now.term < MAX) → t ≤ 1 → b ≤ 1 → Way m i w es t b y → Tried es t b y
      after_turn es t b y now body is up_now log refused fits few_t few_b way =
          let message : ℕ → Message C = λ j. record { from = i; to = j; term = now.term; body = body j } in
          let turn : RaftTurn C = record { server = now; sent = to_others i message n } in
          let sent : y.sent ≡ w.sent ++ to_others i message n = ap (λ (x : World C). x.sent) is in
          record {
            now = now;
            here_now = ap (λ (x : World C). slice_get x.servers i) is ∙ turned_here m n w i turn s here;
            up_now = up_now;
            log = log;
            same = subst (λ x. SameUp w x) (sym is) (turned_up m n w i turn s here mine_up up_now);
            rest = λ j apart. ap (λ (x : World C). slice_get x.servers j) is ∙ get_set-other w.servers i now j apart;
            count = ap (λ (x : World C). length x.servers) is ∙ (set-length w.servers i now ∙ size);
            longer = omega (arith, ap length sent, length-append w.sent (to_others i message n));
            body = body k;
            asked = ap (λ l. slice_get l (length w.sent + seat i k)) sent ∙ get-past w.sent (to_others i message n) (seat i k) (message k) (seated i message n k high.less other);
            refused = refused;
            fits = fits;
            few_timeouts = few_t;
            few_beats = few_b;
            way = way;
          }

      pub tried : (es : List (Event C)) (t b : ℕ) (y : World C) → HasBeatOrTimedOut m i w es t b y → Tried es t b y
      tried es t b y (it_beats a at leads h) =
          let mine : a ≡ s = same_Some a s (sym at ∙ here) in
          let l = leads_in s.mode (ap (λ (x : Raft C). is_leader x.mode) (sym mine) ∙ leads) in
          let next = l.0 in
          let is = same_ok _ _ (sym h ∙ own_turn m n w i Beat s (record { server = s; sent = to_others i (beat_message i s next) n }) size here (beats_now m n i s next l.1 l.2 i less_n)) in
          after_turn _ _ _ y s (λ j. beat_body s (index_at next j)) is mine_up refl
          (λ low. let d = turns_down m n i k z s (index_at next k) less_n alive low in (d.0, d.1, d.2)) (λ le. absurd (omega (arith, le, behind))) (omega arith) (omega arith)
          (way_beat m i w [] 0 0 w y (no_way m i w) h)
      tried es t b y (it_stands a at not h) =
          let mine : a ≡ s = same_Some a s (sym at ∙ here) in
          let not_s : is_leader s.mode ≡ false = ap (λ (x : Raft C). is_leader x.mode) (sym mine) ∙ not in
          let f = chosen.room i s chosen.less chosen.up here in
          let c : Raft C = election_started n i s in
          let is = same_ok _ _ (sym h ∙ own_turn m n w i Timeout s (record { server = c; sent = to_others i (vote_request_to i c) n }) size here (stands_now m n i s mine_up not_s (omega (arith, f.0)) (omega (arith, f.1)))) in
          after_turn _ _ _ y c (λ j. VoteRequest (length s.log) (last_term s.log)) is refl refl
          (λ low. (VoteReply c.term false, denies m n i k z c.term (length s.log) (last_term s.log) less_n alive low, tt)) (λ le. omega (arith, f.0)) (omega arith) (omega arith)
          (way_timeout m i w [] 0 0 w y (no_way m i w) h)

      -- who can act
      pub can_act : (is_leader s.mode ≡ true → (y : World C) × (happens m w (Beats i) ≡ Ok y)) × (is_leader s.mode ≡ false → (y : World C) × (happens m w (TimesOut i) ≡ Ok y))
      can_act =
          let f = chosen.room i s chosen.less chosen.up here in (
            λ leads. let l = leads_in s.mode leads in (_, own_turn m n w i Beat s (record { server = s; sent = to_others i (beat_message i s l.0) n }) size here (beats_now m n i s l.0 l.1 l.2 i less_n)),
            λ not. (_, own_turn m n w i Timeout s (record { server = election_started n i s; sent = to_others i (vote_request_to i (election_started n i s)) n }) size here (stands_now m n i s mine_up not (omega (arith, f.0)) (omega (arith, f.1)))),
          )

      module _ (es : List (Event C)) (t b : ℕ) (y : World C) (a : Tried es t b y) where
        there_y : slice_get y.servers k ≡ Some z
        there_y = a.rest k other ∙ there

        low_of : IsBehind i k y → a.now.term < z.term
        low_of h = h a.now z a.here_now there_y

        -- it came level
        pub came_level : (IsBehind i k y → ⊥) → Risen m n i w es y
        came_level level =
            let above : z.term ≤ (let x = a.now in x.term) = elim (leb_tells z.term (let x = a.now in x.term)) [
              | inl e ↦ e.1
              | inr e ↦ absurd (level (λ c d at then. let one = same_Some c a.now (sym at ∙ a.here_now) in let two = same_Some d z (sym then ∙ there_y) in omega (arith, e.1, ap (λ (x : Raft C). x.term) one, ap (λ (x : Raft C). x.term) two)))
            ] in
            record {
              up = a.same;
              ready = level_ready y a.now a.same a.here_now (λ c at. a.log ∙ ap (λ (x : Raft C). x.log) (same_Some s c (sym here ∙ at))) a.rest
                  (λ j c less q apart at. omega (arith, above, high.top j c z less q at there)) (a.fits above);
              log = λ c d at then. ap (λ (x : Raft C). x.log) (same_Some d a.now (sym then ∙ a.here_now)) ∙ (a.log ∙ ap (λ (x : Raft C). x.log) (same_Some s c (sym here ∙ at)));
              timeouts = t;
              beats = b;
              few_timeouts = a.few_timeouts;
              few_beats = a.few_beats;
              way = a.way;
            }

        -- or is to be told
        pub told : IsBehind i k y → Tell (length w.sent + seat i k) y (lowered a.now z.term)
        told h =
            let d = a.refused (low_of h) in
            tells y (length w.sent + seat i k) k a.now z a.body d.0 a.count a.here_now a.up_now high.less other there_y alive a.asked (low_of h) d.1 d.2

        pub came_told : IsBehind i k y → (first v : World C) → happens m y (Deliver (length w.sent + seat i k)) ≡ Ok first → happens m first (Deliver (length y.sent)) ≡ Ok v →
            Risen m n i w (es ++ Deliver (length w.sent + seat i k) ∷ Deliver (length y.sent) ∷ []) v
        came_told h first v h1 h2 =
            let p = told h in
            let c = p.can in
            let one : c.first ≡ first = same_ok _ _ (sym c.delivered ∙ h1) in
            let end : c.second ≡ v = same_ok _ _ (sym c.heard ∙ (ap (λ x. happens m x (Deliver (length y.sent))) one ∙ h2)) in
            let new : Raft C = lowered a.now z.term in
            let up : SameUp w v = λ j. subst (λ x. is_up_in x j ≡ is_up_in y j) end (p.up j) ∙ a.same j in
            let here_v : slice_get v.servers i ≡ Some new = subst (λ (x : World C). slice_get x.servers i ≡ Some new) end p.here in
            let rest : (j : ℕ) → j ≢ i → slice_get v.servers j ≡ slice_get w.servers j = λ j apart. subst (λ (x : World C). slice_get x.servers j ≡ slice_get y.servers j) end (p.rest j apart) ∙ a.rest j apart in
            let room = chosen.room k z high.less high.up there in
            record {
              up = up;
              ready = level_ready v new up here_v (λ d at. a.log ∙ ap (λ (x : Raft C). x.log) (same_Some s d (sym here ∙ at))) rest
                  (λ j d less q apart at. high.top j d z less q at there) (omega (arith, room.0));
              log = λ d e at then. ap (λ (x : Raft C). x.log) (same_Some e new (sym then ∙ here_v)) ∙ (a.log ∙ ap (λ (x : Raft C). x.log) (same_Some s d (sym here ∙ at)));
              timeouts = t;
              beats = b;
              few_timeouts = a.few_timeouts;
              few_beats = a.few_beats;
              way = subst (λ l. Way m i w l t b v) (append_assoc es (Deliver (length w.sent + seat i k) ∷ []) (Deliver (length y.sent) ∷ []))
                  (way_delivery m i w (es ++ Deliver (length w.sent + seat i k) ∷ []) t b first (length y.sent) v
                  (way_delivery m i w es t b y (length w.sent + seat i k) first a.way (omega arith) h1) a.longer h2);
            }
