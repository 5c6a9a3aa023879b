-- Those that are down restart, one after the other, and the value's runs go on.
use Rattle.std.proofs.Common.{◌≡◌, ℕ, suc, ◌+◌, ◌<◌, ◌≤◌, inl, inr, Bool, true, false, Ok, List, [], ◌∷◌, ◌++◌, length, map, refl, sym, ap, ◌∙◌, subst, arith, append_assoc}
use Rattle.std.proofs.lemmas.Bool.Decides.{leb_tells}
use Rattle.std.proofs.lemmas.List.{map-append}
use Rattle.rows.specs.GroupSizes.{IsGroup}
use Rattle.machine_model.specs.MachineSpec.{MachineSpec}
use Rattle.raft_model.specs.Quorums.{Quorum}
use Rattle.raft_model.specs.Worlds.{Restarts, happens}
use Rattle.raft_progress.specs.Recovery.{HasRoom, everybody}
use Rattle.raft_progress.proofs.Moves.{Reached, reached_size}
use Rattle.world.proofs.Recoveries.{two}
use Rattle.recovery.specs.declared.unsettled.Unsettled.{Unsettled}
use Rattle.recovery.specs.declared.unsettled.Unsettled.TheVariants.{NoQuorum, Exhausted, NoMemory, Crashed}
use Rattle.recovery.specs.Runs.{is_up_in}
use Rattle.recovery.specs.Restarting.{downs}
use Rattle.recovery.specs.Inner.Drives.{Drive, LawfulDrive, HasRun, KnownOf, Known, Ever, WentOf, NothingYet}
use Rattle.recovery.specs.Inner.DownServers.{IsDown, KeepsStored, Restarting, IsBack, HasRestarted, was_up, was_down, AreBack, nobody, one_more, RestartedSoFar, WokenUntil, RestartsFail, IsLeftDown, RestartFails}
use Rattle.recovery.proofs.Goings.{reached, known_after, went_none, went_more, went_as, went_with}
use Rattle.recovery.proofs.Downs.{nil_end, down_none, down_next, up_next, down_split, all_quorum, is_down, restarted_one, room_kept}

module _ {V S C : Type 0} (m : MachineSpec S C) (d : Drive V S C) (dl : LawfulDrive m d) (a : Restarting d) where
  -- ---- moments

  woken_start : (w : d.Moment) → RestartedSoFar m d a 0 [] w w
  woken_start w = record {
    back = subst (λ l. AreBack m d a w l w) (sym (down_none (d.log w))) nobody;
    taken_are = ap (λ l. map a.own l) (sym (down_none (d.log w)));
    up = λ j less. absurd (omega (arith, less));
    others = λ j le. refl;
    stored = λ j t there. (t, there, refl, refl);
  }

  module _ (n k : ℕ) (ts : List d.Own) (w x : d.Moment) (s : RestartedSoFar m d a k ts w x) where
    stays_up : is_up_in (d.log x) k ≡ true → RestartedSoFar m d a (suc k) (ts ++ []) w x
    stays_up up =
        let same = up_next k (d.log w) (sym (s.others k (omega arith)) ∙ up) in
        record {
          back = subst (λ l. AreBack m d a w l x) (sym same) s.back;
          taken_are = nil_end ts ∙ (s.taken_are ∙ ap (λ l. map a.own l) (sym same));
          up = λ j less. elim (leb_tells (suc j) k) [
            | inl e ↦ s.up j e.1
            | inr e ↦ let here : j ≡ k = omega (arith, less, e.1) in ap (is_up_in (d.log x)) here ∙ up
          ];
          others = λ j le. s.others j (omega (arith, le));
          stored = s.stored;
        }

    comes_up : (v : d.Moment) → IsDown k (d.log x) → is_up_in (d.log x) k ≡ false → a.Back x k v → happens m (d.log x) (Restarts k) ≡ Ok (d.log v) → RestartedSoFar m d a (suc k) (ts ++ a.own k ∷ []) w v
    comes_up v down off b h =
        let one = restarted_one m k (d.log x) (d.log v) down h in
        let same = down_next k (d.log w) (sym (s.others k (omega arith)) ∙ off) in
        record {
          back = subst (λ l. AreBack m d a w l v) (sym same) (one_more k v s.back b);
          taken_are = ap (λ l. l ++ a.own k ∷ []) s.taken_are ∙ (sym (map-append a.own (downs k (d.log w)) (k ∷ [])) ∙ ap (λ l. map a.own l) (sym same));
          up = λ j less. elim (leb_tells (suc j) k) [
            | inl e ↦ one.others j (λ q. omega (arith, q, e.1)) ∙ s.up j e.1
            | inr e ↦ let here : j ≡ k = omega (arith, less, e.1) in ap (is_up_in (d.log v)) here ∙ one.up
          ];
          others = λ j le. one.others j (λ q. omega (arith, q, le)) ∙ s.others j (omega (arith, le));
          stored = λ j t there.
              let y = one.stored j t there in
              let z = s.stored j y.0 y.1 in
              (z.0, z.1, y.2 ∙ z.2, y.3 ∙ z.3);
        }

    -- one more of them
    woken_more : k < n → Reached m n (d.log x) → (us : List d.Own) (v : d.Moment) → HasRestarted m d a k x us v → RestartedSoFar m d a (suc k) (ts ++ us) w v
    woken_more less r us v (was_up up) = stays_up up
    woken_more less r us v (was_down off b) =
        subst (λ l. RestartedSoFar m d a (suc k) (ts ++ l) w v) (sym b.0)
        (comes_up v (is_down k (d.log x) (omega (arith, less, reached_size m n (d.log x) r)) off) off b.1 b.2)

    -- it stays down
    woken_until : k < n → is_up_in (d.log x) k ≡ false → WokenUntil m d a n k ts w x
    woken_until less off =
        let r = down_split n k (d.log w) less (sym (s.others k (omega arith)) ∙ off) in
        record { before = downs k (d.log w); later = r.0; were_down = r.1; back = s.back; taken_are = s.taken_are }

  -- ---- one server, up or down

  abbrev Anything : d.Moment → Type 0
  Anything w = Unit {0}

  some_run : (old : V) → HasRun d old → KnownOf d old (λ w. Anything w)
  some_run old h = record { past = h.past; moment = h.moment; runs = h.runs; ever = λ past w r. tt }

  module _ (old : V) (j : ℕ) (less : j < d.size old) (h : HasRun d old) (b : Bool) (reads : Ever d old (λ w. b ≡ is_up_in w j)) where
    read : Known d old (λ w. b ≡ is_up_in w j)
    read = record { past = h.past; moment = h.moment; runs = h.runs; ever = reads }

    pub known_down : b ≡ false → Known d old (λ w. IsDown j w)
    known_down down = record {
      past = h.past;
      moment = h.moment;
      runs = h.runs;
      ever = λ past w r. is_down j (d.log w) (omega (arith, less, reached_size m (d.size old) (d.log w) (reached m d dl old past w r))) (sym (reads past w r) ∙ down);
    }

    pub wake_none : b ≡ true → WentOf d old old (λ ts w v. HasRestarted m d a j w ts v)
    wake_none up = went_none m d dl old (λ ts w v. HasRestarted m d a j w ts v) (λ w. b ≡ is_up_in (d.log w) j) read (λ w r p. was_up (sym p ∙ up))

    pub wake_one : (new : V) → b ≡ false → WentOf d old new (λ ts w v. IsBack m d a j ts w v) → WentOf d old new (λ ts w v. HasRestarted m d a j w ts v)
    wake_one new down g = went_as m d dl old new (λ w. b ≡ is_up_in (d.log w) j) (λ ts w v. IsBack m d a j ts w v) (λ ts w v. HasRestarted m d a j w ts v) read g (λ ts w v rw rv p c. was_down (sym p ∙ down) c)

    pub wake_stops : (new : V) (why : Unsettled) → b ≡ false → IsLeftDown d j old new why → RestartFails d j old new why
    wake_stops new why down g = (λ past w r. sym (reads past w r) ∙ down, g)

  -- ---- one after the other

  abbrev SoFar : V → V → ℕ → Type 0
  SoFar old mid k = WentOf d old mid (λ ts w v. RestartedSoFar m d a k ts w v)

  pub wakes_start : (old : V) → HasRun d old → SoFar old old 0
  wakes_start old h = went_none m d dl old (λ ts w v. RestartedSoFar m d a 0 ts w v) (λ w. Anything w) (some_run old h) (λ w r p. woken_start w)

  module _ (old mid : V) (h : HasRun d old) (k : ℕ) (g : SoFar old mid k) where
    abbrev wakes_n : ℕ
    wakes_n = d.size old

    pub wakes_within : (j : ℕ) → j ≡ k → k < wakes_n → j < d.size mid
    wakes_within j same less = let one = g.1 in omega (arith, same, less, one.size)

    pub wakes_more : (new : V) (j : ℕ) → j ≡ k → k < wakes_n → WentOf d mid new (λ ts w v. HasRestarted m d a j w ts v) → SoFar old new (k + 1)
    wakes_more new j same less one = went_more m d dl old mid new (λ w. Anything w) (λ ts w v. RestartedSoFar m d a k ts w v) (λ ts w v. HasRestarted m d a j w ts v) (λ ts w v. RestartedSoFar m d a (k + 1) ts w v) (some_run old h) g one
        (λ ts us w x v rw rx rv p s b.
        let next : suc k ≡ k + 1 = omega arith in
        subst (λ q. RestartedSoFar m d a q (ts ++ us) w v) next (woken_more wakes_n k ts w x s less rx us v (subst (λ q. HasRestarted m d a q x us v) same b)))

    stopped : (j : ℕ) → j ≡ k → k < wakes_n → Ever d mid (λ w. is_up_in w j ≡ false) → WentOf d old mid (λ ts w v. WokenUntil m d a wakes_n j ts w v)
    stopped j same less down = went_as m d dl old mid (λ w. Anything w) (λ ts w v. RestartedSoFar m d a k ts w v × (is_up_in (d.log v) j ≡ false)) (λ ts w v. WokenUntil m d a wakes_n j ts w v) (some_run old h)
        (went_with m d dl old mid (λ ts w v. RestartedSoFar m d a k ts w v) (λ v. is_up_in (d.log v) j ≡ false) g down)
        (λ ts w v rw rv p c. subst (λ q. WokenUntil m d a wakes_n q ts w v) (sym same) (woken_until wakes_n k ts w v c.0 less (ap (is_up_in (d.log v)) (sym same) ∙ c.1)))

    -- and nothing more happened
    stopped_there : (new : V) (j : ℕ) → j ≡ k → k < wakes_n → Ever d mid (λ w. is_up_in w j ≡ false) → WentOf d mid new (λ ts w v. NothingYet d ts w v) → WentOf d old new (λ ts w v. WokenUntil m d a wakes_n j ts w v)
    stopped_there new j same less down still = went_more m d dl old mid new (λ w. Anything w) (λ ts w v. WokenUntil m d a wakes_n j ts w v) (λ ts w v. NothingYet d ts w v) (λ ts w v. WokenUntil m d a wakes_n j ts w v) (some_run old h) (stopped j same less down) still
        (λ ts us w x v rw rx rv p s b. subst (λ q. WokenUntil m d a wakes_n j (ts ++ us) w q) (sym b.1) (subst (λ l. WokenUntil m d a wakes_n j l w x) (sym (ap (λ l. ts ++ l) b.0 ∙ nil_end ts)) s))

    pub wakes_stops : (new : V) (j : ℕ) (why : Unsettled) → j ≡ k → k < wakes_n → RestartFails d j mid new why → RestartsFail m d a old new why
    wakes_stops new j NoQuorum same less q = absurd q.1
    wakes_stops new j Exhausted same less q = absurd q.1
    wakes_stops new j NoMemory same less q = went_as m d dl old new (λ w. Anything w) (λ ts w v. WokenUntil m d a wakes_n j ts w v) (λ ts w v. (who : ℕ) × WokenUntil m d a wakes_n who ts w v) (some_run old h) (stopped_there new j same less q.0 q.1) (λ ts w v rw rv p c. (j, c))
    wakes_stops new j (Crashed who) same less q = let z = q.1 in subst (λ i. RestartsFail m d a old new (Crashed i)) (sym z.0) (stopped_there new j same less q.0 z.1)

    pub wakes_done : wakes_n ≡ k → SoFar old mid wakes_n
    wakes_done all = subst (λ q. SoFar old mid q) (sym all) g

  -- ---- all of them

  module _ (old mid : V) (h : HasRun d old) (group : IsGroup (d.size old)) (room : Ever d old (λ w. HasRoom (d.size old) everybody w)) (g : SoFar old mid (d.size old)) where
    -- all are up, and have room
    pub all_up : Known d mid (λ v. Quorum (d.size old) (is_up_in v) × HasRoom (d.size old) (is_up_in v) v)
    all_up = known_after m d dl old mid (λ w. HasRoom (d.size old) everybody (d.log w)) (λ v. Quorum (d.size old) (is_up_in (d.log v)) × HasRoom (d.size old) (is_up_in (d.log v)) (d.log v)) (λ ts w v. RestartedSoFar m d a (d.size old) ts w v)
        (record { past = h.past; moment = h.moment; runs = h.runs; ever = room }) g
        (λ ts w v rw rv p c. (all_quorum (is_up_in (d.log v)) (d.size old) (omega (arith, two (d.size old) group)) c.up, room_kept m (d.size old) (d.log w) (d.log v) c.stored p))

    pub further : (new : V) (R Q : List d.Own → d.Moment → d.Moment → Type 0) → WentOf d mid new R → ((ts us : List d.Own) (w x v : d.Moment) → RestartedSoFar m d a (d.size old) ts w x → R us x v → Q (ts ++ us) w v) → WentOf d old new Q
    further new R Q more f = went_more m d dl old mid new (λ w. Anything w) (λ ts w v. RestartedSoFar m d a (d.size old) ts w v) R Q (some_run old h) g more (λ ts us w x v rw rx rv p s b. f ts us w x v s b)
