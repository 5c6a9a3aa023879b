-- How long a server waits to hear of a leader: each wait is drawn from the words of a seed, which
-- are those of a key of `lossy_net`.
use Rattle.std.specs.Prelude.{◌≡◌, ℕ, suc, ◌+◌, ◌%◌, ◌^◌, ◌<◌, ◌≤◌, Bool, true, false, if◌then◌else◌, nat_le, List, [], ◌∷◌, sum}
use Rattle.lossy_net.specs.Words.{nth_word}
use Rattle.timers.specs.declared.settings.Settings.{Settings}

-- the bounds of a wait, the seed and how many of its words were drawn, the wait that runs, and how
-- much of it has passed
pub record Waiting : Type 0 where
  pub least : ℕ
  pub more : ℕ
  pub seed : ℕ
  pub drawn : ℕ
  pub wait : ℕ
  pub passed : ℕ

-- the wait that a word gives: the least, and at most so much more
abbrev pub wait_of : ℕ → ℕ → ℕ → ℕ
wait_of least more word = least + word % suc more

-- the first wait of a seed begins
abbrev pub first_wait : Settings → ℕ → Waiting
first_wait s seed = record {
  least = s.least_wait;
  more = s.more_wait;
  seed = seed;
  drawn = 1;
  wait = wait_of s.least_wait s.more_wait (nth_word seed 0);
  passed = 0;
}

-- the next one begins
abbrev pub waits_anew : Waiting → Waiting
waits_anew w = record w { drawn = (w.drawn + 1) % 2 ^ 68; wait = wait_of w.least w.more (nth_word w.seed w.drawn); passed = 0 }

-- the wait is over once so many more milliseconds have passed
abbrev pub is_over : ℕ → Waiting → Bool
is_over ms w = nat_le w.wait (w.passed + ms)

-- so many more have passed
abbrev pub waited : ℕ → Waiting → Waiting
waited ms w = if is_over ms w then waits_anew w else record w { passed = w.passed + ms }

-- ---- over many items of time, with nothing heard between them

-- none of them ends the wait
abbrev pub AreQuiet : Waiting → List ℕ → Type 0
AreQuiet w [] = Unit {0}
AreQuiet w (ms ∷ more) = (is_over ms w ≡ false) × AreQuiet (waited ms w) more

abbrev pub waited_all : Waiting → List ℕ → Waiting
waited_all w [] = w
waited_all w (ms ∷ more) = waited_all (waited ms w) more

-- The next item ends the wait exactly where as much as the wait has passed since it began.
pub record EndsInTime (w : Waiting) (items : List ℕ) (ms : ℕ) : Type 0 where
  pub after : is_over ms (waited_all w items) ≡ true → w.wait ≤ w.passed + (sum items + ms)
  pub by : w.wait ≤ w.passed + (sum items + ms) → is_over ms (waited_all w items) ≡ true

-- each wait that is drawn is within the bounds
pub record IsDrawnWithin (w : Waiting) : Type 0 where
  pub least : w.least ≤ w.wait
  pub most : w.wait ≤ w.least + w.more
