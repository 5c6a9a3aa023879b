-- What a client does by itself once so many milliseconds have passed.
use Rattle.std.specs.Prelude.{ℕ, Bool, if◌then◌else◌, List, [], ◌∷◌, ◌++◌}
use Rattle.timers.specs.declared.settings.ClientSettings.{ClientSettings}
use Rattle.timers.specs.declared.period.Period.{Period}
use Rattle.timers.specs.declared.client_timers.ClientDue.{ClientDue}
use Rattle.timers.specs.declared.client_timers.ClientDue.TheVariants.{Register, Ping, Pull}
use Rattle.timers.specs.Periods.{is_due, later}

-- how long a client has waited for each
pub record ClientTimes : Type 0 where
  pub register : Period
  pub ping : Period
  pub pull : Period

abbrev pub client_begun : ClientSettings → ClientTimes
client_begun s = record {
  register = record { every = s.register; passed = 0 };
  ping = record { every = s.ping; passed = 0 };
  pull = record { every = s.pull; passed = 0 };
}

-- this, if so
abbrev pub once : Bool → ClientDue → List ClientDue
once so due = if so then due ∷ [] else []

-- a Register, a Ping and a Pull in their turns
abbrev pub client_due : ℕ → ClientTimes → List ClientDue
client_due ms t =
    once (is_due ms t.register) Register
    ++ (once (is_due ms t.ping) Ping
    ++ once (is_due ms t.pull) Pull)

abbrev pub client_after : ℕ → ClientTimes → ClientTimes
client_after ms t = record { register = later ms t.register; ping = later ms t.ping; pull = later ms t.pull }
