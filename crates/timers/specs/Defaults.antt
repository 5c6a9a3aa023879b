-- The settings where nothing else is said, in milliseconds.
use Rattle.timers.specs.declared.settings.Settings.{Settings}
use Rattle.timers.specs.declared.settings.ClientSettings.{ClientSettings}

abbrev pub default_settings : Settings
default_settings = record {
  least_wait = 1000;
  more_wait = 1000;
  beat = 100;
  take = 20;
  plan = 0;
  free = 0;
  reap = 1000;
  compact = 120000;
  look = 250;
  expire = 20000;
  lapse = 60000;
}

abbrev pub default_client_settings : ClientSettings
default_client_settings = record { register = 5000; ping = 5000; pull = 500 }
