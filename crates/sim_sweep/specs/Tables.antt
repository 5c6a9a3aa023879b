-- What runs come to, as text.
use Rattle.std.specs.Prelude.{◌++◌, ◌+◌, ℕ, List, Option, None, Some, codes, decimal}
use Rattle.std.specs.List.{flat_map}
use Rattle.sim_scenario.specs.declared.scenario.Settings.{Settings}
use Rattle.sim_sweep.specs.declared.row.Row.{Row}
use Rattle.sim_sweep.specs.declared.spread.Spread.{Spread}
use Rattle.sim_sweep.specs.declared.summary.Summary.{Summary}

-- ---- a line for each run

abbrev pub csv_head : List ℕ
csv_head = codes "key,leader,term,refused,allocations,running,events,messages\n"

-- `KEY,LEADER,`; no leader is left empty
abbrev pub front_by : ℕ → Option ℕ → List ℕ
front_by key None = decimal key ++ codes ",,"
front_by key (Some leader) = decimal key ++ (codes "," ++ (decimal (leader + 1) ++ codes ","))

abbrev pub front_text : Row → List ℕ
front_text row = front_by row.key row.end.leader

-- `TERM,REFUSED,ALLOCATIONS,RUNNING,EVENTS,MESSAGES`
abbrev pub back_text : Row → List ℕ
back_text row =
    decimal row.end.term ++ (codes "," ++ (decimal row.refused ++ (codes "," ++ (decimal row.end.live ++ (codes ","
    ++ (decimal row.end.running ++ (codes "," ++ (decimal row.end.events ++ (codes ","
    ++ (decimal row.end.messages ++ codes "\n"))))))))))

abbrev pub csv_line : Row → List ℕ
csv_line row = front_text row ++ back_text row

abbrev pub csv_text : List Row → List ℕ
csv_text rows = csv_head ++ flat_map csv_line rows

-- ---- what all runs come to

abbrev pub counts_text : Settings → Summary → List ℕ
counts_text settings s =
    codes "runs " ++ (decimal s.runs ++ (codes " drop " ++ (decimal settings.drop ++ (codes " repeat "
    ++ (decimal settings.repeat ++ (codes "\nwith a leader " ++ (decimal s.led
    ++ (codes "\nwith each allocation running " ++ (decimal s.running ++ (codes "\nwith refused steps "
    ++ (decimal s.refused ++ codes "\n")))))))))))

-- `NAME least L median M greatest G`
abbrev pub spread_line : List ℕ → Spread → List ℕ
spread_line name s =
    name ++ (codes " least " ++ (decimal s.least ++ (codes " median " ++ (decimal s.median ++ (codes " greatest "
    ++ (decimal s.greatest ++ codes "\n"))))))

abbrev pub spreads_text : Summary → List ℕ
spreads_text s =
    spread_line (codes "terms") s.terms
    ++ (spread_line (codes "messages") s.messages ++ spread_line (codes "events") s.events)

abbrev pub summary_text : Settings → Summary → List ℕ
summary_text settings s =
    counts_text settings s ++ (spreads_text s ++ (codes "worst key " ++ (decimal s.worst ++ codes "\n")))
