-- What the program tells at exit status 0 and 1.
use Rattle.std.specs.Prelude.{◌≡◌, ◌⊎◌, ◌+◌, ◌≤◌, ℕ, Bool, true, false, List, [], Option, None, Some, IfSome, decimal, length, map, option_and_then, option_map, string_bytes, take, unwrap_or}
use Rattle.std.specs.Io.KnownBytes.{Appends}
use Rattle.rows.specs.declared.actor.Actor.{Actor}
use Rattle.world.specs.GroupView.{GroupView, nodes_of, renumbered}
use Rattle.cells.specs.Cells.{CellView}
use Rattle.cluster.specs.Closing.{ClosesTo}
use Rattle.event_texts.specs.Transcripts.{IsTranscript, Recorded, recorded}
use Rattle.event_texts.specs.declared.transcript.Transcript.{Transcript}
use Rattle.transcript.specs.Records.{record_of}
use Rattle.runner.specs.Pages.{GrowsByPage}
use Rattle.sim_draw.specs.Pictures.{GrowsByPicture}
use Rattle.sim_inspect.specs.Told.{GrowsByLines}
use Rattle.sim_tell.specs.Told.{GrowsByEventLines}
use Rattle.sim_recovery.specs.declared.recovering.Recovery.{Recovery}
use Rattle.sim_recovery.specs.declared.table.Table.{Table}
use Rattle.sim_recovery.specs.Recoveries.{IsRecovery, IsTable}
use Rattle.sim_recovery.specs.Tables.{recovery_text, table_text}
pub use Rattle.sim_args.specs.Words.{AskFor, AskForThreads, words_fault}
use Rattle.sim_args.specs.declared.command.CommandLine.{CommandLine}
use Rattle.sim_args.specs.declared.command.CommandLine.TheVariants.{Run, Threads, Replay, Draw, Check, Tell, Inspect, Recover, Expand, Sweep}
use Rattle.sim_args.specs.declared.command.SweepWords.{SweepWords}
use Rattle.sim_scenario.specs.declared.scenario.Scenario.{Scenario}
use Rattle.sim_scenario.specs.declared.scenario.Settings.{Settings}
use Rattle.sim_scenario.specs.Complaints.{IsGood}
use Rattle.sim_scenario.specs.Objects.{IsScenarioText, step_lines}
use Rattle.sim_play.specs.Played.{Refused}
use Rattle.sim_expand.specs.Checked.{IsGoodShortText}
use Rattle.sim_sweep.specs.declared.row.Row.{Row}
use Rattle.sim_sweep.specs.declared.summary.Summary.{Summary}
use Rattle.sim_sweep.specs.Rows.{AreRows}
use Rattle.sim_sweep.specs.Summaries.{IsSummary}
use Rattle.sim_sweep.specs.Tables.{csv_text, summary_text}
use Rattle.sim_files.specs.Notes.{TellsNotes}
use Rattle.sim_files.specs.Plays.{TellsPlay}
use Rattle.sim_files.specs.Refusals.{TellsRun}
use Rattle.sim_files.specs.Replays.{TellsReplay}
use Rattle.runner.specs.Expansions.{IsExpansion}
use Rattle.runner.specs.Faults.{AskForHelp}
use Rattle.runner.specs.ThreadSteps.{LinesOnThreads}

-- ---- scenarios

-- A scenario was played on threads, each of whose lines is a step's: that of the file, where its
-- bytes are known. Each of its steps came to the cells of a group of its size and nodes. All that
-- these noted, each event once, is what happened to the group to which they close. Told are the
-- steps that were refused, and the last lines of that group; and of that the transcript is, where
-- the bytes of that are known.
pub record TellsThreads (file written : Option (List ℕ)) (status : ℕ) (old new : Option (List ℕ)) : Type 0 where
  pub scenario : Scenario
  pub read : IfSome file (λ text. IsScenarioText text scenario)
  pub good : IsGood scenario
  pub all : List Actor
  pub refused : List Refused
  pub played : LinesOnThreads scenario.settings.servers all (step_lines scenario) refused
  pub cells : List CellView
  pub group : GroupView
  pub closes : ClosesTo all cells group
  pub size : length group.servers ≡ scenario.settings.servers
  pub nodes : nodes_of group ≡ renumbered 1 scenario.nodes.items
  pub recorded : IfSome written (IsTranscript (record_of group))
  pub told : TellsRun refused group status old new

-- ---- transcripts

-- the output grows by a page of a run of so many servers, clients and events, which has the name of
-- the file at this path, or by a picture
abbrev pub ShowsRun : Bool → List ℕ → ℕ → ℕ → ℕ → Option (List ℕ) → Option (List ℕ) → Type 0
ShowsRun true path servers clients events old new = GrowsByPage path servers clients events old new
ShowsRun false path servers clients events old new = GrowsByPicture servers clients events old new

-- a transcript was drawn, as a page or as a picture: that of the file at this path, where its bytes
-- are known
pub record TellsPicture (path : List ℕ) (file : Option (List ℕ)) (html : Bool) (status : ℕ) (old new : Option (List ℕ)) : Type 0 where
  pub recorded : Recorded
  pub read : IfSome file (IsTranscript recorded)
  pub picture : ShowsRun html path recorded.servers (length recorded.nodes) (length recorded.events) old new
  pub taken : status ≡ 0

-- a transcript was told event by event: that of the file, where its bytes are known
pub record TellsEach (file : Option (List ℕ)) (status : ℕ) (old new : Option (List ℕ)) : Type 0 where
  pub transcript : Transcript
  pub read : IfSome file (IsTranscript (recorded transcript))
  pub lines : GrowsByEventLines transcript.servers transcript.nodes.items transcript.events.items old new
  pub taken : status ≡ 0

-- after how many of so many events, by what was given: after all, where nothing was
abbrev pub IsAfter : Option (List ℕ) → ℕ → ℕ → Type 0
IsAfter None all after = after ≡ all
IsAfter (Some word) all after = (word ≡ decimal after) × (after ≤ all)

-- it was told how a transcript's group stands: that of the file, where its bytes are known, after
-- as many of its events as were asked for
pub record TellsStanding (file at : Option (List ℕ)) (status : ℕ) (old new : Option (List ℕ)) : Type 0 where
  pub recorded : Recorded
  pub read : IfSome file (IsTranscript recorded)
  pub after : ℕ
  pub asked : IsAfter at (length recorded.events) after
  pub lines : GrowsByLines old new
  pub taken : status ≡ 0

-- a whole number from 1 on
abbrev pub IsStride : List ℕ → ℕ → Type 0
IsStride word every = (word ≡ decimal every) × (1 ≤ every)

-- what is told of a run's group after so many of its events: what brings it back from there; or,
-- where a number was given, from each so many-th moment up to there
abbrev pub IsWayText : Option (List ℕ) → Recorded → ℕ → List ℕ → Type 0
IsWayText None r after text =
    (way : Recovery) × IsRecovery r.servers r.nodes (take after r.events) way
    × (text ≡ recovery_text after (length r.events) way.leader way.counts (map string_bytes way.lines.items))
IsWayText (Some word) r after text =
    (every : ℕ) × (table : Table) × IsStride word every
    × IsTable r.servers r.nodes (take after r.events) every table
    × (text ≡ table_text table.rows.items table.farthest.after)

-- it was told what brings a transcript's group back: that of the file, where its bytes are known,
-- after as many of its events as were asked for
pub record TellsWay (file at every : Option (List ℕ)) (status : ℕ) (old new : Option (List ℕ)) : Type 0 where
  pub recorded : Recorded
  pub read : IfSome file (IsTranscript recorded)
  pub after : ℕ
  pub asked : IsAfter at (length recorded.events) after
  pub text : List ℕ
  pub way : IsWayText every recorded after text
  pub shown : Appends old new text
  pub taken : status ≡ 0

-- ---- short scenarios

-- nothing is wrong with a scenario in short form, which is that of the file, where its bytes are
-- known; and nothing is told
pub record TellsGoodShort (file : Option (List ℕ)) (status : ℕ) (old new : Option (List ℕ)) : Type 0 where
  pub text : List ℕ
  pub read : IfSome file (λ known. text ≡ known)
  pub good : IsGoodShortText text
  pub silent : new ≡ old
  pub taken : status ≡ 0

-- the same of one in short form, or else of a plain one, of which notes are told
abbrev pub TellsCheck : Bool → Option (List ℕ) → ℕ → Option (List ℕ) → Option (List ℕ) → Type 0
TellsCheck true file status old new = TellsGoodShort file status old new
TellsCheck false file status old new = TellsNotes file status old new

-- the output grows by the plain form of a text: that of the file, where its bytes are known
pub record TellsPlain (file : Option (List ℕ)) (status : ℕ) (old new : Option (List ℕ)) : Type 0 where
  pub text : List ℕ
  pub read : IfSome file (λ known. text ≡ known)
  pub form : List ℕ
  pub expansion : IsExpansion text form
  pub shown : Appends old new form
  pub taken : status ≡ 0

-- ---- many keys

-- a scenario's settings, but for what the words of a sweep say in their place
abbrev pub settings_under : Settings → SweepWords → Settings
settings_under own words = record own { drop = unwrap_or words.drop own.drop; repeat = unwrap_or words.repeat own.repeat }

-- these are they, and no more than a hundred of a hundred messages are lost or repeated
pub record IsUnder (own : Settings) (words : SweepWords) (settings : Settings) : Type 0 where
  pub said : settings ≡ settings_under own words
  pub within : settings.drop + settings.repeat ≤ 100

-- the output grows by a line for each of these runs; or by what they come to, of no run by nothing
abbrev pub ShowsRows : Bool → Settings → List Row → Option (List ℕ) → Option (List ℕ) → Type 0
ShowsRows true settings rows old new = Appends old new (csv_text rows)
ShowsRows false settings rows old new =
    ((rows ≡ []) × (new ≡ old))
    ⊎ ((s : Summary) × IsSummary rows s × Appends old new (summary_text settings s))

-- A scenario was played under many keys, each of whose lines is a step's: that of the file, where
-- its bytes are known. There is a row for each key, which says how the run under that key ended;
-- told is each of them, or what they come to.
pub record TellsSweep (file : Option (List ℕ)) (words : SweepWords) (status : ℕ) (old new : Option (List ℕ)) : Type 0 where
  pub scenario : Scenario
  pub read : IfSome file (λ text. IsScenarioText text scenario)
  pub good : IsGood scenario
  pub settings : Settings
  pub under : IsUnder scenario.settings words settings
  pub rows : List Row
  pub are : AreRows scenario settings words.keys.first words.keys.count rows
  pub shown : ShowsRows words.csv settings rows old new
  pub taken : status ≡ 0

-- ---- the program

-- what is told of what a line asks for, `before` and `after` being the known files
abbrev pub Tells : (before after : List ℕ → Option (List ℕ)) → CommandLine → ℕ → Option (List ℕ) → Option (List ℕ) → Type 0
Tells before after (Run file out) status old new =
    TellsPlay (before file.now) (option_and_then after (option_map (λ t. t.now) out)) status old new
Tells before after (Threads file workers out) status old new =
    TellsThreads (before file.now) (option_and_then after (option_map (λ t. t.now) out)) status old new
Tells before after (Replay file) status old new = TellsReplay (before file.now) status old new
Tells before after (Draw file html) status old new = TellsPicture file.now (before file.now) html status old new
Tells before after (Check file short) status old new = TellsCheck short (before file.now) status old new
Tells before after (Tell file) status old new = TellsEach (before file.now) status old new
Tells before after (Inspect file at json) status old new =
    TellsStanding (before file.now) (option_map (λ k. k.now) at) status old new
Tells before after (Recover file at every) status old new =
    TellsWay (before file.now) (option_map (λ k. k.now) at) (option_map (λ n. n.now) every) status old new
Tells before after (Expand file) status old new = TellsPlain (before file.now) status old new
Tells before after (Sweep file words) status old new = TellsSweep (before file.now) words status old new

-- the words ask for help, and the status is 0; or that is told for which they ask
abbrev pub TellsFor : List (List ℕ) → (before after : List ℕ → Option (List ℕ)) → ℕ → Option (List ℕ) → Option (List ℕ) → Type 0
TellsFor words before after status old new =
    (AskForHelp (words_fault words) × (status ≡ 0))
    ⊎ ((line : CommandLine) × AskFor words line × Tells before after line status old new)
