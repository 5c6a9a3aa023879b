-- What a run may end by: for the words of its command line, for a short scenario, and for how many
-- messages are to be lost and repeated.
use Rattle.std.specs.Prelude.{◌≡◌, ◌⊎◌, ◌+◌, ◌<◌, ⊤, ℕ, Bool, true, false, List, map}
use Rattle.std.specs.Str.{IsUtf8}
use Rattle.clap.specs.Words.{IsAmong, Kinds, kind_of}
use Rattle.rows.specs.declared.refusal.Refusal.{Refusal}
use Rattle.rows.specs.declared.refusal.Refusal.TheVariants as refusals
use Rattle.sim_expand.specs.Checked.{IsBadShortText}
use Rattle.sim_files.specs.Faults.{MayStopPrinting}
use Rattle.sim_scenario.specs.declared.scenario.Settings.{Settings}
use Rattle.sim_expand.specs.declared.short.ShortScenario.{ShortScenario}
use Rattle.sim_expand.specs.Plains.{IsPlainOf, plain_form}
use Rattle.sim_expand.specs.ShortSteps.{short_step}
use Rattle.sim_expand.specs.Shorts.{IsShortText}
use Rattle.sim_expand.specs.Stops.{CanBeExpanded}
use Rattle.sim_files.specs.declared.fault.Fault.{Fault}
use Rattle.sim_files.specs.declared.fault.Fault.TheVariants.{CommandLine, BadScenario, NoSuchEvent, NoSuchStride, NoRoom, Percentages, NoMemory, Output}
use Rattle.sim_draw.specs.declared.fault.DrawError.{DrawError}
use Rattle.sim_draw.specs.declared.fault.DrawError.TheVariants as drawings
use Rattle.sim_inspect.specs.declared.fault.InspectError.{InspectError}
use Rattle.sim_inspect.specs.declared.fault.InspectError.TheVariants as looks
use Rattle.sim_recovery.specs.declared.fault.RecoveryError.{RecoveryError}
use Rattle.sim_recovery.specs.declared.fault.RecoveryError.TheVariants as ways
use Rattle.sim_inspect.specs.declared.inspecting.Form.{Form}
use Rattle.sim_inspect.specs.declared.inspecting.Form.TheVariants as forms
use Rattle.runner.specs.Expansions.{TakesLines}

-- a fault of the words is one of those found in them
abbrev pub IsFound : Kinds → Fault → Type 0
IsFound found (CommandLine error) = IsAmong (kind_of error) found
IsFound found _ = ⊤

-- the lines that a short scenario takes have no plain form
abbrev pub HasNoPlain : ShortScenario → Type 0
HasNoPlain s =
    (lines : List (List ℕ)) × TakesLines s lines
    × ¬ IsPlainOf (plain_form s.settings s.nodes.items lines) s.settings s.nodes.items lines

-- the text comes to no plain one: it is no short scenario; or its steps can't be expanded; or what
-- they take has no plain form
abbrev pub HasNoForm : List ℕ → Type 0
HasNoForm text =
    ((s : ShortScenario) → ¬ IsShortText text s)
    ⊎ ((s : ShortScenario) × IsShortText text s
    × ((¬ CanBeExpanded s.settings s.nodes.items (map short_step s.steps.items)) ⊎ HasNoPlain s))

-- why a text is not expanded: there is no memory, or it comes to no plain one
abbrev pub WhyNotExpanded : List ℕ → Refusal → Type 0
WhyNotExpanded text refusal = (refusal ≡ refusals.NoMemory) ⊎ ((refusal ≡ refusals.OutOfRange) × HasNoForm text)

-- of bytes: there is no memory, which is said only where they are UTF-8; or they are none, or the
-- text comes to no plain one
abbrev pub WhyNoText : List ℕ → Refusal → Type 0
WhyNoText bytes refusal =
    ((refusal ≡ refusals.NoMemory) × IsUtf8 bytes)
    ⊎ ((refusal ≡ refusals.OutOfRange) × ((¬ IsUtf8 bytes) ⊎ HasNoForm bytes))

abbrev pub MayStopExpanding : List ℕ → Fault → Type 0
MayStopExpanding bytes fault =
    ((fault ≡ NoMemory) × IsUtf8 bytes) ⊎ ((fault ≡ BadScenario) × ((¬ IsUtf8 bytes) ⊎ HasNoForm bytes))

-- of bytes that are looked at as a scenario in short form: there is no memory, or the output failed;
-- or they are no UTF-8, or none with which nothing is wrong
abbrev pub MayStopShort : List ℕ → Fault → Type 0
MayStopShort bytes fault =
    MayStopPrinting fault ⊎ ((fault ≡ BadScenario) × ((¬ IsUtf8 bytes) ⊎ IsBadShortText bytes))

-- of settings under which more than a hundred of a hundred messages are lost or repeated: it says
-- how many
abbrev pub AreTooMany : Settings → Fault → Type 0
AreTooMany settings fault =
    (fault ≡ Percentages settings.drop settings.repeat) × (100 < settings.drop + settings.repeat)

-- ---- of a run that is looked at

-- what a picture or a page fails with; a group of a transcript's size is one, so that memory is
-- wanting where there is none
abbrev pub drawing_fault : DrawError → Fault
drawing_fault drawings.Output = Output
drawing_fault drawings.NoMemory = NoMemory
drawing_fault drawings.Group = NoMemory

-- what a look at a run of so many events fails with
abbrev pub seeing_fault : InspectError → ℕ → Fault
seeing_fault looks.Output events = Output
seeing_fault looks.NoSuchEvent events = NoSuchEvent events
seeing_fault looks.NoMemory events = NoMemory
seeing_fault looks.Group events = NoMemory

-- what a way back of a group after so many events fails with
abbrev pub way_fault : RecoveryError → ℕ → Fault
way_fault ways.NoMemory events = NoMemory
way_fault ways.Group events = NoMemory
way_fault ways.NoRoom events = NoRoom
way_fault ways.TooMany events = NoSuchStride events

-- the form that is wanted where JSON is wanted or not
abbrev pub form_in : Bool → Form
form_in true = forms.Json
form_in false = forms.Text
