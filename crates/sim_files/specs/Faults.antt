-- The exit status of a fault, and what a run may end by for what it reads and prints.
use Rattle.std.specs.Prelude.{◌≡◌, ◌⊎◌, ℕ, List, ⊤}
use Rattle.clap.specs.Words.{kind_of}
use Rattle.clap.specs.declared.error.Error.{Error}
use Rattle.clap.specs.declared.error.kind.ErrorKind.TheVariants as kinds
use Rattle.sim_ending.specs.declared.fault.EndError.{EndError}
use Rattle.sim_ending.specs.declared.fault.EndError.TheVariants as ends
use Rattle.sim_files.specs.declared.fault.Fault.{Fault}
use Rattle.sim_files.specs.declared.hint.Hint.{Hint}
use Rattle.sim_files.specs.declared.fault.Fault.TheVariants.{CommandLine, CannotRead, CannotWrite, BadScenario, BadTranscript, NoSuchEvent, NoSuchStride, NoRoom, Percentages, NoMemory, Output}
use Rattle.event_texts.specs.Transcripts.{IsFault, IsTranscript, Recorded}

-- the words ask for help, or for the version
abbrev pub IsHelp : Error → Type 0
IsHelp error = (kind_of error ≡ kinds.DisplayHelp) ⊎ (kind_of error ≡ kinds.DisplayVersion)

abbrev pub IsStatus : Fault → ℕ → Type 0
IsStatus (CommandLine error) status = (IsHelp error × (status ≡ 0)) ⊎ ((¬ IsHelp error) × (status ≡ 2))
IsStatus (CannotRead name) status = status ≡ 2
IsStatus (CannotWrite name) status = status ≡ 2
IsStatus BadScenario status = status ≡ 2
IsStatus (BadTranscript place hint) status = status ≡ 2
IsStatus (NoSuchEvent events) status = status ≡ 2
IsStatus (NoSuchStride events) status = status ≡ 2
IsStatus NoRoom status = status ≡ 2
IsStatus (Percentages lost repeated) status = status ≡ 2
IsStatus NoMemory status = status ≡ 3
IsStatus Output status = status ≡ 2

-- it is no fault of the words
abbrev pub IsOfRun : Fault → Type 0
IsOfRun (CommandLine error) = ⊥
IsOfRun _ = ⊤

-- it is no fault of what is read: of a file, or of what that has
abbrev pub IsPastReading : Fault → Type 0
IsPastReading (CannotRead name) = ⊥
IsPastReading BadScenario = ⊥
IsPastReading (BadTranscript place hint) = ⊥
IsPastReading (Percentages lost repeated) = ⊥
IsPastReading _ = ⊤

-- of a run of which not all last lines are told
abbrev pub end_fault : EndError → Fault
end_fault ends.NoMemory = NoMemory
end_fault ends.Output = Output

-- of what is read of a scenario: there is no memory, or it is none
abbrev pub MayStopReading : Type 0 → Fault → Type 0
MayStopReading Is fault = (fault ≡ NoMemory) ⊎ ((fault ≡ BadScenario) × ¬ Is)

-- where something is printed too: or the output failed
abbrev pub MayStopPrinting : Fault → Type 0
MayStopPrinting fault = (fault ≡ NoMemory) ⊎ (fault ≡ Output)

-- of bytes that are read as a transcript: there is no memory, or they are at fault at that place and
-- no transcript
abbrev pub MayStopTranscript : List ℕ → Fault → Type 0
MayStopTranscript bytes fault =
    (fault ≡ NoMemory)
    ⊎ ((at : ℕ) × (hint : Hint) × (fault ≡ BadTranscript at hint) × IsFault bytes at
    × ((r : Recorded) → ¬ IsTranscript r bytes))
