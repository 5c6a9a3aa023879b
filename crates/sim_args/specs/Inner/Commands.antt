-- What a private function makes of a command.
use Rattle.std.specs.Prelude.{◌≡◌, Result, IfOk, IfErr, false}
use Rattle.clap.specs.Words.{App, app_of, kind_of}
use Rattle.clap.specs.declared.builder.command.Command.{Command}
use Rattle.clap.specs.declared.builder.command.Command.TheViews.{out-Command}
use Rattle.clap.specs.declared.error.Error.{Error}
use Rattle.clap.specs.declared.error.kind.ErrorKind.TheVariants.{OutOfMemory}

-- a command that reads like this one, with no argument that is global, or want of memory
abbrev pub IsMade : App → Result Command Error → Type 0
IsMade app made =
    IfOk made (λ c. (app_of c ≡ app) × ((out-Command c).has_globals ≡ false))
    × IfErr made (λ e. kind_of e ≡ OutOfMemory)
