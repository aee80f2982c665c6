-- How programs end.
use Rattle.std.specs.Prelude.{◌≡◌, ◌⊎◌, ℕ}
use Rattle.std.specs.Process.{exit_status}
use Rattle.line_service.specs.declared.failure.{Failure.Failure, Failure.TheVariants.Arguments, Failure.TheVariants.Reading, Failure.TheVariants.Writing, Failure.TheVariants.Memory}
use Rattle.line_service.specs.declared.parsing.{Request.Request, Request.TheVariants.Run, Request.TheVariants.End}

-- the exit status of a program that fails so, as sysexits.h has it
abbrev pub status_of : Failure → ℕ
status_of Arguments = 64
status_of (Reading error) = 74
status_of (Writing error) = 74
status_of Memory = 71

-- Memory was refused.
abbrev pub IsOfMemory : Failure → Type 0
IsOfMemory failure = failure ≡ Memory

-- Reading the arguments failed, or memory for them was refused.
abbrev pub IsOfArguments : Failure → Type 0
IsOfArguments failure = (failure ≡ Arguments) ⊎ IsOfMemory failure

-- Reading or writing failed, or memory was refused.
abbrev pub IsOfStreams : Failure → Type 0
IsOfStreams failure = (status_of failure ≡ 74) ⊎ (status_of failure ≡ 71)

-- A request to end asks for status 0, or for 64 after a mistake.
abbrev pub Ends : Request → Type 0
Ends (Run matches) = Unit {0}
Ends (End status) = (exit_status status ≡ 0) ⊎ (exit_status status ≡ 64)

-- the exit statuses of programs that answer lines
abbrev pub IsEnding : ℕ → Type 0
IsEnding status = (status ≡ 0) ⊎ ((status ≡ 64) ⊎ ((status ≡ 71) ⊎ (status ≡ 74)))
