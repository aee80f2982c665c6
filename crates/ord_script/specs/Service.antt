-- The answer to a script, and how much of it is written.
use Rattle.std.specs.Prelude.{◌≡◌, ℕ, ◌+◌, ◌<◌, ◌≤◌, ◌||◌, Bool, true, false, List, [], ◌∷◌, ◌++◌, length, map, codes, Option, Some, None, Result, is_err}
use Rattle.std.specs.Io.KnownBytes.{Consumes, Appends}
use Rattle.ord_script.specs.{Pairs.Pair, Pairs.PairReply, Pairs.reading, Pairs.beginning, Pairs.script_calls, declared.fault.Fault.Fault}
use Rattle.ord_script.specs.{Text.form_of, Text.reply_lines, Text.fault_line, declared.script_end.ScriptEnd.ScriptEnd, Devices.limit}
use Rattle.ord_script.specs.Script.{Script, script_of}
use Rattle.ord_script.specs.{Devices.WritesAll, declared.writing.WriteFailed.WriteFailed}
use Rattle.ord_script.specs.declared.script_end.ScriptEnd.TheVariants as ends
use Rattle.ord_machine.specs.Machine.{State, Runs}

-- The text answers the script: it has the replies of a run of its commands from an empty arena, and then its fault.
pub record Answers (A : Type 0) (script : Script) (text : List ℕ) : Type 0 where
  pub replies : List (PairReply A)
  pub end : State Pair
  pub run : Runs reading script_calls beginning tt script.commands replies end tt
  pub lines : text ≡ reply_lines (map form_of script.commands) replies ++ fault_line script.fault

-- the end of a script if nothing fails
abbrev pub end_of : Option Fault → ScriptEnd
end_of None = ends.Done
end_of (Some fault) = ends.Fault fault.line fault.kind

-- What an end means for the bytes that were read and for those that were written.
abbrev pub Ends : (A : Type 0) → ScriptEnd → List ℕ → List ℕ → Type 0
-- the whole answer
Ends A ends.Done read written =
    ((script_of read).fault ≡ None) × Answers A (script_of read) written × (length read ≤ limit)
Ends A (ends.Fault line kind) read written =
    ((script_of read).fault ≡ Some (record { line = line; kind = kind }))
    × Answers A (script_of read) written × (length read ≤ limit)
-- a beginning of the answer, but not all of it
Ends A ends.WriteFailed read written =
    (rest : List ℕ) × (0 < length rest) × Answers A (script_of read) (written ++ rest) × (length read ≤ limit)
-- nothing, because the input went beyond the limit, memory for it or for the answer was refused, or a read up to the limit failed
Ends A ends.TooLong read written = (length read ≡ limit + 1) × (written ≡ [])
Ends A ends.Memory read written = (length read ≤ limit + 1) × (written ≡ [])
Ends A ends.ReadFailed read written = (length read ≤ limit) × (written ≡ [])

-- Bytes were read and written as the end says.
pub record Serves (A : Type 0) (end : ScriptEnd) (unread unread' contents contents' : Option (List ℕ)) : Type 0 where
  pub read : List ℕ
  pub written : List ℕ
  pub reads : Consumes unread unread' read
  pub writes : Appends contents contents' written
  pub ends : Ends A end read written

-- the whole input was read, and at least a part of the answer may be written
abbrev pub is_answered : ScriptEnd → Bool
is_answered ends.TooLong = false
is_answered ends.Memory = false
is_answered ends.ReadFailed = false
is_answered end = true

abbrev pub is_read_failed : ScriptEnd → Bool
is_read_failed ends.ReadFailed = true
is_read_failed end = false

abbrev pub is_write_failed : ScriptEnd → Bool
is_write_failed ends.WriteFailed = true
is_write_failed end = false

-- the exit status of a program that ends so
abbrev pub status_of : ScriptEnd → ℕ
status_of ends.Done = 0
status_of (ends.Fault line kind) = 2
status_of ends.TooLong = 3
status_of ends.Memory = 4
status_of ends.ReadFailed = 5
status_of ends.WriteFailed = 6

-- what such a program says on standard error, if anything
abbrev pub message_of : ScriptEnd → List ℕ
message_of ends.Done = []
message_of (ends.Fault line kind) = []
message_of ends.TooLong = codes "ordrun: input too long"
message_of ends.Memory = codes "ordrun: out of memory"
message_of ends.ReadFailed = codes "ordrun: read failed"
message_of ends.WriteFailed = codes "ordrun: write failed"

-- a text as a line, which ends with a line feed; an empty text has no line
abbrev pub line_of : List ℕ → List ℕ
line_of [] = []
line_of (b ∷ text) = b ∷ text ++ 10 ∷ []

-- The message was written as a line, or a beginning of that line if a write failed. A watched device has failed if this write failed or an
-- earlier one did.
pub record Reports (end : ScriptEnd) (old_failed new_failed : Bool) (contents contents' : Option (List ℕ)) : Type 0 where
  pub wrote : Result (Unit {0}) WriteFailed
  pub writes : WritesAll wrote contents contents' (line_of (message_of end))
  pub failed : new_failed ≡ (old_failed || is_err wrote)
