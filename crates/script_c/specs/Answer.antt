-- What a run of a script leaves in the buffer of its caller.
use Rattle.std.specs.Prelude.{◌≡◌, ℕ, ◌++◌, true, List, length, take, drop}
use Rattle.std.specs.Global.{Global}
use Rattle.ord_script.specs.declared.script_end.ScriptEnd.{ScriptEnd}
use Rattle.ord_script.specs.Service.{Ends, is_answered, status_of}

-- A script was read, at least its beginning, and all of it if it was answered; and this is the answer, as the end says.
pub record IsAnswered (script : List ℕ) (end : ScriptEnd) (answer : List ℕ) : Type 0 where
  pub read : List ℕ
  pub unread : List ℕ
  pub input : script ≡ read ++ unread
  pub whole : is_answered end ≡ true → read ≡ script
  pub ends : Ends Global end read answer

-- The buffer begins with the answer, as far as there is room, and stays as it was behind it. `counted` is the length of the whole answer.
pub record RunsInto (script before after : List ℕ) (counted status : ℕ) : Type 0 where
  pub end : ScriptEnd
  pub answer : List ℕ
  pub answered : IsAnswered script end answer
  pub exits : status ≡ status_of end
  pub all : counted ≡ length answer
  pub written : after ≡ take (length before) answer ++ drop (length answer) before
