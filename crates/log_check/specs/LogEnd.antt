-- How a write-ahead log ends. The log is SQLite's: its page "Database File Format" describes it under "The Write-Ahead Log"; `sqlite_wal` has the words for its header,
-- its frames, and the frames that recovery takes (`Replays`): those up to the last commit before the first frame with a wrong salt or checksum.
use Rattle.std.specs.Prelude.{◌≡◌, ◌⊎◌, ◌+◌, ◌<◌, ◌≤◌, ◌==◌, ℕ, if◌then◌else◌, List, length, slice_index}
use Rattle.sqlite_wal.specs.Format.{IsSigned}
use Rattle.sqlite_wal.specs.Recovery.{frame_at, header, Replays}

-- The byte that closes a gate: 0, or 1 if the salt begins with 0, which would open it.
abbrev pub closed_byte : ℕ → ℕ
closed_byte salt = if salt == 0 then 1 else 0

-- The gate at this place is in the log, and closed.
pub record HasClosedGate (gate : ℕ) (log : List ℕ) : Type 0 where
  pub present : gate < length log
  pub closed : slice_index log gate ≡ closed_byte (slice_index log 16)

-- The header is intact, recovery takes so many frames, and the gate of the frame behind them is closed.
pub record EndsClosed (page_size frames : ℕ) (log : List ℕ) : Type 0 where
  pub long : 32 ≤ length log
  pub signed : IsSigned (header log)
  pub taken : Replays page_size log frames
  pub gate : HasClosedGate (frame_at page_size frames + 8) log

-- The log is empty or its own gate, the first byte, is closed; or it ends behind a commit with a closed gate.
abbrev pub IsWhole : ℕ → List ℕ → Type 0
IsWhole page_size log = (slice_index log 0 ≡ 0) ⊎ ((frames : ℕ) × EndsClosed page_size frames log)
