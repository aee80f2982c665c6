-- The numbers of indexes.
use Rattle.std.specs.{Prelude.ℕ, Prelude.Option, Prelude.Some, Prelude.None, Prelude.◌==◌, Prelude.if◌then◌else◌, Option.option_and_then}

-- an index as a number; 0 names nothing
abbrev pub index_number : ℕ → Option ℕ
index_number n = if n == 0 then None else Some n

-- an optional index after it was stored as an index: 0 becomes None
abbrev pub named_of : Option ℕ → Option ℕ
named_of i = option_and_then index_number i
