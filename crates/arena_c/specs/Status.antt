-- The statuses of the calls.
use Rattle.std.specs.Prelude.{ℕ}

abbrev pub ok : ℕ
ok = 0

abbrev pub not_found : ℕ
not_found = 1

abbrev pub full : ℕ
full = 2

abbrev pub no_memory : ℕ
no_memory = 3

abbrev pub closed : ℕ
closed = 4

abbrev pub equal_key : ℕ
equal_key = 5

abbrev pub out_of_order : ℕ
out_of_order = 6

abbrev pub already_open : ℕ
already_open = 7
