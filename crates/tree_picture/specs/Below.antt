-- The parts of a shape below its links. No public clause cites this file.
use Rattle.std.specs.Prelude.{ℕ, ◌==◌, nat_lt, if◌then◌else◌, Option, None, Some}
use Rattle.triple_ord.specs.{Shape.Shape, Shape.missing, Shape.node, Slots.times_in}

-- the part of the shape whose root has this index; nothing, if no node has it
abbrev pub part_at : Shape → ℕ → Shape
part_at missing i = missing
part_at (node l j k r) i = if j == i then node l j k r else (if nat_lt 0 (times_in i l) then part_at l i else part_at r i)

-- the part of the shape below a link
abbrev pub part_below : Shape → Option ℕ → Shape
part_below s None = missing
part_below s (Some i) = part_at s i
