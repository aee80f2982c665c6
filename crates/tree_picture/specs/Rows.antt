-- Where the next panel of a sheet begins: the panels stand in rows from left to right, three in each.
use Rattle.std.specs.Prelude.{ℕ, ◌==◌, ◌%◌, if◌then◌else◌, length}
use Rattle.tree_picture.specs.declared.sheet.{Sheet.Sheet}
use Rattle.tree_picture.specs.declared.sheet.TheConstants.{PANELS_A_ROW}

module _ {P A : Type 0} where
  -- at the left end if the last row is full, else where that row ends
  abbrev pub next_left : Sheet P A → ℕ
  next_left s = if length s.panels.items % PANELS_A_ROW == 0 then 0 else s.row_end

  -- below all panels if the last row is full, else as far from the top as that row
  abbrev pub next_top : Sheet P A → ℕ
  next_top s = if length s.panels.items % PANELS_A_ROW == 0 then s.height else s.row_top
