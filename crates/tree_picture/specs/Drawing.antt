-- How a picture is written as text: a line for each level of the tree, and between two levels a line that joins each node to its parent. A
-- column has as many characters as the widest label, and one more.
use Rattle.std.specs.Prelude.{◌≡◌, ℕ, zero, suc, ◌+◌, ◌-◌, ◌/◌, ◌==◌, nat_lt, max, if◌then◌else◌, Bool, false, Option, Some, None, List, [], ◌∷◌, ◌++◌, length, flat_map, codes, encode_utf8, decimal, string_bytes, String, Result, OnOk}
use Rattle.std.specs.{List.repeat, Str.chars, Str.trim_end}
use Rattle.tree_picture.specs.declared.place.{Kind.Kind, Kind.TheVariants.Full, Kind.TheVariants.Uneven, Kind.TheVariants.Slack, Place.Place}
use Rattle.tree_picture.specs.declared.picture.{Node.Node, Picture.Picture}

-- what is appended to a text if the call returns `Ok`
abbrev pub Adds : {E A : Type 0} → Result (Unit {0}) E → String A → String A → List ℕ → Type 0
Adds result old new more = OnOk result (string_bytes new ≡ string_bytes old ++ more)

-- a key and a rank, between brackets that show the kind
abbrev pub label_of : Kind → List ℕ → ℕ → List ℕ
label_of Full key rank = codes "[" ++ (key ++ (codes ":" ++ (decimal rank ++ codes "]")))
label_of Uneven key rank = codes "(" ++ (key ++ (codes ":" ++ (decimal rank ++ codes ")")))
label_of Slack key rank = codes "<" ++ (key ++ (codes ":" ++ (decimal rank ++ codes ">")))

-- the bytes of `─`
abbrev pub dash : List ℕ
dash = 226 ∷ 148 ∷ 128 ∷ []

-- so many blanks, or dashes where a line is drawn
abbrev pub stroke : Bool → ℕ → List ℕ
stroke is_drawn n = if is_drawn then repeat n dash else repeat n (codes " ")

-- half of a number, rounded up
abbrev pub half_up : ℕ → ℕ
half_up n = n - n / 2

-- a label in the middle of its column
abbrev pub label_cell : ℕ → List ℕ → List ℕ
label_cell width label = stroke false (half_up (width - length (chars label))) ++ label ++ stroke false ((width - length (chars label)) / 2) ++ codes " "

-- whether a column is left of another one, if there is another one
abbrev pub is_left_of : ℕ → Option ℕ → Bool
is_left_of column None = false
is_left_of column (Some other) = nat_lt column other

-- whether a node is its parent's lesser child: it is left of it
abbrev pub is_lesser : Place → Bool
is_lesser p = is_left_of p.column p.parent

-- Whether the line below the level at `depth` goes on behind a node, if `before` says whether it is drawn up to the node. It goes from a
-- lesser child to its parent, and from a parent to its greater child.
abbrev pub goes_on : ℕ → Place → Bool → Bool
goes_on depth p before = if p.depth == depth then p.has_greater else (if p.depth == depth + 1 then is_lesser p else before)

-- the character at a parent, and at a child, by whether the line is drawn up to it and behind it
abbrev pub parent_sign : Bool → Bool → ℕ
parent_sign before behind = if before then (if behind then 9524 else 9496) else (if behind then 9492 else 32)

abbrev pub child_sign : Bool → ℕ
child_sign behind = if behind then 9484 else 9488

abbrev pub sign_at : ℕ → Place → Bool → Bool → List ℕ
sign_at depth p before behind =
    if p.depth == depth then encode_utf8 (parent_sign before behind)
    else (if p.depth == depth + 1 then encode_utf8 (child_sign behind) else stroke before 1)

-- a row as a line, without the blanks at its end; and nothing for a row of blanks
abbrev pub line_of : List ℕ → List ℕ
line_of row = trim_end row ++ codes "\n"

abbrev pub line_unless_blank : List ℕ → List ℕ
line_unless_blank row = if length (trim_end row) == 0 then [] else line_of row

module _ {P A : Type 0} where
  -- a node's key and rank
  abbrev pub label_text : Node P A → List ℕ
  label_text n = label_of n.place.kind (string_bytes n.key) n.place.rank

  -- the number of characters of the widest label
  abbrev pub widest_label : List (Node P A) → ℕ
  widest_label [] = 0
  widest_label (n ∷ ns) = max (length (chars (label_text n))) (widest_label ns)

  -- a column of the level at `depth`, and the whole level
  abbrev pub level_cell : ℕ → ℕ → Node P A → List ℕ
  level_cell width depth n = if n.place.depth == depth then label_cell width (label_text n) else stroke false width ++ codes " "

  abbrev pub level_cells : ℕ → ℕ → List (Node P A) → List ℕ
  level_cells width depth nodes = flat_map (level_cell width depth) nodes

  -- the line below that level, from a node on
  abbrev pub branch_cells : ℕ → ℕ → Bool → List (Node P A) → List ℕ
  branch_cells width depth before [] = []
  branch_cells width depth before (n ∷ ns) =
      (stroke before (half_up width) ++ sign_at depth n.place before (goes_on depth n.place before) ++ stroke (goes_on depth n.place before) (width / 2))
      ++ branch_cells width depth (goes_on depth n.place before) ns

  -- the lines of a level: the level itself, and what joins it to the next one
  abbrev pub level_lines : ℕ → List (Node P A) → ℕ → List ℕ
  level_lines width nodes depth = line_of (level_cells width depth nodes) ++ line_unless_blank (branch_cells width depth false nodes)

  -- the lines of the levels above a depth
  abbrev pub levels_above : ℕ → List (Node P A) → ℕ → List ℕ
  levels_above width nodes zero = []
  levels_above width nodes (suc depth) = levels_above width nodes depth ++ level_lines width nodes depth

  -- a picture as text
  abbrev pub drawing : Picture P A → List ℕ
  drawing picture = levels_above (widest_label picture.nodes.items) picture.nodes.items picture.levels
