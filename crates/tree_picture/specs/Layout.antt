-- Where the nodes of a tree stand in its picture.
use Rattle.std.specs.Prelude.{ℕ, ◌+◌, ◌*◌, ◌==◌, ◌&&◌, nat_lt, if◌then◌else◌, min, max, Option, Some, List, [], ◌∷◌, ◌++◌, length}
use Rattle.std.specs.Str.{chars}
use Rattle.triple_ord.specs.Shape.{Shape, missing, node, rank_of, size_of}
use Rattle.tree_picture.specs.declared.place.{Kind.Kind, Kind.TheVariants.Full, Kind.TheVariants.Uneven, Kind.TheVariants.Slack, Place.Place}
use Rattle.tree_picture.specs.declared.sheet.TheConstants.{CAPTION_CHARS, CAPTION_HEIGHT, CHARACTER_WIDTH}
use Rattle.tree_picture.specs.declared.place.TheConstants.{COLUMN_WIDTH, LEVEL_HEIGHT, MARGIN}

-- the kind of a node of rank k over sides of ranks l and r
abbrev pub kind_of : ℕ → ℕ → ℕ → Kind
kind_of k l r = if (k == l + 1) && (k == r + 1) then Full else (if (k == l + 2) && (k == r + 2) then Slack else Uneven)

-- The places of the nodes of a shape, in order, from this column on, at this depth, under a parent in the column `above`, if any. Both
-- sides of a node stand under it, one level deeper.
abbrev pub laid : ℕ → ℕ → Option ℕ → Shape → List Place
laid from depth above missing = []
laid from depth above (node l i k r) =
    let at = from + size_of l in
    laid from (depth + 1) (Some at) l
    ++ record { column = at; depth = depth; rank = k; kind = kind_of k (rank_of l) (rank_of r); parent = above; has_greater = nat_lt 0 (size_of r) }
    ∷ laid (at + 1) (depth + 1) (Some at) r

-- where the box of a node in this column begins from the left, and of one at this depth from the top
abbrev pub left_of : ℕ → ℕ
left_of column = MARGIN + COLUMN_WIDTH * column

abbrev pub top_of : ℕ → ℕ
top_of depth = MARGIN + LEVEL_HEIGHT * depth

-- the size of the picture of so many nodes, and of so many levels; the gap below the last level is its lower margin
abbrev pub width_of : ℕ → ℕ
width_of nodes = 2 * MARGIN + COLUMN_WIDTH * nodes

abbrev pub height_of : ℕ → ℕ
height_of levels = MARGIN + LEVEL_HEIGHT * levels

-- the width of a key or a caption, of which so many characters at most are shown
abbrev pub text_width : List ℕ → ℕ
text_width text = CHARACTER_WIDTH * min (length (chars text)) CAPTION_CHARS

-- how far below its caption's upper end a picture begins
abbrev pub caption_height : List ℕ → ℕ
caption_height caption = if length caption == 0 then 0 else CAPTION_HEIGHT

-- the size of a picture of so many nodes, or of so many levels, with its caption
abbrev pub panel_width : List ℕ → ℕ → ℕ
panel_width caption nodes = max (width_of nodes) (2 * MARGIN + text_width caption)

abbrev pub panel_height : List ℕ → ℕ → ℕ
panel_height caption levels = caption_height caption + height_of levels
