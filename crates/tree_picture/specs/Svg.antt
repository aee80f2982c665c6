-- How a sheet is written as SVG: its head and style, an element for each panel, and the legend. A panel is its caption and its tree. A tree
-- is a line from each parent to each child, an element for each node, and a curve from each entry to the next one of the list.
use Rattle.std.specs.Prelude.{ℕ, ◌+◌, ◌-◌, ◌/◌, ◌==◌, max, if◌then◌else◌, Bool, Option, Some, None, List, [], ◌∷◌, ◌++◌, length, flat_map, slice_get, option_and_then, codes, decimal, string_bytes}
use Rattle.tree_picture.specs.declared.place.{Kind.Kind, Kind.TheVariants.Full, Kind.TheVariants.Uneven, Kind.TheVariants.Slack, Place.Place}
use Rattle.tree_picture.specs.declared.place.TheConstants.{BOX_WIDTH, BOX_HEIGHT}
use Rattle.tree_picture.specs.declared.picture.{Node.Node}
use Rattle.tree_picture.specs.declared.sheet.{Panel.Panel, Sheet.Sheet}
use Rattle.tree_picture.specs.declared.svg.{Links.Links, Links.TheVariants.Hidden, Links.TheVariants.Shown}
use Rattle.tree_picture.specs.declared.svg_parts.TheConstants.{STYLE, FULL_BOX, UNEVEN_BOX, SLACK_BOX, FRAME, EMPTY, LEGEND_NOTE, LEGEND_WIDTH, LEGEND_HEIGHT, LINK_OFFSET, LINK_DEPTH}
use Rattle.tree_picture.specs.{Layout.left_of, Layout.top_of, Layout.text_width, Layout.caption_height, Text.escaped}

-- the middle of a node's box from the left, and its lower end from the top
abbrev pub middle_of : Place → ℕ
middle_of p = left_of p.column + BOX_WIDTH / 2

abbrev pub bottom_of : Place → ℕ
bottom_of p = top_of p.depth + BOX_HEIGHT

-- the beginning of the document, with its size
unfoldable pub head : ℕ → ℕ → List ℕ
head width height = codes "<svg xmlns=\"http://www.w3.org/2000/svg\" class=\"ts\" role=\"img\" width=\"" ++ (decimal width ++ (codes "\" height=\"" ++ (decimal height
    ++ (codes "\" viewBox=\"0 0 " ++ (decimal width ++ (codes " " ++ (decimal height ++ codes "\">\n")))))))

-- the beginning of a group that is moved to a place, and of one that is so many pixels lower
unfoldable pub moved_to : ℕ → ℕ → List ℕ
moved_to left top = codes "<g transform=\"translate(" ++ (decimal left ++ (codes "," ++ (decimal top ++ codes ")\">")))

unfoldable pub lowered : ℕ → List ℕ
lowered top = codes "<g transform=\"translate(0," ++ (decimal top ++ codes ")\">\n")

-- the end of a group
abbrev pub group_end : List ℕ
group_end = codes "</g>\n"

-- a line from one point to another
unfoldable pub line : ℕ → ℕ → ℕ → ℕ → List ℕ
line x y end_x end_y = codes "<line class=\"ts-edge\" x1=\"" ++ (decimal x ++ (codes "\" y1=\"" ++ (decimal y ++ (codes "\" x2=\"" ++ (decimal end_x
    ++ (codes "\" y2=\"" ++ (decimal end_y ++ codes "\"/>\n")))))))

-- the line from a parent to a child
abbrev pub edge_element : Place → Place → List ℕ
edge_element parent child = line (middle_of parent) (bottom_of parent) (middle_of child) (top_of child.depth)

-- a curve that begins at (x, y) and goes down to `low`, and its end, which comes up to another point, with the head of an arrow
unfoldable pub curve_start : ℕ → ℕ → ℕ → List ℕ
curve_start x y low = codes "<path class=\"ts-link\" d=\"M" ++ (decimal x ++ (codes "," ++ (decimal y ++ (codes " C" ++ (decimal x ++ (codes "," ++ (decimal low ++ codes " ")))))))

unfoldable pub curve_end : ℕ → ℕ → ℕ → List ℕ
curve_end low x y = decimal x ++ (codes "," ++ (decimal low ++ (codes " " ++ (decimal x ++ (codes "," ++ (decimal y ++ codes " m-4,6 l4,-6 4,6\"/>\n"))))))

-- the curve from the bottom of an entry's box to that of the next one of the list
abbrev pub link_element : Place → Place → List ℕ
link_element from to =
    let low = max (bottom_of from) (bottom_of to) + LINK_DEPTH in
    curve_start (middle_of from + LINK_OFFSET) (bottom_of from) low ++ curve_end low (middle_of to - LINK_OFFSET) (bottom_of to)

abbrev pub link_from : Option Place → Place → List ℕ
link_from None to = []
link_from (Some from) to = link_element from to

-- a key in the middle of a box, as wide as so many characters are, and a rank in its corner
unfoldable pub key_tag : ℕ → List ℕ
key_tag width = codes "<text class=\"ts-key\" x=\"32\" y=\"19\" textLength=\"" ++ (decimal width ++ codes "\">")

abbrev pub key_element : List ℕ → List ℕ
key_element key = key_tag (text_width key) ++ (escaped key ++ codes "</text>")

unfoldable pub rank_element : ℕ → List ℕ
rank_element rank = codes "<text class=\"ts-rank\" x=\"54\" y=\"10\">" ++ (decimal rank ++ codes "</text>")

-- the box of a kind
abbrev pub box_of : Kind → List ℕ
box_of Full = FULL_BOX.now
box_of Uneven = UNEVEN_BOX.now
box_of Slack = SLACK_BOX.now

-- the frame around the box of a node that has changed
abbrev pub frame_of : Bool → List ℕ
frame_of is_framed = if is_framed then FRAME.now else []

-- a caption above a picture, unless it is empty
unfoldable pub caption_tag : ℕ → List ℕ
caption_tag width = codes "<text class=\"ts-caption\" x=\"20\" y=\"20\" textLength=\"" ++ (decimal width ++ codes "\">")

unfoldable pub caption_text : List ℕ → List ℕ
caption_text caption = caption_tag (text_width caption) ++ (escaped caption ++ codes "</text>\n")

abbrev pub caption_element : List ℕ → List ℕ
caption_element caption = if length caption == 0 then [] else caption_text caption

-- a box of the legend: a kind's name, and by how much its rank exceeds those of both sides
unfoldable pub sample : Kind → ℕ → List ℕ → List ℕ → List ℕ
sample kind left name differences = moved_to left 14 ++ (box_of kind ++ (codes "<text class=\"ts-key\" x=\"32\" y=\"19\">" ++ (name ++ (codes "</text><text class=\"ts-note\" x=\"32\" y=\"40\">" ++ (differences ++ codes "</text></g>\n")))))

-- the legend, so many pixels from the top
unfoldable pub legend : ℕ → List ℕ
legend top = lowered top ++ (LEGEND_NOTE.now ++ (sample Full 20 (codes "full") (codes "1, 1")
    ++ (sample Uneven 96 (codes "uneven") (codes "1, 2") ++ (sample Slack 172 (codes "slack") (codes "2, 2") ++ group_end))))

module _ {P A : Type 0} where
  -- the line from a node's parent to the node, if it has a parent
  abbrev pub edge_from : Option (Node P A) → Place → List ℕ
  edge_from None child = []
  edge_from (Some parent) child = edge_element parent.place child

  abbrev pub edge_of : List (Node P A) → Place → List ℕ
  edge_of nodes child = edge_from (option_and_then (slice_get nodes) child.parent) child

  abbrev pub edges : List (Node P A) → List ℕ
  edges nodes = flat_map (λ n. edge_of nodes n.place) nodes

  -- a node: at its place its frame, if it has one, its box, its key and its rank
  unfoldable pub node_element : Node P A → List ℕ
  node_element n = moved_to (left_of n.place.column) (top_of n.place.depth) ++ (frame_of n.is_framed ++ (box_of n.place.kind ++ (key_element (string_bytes n.key) ++ (rank_element n.place.rank ++ group_end))))

  -- the links of the list, from the entry behind `before` on
  abbrev pub list_links : Option Place → List (Node P A) → List ℕ
  list_links before [] = []
  list_links before (n ∷ ns) = link_from before n.place ++ list_links (Some n.place) ns

  abbrev pub links_shown : Links → List (Node P A) → List ℕ
  links_shown Hidden nodes = []
  links_shown Shown nodes = list_links None nodes

  -- the sign of a tree without nodes
  abbrev pub empty_sign : List (Node P A) → List ℕ
  empty_sign [] = EMPTY.now
  empty_sign (n ∷ ns) = []

  -- a tree: the lines from parents to children, the nodes, and the links of the list, if they are shown
  unfoldable pub tree_element : Links → ℕ → List (Node P A) → List ℕ
  tree_element links top nodes = lowered top ++ (empty_sign nodes ++ (edges nodes ++ (flat_map node_element nodes
      ++ (links_shown links nodes ++ group_end))))

  -- a panel: its caption, and its tree below
  unfoldable pub panel_element : Links → Panel P A → List ℕ
  panel_element links p = moved_to p.left p.top ++ (caption_element (string_bytes p.caption)
      ++ (tree_element links (caption_height (string_bytes p.caption)) p.picture.nodes.items ++ group_end))

  -- a sheet
  unfoldable pub svg_text : Links → Sheet P A → List ℕ
  svg_text links sheet = head (max sheet.width LEGEND_WIDTH) (sheet.height + LEGEND_HEIGHT) ++ (STYLE.now ++ (flat_map (panel_element links) sheet.panels.items
      ++ (legend sheet.height ++ codes "</svg>\n")))
