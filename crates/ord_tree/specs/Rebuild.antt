-- The states of a rebuild: what the stack of open runs says about the shape that is being built. No public clause cites this file.
use Rattle.std.specs.Prelude.{◌≡◌, ℕ, ◌+◌, ◌^◌, ◌<◌, ◌≤◌, ◌⊎◌, Option, None, Some, List, [], ◌∷◌, ◌++◌, length, IsSome}
use Rattle.ord_tree.specs.{declared.tree_links.Side.TheVariants.Lesser, declared.tree_links.Side.TheVariants.Greater, Numbers.HasDigits}
use Rattle.ord_tree.specs.{Slots.Slots, Slots.Holds, Slots.Way, Slots.top, Slots.up, Slots.plug, Slots.times_in, Leaf.list_head}
use Rattle.ord_tree.specs.{declared.tree_links.TreeLinks.TreeLinks, Shape.Shape, Shape.size_of, Shape.walk, declared.tree_links.Side.Side}
use Rattle.ord_tree.specs.{declared.rebuild.Frame.Frame, Half.IsHalf}

-- the nodes after the end of a path, in order
abbrev pub ahead : Way → List ℕ
ahead top = []
ahead (up Lesser i k far rest) = i ∷ walk far ++ ahead rest
ahead (up Greater i k far rest) = ahead rest

-- the path doesn't end on a greater side
abbrev pub IsFacing : Way → Type 0
IsFacing top = Unit {0}
IsFacing (up Lesser i k far rest) = Unit {0}
IsFacing (up Greater i k far rest) = ⊥

-- s is the shape to build, from nodes that exist: a half with top rank q
pub record IsPlan (at : Slots) (q : ℕ) (s : Shape) : Type 0 where
  pub half : IsHalf q s
  pub few : size_of s < 2 ^ 64
  pub once : (j : ℕ) → times_in j s ≤ 1
  pub there : (j : ℕ) → 0 < times_in j s → IsSome (at j)

-- there are at most as many frames as the length of the whole list has binary digits
abbrev pub IsFew : List Frame → Shape → Type 0
IsFew frames s = (d : ℕ) → HasDigits (size_of s) d → length frames ≤ d

module _ (at : Slots) where
  -- What the frame of a run says if its root is i, of rank k. On the lesser side of i, i was not met yet. On its greater side, i was met,
  -- has its rank and leads to its finished lesser side.
  abbrev pub IsMiddle : Side → ℕ → ℕ → Shape → Option ℕ → Type 0
  IsMiddle Lesser i k far middle = middle ≡ None
  IsMiddle Greater i k far middle =
      (middle ≡ Some i) × (n : TreeLinks ℕ) × (at i ≡ Some n) × (n.back ≡ None) × (n.rank ≡ k) × Holds at (Some i) n.lesser far

  -- the frames are those of the runs on a path with n nodes at its end, the innermost last
  abbrev pub IsStack : Way → ℕ → List Frame → Type 0
  IsStack top n frames = frames ≡ []
  IsStack (up side i k far rest) n frames =
      (below : List Frame) × (f : Frame) × (frames ≡ below ++ f ∷ []) × IsMiddle side i k far f.middle
      × (f.len ≡ n + 1 + size_of far) × IsStack rest (n + 1 + size_of far) below

-- at the end of the path is a run that no frame and no link refers to yet
pub record IsUnopened (at : Slots) (frames : List Frame) (s : Shape) (len : ℕ) (todo : List ℕ) : Type 0 where
  pub way : Way
  pub run : Shape
  pub whole : plug way run ≡ s
  pub stack : IsStack at way (size_of run) frames
  pub size : len ≡ size_of run
  pub todo_is : walk run ++ ahead way ≡ todo

-- the part at the end of the path is finished, and its root is the link
pub record IsFinished (at : Slots) (frames : List Frame) (s : Shape) (link : Option ℕ) (todo : List ℕ) : Type 0 where
  pub way : Way
  pub done : Shape
  pub whole : plug way done ≡ s
  pub stack : IsStack at way (size_of done) frames
  pub held : Holds at None link done
  pub todo_is : ahead way ≡ todo

-- the part at the end of the path is finished, and the innermost run waits for its middle
pub record IsWaiting (at : Slots) (frames : List Frame) (s : Shape) (link : Option ℕ) (todo : List ℕ) : Type 0 where
  pub finished : IsFinished at frames s link todo
  pub facing : IsFacing finished.way

-- the run is unopened; if it is empty, the innermost run waits for its middle
pub record IsOpening (at : Slots) (frames : List Frame) (s : Shape) (len : ℕ) (todo : List ℕ) : Type 0 where
  pub unopened : IsUnopened at frames s len todo
  pub facing : (0 < len) ⊎ IsFacing unopened.way

-- A step of a rebuild at level q. Each plan stays a plan. For each planned shape and rest of the list of which `Before` is true, `After`
-- is true afterwards. The list of the nodes stays.
pub record Builds {L : Type 0} (q : ℕ) (Before After : Shape → List ℕ → Type 0) (old new : Slots) (list_old list_new : L) : Type 0 where
  pub plan : (s : Shape) → IsPlan old q s → IsPlan new q s
  pub after : (s : Shape) (todo : List ℕ) → IsPlan old q s → Before s todo → After s todo
  pub kept : list_new ≡ list_old

-- the first `position` entries of the list are met, and the target is the next one
pub record IsPassing (at : Slots) (frames : List Frame) (s : Shape) (order : List ℕ) (link : Option ℕ) (position : ℕ) (target : Option ℕ) : Type 0 where
  pub met : List ℕ
  pub todo : List ℕ
  pub split : order ≡ met ++ todo
  pub count : length met ≡ position
  pub target_is : target ≡ list_head todo
  pub ready : IsWaiting at frames s link todo
