-- The bounds on the visits of a search, given what the marks of a state say about its shape.
use Rattle.std.proofs.Common.{ℕ, Option, Some, None, IfNone, length}
use Rattle.triple_ord.specs.Tree.{Tree}
use Rattle.triple_ord.specs.VisitBounds as visits
use Rattle.ord_machine.specs.Machine.{Marks, State, AreTrue, IsWithinBoundsByMarks, IsWithinHintedBoundsByMarks}

module _ {T : Type 0} (t : Tree T) (marks : Marks) (holds : AreTrue marks t.shape) where
  -- the state of this tree and these marks
  abbrev marked : State T
  marked = record { tree = t; marks = marks }

  pub within_bounds : (c : ℕ) → visits.IsWithinBounds (length t.list.entries) t.shape c → IsWithinBoundsByMarks marked c
  within_bounds c b =
      record { always = b.ranked; inserted = λ e. b.tight (holds.only_inserted e); built = λ e. b.rebuilt (holds.just_built e); empty = b.empty }

  pub within_hinted : (num c : ℕ) → visits.IsWithinHintedBounds (length t.list.entries) t.shape num c → IsWithinHintedBoundsByMarks marked num c
  within_hinted num c b =
      record { steps = b.steps; search = b.search; sum = b.sum; few = b.few; within = b.within; bounded = within_bounds b.search b.bounded }

  -- the bounds without a hint
  pub within_unhinted : {X : Type 0} (hint : Option X) (c : ℕ) → IfNone hint (visits.IsWithinBounds (length t.list.entries) t.shape c) → IfNone hint (IsWithinBoundsByMarks marked c)
  within_unhinted None c b = within_bounds c b
  within_unhinted (Some x) c b = tt
