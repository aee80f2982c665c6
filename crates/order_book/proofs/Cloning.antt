-- The queue of a cloned arena.
use Rattle.std.proofs.Common.{◌≡◌, ℕ, max, [], ◌∷◌, map, refl, ap, ◌∙◌}
use Rattle.sorted_arena.specs.{Chain.greatest_index as greatest_among, Sorted.Sorted}
use Rattle.order_book.specs.{QueueLayout.order_in, QueueLayout.queue_of, Queue.greatest_index, Queue.clone_of, declared.order.Lot.Lot, declared.side.Side.Side}
use Rattle.order_book.proofs.Ranks.{Entries}

module _ {T : Type 0} where
  -- the greatest index among entries is that among their orders
  greatest-found : (side : Side) (es : Entries T) → greatest_among es ≡ greatest_index (map (order_in side) es)
  greatest-found side [] = refl
  greatest-found side (e ∷ es) = ap (max e.index) (greatest-found side es)

  pub cloned-queue : (side : Side) (a new : Sorted ℕ (Lot T)) → new ≡ record a { capacity = greatest_among a.entries } → queue_of side new ≡ clone_of (queue_of side a)
  cloned-queue side a new is = ap (queue_of side) is ∙ ap (λ (n : ℕ). record (queue_of side a) { capacity = n }) (greatest-found side a.entries)
