-- An order that comes to rest in a ladder comes to rest in its queue.
use Rattle.std.proofs.Common.{◌≡◌, ℕ, ◌∷◌, ◌++◌, map, Some, refl, sym, ap, subst, ◌∙◌, ◌<◌, ◌≤◌, nat_lt, length, if◌then◌else◌}
use Rattle.std.proofs.{lemmas.List.map-append, lemmas.List.length-map}
use Rattle.std.specs.{List.AllByRecursion, Option.option_map}
use Rattle.sorted_arena.specs.Chain.{Entry, IsDistinct as AreDistinct}
use Rattle.sorted_arena.specs.Sorted.{Sorted}
use Rattle.sorted_arena.specs.PlainArena.{doubled_capacity}
use Rattle.sorted_arena.proofs.CallerLemmas.{all-back, all-both, get-free}
use Rattle.order_book.specs.QueueLayout.{most_price, ranked, order_in, queue_of, IsLawful, AreLawful}
use Rattle.order_book.specs.Queue.{Rests, Updates, IsNoWorse, IsWorse, most_entries, resting}
use Rattle.order_book.specs.Ladder.{IsPut}
use Rattle.order_book.specs.{declared.order.Lot.Lot, declared.side.Side.Side}
use Rattle.order_book.proofs.Ranks.{no_worse-ahead, worse-ranked, ranked-twice, recursion-map}
use Rattle.order_book.proofs.Naming.{order_under, order_of-found, updates-found}
use Rattle.order_book.proofs.Places.{updates-between}

module _ {T : Type 0} where
  module _ (side : Side) (old new : Sorted ℕ (Lot T)) (p : ℕ × ℕ) where
    module _ (rank : ℕ) (lot : Lot T) (puts : IsPut old p rank lot new) (lawful : AreLawful old.entries) where
      abbrev entry : Entry (ℕ × Lot T)
      entry = record { index = p.0; generation = p.1; item = (rank, lot) }

      cut : AreLawful (puts.front ++ puts.back)
      cut = subst AreLawful puts.before lawful

      ahead : AllByRecursion (λ x. IsNoWorse side x.price (ranked side rank)) (map (order_in side) puts.front)
      ahead = recursion-map (order_in side) (λ (e : Entry (ℕ × Lot T)). e.item.0 ≤ rank) (λ x. IsNoWorse side x.price (ranked side rank))
          (λ e most. no_worse-ahead side e.item.0 rank most) puts.front puts.at_most_before

      behind : AllByRecursion (λ x. IsWorse side x.price (ranked side rank)) (map (order_in side) puts.back)
      behind = recursion-map (order_in side) (λ (e : Entry (ℕ × Lot T)). IsWorse side (ranked side e.item.0) (ranked side rank)) (λ x. IsWorse side x.price (ranked side rank))
          (λ e worse. worse) puts.back (all-both (λ (e : Entry (ℕ × Lot T)). rank < e.item.0) (λ (e : Entry (ℕ × Lot T)). IsLawful e.item) (λ (e : Entry (ℕ × Lot T)). IsWorse side (ranked side e.item.0) (ranked side rank))
          (λ e more bounded. worse-ranked side e.item.0 rank bounded.price more) puts.back puts.greater_behind
          (all-back (λ (e : Entry (ℕ × Lot T)). IsLawful e.item) puts.front puts.back cut))

      rests-put : AreDistinct old.entries → new.capacity ≡ (if nat_lt (length old.entries) old.capacity then old.capacity else doubled_capacity most_entries old.capacity)
          → Rests (queue_of side old) (ranked side rank) lot.quantity lot.tag p (queue_of side new)
      rests-put distinct capacity = record {
        ahead = map (order_in side) puts.front;
        later = map (order_in side) puts.back;
        before = ap (map (order_in side)) puts.before ∙ map-append (order_in side) puts.front puts.back;
        after = ap (map (order_in side)) puts.after ∙ map-append (order_in side) puts.front (entry ∷ puts.back);
        no_worse_ahead = ahead;
        worse_behind = behind;
        unused = order_of-found side old.entries distinct p ∙ ap (option_map (order_under side p)) (get-free old p puts.free);
        of_generation = puts.free.of_generation;
        generation = puts.generation;
        side = refl;
        capacity = capacity ∙ ap (λ n. if nat_lt n old.capacity then old.capacity else doubled_capacity most_entries old.capacity) (sym (length-map old.entries (order_in side)));
      }

    -- at the rank of a price
    module _ (price : ℕ) (lot : Lot T) (bounded : price ≤ most_price) (puts : IsPut old p (ranked side price) lot new) where
      pub rests-inserted : AreLawful old.entries → AreDistinct old.entries
          → new.capacity ≡ (if nat_lt (length old.entries) old.capacity then old.capacity else doubled_capacity most_entries old.capacity)
          → Rests (queue_of side old) price lot.quantity lot.tag p (queue_of side new)
      rests-inserted lawful distinct capacity = subst (λ n. Rests (queue_of side old) n lot.quantity lot.tag p (queue_of side new)) (ranked-twice side price bounded)
          (rests-put (ranked side price) lot puts lawful distinct capacity)

      pub updates-inserted : AreDistinct old.entries → AreDistinct new.entries → Updates (queue_of side old) (queue_of side new) p (Some (resting side p price lot.quantity lot.tag))
      updates-inserted before after = subst (λ n. Updates (queue_of side old) (queue_of side new) p (Some (resting side p n lot.quantity lot.tag))) (ranked-twice side price bounded)
          (updates-found side old new p (Some (ranked side price, lot)) before after
          (updates-between old new p (ranked side price, lot) puts.front puts.back puts.before puts.after puts.free.unused))
