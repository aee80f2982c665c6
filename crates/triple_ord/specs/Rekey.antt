-- An entry that moves to the place of its key, with a new item or its own.
use Rattle.std.specs.{Prelude.◌≡◌, Prelude.ℕ, Prelude.◌≤◌, Prelude.◌⊎◌, Prelude.None, Prelude.Option, Prelude.Result, Prelude.IfErr, Prelude.OnErr, declared.cmp.Ordering.Ordering}
use Rattle.ord_tree.specs.{Chain.IsSound, Chain.without, Tree.Tree, Tree.with_item, Move.IsRearranged}
use Rattle.triple_ord.specs.{Arena.item_of, Arena.count, Gap.Gap, Gap.with_between, Gap.neighbour_count, Place.LiesBehind, Order.IsInOrder}

-- The entry of p has the item, and is in a gap of the other entries that lies behind the item's key. Nothing else changes.
pub record Rekeys {T K : Type 0} (key : T → K) (cmp : K → K → Ordering) (old : Tree T) (p : ℕ × ℕ) (item : T) (new : Tree T) : Type 0 where
  pub gap : Gap (without p.0 old.list.entries)
  pub place : LiesBehind key cmp gap (key item)
  pub entries : new.list.entries ≡ with_between gap (record { index = p.0; generation = p.1; item = item })
  pub kept : new.list ≡ record old.list { entries = new.list.entries }
  pub shape : (new.shape ≡ old.shape) ⊎ IsRearranged old.shape new.shape

-- The same, by a search for the gap with c visits, which has seen the keys of the entries beside the gap.
pub record RekeysCounted {T K : Type 0} (key : T → K) (cmp : K → K → Ordering) (old : Tree T) (p : ℕ × ℕ) (item : T) (c : ℕ) (new : Tree T) : Type 0 where
  pub rekeys : Rekeys key cmp old p item new
  pub seen : neighbour_count rekeys.gap ≤ c

-- What a call does that moves the entry of p, or gives back what it was given if p names no entry. Nothing changes then.
pub record MovesOrReturns {T A B : Type 0} (most : ℕ) (greatest : Option ℕ) (old : Tree T) (p : ℕ × ℕ) (given : B) (result : Result A B) (new : Tree T) : Type 0 where
  pub sound : IsSound most greatest old.list
  pub stale : OnErr result (item_of old p ≡ None)
  pub back : IfErr result (λ back. back ≡ given)
  pub refused : OnErr result (new ≡ old)
  pub count : count new ≡ count old

-- If the other entries are in the order of their keys, all entries are afterwards, whatever key the entry had. This also holds if the
-- item of the entry was written over since all entries were in order.
pub record RekeyOrderLaw {T K : Type 0} (key : T → K) (cmp : K → K → Ordering) : Type 0 where
  pub restored : (old new : Tree T) (p : ℕ × ℕ) (item : T)
      → IsInOrder key cmp (without p.0 old.list.entries) → Rekeys key cmp old p item new → IsInOrder key cmp new.list.entries
  pub kept : (old new : Tree T) (p : ℕ × ℕ) (item : T)
      → IsInOrder key cmp old.list.entries → Rekeys key cmp old p item new → IsInOrder key cmp new.list.entries
  pub rewritten : (old new : Tree T) (p : ℕ × ℕ) (written item : T)
      → IsInOrder key cmp old.list.entries → Rekeys key cmp (with_item old p.0 written) p item new → IsInOrder key cmp new.list.entries
