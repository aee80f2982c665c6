-- Indexes of entries are never 0.
use Rattle.std.proofs.Common.{◌≡◌, ◌≢◌, ℕ, ◌≤◌, Option, List, arith, is_some, true}
use Rattle.chain_base.specs.{Chain.Entry, Chain.Chain, Chain.entry_at, Chain.times, Chain.IsSound, Insert.IsInsertion}
use Rattle.ord_tree.proofs.LeafBranches.{times-indexes, within-occupied}

module _ {T : Type 0} (most : ℕ) (greatest : Option ℕ) (c : Chain T) (sound : IsSound most greatest c) where
  -- the index of an entry
  pub index-named : (i : ℕ) → is_some (entry_at c.entries i) ≡ true → i ≢ 0
  index-named i there = λ e.
      let once : 1 ≤ times i c.entries = omega (arith, within-occupied c.entries i there, times-indexes c.entries i) in
      omega (arith, (sound.within i once).0, e)

  -- the index of a new entry
  pub inserted-named : (room : Chain T) (place : Entry T → List (Entry T)) (item : T) (i era : ℕ) → IsInsertion room c place item i era → i ≢ 0
  inserted-named room place item i era insertion = λ e. omega (arith, insertion.vacant.above, e)
