-- An entry moves to another place in the list, and keeps its index, generation and item.
use Rattle.std.specs.Prelude.{◌≡◌, ℕ, ◌≤◌, List, Option, Some, None}
use Rattle.arena_base.specs.Arena.{Arena, slot}
use Rattle.chain_base.specs.{Chain.Entry, Chain.Chain, Chain.times, Chain.entry_at, Chain.link_at, Chain.without, Link.Link}

module _ {T : Type 0} where
  -- the list with an entry of index i, if there is one, put into it by `place`
  abbrev pub list_with : (List (Entry T) → Entry T → List (Entry T)) → ℕ → Option (ℕ × T) → List (Entry T) → List (Entry T)
  list_with place i None es = es
  list_with place i (Some e) es = place es (record { index = i; generation = e.0; item = e.1 })

  -- c without the entry at index i in its list; the index isn't vacant
  abbrev pub without_entry : Chain T → ℕ → Chain T
  without_entry c i = record c { entries = without i c.entries }

  -- c with the entry at index i moved: `place` puts it into the list without it
  abbrev pub with_entry_moved : Chain T → ℕ → (List (Entry T) → Entry T → List (Entry T)) → Chain T
  with_entry_moved c i place = record c { entries = list_with place i (entry_at c.entries i) (without i c.entries) }

  -- The slots of these entries hold their links. No public clause uses this definition.
  abbrev pub HoldsLinks : Arena (Link T) → List (Entry T) → Type 0
  HoldsLinks a es = (i : ℕ) → 1 ≤ times i es → slot a i ≡ link_at es i
