-- A chain in an arena: the list is found by following the links. No public clause cites this file.
use Rattle.std.specs.Prelude.{◌≡◌, ℕ, zero, suc, ◌==◌, Bool, false, if◌then◌else◌, List, [], ◌∷◌, length, Option, Some, None, is_some, count_by, slice_index_or}
use Rattle.std.specs.Option.{option_map}
use Rattle.arena_base.specs.Arena.{Arena, slot, with_slot, arena_capacity}
use Rattle.chain_base.specs.{Chain.Entry, Chain.Chain, Chain.IsDistinct, Chain.first_or, Chain.last_or, Chain.link_at, Link.Link}

-- the option names this index
abbrev pub names : Option ℕ → ℕ → Bool
names None i = false
names (Some j) i = j == i

module _ {T : Type 0} where
  -- the entry with another next neighbour, or another previous one
  abbrev pub with_next : Option ℕ → ℕ × Link T → ℕ × Link T
  with_next next e = (e.0, record e.1 { next = next })

  abbrev pub with_prev : Option ℕ → ℕ × Link T → ℕ × Link T
  with_prev prev e = (e.0, record e.1 { prev = prev })

  -- the arena after the entry at this index, if one is given, got another next neighbour
  abbrev pub linked_next : Arena (Link T) → Option ℕ → Option ℕ → Arena (Link T)
  linked_next a None next = a
  linked_next a (Some i) next = with_slot a i (option_map (with_next next) (slot a i))

  -- the arena after the entry at this index, if one is given, got another previous neighbour
  abbrev pub linked_prev : Arena (Link T) → Option ℕ → Option ℕ → Arena (Link T)
  linked_prev a None prev = a
  linked_prev a (Some i) prev = with_slot a i (option_map (with_prev prev) (slot a i))

  -- an entry without its neighbours
  abbrev pub entry_in : Option (ℕ × Link T) → Option (ℕ × T)
  entry_in o = option_map (λ e. (e.0, e.1.item)) o

  -- the arena with another item in the link of one slot
  abbrev pub rewritten : Arena (Link T) → ℕ → T → Arena (Link T)
  rewritten a i item = with_slot a i (option_map (λ e. (e.0, record e.1 { item = item })) (slot a i))

  -- what an index holds after the entry `left` got the next neighbour `next`, and `right` the previous one `prev`
  abbrev pub relinked : Option ℕ → Option ℕ → Option ℕ → Option ℕ → ℕ → Option (ℕ × Link T) → Option (ℕ × Link T)
  relinked left next right prev i o =
      let forward = if names left i then option_map (with_next next) o else o in
      if names right i then option_map (with_prev prev) forward else forward

  -- the entry in a slot, followed by the entries on the way from its next index
  abbrev pub met : ℕ → Option (ℕ × Link T) → (Option ℕ → List (Entry T)) → List (Entry T)
  met i None rest = []
  met i (Some e) rest = record { index = i; generation = e.0; item = e.1.item } ∷ rest e.1.next

  -- the entries on the way from this index, at most n of them
  abbrev pub entries_met : (ℕ → Option (ℕ × Link T)) → ℕ → Option ℕ → List (Entry T)
  entries_met at zero link = []
  entries_met at (suc n) None = []
  entries_met at (suc n) (Some i) = met i (at i) (entries_met at n)

  -- the chain in an arena, if this is the index of its first entry
  abbrev pub chain_of : Arena (Link T) → Option ℕ → Chain T
  chain_of a first =
      record {
        entries = entries_met (slot a) (length a.slots) first;
        capacity = arena_capacity a;
        vacant = a.vacant;
        generation = a.generation;
        maximum = a.maximum;
      }

  -- these entries are in the slots, linked in this order from the first index to the last
  pub record IsLaidOut (slots : List (Option (ℕ × Link T))) (first last : Option ℕ) (es : List (Entry T)) : Type 0 where
    pub links : (i : ℕ) → slice_index_or slots i None ≡ link_at es i
    pub distinct : IsDistinct es
    pub first_is : first ≡ first_or None es
    pub last_is : last ≡ last_or None es
    pub counted : count_by is_some slots ≡ length es
