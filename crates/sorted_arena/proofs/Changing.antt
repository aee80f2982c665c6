-- What insertions and removals make of a sorted arena.
use Rattle.std.proofs.Common.{◌≡◌, ℕ, ◌<◌, ◌≤◌, max, ◌++◌, List, [], ◌∷◌, Option, Some, Result, Ok, Err, OnOk, OnErr, subst, refl, sym, ap, ◌∙◌, arith, append-nil}
use Rattle.std.specs.{Option.option_map}
use Rattle.std.specs.Prelude.{IsErr, ◌↔◌}
use Rattle.std.proofs.Common.{Bool, true, false, nat_lt, if◌then◌else◌}
use Rattle.std.specs.declared.cmp.Ordering.{Ordering}
use Rattle.listing.specs.{PlainArena.doubled_capacity, Tree.Tree, Shape.missing, Clone.cloned}
use Rattle.listing.specs.Chain.{Entry, Chain, times, last_pointer, chain_limit, with_capacity, greatest_index, new_chain}
use Rattle.listing.proofs.ChainLemmas.{after-insertion, times-append}
use Rattle.listing.specs.Arena.{with_room_for}
use Rattle.listing.specs.{Insertion.with_room_by, Insertion.InsertsNew, Growth.TheVariants.Reallocating}
use Rattle.listing.specs.{Gap.with_between, Place.behind_key}
use Rattle.listing.proofs.OrdLemmas.{entries-with_room_by}
use Rattle.sorted_arena.specs.Layout.{item_key, IsHeld, IsCompact}
use Rattle.sorted_arena.proofs.Numbering.{none-behind, compact-inserted, compact-roomy, compact-resized, vacant-numbered}

-- a new entry behind all others leaves an arena compact
module _ {K V : Type 0} (cmp : K → K → Ordering) (most : ℕ) (old new : Tree (K × V)) (k : K) (v : V) (p : ℕ × ℕ)
    (inserts : InsertsNew item_key cmp most Reallocating (behind_key k) old (k, v) p new) where
  abbrev entry : Entry (K × V)
  entry = record { index = p.0; generation = p.1; item = (k, v) }

  abbrev room : Chain (K × V)
  room = with_room_by Reallocating most old.list

  pub compact-put : IsCompact old.list → option_map (λ (q : ℕ × ℕ). q.0) (last_pointer new.list.entries) ≡ Some p.0 → IsCompact new.list
  compact-put compact last =
      let listed : new.list.entries ≡ inserts.gap.front ++ entry ∷ inserts.gap.back = ap (λ (c : Chain (K × V)). c.entries) (after-insertion room new.list (with_between inserts.gap) (k, v) p.0 p.1 inserts.inserted).1 in
      let roomy = entries-with_room_by Reallocating most old.list in
      let unused : times p.0 (inserts.gap.front ++ inserts.gap.back) ≡ 0 = ap (times p.0) (sym inserts.gap.cut ∙ sym roomy) ∙ inserts.inserted.vacant.free in
      let none : inserts.gap.back ≡ [] = none-behind inserts.gap.front entry inserts.gap.back (omega (arith, unused, times-append p.0 inserts.gap.front inserts.gap.back))
      (ap (λ (es : List (Entry (K × V))). option_map (λ (q : ℕ × ℕ). q.0) (last_pointer es)) (sym listed) ∙ last) in
      let front : room.entries ≡ inserts.gap.front = roomy ∙ inserts.gap.cut ∙ ap (λ (es : List (Entry (K × V))). inserts.gap.front ++ es) none ∙ append-nil inserts.gap.front in
      compact-inserted room new.list (with_between inserts.gap) (λ e. ap (λ (es : List (Entry (K × V))). inserts.gap.front ++ e ∷ es) none ∙ ap (λ (es : List (Entry (K × V))). es ++ e ∷ []) (sym front)) (k, v) p.0 p.1
      (compact-roomy most Reallocating old.list compact) inserts.inserted

-- a call that is refused leaves an arena compact
pub compact-refused : {T X E : Type 0} (old new : Tree T) (r : Result X E) → OnErr r (new ≡ old) → IsErr r → IsCompact old.list → IsCompact new.list
compact-refused old new (Ok x) same refused compact = absurd (cc)
compact-refused old new (Err e) same refused compact = subst (λ (t : Tree _). IsCompact t.list) (sym same) compact

-- an arena with other room, if memory wasn't refused
pub held-resized : {K V E : Type 0} (cmp : K → K → Ordering) (is_compact : Bool) (old new : Tree (K × V)) (n : ℕ) (r : Result (Unit {0}) E)
    → OnOk r (new ≡ record old { list = with_capacity old.list (max n (greatest_index old.list.entries)) }) → OnErr r (new ≡ old) → IsHeld cmp is_compact old → IsHeld cmp is_compact new
held-resized cmp is_compact old new n (Ok u) made same held = subst (λ (t : Tree _). IsHeld cmp is_compact t) (sym made) (record {
  order = record { sorted = held.order.sorted; unlimited = held.order.unlimited };
  compact = λ is. compact-resized old.list (max n (greatest_index old.list.entries)) (held.compact is).numbered;
})
held-resized cmp is_compact old new n (Err e) made same held = subst (λ (t : Tree _). IsHeld cmp is_compact t) (sym same) held

-- an arena with room reserved, if memory wasn't refused
pub held-reserved : {K V E : Type 0} (cmp : K → K → Ordering) (is_compact : Bool) (most : ℕ) (old new : Tree (K × V)) (needed : ℕ) (r : Result (Unit {0}) E)
    → OnOk r (new ≡ record old { list = with_room_for most old.list needed }) → OnErr r (new ≡ old) → IsHeld cmp is_compact old → IsHeld cmp is_compact new
held-reserved cmp is_compact most old new needed (Ok u) made same held = subst (λ (t : Tree _). IsHeld cmp is_compact t) (sym made) (go (nat_lt old.list.capacity needed))
  where
    size : ℕ
    size = max needed (doubled_capacity (chain_limit most old.list) old.list.capacity)

    go : (b : Bool) → IsHeld cmp is_compact (record old { list = if b then with_capacity old.list size else old.list })
    go true = record {
      order = record { sorted = held.order.sorted; unlimited = held.order.unlimited };
      compact = λ is. compact-resized old.list size (held.compact is).numbered;
    }
    go false = held
held-reserved cmp is_compact most old new needed (Err e) made same held = subst (λ (t : Tree _). IsHeld cmp is_compact t) (sym same) held

-- what a call owes that is refused only if there are fewer vacant slots than it wants
pub owed-appended : {X E : Type 0} (P : Type 0) (wanted capacity : ℕ) (r : Result X E) → (IsErr r ↔ (capacity < wanted)) → wanted ≤ capacity → OnOk r P → P
owed-appended P wanted capacity (Ok x) full fits owed = owed
owed-appended P wanted capacity (Err e) full fits owed = absurd (let less = full.0 refl in omega arith)

-- a clone has its source's entries and a fresh free list
pub held-cloned : {K V : Type 0} (cmp : K → K → Ordering) (is_compact : Bool) (greatest : Option ℕ) (source : Tree (K × V)) → IsHeld cmp is_compact source
    → IsHeld cmp is_compact (cloned source (record { list = new_chain greatest; shape = missing }))
held-cloned cmp is_compact greatest source held = record {
  order = record { sorted = held.order.sorted; unlimited = refl };
  compact = λ is.
      let numbered = (held.compact is).numbered in
      record { numbered = numbered; free = vacant-numbered source.list.entries numbered (max 0 (greatest_index source.list.entries)) };
}
