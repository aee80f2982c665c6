-- What a step does to the list: all that the laws of pointers and keys use.
use Rattle.std.proofs.Common.{◌≡◌, ◌≢◌, ℕ, zero, suc, ◌+◌, ◌<◌, Bool, false, List, [], ◌∷◌, ◌++◌, ◌⊎◌, inl, inr, length, map, take, Option, Some, None, IsSome, is_some, Result, Ok, refl, sym, ap, subst, ◌∙◌, arith, length-append}
use Rattle.std.proofs.{lemmas.Bool.Decides.eqb_tells, lemmas.List.length-map, lemmas.Cmp.tied_itself}
use Rattle.std.specs.declared.cmp.Ordering.{Ordering, TheVariants.Less, TheVariants.Equal, TheVariants.Greater}
use Rattle.std.specs.Cmp.{IsTotalOrder}
use Rattle.triple_ord.specs.InvalidationResult.TheVariants.{Success, GenerationOverflow, InvalidPtr}
use Rattle.triple_ord.specs.{Generation.next_generation, PlainArena.item_if}
use Rattle.triple_ord.specs.Chain.{Entry, Chain, renewed, removed, times, IsDistinct, entry_at, item_of, without, with_item_among, with_generation}
use Rattle.triple_ord.specs.{ChainCompression.at_compressed_index, ChainCompression.numbered, Insert.IsInsertion}
use Rattle.triple_ord.proofs.ChainLemmas.{after-insertion, entry_at-absent, entry_at-between_other, generation-relocated, generation-numbered}
use Rattle.triple_ord.specs.{Shape.Shape, Shape.missing, Half.IsRebuilt, Ranks.IsTight, Tree.Tree, Potential.ChangesRanksWithin}
use Rattle.triple_ord.specs.Place.{Aim, alone, at_key, behind_key, beside, into, over, IsPlace, aim_of}
use Rattle.triple_ord.specs.declared.error.OrdInsertionError.TheVariants.{BeyondMaxCapacity, AllocError}
use Rattle.triple_ord.specs.declared.insert_kind.OrdInsertKind.TheVariants.{Normal, Nonhereditary, Linear, NonhereditaryLinear}
use Rattle.triple_ord.specs.declared.entry_kind.OrdEntryKind.TheVariants.{New, Replacing}
use Rattle.triple_ord.specs.{Insertion.with_room_by, Gap.Gap, Gap.with_between}
use Rattle.triple_ord.specs.declared.growth.Growth.{Growth}
use Rattle.triple_ord.specs.declared.growth.Growth.TheVariants.{Within, Reallocating}
use Rattle.triple_ord.specs.{declared.insert_kind.OrdInsertKind.OrdInsertKind, declared.entry_kind.OrdEntryKind.OrdEntryKind, declared.error.OrdInsertionError.OrdInsertionError}
use Rattle.triple_ord.proofs.{CallerLemmas.entries-with_room_by, CallerLemmas.numbers-with_room_by, CallerLemmas.rekeys-updates, CallerLemmas.entry_at-after}
use Rattle.triple_ord.proofs.CallerLemmas.{item_if-found, item_if-own}
use Rattle.triple_ord.proofs.CallerLemmas.{kept_order, rekeyed_order, in_order-without, in_order-one, in_order-more, IsInOrder-rest}
use Rattle.triple_ord.specs.{Rekey.Rekeys, Order.IsInOrder, OrderLaws.GoesBy, Insertion.InsertsBy}
use Rattle.ord_machine.specs.declared.reply.Reply.TheVariants.{Inserted, Refused, Item, Removed, Renewed, Changed, Entries, Done, ReductionRefused}
use Rattle.ord_machine.specs.Machine.{Calls, Reading, State, Effect, adds, removes, moves, rebuilds, clears, keeps, told_effect, effect_of, Inserts, Does, IsTakenOut, entry_of, removed_each}
use Rattle.ord_machine.specs.{Pointers.resets, Pointers.raises, Pointers.ReplacesAnother, Pointers.IsOfOthers, declared.reply.Reply.Reply}
use Rattle.ord_machine.specs.{Ascending.IsPlacedByKey, Ascending.KeepsApart, InOrder.GoesByEqualKey, InOrder.KeepsInOrder, declared.command.Command.Command}
use Rattle.ord_machine.specs.declared.command.Command.TheVariants as commands

module _ {T : Type 0} where
  -- an item found by a pointer is at its index, with its generation
  pub found-there : (es : List (Entry T)) (p : ℕ × ℕ) → IsSome (item_of es p) → (x : T) × (entry_at es p.0 ≡ Some (p.1, x))
  found-there es p there = item_if-found p.1 (entry_at es p.0) there

  pub there-found : (es : List (Entry T)) (p : ℕ × ℕ) (x : T) → entry_at es p.0 ≡ Some (p.1, x) → item_of es p ≡ Some x
  there-found es p x is = ap (item_if p.1) is ∙ item_if-own p.1 (Some x)

  -- two different pointers that find something have different indexes
  other_index : (es : List (Entry T)) (p q : ℕ × ℕ) → q ≢ p → IsSome (item_of es q) → IsSome (item_of es p) → p.0 ≢ q.0
  other_index es p q apart there here same =
      let one = found-there es q there in
      let two = found-there es p here in
      let both : ◌≡◌ {A = Option (ℕ × T)} (Some (q.1, one.0)) (Some (p.1, two.0)) = sym one.1 ∙ ap (entry_at es) (sym same) ∙ two.1 in
      let pair : ◌≡◌ {A = ℕ × T} (q.1, one.0) (p.1, two.0) = cc in
      apart (ap (λ i. (i, q.1)) (sym same) ∙ ap (λ g. (p.0, g)) (ap (λ (e : ℕ × T). e.0) pair))

-- two pointers are equal or differ
pub cases_pointer : (p q : ℕ × ℕ) → (p ≡ q) ⊎ (p ≢ q)
cases_pointer p q = elim (eqb_tells p.0 q.0) [
  | inl i ↦ elim (eqb_tells p.1 q.1) [
    | inl g ↦ inl (ap (λ n. (n, p.1)) i.1 ∙ ap (λ n. (q.0, n)) g.1)
    | inr g ↦ inr (λ same. g.1 (ap (λ (x : ℕ × ℕ). x.1) same))
  ]
  | inr i ↦ inr (λ same. i.1 (ap (λ (x : ℕ × ℕ). x.0) same))
]

-- the generation after n raises
abbrev pub risen : Option ℕ → ℕ → ℕ → ℕ
risen greatest zero g = g
risen greatest (suc n) g = risen greatest n (next_generation greatest g)

-- the generation after removals one after another, and one more raise
risen-each : {T : Type 0} (greatest : Option ℕ) (c : Chain T) (es : List (Entry T))
    → next_generation greatest (removed_each greatest c es).generation ≡ risen greatest (suc (length es)) c.generation
risen-each greatest c [] = refl
risen-each greatest c (e ∷ es) = risen-each greatest (removed greatest c e.index) es

-- the insertion goes by a key that equals the item's
abbrev pub IsByKey : {P T I G K : Type 0} → Reading P T I G K → T → Aim K → Type 0
IsByKey r item (at_key k) = r.cmp k (r.key item) ≡ Equal
IsByKey r item aim = ⊥

-- it does so in a step that keeps the keys apart
abbrev pub GoesByKey : {P T I G K : Type 0} → Reading P T I G K → Type 0 → T → Aim K → Type 0
GoesByKey r Keeps item aim = IsTotalOrder r.cmp → Keeps → IsByKey r item aim

-- the two items have equal keys, in a step that keeps the keys apart
abbrev pub AreAlike : {P T I G K : Type 0} → Reading P T I G K → Type 0 → T → T → Type 0
AreAlike r Keeps x item = IsTotalOrder r.cmp → Keeps → r.cmp (r.key x) (r.key item) ≡ Equal

-- the insertion goes by a key that equals the item's, to its place or behind it, in a step that keeps the keys in order
abbrev pub GoesInOrder : {P T I G K : Type 0} → Reading P T I G K → Type 0 → T → Aim K → Type 0
GoesInOrder {K = K} r InOrder item aim = IsTotalOrder r.cmp → InOrder → (k : K) × GoesBy aim k × (r.cmp k (r.key item) ≡ Equal)

-- a step that keeps the keys in order
abbrev pub LeavesInOrder : {P T I G K : Type 0} → Reading P T I G K → Type 0 → Chain T → Chain T → Type 0
LeavesInOrder r InOrder old new =
    IsTotalOrder r.cmp → IsDistinct old.entries → InOrder → IsInOrder r.key r.cmp old.entries → IsInOrder r.key r.cmp new.entries

-- the lists have the same keys, in order
abbrev pub HasKeysOf : {P T I G K : Type 0} → Reading P T I G K → Chain T → Chain T → Type 0
HasKeysOf r old new = map (λ e. r.key e.item) new.entries ≡ map (λ e. r.key e.item) old.entries

-- a list with a new entry of this index and item in a gap
pub record Enters {T : Type 0} (old new : Chain T) (gap : Gap old.entries) (i : ℕ) (item : T) : Type 0 where
  pub list : new.entries ≡ gap.front ++ record { index = i; generation = old.generation; item = item } ∷ gap.back
  pub free : times i (gap.front ++ gap.back) ≡ 0

module _ {T : Type 0} (old new : Chain T) (gap : Gap old.entries) (i : ℕ) (item : T) (entered : Enters old new gap i item) where
  pub elsewhere : (j : ℕ) → j ≢ i → entry_at new.entries j ≡ entry_at old.entries j
  elsewhere j other =
      ap (λ es. entry_at es j) entered.list ∙ entry_at-between_other gap.front _ gap.back j other ∙ ap (λ es. entry_at es j) (sym gap.cut)

  pub unused : (p : ℕ × ℕ) → IsSome (item_of old.entries p) → p.0 ≢ i
  unused p there same =
      let nothing : entry_at old.entries p.0 ≡ None =
      entry_at-absent old.entries p.0 (ap (λ k. times k old.entries) same ∙ ap (times i) gap.cut ∙ entered.free) in
      let some = (found-there old.entries p there).1 in cc

-- calls to no entry
abbrev pub IsOfNone : (ℕ × ℕ → Type 0) → Type 0
IsOfNone Of = (p : ℕ × ℕ) → Of p → ⊥

-- calls to others than the entry with this index
abbrev pub Spares : {T : Type 0} → Chain T → (ℕ × ℕ → Type 0) → ℕ → Type 0
Spares c Of i = (p : ℕ × ℕ) → IsSome (item_of c.entries p) → Of p → p.0 ≢ i

-- What happens to the entries: they stay; one comes, gets another item in its place or elsewhere, leaves, or gets a new pointer; all get
-- new pointers, or leave. Here n is how often the generation is raised, Of p says that the call is to others than p's entry, and Keeps
-- that it keeps the keys apart.
pub data Change {P T I G K : Type 0} (r : Reading P T I G K) (old new : Chain T) (n : ℕ) (Of : ℕ × ℕ → Type 0) (Keeps : Type 0) : Type 0 where
  stays : new.entries ≡ old.entries → Change r old new n Of Keeps
  comes : (gap : Gap old.entries) (i : ℕ) (item : T) → Enters old new gap i item → (aim : Aim K) → IsPlace r.key r.cmp aim (into gap)
      → GoesByKey r Keeps item aim → Change r old new n Of Keeps
  writes : (i : ℕ) (e : ℕ × T) (item : T) → entry_at old.entries i ≡ Some e → new.entries ≡ with_item_among old.entries i item
      → Spares old Of i → AreAlike r Keeps e.1 item → Change r old new n Of Keeps
  rekeys : (q : ℕ × ℕ) (item : T) → IsSome (item_of old.entries q) → item_of new.entries q ≡ Some item
      → ((p : ℕ × ℕ) → p ≢ q → item_of new.entries p ≡ item_of old.entries p) → ((p : ℕ × ℕ) → Of p → p ≢ q) → (Keeps → ⊥) → Change r old new n Of Keeps
  leaves : (i : ℕ) → new.entries ≡ without i old.entries → 0 < n → Spares old Of i → Change r old new n Of Keeps
  renews : (i : ℕ) → new.entries ≡ with_generation old.entries i new.generation → 0 < n → Spares old Of i → Change r old new n Of Keeps
  relays : ((i : ℕ) (e : ℕ × T) → entry_at new.entries i ≡ Some e → e.0 ≡ new.generation) → HasKeysOf r old new → 0 < n → IsOfNone Of
      → Change r old new n Of Keeps
  empties : new.entries ≡ [] → 0 < n → IsOfNone Of → Change r old new n Of Keeps

-- what an effect says about the shapes before and after it
abbrev pub Affects : Effect → Shape → Shape → Type 0
Affects adds old new = (IsTight old → IsTight new) × (ChangesRanksWithin 4 old new ⊎ (new ≡ old))
Affects removes old new = ChangesRanksWithin 9 old new ⊎ (new ≡ old)
Affects moves old new = ChangesRanksWithin 14 old new ⊎ (new ≡ old)
Affects rebuilds old new = IsRebuilt new
Affects clears old new = new ≡ missing
Affects keeps old new = new ≡ old

-- and about the shape, the generation, if it isn't reset, and the order of the keys
pub record Outcome {P T I G K : Type 0} (r : Reading P T I G K) (old new : Tree T) (effect : Effect) (back : Bool) (n : ℕ) (Of : ℕ × ℕ → Type 0) (Keeps InOrder : Type 0) : Type 0 where
  pub affects : Affects effect old.shape new.shape
  pub raised : back ≡ false → new.list.generation ≡ risen r.greatest n old.list.generation
  pub change : IsDistinct old.list.entries → Change r old.list new.list n Of Keeps
  pub ordered : LeavesInOrder r InOrder old.list new.list

-- the keys of entries that were laid out again
module _ {T K : Type 0} (key : T → K) where
  keys-relocated : (all es : List (Entry T)) (g : ℕ) → map (λ e. key e.item) (map (at_compressed_index all g) es) ≡ map (λ e. key e.item) es
  keys-relocated all [] g = refl
  keys-relocated all (e ∷ es) g = ap (λ ks. key e.item ∷ ks) (keys-relocated all es g)

  keys-numbered : (es : List (Entry T)) (g from : ℕ) → map (λ e. key e.item) (numbered g from (map (λ e. e.item) es)) ≡ map (λ e. key e.item) es
  keys-numbered [] g from = refl
  keys-numbered (e ∷ es) g from = ap (λ ks. key e.item ∷ ks) (keys-numbered es g (from + 1))

  -- the keys after an entry got another pointer
  pub keys-renewed : (es : List (Entry T)) (i g : ℕ) → map (λ e. key e.item) (with_generation es i g) ≡ map (λ e. key e.item) es
  keys-renewed [] i g = refl
  keys-renewed (e ∷ es) i g = elim (eqb_tells e.index i) [
    | inl h ↦ rw h.0 refl
    | inr h ↦ rw h.0 (ap (λ ks. key e.item ∷ ks) (keys-renewed es i g))
  ]

-- if two lists have the same keys in order, both are in order or neither is
module _ {T K : Type 0} (key : T → K) (cmp : K → K → Ordering) where
  in_order-none : IsInOrder {T = T} key cmp []
  in_order-none front back e f cut = absurd (omega (arith, ap length cut, length-append front (e ∷ f ∷ back)))

  in_order-keys : (xs ys : List (Entry T)) → map (λ e. key e.item) xs ≡ map (λ e. key e.item) ys → IsInOrder key cmp ys → IsInOrder key cmp xs
  in_order-keys [] ys same order = in_order-none
  in_order-keys (x ∷ []) ys same order = in_order-one key cmp x
  in_order-keys (x ∷ (y ∷ xs)) [] same order = absurd (cc)
  in_order-keys (x ∷ (y ∷ xs)) (a ∷ []) same order = absurd (cc)
  in_order-keys (x ∷ (y ∷ xs)) (a ∷ (b ∷ ys)) same order =
      let first : key x.item ≡ key a.item = cc in
      let second : key y.item ≡ key b.item = cc in
      let rest : map (λ e. key e.item) (y ∷ xs) ≡ map (λ e. key e.item) (b ∷ ys) = cc in
      in_order-more key cmp x y xs (rw (first, second) (order [] ys a b refl)) (in_order-keys (y ∷ xs) (b ∷ ys) rest (IsInOrder-rest key cmp a (b ∷ ys) order))

-- a new entry
module _ {T : Type 0} (room new : Chain T) (put : Entry T → List (Entry T)) (item : T) (i : ℕ) where
  abbrev IsPut : Type 0
  IsPut = (new.entries ≡ put (record { index = i; generation = room.generation; item = item })) × (new.generation ≡ room.generation)

  is-put : (g : ℕ) → IsInsertion room new put item i g → IsPut
  is-put g inserted = let after = (after-insertion room new put item i g inserted).1 in
      (ap (λ (c : Chain T). c.entries) after ∙ ap (λ era. put (record { index = i; generation = era; item = item })) inserted.generation, ap (λ (c : Chain T). c.generation) after)

-- one step
module _ {P T I G K : Type 0} (r : Reading P T I G K) (s : State T) (new : Tree T) where
  abbrev es : List (Entry T)
  es = s.tree.list.entries

  -- the entry whose item is replaced is found by its index, and has an equal key
  replaced-here : IsDistinct es → (aim : Aim K) (e : Entry T) → IsPlace r.key r.cmp {entries = es} aim (over e) → entry_at es e.index ≡ Some (e.generation, e.item)
  replaced-here distinct alone e at = absurd at
  replaced-here distinct (at_key k) e at = entry_at-after es e distinct at.gap at.here
  replaced-here distinct (behind_key k) e at = absurd at
  replaced-here distinct (beside i Less) e at = absurd at
  replaced-here distinct (beside i Equal) e at = ap (entry_at es) at.0 ∙ at.1
  replaced-here distinct (beside i Greater) e at = absurd at

  replaced-alike : IsTotalOrder r.cmp → (item : T) (aim : Aim K) (e : Entry T) → IsPlace r.key r.cmp {entries = es} aim (over e) → IsByKey r item aim
      → r.cmp (r.key e.item) (r.key item) ≡ Equal
  replaced-alike total item (at_key k) e at by = sym (total.congr k (r.key e.item) (r.key item) at.equal) ∙ by
  replaced-alike total item aim e at by = absurd by

  by_kind : (kind : OrdInsertKind P K I G) (item : T) → IsPlacedByKey r kind item → IsByKey r item (aim_of r.index kind)
  by_kind (Normal k) item by = by
  by_kind (Linear i num k) item by = by
  by_kind kind item by = absurd by

  in_order_by_kind : (kind : OrdInsertKind P K I G) (item : T) → GoesByEqualKey r kind item → (k : K) × GoesBy (aim_of r.index kind) k × (r.cmp k (r.key item) ≡ Equal)
  in_order_by_kind (Normal k) item by = (k, inl refl, by)
  in_order_by_kind (Nonhereditary k) item by = (k, inr refl, by)
  in_order_by_kind (Linear i num k) item by = (k, inl refl, by)
  in_order_by_kind (NonhereditaryLinear i num k) item by = (k, inr refl, by)
  in_order_by_kind kind item by = absurd by

  -- the entries are these, whose keys are in order
  in_order_as : {xs : List (Entry T)} → new.list.entries ≡ xs → IsInOrder r.key r.cmp xs → IsInOrder r.key r.cmp new.list.entries
  in_order_as is order = subst (λ es. IsInOrder r.key r.cmp es) (sym is) order

  -- the keys are the same
  in_order_alike : HasKeysOf r s.tree.list new.list → IsInOrder r.key r.cmp es → IsInOrder r.key r.cmp new.list.entries
  in_order_alike same order = in_order-keys r.key r.cmp new.list.entries es same order

  -- the shape stays, whatever the reply
  alike : {A : Type 0} (reply : Reply P T A I G) → new.shape ≡ s.tree.shape → Affects (told_effect reply) s.tree.shape new.shape
  alike (Inserted (New p) before) same = (λ tight. subst IsTight (sym same) tight, inr same)
  alike (Removed (Success taken)) same = inr same
  alike (Removed (GenerationOverflow taken)) same = inr same
  alike reply same = same

  module _ {back : Bool} {Of : ℕ × ℕ → Type 0} {Keeps InOrder : Type 0} where
    still : {A : Type 0} (reply : Reply P T A I G) → new ≡ s.tree → Outcome r s.tree new (told_effect reply) back 0 Of Keeps InOrder
    still reply same =
        record {
          affects = alike reply (ap (λ t. t.shape) same);
          raised = λ _. ap (λ t. t.list.generation) same;
          change = λ _. stays (ap (λ t. t.list.entries) same);
          ordered = λ _ _ _. in_order_as (ap (λ t. t.list.entries) same);
        }

    lost : (i : ℕ) → IsTakenOut r.greatest s.tree i new → Spares s.tree.list Of i → Outcome r s.tree new removes back 1 Of Keeps InOrder
    lost i is spares =
        record {
          affects = inl is.1.rank_changes;
          raised = λ _. ap (λ c. c.generation) is.0;
          change = λ _. leaves i (ap (λ c. c.entries) is.0) (omega arith) spares;
          ordered = λ total _ _ order. in_order_as (ap (λ c. c.entries) is.0) (in_order-without r.key r.cmp total i es order);
        }

    -- the entry of a pointer moves to the place of its key
    rekeyed : (q : ℕ × ℕ) (item : T) → IsSome (item_of es q) → Rekeys r.key r.cmp s.tree q item new → ((p : ℕ × ℕ) → Of p → q ≢ p) → (Keeps → ⊥)
        → Outcome r s.tree new moves back 0 Of Keeps InOrder
    rekeyed q item there does apart never = record {
      affects = elim does.shape [ inl same ↦ inr same | inr rearranged ↦ inl rearranged.rank_changes ];
      raised = λ _. ap (λ (c : Chain T). c.generation) does.kept;
      change = λ distinct.
          let updates = rekeys-updates r.key r.cmp s.tree new q item distinct there does in
          rekeys q item there updates.changed updates.others (λ p of same. apart p of (sym same)) never;
      ordered = λ total _ _ order. (rekeyed_order r.key r.cmp total).kept s.tree new q item order does;
    }

    again : (q : ℕ × ℕ) → IsSome (item_of es q) → new ≡ record s.tree { list = renewed r.greatest s.tree.list q.0 } → ((p : ℕ × ℕ) → Of p → q ≢ p)
        → Outcome r s.tree new keeps back 1 Of Keeps InOrder
    again q there is apart = record {
      affects = ap (λ t. t.shape) is;
      raised = λ _. ap (λ t. t.list.generation) is;
      change = λ _. renews q.0 (rw is refl) (omega arith) (λ p here of. other_index es p q (apart p of) there here);
      ordered = λ _ _ _. in_order_alike (ap (λ (t : Tree T). map (λ e. r.key e.item) t.list.entries) is ∙ keys-renewed r.key es q.0 _);
    }

    gone : {n : ℕ} → new.shape ≡ missing → new.list.entries ≡ [] → new.list.generation ≡ risen r.greatest n s.tree.list.generation → 0 < n
        → IsOfNone Of → Outcome r s.tree new clears back n Of Keeps InOrder
    gone bare none raised some of_none =
        record { affects = bare; raised = λ _. raised; change = λ _. empties none some of_none; ordered = λ _ _ _ _. in_order_as none (in_order-none r.key r.cmp) }

    -- the list keeps its entries, and the tree its shape
    alone-raised : {n : ℕ} (c : Chain T) → new ≡ record s.tree { list = c } → c.entries ≡ es
        → c.generation ≡ risen r.greatest n s.tree.list.generation → Outcome r s.tree new keeps back n Of Keeps InOrder
    alone-raised c is same raised =
        let entries = ap (λ t. t.list.entries) is ∙ same in
        record {
          affects = ap (λ t. t.shape) is;
          raised = λ _. ap (λ t. t.list.generation) is ∙ raised;
          change = λ _. stays entries;
          ordered = λ _ _ _. in_order_as entries;
        }

    kept : new ≡ s.tree → Outcome r s.tree new keeps back 0 Of Keeps InOrder
    kept same = alone-raised s.tree.list same refl refl

    -- the entries are laid out again, in the same order
    laid-out : (list : Chain T) → IsRebuilt new.shape → new.list ≡ list
        → (back ≡ false → list.generation ≡ next_generation r.greatest s.tree.list.generation)
        → ((i : ℕ) (e : ℕ × T) → entry_at list.entries i ≡ Some e → e.0 ≡ list.generation) → HasKeysOf r s.tree.list list → IsOfNone Of
        → Outcome r s.tree new rebuilds back 1 Of Keeps InOrder
    laid-out list rebuilt is raised all same of_none =
        let keys = ap (λ (c : Chain T). map (λ e. r.key e.item) c.entries) is ∙ same in
        let era = ap (λ (c : Chain T). c.generation) is in
        record {
          affects = rebuilt;
          raised = λ onward. era ∙ raised onward;
          change = λ _.
              relays (λ i e found. all i e (ap (λ (c : Chain T). entry_at c.entries i) (sym is) ∙ found) ∙ sym era) keys (omega arith) of_none;
          ordered = λ _ _ _. in_order_alike keys;
        }

  -- an insertion by a key
  insertion_in_order : {InOrder : Type 0} (growth : Growth) (aim : Aim K) (item : T) → GoesInOrder r InOrder item aim
      → (answer : Result (OrdEntryKind P × Option T) OrdInsertionError) → InsertsBy r.key r.cmp r.most growth aim r.pointer s.tree item answer new
      → LeavesInOrder r InOrder s.tree.list new.list
  insertion_in_order growth aim item goes answer inserts total distinct held order =
      let by_key = goes total held in
      kept_order r.pointer r.key r.cmp total r.most growth aim by_key.0 s.tree new item answer by_key.1 by_key.2 distinct order inserts

  module _ {A Keeps InOrder : Type 0} (growth : Growth) (aim : Aim K) (item : T) (by : GoesByKey r Keeps item aim) (goes : GoesInOrder r InOrder item aim) where
    abbrev IsReply : Reply P T A I G → Type 0
    IsReply reply = Inserts r.key r.cmp r.most growth aim r.pointer s.tree item reply new

    outcome-insertion : (reply : Reply P T A I G) → IsReply reply → Outcome r s.tree new (told_effect reply) false 0 (λ p. ReplacesAnother r p reply) Keeps InOrder
    outcome-insertion (Inserted (New q) None) does =
        let room = with_room_by growth r.most s.tree.list in
        let roomy = entries-with_room_by growth r.most s.tree.list in
        let era = (numbers-with_room_by growth r.most s.tree.list).0 in
        let i = (r.pointer q).0 in
        let after = is-put room new.list (with_between does.gap) item i (r.pointer q).1 does.inserted in
        record {
          affects = (does.grown.tight, inl does.grown.rank_changes);
          raised = λ _. after.1 ∙ era;
          change = λ _. comes does.gap i item (record {
            list = after.0 ∙ ap (λ g. does.gap.front ++ record { index = i; generation = g; item = item } ∷ does.gap.back) era;
            free = ap (times i) (sym does.gap.cut) ∙ ap (times i) (sym roomy) ∙ does.inserted.vacant.free;
          }) aim does.place by;
          ordered = insertion_in_order growth aim item goes (Ok (New q, None)) does;
        }
    outcome-insertion (Inserted (Replacing q) (Some before)) does =
        let e = does.entry in
        record {
          affects = ap (λ t. t.shape) does.after;
          raised = λ _. ap (λ t. t.list.generation) does.after;
          change = λ distinct.
              let here = replaced-here distinct aim e does.place in
              writes e.index (e.generation, e.item) item here (ap (λ t. t.list.entries) does.after)
              (λ p there of. other_index es p (e.index, e.generation) (λ same. of (does.named ∙ same)) (ap is_some (there-found es (e.index, e.generation) e.item here)) there)
              (λ total keeps. replaced-alike total item aim e does.place (by total keeps));
          ordered = insertion_in_order growth aim item goes (Ok (Replacing q, Some before)) does;
        }
    outcome-insertion (Refused refusal) does = kept does.after
    outcome-insertion reply does = absurd does

  -- the result of a command with this reply
  abbrev pub After : {A : Type 0} → Command P T I G K → Reply P T A I G → Type 0
  After command reply =
      Outcome r s.tree new (effect_of command reply) (resets command) (raises command reply) (λ p. IsOfOthers r p command reply) (KeepsApart r command)
      (KeepsInOrder r command)

  pub outcome : {A F : Type 0} (calls : Calls T F) (f : F) (command : Command P T I G K) (reply : Reply P T A I G) (g : F)
      → Does r calls s f command reply new g → After command reply
  outcome calls f (commands.Insert item) reply g does = outcome-insertion Reallocating (at_key (r.key item)) item (λ total _. tied_itself total (r.key item)) (λ total _. (r.key item, inl refl, tied_itself total (r.key item))) reply does.0
  outcome calls f (commands.InsertWithin item) reply g does = outcome-insertion Within (at_key (r.key item)) item (λ total _. tied_itself total (r.key item)) (λ total _. (r.key item, inl refl, tied_itself total (r.key item))) reply does.0
  outcome calls f (commands.Entry kind item) reply g does = outcome-insertion Reallocating (aim_of r.index kind) item (λ _ by. by_kind kind item by) (λ _ by. in_order_by_kind kind item by) reply does.0
  outcome calls f (commands.EntryWithin kind item) reply g does = outcome-insertion Within (aim_of r.index kind) item (λ _ by. by_kind kind item by) (λ _ by. in_order_by_kind kind item by) reply does.0
  outcome calls f (commands.Set q item) (Item None) g does = kept does.0.1
  outcome calls f (commands.Set q item) (Item (Some before)) g does =
      let there : IsSome (item_of es (r.pointer q)) = ap is_some (sym does.0.0) in
      let found = found-there es (r.pointer q) there in
      record {
        affects = ap (λ t. t.shape) does.0.1;
        raised = λ _. ap (λ t. t.list.generation) does.0.1;
        change = λ _. writes (r.pointer q).0 ((r.pointer q).1, found.0) item found.1 (ap (λ t. t.list.entries) does.0.1)
            (λ p here of. other_index es p (r.pointer q) of there here) (λ _ never. absurd never);
        ordered = λ _ _ never. absurd never;
      }
  outcome calls f (commands.Set q item) reply g does = absurd does.0
  outcome calls f (commands.Rekey q item) (Item None) g does = kept does.0.1
  outcome calls f (commands.Rekey q item) (Item (Some before)) g does = rekeyed (r.pointer q) item (ap is_some (sym does.0.0)) does.0.1 (λ p of. of) (λ never. never)
  outcome calls f (commands.Rekey q item) reply g does = absurd does.0
  outcome calls f (commands.Remove q) (Removed (Success taken)) g does =
      lost (r.pointer q).0 does.0.1.removed (λ p here of. other_index es p (r.pointer q) of (ap is_some (sym does.0.1.value)) here)
  outcome calls f (commands.Remove q) (Removed (GenerationOverflow taken)) g does =
      lost (r.pointer q).0 does.0.1.removed (λ p here of. other_index es p (r.pointer q) of (ap is_some (sym does.0.1.value)) here)
  outcome calls f (commands.Remove q) (Removed InvalidPtr) g does = kept does.0.1.invalid
  outcome calls f (commands.Remove q) reply g does = absurd does.0
  outcome calls f (commands.RemoveInx i) (Removed (Success taken)) g does = lost (r.index i) does.0.1.removed (λ p here of same. of (sym same))
  outcome calls f (commands.RemoveInx i) (Removed (GenerationOverflow taken)) g does = lost (r.index i) does.0.1.removed (λ p here of same. of (sym same))
  outcome calls f (commands.RemoveInx i) (Removed InvalidPtr) g does = kept does.0.1.invalid
  outcome calls f (commands.RemoveInx i) reply g does = absurd does.0
  outcome calls f (commands.Invalidate q) (Renewed (Success next)) g does = again (r.pointer q) (sym does.0.valid) does.0.renewed (λ p of. of)
  outcome calls f (commands.Invalidate q) (Renewed (GenerationOverflow next)) g does = again (r.pointer q) (sym does.0.valid) does.0.renewed (λ p of. of)
  outcome calls f (commands.Invalidate q) (Renewed InvalidPtr) g does = kept does.0.invalid
  outcome calls f (commands.Invalidate q) reply g does = absurd does.0
  outcome calls f commands.Clear (Changed result) g does =
      gone (ap (λ t. t.shape) does.0.0) (ap (λ t. t.list.entries) does.0.0) (ap (λ t. t.list.generation) does.0.0) (omega arith) (λ p of. of)
  outcome calls f commands.Clear reply g does = absurd does.0
  outcome calls f commands.IncGeneration (Changed result) g does = alone-raised _ does.0.0 refl refl
  outcome calls f commands.IncGeneration reply g does = absurd does.0
  outcome calls f (commands.Compress reset) (Changed result) g does =
      laid-out _ does.0.1 does.0.0 (λ onward. rw onward refl) (λ i e found. generation-relocated es _ es i e found)
      (keys-relocated r.key es es _) (λ p of. of)
  outcome calls f (commands.Compress reset) reply g does = absurd does.0
  outcome calls f (commands.Canonical reset) (Changed result) g does =
      laid-out _ does.0.1 does.0.0 (λ onward. rw onward refl) (λ i e found. generation-numbered _ 1 (map (λ e. e.item) es) i e found)
      (keys-numbered r.key es _ 1) (λ p of. of)
  outcome calls f (commands.Canonical reset) reply g does = absurd does.0
  outcome calls f (commands.Reserve n) Done g does = alone-raised _ does.0.1 refl refl
  outcome calls f (commands.Reserve n) (Refused BeyondMaxCapacity) g does = kept does.0.1
  outcome calls f (commands.Reserve n) (Refused AllocError) g does = kept does.0.2
  outcome calls f (commands.Reserve n) reply g does = absurd does.0
  outcome calls f (commands.SetMax n) Done g does = alone-raised _ does.0.1 refl refl
  outcome calls f (commands.SetMax n) ReductionRefused g does = kept does.0.1
  outcome calls f (commands.SetMax n) reply g does = absurd does.0
  outcome calls f (commands.DrainOrdered num) (Entries pairs) g does =
      let first = take num es in
      let count : suc (length first) ≡ length pairs.items + 1 = omega (arith, ap length does.0.0, length-map pairs.items (entry_of r.pointer)) in
      gone (ap (λ t. t.shape) does.0.1) (ap (λ t. t.list.entries) does.0.1)
      (ap (λ t. t.list.generation) does.0.1 ∙ risen-each r.greatest s.tree.list first ∙ ap (λ k. risen r.greatest k s.tree.list.generation) count) (omega arith) (λ p of. of)
  outcome calls f (commands.DrainOrdered num) (Refused AllocError) g does = kept does.0.1
  outcome calls f (commands.DrainOrdered num) reply g does = absurd does.0
  outcome calls f commands.FindWith reply g does = still reply does.1
  outcome calls f commands.SimilarWith reply g does = still reply does.1
  outcome calls f command reply g does = still reply does.0.1
