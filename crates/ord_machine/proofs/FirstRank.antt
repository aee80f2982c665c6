-- The first entry of an arena, and its rank.
use Rattle.std.proofs.Common.{◌≡◌, ℕ, inl, inr, List, [], ◌∷◌, ◌++◌, length, map, Some, None, refl, sym, ap, subst, ◌∙◌, arith, length-append}
use Rattle.std.specs.declared.cmp.Ordering.{Ordering}
use Rattle.triple_ord.specs.Chain.{Entry, Chain, next_index, inserted, with_room}
use Rattle.triple_ord.specs.{Shape.Shape, Shape.missing, Shape.node, Shape.walk, Tree.Tree, Tree.IsSoundTree, Ranks.IsRanked, Ranks.HasRank}
use Rattle.triple_ord.specs.declared.entry_kind.OrdEntryKind.TheVariants.{New, Replacing}
use Rattle.triple_ord.specs.{declared.error.OrdInsertionError.TheVariants.AllocError, declared.error.OrdInsertionError.OrdInsertionError}
use Rattle.triple_ord.specs.{Insertion.InsertsNew, Gap.with_between, Place.at_key}
use Rattle.triple_ord.specs.declared.growth.Growth.TheVariants.{Reallocating}
use Rattle.ord_machine.specs.declared.reply.Reply.TheVariants.{Inserted, Refused, Ranks}
use Rattle.ord_machine.specs.Machine.{Calls, Reading, HaveRanks, Inserts, Ranked}
use Rattle.ord_machine.specs.{Laws.AreFirstReplies, Laws.FirstRankLaw, declared.reply.Reply.Reply}

-- if the empty list is cut in two, both parts are empty
no_parts : {X : Type 0} (front back : List X) → [] ≡ front ++ back → (front ≡ []) × (back ≡ [])
no_parts [] back cut = (refl, sym cut)
no_parts (x ∷ front) back cut = cc

-- the rank of the only node is 1
only_rank : (shape : Shape) (i k : ℕ) → walk shape ≡ i ∷ [] → IsRanked shape → HasRank shape i k → k ≡ 1
only_rank missing i k listed ranked has = absurd has
only_rank (node missing j m missing) i k listed ranked (inl here) = here.1 ∙ ranked.0.leaf refl refl
only_rank (node missing j m missing) i k listed ranked (inr (inl none)) = absurd none
only_rank (node missing j m missing) i k listed ranked (inr (inr none)) = absurd none
only_rank (node (node a b c d) j m r) i k listed ranked has =
    absurd (omega (arith, ap length listed, length-append (walk a ++ b ∷ walk d) (j ∷ walk r), length-append (walk a) (b ∷ walk d)))
only_rank (node missing j m (node a b c d)) i k listed ranked has = absurd (omega (arith, ap length listed, length-append (walk a) (b ∷ walk d)))

-- the list after an insertion into an empty one
module _ {T : Type 0} (c : Chain T) (place : Entry T → List (Entry T)) (item : T) (alone : (e : Entry T) → place e ≡ e ∷ []) where
  first_entries : (i : ℕ) → next_index c ≡ Some i → (e : Entry T) × ((inserted c place item).entries ≡ e ∷ [])
  first_entries i next =
      (elim c.vacant as (λ vacant. next_index (record c { vacant = vacant }) ≡ Some i → (e : Entry T) × ((inserted (record c { vacant = vacant }) place item).entries ≡ e ∷ []))
      [ [] ↦ λ none. cc | (j ∷ rest) ↦ λ _. (record { index = j; generation = c.generation; item = item }, alone _) ]) next

module _ {T : Type 0} where
  -- the ranks of no entry, and of one
  no_ranks : (shape : Shape) (entries : List (Entry T)) (ranks : List ℕ) → entries ≡ [] → HaveRanks shape entries ranks → ranks ≡ []
  no_ranks shape [] [] none have = refl
  no_ranks shape [] (k ∷ ranks) none have = absurd have
  no_ranks shape (e ∷ entries) ranks none have = cc

  one_rank : (shape : Shape) (e : Entry T) (ranks : List ℕ) → walk shape ≡ e.index ∷ [] → IsRanked shape → HaveRanks shape (e ∷ []) ranks → ranks ≡ 1 ∷ []
  one_rank shape e [] listed ranked have = absurd have
  one_rank shape e (k ∷ []) listed ranked have = ap (λ r. r ∷ []) (only_rank shape e.index k listed ranked have.0)
  one_rank shape e (k ∷ m ∷ ranks) listed ranked have = absurd have.1

  -- between two empty parts there is only the entry
  alone : (front back : List (Entry T)) (e : Entry T) → (front ≡ []) × (back ≡ []) → front ++ e ∷ back ≡ e ∷ []
  alone front back e none = rw (none.0, none.1) refl

module _ {T K : Type 0} (key : T → K) (cmp : K → K → Ordering) (most : ℕ) where
  -- the result of inserting a new entry into an empty tree
  new_alone : (old new : Tree T) (item : T) (p : ℕ × ℕ) → old.list.entries ≡ []
      → InsertsNew key cmp most Reallocating (at_key (key item)) old item p new → (e : Entry T) × (new.list.entries ≡ e ∷ [])
  new_alone old new item p none inserts =
      let gap = inserts.gap in
      let parts = no_parts gap.front gap.back (sym none ∙ gap.cut) in
      let first = first_entries (with_room most old.list) (with_between gap) item (λ e. alone gap.front gap.back e parts) p.0 inserts.inserted.next in
      (first.0, ap (λ c. c.entries) inserts.inserted.after ∙ first.1)

module _ {P T I G A K : Type 0} (r : Reading P T I G K) (old new : Tree T) (none : old.list.entries ≡ []) (sound : IsSoundTree new) where
  abbrev Follows : Reply P T A I G → Reply P T A I G → Type 0
  Follows second first = Ranked new second → AreFirstReplies (first ∷ second ∷ [])

  -- the ranks after a new entry
  ranks_of_new : (item : T) (p : P) (second : Reply P T A I G)
      → InsertsNew r.key r.cmp r.most Reallocating (at_key (r.key item)) old item (r.pointer p) new → Follows second (Inserted (New p) None)
  ranks_of_new item p (Ranks ranks) inserts ranked =
      let first = new_alone r.key r.cmp r.most old new item (r.pointer p) none inserts in
      one_rank new.shape first.0 ranks.items (sound.listed ∙ ap (map (λ e. e.index)) first.1) sound.ranked (subst (λ (es : List (Entry T)). HaveRanks new.shape es ranks.items) first.1 ranked)
  ranks_of_new item p (Refused AllocError) inserts ranked = tt
  ranks_of_new item p second inserts ranked = absurd ranked

  -- the ranks after a failure
  ranks_of_none : (refusal : OrdInsertionError) (second : Reply P T A I G) → new ≡ old → Follows second (Refused refusal)
  ranks_of_none refusal (Ranks ranks) same ranked = no_ranks new.shape new.list.entries ranks.items (ap (λ t. t.list.entries) same ∙ none) ranked
  ranks_of_none refusal (Refused AllocError) same ranked = absurd (omega (arith, ranked, ap length (ap (λ t. t.list.entries) same ∙ none)))
  ranks_of_none refusal second same ranked = absurd ranked

  -- both replies, given the first
  first_and_ranks : (item : T) (first second : Reply P T A I G)
      → Inserts r.key r.cmp r.most Reallocating (at_key (r.key item)) r.pointer old item first new → Follows second first
  first_and_ranks item (Inserted (New p) None) second inserts ranked = ranks_of_new item p second inserts ranked
  first_and_ranks item (Inserted (Replacing p) (Some before)) second inserts ranked = absurd (let gap = inserts.place.gap in let here = rw (no_parts gap.front gap.back (sym none ∙ gap.cut)).1 at inserts.place.here in cc)
  first_and_ranks item (Refused refusal) second inserts ranked = ranks_of_none refusal second inserts.after ranked
  first_and_ranks item first second inserts ranked = absurd inserts

-- a run of both commands
pub first_rank : (P T I G A K : Type 0) {F : Type 0} (calls : Calls T F) → FirstRankLaw P T I G A K calls
first_rank P T I G A K calls r old new f g item [] none run = absurd run
first_rank P T I G A K calls r old new f g item (first ∷ []) none run = absurd run.3
first_rank P T I G A K calls r old new f g item (first ∷ second ∷ []) none run =
    let step = run.2 in
    let next = run.3.2 in
    first_and_ranks r old.tree run.0.tree none step.sound item first second step.does.0 next.does.0.0
first_rank P T I G A K calls r old new f g item (first ∷ second ∷ third ∷ replies) none run = absurd run.3.3
