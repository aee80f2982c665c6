-- Keys stay distinct along a run.
use Rattle.std.proofs.Common.{◌≡◌, ℕ, inl, inr, List, [], ◌∷◌, ◌++◌, map, Some, None, IfSome, sym, ap, subst, ◌∙◌, arith}
use Rattle.std.proofs.lemmas.Bool.Decides.{eqb_tells}
use Rattle.std.specs.declared.cmp.Ordering.TheVariants.{Less, Equal, Greater}
use Rattle.std.specs.{Cmp.IsTotalOrder, Cmp.alike_right, List.Sorted.IsStrictlySortedBy, declared.cmp.Ordering.Ordering}
use Rattle.std.specs.{Ordering.ordering_reverse, List.AllByRecursion}
use Rattle.triple_ord.specs.Chain.{Entry, Chain, IsDistinct, entry_at, without, with_item_among}
use Rattle.triple_ord.specs.{Gap.first_of, Gap.last_of, Search.order_to, Place.at_key}
use Rattle.triple_ord.proofs.CallerLemmas.{recursion-map}
use Rattle.ord_machine.specs.{Ascending.KeepsApart, Ascending.AscendingKeysLaw, Machine.Reading, Machine.Calls, Machine.State, Machine.Runs}
use Rattle.ord_machine.specs.{declared.command.Command.Command, declared.reply.Reply.Reply}
use Rattle.ord_machine.proofs.Outcomes.{keys-renewed, Change, stays, comes, writes, rekeys, leaves, renews, relays, empties, outcome}

-- each key is less than every key behind it
abbrev Climbs : {K : Type 0} → (K → K → Ordering) → List K → Type 0
Climbs cmp [] = Unit {0}
Climbs cmp (k ∷ ks) = AllByRecursion (λ l. cmp k l ≡ Less) ks × Climbs cmp ks

sorted-climbs : {K : Type 0} (cmp : K → K → Ordering) (ks : List K) → Climbs cmp ks → IsStrictlySortedBy cmp ks
unfolding IsStrictlySortedBy
sorted-climbs cmp [] climbs = tt
sorted-climbs cmp (k ∷ ks) climbs = (climbs.0, sorted-climbs cmp ks climbs.1)

module _ {T K : Type 0} (key : T → K) where
  abbrev keys : List (Entry T) → List K
  keys es = map (λ e. key e.item) es

  -- what holds of each key, after an entry is removed, inserted, or gets another item
  module _ (P : K → Type 0) where
    abbrev Each : List (Entry T) → Type 0
    Each es = AllByRecursion P (keys es)

    all-without : (es : List (Entry T)) (i : ℕ) → Each es → Each (without i es)
    all-without [] i all = tt
    all-without (e ∷ es) i all = elim (eqb_tells e.index i) [
      | inl h ↦ rw h.0 all.1
      | inr h ↦ rw h.0 (all.0, all-without es i all.1)
    ]

    all-between : (front : List (Entry T)) (e : Entry T) (back : List (Entry T)) → P (key e.item) → Each (front ++ back) → Each (front ++ e ∷ back)
    all-between [] e back here all = (here, all)
    all-between (x ∷ front) e back here all = (all.0, all-between front e back here all.1)

    all-written : (es : List (Entry T)) (i : ℕ) (was : ℕ × T) (item : T) → entry_at es i ≡ Some was → (P (key was.1) → P (key item))
        → Each es → Each (with_item_among es i item)
    all-written [] i was item there follows all = tt
    all-written (e ∷ es) i was item there follows all = elim (eqb_tells e.index i) [
      | inl h ↦
          let first : Some (e.generation, e.item) ≡ Some was = rw h.0 at there in
          let same : e.item ≡ was.1 = (let both : (e.generation, e.item) ≡ was = cc in ap (λ (p : ℕ × T). p.1) both) in
          rw h.0 (follows (rw same at all.0), all.1)
      | inr h ↦ rw h.0 (all.0, all-written es i was item (rw h.0 at there) follows all.1)
    ]

  module _ (cmp : K → K → Ordering) (total : IsTotalOrder cmp) where
    abbrev Ascends : List (Entry T) → Type 0
    Ascends es = Climbs cmp (keys es)

    ascends-without : (es : List (Entry T)) (i : ℕ) → Ascends es → Ascends (without i es)
    ascends-without [] i sorted = tt
    ascends-without (e ∷ es) i sorted = elim (eqb_tells e.index i) [
      | inl h ↦ rw h.0 sorted.1
      | inr h ↦ rw h.0 (all-without (λ y. cmp (key e.item) y ≡ Less) es i sorted.0, ascends-without es i sorted.1)
    ]

    module _ (e : Entry T) (back : List (Entry T)) (high : AllByRecursion (λ l. cmp (key e.item) l ≡ Less) (keys back)) where
      ascends-between : (front : List (Entry T)) → Ascends (front ++ back) → AllByRecursion (λ l. cmp l (key e.item) ≡ Less) (keys front)
          → Ascends (front ++ e ∷ back)
      ascends-between [] sorted low = (high, sorted)
      ascends-between (x ∷ front) sorted low =
          (all-between (λ y. cmp (key x.item) y ≡ Less) front e back low.0 sorted.0, ascends-between front sorted.1 low.1)

    ascends-written : (es : List (Entry T)) (i : ℕ) (was : ℕ × T) (item : T) → entry_at es i ≡ Some was → cmp (key was.1) (key item) ≡ Equal
        → Ascends es → Ascends (with_item_among es i item)
    ascends-written [] i was item there equal sorted = tt
    ascends-written (e ∷ es) i was item there equal sorted = elim (eqb_tells e.index i) [
      | inl h ↦
          let first : Some (e.generation, e.item) ≡ Some was = rw h.0 at there in
          let same : e.item ≡ was.1 = (let both : (e.generation, e.item) ≡ was = cc in ap (λ (p : ℕ × T). p.1) both) in
          let alike : cmp (key e.item) (key item) ≡ Equal = rw same equal in
          rw h.0 (recursion-map (λ y. cmp (key e.item) y ≡ Less) (λ y. cmp (key item) y ≡ Less) (λ y less. sym (total.congr (key e.item) (key item) y alike) ∙ less) (keys es) sorted.0, sorted.1)
      | inr h ↦ rw h.0 (
        all-written (λ y. cmp (key e.item) y ≡ Less) es i was item (rw h.0 at there) (λ less. sym (alike_right total (key was.1) (key item) (key e.item) equal) ∙ less) sorted.0,
        ascends-written es i was item (rw h.0 at there) equal sorted.1,
      )
    ]

    -- a new entry with a key that is equal to k, in a gap that fits k
    module _ (k l : K) (equal : cmp k l ≡ Equal) where
      lesser : (m : K) → cmp k m ≡ Greater → cmp m l ≡ Less
      lesser m more = sym (alike_right total k l m equal) ∙ total.antisymm m k ∙ ap ordering_reverse more

      all-lesser : (front back : List (Entry T)) → Ascends (front ++ back) → IfSome (last_of None front) (λ e. order_to key cmp k e ≡ Greater)
          → AllByRecursion (λ m. cmp m l ≡ Less) (keys front)
      all-lesser [] back sorted last = tt
      all-lesser (x ∷ []) back sorted last = (lesser (key x.item) last, tt)
      all-lesser (x ∷ (y ∷ front)) back sorted last =
          let rest = all-lesser (y ∷ front) back sorted.1 last in
          (total.trans (key x.item) (key y.item) l sorted.0.0 rest.0, rest)

      all-greater : (back : List (Entry T)) → Ascends back → IfSome (first_of back) (λ e. order_to key cmp k e ≡ Less) → AllByRecursion (λ m. cmp l m ≡ Less) (keys back)
      all-greater [] sorted first = tt
      all-greater (x ∷ back) sorted first =
          let here : cmp l (key x.item) ≡ Less = sym (total.congr k l (key x.item) equal) ∙ first in
          (here, recursion-map (λ y. cmp (key x.item) y ≡ Less) (λ y. cmp l y ≡ Less) (λ y less. total.trans l (key x.item) y here less) (keys back) sorted.0)

    ascends-back : (front back : List (Entry T)) → Ascends (front ++ back) → Ascends back
    ascends-back [] back sorted = sorted
    ascends-back (x ∷ front) back sorted = ascends-back front back sorted.1

-- one change
module _ {P T I G K : Type 0} (r : Reading P T I G K) (total : IsTotalOrder r.cmp) (old new : Chain T) {n : ℕ} {Of : ℕ × ℕ → Type 0} {Keeps : Type 0}
    (keeps : Keeps) (sorted : Ascends r.key r.cmp total old.entries) where
  apart-change : Change r old new n Of Keeps → Ascends r.key r.cmp total new.entries
  apart-change (stays same) = subst (λ es. Ascends r.key r.cmp total es) (sym same) sorted
  apart-change (comes gap i item entered (at_key k) place by) =
      let cut = subst (λ es. Ascends r.key r.cmp total es) gap.cut sorted in
      let equal = by total keeps in
      subst (λ es. Ascends r.key r.cmp total es) (sym entered.list)
      (ascends-between r.key r.cmp total _ gap.back
      (all-greater r.key r.cmp total k (r.key item) equal gap.back (ascends-back r.key r.cmp total gap.front gap.back cut) place.greater_after)
      gap.front cut (all-lesser r.key r.cmp total k (r.key item) equal gap.front gap.back cut place.lesser_before))
  apart-change (comes gap i item entered aim place by) = absurd (by total keeps)
  apart-change (writes i was item at is spares alike) =
      subst (λ es. Ascends r.key r.cmp total es) (sym is) (ascends-written r.key r.cmp total old.entries i was item at (alike total keeps) sorted)
  apart-change (rekeys q item found now others spares never) = absurd (never keeps)
  apart-change (leaves i is some spares) = subst (λ es. Ascends r.key r.cmp total es) (sym is) (ascends-without r.key r.cmp total old.entries i sorted)
  apart-change (renews i is some spares) = subst (λ ks. Climbs r.cmp ks) (sym (ap (λ es. keys r.key es) is ∙ keys-renewed r.key old.entries i new.generation)) sorted
  apart-change (relays all same some others) = subst (λ ks. Climbs r.cmp ks) (sym same) sorted
  apart-change (empties none some others) = rw none tt

-- a whole run
module _ {P T I G K : Type 0} (r : Reading P T I G K) (total : IsTotalOrder r.cmp) where
  abbrev IsApart : State T → Type 0
  IsApart s = IsDistinct s.tree.list.entries × Ascends r.key r.cmp total s.tree.list.entries

  module _ {A F : Type 0} (calls : Calls T F) where
    along : (asked : List (Command P T I G K)) → AllByRecursion (KeepsApart r) asked → (told : List (Reply P T A I G)) (s t : State T) (f g : F)
        → Runs r calls s f asked told t g → IsApart s → IsApart t
    along [] keep [] s t f g run apart = rw run.0 apart
    along (c ∷ asked) keep (q ∷ told) s t f g run apart =
        let step = run.2 in
        let next = apart-change r total s.tree.list run.0.tree.list keep.0 apart.1 ((outcome r s run.0.tree calls f c q run.1 step.does).change apart.0) in
        along asked keep.1 told run.0 t run.1 g run.3 (step.lawful.distinct, next)
    along asked keep told s t f g run apart = absurd run

pub ascending_keys : (P T I G A K : Type 0) {F : Type 0} (calls : Calls T F) → AscendingKeysLaw P T I G A K calls
ascending_keys P T I G A K calls r old new f g asked told total none keep run =
    sorted-climbs r.cmp (keys r.key new.tree.list.entries)
    (along r total calls asked keep told old new f g run (rw none (λ i. omega arith), rw none tt)).1
