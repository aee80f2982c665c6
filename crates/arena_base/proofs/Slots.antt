-- Slots by index and in memory: reads and writes of entries, the greatest occupied index, and the vacant indexes.
use Rattle.arena_base.proofs.Words.{◌==◌, inl, inr, ◌≡◌, ℕ, zero, suc, ◌+◌, ◌<◌, ◌≤◌, true, Option, Some, None, List, [], ◌∷◌, ◌++◌, cond, eqb, length, get_or, set, replicate, is_some, count_by, take, ◌-◌, refl, arith, ◌≢◌, drop, map, sym}
use Rattle.arena_base.proofs.Words.{ap, ◌∙◌, false, unwrap_or, take_at, take-take, get_or-take, get_or_push, cases_eq, ne_eqb, sum_by-cons, sum_by-append, none-some, list_any, option_map, Arena, vacant_from, times, greatest_occupied}
use Rattle.arena_base.proofs.Words.{IsLastEntry, Slot, entry_in, vacant_slots, slot_entry, with_slot_item, index_number, Occupied, Vacant}

module _ {X : Type 0} where
  -- an entry counts one, a vacant slot none
  pub count_by-cons : (s : Option X) (slots : List (Option X)) → count_by is_some (s ∷ slots) ≡ cond (is_some s) 1 0 + count_by is_some slots
  count_by-cons s slots = sum_by-cons (λ x. cond (is_some x) 1 0) s slots

  none_past : (slots : List (Option X)) (i : ℕ) → list_any is_some slots ≡ false → get_or slots i None ≡ None
  none_past (None ∷ slots) (suc i) h = none_past slots i h
  none_past slots i h = cc

  pub greatest_occupied-above : (slots : List (Option X)) (i : ℕ) → greatest_occupied slots < i → get_or slots i None ≡ None
  greatest_occupied-above (s ∷ slots) (suc i) h = grind (arith, greatest_occupied-above slots i, none_past slots i)
  greatest_occupied-above slots i h = grind arith

  any-none : (slots : List (Option X)) → ((k : ℕ) → get_or slots k None ≡ None) → list_any is_some slots ≡ false
  any-none (None ∷ slots) free = any-none slots (λ k. free (suc k))
  any-none slots free = let first = free 0 in cc

  -- an occupied index beyond which there is no entry is the greatest
  greatest_occupied-is : (slots : List (Option X)) (i : ℕ) → is_some (get_or slots i None) ≡ true
      → ((k : ℕ) → i < k → get_or slots k None ≡ None) → greatest_occupied slots ≡ i
  greatest_occupied-is [] i there above = cc
  greatest_occupied-is (s ∷ slots) zero there above = rw (any-none slots (λ k. above (suc k) (omega arith)))
  greatest_occupied-is (s ∷ slots) (suc i) there above =
      grind (arith, greatest_occupied-is slots i there (λ k h. above (suc k) (omega arith)), none_past slots i)

  -- the generation of an entry
  abbrev pub era : Option (ℕ × X) → Option ℕ
  era o = option_map (λ e. e.0) o

  -- a slot with a generation has an entry
  pub entry-from_generation : (o : Option (ℕ × X)) (g : ℕ) → era o ≡ Some g → (x : X) × (o ≡ Some (g, x))
  entry-from_generation None g is = absurd (none-some g is)
  entry-from_generation (Some e) g is = (e.1, grind arith)

  -- a slot without one has no entry
  pub none-from_generation : (o : Option (ℕ × X)) → era o ≡ None → o ≡ None
  none-from_generation o is = grind arith

  -- the greatest occupied index is within the slots
  pub greatest_occupied-below : (slots : List (Option X)) → greatest_occupied slots ≤ length slots - 1
  greatest_occupied-below (s ∷ (s' ∷ slots)) = grind (arith, greatest_occupied-below (s' ∷ slots))
  greatest_occupied-below slots = omega arith

  none_counted : (slots : List (Option X)) → count_by is_some slots ≡ 0 → list_any is_some slots ≡ false
  none_counted [] h = refl
  none_counted (s ∷ slots) h = grind (arith, none_counted slots, count_by-cons s slots)

  -- if no entry is counted, the greatest occupied index is 0
  pub greatest_occupied-none : (slots : List (Option X)) → count_by is_some slots ≡ 0 → greatest_occupied slots ≡ 0
  greatest_occupied-none [] h = refl
  greatest_occupied-none (s ∷ slots) h = grind (arith, none_counted slots, count_by-cons s slots)

  -- if there is no entry, none is counted
  pub counted_none : (slots : List (Option X)) → ((k : ℕ) → get_or slots k None ≡ None) → count_by is_some slots ≡ 0
  counted_none (None ∷ slots) free = omega (arith, count_by-cons None slots, counted_none slots (λ k. free (suc k)))
  counted_none slots free = let first = free 0 in cc

pub greatest_occupied-last : {T : Type 0} {a : Arena T} {i g : ℕ} → IsLastEntry a i g → greatest_occupied a.slots ≡ i
greatest_occupied-last {a = a} {i = i} last = greatest_occupied-is a.slots i (grind arith) last.greatest

pub unwrap_or-index_number : (n : ℕ) → unwrap_or (index_number n) 0 ≡ n
unwrap_or-index_number n = grind arith

module _ {T G : Type 0} (number : G → ℕ) where
  pub entry_in-slot_entry : (s : Slot T G) (e : G × T) → slot_entry s ≡ Some e → entry_in number s ≡ Some (number e.0, e.1)
  entry_in-slot_entry s e is = grind arith

  pub entry_in-with_slot_item : (s : Slot T G) (item : T) → entry_in number (with_slot_item s item) ≡ option_map (λ e. (e.0, item)) (entry_in number s)
  entry_in-with_slot_item s item = grind arith

  -- an entry that is read in two parts
  module _ (s t : Slot T G) (same : entry_in number s ≡ entry_in number t) where
    pub entry_in-parts : (era : G) (item : T) → option_map (λ e. e.0) (slot_entry s) ≡ Some era
        → option_map (λ e. e.1) (slot_entry t) ≡ Some item → entry_in number s ≡ Some (number era, item)
    entry_in-parts era item first second = grind arith

  -- the slots by index, from index 1 on
  abbrev pub entries : List (Slot T G) → List (Option (ℕ × T))
  entries slots = map (entry_in number) slots

  -- the slot at each index, also beyond the last
  pub get_or-entries : (slots : List (Slot T G)) (k : ℕ) → get_or (entries slots) k None ≡ entry_in number (get_or slots k Vacant)
  get_or-entries (s ∷ slots) (suc k) = get_or-entries slots k
  get_or-entries slots k = refl

  pub entry-none : (s : Slot T G) → entry_in number s ≡ None → s ≡ Vacant
  entry-none s is = grind arith

  -- the vacant slots in memory are the vacant slots by index
  pub vacant_slots-from : (from : ℕ) (slots : List (Slot T G)) → vacant_slots from slots ≡ vacant_from from (entries slots)
  vacant_slots-from from [] = refl
  vacant_slots-from from (s ∷ slots) = grind (arith, vacant_slots-from (from + 1) slots)

module _ {T G : Type 0} where
  -- the first `full` slots are occupied, so the vacant ones are behind them
  pub vacant_slots-full : (from full : ℕ) (slots : List (Slot T G)) → ((k : ℕ) → k < full → get_or slots k Vacant ≢ Vacant)
      → vacant_slots from slots ≡ vacant_slots (from + full) (drop full slots)
  vacant_slots-full from (suc full) (Occupied era item ∷ slots) occupied =
      grind (arith, vacant_slots-full (from + 1) full slots (λ k below. occupied (suc k) (omega arith)))
  vacant_slots-full from full slots occupied = grind (arith, occupied 0)

  pub length-vacant_slots : (from : ℕ) (slots : List (Slot T G)) → length (vacant_slots from slots) ≤ length slots
  length-vacant_slots from [] = omega arith
  length-vacant_slots from (s ∷ slots) = grind (arith, length-vacant_slots (from + 1) slots)

-- a front of a list without its last item, and that item
module _ {X : Type 0} (xs ys : List X) (x d : X) (m n : ℕ) (front : ys ++ x ∷ [] ≡ take n xs) (one : n ≡ m + 1) (long : length ys ≡ m) where
  pub front-parts : (ys ≡ take m xs) × (get_or xs m d ≡ x)
  front-parts = (
    sym (take_at ys (x ∷ []) m long) ∙ (ap (take m) front ∙ take-take m n xs (omega arith)),
    sym (get_or-take n xs m d (omega arith)) ∙ (ap (λ zs. get_or zs m d) (sym front) ∙ get_or_push ys x d m long),
  )

pub times-cons : (m : ℕ) (ns : List ℕ) (n : ℕ) → times n (m ∷ ns) ≡ cond (eqb m n) 1 0 + times n ns
times-cons m ns n = sum_by-cons (λ x. cond (x == n) 1 0) m ns

pub times-append : (n : ℕ) (ms ns : List ℕ) → times n (ms ++ ns) ≡ times n ms + times n ns
times-append n ms ns = sum_by-append (λ x. cond (x == n) 1 0) ms ns

module _ {X : Type 0} where
  -- each slot is vacant or occupied
  pub length-vacant_from : (from : ℕ) (slots : List (Option X)) → count_by is_some slots + length (vacant_from from slots) ≡ length slots
  length-vacant_from from [] = refl
  length-vacant_from from (s ∷ slots) = grind (arith, length-vacant_from (from + 1) slots, count_by-cons s slots)

  -- vacant slots at the end are listed
  pub length-vacant_from-padded : (from more : ℕ) (slots : List (Option X)) → more ≤ length (vacant_from from (slots ++ replicate more None))
  length-vacant_from-padded from zero [] = omega arith
  length-vacant_from-padded from (suc more) [] = omega (arith, length-vacant_from-padded (from + 1) more [])
  length-vacant_from-padded from more (s ∷ slots) = grind (arith, length-vacant_from-padded (from + 1) more slots)

  -- index i names a vacant slot, if the first slot has index `from`
  abbrev pub VacantAt : ℕ → List (Option X) → ℕ → Type 0
  VacantAt from slots i = (k : ℕ) × (i ≡ from + k) × (k < length slots) × (get_or slots k None ≡ None)

  -- an index listed as vacant names a vacant slot
  pub vacant_from-vacant : (from : ℕ) (slots : List (Option X)) (i : ℕ) → 0 < times i (vacant_from from slots) → VacantAt from slots i
  vacant_from-vacant from [] i h = absurd (omega arith)
  vacant_from-vacant from (None ∷ slots) i h =
      elim (cases_eq from i) [
        | inl e ↦ (0, omega arith, omega arith, refl)
        | inr n ↦
            let first = rw (ne_eqb from i n) at (times-cons from (vacant_from (from + 1) slots) i) in
            let p = vacant_from-vacant (from + 1) slots i (omega arith) in (suc p.0, omega (arith, p.1), omega (arith, p.2), p.3)
      ]
  vacant_from-vacant from (Some e ∷ slots) i h =
      let p = vacant_from-vacant (from + 1) slots i h in (suc p.0, omega (arith, p.1), omega (arith, p.2), p.3)

  module _ (n : ℕ) where
    -- how often n is listed
    abbrev pub listed : ℕ → List (Option X) → ℕ
    listed from slots = times n (vacant_from from slots)

    listed-cons : (from : ℕ) (s : Option X) (slots : List (Option X))
        → listed from (s ∷ slots) ≡ listed from (s ∷ []) + listed (from + 1) slots
    listed-cons from None slots = times-append n (from ∷ []) (vacant_from (from + 1) slots)
    listed-cons from (Some e) slots = omega arith

    -- a write changes how often the slot's own index is listed
    module _ (i : ℕ) (new : Option X) where
      pub times-set : (slots : List (Option X)) (from k : ℕ) → i ≡ from + k → k < length slots
          → listed from (set slots k new) + listed i (get_or slots k None ∷ []) ≡ listed from slots + listed i (new ∷ [])
      times-set [] from k is within = absurd (omega arith)
      times-set (s ∷ slots) from zero is within =
          let same : i ≡ from = omega arith in rw same (omega (arith, listed-cons from s slots, listed-cons from new slots))
      times-set (s ∷ slots) from (suc k) is within =
          let ih = times-set slots (from + 1) k (omega arith) (omega arith) in
          omega (arith, listed-cons from s slots, listed-cons from s (set slots k new))

  pub vacant_from-some : (i : ℕ) (s : Option X) → is_some s ≡ true → vacant_from i (s ∷ []) ≡ []
  vacant_from-some i s there = grind arith

  module _ (i : ℕ) (rest : List ℕ) where
    vacant_from-above : (from : ℕ) (slots : List (Option X)) → vacant_from from slots ≡ i ∷ rest → from ≤ i
    vacant_from-above from (Some s ∷ slots) e = omega (arith, vacant_from-above (from + 1) slots e)
    vacant_from-above from slots e = grind arith

    -- every index below the first listed one is occupied
    pub vacant_from-least : (from : ℕ) (slots : List (Option X)) (k : ℕ) → vacant_from from slots ≡ i ∷ rest
        → from + k < i → is_some (get_or slots k None) ≡ true
    vacant_from-least from (Some s ∷ slots) (suc k) e before = vacant_from-least (from + 1) slots k e (omega arith)
    vacant_from-least from slots k e before = grind arith

    -- filling the first listed slot leaves the others in their order
    pub vacant_from-filled_first : (from : ℕ) (slots : List (Option X)) (k : ℕ) (entry : X) → i ≡ from + k
        → vacant_from from slots ≡ i ∷ rest → vacant_from from (set slots k (Some entry)) ≡ rest
    vacant_from-filled_first from (Some s ∷ slots) zero entry at e = absurd (omega (arith, vacant_from-above (from + 1) slots e))
    vacant_from-filled_first from (Some s ∷ slots) (suc k) entry at e = vacant_from-filled_first (from + 1) slots k entry (omega arith) e
    vacant_from-filled_first from slots k entry at e = grind arith

  -- if no slot is vacant, all are occupied
  all-occupied : (from : ℕ) (slots : List (Option X)) (k : ℕ) → length (vacant_from from slots) ≡ 0 → k < length slots
      → is_some (get_or slots k None) ≡ true
  all-occupied from (Some e ∷ slots) (suc k) none within = all-occupied (from + 1) slots k none (omega arith)
  all-occupied from slots k none within = grind arith

  -- the same by index, if index 0 is vacant
  pub full-occupied : (slots : List (Option X)) → take 1 slots ≡ None ∷ [] → count_by is_some slots ≡ length slots - 1
      → (i : ℕ) → 0 < i → i ≤ length slots - 1 → is_some (get_or slots i None) ≡ true
  full-occupied (None ∷ slots) begins full (suc k) above within =
      all-occupied 1 slots k (omega (arith, count_by-cons None slots, length-vacant_from 1 slots)) (omega arith)
  full-occupied slots begins full i above within = grind arith
