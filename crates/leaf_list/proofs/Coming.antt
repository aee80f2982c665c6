-- Leaves in an index and rows, where a leaf comes or goes.
use Rattle.std.proofs.Common.{◌≡◌, ◌≢◌, ℕ, ◌+◌, ◌-◌, ◌*◌, ◌<◌, ◌≤◌, List, [], ◌∷◌, ◌++◌, map, length, get_or, Option, Some, None, IsSomeAnd, OnSome, slice_get, arith, ap, sym, ◌∙◌, refl, append_assoc, inl, inr}
use Rattle.std.proofs.lemmas.Bool.{eq-eqb, Decides.eqb_tells}
use Rattle.std.proofs.lemmas.List.{length-map, nil_from_length}
use Rattle.triple_ord.specs.Chain.{Entry, Chain, entry_at, times as times_at, without as without_at}
use Rattle.triple_ord.specs.{Tree.Tree, Insert.IsInsertion, Gap.last_of}
use Rattle.leaf_list.specs.Leaves.{Leaf, Leaves, times_numbered}
use Rattle.leaf_list.specs.Parts.{with_leaf, without_leaf}
use Rattle.leaf_list.specs.Layout.{shown, leaf_by, leaves_in, leaves_of, AreStored}
use Rattle.leaf_list.proofs.Storing.{none-at, times-stored, stored-append}
use Rattle.leaf_list.proofs.Cutting.{times_numbered-append, with_leaf-cut}

module _ {T : Type 0} where
  -- what an insertion into an index does
  pub record Inserts (old new : Chain T) (place : Entry T → List (Entry T)) (item : T) (i : ℕ) : Type 0 where
    pub entries : new.entries ≡ place (record { index = i; generation = old.generation; item = item })
    pub capacity : new.capacity ≡ old.capacity
    pub maximum : new.maximum ≡ old.maximum
    pub above : 0 < i
    pub free : times_at i old.entries ≡ 0

  pub inserts-of : (old new : Chain T) (place : Entry T → List (Entry T)) (item : T) (i g : ℕ) → IsInsertion old new place item i g → Inserts old new place item i
  inserts-of old new place item i g is = go old.vacant refl
    where
      go : (vacant : List ℕ) → old.vacant ≡ vacant → Inserts old new place item i
      go [] none = absurd (let lost : None ≡ Some i = ap (λ (l : List ℕ). slice_get l 0) (sym none) ∙ is.next in cc)
      go (j ∷ rest) cons =
          let own : Some j ≡ Some i = ap (λ (l : List ℕ). slice_get l 0) (sym cons) ∙ is.next in
          let same : j ≡ i = cc in
          let after = rw cons at is.after in record {
            entries = ap (λ (c : Chain T). c.entries) after ∙ ap (λ (k : ℕ). place (record { index = k; generation = old.generation; item = item })) same;
            capacity = ap (λ (c : Chain T). c.capacity) after;
            maximum = ap (λ (c : Chain T). c.maximum) after;
            above = is.vacant.above;
            free = is.vacant.free;
          }

  none-before : (front : List (Entry T)) (e : Entry T) (back : List (Entry T)) (m : ℕ) → entry_at (front ++ e ∷ back) m ≡ None → entry_at (front ++ back) m ≡ None
  none-before [] e back m none = elim (eqb_tells e.index m) [
    | inl same ↦ absurd (let lost = rw same.0 at none in cc)
    | inr other ↦ rw other.0 at none
  ]
  none-before (f ∷ front) e back m none = elim (eqb_tells f.index m) [
    | inl same ↦ absurd (let lost = rw same.0 at none in cc)
    | inr other ↦ rw other.0 (none-before front e back m (rw other.0 at none))
  ]

  none-without : (es : List (Entry T)) (n m : ℕ) → entry_at (without_at n es) m ≡ None → m ≢ n → entry_at es m ≡ None
  none-without [] n m none other = refl
  none-without (e ∷ es) n m none other = elim (eqb_tells e.index n) [
    | inl same ↦ elim (eqb_tells e.index m) [
      | inl here ↦ absurd (other (sym here.1 ∙ same.1))
      | inr apart ↦ rw apart.0 (rw same.0 at none)
    ]
    | inr differs ↦ elim (eqb_tells e.index m) [
      | inl here ↦ absurd (let lost = rw (differs.0, here.0) at none in cc)
      | inr apart ↦ rw apart.0 (none-without es n m (rw (differs.0, apart.0) at none) other)
    ]
  ]

  -- the last entry of a list
  pub record EndsAt (front : List (Entry T)) (n : ℕ) : Type 0 where
    pub before : List (Entry T)
    pub last : Entry T
    pub cut : front ≡ before ++ last ∷ []
    pub index : last.index ≡ n

  pub ends-at : (front : List (Entry T)) (n : ℕ) → IsSomeAnd (last_of None front) (λ e. e.index ≡ n) → EndsAt front n
  ends-at [] n is = absurd is
  ends-at (e ∷ []) n is = record { before = []; last = e; cut = refl; index = is }
  ends-at (e ∷ f ∷ front) n is =
      let rest = ends-at (f ∷ front) n is in record { before = e ∷ rest.before; last = rest.last; cut = ap (λ (l : List (Entry T)). e ∷ l) rest.cut; index = rest.index }

module _ {K I : Type 0} (number : I → ℕ) where
  module _ (index : Tree (K × I)) (rows : List (List (K × I))) (now : Leaves K) (view : leaves_of number index rows ≡ now) (are_stored : AreStored index rows) where
    -- a leaf comes
    module _ (new : Tree (K × I)) (front back : List (Entry (K × I))) (cut : index.list.entries ≡ front ++ back) (item : K × I) (i : ℕ)
        (inserts : Inserts index.list new.list (λ e. front ++ e ∷ back) item i) where
      new_entry : Entry (K × I)
      new_entry = record { index = i; generation = index.list.generation; item = item }

      row-empty : get_or rows (i - 1) [] ≡ []
      row-empty =
          let above = inserts.above in
          let place : i - 1 + 1 ≡ i = omega arith in
          are_stored.emptied (i - 1) (ap (entry_at index.list.entries) place ∙ none-at index.list.entries i inserts.free)

      pub come-stored : AreStored new rows
      come-stored = record {
        emptied = λ m none. are_stored.emptied m (ap (λ (es : List (Entry (K × I))). entry_at es (m + 1)) cut
            ∙ none-before front (record { index = i; generation = index.list.generation; item = item }) back (m + 1) (ap (λ (es : List (Entry (K × I))). entry_at es (m + 1)) (sym inserts.entries) ∙ none));
        enough = let same = inserts.capacity in omega (arith, are_stored.enough);
        unlimited = inserts.maximum ∙ are_stored.unlimited;
        fits = let same = inserts.capacity in omega (arith, are_stored.fits);
      }

      come-room : ◌≡◌ {A = ℕ} (16 * new.list.capacity) now.room
      come-room = ap (λ (c : ℕ). 16 * c) inserts.capacity ∙ ap (λ (a : Leaves K). a.room) view

      come-leaves : leaves_in number new.list.entries rows ≡ leaves_in number front rows ++ record { number = i; entries = shown number item ∷ [] } ∷ leaves_in number back rows
      come-leaves =
          ap (λ (es : List (Entry (K × I))). leaves_in number es rows) inserts.entries
          ∙ stored-append number front (record { index = i; generation = index.list.generation; item = item } ∷ back) rows
          ∙ ap (λ (row : List (K × I)). leaves_in number front rows ++ record { number = i; entries = map (shown number) (item ∷ row) } ∷ leaves_in number back rows) row-empty

      pub come-fresh : times_numbered i now.leaves ≡ 0
      come-fresh = ap (λ (a : Leaves K). times_numbered i a.leaves) (sym view) ∙ times-stored number index.list.entries rows i ∙ inserts.free

      pub come-first : now.leaves ≡ [] → leaves_of number new rows ≡ record now { leaves = record { number = i; entries = shown number item ∷ [] } ∷ [] }
      come-first none =
          let leaves : leaves_in number (front ++ back) rows ≡ [] = ap (λ (es : List (Entry (K × I))). leaves_in number es rows) (sym cut) ∙ ap (λ (a : Leaves K). a.leaves) view ∙ none in
          let empty : front ++ back ≡ [] = nil_from_length (front ++ back) (let size = ap length leaves in omega (arith, length-map (front ++ back) (leaf_by number rows))) in
          let before : front ≡ [] = nil-front front back empty in
          let behind : back ≡ [] = nil-back front back empty in
          ap (λ (r : ℕ). record { leaves = leaves_in number new.list.entries rows; room = r }) come-room
          ∙ ap (λ (ls : List (Leaf K)). record now { leaves = ls }) (come-leaves
          ∙ ap (λ (es : List (Entry (K × I))). leaves_in number es rows ++ record { number = i; entries = shown number item ∷ [] } ∷ leaves_in number back rows) before
          ∙ ap (λ (es : List (Entry (K × I))). record { number = i; entries = shown number item ∷ [] } ∷ leaves_in number es rows) behind)
        where
          nil-front : (xs ys : List (Entry (K × I))) → xs ++ ys ≡ [] → xs ≡ []
          nil-front [] ys none = refl
          nil-front (x ∷ xs) ys none = absurd (cc)

          nil-back : (xs ys : List (Entry (K × I))) → xs ++ ys ≡ [] → ys ≡ []
          nil-back [] ys none = none
          nil-back (x ∷ xs) ys none = absurd (cc)

      pub come-after : (n : ℕ) → ((j : ℕ) → times_at j index.list.entries ≤ 1) → EndsAt front n
          → leaves_of number new rows ≡ record now { leaves = with_leaf now.leaves n (record { number = i; entries = shown number item ∷ [] }) }
      come-after n distinct ends =
          let leaf : Leaf K = leaf_by number rows ends.last in
          let added : Leaf K = record { number = i; entries = shown number item ∷ [] } in
          let whole : index.list.entries ≡ ends.before ++ ends.last ∷ back = cut ∙ ap (λ (es : List (Entry (K × I))). es ++ back) ends.cut ∙ append_assoc ends.before (ends.last ∷ []) back in
          let old : now.leaves ≡ leaves_in number ends.before rows ++ leaf ∷ leaves_in number back rows =
          ap (λ (a : Leaves K). a.leaves) (sym view) ∙ ap (λ (es : List (Entry (K × I))). leaves_in number es rows) whole ∙ stored-append number ends.before (ends.last ∷ back) rows in
          let once = distinct ends.last.index in
          let count = sym (times-stored number index.list.entries rows ends.last.index) ∙ ap (λ (a : Leaves K). times_numbered ends.last.index a.leaves) view ∙ ap (times_numbered ends.last.index) old in
          let sum = times_numbered-append ends.last.index (leaves_in number ends.before rows) (leaf ∷ leaves_in number back rows) in
          let test = eq-eqb ends.last.index ends.last.index refl in
          let one : times_numbered ends.last.index (leaf ∷ leaves_in number back rows) ≡ 1 + times_numbered ends.last.index (leaves_in number back rows) = rw test refl in
          let met : times_numbered leaf.number (leaves_in number ends.before rows) ≡ 0 = omega arith in
          let done : with_leaf now.leaves n added ≡ leaves_in number ends.before rows ++ leaf ∷ added ∷ leaves_in number back rows =
          ap (λ (ls : List (Leaf K)). with_leaf ls n added) old ∙ ap (λ (m : ℕ). with_leaf (leaves_in number ends.before rows ++ leaf ∷ leaves_in number back rows) m added) (sym ends.index)
          ∙ with_leaf-cut leaf (leaves_in number back rows) (leaves_in number ends.before rows) added met in
          let fronts : leaves_in number front rows ≡ leaves_in number ends.before rows ++ leaf ∷ [] = ap (λ (es : List (Entry (K × I))). leaves_in number es rows) ends.cut ∙ stored-append number ends.before (ends.last ∷ []) rows in
          ap (λ (r : ℕ). record { leaves = leaves_in number new.list.entries rows; room = r }) come-room
          ∙ ap (λ (ls : List (Leaf K)). record now { leaves = ls }) (come-leaves
          ∙ ap (λ (ls : List (Leaf K)). ls ++ added ∷ leaves_in number back rows) fronts ∙ append_assoc (leaves_in number ends.before rows) (leaf ∷ []) (added ∷ leaves_in number back rows) ∙ sym done)

    -- a leaf goes
    gone-leaves : (es : List (Entry (K × I))) (n : ℕ) → leaves_in number (without_at n es) rows ≡ without_leaf (leaves_in number es rows) n
    gone-leaves [] n = refl
    gone-leaves (e ∷ es) n = elim (eqb_tells e.index n) [
      | inl same ↦ rw same.0 refl
      | inr other ↦ rw other.0 (ap (λ (ls : List (Leaf K)). leaf_by number rows e ∷ ls) (gone-leaves es n))
    ]

    module _ (new : Tree (K × I)) (n : ℕ) (entries : new.list.entries ≡ without_at n index.list.entries) (capacity : new.list.capacity ≡ index.list.capacity)
        (maximum : new.list.maximum ≡ index.list.maximum) (above : 0 < n) (single : get_or rows (n - 1) [] ≡ []) where
      pub gone-stored : AreStored new rows
      gone-stored = record {
        emptied = λ m none. elim (eqb_tells (m + 1) n) [
          | inl same ↦ let place : m ≡ n - 1 = omega (arith, same.1) in ap (λ (j : ℕ). get_or rows j []) place ∙ single
          | inr other ↦ are_stored.emptied m (none-without index.list.entries n (m + 1) (ap (λ (es : List (Entry (K × I))). entry_at es (m + 1)) (sym entries) ∙ none) other.1)
        ];
        enough = omega (arith, are_stored.enough);
        unlimited = maximum ∙ are_stored.unlimited;
        fits = omega (arith, are_stored.fits);
      }

      pub gone-view : leaves_of number new rows ≡ record now { leaves = without_leaf now.leaves n }
      gone-view =
          ap (λ (es : List (Entry (K × I))). record { leaves = leaves_in number es rows; room = 16 * new.list.capacity }) entries
          ∙ ap (λ (ls : List (Leaf K)). record { leaves = ls; room = 16 * new.list.capacity }) (gone-leaves index.list.entries n)
          ∙ ap (λ (c : ℕ). record { leaves = without_leaf (leaves_in number index.list.entries rows) n; room = 16 * c }) capacity
          ∙ ap (λ (a : Leaves K). record a { leaves = without_leaf a.leaves n }) view

-- what a call that found something says
pub on-some : {X A : Type 0} (o : Option X) (x : X) → o ≡ Some x → OnSome o A → A
on-some None x is a = absurd (cc)
on-some (Some y) x is a = a

-- an index without leaves
pub no-entries : {K I : Type 0} (number : I → ℕ) (es : List (Entry (K × I))) (rows : List (List (K × I))) (ls : List (Leaf K)) → leaves_in number es rows ≡ ls → ls ≡ [] → es ≡ []
no-entries number es rows ls view none =
    nil_from_length es (let size = ap length (view ∙ none) in omega (arith, length-map es (leaf_by number rows)))
