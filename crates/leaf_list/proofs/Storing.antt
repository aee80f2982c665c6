-- Leaves in an index and rows, as contracts see them.
use Rattle.std.proofs.Common.{◌≡◌, ℕ, zero, suc, ◌+◌, ◌-◌, ◌<◌, ◌≤◌, List, [], ◌∷◌, ◌++◌, map, length, get_or, Option, Some, None, IsSome, arith, ap, sym, subst, ◌∙◌, refl, inl, inr}
use Rattle.std.specs.{List.AllByRecursion, Option.option_map}
use Rattle.std.proofs.lemmas.Bool.{Decides.eqb_tells}
use Rattle.std.proofs.lemmas.List.{length-map, Elements.All-from_recursion}
use Rattle.triple_ord.specs.Chain.{Entry, Chain, entry_at, times as times_at, first_or, first_pointer, last_pointer, link_between, link_at, IsSound}
use Rattle.triple_ord.specs.{Link.Link, Tree.Tree}
use Rattle.leaf_list.specs.Leaves.{Leaf, Leaves, times_numbered, AreApart}
use Rattle.leaf_list.specs.Parts.{entries_in, HasLeaf, first_number, last_number, number_after, number_before}
use Rattle.leaf_list.specs.Layout.{shown, leaf_by, leaves_in, leaves_of, AreStored}

-- what an option holds, through a map
pub map-there : {A B : Type 0} (f : A → B) (o : Option A) (b : B) → option_map f o ≡ Some b → IsSome o
map-there f (Some a) b is = refl
map-there f None b is = absurd (cc)

pub map-some : {A B : Type 0} (f : A → B) (o : Option A) (a : A) (b : B) → o ≡ Some a → option_map f o ≡ Some b → f a ≡ b
map-some f (Some x) a b is to = let own : x ≡ a = cc in let there : f x ≡ b = cc in ap f (sym own) ∙ there
map-some f None a b is to = absurd (cc)

pub some-second : {A B : Type 0} (a c : A) (b d : B) → ◌≡◌ {A = Option (A × B)} (Some (a, b)) (Some (c, d)) → b ≡ d
some-second {A} {B} a c b d is = let pair : ◌≡◌ {A = A × B} (a, b) (c, d) = cc in ap (λ (p : A × B). p.1) pair

module _ {T : Type 0} where
  -- the entry of an index
  pub record EntryOf (es : List (Entry T)) (n : ℕ) : Type 0 where
    pub generation : ℕ
    pub item : T
    pub there : entry_at es n ≡ Some (generation, item)

  pub none-at : (es : List (Entry T)) (n : ℕ) → times_at n es ≡ 0 → entry_at es n ≡ None
  none-at [] n none = refl
  none-at (e ∷ es) n none = elim (eqb_tells e.index n) [
    | inl same ↦ absurd (omega (arith, rw same.0 at none))
    | inr other ↦ rw other.0 (none-at es n (omega (arith, rw other.0 at none)))
  ]

  pub times-none : (es : List (Entry T)) (n : ℕ) → entry_at es n ≡ None → times_at n es ≡ 0
  times-none [] n none = refl
  times-none (e ∷ es) n none = elim (eqb_tells e.index n) [
    | inl same ↦ absurd (let lost = rw same.0 at none in cc)
    | inr other ↦ let rest = times-none es n (rw other.0 at none) in rw other.0 (omega (arith, rest))
  ]

  pub no-zero : (most : ℕ) (greatest : Option ℕ) (c : Chain T) → IsSound most greatest c → times_at 0 c.entries ≡ 0
  no-zero most greatest c sound = go (times_at 0 c.entries) refl
    where
      go : (t : ℕ) → times_at 0 c.entries ≡ t → times_at 0 c.entries ≡ 0
      go zero is = is
      go (suc t) is = absurd (let above = sound.within 0 (omega arith) in omega (arith, above.0))

  pub positive-at : (most : ℕ) (greatest : Option ℕ) (c : Chain T) → IsSound most greatest c → (n g : ℕ) (item : T) → entry_at c.entries n ≡ Some (g, item) → (0 < n) × (n ≤ c.capacity)
  positive-at most greatest c sound n g item there = go (times_at n c.entries) refl
    where
      go : (t : ℕ) → times_at n c.entries ≡ t → (0 < n) × (n ≤ c.capacity)
      go zero is = absurd (let none = none-at c.entries n is in let lost : None ≡ Some (g, item) = sym none ∙ there in cc)
      go (suc t) is = sound.within n (omega arith)

module _ {K I : Type 0} (number : I → ℕ) where
  -- the entries of a leaf
  pub stored : (es : List (Entry (K × I))) (rows : List (List (K × I))) (n g : ℕ) (item : K × I) → entry_at es n ≡ Some (g, item)
      → entries_in (leaves_in number es rows) n ≡ shown number item ∷ map (shown number) (get_or rows (n - 1) [])
  stored [] rows n g item is = absurd (cc)
  stored (e ∷ es) rows n g item is = elim (eqb_tells e.index n) [
    | inl same ↦
        let own : e.item ≡ item = some-second e.generation g e.item item (rw same.0 at is) in
        rw same.0 (ap (λ (x : K × I). shown number x ∷ map (shown number) (get_or rows (e.index - 1) [])) own
        ∙ ap (λ (m : ℕ). shown number item ∷ map (shown number) (get_or rows (m - 1) [])) same.1)
    | inr other ↦ rw other.0 (stored es rows n g item (rw other.0 at is))
  ]

  pub entry-of : (es : List (Entry (K × I))) (rows : List (List (K × I))) (n : ℕ) → HasLeaf (leaves_in number es rows) n → EntryOf es n
  entry-of [] rows n has = absurd (omega arith)
  entry-of (e ∷ es) rows n has = elim (eqb_tells e.index n) [
    | inl same ↦ record { generation = e.generation; item = e.item; there = rw same.0 refl }
    | inr other ↦ let rest = entry-of es rows n (rw other.0 at has) in record { generation = rest.generation; item = rest.item; there = rw other.0 rest.there }
  ]

  pub times-stored : (es : List (Entry (K × I))) (rows : List (List (K × I))) (n : ℕ) → times_numbered n (leaves_in number es rows) ≡ times_at n es
  times-stored [] rows n = refl
  times-stored (e ∷ es) rows n = let rest = times-stored es rows n in omega arith

  pub length-stored : (es : List (Entry (K × I))) (rows : List (List (K × I))) → length (leaves_in number es rows) ≡ length es
  length-stored es rows = length-map es (leaf_by number rows)

  pub stored-append : (es fs : List (Entry (K × I))) (rows : List (List (K × I))) → leaves_in number (es ++ fs) rows ≡ leaves_in number es rows ++ leaves_in number fs rows
  stored-append [] fs rows = refl
  stored-append (e ∷ es) fs rows = ap (λ (ls : List (Leaf K)). leaf_by number rows e ∷ ls) (stored-append es fs rows)

  -- the ends
  pub first-stored : (es : List (Entry (K × I))) (rows : List (List (K × I))) → first_number (leaves_in number es rows) ≡ first_or None es
  first-stored [] rows = refl
  first-stored (e ∷ es) rows = refl

  pub first-pointed : (es : List (Entry (K × I))) (rows : List (List (K × I))) → first_number (leaves_in number es rows) ≡ option_map (λ p. p.0) (first_pointer es)
  first-pointed [] rows = refl
  first-pointed (e ∷ es) rows = refl

  pub last-pointed : (es : List (Entry (K × I))) (rows : List (List (K × I))) → last_number (leaves_in number es rows) ≡ option_map (λ p. p.0) (last_pointer es)
  last-pointed [] rows = refl
  last-pointed (e ∷ []) rows = refl
  last-pointed (e ∷ f ∷ es) rows = last-pointed (f ∷ es) rows

  pub first-end : {P : Type 0} (numbers : P → ℕ × ℕ) (es : List (Entry (K × I))) (rows : List (List (K × I))) (ls : List (Leaf K)) (found : Option P) → leaves_in number es rows ≡ ls
      → option_map numbers found ≡ first_pointer es → first_number ls ≡ option_map (λ p. (numbers p).0) found
  first-end {P} numbers es rows ls found view is = ap first_number (sym view) ∙ first-pointed es rows ∙ ap (option_map (λ (p : ℕ × ℕ). p.0)) (sym is) ∙ twice found
    where
      twice : (o : Option P) → option_map (λ p. p.0) (option_map numbers o) ≡ option_map (λ p. (numbers p).0) o
      twice None = refl
      twice (Some p) = refl

  pub last-end : {P : Type 0} (numbers : P → ℕ × ℕ) (es : List (Entry (K × I))) (rows : List (List (K × I))) (ls : List (Leaf K)) (found : Option P) → leaves_in number es rows ≡ ls
      → option_map numbers found ≡ last_pointer es → last_number ls ≡ option_map (λ p. (numbers p).0) found
  last-end {P} numbers es rows ls found view is = ap last_number (sym view) ∙ last-pointed es rows ∙ ap (option_map (λ (p : ℕ × ℕ). p.0)) (sym is) ∙ twice found
    where
      twice : (o : Option P) → option_map (λ p. p.0) (option_map numbers o) ≡ option_map (λ p. (numbers p).0) o
      twice None = refl
      twice (Some p) = refl

  -- the neighbours
  pub after-linked : (es : List (Entry (K × I))) (rows : List (List (K × I))) (before : Option ℕ) (n g : ℕ) (link : Link (K × I)) → link_between before None es n ≡ Some (g, link)
      → number_after (leaves_in number es rows) n ≡ link.next
  after-linked [] rows before n g link is = absurd (cc)
  after-linked (e ∷ es) rows before n g link is = elim (eqb_tells e.index n) [
    | inl same ↦
        let own = some-second e.generation g (record { item = e.item; prev = before; next = first_or None es }) link (rw same.0 at is) in
        rw same.0 (first-stored es rows ∙ ap (λ (l : Link (K × I)). l.next) own)
    | inr other ↦ rw other.0 (after-linked es rows (Some e.index) n g link (rw other.0 at is))
  ]

  pub before-linked : (es : List (Entry (K × I))) (rows : List (List (K × I))) (before : Option ℕ) (n g : ℕ) (link : Link (K × I)) → link_between before None es n ≡ Some (g, link)
      → number_before before (leaves_in number es rows) n ≡ link.prev
  before-linked [] rows before n g link is = absurd (cc)
  before-linked (e ∷ es) rows before n g link is = elim (eqb_tells e.index n) [
    | inl same ↦
        let own = some-second e.generation g (record { item = e.item; prev = before; next = first_or None es }) link (rw same.0 at is) in
        rw same.0 (ap (λ (l : Link (K × I)). l.prev) own)
    | inr other ↦ rw other.0 (before-linked es rows (Some e.index) n g link (rw other.0 at is))
  ]

  -- the link of a leaf
  pub record LinkOf (es : List (Entry (K × I))) (before : Option ℕ) (n : ℕ) : Type 0 where
    pub generation : ℕ
    pub link : Link (K × I)
    pub there : link_between before None es n ≡ Some (generation, link)

  pub link-of : (es : List (Entry (K × I))) (rows : List (List (K × I))) (before : Option ℕ) (n : ℕ) → HasLeaf (leaves_in number es rows) n → LinkOf es before n
  link-of [] rows before n has = absurd (omega arith)
  link-of (e ∷ es) rows before n has = elim (eqb_tells e.index n) [
    | inl same ↦ record { generation = e.generation; link = record { item = e.item; prev = before; next = first_or None es }; there = rw same.0 refl }
    | inr other ↦
        let rest = link-of es rows (Some e.index) n (rw other.0 at has) in record { generation = rest.generation; link = rest.link; there = rw other.0 rest.there }
  ]

  some-stored : (es : List (Entry (K × I))) (rows : List (List (K × I))) → AllByRecursion (λ (l : Leaf K). 0 < length l.entries) (leaves_in number es rows)
  some-stored [] rows = tt
  some-stored (e ∷ es) rows = (omega arith, some-stored es rows)

  -- what holds of the numbers
  module _ (index : Tree (K × I)) (rows : List (List (K × I))) (now : Leaves K) (view : leaves_of number index rows ≡ now)
      (are_stored : AreStored index rows) (most : ℕ) (greatest : Option ℕ) (sound : IsSound most greatest index.list) where
    pub are-apart : AreApart now.leaves
    are-apart = subst (λ (a : Leaves K). AreApart a.leaves) view (record {
      distinct = λ n. let once = sound.distinct n in let same = times-stored index.list.entries rows n in omega arith;
      positive = times-stored index.list.entries rows 0 ∙ no-zero most greatest index.list sound;
      some = All-from_recursion (λ (l : Leaf K). 0 < length l.entries) (leaves_in number index.list.entries rows) (some-stored index.list.entries rows);
    })

    -- the entry and the row of a leaf
    pub record IsHere (n : ℕ) : Type 0 where
      pub generation : ℕ
      pub item : K × I
      pub there : entry_at index.list.entries n ≡ Some (generation, item)
      pub above : 0 < n
      pub row_there : n - 1 < length rows
      pub entries : entries_in now.leaves n ≡ shown number item ∷ map (shown number) (get_or rows (n - 1) [])
      pub size : length (entries_in now.leaves n) ≡ length (get_or rows (n - 1) []) + 1

    pub is-here : (n : ℕ) → HasLeaf now.leaves n → IsHere n
    is-here n has =
        let same : leaves_in number index.list.entries rows ≡ now.leaves = ap (λ (a : Leaves K). a.leaves) view in
        let e = entry-of index.list.entries rows n (subst (λ (ls : List (Leaf K)). HasLeaf ls n) (sym same) has) in
        let place = positive-at most greatest index.list sound n e.generation e.item e.there in
        let read : entries_in now.leaves n ≡ shown number e.item ∷ map (shown number) (get_or rows (n - 1) []) =
        ap (λ (ls : List (Leaf K)). entries_in ls n) (sym same) ∙ stored index.list.entries rows n e.generation e.item e.there in
        let count = ap length read in
        let enough = are_stored.enough in record {
          generation = e.generation;
          item = e.item;
          there = e.there;
          above = place.0;
          row_there = omega (arith, place.0, place.1);
          entries = read;
          size = omega (arith, length-map (get_or rows (n - 1) []) (shown number));
        }

    pub link-here : (n : ℕ) → HasLeaf now.leaves n → LinkOf index.list.entries None n
    link-here n has = link-of index.list.entries rows None n (subst (λ (a : Leaves K). HasLeaf a.leaves n) (sym view) has)

    pub after-here : (n g : ℕ) (link : Link (K × I)) → link_at index.list.entries n ≡ Some (g, link) → number_after now.leaves n ≡ link.next
    after-here n g link is = ap (λ (a : Leaves K). number_after a.leaves n) (sym view) ∙ after-linked index.list.entries rows None n g link is

    pub before-here : (n g : ℕ) (link : Link (K × I)) → link_at index.list.entries n ≡ Some (g, link) → number_before None now.leaves n ≡ link.prev
    before-here n g link is = ap (λ (a : Leaves K). number_before None a.leaves n) (sym view) ∙ before-linked index.list.entries rows None n g link is
