-- The state of a descent from the root of a tree. No public clause cites this file.
use Rattle.std.proofs.Props.{props}
use Rattle.std.specs.{List.All, List.FoldsTo, Option.option_map, Ordering.ordering_then}
use Rattle.std.specs.Prelude.{◌≡◌, ◌≢◌, ℕ, ◌+◌, ◌-◌, ◌^◌, ◌<◌, ◌≤◌, ◌⊎◌, List, ◌++◌, Option, Some, None, IsSome, IfSome, MatchOption, Contains, length, map}
use Rattle.std.specs.declared.cmp.Ordering.{Ordering, TheVariants.Less, TheVariants.Equal, TheVariants.Greater}
use Rattle.ord_tree.specs.{Chain.Entry, Chain.times, Chain.entry_at, Chain.link_at, Shape.Shape, Shape.missing, Shape.node, Shape.root_of, Shape.walk, Shape.height, Ranks.IsRankOver, Ranks.IsRanked, Tree.Tree, Tree.IsSoundTree}
use Rattle.triple_ord.specs.{ClosureSearch.Shown, ClosureSearch.entries_of, ClosureSearch.where_equal, ClosureSearch.similar_of, Search.order_to, Search.pointer, Search.FindsSimilar, Gap.first_of, Gap.last_of, Node.IsPart}

-- the entry at index i, with the roots of its sides
pub record IsNodeAt {T : Type 0} (t : Tree T) (i generation : ℕ) (item : T) (lesser greater : Option ℕ) : Type 0 where
  pub entry : entry_at t.list.entries i ≡ Some (generation, item)
  pub lesser_root : (l r : Shape) (k : ℕ) → IsPart (node l i k r) t.shape → lesser ≡ root_of l
  pub greater_root : (l r : Shape) (k : ℕ) → IsPart (node l i k r) t.shape → greater ≡ root_of r

-- the same with its neighbours in the list
pub record IsLinkAt {T : Type 0} (t : Tree T) (i generation : ℕ) (item : T) (lesser greater prev next : Option ℕ) : Type 0 where
  pub node : IsNodeAt t i generation item lesser greater
  pub linked : link_at t.list.entries i ≡ Some (generation, record { item = item; prev = prev; next = next })

-- the entry at index i can be shown: it is there, and one more visit can be counted
pub record CanShow {T : Type 0} (t : Tree T) (visits i : ℕ) : Type 0 where
  pub occupied : IsSome (entry_at t.list.entries i)
  pub room : visits + 1 < 2 ^ 128

-- An entry was shown. `Shown` says what was seen of it. The visit is counted, and the tree stays as it was.
pub record ShowsEntry {T : Type 0} (t u : Tree T) (visits after : ℕ) (Shown : Type 0) : Type 0 where
  pub shown : Shown
  pub counted : after ≡ visits + 1
  pub tree : u ≡ t

-- the side on which a descent goes on after this answer
abbrev pub side_of : {X : Type 0} → Ordering → X → X → X
side_of Greater lesser greater = greater
side_of o lesser greater = lesser

-- k was compared with the key of the entry at index i, whose pointer is p, and the search goes on at this link
pub record IsCompared {T K : Type 0} (key : T → K) (cmp : K → K → Ordering) (t : Tree T) (i : ℕ) (k : K) (p : ℕ × ℕ) (order : Ordering) (next : Option ℕ) : Type 0 where
  pub item : T
  pub lesser : Option ℕ
  pub greater : Option ℕ
  pub there : IsNodeAt t i p.1 item lesser greater
  pub here : p.0 ≡ i
  pub order_is : order ≡ cmp k (key item)
  pub next_is : next ≡ side_of order lesser greater

-- the equal entry directly after everything that is left, if any, once x got this answer
abbrev pub met_next : {X : Type 0} → Option X → X → Ordering → Option X
met_next met x Less = None
met_next met x Equal = Some x
met_next met x Greater = met

-- what a search by key answers where it ends: the equal entry directly after the gap, if any, else the entry shown last
abbrev pub found_where_ended : {X : Type 0} → Option X → Option (X × Ordering) → Option (X × Ordering)
found_where_ended (Some x) last = Some (x, Equal)
found_where_ended None last = last

module _ {T : Type 0} where
  -- A descent has come to this link after these answers. The part at the link is all that is left. The entry before it was answered
  -- `Greater` and the one after it `Less`, one of the two last. Nothing that is left has been shown yet.
  pub record IsDescending (entries : List (Entry T)) (shape : Shape) (shown : List (Shown T)) (link : Option ℕ) : Type 0 where
    pub part : Shape
    pub within : IsPart part shape
    pub led : link ≡ root_of part
    pub front : List (Entry T)
    pub middle : List (Entry T)
    pub back : List (Entry T)
    pub cut : entries ≡ front ++ (middle ++ back)
    pub left : map (λ e. e.index) middle ≡ walk part
    pub greater_before : IfSome (last_of None front) (λ e. Contains shown (e, Greater))
    pub less_after : IfSome (first_of back) (λ e. Contains shown (e, Less))
    pub last_beside : MatchOption (last_of None shown) ((last_of None front ≡ None) × (first_of back ≡ None)) (λ s. (last_of None front ≡ Some s.0) ⊎ (first_of back ≡ Some s.0))
    pub few : length shown + height part ≤ height shape
    pub new : (j : ℕ) → times j (entries_of shown) + times j middle ≤ 1
    pub inside : All (λ s. Contains entries s.0) shown
    pub no_equal : All (λ s. s.1 ≢ Equal) shown

  -- the calls so far took f to g, and the descent has come to this link; its visits are added to those from before
  pub record HasDescended {F : Type 0} (asks : F → Shown T → F → Type 0) (entries : List (Entry T)) (shape : Shape) (before : ℕ) (f g : F)
      (link : Option ℕ) (visits : ℕ) (last : Option ((ℕ × ℕ) × Ordering)) : Type 0 where
    pub shown : List (Shown T)
    pub calls : FoldsTo asks f shown g
    pub descending : IsDescending entries shape shown link
    pub count : visits ≡ before + length shown
    pub last_is : last ≡ similar_of (last_of None shown)

  -- The comparisons with k so far have led to this link, to the lesser side at an equal key. The visits are added to those from before.
  -- `last` is the entry shown last with the order of k to its key, and `met` the entry after everything that is left, if it is equal.
  pub record HasDescendedByKey {K : Type 0} (key : T → K) (cmp : K → K → Ordering) (entries : List (Entry T)) (shape : Shape) (k : K)
      (before : ℕ) (link : Option ℕ) (visits : ℕ) (last : Option ((ℕ × ℕ) × Ordering)) (met : Option (ℕ × ℕ)) : Type 0 where
    pub shown : List (Shown T)
    pub turned : All (λ s. s.1 ≡ ordering_then (order_to key cmp k s.0) Less) shown
    pub descending : IsDescending entries shape shown link
    pub count : visits ≡ before + length shown
    pub last_is : last ≡ option_map (λ s. (pointer s.0, order_to key cmp k s.0)) (last_of None shown)
    pub met_is : met ≡ where_equal (option_map (λ e. (pointer e, order_to key cmp k e)) (first_of descending.back))

  -- a search for k from the root has ended with this result; its visits are added to those from before
  pub record HasEndedByKey {K : Type 0} (key : T → K) (cmp : K → K → Ordering) (t : Tree T) (k : K) (before : ℕ) (found : Option ((ℕ × ℕ) × Ordering)) (visits : ℕ) : Type 0 where
    pub similar : FindsSimilar key cmp t.list.entries k found (visits - before)
    pub few : visits ≤ before + height t.shape

-- each of these is a proposition
IsRankOver-prop : (k l r : ℕ) → IsProp (IsRankOver k l r)
IsRankOver-prop k l r = hlevel props

IsRanked-prop : (s : Shape) → IsProp (IsRanked s)
IsRanked-prop missing = hlevel props
IsRanked-prop (node l i k r) = hlevel (props, IsRankOver-prop, IsRanked-prop l, IsRanked-prop r)

pub IsSoundTree-prop : {T : Type 0} (t : Tree T) → IsProp (IsSoundTree t)
IsSoundTree-prop t = hlevel (props, IsRanked-prop)
