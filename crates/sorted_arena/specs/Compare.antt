-- How a closure compares keys with what is sought.
use Rattle.std.specs.Prelude.{◌≡◌, List}
use Rattle.std.specs.{Borrow.Bor, List.Sorted.IsNonDecreasingBy, Ordering.ordering_index, declared.cmp.Ordering.Ordering}
use denote.Param.Members.{Shared}
use Rattle.listing.specs.Chain.{Entry}
use Rattle.sorted_arena.specs.Sorted.{key_of}

-- each answer of the closure for a key is what `order` is of that key
abbrev pub ComparesBy : {F K : Type 0} → Shared F (Bor K × Unit {0}) Ordering → F → (K → Ordering) → Type 0
ComparesBy {K = K} g f order = (k : Bor K) (answer : Ordering) → g.post f (k, tt) answer → answer ≡ order k.now

-- along the entries the order of their keys is first `Less`, then `Equal`, and then `Greater`, each for any number of entries
abbrev pub IsMonotone : {K V : Type 0} → (K → Ordering) → List (Entry (K × V)) → Type 0
IsMonotone order es = IsNonDecreasingBy (λ e. ordering_index (order (key_of e))) es
