-- How a search by key treats an equal key. No public clause cites this file.
use Rattle.std.specs.{Ordering.ordering_then, declared.cmp.Ordering.Ordering, declared.cmp.Ordering.TheVariants.Greater}
use Rattle.triple_ord.specs.declared.ties.Ties.{Ties, TheVariants.Sought, TheVariants.Passed}

-- the order of keys for a search: an equal key is sought, or counts as smaller
abbrev pub taken : {K : Type 0} → Ties → (K → K → Ordering) → K → K → Ordering
taken Sought cmp k other = cmp k other
taken Passed cmp k other = ordering_then (cmp k other) Greater
