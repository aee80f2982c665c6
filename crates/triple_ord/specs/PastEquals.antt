-- The order of keys for a search that goes behind all entries with an equal key.
use Rattle.std.specs.{Ordering.ordering_then, declared.cmp.Ordering.Ordering, declared.cmp.Ordering.TheVariants.Greater}

-- the order of a key to another, with an equal one counting as smaller
abbrev pub order_past_equals : {K : Type 0} → (K → K → Ordering) → K → K → Ordering
order_past_equals cmp k other = ordering_then (cmp k other) Greater
