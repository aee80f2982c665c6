-- The two kinds of entries that an insertion can make.
use Rattle.triple_ord.specs.declared.entry_kind.OrdEntryKind.{OrdEntryKind, TheVariants.New, TheVariants.Replacing}

-- the pointer of either kind
abbrev pub pointer_of_kind : {P : Type 0} → OrdEntryKind P → P
pointer_of_kind (New p) = p
pointer_of_kind (Replacing p) = p
