-- What a rowid finds after an edit of a table.
use Rattle.std.proofs.Common.{◌≡◌, Bool, true, false, not, List, [], ◌∷◌, filter, cond, refl, ap, ◌∙◌, Ordering, Less, Equal, Greater, is_lt, is_eq, ℤ}
use Rattle.std.specs.Ordering.{match_ordering}
use Rattle.std.proofs.lemmas.Cmp.{tied_itself}
use Rattle.sqlite_value.specs.declared.value.Value.TheVariants.{Int}
use Rattle.sqlite_value.specs.Order.{Row, value_cmp}
use Rattle.sqlite_value.proofs.OrderLemmas.{value_cmp_total}
use Rattle.sqlite_trees.specs.Tree.{rowid, IsTable, has_rowid, put_row, without_rowid}
use Rattle.sqlite_trees.proofs.ListLemmas.{filter_none}
use Rattle.sqlite_trees.proofs.TreeLemmas.{later_rowids}

-- no later row has the number of one that is not below it
pub none_later : (id : ℤ) (r : Row) (rows : List Row) → is_lt (value_cmp (rowid r) (Int id)) ≡ false → IsTable (r ∷ rows) → filter (has_rowid id) rows ≡ []
none_later id r rows h table = filter_none (has_rowid id) rows (later_rowids (Int id) r rows h table.0)

-- the row that was put is found under its number, and no other
pub put_found : (id : ℤ) (new : Row) (rows : List Row) → rowid new ≡ Int id → IsTable rows → filter (has_rowid id) (put_row new rows) ≡ new ∷ []
put_found id new [] is table = rw (is, tied_itself value_cmp_total (Int id))
put_found id new (r ∷ rows) is table = rw is (go (value_cmp (rowid r) (Int id)) refl (put_found id new rows is table.1))
  where
    itself : has_rowid id new ≡ true
    itself = rw (is, tied_itself value_cmp_total (Int id))

    go : (o : Ordering) → value_cmp (rowid r) (Int id) ≡ o → filter (has_rowid id) (put_row new rows) ≡ new ∷ []
        → filter (has_rowid id) (match_ordering o (r ∷ put_row new rows) (new ∷ rows) (new ∷ r ∷ rows)) ≡ new ∷ []
    go Less e more = rw (e, more)
    go Equal e more = rw (itself, none_later id r rows (ap is_lt e) table)
    go Greater e more = rw (itself, e, none_later id r rows (ap is_lt e) table)

-- under every other number what was found before
pub put_other : (id : ℤ) (new : Row) (rows : List Row) → has_rowid id new ≡ false → filter (has_rowid id) (put_row new rows) ≡ filter (has_rowid id) rows
put_other id new [] apart = rw apart
put_other id new (r ∷ rows) apart = go (value_cmp (rowid r) (rowid new)) refl (put_other id new rows apart)
  where
    go : (o : Ordering) → value_cmp (rowid r) (rowid new) ≡ o → filter (has_rowid id) (put_row new rows) ≡ filter (has_rowid id) rows
        → filter (has_rowid id) (match_ordering o (r ∷ put_row new rows) (new ∷ rows) (new ∷ r ∷ rows)) ≡ filter (has_rowid id) (r ∷ rows)
    go Less e more = rw more
    go Equal e more = let same : has_rowid id r ≡ false = ap is_eq (value_cmp_total.congr (rowid r) (rowid new) (Int id) e) ∙ apart in rw (apart, same)
    go Greater e more = rw apart

-- after a deletion nothing is found under its number
pub deleted_found : (id : ℤ) (rows : List Row) → filter (has_rowid id) (without_rowid id rows) ≡ []
deleted_found id [] = refl
deleted_found id (r ∷ rows) = go (has_rowid id r) refl (deleted_found id rows)
  where
    go : (b : Bool) → has_rowid id r ≡ b → filter (has_rowid id) (without_rowid id rows) ≡ [] → filter (has_rowid id) (cond (not b) (r ∷ without_rowid id rows) (without_rowid id rows)) ≡ []
    go true e more = more
    go false e more = rw e more

-- under every other number what was found before
pub deleted_other : (id gone : ℤ) → is_eq (value_cmp (Int gone) (Int id)) ≡ false → (rows : List Row) → filter (has_rowid id) (without_rowid gone rows) ≡ filter (has_rowid id) rows
deleted_other id gone apart [] = refl
deleted_other id gone apart (r ∷ rows) = go (value_cmp (rowid r) (Int gone)) refl (deleted_other id gone apart rows)
  where
    go : (o : Ordering) → value_cmp (rowid r) (Int gone) ≡ o → filter (has_rowid id) (without_rowid gone rows) ≡ filter (has_rowid id) rows
        → filter (has_rowid id) (cond (not (is_eq o)) (r ∷ without_rowid gone rows) (without_rowid gone rows)) ≡ filter (has_rowid id) (r ∷ rows)
    go Less e more = rw more
    go Greater e more = rw more
    go Equal e more = let other : has_rowid id r ≡ false = ap is_eq (value_cmp_total.congr (rowid r) (Int gone) (Int id) e) ∙ apart in rw other more
