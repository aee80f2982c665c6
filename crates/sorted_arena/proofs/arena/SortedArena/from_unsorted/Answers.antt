use Rattle.std.proofs.Common.{rules, ◌≡◌, ◌∙◌, ◌++◌, List, map, sym, ap, subst}
use Rattle.std.specs.List.Sorted.{IsStableByKey}
use Rattle.std.proofs.lemmas.{List.Sorted.ranks_by, Fn.always_returns_same}
use Rattle.listing.specs.Chain.{Entry}
use Rattle.sorted_arena.specs.Sorted.{pair_of}
use Rattle.sorted_arena.proofs.Extending.{sorted-order}
use Rattle.sorted_arena.proofs.arena.SortedArena.from_unsorted.Goals as goal

pub append_sorted-requires-clause-order : goal.append_sorted-requires-clause-order
append_sorted-requires-clause-order g c =
    let ranks = ranks_by g.met.K.Ord.total (λ (x : g.row.K.Denot × g.row.V.Denot). x.0) in
    sorted-order g.K.Ord.cmp g.met.K.Ord.total c.sort_by.new.self.items (c.in-Ok-sort_by.ensures.sorted _ ranks (always_returns_same _ _ _ (λ a r f k. search rules))) c.in-Ok.arena.entries c.in-Ok.ensures.entries

pub returns-in-Ok-sort_by-clause-stable : goal.returns-in-Ok-sort_by-clause-stable
returns-in-Ok-sort_by-clause-stable g c =
    let ranks = ranks_by g.met.K.Ord.total (λ (x : g.row.K.Denot × g.row.V.Denot). x.0) in
    let items : map pair_of c.append_sorted.new.self.entries ≡ c.sort_by.new.self.items =
    c.append_sorted.ensures.items ∙ ap (λ (es : List (Entry (g.row.K.Denot × g.row.V.Denot))). map pair_of es ++ c.sort_by.new.self.items) c.in-Ok.ensures.entries in
    subst (λ (xs : List (g.row.K.Denot × g.row.V.Denot)). IsStableByKey (λ x. x.0) g.K.Ord.cmp c.args.pairs.items xs) (sym items)
    (c.sort_by.ensures.stable _ ranks (always_returns_same _ _ _ (λ a r f k. search rules)))
