-- The names from std and from the definitions that the proofs of this crate use.
pub use Rattle.std.proofs.Common.{◌≡◌, ◌≢◌, ◌↔◌, ℕ, inl, inr, List, [], ◌∷◌, ◌++◌, Option, Some, None, IfSome, refl, sym, ap, subst, ◌∙◌}
pub use Rattle.std.proofs.Common.{append_assoc, length, IsSome, is_some, ◌⊎◌, map, zero, suc, ◌+◌, ◌-◌, ◌^◌, ◌<◌, ◌≤◌, arith, true, false}
pub use Rattle.std.proofs.Common.{Bool, slice_get, length-append, IfNone, OnSome, Ok, if◌then◌else◌, Result, Err, Bor, get_or, take, drop}
pub use Rattle.std.proofs.Common.{reverse, replicate, max, add-one, MatchOption, set, ◌/◌, ◌==◌, IfErr, not, rules, of_calls}
pub use Rattle.std.proofs.lemmas.Bool.{eq-eqb, cases_eq, cases_order, Decides.eqb_tells, Decides.nat_tests}
pub use Rattle.std.proofs.lemmas.{Fn.FoldsTo-push, Grind.common_steps, Result.IfOk-weaker, Result.MatchResult-weaker}
pub use Rattle.std.proofs.lemmas.List.{length-map, nil_from_length, same_lists, get_or_default, take-map, drop-map, append-nil, length_push}
pub use Rattle.std.proofs.lemmas.List.{map_push, take-set-le, drop-set-lt, drop_more, drop_all, reverse-append}
pub use Rattle.std.proofs.lemmas.List.Elements.{recursion_from_All, All-from_recursion, All-append, All-weaker, All-contains, Contains-append_cases, All-nil}
pub use Rattle.std.proofs.lemmas.List.Elements.{All-cons, All-head, All-tail, All-push, Contains-append_left, Contains-append_right, Contains-push}
pub use Rattle.std.proofs.lemmas.Option.{IfSome_then, slice_get_cases, slice_get_past}
pub use Rattle.std.specs.Cmp.{IsTotalOrder, alike_right, Lexicographic.slice_cmp, Lexicographic.pointwise, Lexicographic.slice_partial_cmp}
pub use Rattle.std.specs.{List.All, List.AllByRecursion, List.Contains, List.FoldsTo, Option.option_map, Option.option_and_then}
pub use Rattle.std.specs.Ordering.{is_eq, ordering_then, ordering_reverse, is_gt, ordering_index}
pub use Rattle.std.specs.{Result.IsErrAnd, declared.cmp.Ordering.Ordering}
pub use Rattle.std.specs.declared.cmp.Ordering.TheVariants.{Less, Equal, Greater}
pub use Rattle.ord_tree.proofs.ArenaLemmas.{limit_of-below}
pub use Rattle.ord_tree.specs.PlainArena.{Arena, slot, item_if, HoldsSame, greatest_occupied, with_capacity, resized, IsFirstEntry}
pub use Rattle.ord_tree.specs.{PlainArena.IsLastEntry, PlainArena.arena_len, Generation.next_generation, Generation.overflows_after}
pub use Rattle.ord_tree.specs.ArenaWalk.{Walk, pointers_from, entries_from, walk_rest, WalkSteps, pointers, walk_from}
pub use Rattle.ord_tree.proofs.ChainLemmas.{entry_at-link, entry_at-absent, entry_at-without_other, entry_at-without, length-without}
pub use Rattle.ord_tree.proofs.ChainLemmas.{entry_at-with_item_among_other, entry_at-with_item_among, length-with_item_among, entry_at-with_generation_other}
pub use Rattle.ord_tree.proofs.ChainLemmas.{entry_at-with_generation, length-with_generation, entry_at-between_other, entry_at-between, length-between}
pub use Rattle.ord_tree.proofs.ChainLemmas.{entry_at-numbered, entry_at-numbered_before, generation-numbered, items-numbered, generation-moved}
pub use Rattle.ord_tree.proofs.ChainLemmas.{generation-relocated, clone-same, refused-found, length-entries, compressed-at, compressed-length}
pub use Rattle.ord_tree.proofs.ChainLemmas.{entry_at-compressed, occurs-entry, below-greatest, greatest-or_none, times-greatest, below-greatest_index}
pub use Rattle.ord_tree.proofs.ChainLemmas.{times-append, relocated-items, after-insertion}
pub use Rattle.ord_tree.specs.Chain.{Entry, Chain, entry_at, link_between, link_at, last_pointer, times, generation_at}
pub use Rattle.ord_tree.specs.Chain.{IsFirstIndex, IsLastIndex, IsArenaOf, IsSound, IsDistinct, removed, renewed, next_index}
pub use Rattle.ord_tree.specs.Chain.{greatest_index, from_index, insert_after, insert_before, with_item_among, new_chain}
pub use Rattle.ord_tree.specs.ChainCompression.{moved, at_compressed_index, numbered, Transferring, TransferStep, IsTransfer, entry_before}
pub use Rattle.ord_tree.specs.{ChainCompression.rising_among, ChainCompression.entries_rising, Insert.IsInsertion, Link.Link}
pub use Rattle.ord_tree.proofs.CallerLemmas.{entry_at-bare, times-bare, indexes-bare, size_of-walk, height-le-size}
pub use Rattle.ord_tree.specs.{Numbers.fib, Numbers.IsTop, declared.node.SimpleOrdArenaNode.SimpleOrdArenaNode}
pub use Rattle.ord_tree.specs.Shape.{Shape, missing, node, root_of, walk, size_of, rank_of, height}
pub use Rattle.ord_tree.specs.Tree.{Tree, IsChainOf, IsSoundTree, IsGrown, with_item, put_on, put_at, insert_at, IsShrunk}
pub use Rattle.triple_ord.specs.Arena.{item_of, items, count, Updates, Renews, FindsBy, IsOfGeneration, IsNumbered, FindsNothing}
pub use Rattle.triple_ord.specs.ClosureSearch.{Shown, where_equal, FindsWith, entries_of, but_last, IsSearch, similar_of, FindsSimilarWith}
pub use Rattle.triple_ord.specs.{ClosureSearch.Asks, Content.slots_from, Content.content_of}
pub use Rattle.triple_ord.specs.ContentLaws.{slot_is, item_is, len_is, length-slots, slots-within, slots-beyond, outside, content_removed}
pub use Rattle.triple_ord.specs.{ContentLaws.lawful_is, ContentLaws.capacity-within, Node.IsPart, Node.IsNodeIn, Order.IsInOrder}
pub use Rattle.triple_ord.specs.Descent.{IsNodeAt, side_of, IsDescending, HasDescended, met_next, found_where_ended, IsCompared, HasDescendedByKey, HasEndedByKey}
pub use Rattle.triple_ord.specs.Gap.{Gap, first_of, last_of, before, after, with_between, present}
pub use Rattle.triple_ord.specs.Hint.{position_of, IsNearHint, way_length}
pub use Rattle.triple_ord.specs.declared.growth.Growth.{Growth, TheVariants.Within, TheVariants.Reallocating}
pub use Rattle.ord_tree.specs.declared.tree_links.Side.{Side, TheVariants.Lesser, TheVariants.Greater as OnGreater}
pub use Rattle.triple_ord.specs.Insertion.{with_room_by, InsertsBy, with_kind, LacksSlot, IsRefused, InsertsBeside}
pub use Rattle.triple_ord.specs.OrderLaws.{AreAnsweredInOrder, AnsweredInOrderLaw, GoesBy, KeptOrderLaw, IsAbsent, AbsentKeyLaw, IsPlaceOf}
pub use Rattle.triple_ord.specs.OrderLaws.{BesidePlaceLaw, ranks_of, SameRanksLaw}
pub use Rattle.triple_ord.specs.Place.{Aim, at_key, beside, Place, into, over, IsPlace, aim_of, LiesBehind, alone, behind_key, nowhere}
pub use Rattle.triple_ord.specs.Search.{pointer, FindsKey, FindsSimilar, order_to, IsFirstEqual, StopsAt, IsBeside, Fits}
pub use Rattle.triple_ord.specs.Steps.{Settles, IsNear, neighbour_towards, CameFrom, IsStepping}
pub use Rattle.triple_ord.specs.{Ties.taken, VisitBounds.IsWithinBounds, VisitBounds.VisitsLaw, VisitBounds.IsWithinHintedBounds}
pub use Rattle.triple_ord.specs.declared.entry_kind.OrdEntryKind.{OrdEntryKind, TheVariants.New, TheVariants.Replacing}
pub use Rattle.triple_ord.specs.declared.error.OrdInsertionError.{OrdInsertionError, TheVariants.NotWithinCapacity}
pub use Rattle.triple_ord.specs.declared.{insert_kind.OrdInsertKind.OrdInsertKind, ties.Ties.Ties, ties.Ties.TheVariants.Sought, ties.Ties.TheVariants.Passed}
