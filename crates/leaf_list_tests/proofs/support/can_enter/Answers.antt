use Rattle.std.proofs.Common.{◌+◌, slice_get, ap, sym, ◌∙◌}
use Rattle.std.specs.Option.{option_map}
use Rattle.leaf_list.specs.{Leaves.entries_of, Place.position}
use Rattle.leaf_list.proofs.CallerLemmas.{entry-position}
use Rattle.leaf_list_tests.proofs.Seeing.{seen-more}
use Rattle.leaf_list_tests.proofs.support.can_enter.Goals as goal

pub loop-i-preserved : goal.loop-i-preserved
loop-i-preserved g c =
    let here = ap (λ o. position c.args.list.now.leaves (option_map (λ p. (p.leaf, p.at)) o)) (sym c.in-Some.is) ∙ c.loop-i.invariant.place.position_is in
    record {
      place = record { place = c.after-at.ensures.place; position_is = c.after-at.ensures.position_is ∙ ap (λ m. m + 1) here };
      none = seen-more (entries_of c.args.list.now.leaves) c.loop-i.i c.args.name _ (ap (slice_get (entries_of c.args.list.now.leaves)) (sym here) ∙ entry-position c.args.list.now.leaves _ _ c.entry.ensures)
          c.if-entry-name.false c.loop-i.invariant.none;
    }
