use Rattle.std.proofs.Common.{◌∙◌, arith, ◌++◌, List, map, length, ap, rules}
use Rattle.listing.specs.Chain.{Entry}
use Rattle.sorted_arena.specs.Sorted.{pair_of}
use Rattle.sorted_arena.proofs.arena.SortedArena.extend_sorted.Goals as goal

pub returns-then-is_made_ready : goal.returns-then-is_made_ready
returns-then-is_made_ready g c =
    let all = c.append_sorted.ensures.items ∙ ap (λ (es : List (Entry (g.row.K.Denot × g.row.V.Denot))). map pair_of es ++ c.args.pairs.items) c.is_made_ready.ensures.kept.entries in
    record {
      ok = all;
      unsorted = search rules;
      before = search rules;
      back = tt;
      refused = search rules;
      kept = search rules;
      generation = search rules;
      step = record { comes = λ q none there. rw c.is_made_ready.ensures.kept.generation at (c.append_sorted.ensures.step.comes q (rw (← c.is_made_ready.ensures.kept.entries) at none) there) };
      grown = omega (arith, c.is_made_ready.ensures.grown, c.append_sorted.ensures.capacity);
      room = λ fits. c.append_sorted.ensures.capacity ∙ c.is_made_ready.ensures.fits (omega (arith, fits, ap length c.deref.ensures.value));
      full = search rules;
      memory = search rules;
    }

pub returns : goal.returns
returns g c = rw (c.is_made_ready.ensures.refused c.if-is_made_ready.false) at c.insert_sorted.ensures
