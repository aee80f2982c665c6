use Rattle.std.proofs.Common.{◌∙◌, sym}
use Rattle.listing.proofs.CallerLemmas.{without_where-found, without_where-none}
use Rattle.sorted_arena.proofs.arena.SortedArena.remove_key_entry.Goals as goal

pub returns-in_err-p-clause-after : goal.returns-in_err-p-clause-after
returns-in_err-p-clause-after g c = sym (without_where-none _ _ _ c.in_err-p.ensures.value)

pub returns-clause-after : goal.returns-clause-after
returns-clause-after g c = c.remove.ensures.after ∙ sym (without_where-found _ _ _ _ c.in_ok-p.ensures.value)
