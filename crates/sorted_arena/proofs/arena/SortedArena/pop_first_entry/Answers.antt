use Rattle.std.proofs.Common.{◌∙◌, sym}
use Rattle.listing.proofs.CallerLemmas.{first-same}
use Rattle.sorted_arena.proofs.{Entries.first-entry, Removing.first-none}
use Rattle.sorted_arena.proofs.arena.SortedArena.pop_first_entry.Goals as goal

pub returns-in_err-first-clause-after : goal.returns-in_err-first-clause-after
returns-in_err-first-clause-after g c = sym (first-none _ _ c.in_err-first.ensures.value)

pub returns-clause-value : goal.returns-clause-value
returns-clause-value g c = first-entry g.P.BasePtr.numbers c.in_ok-first.first _ c.in_ok-first.ensures.value _ c.in_ok-k.ensures.value

pub returns-clause-after : goal.returns-clause-after
returns-clause-after g c = c.remove.ensures.after ∙ sym (first-same _ _ _ c.in_ok-first.ensures.value)
