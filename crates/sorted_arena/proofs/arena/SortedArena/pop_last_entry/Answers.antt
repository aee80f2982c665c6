use Rattle.std.proofs.Common.{◌∙◌, sym}
use Rattle.listing.proofs.CallerLemmas.{last-same}
use Rattle.sorted_arena.proofs.{Entries.last-entry, Removing.last-none}
use Rattle.sorted_arena.proofs.arena.SortedArena.pop_last_entry.Goals as goal

pub returns-in_err-last-clause-after : goal.returns-in_err-last-clause-after
returns-in_err-last-clause-after g c = sym (last-none _ _ c.in_err-last.ensures.value)

pub returns-clause-value : goal.returns-clause-value
returns-clause-value g c = last-entry g.P.BasePtr.numbers c.in_ok-last.last _ c.in_ok-last.ensures.sound.distinct c.in_ok-last.ensures.value _ c.in_ok-k.ensures.value

pub returns-clause-after : goal.returns-clause-after
returns-clause-after g c = c.remove.ensures.after ∙ sym (last-same _ _ _ c.in_ok-last.ensures.value c.in_ok-last.ensures.sound.distinct)
