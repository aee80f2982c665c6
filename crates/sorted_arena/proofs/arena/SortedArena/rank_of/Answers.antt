use Rattle.std.proofs.Common.{◌≡◌, ◌∙◌, length, ap, arith, rules}
use Rattle.sorted_arena.proofs.Entries.{placed}
use Rattle.sorted_arena.proofs.arena.SortedArena.rank_of.Goals as goal

pub overflow_sub-result : goal.overflow_sub-result
overflow_sub-result g c =
    let range = c.in_ok-iter_from.ensures.entries in
    let counted : c.count-from_there.result ≡ length c.in_ok-iter_from.field-0 = search rules in
    let at = placed c.args.self.now.entries (g.P.BasePtr.numbers c.args.p) range.sound.distinct range.entries.0 in
    omega (arith, counted, ap length range.entries.1, at.fewer, c.len.ensures.value)

pub returns-clause-place : goal.returns-clause-place
returns-clause-place g c =
    let range = c.in_ok-iter_from.ensures.entries in
    let counted : c.count-from_there.result ≡ length c.in_ok-iter_from.field-0 = search rules in
    let at = placed c.args.self.now.entries (g.P.BasePtr.numbers c.args.p) range.sound.distinct range.entries.0 in
    rw (counted ∙ ap length range.entries.1, c.len.ensures.value) at.place
