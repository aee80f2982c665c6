use Rattle.std.proofs.Common.{sym, ap, ◌∙◌}
use Rattle.std.specs.Ordering.{is_gt}
use Rattle.sorted_arena.proofs.Cutting.{later-left}
use Rattle.listing.proofs.CallerLemmas.{first-same}
use Rattle.sorted_arena.proofs.Removing.{on_some, removed-none}
use Rattle.sorted_arena.proofs.arena.SortedArena.pop_first_until.Goals as goal

pub returns-then-is_gt-clause-left : goal.returns-then-is_gt-clause-left
returns-then-is_gt-clause-left g c =
    later-left g.K.Ord.cmp g.met.K.Ord.total c.args.until.now c.in_ok-k.k.now c.in_ok-k.field-0-1.now c.args.self.now.entries (g.P.BasePtr.numbers c.in_ok-first.first)
    c.in_ok-first.ensures.sound.sorted c.in_ok-first.ensures.value c.in_ok-k.ensures (sym (c.is_gt.ensures ∙ ap is_gt c.cmp.ensures) ∙ c.if-is_gt.true)

pub returns-clause-gone : goal.returns-clause-gone
returns-clause-gone g c = on_some g.P.Gen.BasePtrGen.greatest c.args.self.now c.remove.result _ (c.remove.ensures.after ∙ sym (first-same _ _ _ c.in_ok-first.ensures.value))

pub returns-clause-none : goal.returns-clause-none
returns-clause-none g c = removed-none _ _ _ _ c.remove.result c.remove.ensures.value c.remove.ensures.after
