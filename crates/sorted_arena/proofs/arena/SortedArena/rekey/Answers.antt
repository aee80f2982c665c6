use Rattle.std.proofs.Common.{◌∙◌, sym}
use Rattle.listing.proofs.CallerLemmas.{rekeyed}
use Rattle.sorted_arena.proofs.Changing.{compact-refused}
use Rattle.sorted_arena.proofs.arena.SortedArena.rekey.Goals.{then-self, else-self}
use Rattle.sorted_arena.proofs.arena.SortedArena.rekey.Goals as goal

pub invariant_of-self : goal.invariant_of-self
invariant_of-self g c =
    let call = c.rekey_pair-rekeyed in
    record {
      order = (rekeyed g.K.Ord.cmp g.met.K.Ord.total _ _ (g.P.BasePtr.numbers c.args.p) c.args.k c.self.invariant.order call.result call.ensures.rekeys call.ensures.before call.ensures.otherwise.stale call.ensures.otherwise.refused).1;
      compact = λ is. elim c.if-self.branch [
        | then-self w ↦ compact-refused c.self.inside.pairs call.new.self call.result call.ensures.otherwise.refused (sym w.is_err-self-inside.ensures.value ∙ sym w.self-is ∙ is) (c.self.invariant.compact w.if-self.true)
        | else-self w ↦ absurd (cc)
      ];
    }

pub returns-clause-after : goal.returns-clause-after
returns-clause-after g c =
    let call = c.rekey_pair-rekeyed in
    rw (← c.self.view_is)
    (rekeyed g.K.Ord.cmp g.met.K.Ord.total _ _ (g.P.BasePtr.numbers c.args.p) c.args.k c.self.invariant.order call.result call.ensures.rekeys call.ensures.before call.ensures.otherwise.stale call.ensures.otherwise.refused).0

pub returns-clause-before : goal.returns-clause-before
returns-clause-before g c = rw (← c.self.view_is) c.rekey_pair-rekeyed.ensures.before

pub returns-clause-updates : goal.returns-clause-updates
returns-clause-updates g c =
    let found = c.rekey_pair-rekeyed.ensures.updates in
    rw (← c.self.view_is) (record { changed = found.changed; others = found.others })
