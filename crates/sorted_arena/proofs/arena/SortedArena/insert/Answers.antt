use Rattle.std.proofs.Common.{◌∙◌, sym, ap}
use Rattle.sorted_arena.specs.Sorted.{Sorted, count}
use Rattle.listing.proofs.CallerLemmas.{held-sound, entry-updates, count-with_entry}
use Rattle.sorted_arena.proofs.Changing.{compact-put}
use Rattle.sorted_arena.proofs.arena.SortedArena.insert.Goals.{then-self, else-self}
use Rattle.sorted_arena.proofs.arena.SortedArena.insert.Goals as goal

pub invariant_of-self-2 : goal.invariant_of-self-2
invariant_of-self-2 g c = record {
  order = (c.in_ok-p.ensures.puts c.self.invariant.order).held;
  compact = λ is. elim c.if-self.branch [
    | then-self w ↦ compact-put g.K.Ord.cmp g.P.Inx.BasePtrInx.most c.self.inside.pairs c.insert_behind.new.pairs c.args.k c.args.v (g.P.BasePtr.numbers c.in_ok-p.p) c.in_ok-p.ensures.ok (c.self.invariant.compact w.if-self.true) (w.is_last_in-self-inside.ensures (sym w.self-is ∙ is))
    | else-self w ↦ absurd (cc)
  ];
}

pub returns-clause-ok : goal.returns-clause-ok
returns-clause-ok g c = rw (← c.self.view_is) (c.in_ok-p.ensures.puts c.self.invariant.order).equation

pub returns-clause-free : goal.returns-clause-free
returns-clause-free g c = rw (← c.self.view_is) (c.in_ok-p.ensures.puts c.self.invariant.order).free

pub returns-clause-sound : goal.returns-clause-sound
returns-clause-sound g c = held-sound _ _ _ _ c.insert_behind.ensures.still_sound (c.in_ok-p.ensures.puts c.self.invariant.order).held

pub returns-in_err-p-clause-sound : goal.returns-in_err-p-clause-sound
returns-in_err-p-clause-sound g c = rw c.in_err-p.ensures.err (held-sound _ _ _ _ c.insert_behind.ensures.sound c.self.invariant.order)

pub returns-clause-updates : goal.returns-clause-updates
returns-clause-updates g c = rw (returns-clause-ok g c) (entry-updates g.K.Ord.cmp g.P.Inx.BasePtrInx.most c.args.self.now (g.P.BasePtr.numbers c.in_ok-p.p) (c.args.k, c.args.v) (returns-clause-free g c))

pub returns-clause-count : goal.returns-clause-count
returns-clause-count g c = ap (λ (a : Sorted g.row.K.Denot g.row.V.Denot). count a) (returns-clause-ok g c) ∙ (count-with_entry g.K.Ord.cmp g.P.Inx.BasePtrInx.most c.args.self.now (g.P.BasePtr.numbers c.in_ok-p.p) (c.args.k, c.args.v))
