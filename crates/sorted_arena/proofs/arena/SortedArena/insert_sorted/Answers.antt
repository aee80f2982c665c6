use Rattle.std.proofs.Common.{◌≡◌, ◌<◌, ◌+◌, ◌-◌, ◌∙◌, List, ◌∷◌, Err, reverse, length, slice_get, arith, sym, ap, subst}
use Rattle.sorted_arena.specs.{Change.ExtendsSorted, Sorted.Sorted, Sorted.count}
use Rattle.sorted_arena.specs.declared.error.SortedError.{SortedError}
use Rattle.sorted_arena.proofs.Extending.{Inserting, inserting-reserved, inserting-more, stopped-order, stopped-room, last-reversed, popped-reversed}
use Rattle.sorted_arena.proofs.arena.SortedArena.insert_sorted.Goals as goal
use Rattle.sorted_arena.proofs.arena.SortedArena.insert_sorted.Goals.{In-Some}

-- the pairs that are left, from the next one on
next-first : (g : _) (c : In-Some g) → (rest : List (g.row.K.Denot × g.row.V.Denot)) × (reverse c.loop-next.pairs.items ≡ c.in-Some.next.now ∷ rest)
next-first g c = last-reversed c.loop-next.pairs.items c.in-Some.next.now (c.in-Some.ensures.value ∙ ap (λ (xs : List (g.row.K.Denot × g.row.V.Denot)). slice_get xs (length xs - 1)) c.deref.ensures.value)

inserting : (g : _) (c : In-Some g) (rest : List (g.row.K.Denot × g.row.V.Denot)) → reverse c.loop-next.pairs.items ≡ c.in-Some.next.now ∷ rest
    → Inserting g.K.Ord.cmp g.P.Inx.BasePtrInx.most c.args.self.now c.args.pairs.items c.loop-next.self (c.in-Some.next.now ∷ rest)
inserting g c rest is = subst (λ (xs : List (g.row.K.Denot × g.row.V.Denot)). Inserting g.K.Ord.cmp g.P.Inx.BasePtrInx.most c.args.self.now c.args.pairs.items c.loop-next.self xs) is c.loop-next.invariant.inserting

pub returns-then-is_last_greater : goal.returns-then-is_last_greater
returns-then-is_last_greater g c =
    let at = (goal.at.returns-then-is_last_greater g c).In-Some in
    let first = next-first g at in
    stopped-order g.K.Ord.cmp g.P.Inx.BasePtrInx.most c.args.self.now c.args.pairs.items c.loop-next.self c.in-Some.next.now first.0 (inserting g at first.0 first.1) c.reverse-then-is_last_greater.new.self
    (c.reverse-then-is_last_greater.ensures.items ∙ first.1) c.is_last_greater.ensures.sound.sorted (sym c.is_last_greater.ensures.value ∙ c.if-is_last_greater.true) (c.len.result - c.len-before.result)
    (omega (arith, c.len.ensures.value, c.len-before.ensures.value))

pub returns-in-Err : goal.returns-in-Err
returns-in-Err g c =
    let at = (goal.at.returns-in-Err g c).In-Some in
    let first = next-first g at in
    let sound = c.is_last_greater.ensures.sound in
    let stopped =
    stopped-room g.K.Ord.cmp g.P.Inx.BasePtrInx.most c.args.self.now c.args.pairs.items c.loop-next.self c.in-Some.next.now first.0 (inserting g at first.0 first.1) c.reverse-in-Err.new.self
    (c.reverse-in-Err.ensures.items ∙ first.1) c.in-Err.refusal
    (λ is. let over : g.P.Inx.BasePtrInx.most < count c.loop-next.self + 1 = c.reserve.ensures.full.0 (c.in-Err.is ∙ ap (λ r. Err r) is) in omega (arith, over, sound.within, sound.limited))
    (λ is. let short = c.reserve.ensures.memory (c.in-Err.is ∙ ap (λ r. Err r) is) in omega (arith, short, sound.within)) in
    subst (λ (a : Sorted g.row.K.Denot g.row.V.Denot). ExtendsSorted g.K.Ord.cmp g.P.Inx.BasePtrInx.most c.args.self.now c.args.pairs.items (Err (c.reverse-in-Err.new.self, c.sorted_error.result)) a) (sym c.in-Err.ensures.err)
    (subst (λ (e : SortedError). ExtendsSorted g.K.Ord.cmp g.P.Inx.BasePtrInx.most c.args.self.now c.args.pairs.items (Err (c.reverse-in-Err.new.self, e)) c.loop-next.self) (sym c.sorted_error.ensures) stopped)

pub loop-next-preserved-in-Some-pop : goal.loop-next-preserved-in-Some-pop
loop-next-preserved-in-Some-pop g c =
    let at = (goal.at.loop-next-preserved-in-Some-pop g c).In-Some in
    let first = next-first g at in
    let x = c.in-Some.next.now in
    let popped = popped-reversed c.loop-next.pairs.items c.pop.new.self.items (c.in-Some-pop.k, c.in-Some-pop.v) c.in-Some-pop.ensures.items in
    let both : x ∷ first.0 ≡ (c.in-Some-pop.k, c.in-Some-pop.v) ∷ reverse c.pop.new.self.items = sym first.1 ∙ popped in
    let same : x ≡ (c.in-Some-pop.k, c.in-Some-pop.v) = cc in
    let left : first.0 ≡ reverse c.pop.new.self.items = cc in
    let put = c.insert_in_room.ensures in
    let reserved = inserting-reserved g.K.Ord.cmp g.P.Inx.BasePtrInx.most c.args.self.now c.args.pairs.items c.loop-next.self x first.0 (inserting g at first.0 first.1) c.reserve.new.self c.reserve.ensures.kept c.in_default-reserve.ensures.capacity in
    record {
      inserting = subst (λ (xs : List (g.row.K.Denot × g.row.V.Denot)). Inserting g.K.Ord.cmp g.P.Inx.BasePtrInx.most c.args.self.now c.args.pairs.items c.insert_in_room.new.self xs) left
          (inserting-more g.K.Ord.cmp g.P.Inx.BasePtrInx.most c.args.self.now c.args.pairs.items c.reserve.new.self x first.0 reserved g.met.K.Ord.total c.insert_in_room.new.self (g.P.BasePtr.numbers c.insert_in_room.result)
          (rw (c.reserve.ensures.kept.entries) c.is_last_greater.ensures.sound.sorted) put.free (rw same put.ok) put.capacity
          (rw (c.reserve.ensures.kept.entries) (sym c.is_last_greater.ensures.value ∙ c.if-is_last_greater.false)));
    }
