use Rattle.std.proofs.Common.{◌<◌, [], ◌∷◌, length, length-append, refl, ap, ◌∙◌, arith}
use Rattle.chain_base.specs.Chain.{Chain}
use Rattle.chain_base.proofs.Transferring.{taken-none, taken-more, next-some, next-at, last-more}
use Rattle.chain_base.proofs.chain.transfer.take_all.Goals as goal

pub loop-init : goal.loop-init
loop-init g c = (
  c.requires.callable,
  taken-none g.Q.BasePtr.numbers g.P.BasePtr.numbers g.Q.Gen.BasePtrGen.greatest g.M.MapTaken.step c.args.map c.args.source.now c.args.chain.now c.requires.empty,
  refl,
  refl,
)

pub unwrap-to-requires : goal.unwrap-to-requires
unwrap-to-requires g c =
    let h = c.loop.invariant.1 in
    next-some g.P.BasePtr.numbers c.args.chain.now c.loop.chain h.items (omega (arith, h.count, c.loop.invariant.2, c.loop-test.true, c.requires.room)) h.put c.next_insertion_ptr.result _
    c.arena.ensures.vacant c.next_insertion_ptr.ensures.index

pub loop-preserved : goal.loop-preserved
loop-preserved g c =
    let h = c.loop.invariant.1 in
    let less : length h.items < c.args.chain.now.capacity = omega (arith, h.count, c.loop.invariant.2, c.loop-test.true, c.requires.room) in
    let to = c.unwrap-to.result in
    let at = next-at g.P.BasePtr.numbers c.args.chain.now c.loop.chain h.items less h.put to c.next_insertion_ptr.result _ c.unwrap-to.ensures c.arena.ensures.vacant c.next_insertion_ptr.ensures.index in
    let of = (rw c.unwrap-to.ensures at c.next_insertion_ptr.ensures.generation) ∙ c.arena.ensures.generation ∙ ap (λ (c : Chain _). c.generation) h.put in (
      c.map_taken-item.ensures.callable,
      taken-more g.Q.BasePtr.numbers g.P.BasePtr.numbers g.Q.Gen.BasePtrGen.greatest g.M.MapTaken.step c.args.map c.args.source.now c.args.chain.now
          c.loop.source c.take_first-from.new.source c.loop.chain c.put_last.new.chain c.loop.map c.map_taken-item.new.self _ _ to c.map_taken-item.result h
          c.take_first-from.ensures at of c.map_taken-item.ensures.step (c.put_last.ensures c.args.chain.now h.items h.put less c.loop.invariant.3),
      omega (arith, c.loop.invariant.2, length-append h.gone (c.take_first-from.ensures.entry ∷ [])),
      last-more g.P.Inx.BasePtrInx.number c.inx.result h.items c.map_taken-item.result (c.inx.ensures ∙ at),
    )
