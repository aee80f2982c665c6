use Rattle.std.proofs.Common.{◌≡◌, ◌∙◌, ◌++◌, List, [], ◌∷◌, Result, Ok, Err, IsOk, is_ok, if◌then◌else◌, map, append_assoc, sym, ap, arith, rules}
use Rattle.std.proofs.{lemmas.List.append-nil, lemmas.List.map-append}
use Rattle.std.specs.Range.Bound.{bound_map}
use Rattle.sorted_arena.specs.Sorted.{pair_of, with_passing}
use Rattle.sorted_arena.proofs.{Outside.range-part, Taking.taking-none, Taking.cut-next, Taking.taking-more, Taking.taking-done}
use Rattle.sorted_arena.proofs.arena.SortedArena.drain_between.Goals as goal

-- a vector with room takes one more
pushed : {X U E : Type 0} (r : Result U E) (xs new : List X) (x : X) → new ≡ (if is_ok r then xs ++ x ∷ [] else xs) → IsOk r → new ≡ xs ++ x ∷ []
pushed (Ok u) xs new x is ok = is
pushed (Err e) xs new x is ok = absurd (cc)

pub loop-init : goal.loop-init
loop-init g c = record {
  taking = taking-none g.P.Gen.BasePtrGen.greatest c.args.self.now _ _ _ _
      (range-part g.K.Ord.cmp g.met.K.Ord.total (bound_map (λ k. k.now) c.args.from) (bound_map (λ k. k.now) c.args.until) c.args.self.now.entries c.run_between-first.ensures.sound.sorted)
      c.run_between-first.ensures.first (c.reserve.ensures.items ∙ sym (append-nil c.args.drained.now.items));
  room = omega (arith, c.in_ok-reserve.ensures.ok);
}

pub take-pair-requires : goal.take-pair-requires
take-pair-requires g c = cut-next _ _ _ _ _ _ _ _ c.loop.invariant.taking (omega (arith, c.loop-test.true, c.run_between-first.ensures.count))

pub loop-preserved : goal.loop-preserved
loop-preserved g c =
    let put = pushed c.push.result c.loop.drained.items c.push.new.self.items c.take-pair.result.0 c.push.ensures.items (c.push.ensures.succeeds (omega (arith, c.loop.invariant.room, c.loop-test.true))) in
    record {
      taking = taking-more _ _ _ _ _ _ _ _ c.loop.invariant.taking (omega (arith, c.loop-test.true, c.run_between-first.ensures.count)) c.take-pair.result.0 c.take-pair.new.self _ _ c.take-pair.ensures.takes
          (λ taken later e cut at is was. put ∙ ap (λ xs. xs ++ c.take-pair.result.0 ∷ []) was ∙ append_assoc c.args.drained.now.items (map pair_of taken) (c.take-pair.result.0 ∷ [])
          ∙ ap (λ x. c.args.drained.now.items ++ (map pair_of taken ++ x ∷ [])) is ∙ ap (λ xs. c.args.drained.now.items ++ xs) (sym (map-append pair_of taken (e ∷ []))));
      room = omega (arith, c.loop.invariant.room, c.push.ensures.upper_bound, c.push.ensures.capacity);
    }

pub returns-clause-drains : goal.returns-clause-drains
unfolding with_passing
returns-clause-drains g c =
    let done = taking-done _ _ _ _ _ _ _ _ c.loop.invariant.taking (omega (arith, c.run_between-first.ensures.count, c.loop.auto.counter-end, c.loop-test.false)) in
    record { drained = done.2; after = done.0; room = search rules; kept = search rules; err = search rules }
