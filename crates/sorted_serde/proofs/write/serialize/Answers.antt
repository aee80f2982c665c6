use Rattle.std.proofs.Common.{◌≡◌, length, map, Some, ap, subst, sym, ◌∙◌}
use Rattle.std.proofs.lemmas.List.{length-map}
use Rattle.std.proofs.lemmas.Result.{on_ok_weaker}
use Rattle.serde.specs.Event.{Logs, seq_begins}
use Rattle.serde.proofs.Events.{WritesUpTo-start, WritesUpTo-more, WritesUpTo-all}
use Rattle.sorted_arena.specs.Sorted.{pair_of}
use Rattle.sorted_serde.specs.Pairs.{WritesPair}
use Rattle.sorted_serde.proofs.write.serialize.Goals as goal

pub loop-key-init : goal.loop-key-init
loop-key-init g c = WritesUpTo-start (WritesPair g.K.Described.writes g.V.Described.writes) _ _ _ (ap (map pair_of) c.into_iter-key-iterator.ensures.into_iter_gives.entries)

pub loop-key-preserved : goal.loop-key-preserved
loop-key-preserved g c = WritesUpTo-more (WritesPair g.K.Described.writes g.V.Described.writes) _ _ _ (c.in-Some.key.now, c.in-Some.value.now) _ _ _ c.loop-key.invariant (ap (map pair_of) c.in-Some.ensures.steps) c.in_ok-serialize.ensures

pub returns : goal.returns
returns g c =
    let len : c.len.result ≡ length (map pair_of c.args.arena.now.entries) = c.len.ensures.value ∙ sym (length-map _ _) in
    let begun = subst (λ n. Logs (g.S.Serializer.written c.args.out.now) (g.S.Serializer.written c.begin_seq.new.self) (seq_begins (Some n))) len c.in_ok-begin_seq.ensures in
    let each = WritesUpTo-all (WritesPair g.K.Described.writes g.V.Described.writes) _ _ _ _ c.loop-key.invariant (ap (map pair_of) c.in-None.ensures.steps.0) in
    on_ok_weaker c.end_seq.result (λ ended. (_, _, begun, each, ended)) c.end_seq.ensures
