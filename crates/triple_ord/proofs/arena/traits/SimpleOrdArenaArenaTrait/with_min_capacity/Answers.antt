use Rattle.triple_ord.proofs.{Content.content-capacity, Words.refl, Words.ap, Words.IfOk-weaker, Words.new_chain, Words.missing, Words.Tree}
use Rattle.triple_ord.proofs.arena.traits.SimpleOrdArenaArenaTrait.with_min_capacity.Goals as goal

pub returns : goal.returns
returns g c =
    let none : Tree _ = record { list = new_chain g.P.Gen.BasePtrGen.greatest; shape = missing } in
    record {
      ok = IfOk-weaker c.with_min_capacity.result _ _
          (λ a is. content-capacity none a c.args.n (λ k above. refl) (ap (λ t. t.list) is)) c.with_min_capacity.ensures.ok;
      beyond = c.with_min_capacity.ensures.beyond;
      none = c.with_min_capacity.ensures.none;
    }
