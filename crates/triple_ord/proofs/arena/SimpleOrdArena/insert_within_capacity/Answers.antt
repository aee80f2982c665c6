use Rattle.triple_ord.proofs.{CallerLemmas.entry-with_kind, Words.Within, Words.rules}
use Rattle.triple_ord.proofs.arena.SimpleOrdArena.insert_within_capacity.Goals as goal

pub returns : goal.returns
returns g c = record {
  inserts = entry-with_kind _ _ _ _ Within _ c.args.self.now c.prepare.new.self c.insert_prepared.new.self c.prepare.ensures.distinct _ _ _ _
      c.args.t c.insert_prepared.result _ c.key.ensures c.any-p.ensures c.in_ok-prepared.ensures.place c.insert_prepared.ensures.inserts;
  updates = search rules;
  before = search rules;
  refused = search rules;
  count = search rules;
}
