use Rattle.triple_ord.proofs.{Places.alone-here, Places.alone-refused, Words.sym, Words.◌∙◌}
use Rattle.triple_ord.proofs.arena.SimpleOrdArena.place_alone.Goals as goal

pub returns-then-is_empty : goal.returns-then-is_empty
returns-then-is_empty g c =
    alone-here g.P.BasePtr.numbers g.T.SimpleOrdItem.key_of g.T.Key.Ord.cmp c.args.self.now (sym c.is_empty.ensures ∙ c.if-is_empty.true)

pub returns-else-is_empty : goal.returns-else-is_empty
returns-else-is_empty g c =
    alone-refused g.P.BasePtr.numbers g.T.SimpleOrdItem.key_of g.T.Key.Ord.cmp c.args.self.now (sym c.is_empty.ensures ∙ c.if-is_empty.false)
