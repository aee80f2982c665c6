use Rattle.arena_base.proofs.{Words.◌∙◌, Words.sym, Named.pointers-counted, Named.pointers-named}
use Rattle.arena_base.proofs.laws.count.Goals as goal

pub returns-clause-count : goal.returns-clause-count
returns-clause-count g c = c.len.ensures.value ∙ sym (pointers-counted (g.A.ArenaTrait.content c.args.arena.now))

pub returns-clause-named : goal.returns-clause-named
returns-clause-named g c = pointers-named (g.A.ArenaTrait.content c.args.arena.now)
