use Rattle.level_feed.proofs.Incoming.{follows-replacing, publishes-replacing}
use Rattle.level_feed.proofs.Publishing.{where_ok}
use Rattle.level_feed.proofs.replacing.after_replacing.Goals as goal

pub returns-clause-follows : goal.returns-clause-follows
returns-clause-follows g c = where_ok c.append_replacing.result c.append_replacing.ensures.updates (λ appended start old name quantity led lawful there places traded.
    follows-replacing old c.args.book.now name c.args.replaced c.args.kind quantity c.args.id lawful there places c.args.trades.now traded start c.args.updates.now.items
    c.append_replacing.new.updates.items appended led)

pub returns-clause-publishes : goal.returns-clause-publishes
returns-clause-publishes g c = λ old name quantity lawful there places traded.
    publishes-replacing old c.args.book.now name c.args.replaced c.args.kind quantity c.args.id lawful there places c.args.trades.now traded
