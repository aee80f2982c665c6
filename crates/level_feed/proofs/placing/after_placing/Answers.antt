use Rattle.level_feed.proofs.Incoming.{changes-after, follows-after, publishes-after}
use Rattle.level_feed.proofs.Publishing.{where_ok}
use Rattle.level_feed.proofs.placing.after_placing.Goals as goal

pub returns-clause-follows : goal.returns-clause-follows
returns-clause-follows g c = where_ok c.append_after.result c.append_after.ensures.updates (λ appended start old led lawful places traded.
    follows-after old c.args.book.now c.args.order c.args.id c.args.trades.now lawful places traded start c.args.updates.now.items c.append_after.new.updates.items appended led)

pub returns-clause-publishes : goal.returns-clause-publishes
returns-clause-publishes g c = λ old lawful places traded. publishes-after old c.args.book.now c.args.order c.args.id c.args.trades.now lawful places traded

pub returns-clause-changes : goal.returns-clause-changes
returns-clause-changes g c = λ old lawful places traded. changes-after old c.args.book.now c.args.order c.args.id c.args.trades.now lawful places traded
