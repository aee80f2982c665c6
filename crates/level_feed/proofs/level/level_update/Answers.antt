use Rattle.std.proofs.Common.{sym}
use Rattle.level_feed.proofs.Levelling.{follows-one, leads-added, leads-cancelled, leads-executed, leads-reduced}
use Rattle.level_feed.proofs.level.level_update.Goals as goal

pub returns-clause-added : goal.returns-clause-added
returns-clause-added g c = λ start old us id quantity tag led rests same.
    follows-one start old c.args.book.now us c.update_now.result c.args.side c.args.price c.update_now.ensures led
    (leads-added old c.args.book.now c.args.side c.args.price quantity tag id rests same)

pub returns-clause-cancelled : goal.returns-clause-cancelled
returns-clause-cancelled g c = λ start old us id order led there is own at.
    follows-one start old c.args.book.now us c.update_now.result c.args.side c.args.price c.update_now.ensures led
    (leads-cancelled old c.args.book.now id c.args.side c.args.price (sym own) order (sym there) is (sym at))

pub returns-clause-reduced : goal.returns-clause-reduced
returns-clause-reduced g c = λ start old us id order left led there is own at.
    follows-one start old c.args.book.now us c.update_now.result c.args.side c.args.price c.update_now.ensures led
    (leads-reduced old c.args.book.now id c.args.side c.args.price (sym own) order left (sym there) is (sym at))

pub returns-clause-executed : goal.returns-clause-executed
returns-clause-executed g c = λ start old us id quantity trade led traded is own at.
    follows-one start old c.args.book.now us c.update_now.result c.args.side c.args.price c.update_now.ensures led
    (leads-executed old c.args.book.now id c.args.side c.args.price (sym own) quantity trade (sym traded) is (sym at))
