use Rattle.std.proofs.Common.{◌<◌, length, arith}
use Rattle.level_feed.specs.Feed.{refreshed}
use Rattle.level_feed.proofs.Refreshing.{refreshing-next}
use Rattle.level_feed.proofs.uncrossing.refresh.Goals as goal

pub loop-at-preserved : goal.loop-at-preserved
loop-at-preserved g c =
    let whole = c.args.updates.now.items in
    let less : c.loop-at.at < length whole = omega (arith, c.loop-at-test.true, c.len-at-end.ensures, c.args.updates.now.ok.0) in
    record {
      refreshing = rw c.update_now.ensures (refreshing-next (refreshed c.args.book.now) c.args.from whole c.loop-at.at c.loop-at.updates.items c.loop-at.invariant.refreshing
          c.index-noted.result.now less c.index-noted.ensures);
      room = omega (arith, c.loop-at.invariant.room);
    }
