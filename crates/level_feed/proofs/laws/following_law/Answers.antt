use Rattle.level_feed.proofs.Following.{follows-nothing, follows-append}
use Rattle.level_feed.proofs.laws.following_law.Goals as goal

pub returns : goal.returns
returns g c = record { nothing = follows-nothing; more = follows-append }
