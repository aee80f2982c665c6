use Rattle.std.proofs.Common.{◌≡◌, ◌++◌, Some, None, Ok, take, drop, map, length, ap, ◌∙◌}
use Rattle.order_book.specs.Book.{IsUncrossed}
use Rattle.order_book.specs.Auction.{Auctions}
use Rattle.order_book.specs.declared.auction.Auction.{Auction}
use Rattle.level_feed.specs.Feed.{refreshed, updates_of_auction}
use Rattle.level_feed.proofs.Uncrossed.{as_some, auction-appended, changes-auctioned, follows-auctioned, publishes-auctioned, where_some}
use Rattle.level_feed.proofs.uncrossing.uncross.Goals as goal

-- the updates are those that were noted, refreshed
appended : (g : _) (c : goal.After-refresh g) (a : Auction) → Auctions c.args.book.now c.args.trades.now.items a c.uncross.new.self c.uncross.new.trades.items
    → c.refresh.new.updates.items ≡ c.args.updates.now.items ++ updates_of_auction c.args.book.now c.uncross.new.self a
appended g c a is =
    let noted = c.note_auction.new.updates.items in
    let before : c.len-before.result ≡ length c.args.updates.now.items = c.len-before.ensures ∙ c.args.updates.now.ok.0 in
    auction-appended c.args.book.now c.uncross.new.self c.in-Some.auction a (c.best_auction_law.ensures c.args.book.now c.in-Some.auction a c.in-Some.ensures.best is.best)
    c.args.updates.now.items noted c.refresh.new.updates.items c.in_ok-note_auction.ensures.updates
    (c.refresh.ensures.refreshed ∙ ap (λ n. take n noted ++ map (refreshed c.uncross.new.self) (drop n noted)) before)

pub returns-in-Ok-clause-updates : goal.returns-in-Ok-clause-updates
returns-in-Ok-clause-updates g c = where_some c.in-Ok.traded c.in-Ok.ensures.auction (λ a is. appended g c a is)

pub returns-in-Ok-clause-follows : goal.returns-in-Ok-clause-follows
returns-in-Ok-clause-follows g c = λ start led.
    let some : c.in-Ok.traded ≡ None → ⊥ = λ none.
    let uncrossed : IsUncrossed c.args.book.now = c.in-Ok.ensures.none.0 (ap (λ (o : _). Ok o) none) in
    let nothing : Some c.in-Some.auction ≡ None = c.in-Some.ensures.none.1 uncrossed in
    cc in
    as_some c.in-Ok.traded some c.in-Ok.ensures.auction (λ a is.
    follows-auctioned c.args.book.now c.uncross.new.self a c.count.ensures.lawful is.bids is.asks start c.args.updates.now.items c.refresh.new.updates.items (appended g c a is) led)

pub returns-in-Ok-clause-publishes : goal.returns-in-Ok-clause-publishes
returns-in-Ok-clause-publishes g c = where_some c.in-Ok.traded c.in-Ok.ensures.auction (λ a is. publishes-auctioned c.args.book.now c.uncross.new.self a c.count.ensures.lawful is.bids is.asks)

pub returns-in-Ok-clause-changes : goal.returns-in-Ok-clause-changes
returns-in-Ok-clause-changes g c = where_some c.in-Ok.traded c.in-Ok.ensures.auction (λ a is. changes-auctioned c.args.book.now c.uncross.new.self a c.count.ensures.lawful is.bids is.asks)
