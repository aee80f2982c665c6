use Rattle.std.proofs.Common.{◌≡◌, ◌≤◌, ◌∷◌, ap, subst, ◌∙◌, arith, rules}
use Rattle.order_book.specs.{Queue.levels_of, Queue.within, AuctionSteps.left_of, AuctionSteps.left_within, AuctionSteps.quantity_of}
use Rattle.order_book.proofs.{Levels.most_total, Levels.within-fits}
use Rattle.order_book.proofs.Seeking.{IsSeeking, left-next, seeking-start, seeking-next, seeking-end, next-offered, next-auction}
use Rattle.order_book.proofs.auction.best_auction.Goals as goal

pub loop-level-init : goal.loop-level-init
loop-level-init g c =
    let own = c.args.own.now in
    let other = c.args.other.now in
    let same : c.into_iter-level-iterator.result ≡ levels_of own.orders = search rules in
    let start = seeking-start own other c.levels-level-items.ensures.sound c.levels_from_worst-better.ensures.sound c.args.known in
    let left = left-next c.levels_from_worst-better.result c.next-worst.new.self c.next-worst.result c.next-worst.ensures.steps ∙ c.levels_from_worst-better.ensures.levels in
    rw (same, c.volume-against.ensures, left) start

pub overflow_add-offered : goal.overflow_add-offered
overflow_add-offered g c =
    let own = c.args.own.now in
    let other = c.args.other.now in
    let l = c.loop-level in
    let x = c.in-Some.level in
    let left = left_of l.worst l.better in
    let now : IsSeeking own other c.args.known l.best l.offered l.against left (x ∷ c.next.new.self) =
    subst (IsSeeking own other c.args.known l.best l.offered l.against left) c.in-Some.ensures.steps l.invariant in
    let fits : within own.side x.price own.orders ≤ most_total = within-fits own.side x.price own.orders c.levels-level-items.ensures.sound.summable in
    omega (arith, next-offered own other c.requires c.args.known l.best l.offered l.against left c.next.new.self x now, fits)

pub loop-level-preserved : goal.loop-level-preserved
loop-level-preserved g c =
    let own = c.args.own.now in
    let other = c.args.other.now in
    let l = c.loop-level in
    let x = c.in-Some.level in
    let left = left_of l.worst l.better in
    let now : IsSeeking own other c.args.known l.best l.offered l.against left (x ∷ c.next.new.self) =
    subst (IsSeeking own other c.args.known l.best l.offered l.against left) c.in-Some.ensures.steps l.invariant in
    let passed : left_of c.pass_unmet-left.result.0 c.pass_unmet-left.new.better ≡ left_within other.side x.price left =
    c.pass_unmet-left.ensures.left ∙ ap (λ s. left_within s x.price left) c.side.ensures in
    let against : c.pass_unmet-left.result.1 ≡ quantity_of (left_within other.side x.price left) = c.pass_unmet-left.ensures.quantity ∙ ap quantity_of passed in
    let made = next-auction own other c.requires c.args.known l.best l.offered l.against left c.next.new.self x now c.pass_unmet-left.result.1 against c.new.result c.new.ensures in
    rw passed (seeking-next own other c.requires c.args.known l.best l.offered l.against left c.next.new.self x now c.pass_unmet-left.result.1 against c.new.result c.better-best.result made
    c.better-best.ensures.first c.better-best.ensures.second c.better-best.ensures.either)

pub returns-clause-own : goal.returns-clause-own
returns-clause-own g c =
    let l = c.loop-level in
    seeking-end c.args.own.now c.args.other.now c.args.known l.best l.offered l.against (left_of l.worst l.better) l.level-iterator l.invariant c.in-None.ensures.steps.0
