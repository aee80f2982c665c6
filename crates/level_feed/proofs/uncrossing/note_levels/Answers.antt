use Rattle.std.proofs.Common.{◌≡◌, ◌==◌, ◌∷◌, ◌∙◌, false, subst, arith, rules}
use Rattle.std.proofs.lemmas.Bool.Decides.{nat_tests}
use Rattle.order_book.specs.Queue.{first_levels}
use Rattle.order_book.specs.Book.{queue}
use Rattle.level_feed.specs.Feed.{prices_taken}
use Rattle.level_feed.proofs.Changing.{sound-side}
use Rattle.level_feed.proofs.Auctioning.{IsNoting, all-levels, noting-room, noting-start}
use Rattle.level_feed.proofs.Publishing.{owed}
use Rattle.level_feed.proofs.uncrossing.note_levels.Goals as goal

pub loop-level-init : goal.loop-level-init
loop-level-init g c =
    let q = queue c.args.book.now c.args.side in
    let same : c.into_iter-level-iterator.result ≡ first_levels 18446744073709551615 q.orders = search rules in
    record {
      noting = noting-start c.args.book.now c.args.side c.args.updates.now.items c.args.quantity q.orders c.into_iter-level-iterator.result
          (same ∙ all-levels q (sound-side c.args.book.now c.count.ensures.lawful c.args.side));
      room = omega arith;
    }

pub returns-then-is_err-clause-memory : goal.returns-then-is_err-clause-memory
returns-then-is_err-clause-memory g c =
    let book = c.args.book.now in
    let prices = prices_taken c.args.quantity (queue book c.args.side) in
    let before = c.args.updates.now.items in
    let updates = c.loop-level.updates.items in
    let now : IsNoting book c.args.side prices before c.loop-level.left updates (c.in-Some.level ∷ c.next.new.self) =
    subst (IsNoting book c.args.side prices before c.loop-level.left updates) c.in-Some.ensures.steps c.loop-level.invariant.noting in
    let some : (c.loop-level.left == 0) ≡ false = grind (arith, nat_tests, c.if-left-eq0.false) in
    omega (
      arith,
      c.loop-level.invariant.room,
      c.loop-level.updates.ok.0,
      owed c.push.result c.if-is_err.ensures.value c.push.ensures.full,
      noting-room book c.args.side prices before c.loop-level.left updates c.in-Some.level c.next.new.self now some,
    )
