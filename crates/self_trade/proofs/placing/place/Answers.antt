use Rattle.std.proofs.Common.{◌≡◌, ◌≢◌, ◌-◌, ◌++◌, List, [], length, take, drop, vec_capacity, Ok, Err, refl, sym, ap, subst, ◌∙◌, arith}
use Rattle.order_book.specs.{Book.opposite, Book.limit_of, Book.trades_of, Book.IsUntraded, declared.order.Order.Order, declared.error.PlacingError.TheVariants.NoQuantity}
use Rattle.self_trade.specs.Prevention.{admitted, facing, withdrawn, without_all, AreTested, IsNoneOf, Outcome}
use Rattle.self_trade.specs.Survey.{rest_after, AreNamed}
use Rattle.self_trade.proofs.Asking.{answers-by, withdrawn-tested}
use Rattle.self_trade.proofs.Admitting.{admitted-surveyed, withdrawn-named}
use Rattle.self_trade.proofs.Going.{step-stays}
use Rattle.self_trade.proofs.Refusing.{same-error, no-error, would-trade, would-not_fill, when-full, lacks-memory, nothing-asked, nothing-placed}
use Rattle.self_trade.proofs.Outcomes.{slice-behind, appended-front, room-named, settles-quiet, settles-whole, settles-room, settles-count, settles-placed, settles-named, settles-passing, settles-step, traded-cleared}
use Rattle.self_trade.proofs.placing.place.Goals as goal

pub cancel_each-requires : goal.cancel_each-requires
cancel_each-requires g c =
    let s = c.survey_of-survey.ensures.surveys in
    let slice : take (length c.deref.result.now - c.len-before.result) (drop c.len-before.result c.deref.result.now) ≡ withdrawn c.args.policy s.answers (facing c.args.book.now c.args.order) =
    slice-behind c.args.cancelled.now.items (withdrawn c.args.policy s.answers (facing c.args.book.now c.args.order)) c.deref.result.now c.len-before.result
    (c.deref.ensures.value ∙ s.listed c.in-Ok.ensures.listed) (c.len-before.ensures ∙ c.args.cancelled.now.ok.0) in
    subst (λ (ys : List (Order g.row.T.Denot)). AreNamed c.make_room.new.book ys) (sym slice) (withdrawn-named c.args.policy c.args.book.now c.args.order s.answers c.survey_of-survey.ensures.lawful c.make_room.new.book c.in-Ok.ensures.made.other_side)

pub settle-requires-clause-quiet : goal.settle-requires-clause-quiet
settle-requires-clause-quiet g c =
    let s = c.survey_of-survey.ensures.surveys in
    let slice : take (length c.deref.result.now - c.len-before.result) (drop c.len-before.result c.deref.result.now) ≡ withdrawn c.args.policy s.answers (facing c.args.book.now c.args.order) =
    slice-behind c.args.cancelled.now.items (withdrawn c.args.policy s.answers (facing c.args.book.now c.args.order)) c.deref.result.now c.len-before.result
    (c.deref.ensures.value ∙ s.listed c.in-Ok.ensures.listed) (c.len-before.ensures ∙ c.args.cancelled.now.ok.0) in
    let after : c.cancel_each.new.book ≡ without_all c.make_room.new.book (withdrawn c.args.policy s.answers (facing c.args.book.now c.args.order)) =
    c.cancel_each.ensures.after ∙ ap (without_all c.make_room.new.book) slice in
    let e_is : c.admitted.result ≡ admitted c.args.policy c.args.book.now c.args.order s.answers =
    c.admitted.ensures ∙ admitted-surveyed c.args.policy c.args.book.now c.args.order s.answers c.survey_of-survey.ensures.lawful c.args.book.now refl s.asks.all c.survey_of-survey.result s.left s.stopped in
    let some : c.args.order.quantity ≢ 0 = λ zero. omega (arith, zero, c.if-order-eq0.false) in
    settles-quiet c.args.policy c.args.book.now c.args.order s.answers c.survey_of-survey.ensures.lawful s.asks.all c.survey_of-survey.result s.left s.stopped c.make_room.new.book c.in-Ok.ensures.made c.in-Ok.ensures.lawful c.cancel_each.new.book after c.admitted.result e_is some c.in-Ok.ensures.quiet

pub settle-requires-clause-whole : goal.settle-requires-clause-whole
settle-requires-clause-whole g c =
    let s = c.survey_of-survey.ensures.surveys in
    let slice : take (length c.deref.result.now - c.len-before.result) (drop c.len-before.result c.deref.result.now) ≡ withdrawn c.args.policy s.answers (facing c.args.book.now c.args.order) =
    slice-behind c.args.cancelled.now.items (withdrawn c.args.policy s.answers (facing c.args.book.now c.args.order)) c.deref.result.now c.len-before.result
    (c.deref.ensures.value ∙ s.listed c.in-Ok.ensures.listed) (c.len-before.ensures ∙ c.args.cancelled.now.ok.0) in
    let after : c.cancel_each.new.book ≡ without_all c.make_room.new.book (withdrawn c.args.policy s.answers (facing c.args.book.now c.args.order)) =
    c.cancel_each.ensures.after ∙ ap (without_all c.make_room.new.book) slice in
    let e_is : c.admitted.result ≡ admitted c.args.policy c.args.book.now c.args.order s.answers =
    c.admitted.ensures ∙ admitted-surveyed c.args.policy c.args.book.now c.args.order s.answers c.survey_of-survey.ensures.lawful c.args.book.now refl s.asks.all c.survey_of-survey.result s.left s.stopped in
    settles-whole c.args.policy c.args.book.now c.args.order s.answers c.survey_of-survey.ensures.lawful s.asks.all c.survey_of-survey.result s.left s.stopped c.make_room.new.book c.in-Ok.ensures.made c.in-Ok.ensures.lawful c.cancel_each.new.book after c.admitted.result e_is c.in-Ok.ensures.whole

pub settle-requires-clause-room : goal.settle-requires-clause-room
settle-requires-clause-room g c =
    let s = c.survey_of-survey.ensures.surveys in
    let slice : take (length c.deref.result.now - c.len-before.result) (drop c.len-before.result c.deref.result.now) ≡ withdrawn c.args.policy s.answers (facing c.args.book.now c.args.order) =
    slice-behind c.args.cancelled.now.items (withdrawn c.args.policy s.answers (facing c.args.book.now c.args.order)) c.deref.result.now c.len-before.result
    (c.deref.ensures.value ∙ s.listed c.in-Ok.ensures.listed) (c.len-before.ensures ∙ c.args.cancelled.now.ok.0) in
    let after : c.cancel_each.new.book ≡ without_all c.make_room.new.book (withdrawn c.args.policy s.answers (facing c.args.book.now c.args.order)) =
    c.cancel_each.ensures.after ∙ ap (without_all c.make_room.new.book) slice in
    let e_is : c.admitted.result ≡ admitted c.args.policy c.args.book.now c.args.order s.answers =
    c.admitted.ensures ∙ admitted-surveyed c.args.policy c.args.book.now c.args.order s.answers c.survey_of-survey.ensures.lawful c.args.book.now refl s.asks.all c.survey_of-survey.result s.left s.stopped in
    settles-room c.args.policy c.args.book.now c.args.order s.answers c.survey_of-survey.ensures.lawful s.asks.all c.survey_of-survey.result s.left s.stopped c.make_room.new.book c.in-Ok.ensures.made c.in-Ok.ensures.lawful c.cancel_each.new.book after c.admitted.result e_is c.in-Ok.ensures.room

pub settle-requires-clause-room_for_trades : goal.settle-requires-clause-room_for_trades
settle-requires-clause-room_for_trades g c =
    let s = c.survey_of-survey.ensures.surveys in
    let slice : take (length c.deref.result.now - c.len-before.result) (drop c.len-before.result c.deref.result.now) ≡ withdrawn c.args.policy s.answers (facing c.args.book.now c.args.order) =
    slice-behind c.args.cancelled.now.items (withdrawn c.args.policy s.answers (facing c.args.book.now c.args.order)) c.deref.result.now c.len-before.result
    (c.deref.ensures.value ∙ s.listed c.in-Ok.ensures.listed) (c.len-before.ensures ∙ c.args.cancelled.now.ok.0) in
    let after : c.cancel_each.new.book ≡ without_all c.make_room.new.book (withdrawn c.args.policy s.answers (facing c.args.book.now c.args.order)) =
    c.cancel_each.ensures.after ∙ ap (without_all c.make_room.new.book) slice in
    let e_is : c.admitted.result ≡ admitted c.args.policy c.args.book.now c.args.order s.answers =
    c.admitted.ensures ∙ admitted-surveyed c.args.policy c.args.book.now c.args.order s.answers c.survey_of-survey.ensures.lawful c.args.book.now refl s.asks.all c.survey_of-survey.result s.left s.stopped in
    omega (arith, c.in-Ok.ensures.room_for_trades, s.count, settles-count c.args.policy c.args.book.now c.args.order s.answers c.survey_of-survey.ensures.lawful s.asks.all c.survey_of-survey.result s.left s.stopped c.make_room.new.book c.in-Ok.ensures.made c.in-Ok.ensures.lawful c.cancel_each.new.book after c.admitted.result e_is)

pub returns-in-Ok-clause-outcome : goal.returns-in-Ok-clause-outcome
returns-in-Ok-clause-outcome g c =
    let s = c.survey_of-survey.ensures.surveys in
    let slice : take (length c.deref.result.now - c.len-before.result) (drop c.len-before.result c.deref.result.now) ≡ withdrawn c.args.policy s.answers (facing c.args.book.now c.args.order) =
    slice-behind c.args.cancelled.now.items (withdrawn c.args.policy s.answers (facing c.args.book.now c.args.order)) c.deref.result.now c.len-before.result
    (c.deref.ensures.value ∙ s.listed c.in-Ok.ensures.listed) (c.len-before.ensures ∙ c.args.cancelled.now.ok.0) in
    let after : c.cancel_each.new.book ≡ without_all c.make_room.new.book (withdrawn c.args.policy s.answers (facing c.args.book.now c.args.order)) =
    c.cancel_each.ensures.after ∙ ap (without_all c.make_room.new.book) slice in
    let e_is : c.admitted.result ≡ admitted c.args.policy c.args.book.now c.args.order s.answers =
    c.admitted.ensures ∙ admitted-surveyed c.args.policy c.args.book.now c.args.order s.answers c.survey_of-survey.ensures.lawful c.args.book.now refl s.asks.all c.survey_of-survey.result s.left s.stopped in
    let some : c.args.order.quantity ≢ 0 = λ zero. omega (arith, zero, c.if-order-eq0.false) in (
      s.answers,
      s.asks,
      record {
        placed = settles-placed c.args.policy c.args.book.now c.args.order s.answers c.survey_of-survey.ensures.lawful s.asks.all c.survey_of-survey.result s.left s.stopped c.make_room.new.book c.in-Ok.ensures.made c.in-Ok.ensures.lawful c.cancel_each.new.book after c.admitted.result e_is c.settle.result c.settle.new.book c.settle.ensures.placed;
        named = settles-named c.args.policy c.args.book.now c.args.order s.answers c.survey_of-survey.ensures.lawful s.asks.all c.survey_of-survey.result s.left s.stopped c.make_room.new.book c.in-Ok.ensures.made c.in-Ok.ensures.lawful c.cancel_each.new.book after c.admitted.result e_is c.settle.result c.settle.new.book c.settle.ensures.named;
        traded = c.settle.ensures.trades ∙ ap (λ ts. ts ++ trades_of c.cancel_each.new.book c.admitted.result) c.in-Ok.ensures.trades
            ∙ ap (λ ts. c.args.trades.now.items ++ ts) (traded-cleared c.args.policy c.args.book.now c.args.order s.answers c.survey_of-survey.ensures.lawful s.asks.all c.survey_of-survey.result s.left s.stopped c.make_room.new.book c.in-Ok.ensures.made c.in-Ok.ensures.lawful c.cancel_each.new.book after c.admitted.result e_is);
        removed = s.listed c.in-Ok.ensures.listed;
        would_trade = would-trade c.args.policy c.args.book.now c.args.order s.answers c.survey_of-survey.ensures.lawful s.asks.all c.survey_of-survey.result s.left s.stopped (Ok c.in-Ok.field-0) (Ok c.settle.result) (no-error c.in-Ok.field-0 c.settle.result) some c.in-Ok.ensures.would_trade;
        would_not_fill = would-not_fill c.args.policy c.args.book.now c.args.order s.answers c.survey_of-survey.ensures.lawful s.asks.all c.survey_of-survey.result s.left s.stopped (Ok c.in-Ok.field-0) (Ok c.settle.result) (no-error c.in-Ok.field-0 c.settle.result) some c.in-Ok.ensures.would_not_fill;
        full = when-full c.args.policy c.args.book.now c.args.order s.answers c.survey_of-survey.ensures.lawful s.asks.all c.survey_of-survey.result s.left s.stopped (Ok c.in-Ok.field-0) (Ok c.settle.result) (no-error c.in-Ok.field-0 c.settle.result) some c.in-Ok.ensures.full;
        memory = lacks-memory c.args.policy c.args.book.now c.args.order s.answers c.survey_of-survey.ensures.lawful s.asks.all c.survey_of-survey.result s.left s.stopped (Ok c.in-Ok.field-0) (Ok c.settle.result) (no-error c.in-Ok.field-0 c.settle.result) some (vec_capacity c.args.trades.now) (length c.args.trades.now.items) (vec_capacity c.args.cancelled.now - length c.args.cancelled.now.items)
            (omega arith) s.count s.lacks c.in-Ok.ensures.memory;
      },
    )

pub returns-in-Err-clause-outcome : goal.returns-in-Err-clause-outcome
returns-in-Err-clause-outcome g c =
    let s = c.survey_of-survey.ensures.surveys in
    let some : c.args.order.quantity ≢ 0 = λ zero. omega (arith, zero, c.if-order-eq0.false) in (
      s.answers,
      s.asks,
      record {
        placed = tt;
        named = tt;
        traded = tt;
        removed = tt;
        would_trade = would-trade c.args.policy c.args.book.now c.args.order s.answers c.survey_of-survey.ensures.lawful s.asks.all c.survey_of-survey.result s.left s.stopped (Err c.in-Err.refusal) (Err c.in-Err.refusal) (same-error c.in-Err.refusal) some c.in-Err.ensures.would_trade;
        would_not_fill = would-not_fill c.args.policy c.args.book.now c.args.order s.answers c.survey_of-survey.ensures.lawful s.asks.all c.survey_of-survey.result s.left s.stopped (Err c.in-Err.refusal) (Err c.in-Err.refusal) (same-error c.in-Err.refusal) some c.in-Err.ensures.would_not_fill;
        full = when-full c.args.policy c.args.book.now c.args.order s.answers c.survey_of-survey.ensures.lawful s.asks.all c.survey_of-survey.result s.left s.stopped (Err c.in-Err.refusal) (Err c.in-Err.refusal) (same-error c.in-Err.refusal) some c.in-Err.ensures.full;
        memory = lacks-memory c.args.policy c.args.book.now c.args.order s.answers c.survey_of-survey.ensures.lawful s.asks.all c.survey_of-survey.result s.left s.stopped (Err c.in-Err.refusal) (Err c.in-Err.refusal) (same-error c.in-Err.refusal) some (vec_capacity c.args.trades.now) (length c.args.trades.now.items) (vec_capacity c.args.cancelled.now - length c.args.cancelled.now.items)
            (omega arith) s.count s.lacks c.in-Err.ensures.memory;
      },
    )

pub returns-in-Ok-clause-by_test : goal.returns-in-Ok-clause-by_test
returns-in-Ok-clause-by_test g c =
    λ allows is_test.
    let h = returns-in-Ok-clause-outcome g c in
    subst (λ answers. Outcome c.args.policy c.args.book.now c.args.order answers (Ok c.settle.result) c.settle.new.book c.args.trades.now.items c.settle.new.trades.items c.args.cancelled.now.items c.survey_of-survey.new.cancelled.items
    (vec_capacity c.args.trades.now - length c.args.trades.now.items) (vec_capacity c.args.cancelled.now - length c.args.cancelled.now.items))
    (answers-by g.F.FnMut allows c.args.policy (opposite c.args.order.side) (limit_of c.args.order.side c.args.order.kind) c.args.may_trade h.1.last c.args.order.quantity
    (facing c.args.book.now c.args.order) h.0 is_test h.1.asked h.1.all) h.2

pub returns-in-Err-clause-by_test : goal.returns-in-Err-clause-by_test
returns-in-Err-clause-by_test g c =
    λ allows is_test.
    let h = returns-in-Err-clause-outcome g c in
    subst (λ answers. Outcome c.args.policy c.args.book.now c.args.order answers (Err c.in-Err.refusal) c.make_room.new.book c.args.trades.now.items c.make_room.new.trades.items c.args.cancelled.now.items c.truncate.new.self.items
    (vec_capacity c.args.trades.now - length c.args.trades.now.items) (vec_capacity c.args.cancelled.now - length c.args.cancelled.now.items))
    (answers-by g.F.FnMut allows c.args.policy (opposite c.args.order.side) (limit_of c.args.order.side c.args.order.kind) c.args.may_trade h.1.last c.args.order.quantity
    (facing c.args.book.now c.args.order) h.0 is_test h.1.asked h.1.all) h.2

pub returns-then-order-eq0-clause-outcome : goal.returns-then-order-eq0-clause-outcome
returns-then-order-eq0-clause-outcome g c = (
  [],
  record {
    last = c.args.may_trade;
    asked = refl;
    all = nothing-asked c.args.policy (opposite c.args.order.side) (limit_of c.args.order.side c.args.order.kind) c.args.order.quantity (facing c.args.book.now c.args.order) c.if-order-eq0.true;
  },
  nothing-placed c.args.policy c.args.book.now c.args.order c.count.ensures.lawful c.if-order-eq0.true c.args.book.now c.args.trades.now.items c.args.trades.now.items
      c.args.cancelled.now.items c.args.cancelled.now.items (vec_capacity c.args.trades.now - length c.args.trades.now.items) (vec_capacity c.args.cancelled.now - length c.args.cancelled.now.items),
)

pub returns-then-order-eq0-clause-by_test : goal.returns-then-order-eq0-clause-by_test
returns-then-order-eq0-clause-by_test g c =
    λ allows is_test.
    let h = returns-then-order-eq0-clause-outcome g c in
    subst (λ answers. Outcome c.args.policy c.args.book.now c.args.order answers (Err NoQuantity) c.args.book.now c.args.trades.now.items c.args.trades.now.items c.args.cancelled.now.items c.args.cancelled.now.items
    (vec_capacity c.args.trades.now - length c.args.trades.now.items) (vec_capacity c.args.cancelled.now - length c.args.cancelled.now.items))
    (answers-by g.F.FnMut allows c.args.policy (opposite c.args.order.side) (limit_of c.args.order.side c.args.order.kind) c.args.may_trade h.1.last c.args.order.quantity
    (facing c.args.book.now c.args.order) h.0 is_test h.1.asked h.1.all) h.2

pub returns-in-Ok-clause-allowed : goal.returns-in-Ok-clause-allowed
returns-in-Ok-clause-allowed g c =
    let s = c.survey_of-survey.ensures.surveys in
    let slice : take (length c.deref.result.now - c.len-before.result) (drop c.len-before.result c.deref.result.now) ≡ withdrawn c.args.policy s.answers (facing c.args.book.now c.args.order) =
    slice-behind c.args.cancelled.now.items (withdrawn c.args.policy s.answers (facing c.args.book.now c.args.order)) c.deref.result.now c.len-before.result
    (c.deref.ensures.value ∙ s.listed c.in-Ok.ensures.listed) (c.len-before.ensures ∙ c.args.cancelled.now.ok.0) in
    let after : c.cancel_each.new.book ≡ without_all c.make_room.new.book (withdrawn c.args.policy s.answers (facing c.args.book.now c.args.order)) =
    c.cancel_each.ensures.after ∙ ap (without_all c.make_room.new.book) slice in
    let e_is : c.admitted.result ≡ admitted c.args.policy c.args.book.now c.args.order s.answers =
    c.admitted.ensures ∙ admitted-surveyed c.args.policy c.args.book.now c.args.order s.answers c.survey_of-survey.ensures.lawful c.args.book.now refl s.asks.all c.survey_of-survey.result s.left s.stopped in
    λ test only.
    settles-passing c.args.policy c.args.book.now c.args.order s.answers c.survey_of-survey.ensures.lawful s.asks.all c.survey_of-survey.result s.left s.stopped c.make_room.new.book c.in-Ok.ensures.made c.in-Ok.ensures.lawful c.cancel_each.new.book after c.admitted.result e_is g.F.FnMut c.args.may_trade s.asks.last test c.args.trades.now.items c.settle.new.trades.items only s.asks.asked
    (c.settle.ensures.trades ∙ ap (λ ts. ts ++ trades_of c.cancel_each.new.book c.admitted.result) c.in-Ok.ensures.trades)

pub returns-in-Ok-clause-others : goal.returns-in-Ok-clause-others
returns-in-Ok-clause-others g c =
    let s = c.survey_of-survey.ensures.surveys in
    let slice : take (length c.deref.result.now - c.len-before.result) (drop c.len-before.result c.deref.result.now) ≡ withdrawn c.args.policy s.answers (facing c.args.book.now c.args.order) =
    slice-behind c.args.cancelled.now.items (withdrawn c.args.policy s.answers (facing c.args.book.now c.args.order)) c.deref.result.now c.len-before.result
    (c.deref.ensures.value ∙ s.listed c.in-Ok.ensures.listed) (c.len-before.ensures ∙ c.args.cancelled.now.ok.0) in
    λ other unnamed untraded none.
    let trades = appended-front c.args.trades.now.items (trades_of c.cancel_each.new.book c.admitted.result) c.settle.new.trades.items
    (c.settle.ensures.trades ∙ ap (λ ts. ts ++ trades_of c.cancel_each.new.book c.admitted.result) c.in-Ok.ensures.trades) in
    let gone = appended-front c.args.cancelled.now.items (withdrawn c.args.policy s.answers (facing c.args.book.now c.args.order)) c.survey_of-survey.new.cancelled.items (s.listed c.in-Ok.ensures.listed) in
    c.settle.ensures.others other unnamed (subst (IsUntraded other) trades untraded)
    ∙ c.cancel_each.ensures.others other (subst (IsNoneOf other) (gone ∙ sym slice) none)
    ∙ room-named c.args.book.now c.make_room.new.book c.args.order.side (rest_after c.survey_of-survey.result c.args.order) c.in-Ok.ensures.made other

pub returns-in-Ok-clause-refused : goal.returns-in-Ok-clause-refused
returns-in-Ok-clause-refused g c =
    let s = c.survey_of-survey.ensures.surveys in
    λ test only.
    let gone = appended-front c.args.cancelled.now.items (withdrawn c.args.policy s.answers (facing c.args.book.now c.args.order)) c.survey_of-survey.new.cancelled.items (s.listed c.in-Ok.ensures.listed) in
    subst (AreTested test) (sym gone) (withdrawn-tested g.F.FnMut test c.args.policy c.args.may_trade s.asks.last (facing c.args.book.now c.args.order) s.answers only s.asks.asked)

pub returns-then-order-eq0-clause-step : goal.returns-then-order-eq0-clause-step
returns-then-order-eq0-clause-step g c = step-stays c.args.book.now c.args.book.now refl

pub returns-in-Err-clause-step : goal.returns-in-Err-clause-step
returns-in-Err-clause-step g c = step-stays c.args.book.now c.make_room.new.book c.in-Err.ensures.err

pub returns-in-Ok-clause-step : goal.returns-in-Ok-clause-step
returns-in-Ok-clause-step g c =
    let s = c.survey_of-survey.ensures.surveys in
    let slice : take (length c.deref.result.now - c.len-before.result) (drop c.len-before.result c.deref.result.now) ≡ withdrawn c.args.policy s.answers (facing c.args.book.now c.args.order) =
    slice-behind c.args.cancelled.now.items (withdrawn c.args.policy s.answers (facing c.args.book.now c.args.order)) c.deref.result.now c.len-before.result
    (c.deref.ensures.value ∙ s.listed c.in-Ok.ensures.listed) (c.len-before.ensures ∙ c.args.cancelled.now.ok.0) in
    let after : c.cancel_each.new.book ≡ without_all c.make_room.new.book (withdrawn c.args.policy s.answers (facing c.args.book.now c.args.order)) =
    c.cancel_each.ensures.after ∙ ap (without_all c.make_room.new.book) slice in
    let e_is : c.admitted.result ≡ admitted c.args.policy c.args.book.now c.args.order s.answers =
    c.admitted.ensures ∙ admitted-surveyed c.args.policy c.args.book.now c.args.order s.answers c.survey_of-survey.ensures.lawful c.args.book.now refl s.asks.all c.survey_of-survey.result s.left s.stopped in
    settles-step c.args.policy c.args.book.now c.args.order s.answers c.survey_of-survey.ensures.lawful s.asks.all c.survey_of-survey.result s.left s.stopped c.make_room.new.book c.in-Ok.ensures.made c.in-Ok.ensures.lawful c.cancel_each.new.book after c.admitted.result e_is c.settle.result c.settle.new.book c.settle.ensures.placed c.settle.ensures.step
