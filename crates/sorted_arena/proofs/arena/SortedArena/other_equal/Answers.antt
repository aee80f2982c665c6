use Rattle.std.proofs.Common.{rules, ◌≡◌, ◌≢◌, ◌∙◌, ℕ, true, false, Some, sym, ap}
use Rattle.std.specs.{Option.option_map, Ordering.is_eq}
use Rattle.sorted_arena.specs.Sorted.{first_where, next_of}
use Rattle.sorted_arena.proofs.Unique.{equals, other-none, other-first, other-next, other-last, next-found, same-named, where-named}
use Rattle.sorted_arena.proofs.arena.SortedArena.other_equal.Goals as goal
use Rattle.sorted_arena.proofs.arena.SortedArena.other_equal.Goals.{After-next}

pub returns-in_err-first : goal.returns-in_err-first
returns-in_err-first g c =
    ap (option_map g.P.BasePtr.numbers) c.from_residual.ensures
    ∙ sym (other-none g.K.Ord.cmp c.args.k.now (g.P.BasePtr.numbers c.args.p) c.args.self.now.entries (sym c.find.ensures.value ∙ ap (option_map g.P.BasePtr.numbers) c.in_err-first.was))

pub returns-then-not-are_same : goal.returns-then-not-are_same
returns-then-not-are_same g c =
    let apart : g.P.BasePtr.numbers c.args.p ≢ g.P.BasePtr.numbers c.in_ok-first.first =
    λ same. c.are_same.ensures.apart c.if-not-are_same.true (ap (λ i. Some i) (c.inx.ensures ∙ ap (λ (q : ℕ × ℕ). q.0) (sym same) ∙ sym c.inx-2.ensures)) in
    sym (other-first g.K.Ord.cmp c.args.k.now (g.P.BasePtr.numbers c.args.p) c.args.self.now.entries (g.P.BasePtr.numbers c.in_ok-first.first)
    (sym c.find.ensures.value ∙ ap (option_map g.P.BasePtr.numbers) c.in_ok-first.was) apart)

-- the first entry with an equal key is the one at the pointer
own : (g : _) (c : After-next g) → first_where (equals g.K.Ord.cmp c.args.k.now (g.P.BasePtr.numbers c.args.p)) c.args.self.now.entries ≡ Some (g.P.BasePtr.numbers c.args.p)
own g c =
    let es = c.args.self.now.entries in
    let found = sym c.find.ensures.value ∙ ap (option_map g.P.BasePtr.numbers) c.in_ok-first.was in
    let index : (g.P.BasePtr.numbers c.in_ok-first.first).0 ≡ (g.P.BasePtr.numbers c.args.p).0 =
    let both = c.are_same.ensures.same c.if-not-are_same.false in sym c.inx.ensures ∙ (let same : g.P.Inx.BasePtrInx.number c.inx.result ≡ g.P.Inx.BasePtrInx.number c.inx-2.result = cc in same) ∙ c.inx-2.ensures in
    found ∙ ap (λ q. Some q) (same-named es (g.P.BasePtr.numbers c.args.p) (g.P.BasePtr.numbers c.in_ok-first.first) index c.requires
    (where-named (equals g.K.Ord.cmp c.args.k.now (g.P.BasePtr.numbers c.args.p)) es c.find.ensures.sound.distinct (g.P.BasePtr.numbers c.in_ok-first.first) found))

pub returns-in_err-next : goal.returns-in_err-next
returns-in_err-next g c =
    ap (option_map g.P.BasePtr.numbers) c.from_residual-in_err-next.ensures
    ∙ sym (other-last g.K.Ord.cmp c.args.k.now (g.P.BasePtr.numbers c.args.p) g.met.K.Ord.total c.args.self.now.entries c.find.ensures.sound.distinct c.find.ensures.sound.sorted
    (own g (goal.at.returns-in_err-next g c).After-next) (sym c.next.ensures.value ∙ ap (option_map g.P.BasePtr.numbers) c.in_err-next.was))

pub returns-then-is_eq : goal.returns-then-is_eq
returns-then-is_eq g c =
    let k = c.args.k.now in let p = g.P.BasePtr.numbers c.args.p in let es = c.args.self.now.entries in
    let next : next_of es p ≡ Some (g.P.BasePtr.numbers c.in_ok-next.next) = sym c.next.ensures.value ∙ ap (option_map g.P.BasePtr.numbers) c.in_ok-next.was in
    let found = own g (goal.at.returns-then-is_eq g c).After-next in
    let is : is_eq (g.K.Ord.cmp k c.in_ok-key.field-0.now) ≡ true = search rules in
    sym (other-next g.K.Ord.cmp k p g.met.K.Ord.total es c.find.ensures.sound.distinct c.find.ensures.sound.sorted found true
    (next-found g.K.Ord.cmp k p g.met.K.Ord.total es c.find.ensures.sound.distinct c.find.ensures.sound.sorted found (g.P.BasePtr.numbers c.in_ok-next.next) next c.in_ok-key.field-0.now (search rules) true is) ∙ next)

pub returns-else-is_eq : goal.returns-else-is_eq
returns-else-is_eq g c =
    let k = c.args.k.now in let p = g.P.BasePtr.numbers c.args.p in let es = c.args.self.now.entries in
    let next : next_of es p ≡ Some (g.P.BasePtr.numbers c.in_ok-next.next) = sym c.next.ensures.value ∙ ap (option_map g.P.BasePtr.numbers) c.in_ok-next.was in
    let found = own g (goal.at.returns-else-is_eq g c).After-next in
    let is : is_eq (g.K.Ord.cmp k c.in_ok-key.field-0.now) ≡ false = search rules in
    sym (other-next g.K.Ord.cmp k p g.met.K.Ord.total es c.find.ensures.sound.distinct c.find.ensures.sound.sorted found false
    (next-found g.K.Ord.cmp k p g.met.K.Ord.total es c.find.ensures.sound.distinct c.find.ensures.sound.sorted found (g.P.BasePtr.numbers c.in_ok-next.next) next c.in_ok-key.field-0.now (search rules) false is))
