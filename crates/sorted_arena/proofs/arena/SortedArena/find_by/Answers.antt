use Rattle.std.proofs.Common.{◌≡◌, ◌≢◌, ◌∙◌, Option, Some, None, IsSome, true, false, sym, ap}
use Rattle.std.specs.{Option.option_map, Ordering.is_eq, Ordering.ordering_index, declared.cmp.Ordering.TheVariants.Equal}
use Rattle.sorted_arena.specs.{Layout.sorted_of, Sorted.key_of}
use Rattle.sorted_arena.proofs.Cutting.{finds-first, eq_is, not_eq}
use Rattle.sorted_arena.proofs.Comparing.{rises, rises-key, none-equal, found-by, eq-key}
use Rattle.sorted_arena.proofs.arena.SortedArena.find_by.Goals as goal

-- a key that is missing is that of no entry
lost : {X Y : Type 0} (f : X → Y) (o : Option X) → None ≡ option_map f o → IsSome o → ⊥
lost f None is some = absurd (cc)
lost f (Some x) is some = absurd (cc)

pub returns-in_err-p-clause-first : goal.returns-in_err-p-clause-first
returns-in_err-p-clause-first g c order compares up =
    let sound = rw c.pairs.ensures.view at c.pairs.ensures.sound in
    let es = c.pairs.result.now.list.entries in
    let rising = rises (λ e. ordering_index (order (key_of e))) es (rw c.pairs.ensures.view at up) in
    rw c.pairs.ensures.view
    (ap (option_map g.P.BasePtr.numbers) c.from_residual.ensures ∙ sym (none-equal order es (sym (c.in_err-p.ensures.first order compares sound.distinct rising))))

pub returns-in_err-p-clause-finds : goal.returns-in_err-p-clause-finds
returns-in_err-p-clause-finds g c k compares =
    let sound = rw c.pairs.ensures.view at c.pairs.ensures.sound in
    let es = c.pairs.result.now.list.entries in
    let order = λ (x : g.row.K.Denot). g.K.Ord.cmp x k in
    let rising = rises-key g.K.Ord.cmp g.met.K.Ord.total es sound.sorted k in
    rw c.pairs.ensures.view
    (finds-first g.K.Ord.cmp g.P.Inx.BasePtrInx.most g.P.BasePtr.numbers (sorted_of c.pairs.result.now) sound k is_eq (λ o. o ≡ Equal) (λ o. o ≢ Equal) eq_is not_eq c.from_residual.result
    (ap (option_map g.P.BasePtr.numbers) c.from_residual.ensures ∙ sym (none-equal order es (sym (c.in_err-p.ensures.first order compares sound.distinct rising)))
    ∙ eq-key g.K.Ord.cmp g.met.K.Ord.total k es))

pub returns-in_err-k-clause-finds : goal.returns-in_err-k-clause-finds
returns-in_err-k-clause-finds g c k compares =
    let sound = rw c.pairs.ensures.view at c.pairs.ensures.sound in
    absurd (lost (λ e. e.0) _ (rw c.pairs.ensures.view at c.in_err-k.ensures) (c.in_ok-p.ensures.named sound))

pub returns-then-is_eq-clause-first : goal.returns-then-is_eq-clause-first
returns-then-is_eq-clause-first g c order compares up =
    let sound = rw c.pairs.ensures.view at c.pairs.ensures.sound in
    let es = c.pairs.result.now.list.entries in
    let rising = rises (λ e. ordering_index (order (key_of e))) es (rw c.pairs.ensures.view at up) in
    rw c.pairs.ensures.view
    (found-by order es sound.distinct rising (g.P.BasePtr.numbers c.in_ok-p.p) (c.in_ok-p.ensures.first order compares sound.distinct rising) c.in_ok-k.k.now (rw c.pairs.ensures.view at c.in_ok-k.ensures) true
    (ap is_eq (sym (compares c.in_ok-k.k c.f.result c.f.ensures)) ∙ sym c.is_eq.ensures ∙ c.if-is_eq.true))

pub returns-then-is_eq-clause-finds : goal.returns-then-is_eq-clause-finds
returns-then-is_eq-clause-finds g c k compares =
    let sound = rw c.pairs.ensures.view at c.pairs.ensures.sound in
    let es = c.pairs.result.now.list.entries in
    let order = λ (x : g.row.K.Denot). g.K.Ord.cmp x k in
    let rising = rises-key g.K.Ord.cmp g.met.K.Ord.total es sound.sorted k in
    rw c.pairs.ensures.view
    (finds-first g.K.Ord.cmp g.P.Inx.BasePtrInx.most g.P.BasePtr.numbers (sorted_of c.pairs.result.now) sound k is_eq (λ o. o ≡ Equal) (λ o. o ≢ Equal) eq_is not_eq (Some c.in_ok-p.p)
    (found-by order es sound.distinct rising (g.P.BasePtr.numbers c.in_ok-p.p) (c.in_ok-p.ensures.first order compares sound.distinct rising) c.in_ok-k.k.now (rw c.pairs.ensures.view at c.in_ok-k.ensures) true
    (ap is_eq (sym (compares c.in_ok-k.k c.f.result c.f.ensures)) ∙ sym c.is_eq.ensures ∙ c.if-is_eq.true)
    ∙ eq-key g.K.Ord.cmp g.met.K.Ord.total k es))

pub returns-clause-first : goal.returns-clause-first
returns-clause-first g c order compares up =
    let sound = rw c.pairs.ensures.view at c.pairs.ensures.sound in
    let es = c.pairs.result.now.list.entries in
    let rising = rises (λ e. ordering_index (order (key_of e))) es (rw c.pairs.ensures.view at up) in
    rw c.pairs.ensures.view
    (found-by order es sound.distinct rising (g.P.BasePtr.numbers c.in_ok-p.p) (c.in_ok-p.ensures.first order compares sound.distinct rising) c.in_ok-k.k.now (rw c.pairs.ensures.view at c.in_ok-k.ensures) false
    (ap is_eq (sym (compares c.in_ok-k.k c.f.result c.f.ensures)) ∙ sym c.is_eq.ensures ∙ c.if-is_eq.false))

pub returns-clause-finds : goal.returns-clause-finds
returns-clause-finds g c k compares =
    let sound = rw c.pairs.ensures.view at c.pairs.ensures.sound in
    let es = c.pairs.result.now.list.entries in
    let order = λ (x : g.row.K.Denot). g.K.Ord.cmp x k in
    let rising = rises-key g.K.Ord.cmp g.met.K.Ord.total es sound.sorted k in
    rw c.pairs.ensures.view
    (finds-first g.K.Ord.cmp g.P.Inx.BasePtrInx.most g.P.BasePtr.numbers (sorted_of c.pairs.result.now) sound k is_eq (λ o. o ≡ Equal) (λ o. o ≢ Equal) eq_is not_eq None
    (found-by order es sound.distinct rising (g.P.BasePtr.numbers c.in_ok-p.p) (c.in_ok-p.ensures.first order compares sound.distinct rising) c.in_ok-k.k.now (rw c.pairs.ensures.view at c.in_ok-k.ensures) false
    (ap is_eq (sym (compares c.in_ok-k.k c.f.result c.f.ensures)) ∙ sym c.is_eq.ensures ∙ c.if-is_eq.false)
    ∙ eq-key g.K.Ord.cmp g.met.K.Ord.total k es))
