use Rattle.std.proofs.Common.{sym, ◌∙◌, ap, Some, None}
use Rattle.std.specs.Option.{option_map}
use Rattle.sorted_arena.proofs.Stretching.{before-linked, before-unlinked, before-end}
use Rattle.sorted_arena.proofs.pairs.last_before.Goals as goal

pub returns-in_err-link-in-Some : goal.returns-in_err-link-in-Some
returns-in_err-link-in-Some g c distinct front back cut ends =
    before-unlinked c.args.pairs.now.list.entries distinct front back cut (g.P.Inx.BasePtrInx.number c.in-Some.i)
    (ends ∙ ap (option_map g.P.Inx.BasePtrInx.number) c.in-Some.is) c.in_err-link-in-Some.ensures.value

pub returns-in_err-last-in-None : goal.returns-in_err-last-in-None
returns-in_err-last-in-None g c distinct front back cut ends =
    before-end c.args.pairs.now.list.entries distinct front back cut None (ends ∙ ap (option_map g.P.Inx.BasePtrInx.number) c.in-None.is) c.in_err-last-in-None.ensures.pointer
    ∙ sym (ap (option_map g.P.Inx.BasePtrInx.number) c.from_residual-in_err-last-in-None.ensures)

pub returns-in_ok-link-in-Some : goal.returns-in_ok-link-in-Some
returns-in_ok-link-in-Some g c distinct front back cut ends =
    before-linked c.args.pairs.now.list.entries distinct front back cut (g.P.Inx.BasePtrInx.number c.in-Some.i) _ _
    (ends ∙ ap (option_map g.P.Inx.BasePtrInx.number) c.in-Some.is) c.in_ok-link-in-Some.ensures.value ∙ sym c.prev.ensures.value

pub returns-in_ok-last-in-None : goal.returns-in_ok-last-in-None
returns-in_ok-last-in-None g c distinct front back cut ends =
    before-end c.args.pairs.now.list.entries distinct front back cut (Some (g.P.BasePtr.numbers c.in_ok-last-in-None.last))
    (ends ∙ ap (option_map g.P.Inx.BasePtrInx.number) c.in-None.is) c.in_ok-last-in-None.ensures.pointer
    ∙ ap (λ i. Some i) (sym c.inx.ensures)
