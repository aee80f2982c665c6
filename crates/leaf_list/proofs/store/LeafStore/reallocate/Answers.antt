use Rattle.std.proofs.Common.{take, arith, ap, refl, ◌∙◌}
use Rattle.leaf_list.proofs.Growing.{as-err}
use Rattle.leaf_list.proofs.Rooming.{room-is, longer-view, longer-stored, empty-beyond, resized-stored, resized-view}
use Rattle.leaf_list.proofs.store.LeafStore.reallocate.Goals as goal

pub returns-then-leaves-clause-fails : goal.returns-then-leaves-clause-fails
returns-then-leaves-clause-fails g c = λ refused. let room = room-is g.P.Inx.BasePtrInx.number c.self.inside.index c.self.inside.rows.items c.args.self.now c.self.view_is c.self.invariant _ _ c.len.ensures.sound in omega (arith, c.self.invariant.fits)

pub invariant_of-self : goal.invariant_of-self
invariant_of-self g c = longer-stored g.P.Inx.BasePtrInx.number c.self.inside.index c.self.inside.rows.items c.args.self.now c.self.view_is c.self.invariant _ _ c.len.ensures.sound c.add_rows.new.rows.items c.add_rows.ensures.kept c.add_rows.ensures.longer

pub returns-in_err-add_rows-clause-err : goal.returns-in_err-add_rows-clause-err
returns-in_err-add_rows-clause-err g c = as-err _ (longer-view g.P.Inx.BasePtrInx.number c.self.inside.index c.self.inside.rows.items c.args.self.now c.self.view_is c.self.invariant _ _ c.len.ensures.sound c.add_rows.new.rows.items c.add_rows.ensures.kept)

pub returns-in_err-add_rows-clause-fails : goal.returns-in_err-add_rows-clause-fails
returns-in_err-add_rows-clause-fails g c = λ refused. let room = room-is g.P.Inx.BasePtrInx.number c.self.inside.index c.self.inside.rows.items c.args.self.now c.self.view_is c.self.invariant _ _ c.len.ensures.sound in let few = c.in_err-add_rows.ensures.fails refl in omega (arith, c.self.invariant.enough)

pub drop_rows-requires : goal.drop_rows-requires
drop_rows-requires g c =
    let capacity = ap (λ a. a.list.capacity) c.in-Ok.ensures.reallocates.ok in
    empty-beyond g.P.Inx.BasePtrInx.number c.self.inside.index c.self.inside.rows.items c.args.self.now c.self.view_is c.self.invariant _ _ c.len.ensures.sound c.add_rows.new.rows.items c.add_rows.ensures.kept c.capacity-capacity.result (omega (arith, c.capacity-capacity.ensures.value))

pub invariant_of-self-in-Ok : goal.invariant_of-self-in-Ok
invariant_of-self-in-Ok g c =
    let is = c.in-Ok.ensures.reallocates.ok in
    let entries = ap (λ a. a.list.entries) is in
    let maximum = ap (λ a. a.list.maximum) is ∙ c.self.invariant.unlimited in
    let capacity = ap (λ a. a.list.capacity) is in
    let rows = c.drop_rows.ensures ∙ ap (λ n. take n c.add_rows.new.rows.items) c.capacity-capacity.ensures.value in
    resized-stored g.P.Inx.BasePtrInx.number c.self.inside.index c.self.inside.rows.items c.args.self.now c.self.view_is c.self.invariant _ _ c.len.ensures.sound c.reallocate_min_capacity.new.self entries maximum c.args.leaves capacity (omega arith) c.add_rows.new.rows.items c.drop_rows.new.rows.items c.add_rows.ensures.kept rows c.in_ok-add_rows.ensures.enough c.add_rows.ensures.longer

pub returns-in-Ok-clause-ok : goal.returns-in-Ok-clause-ok
returns-in-Ok-clause-ok g c =
    let is = c.in-Ok.ensures.reallocates.ok in
    let entries = ap (λ a. a.list.entries) is in
    let maximum = ap (λ a. a.list.maximum) is ∙ c.self.invariant.unlimited in
    let capacity = ap (λ a. a.list.capacity) is in
    let rows = c.drop_rows.ensures ∙ ap (λ n. take n c.add_rows.new.rows.items) c.capacity-capacity.ensures.value in
    resized-view g.P.Inx.BasePtrInx.number c.self.inside.index c.self.inside.rows.items c.args.self.now c.self.view_is c.self.invariant _ _ c.len.ensures.sound c.reallocate_min_capacity.new.self entries maximum c.args.leaves capacity (omega arith) c.add_rows.new.rows.items c.drop_rows.new.rows.items c.add_rows.ensures.kept rows c.in_ok-add_rows.ensures.enough c.add_rows.ensures.longer

pub invariant_of-self-in-Err : goal.invariant_of-self-in-Err
invariant_of-self-in-Err g c = rw c.in-Err.ensures.reallocates.err (longer-stored g.P.Inx.BasePtrInx.number c.self.inside.index c.self.inside.rows.items c.args.self.now c.self.view_is c.self.invariant _ _ c.len.ensures.sound c.add_rows.new.rows.items c.add_rows.ensures.kept c.add_rows.ensures.longer)

pub returns-in-Err-clause-err : goal.returns-in-Err-clause-err
returns-in-Err-clause-err g c = rw c.in-Err.ensures.reallocates.err (longer-view g.P.Inx.BasePtrInx.number c.self.inside.index c.self.inside.rows.items c.args.self.now c.self.view_is c.self.invariant _ _ c.len.ensures.sound c.add_rows.new.rows.items c.add_rows.ensures.kept)
