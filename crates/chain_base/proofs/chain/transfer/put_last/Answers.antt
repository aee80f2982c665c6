use Rattle.std.proofs.Common.{◌∙◌}
use Rattle.chain_base.proofs.Transferring.{can_place-behind, placed-behind, filled-more, has-room}
use Rattle.chain_base.proofs.chain.transfer.put_last.Goals as goal

pub insert_within_capacity-requires : goal.insert_within_capacity-requires
insert_within_capacity-requires g c =
    let r = c.requires in
    rw (r.2, c.kind_behind.ensures) (can_place-behind g.row.P.Denot g.row.P-Gen.Denot g.P.Inx.BasePtrInx.number c.args.last r.0 r.1 r.4)

pub unwrap-requires : goal.unwrap-requires
unwrap-requires g c =
    let r = c.requires in
    has-room _ r.0 r.1 r.3 (λ refused. rw r.2 at c.insert_within_capacity.ensures.refused.full.0 refused)

pub returns : goal.returns
returns g c = λ d items is less last.
    let put = rw (c.unwrap.ensures, is, c.kind_behind.ensures) at c.insert_within_capacity.ensures.ok in
    put.after ∙ filled-more d items c.args.item _ less (λ new. placed-behind g.row.P.Denot g.row.P-Gen.Denot g.P.Inx.BasePtrInx.number c.args.last d.generation items new last)
