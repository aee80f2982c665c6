use Rattle.ord_tree.proofs.Grown.{CanPutAt-sided, put_at-sided}
use Rattle.ord_tree.proofs.tree.OrdTree.insert_reserved.Goals as goal

pub put_reserved-requires : goal.put_reserved-requires
put_reserved-requires g c = record {
  place = rw c.sided.ensures (CanPutAt-sided g.P.Inx.BasePtrInx.number c.args.at c.args.self.now.list c.requires.place);
  vacant = c.requires.vacant;
}

pub returns : goal.returns
returns g c =
    let number = g.P.Inx.BasePtrInx.number in
    let put = c.put_reserved.ensures in
    record { inserted = rw (c.sided.ensures, put_at-sided number c.args.at c.args.self.now.list c.requires.place) at put.inserted; grown = put.grown }
