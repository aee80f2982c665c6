-- Keys stay in order along a run.
use Rattle.std.proofs.Common.{[], ◌∷◌, sym, subst}
use Rattle.triple_ord.specs.{Order.IsInOrder}
use Rattle.ord_machine.specs.{Machine.Calls, Machine.State, InOrder.OrderedKeysLaw}
use Rattle.ord_machine.proofs.Outcomes.{outcome}

pub ordered_keys : (P T I G A K : Type 0) {F : Type 0} (calls : Calls T F) → OrderedKeysLaw P T I G A K calls
ordered_keys P T I G A K calls r old new f g [] [] total lawful order keep run = subst (λ (s : State T). IsInOrder r.key r.cmp s.tree.list.entries) (sym run.0) order
ordered_keys P T I G A K calls r old new f g (c ∷ asked) (q ∷ told) total lawful order keep run =
    let mid = run.0 in
    let next = (outcome r old mid.tree calls f c q run.1 run.2.does).ordered total lawful.distinct keep.0 order in
    ordered_keys P T I G A K calls r mid new run.1 g asked told total run.2.lawful next keep.1 run.3
ordered_keys P T I G A K calls r old new f g asked told total lawful order keep run = absurd run
