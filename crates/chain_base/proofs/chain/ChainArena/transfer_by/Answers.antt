use Rattle.std.proofs.Common.{max, ap, ◌∙◌, rules}
use Rattle.chain_base.specs.Chain.{Chain}
use Rattle.chain_base.proofs.Transferring.{transferred}
use Rattle.chain_base.proofs.chain.ChainArena.transfer_by.Goals as goal

pub returns : goal.returns
returns g c =
    let raised = c.set_generation.ensures in
    let cleared = c.clear.ensures.after in
    let ok = transferred g.Q.BasePtr.numbers g.P.BasePtr.numbers g.Q.Gen.BasePtrGen.greatest g.M.MapTaken.step _ c.args.map c.take_all.ensures.taken.0 c.args.source.now c.take_all.new.source
    c.reallocate_min_capacity.new.self c.args.self.now c.set_generation.new.self c.take_all.new.chain c.reallocate_min_capacity.result _
    (ap (λ (c : Chain _). c.generation) raised)
    (ap (λ (c : Chain _). c.capacity) raised ∙ ap (λ (c : Chain _). c.capacity) cleared ∙ c.in_ok-raise_capacity.ensures.ok.0 ∙ ap (max c.args.self.now.capacity) c.len.ensures.value)
    (ap (λ (c : Chain _). c.maximum) raised ∙ ap (λ (c : Chain _). c.maximum) cleared ∙ c.in_ok-raise_capacity.ensures.ok.1)
    c.take_all.ensures.taken.1 c.take_all.ensures.all c.unwrap.ensures (rw c.capacity.ensures at c.reallocate_min_capacity.ensures.ok) in
    record { ok = ok; beyond = search rules; memory = search rules; err = search rules }
