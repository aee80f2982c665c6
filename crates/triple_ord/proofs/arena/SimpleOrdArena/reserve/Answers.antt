use Rattle.std.proofs.Common.{◌≡◌, ◌+◌, ◌≤◌, ℕ, length, refl, arith, rules}
use Rattle.std.proofs.lemmas.{Bool.Decides.nat_tests, Grind.common_steps}
use Rattle.ord_tree.specs.{PlainArena.capacity_for, Chain.chain_limit}
use Rattle.triple_ord.proofs.Room.{resizing-keeps, resizing-makes, reserved-room, reserved-grown}
use Rattle.triple_ord.proofs.arena.SimpleOrdArena.reserve.Goals as goal

pub returns-clause-entries : goal.returns-clause-entries
returns-clause-entries g c = let call = c.reallocate_min_capacity in
    resizing-keeps c.args.self.now (λ a. a.list.entries) (λ m. refl) call.new.self c.max.result call.result call.ensures.reallocates.ok call.ensures.reallocates.err

pub returns-clause-generation : goal.returns-clause-generation
returns-clause-generation g c = let call = c.reallocate_min_capacity in
    resizing-keeps c.args.self.now (λ a. a.list.generation) (λ m. refl) call.new.self c.max.result call.result call.ensures.reallocates.ok call.ensures.reallocates.err

pub returns-clause-maximum : goal.returns-clause-maximum
returns-clause-maximum g c = let call = c.reallocate_min_capacity in
    resizing-keeps c.args.self.now (λ a. a.list.maximum) (λ m. refl) call.new.self c.max.result call.result call.ensures.reallocates.ok call.ensures.reallocates.err

pub returns-clause-shape : goal.returns-clause-shape
returns-clause-shape g c = let call = c.reallocate_min_capacity in
    resizing-keeps c.args.self.now (λ a. a.shape) (λ m. refl) call.new.self c.max.result call.result call.ensures.reallocates.ok call.ensures.reallocates.err

pub returns-clause-room : goal.returns-clause-room
returns-clause-room g c =
    let a = c.args.self.now in
    resizing-makes g.P.Inx.BasePtrInx.most g.P.Gen.BasePtrGen.greatest a c.reallocate_min_capacity.new.self c.max.result c.len.ensures.sound
    (omega (arith, c.if-needed-capacity.false, c.capacity-capacity.ensures.value)) (λ n. length a.list.entries + c.args.additional ≤ n) (omega (arith, c.in-Some.ensures, c.len.ensures.value))
    c.reallocate_min_capacity.result c.reallocate_min_capacity.ensures.reallocates.ok

pub returns-clause-capacity : goal.returns-clause-capacity
returns-clause-capacity g c =
    let a = c.args.self.now in
    let limit : ℕ = chain_limit g.P.Inx.BasePtrInx.most a.list in
    let sum : c.in-Some.needed ≡ length a.list.entries + c.args.additional = omega (arith, c.in-Some.ensures, c.len.ensures.value) in
    resizing-makes g.P.Inx.BasePtrInx.most g.P.Gen.BasePtrGen.greatest a c.reallocate_min_capacity.new.self c.max.result c.len.ensures.sound
    (omega (arith, c.if-needed-capacity.false, c.capacity-capacity.ensures.value)) (λ n. n ≡ capacity_for limit a.list.capacity (length a.list.entries + c.args.additional))
    (grind (arith, nat_tests, sum)) c.reallocate_min_capacity.result c.reallocate_min_capacity.ensures.reallocates.ok

pub returns-then-needed-capacity-clause-reallocates : goal.returns-then-needed-capacity-clause-reallocates
returns-then-needed-capacity-clause-reallocates g c =
    let a = c.args.self.now in
    record {
      ok = reserved-room g.P.Inx.BasePtrInx.most a (length a.list.entries + c.args.additional)
          (omega (arith, c.if-needed-capacity.true, c.capacity-capacity.ensures.value, c.in-Some.ensures, c.len.ensures.value));
      beyond = grind (arith, common_steps);
      memory = search rules;
      err = search rules;
    }

pub returns-clause-reallocates : goal.returns-clause-reallocates
returns-clause-reallocates g c =
    let a = c.args.self.now in
    let sum : c.in-Some.needed ≡ length a.list.entries + c.args.additional = omega (arith, c.in-Some.ensures, c.len.ensures.value) in
    record {
      ok = reserved-grown g.P.Inx.BasePtrInx.most g.P.Gen.BasePtrGen.greatest a c.reallocate_min_capacity.new.self c.max.result (length a.list.entries + c.args.additional) c.len.ensures.sound
          (omega (arith, c.if-needed-capacity.false, c.capacity-capacity.ensures.value, sum)) (grind (arith, sum)) c.reallocate_min_capacity.result c.reallocate_min_capacity.ensures.reallocates.ok;
      beyond = grind (arith, common_steps);
      memory = grind (arith, common_steps);
      err = c.reallocate_min_capacity.ensures.reallocates.err;
    }
