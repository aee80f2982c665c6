use Rattle.triple_ord.proofs.arena.recast.SimpleOrdArenaRecast.recast.Goals.{then-contains_inx+in_ok-recast_at, else-contains_inx}
use Rattle.triple_ord.proofs.Words.{[], refl, ◌≡◌, ◌+◌, ◌≤◌, Err, is_some, sym, ap, ◌∙◌, rules, arith}
use Rattle.triple_ord.proofs.Content.{recast-vacant, recast-next, recast-failed, recast-ends, vacant_of}
use Rattle.triple_ord.specs.Arena.{entry_at}
use Rattle.triple_ord.proofs.arena.recast.SimpleOrdArenaRecast.recast.Goals as goal

pub loop-position-init : goal.loop-position-init
loop-position-init g c = record { recast = []; split = refl; calls = refl; kept = λ k. refl }

pub returns-in_err-recast_at : goal.returns-in_err-recast_at
returns-in_err-recast_at g c =
    let at = c.loop-position in let i = at.position + 1 in
    let named : g.P.Inx.BasePtrInx.number c.unwrap-i.result ≡ i = rw c.unwrap-i.ensures at c.try_from_usize.ensures.value in
    let within : i ≤ c.args.self.now.list.capacity = omega arith in
    let same : c.from_residual.result ≡ Err c.in_err-recast_at.field-0.0 = search rules in
    rw same (recast-failed _ _ _ _ c.capacity-capacity.ensures.sound _ i at.invariant within _ _ (rw named at c.in_err-recast_at.ensures))

pub loop-position-preserved : goal.loop-position-preserved
loop-position-preserved g c =
    let at = c.loop-position in let i = at.position + 1 in
    let named : g.P.Inx.BasePtrInx.number c.unwrap-i.result ≡ i = rw c.unwrap-i.ensures at c.try_from_usize.ensures.value in
    let within : i ≤ c.args.self.now.list.capacity = omega arith in
    elim c.if-contains_inx.branch [
      | then-contains_inx+in_ok-recast_at w ↦
          rw w.self-is (recast-next _ _ _ _ c.capacity-capacity.ensures.sound _ i at.invariant within _ (rw named at w.in_ok-recast_at.ensures))
      | else-contains_inx w ↦
          let none = ap (λ n. is_some (entry_at at.self n)) (sym named) ∙ (sym c.contains_inx.ensures ∙ w.if-contains_inx.false) in
          rw w.self-is (recast-vacant _ _ _ _ c.capacity-capacity.ensures.sound _ i at.invariant within (vacant_of (entry_at at.self i) none))
    ]

pub returns : goal.returns
returns g c = recast-ends _ _ _ _ c.loop-position.invariant (omega arith)
