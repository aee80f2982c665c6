use Rattle.std.proofs.Common.{◌≡◌, ◌+◌, ◌<◌, None, length, is_some, true, sym, ap, ◌∙◌, rules, arith, subst, option_map}
use Rattle.chain_base.specs.{Chain.entry_at, Chain.first_or, Exchange.exchanged, Walk.index_after}
use Rattle.chain_base.proofs.Canonical.{canonical-begins, canonical-even, canonical-step, canonical-ends, met-at, met-occurs, next-occurs, occurs-entry, chosen, chosen-is}
use Rattle.chain_base.proofs.chain.ChainArena.compress_canonical.Goals as goal

pub loop-position-init : goal.loop-position-init
loop-position-init g c =
    canonical-begins g.P.Inx.BasePtrInx.most g.P.Gen.BasePtrGen.greatest c.args.self.now c.compress-overflow.new.self _ _ c.len-len.ensures.sound c.compress-overflow.ensures.after
    (c.self.invariant.first_is ∙ ap (λ v. first_or None v.entries) c.self.view_is)

pub unwrap-requires : goal.unwrap-requires
unwrap-requires g c = chosen g.P.Inx.BasePtrInx.number c.loop-position.at _ (met-at c.loop-position.invariant (omega (arith, c.len-len.ensures.value)))

pub exchange-requires : goal.exchange-requires
exchange-requires g c =
    let at = c.loop-position in
    let more : at.position < length c.args.self.now.entries = omega (arith, c.len-len.ensures.value) in
    let same = chosen-is g.P.Inx.BasePtrInx.number at.at _ c.unwrap.result (met-at at.invariant more) c.unwrap.ensures in
    let next : g.P.Inx.BasePtrInx.number c.unwrap-index.result ≡ at.position + 1 = search rules in
    record {
      first = subst (λ k. is_some (entry_at at.self.entries k) ≡ true) (sym same) (occurs-entry at.self.entries _ (met-occurs at.invariant more));
      second = subst (λ k. is_some (entry_at at.self.entries k) ≡ true) (sym next) (occurs-entry at.self.entries _ (next-occurs at.invariant more));
      even = canonical-even at.invariant;
    }

pub loop-position-preserved : goal.loop-position-preserved
loop-position-preserved g c =
    let at = c.loop-position in
    let more : at.position < length c.args.self.now.entries = omega (arith, c.len-len.ensures.value) in
    let first = chosen-is g.P.Inx.BasePtrInx.number at.at _ c.unwrap.result (met-at at.invariant more) c.unwrap.ensures in
    let second : g.P.Inx.BasePtrInx.number c.unwrap-index.result ≡ at.position + 1 = search rules in
    canonical-step at.invariant more c.exchange.new.self (option_map g.P.Inx.BasePtrInx.number c.next_after-at.result)
    (c.exchange.ensures ∙ (ap (λ k. exchanged at.self k (g.P.Inx.BasePtrInx.number c.unwrap-index.result)) first ∙ ap (exchanged at.self _) second))
    (c.next_after-at.ensures ∙ ap (index_after c.exchange.new.self.entries) second)

pub returns : goal.returns
returns g c = record {
  after =
      canonical-ends g.P.Inx.BasePtrInx.most g.P.Gen.BasePtrGen.greatest c.args.self.now _ c.loop-position.self _ c.loop-position.position c.len-len.ensures.sound (omega (arith, c.len-len.ensures.value)) c.loop-position.invariant;
  overflow = c.compress-overflow.ensures.overflow;
  sound = c.len-len.ensures.sound;
}
