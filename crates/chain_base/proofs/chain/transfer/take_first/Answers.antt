use Rattle.std.proofs.Common.{sym, ap, ◌∙◌, refl, option_map}
use Rattle.arena_base.specs.Invalidation.{valid_value}
use Rattle.chain_base.specs.Chain.{link_at, removed}
use Rattle.chain_base.proofs.Transferring.{takes-first, on_taken, item-numbered}
use Rattle.chain_base.proofs.chain.transfer.take_first.Goals as goal

pub returns : goal.returns
returns g c =
    let r = c.remove_inx_link_no_gen in
    let old = c.args.source.now in
    let era = g.Q.Gen.BasePtrGen.greatest in
    let gone = valid_value r.result in
    let shown = sym c.item_taken-taken.ensures.value ∙ c.unwrap.ensures.value in
    takes-first g.Q.BasePtr.numbers era old r.new.self c.unwrap-from.result c.unwrap.result
    (ap (option_map g.Q.BasePtr.numbers) (sym c.unwrap-from.ensures) ∙ c.first.ensures)
    (sym shown ∙ sym (item-numbered g.Q.Gen.BasePtrGen.number gone) ∙ ap (option_map (λ e. e.1.item)) r.ensures.value ∙ ap (λ i. option_map (λ e. e.1.item) (link_at old.entries i)) c.inx.ensures)
    (c.unwrap.ensures.overflow ∙ c.item_taken-taken.ensures.overflow ∙ on_taken _ _ gone _ shown r.ensures.overflow)
    (on_taken _ _ gone _ shown r.ensures.removed ∙ ap (removed era old) c.inx.ensures) _ refl
