use Rattle.std.proofs.Common.{rules}
use Rattle.ord_script.proofs.Answered.{answered}
use Rattle.ord_script.proofs.serving.replies_to.Goals as goal

pub returns : goal.returns
returns g c =
    answered _ _ (λ f p pair o h call. search rules) c.args.commands.items c.new-arena.result _ c.run.new.arena _ c.new-arena.ensures _ (λ pair. search rules) c.run.result (λ replies. replies.items) c.run.ensures.run
