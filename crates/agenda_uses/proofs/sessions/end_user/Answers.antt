use Rattle.std.proofs.Common.{rules}
use Rattle.std.proofs.lemmas.Fn.{filter_same}
use Rattle.agenda_uses.proofs.sessions.end_user.Goals as goal

pub returns : goal.returns
returns c = record { left = filter_same _ _ _ (λ e answer next told. search rules) _ _ c.retain.ensures.filtered }
