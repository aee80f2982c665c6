use Rattle.ord_script.proofs.Spelled.{command_text}
use Rattle.ord_script.proofs.laws.command_text_law.Goals as goal

pub returns : goal.returns
returns c = command_text
