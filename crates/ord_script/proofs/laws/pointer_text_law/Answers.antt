use Rattle.ord_script.proofs.NumberTexts.{pointer_of-text}
use Rattle.ord_script.proofs.laws.pointer_text_law.Goals as goal

pub returns : goal.returns
returns c = pointer_of-text
