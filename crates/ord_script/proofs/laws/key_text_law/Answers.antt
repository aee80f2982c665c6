use Rattle.ord_script.proofs.NumberTexts.{key_of-text}
use Rattle.ord_script.proofs.laws.key_text_law.Goals as goal

pub returns : goal.returns
returns c = key_of-text
