use Rattle.ord_script.proofs.ScriptTexts.{script_of-text}
use Rattle.ord_script.proofs.laws.script_text_law.Goals as goal

pub returns : goal.returns
returns c = script_of-text
