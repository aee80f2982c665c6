use Rattle.ord_script.proofs.FirstRankText.{first_rank_text}
use Rattle.ord_script.proofs.laws.first_rank_text_law.Goals as goal

pub returns : goal.returns
returns g c = first_rank_text _
