use Rattle.agenda_store.proofs.Numbers as numbers
use Rattle.agenda_store.proofs.laws.numbers_are_new.Goals as goal

pub returns : goal.returns
returns c = numbers.numbers_are_new
