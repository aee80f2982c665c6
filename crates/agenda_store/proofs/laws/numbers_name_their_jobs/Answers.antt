use Rattle.agenda_store.proofs.Naming as naming
use Rattle.agenda_store.proofs.laws.numbers_name_their_jobs.Goals as goal

pub returns : goal.returns
returns c = naming.numbers_name_their_jobs
