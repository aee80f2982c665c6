use Rattle.std.proofs.Common.{rules}
use Rattle.arena_c.proofs.insert.topscedar_arena_insert.Goals as goal

pub returns-in-Err-default-AllocError-clause-inserts : goal.returns-in-Err-default-AllocError-clause-inserts
returns-in-Err-default-AllocError-clause-inserts c = record { arena = search rules; updates = search rules; memory = search rules; kept = search rules }
