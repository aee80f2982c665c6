use Rattle.std.proofs.Common.{arith}
use Rattle.sqlite_wal.specs.Format.{be32}
use Rattle.log_check.proofs.header.number_at.Goals as goal

pub returns : goal.returns
unfolding be32
returns c = omega arith
