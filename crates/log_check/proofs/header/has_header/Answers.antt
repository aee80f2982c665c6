use Rattle.std.proofs.Common.{◌≡◌, length, sym, subst, rules, arith}
use Rattle.sqlite_wal.specs.Format.{IsSigned}
use Rattle.sqlite_wal.specs.Recovery.{header}
use Rattle.sqlite_wal.proofs.PartLemmas.{held_is_part}
use Rattle.log_check.proofs.header.has_header.Goals as goal

pub returns-clause-value : goal.returns-clause-value
returns-clause-value g c clean =
    let log = g.D.Disk.seen c.args.log.now in
    let len : length c.read_at.new.buf ≡ 32 = search rules in
    let head : header log ≡ c.read_at.new.buf = held_is_part log _ 0 32 (rw (← c.len.ensures.seen) (c.in_ok-read_at.ensures.read clean (omega arith))) len in
    let size = c.in_ok-len.ensures.len (c.read_at.ensures.clean clean) in (
      λ signed. (omega (arith, size, c.if-branch-lt-HEADER.false), subst IsSigned (sym head) (c.is_signed.ensures.0 signed)),
      λ both. c.is_signed.ensures.1 (subst IsSigned head both.1),
    )
