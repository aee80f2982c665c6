use Rattle.std.proofs.Common.{◌≡◌, ◌≤◌, ◌+◌, ◌-◌, vec_len}
use Rattle.std.specs.Io.KnownBytes.{Consumes}
use Rattle.ord_script.specs.Devices.{limit}
use Rattle.ord_script.proofs.reading.read_all.Given as goal

-- the bytes so far were taken from the reader, and there was no error and no end yet
abbrev pub invariant-loop-reader : goal.invariant-loop-reader
invariant-loop-reader g l =
    let remaining = g.R.Read.remaining in
    record {
      taken : Consumes (remaining l.fn.reader.device) (remaining l.reader.device) l.bytes.items;
      bound : vec_len l.bytes ≤ limit + 1;
      failed : l.reader.failed ≡ l.fn.reader.failed;
      ended : l.reader.ended ≡ l.fn.reader.ended;
    }

abbrev pub decreases-loop-reader : goal.decreases-loop-reader
decreases-loop-reader g l = limit + 1 - vec_len l.bytes
