use Rattle.std.proofs.Common.{◌++◌, ◌≤◌, Option, List, ℕ, Err, length, length-append, append-nil, arith}
use Rattle.std.proofs.lemmas.{Result.err_from_is_err_and, Grind.common_steps}
use Rattle.std.specs.Io.KnownBytes.{Consumes}
use Rattle.ord_script.specs.declared.reading.ReadError.TheVariants.{TooLong, Memory, Failed}
use Rattle.ord_script.specs.{Devices.limit, Devices.ReadsSome, Devices.ReadsAll, declared.reading.ReadError.ReadError}
use Rattle.ord_script.proofs.KnownBytes.{Consumes-append}
use Rattle.ord_script.proofs.reading.read_all.Goals as goal

-- a read that fails ends the whole read
module _ (first before after : Option (List ℕ)) (bytes new : List ℕ) (so_far : Consumes first before bytes) (short : length bytes ≤ limit) where
  ends : (e : ReadError) → ReadsSome (Err e) before after bytes new → ReadsAll (Err e) first after
  ends TooLong some = absurd some.piece
  ends Memory some = record {
    taken = bytes ++ some.taken;
    consumes = Consumes-append _ _ _ _ _ so_far some.consumes;
    input = simp length-append some.piece;
  }
  ends Failed some = record {
    taken = bytes ++ some.taken;
    consumes = Consumes-append _ _ _ _ _ so_far some.consumes;
    input = rw (some.piece, append-nil) short;
  }

pub returns-in_err-read_some-clause-bytes : goal.returns-in_err-read_some-clause-bytes
returns-in_err-read_some-clause-bytes g c =
    let p = err_from_is_err_and c.from_residual.result c.from_residual.ensures.1 in
    let short : length c.loop-reader.bytes.items ≤ limit = omega (arith, c.loop-reader.bytes.ok.0) in
    let some = c.in_err-read_some.ensures.bytes in
    rw (p.1) (rw (p.2) (ends _ _ _ c.loop-reader.bytes.items c.read_some.new.bytes.items c.loop-reader.invariant.taken short _ some))

pub returns-clause-bytes : goal.returns-clause-bytes
returns-clause-bytes g c = grind (arith, common_steps)
