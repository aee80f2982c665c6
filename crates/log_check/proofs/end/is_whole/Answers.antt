use Rattle.std.proofs.Common.{◌≡◌, ◌≢◌, ◌↔◌, ◌<◌, ◌≤◌, ◌^◌, ◌+◌, ◌*◌, ◌-◌, ℕ, min, length, slice_index, IsTrue, ◌∙◌, subst, rules}
use Rattle.std.proofs.lemmas.Result.{IfOk-weaker}
use Rattle.sqlite_wal.specs.Format.{IsSigned}
use Rattle.sqlite_wal.specs.PageSize.{bytes_of}
use Rattle.sqlite_wal.specs.Recovery.{header, Replays}
use Rattle.log_check.specs.LogEnd.{HasClosedGate}
use Rattle.log_check.proofs.LogEndLemmas.{whole_by_gate}
use Rattle.log_check.proofs.end.is_whole.Goals as goal

pub returns-clause-value : goal.returns-clause-value
returns-clause-value g c = IfOk-weaker c.has_closed_gate.result _ _ (λ whole told clean.
    let probed = c.has_closed_gate.ensures.same.clean clean in
    let looked = c.probe_frames.ensures.same.clean probed in
    let begun = c.has_header.ensures.same.clean looked in
    let log = g.D.Disk.seen c.args.log.now in
    let size = bytes_of c.args.size in
    let k = length c.in_ok-probe_frames.field-0.items in
    let one = c.byte_at.ensures.same.seen in
    let two = c.has_header.ensures.same.seen ∙ one in
    let three = c.probe_frames.ensures.same.seen ∙ two in
    let some : slice_index log 0 ≢ 0 = λ none. c.if-branch-eq0.false (c.in_ok-byte_at.ensures.value begun ∙ none) in
    let head : IsTrue c.in_ok-has_header.field-0 ↔ ((32 ≤ length log) × IsSigned (header log)) = rw one at (c.in_ok-has_header.ensures.value looked) in
    let both = head.0 (search rules) in
    let fits : length log < 2 ^ 64 = rw one at (c.in_ok-has_header.ensures.sized looked) in
    let taken : Replays size log k = rw two at (c.in_ok-probe_frames.ensures.ok probed).0 in
    let frames : c.len-frames.result ≡ k = search rules in
    let gate : c.saturating_add.result ≡ min (min (k * (24 + size)) (2 ^ 64 - 1) + 40) (2 ^ 64 - 1) = rw (← c.bytes.ensures.value, ← frames, ← c.saturating_mul-len.ensures) c.saturating_add.ensures in
    whole_by_gate size k log whole some both.0 both.1 fits taken (subst (λ (n : ℕ). IsTrue whole ↔ HasClosedGate n log) gate (rw three at (told clean))))
    c.has_closed_gate.ensures.value
