-- Where the gate behind the last commit is.
use Rattle.std.proofs.Common.{◌≡◌, ◌≢◌, ◌↔◌, ◌+◌, ◌*◌, ◌^◌, ◌-◌, ◌<◌, ◌≤◌, ℕ, min, List, length, slice_index, Bool, IsTrue, sym, subst, inl, inr, arith}
use Rattle.sqlite_wal.specs.Format.{IsSigned}
use Rattle.sqlite_wal.specs.Recovery.{frames_len, frame_at, header, Replays}
use Rattle.sqlite_wal.proofs.RecoveryLemmas.{committed_within, replays_once}
use Rattle.log_check.specs.LogEnd.{HasClosedGate, IsWhole}

-- the frames that recovery takes are in the file
taken_within : (size k : ℕ) (log : List ℕ) → Replays size log k → 32 ≤ length log → 32 + k * (24 + size) ≤ length log
unfolding frames_len
taken_within size k log (inl none) long = rw none.1 (omega arith)
taken_within size k log (inr some) long = committed_within size log k some.0

-- the gate as it is computed, which saturates, has what the gate has
same_gate : (at most : ℕ) (log : List ℕ) → length log ≤ most → HasClosedGate (min at most) log ↔ HasClosedGate at log
same_gate at most log long = (
  λ h. let here : min at most ≡ at = omega (arith, h.present) in subst (λ (n : ℕ). HasClosedGate n log) here h,
  λ h. let here : at ≡ min at most = omega (arith, h.present) in subst (λ (n : ℕ). HasClosedGate n log) here h,
)

-- the place of the gate behind k frames
gate_at : (size k : ℕ) (log : List ℕ) → Replays size log k → 32 ≤ length log → length log < 2 ^ 64
    → min (min (k * (24 + size)) (2 ^ 64 - 1) + 40) (2 ^ 64 - 1) ≡ min (frame_at size k + 8) (2 ^ 64 - 1)
unfolding frames_len
gate_at size k log taken long fits = omega (arith, taken_within size k log taken long)

-- a log with a header is whole if and only if the gate behind its last commit is closed
pub whole_by_gate : (size k : ℕ) (log : List ℕ) (is : Bool) → slice_index log 0 ≢ 0 → 32 ≤ length log → IsSigned (header log) → length log < 2 ^ 64
    → Replays size log k → (IsTrue is ↔ HasClosedGate (min (min (k * (24 + size)) (2 ^ 64 - 1) + 40) (2 ^ 64 - 1)) log)
    → IsTrue is ↔ IsWhole size log
whole_by_gate size k log is some long signed fits taken gate =
    let here = gate_at size k log taken long fits in
    let same = same_gate (frame_at size k + 8) (2 ^ 64 - 1) log (omega arith) in (
      λ yes. inr (
        k,
        record {
          long = long;
          signed = signed;
          taken = taken;
          gate = same.0 (subst (λ (n : ℕ). HasClosedGate n log) here (gate.0 yes));
        },
      ),
      λ whole. elim whole [
        | inl none ↦ absurd (some none)
        | inr ends ↦
            let at = replays_once size log ends.0 k ends.1.taken taken in
            let closed = subst (λ (j : ℕ). HasClosedGate (frame_at size j + 8) log) at ends.1.gate in
            gate.1 (subst (λ (n : ℕ). HasClosedGate n log) (sym here) (same.1 closed))
      ],
    )
