-- Two quiet calls in a row, and stores that are open.
use Rattle.std.proofs.Common.{◌≡◌, ℕ, arith, inl, inr, refl, Bool, true, false, IsTrue}
use Rattle.sqlite_trees.specs.Tree.{Trees}
use Rattle.sqlite_trees.specs.View.{View, IsQuiet}

pub quiet_then : {S : Type 0} {view : S → View} {faults : S → ℕ} {recovers : S → Trees → Type 0} {is_shielded : S → Type 0} {a b c : S}
    → IsQuiet view faults recovers is_shielded a b → IsQuiet view faults recovers is_shielded b c → IsQuiet view faults recovers is_shielded a c
quiet_then p q = record {
  clean = omega (arith, p.clean, q.clean);
  counts = omega (arith, p.counts, q.counts);
  closes = λ now was. elim (p.closes (omega (arith, q.clean)) was) [
    | inl still ↦ elim (q.closes now still) [ inl open' ↦ inl open' | inr fault ↦ inr (omega (arith, p.counts)) ]
    | inr fault ↦ inr (omega (arith, q.counts))
  ];
  shield = λ h. q.shield (p.shield h);
  outcomes = λ db h. p.outcomes db (q.outcomes db h);
}

-- a store that is not broken is open
pub is_up : (o b : Bool) → b ≡ false → (o ≡ false → IsTrue b) → IsTrue o
is_up true b sound shut = refl
is_up false b sound shut = absurd (let h = shut refl in cc)
