use Rattle.std.proofs.Common.{ℕ, rules, sym, ◌∙◌, ap, ap₂}
use Rattle.sqlite_wal.specs.Format.{checksum, is_big}
use Rattle.sqlite_wal.proofs.FormatLemmas.{same_sums, part_front}
use Rattle.log_check.proofs.header.is_signed.Goals as goal

pub returns : goal.returns
returns c =
    let decides = same_sums _ _ _ c.eq.ensures in
    let head = c.args.head.now in
    let ours = ap (checksum (is_big head) (0, 0)) (part_front head 24) ∙ sym c.checksum_of-sum.ensures in
    let pair : ℕ → ℕ → ℕ × ℕ = λ x y. (x, y) in
    let stored = ap₂ pair c.number_at.ensures c.number_at-2.ensures in (
      λ same. record {
        first = c.if-head-ne55.false;
        second = c.if-head-ne127.false;
        third = c.if-head-ne6.false;
        fourth = search rules;
        sum = ours ∙ decides.0 same ∙ stored;
      },
      λ signed. decides.1 (sym ours ∙ signed.sum ∙ sym stored),
    )
