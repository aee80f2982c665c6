use Rattle.std.proofs.Common.{◌≡◌, ℕ, ◌+◌, ◌<◌, List, [], ◌∷◌, ◌++◌, length, Option, Result, Ok, Err, IsOk, IsErr, refl, sym, ap, ◌∙◌, append_assoc, append-nil, arith, length-append, rules}
use Rattle.std.specs.Io.KnownBytes.{Appends}
use Rattle.ord_script.specs.Devices.{WritesAll}
use Rattle.ord_script.proofs.KnownBytes.{Appends-append}
use Rattle.ord_script.proofs.writing.write_line.Goals as goal

-- a text that wasn't written whole, with more behind it
unfinished : {E : Type 0} (r failed : Result (Unit {0}) E) (before after : Option (List ℕ)) (text more : List ℕ) → IsErr r → IsErr failed
    → WritesAll r before after text → WritesAll failed before after (text ++ more)
unfinished (Err e) (Err f) before after text more _ _ w = record {
  written = w.written;
  rest = w.rest ++ more;
  appends = w.appends;
  parts = ap (λ (t : List ℕ). t ++ more) w.parts ∙ append_assoc w.written w.rest more;
  whole = omega (arith, w.whole, length-append w.rest more);
}
unfinished (Ok u) failed before after text more bad _ w = absurd cc
unfinished (Err e) (Ok u) before after text more _ bad w = absurd cc

-- two texts, of which the first was written whole
finished : {E : Type 0} (r result : Result (Unit {0}) E) (before mid after : Option (List ℕ)) (text more : List ℕ) → IsOk r
    → WritesAll r before mid text → WritesAll result mid after more → WritesAll result before after (text ++ more)
finished (Ok u) result before mid after text more _ v w =
    let all : text ≡ v.written = v.parts ∙ ap (λ (t : List ℕ). v.written ++ t) v.whole ∙ append-nil v.written in
    record {
      written = text ++ w.written;
      rest = w.rest;
      appends = Appends-append before mid after text w.written (rw all v.appends) w.appends;
      parts = ap (λ (t : List ℕ). text ++ t) w.parts ∙ sym (append_assoc text w.written w.rest);
      whole = w.whole;
    }
finished (Err e) result before mid after text more bad v w = absurd cc

pub returns-in_err-write_all-clause-bytes : goal.returns-in_err-write_all-clause-bytes
returns-in_err-write_all-clause-bytes g c =
    unfinished c.write_all.result c.from_residual.result _ _ _ (10 ∷ []) (rw c.in_err-write_all.was refl) (search rules)
    (rw c.as_bytes.ensures.value at c.write_all.ensures.bytes)

pub returns-clause-bytes : goal.returns-clause-bytes
returns-clause-bytes g c =
    finished c.write_all.result c.write_all-2.result _ _ _ _ _ (rw c.in_ok-write_all.was refl) (rw c.as_bytes.ensures.value at c.write_all.ensures.bytes) c.write_all-2.ensures.bytes
