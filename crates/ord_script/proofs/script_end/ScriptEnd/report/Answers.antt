use Rattle.std.proofs.Common.{◌≡◌, ◌||◌, ◌==◌, ℕ, List, [], ◌∷◌, ◌++◌, length, Bool, true, false, Option, None, Some, Result, Ok, refl, sym, ap, ◌∙◌, append-nil, arith}
use Rattle.std.proofs.lemmas.Grind.{common_steps}
use Rattle.std.specs.Io.KnownBytes.{Appends}
use Rattle.ord_script.specs.{Devices.WritesAll, Service.line_of, declared.writing.WriteFailed.WriteFailed}
use Rattle.ord_script.proofs.script_end.ScriptEnd.report.Goals as goal

-- a text that isn't empty is a line
line_of-some : (text : List ℕ) → (length text == 0) ≡ false → line_of text ≡ text ++ 10 ∷ []
line_of-some [] some = absurd cc
line_of-some (b ∷ text) some = refl

no_text : (text : List ℕ) → (length text == 0) ≡ true → text ≡ []
no_text [] none = refl
no_text (b ∷ text) none = grind (arith, common_steps)

-- nothing was written
writes-nothing : (contents : Option (List ℕ)) → Appends contents contents []
writes-nothing None = tt
writes-nothing (Some bytes) = sym (append-nil bytes)

or-false : (b : Bool) → b ≡ (b || false)
or-false true = refl
or-false false = refl

pub returns-then-is_empty-clause-message : goal.returns-then-is_empty-clause-message
returns-then-is_empty-clause-message g c =
    let none = sym c.message-message.ensures ∙ no_text c.message-message.result.now (sym c.is_empty.ensures ∙ c.if-is_empty.true) in
    record {
      wrote = Ok tt;
      writes = record { written = []; rest = []; appends = writes-nothing _; parts = ap line_of none; whole = refl };
      failed = or-false c.args.errors.now.failed;
    }

pub returns-clause-message : goal.returns-clause-message
returns-clause-message g c =
    let line = line_of-some c.message-message.result.now (sym c.is_empty.ensures ∙ c.if-is_empty.false) in
    record {
      wrote = c.write_line.result;
      writes = rw (sym line, c.message-message.ensures) at c.write_line.ensures.bytes;
      failed = c.write_line.ensures.failed;
    }

pub returns-clause-quiet : goal.returns-clause-quiet
returns-clause-quiet g c = λ none.
    let empty : c.message-message.result.now ≡ [] = c.message-message.ensures ∙ none in
    let some : (length c.message-message.result.now == 0) ≡ false = sym c.is_empty.ensures ∙ c.if-is_empty.false in
    let never : (length {A = ℕ} [] == 0) ≡ false = rw empty at some in absurd cc
