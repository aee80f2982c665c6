use Rattle.std.proofs.Common.{◌≡◌, ◌==◌, ◌∙◌, ℕ, List, [], ◌∷◌, true, length, sym, arith}
use Rattle.std.proofs.lemmas.Grind.{common_steps}
use Rattle.std.proofs.lemmas.Str.{chars-nil}
use Rattle.tree_picture.specs.Text.{shortened_text}
use Rattle.tree_picture.proofs.key_text.shortened.Goals as goal

-- the empty text is not cut
shortened-empty : (most : ℕ) (text : List ℕ) → true ≡ (length text == 0) → shortened_text most text ≡ []
shortened-empty most [] empty = rw chars-nil (grind (arith, common_steps))
shortened-empty most (x ∷ xs) empty = absurd (grind (arith, common_steps, empty))

pub returns-then-is_empty-clause-value : goal.returns-then-is_empty-clause-value
returns-then-is_empty-clause-value g c = c.new.ensures.bytes ∙ sym (shortened-empty c.args.most c.args.text.now c.if-is_empty.ensures)
