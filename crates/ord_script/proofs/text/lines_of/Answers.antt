use Rattle.std.proofs.Common.{◌≡◌, ◌++◌, ◌⊎◌, inl, inr, List, [], ◌∷◌, string_bytes, refl, sym, ◌∙◌, ap, append-nil}
use Rattle.std.proofs.{Common.arith, lemmas.Grind.common_steps, lemmas.Slice.Zip.either_empty_from_Zip}
use Rattle.std.specs.{Iterator.Adapters.zip_first, Iterator.Adapters.zip_second, Slice.Iter.iter_rest}
use Rattle.ord_script.specs.{declared.form.Form.Form, Text.reply_lines, Pairs.PairReply}
use Rattle.ord_script.proofs.text.lines_of.Goals as goal

-- no line is left if the forms or the replies have ended
reply_lines_none : {A : Type 0} (forms : List Form) (replies : List (PairReply A)) → (forms ≡ []) ⊎ (replies ≡ []) → reply_lines forms replies ≡ []
reply_lines_none [] replies ended = refl
reply_lines_none (f ∷ forms) [] ended = refl
reply_lines_none (f ∷ forms) (r ∷ replies) (inl none) = cc
reply_lines_none (f ∷ forms) (r ∷ replies) (inr none) = cc

pub returns : goal.returns
returns g c =
    let left = c.loop-form.form-iterator in
    let none = reply_lines_none (iter_rest (zip_first left)) (iter_rest (zip_second left)) (either_empty_from_Zip left c.next.new.self c.next.result c.in-None.is c.next.ensures.steps) in
    sym (append-nil (string_bytes c.loop-form.text)) ∙ ap (λ lines. string_bytes c.loop-form.text ++ lines) (sym none) ∙ c.loop-form.invariant

pub loop-form-preserved : goal.loop-form-preserved
loop-form-preserved g c = grind (arith, common_steps)
