use Rattle.std.proofs.Common.{◌≡◌, ◌+◌, false, bytes_eq, get_or, drop, refl, ◌∙◌, arith, rules}
use Rattle.std.proofs.lemmas.List.{drop_more}
use Rattle.ord_script.specs.{Commands.all_words, Commands.word_text, Commands.word_in, declared.word.Word.TheVariants.Insert}
use Rattle.ord_script.proofs.word.word_in.Goals as goal

pub loop-word-preserved : goal.loop-word-preserved
loop-word-preserved c =
    let text = c.args.text.now in
    let i = c.loop-word.word-index in
    let other : bytes_eq text (word_text (get_or all_words i Insert)) ≡ false = search rules in
    let skipped : word_in (drop (i + 1) all_words) text ≡ word_in (drop i all_words) text =
    rw (drop_more all_words i Insert (omega arith)) (rw other refl) in
    skipped ∙ c.loop-word.invariant
