use Rattle.std.proofs.Common.{◌≡◌, drop}
use Rattle.ord_script.specs.Commands.{all_words, word_in}
use Rattle.ord_script.proofs.word.word_in.Given as goal

-- the text is not that of a word so far
abbrev pub invariant-loop-word : goal.invariant-loop-word
invariant-loop-word l = word_in (drop l.word-index l.word-items) l.text ≡ word_in all_words l.text
