-- Words as the texts of a term.
use Rattle.std.proofs.Common.{◌≡◌, refl, Bool, true, false, cond}
use Rattle.js_term.specs.Term.{flag}
use Rattle.js_term.specs.Node.{truth}
use Rattle.js_tree.specs.Words.{word_text}
use Rattle.js_tree.specs.declared.word.Word.{Word}
use Rattle.js_tree.specs.declared.word.Word.TheVariants as word

pub flag_word : (b : Bool) (w : Word) → word_text (cond b w word.Unset) ≡ flag b (word_text w)
flag_word true w = refl
flag_word false w = refl

pub truth_word : (b : Bool) → word_text (cond b word.True word.False) ≡ truth b
truth_word true = refl
truth_word false = refl
