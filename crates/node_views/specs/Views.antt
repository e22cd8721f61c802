-- What a view of a node stands on: the node's kind and the number of its parts.
use Rattle.std.specs.Prelude.{◌≡◌, ℕ, Bool, List, length, slice_index_or}
use Rattle.js_term.specs.Term.{Text, first}
use Rattle.js_term.specs.declared.kind.Kind.{Kind}
use Rattle.js_tree.specs.declared.node.Form.TheVariants as form
use Rattle.js_tree.specs.declared.node.Node.{Node}
use Rattle.js_tree.specs.Parts.{hole, kids, texts_of, top}
use Rattle.js_tree.specs.Words.{is_set, words_of}
use Rattle.js_tree.specs.declared.word.Word.{Word}
use Rattle.js_tree.specs.declared.word.Word.TheVariants as word

-- a node of the kind, with so many parts
pub record IsOf (k : Kind) (count : ℕ) (n : Node) : Type 0 where
  pub of_kind : (top n).form ≡ form.Node k
  pub of_count : length (kids n) ≡ count

-- the part numbered k
abbrev pub part_at : ℕ → Node → Node
part_at k n = slice_index_or (kids n) k hole

-- the items of the part numbered k, where that is a list
abbrev pub items_at : ℕ → Node → List Node
items_at k n = kids (part_at k n)

-- the word numbered k among the texts
abbrev pub word_at : ℕ → Node → Word
word_at k n = slice_index_or (words_of (texts_of n)) k word.Unset

abbrev pub flag_at : ℕ → Node → Bool
flag_at k n = is_set (word_at k n)

-- the first text, or none
abbrev pub text_of : Node → Text
text_of n = first (top n).texts
