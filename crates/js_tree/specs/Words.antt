-- The words that stand among the texts of a node (ECMAScript, sections 12.8, 13 and 15), and the letters of the flags
-- of a regular expression.
use Rattle.std.specs.Prelude.{ℕ, Bool, false, true, List, [], ◌∷◌, ◌++◌, codes, nat_eq, bit_and}
use Rattle.js_term.specs.Term.{Text, flag}
use Rattle.js_chars.specs.declared.flags.RegExpFlags.{RegExpFlags}
use Rattle.js_tree.specs.declared.word.Word.{Word}
use Rattle.js_tree.specs.declared.word.Word.TheVariants as word
use Rattle.js_tree.specs.declared.statements.VariableDeclarationKind.{VariableDeclarationKind}
use Rattle.js_tree.specs.declared.statements.VariableDeclarationKind.TheVariants as variables
use Rattle.js_tree.specs.declared.texts.Texts.{Texts}
use Rattle.js_tree.specs.declared.texts.Texts.TheVariants as texts

abbrev pub word_text : Word → Text
word_text word.Unset = []
word_text word.True = codes "true"
word_text word.False = codes "false"
word_text word.Var = codes "var"
word_text word.Let = codes "let"
word_text word.Const = codes "const"
word_text word.Constructor = codes "constructor"
word_text word.Method = codes "method"
word_text word.Init = codes "init"
word_text word.Get = codes "get"
word_text word.Set = codes "set"
word_text word.Async = codes "async"
word_text word.Await = codes "await"
word_text word.Computed = codes "computed"
word_text word.Static = codes "static"
word_text word.Shorthand = codes "shorthand"
word_text word.Prefix = codes "prefix"
word_text word.Optional = codes "?."
word_text word.Assign = codes "="
word_text word.PlusAssign = codes "+="
word_text word.MinusAssign = codes "-="
word_text word.StarAssign = codes "*="
word_text word.SlashAssign = codes "/="
word_text word.PercentAssign = codes "%="
word_text word.StarStarAssign = codes "**="
word_text word.ShiftLeftAssign = codes "<<="
word_text word.ShiftRightAssign = codes ">>="
word_text word.ShiftRightZeroFillAssign = codes ">>>="
word_text word.AmpersandAssign = codes "&="
word_text word.CaretAssign = codes "^="
word_text word.BarAssign = codes "|="
word_text word.AndAssign = codes "&&="
word_text word.OrAssign = codes "||="
word_text word.CoalesceAssign = codes "??="
word_text word.Or = codes "||"
word_text word.And = codes "&&"
word_text word.Coalesce = codes "??"
word_text word.Equality = codes "=="
word_text word.Inequality = codes "!="
word_text word.StrictEquality = codes "==="
word_text word.StrictInequality = codes "!=="
word_text word.Less = codes "<"
word_text word.LessEqual = codes "<="
word_text word.Greater = codes ">"
word_text word.GreaterEqual = codes ">="
word_text word.Plus = codes "+"
word_text word.Minus = codes "-"
word_text word.Star = codes "*"
word_text word.Slash = codes "/"
word_text word.Percent = codes "%"
word_text word.StarStar = codes "**"
word_text word.ShiftLeft = codes "<<"
word_text word.ShiftRight = codes ">>"
word_text word.ShiftRightZeroFill = codes ">>>"
word_text word.Ampersand = codes "&"
word_text word.Caret = codes "^"
word_text word.Bar = codes "|"
word_text word.In = codes "in"
word_text word.Instanceof = codes "instanceof"
word_text word.Exclamation = codes "!"
word_text word.Tilde = codes "~"
word_text word.Typeof = codes "typeof"
word_text word.Void = codes "void"
word_text word.Delete = codes "delete"
word_text word.PlusPlus = codes "++"
word_text word.MinusMinus = codes "--"

-- the word of a variable declaration (14.3)
abbrev pub variable_word : VariableDeclarationKind → Word
variable_word variables.Var = word.Var
variable_word variables.Let = word.Let
variable_word variables.Const = word.Const

abbrev pub letter : RegExpFlags → ℕ → Text → Text
letter flags bit word = flag (nat_eq (bit_and flags.0 bit) bit) word

-- the letters of the flags that are set
abbrev pub flags_word : RegExpFlags → Text
flags_word x = letter x 1 (codes "d") ++ letter x 2 (codes "g") ++ letter x 4 (codes "i") ++ letter x 8 (codes "m") ++ letter x 16 (codes "s") ++ letter x 32 (codes "u") ++ letter x 64 (codes "v") ++ letter x 128 (codes "y")

-- the texts of a node, as its term has them
abbrev pub texts_seen : Texts → List Text
texts_seen texts.None = []
texts_seen (texts.Text x) = x ∷ []
texts_seen (texts.RegExp flags x) = x ∷ flags_word flags ∷ []
texts_seen (texts.One v) = word_text v ∷ []
texts_seen (texts.Two v w) = word_text v ∷ word_text w ∷ []
texts_seen (texts.Three v w x) = word_text v ∷ word_text w ∷ word_text x ∷ []
texts_seen (texts.Four v w x y) = word_text v ∷ word_text w ∷ word_text x ∷ word_text y ∷ []

-- the words among the texts of a node, of which it has four at most
abbrev pub words_of : Texts → List Word
words_of texts.None = word.Unset ∷ word.Unset ∷ word.Unset ∷ word.Unset ∷ []
words_of (texts.Text x) = word.Unset ∷ word.Unset ∷ word.Unset ∷ word.Unset ∷ []
words_of (texts.RegExp flags x) = word.Unset ∷ word.Unset ∷ word.Unset ∷ word.Unset ∷ []
words_of (texts.One v) = v ∷ word.Unset ∷ word.Unset ∷ word.Unset ∷ []
words_of (texts.Two v w) = v ∷ w ∷ word.Unset ∷ word.Unset ∷ []
words_of (texts.Three v w x) = v ∷ w ∷ x ∷ word.Unset ∷ []
words_of (texts.Four v w x y) = v ∷ w ∷ x ∷ y ∷ []

abbrev pub is_set : Word → Bool
is_set word.Unset = false
is_set w = true
