-- What an answer of the cursor says of the text that is left, in the words of `js_syntax`: both ways.
use Rattle.std.specs.Prelude.{◌≡◌, Option, Some, Bool, true, false}
use Rattle.js_term.specs.Term.{Text}
use Rattle.js_syntax.specs.Tokens.{Lexeme, regexp, template_middle, template_tail, Token}

-- The goals of the lexical grammar (12) by the lexemes that are looked for: those of InputElementDiv, where `/` divides and `}`
-- is a punctuator; a regular expression, which is looked for where InputElementRegExp stands; and what follows a
-- substitution, where InputElementTemplateTail does.
abbrev pub is_div_lexeme : Lexeme → Bool
is_div_lexeme (regexp pattern flags) = false
is_div_lexeme (template_middle raw) = false
is_div_lexeme (template_tail raw) = false
is_div_lexeme l = true

abbrev pub is_regexp_lexeme : Lexeme → Bool
is_regexp_lexeme (regexp pattern flags) = true
is_regexp_lexeme l = false

abbrev pub is_tail_lexeme : Lexeme → Bool
is_tail_lexeme (template_middle raw) = true
is_tail_lexeme (template_tail raw) = true
is_tail_lexeme l = false

-- The lexeme that was looked for at the front of a text, if one is there, and what is left behind it: what is found stands
-- there, and what stands there is found, so that there is one at most.
pub record Finds (goal : Lexeme → Bool) (text : Text) (answer : Option Lexeme) (rest : Text) : Type 0 where
  pub found : (l : Lexeme) → answer ≡ Some l → Token text l rest
  pub there : (l : Lexeme) (b : Text) → goal l ≡ true → Token text l b → (answer ≡ Some l) × (rest ≡ b)

-- a truth that tells whether something holds
pub record Tells (P : Type 0) (b : Bool) : Type 0 where
  pub holds : b ≡ true → P
  pub is_true : P → b ≡ true
