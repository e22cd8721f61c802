-- What the types of the lexer mean.
use Rattle.std.specs.Prelude.{◌≡◌, ℕ, Option, None, Some, Bool}
use Rattle.js_term.specs.Term.{Text}
use Rattle.js_term.specs.Lexeme as spec
use Rattle.js_lex.specs.Next.{Cut, next}
use Rattle.js_lex.specs.declared.bytes.Class.{Class}
use Rattle.js_lex.specs.declared.bytes.Class.TheVariants as class
use Rattle.js_lex.specs.declared.bytes.Quote.{Quote}
use Rattle.js_lex.specs.declared.bytes.Quote.TheVariants as quote
use Rattle.js_lex.specs.declared.lexeme.Lexeme.{Lexeme}
use Rattle.js_lex.specs.declared.lexeme.Lexeme.TheVariants as lexeme
use Rattle.js_lex.specs.declared.lexeme.Token.{Token}

abbrev pub quote_byte : Quote → ℕ
quote_byte quote.Single = 39
quote_byte quote.Double = 34

abbrev pub passes : Class → ℕ → Bool
passes class.Blank = spec.is_blank
passes class.Part = spec.is_part
passes class.Digit = spec.is_digit
passes (class.Plain q) = spec.is_plain (quote_byte q)

abbrev pub lexeme_of : Lexeme → spec.Lexeme
lexeme_of (lexeme.Word x) = spec.word x.now
lexeme_of (lexeme.Number x) = spec.number x.now
lexeme_of (lexeme.String x) = spec.string x.now
lexeme_of (lexeme.Sign c) = spec.sign c

abbrev pub cut_of : Option Token → Cut
cut_of None = None
cut_of (Some t) = Some (lexeme_of t.lexeme, t.rest.now)

abbrev pub peeked_of : Option Lexeme → Option spec.Lexeme
peeked_of None = None
peeked_of (Some l) = Some (lexeme_of l)

-- what a cursor holds beside the text that is left: that text from its next token on, and that token
abbrev pub IsAhead : Text → Text → Option Token → Type 0
IsAhead rest ahead token = (ahead ≡ spec.front rest) × (cut_of token ≡ next rest)
