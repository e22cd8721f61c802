-- The value that a string token has is that of the string as it is written.
use Rattle.std.proofs.Common.{◌≡◌, refl, true, Some, [], ◌∷◌, ◌++◌, ap, sym, ◌∙◌}
use Rattle.std.specs.Prelude.{is_some}
use Rattle.js_term.specs.Term.{Text}
use Rattle.js_syntax.specs.Lexical.{is_raw_string}
use Rattle.js_syntax.specs.Tokens.{Lexeme, Lexed, Token, string}
use Rattle.js_syntax.specs.Tokens as token
use Rattle.js_tokens.specs.Strings.{string_value}
use Rattle.js_tokens.proofs.StringLaws.{value_written, raw_has_value}

pub record IsStringToken (raw value : Text) : Type 0 where
  pub is_raw : is_raw_string raw ≡ true
  pub value_is : string_value raw ≡ Some value

has_value : (raw value : Text) → string_value raw ≡ Some value → IsStringToken raw value
has_value raw value e = record { is_raw = raw_has_value raw ∙ ap is_some e; value_is = e }

lexed_string : {l : Lexeme} {a b : Text} → Lexed l a b → (raw value : Text) → l ≡ string raw value → IsStringToken raw value
lexed_string (token.is_string {quote} s {value = v} q e) raw value is =
    let raw_is : quote ∷ (s ++ quote ∷ []) ≡ raw = cc in
    let value_is : v ≡ value = cc in
    has_value raw value (ap string_value (sym raw_is) ∙ value_written quote s q ∙ e ∙ ap (λ z. Some z) value_is)
lexed_string h raw value is = absurd (cc)

pub string_token : {a b : Text} (raw value : Text) → Token a (string raw value) b → IsStringToken raw value
string_token raw value t = lexed_string t.lexed raw value refl
