-- What the tests of names say at every text: that the short way for ASCII leads to Unicode's sets too (12.7).
use Rattle.std.specs.Prelude.{◌≡◌, ◌&&◌, ◌||◌}
use Rattle.std.specs.Str.{chars, is_utf8}
use Rattle.js_term.specs.Term.{Text}
use Rattle.js_term.specs.Lexeme.{is_digit}
use Rattle.js_chars.specs.Names.{is_identifier_start, is_identifier_part, is_identifier_name}
use Rattle.js_syntax.specs.Lexical.{is_name, first_passes, begins_part, begins_start_or_digit}

pub record NamesAgree : Type 0 where
  pub a_name : (x : Text) → is_name x ≡ (is_utf8 x && is_identifier_name (chars x))
  pub a_part : (x : Text) → begins_part x ≡ first_passes is_identifier_part (chars x)
  pub a_start_or_digit : (x : Text) → begins_start_or_digit x ≡ (first_passes is_identifier_start (chars x) || first_passes is_digit x)
