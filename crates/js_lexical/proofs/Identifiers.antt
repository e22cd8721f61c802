-- A name is read as characters: the definition's short way for ASCII changes nothing.
use Rattle.std.proofs.Common.{◌≡◌, ◌&&◌, ap, ◌∙◌}
use Rattle.std.specs.Str.{chars, IsUtf8}
use Rattle.std.proofs.lemmas.Str.{is_utf8-from_IsUtf8}
use Rattle.js_chars.specs.Names.{is_identifier_name}
use Rattle.js_term.specs.Term.{Text}
use Rattle.js_syntax.specs.Lexical.{is_name}
use Rattle.js_syntax.proofs.Unicode.{names_agree}

pub by_characters : (x : Text) → IsUtf8 x → is_name x ≡ is_identifier_name (chars x)
by_characters x utf8 = names_agree.a_name x ∙ ap (λ b. b && is_identifier_name (chars x)) (is_utf8-from_IsUtf8 x utf8)
