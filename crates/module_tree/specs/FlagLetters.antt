-- The flags of a regular expression where its letters are these. It need not be believed: it is a step between the
-- code and the flags of js_syntax.
use Rattle.std.specs.Prelude.{Bool, not, ◌&&◌}
use Rattle.std.specs.List.{list_all, filter}
use Rattle.js_term.specs.Term.{Text, is_text}
use Rattle.js_syntax.specs.Lexical.{has_byte, are_distinct}

unfoldable pub are_flags_among : Text → Text → Bool
are_flags_among letters x = (list_all (has_byte letters) x && (are_distinct x && not (has_byte x 117 && has_byte x 118))) && is_text (filter (has_byte x) letters) x
