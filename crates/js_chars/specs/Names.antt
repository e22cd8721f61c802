-- Identifier names over lists of characters (ECMAScript 12.7). The characters beyond ASCII are those of Unicode's sets
-- XID_Start and XID_Continue.
use Rattle.std.specs.Prelude.{ℕ, List, [], ◌∷◌, Bool, false, ◌&&◌, ◌||◌, nat_eq, nat_le, length, filter}
use Rattle.std.specs.List.{list_all}
use Rattle.js_term.specs.Term.{Text}
use Rattle.js_term.specs.Lexeme.{reserved}
use Rattle.unicode_ident.specs.Ident.{is_xid_start, is_xid_continue}

-- `$` or `_` beside XID_Start
abbrev pub is_identifier_start : ℕ → Bool
is_identifier_start c = is_xid_start c || nat_eq c 0x24 || nat_eq c 0x5F

-- `$`, `_`, zero width non-joiner or zero width joiner beside XID_Continue
abbrev pub is_identifier_part : ℕ → Bool
is_identifier_part c = is_xid_continue c || nat_eq c 0x24 || nat_eq c 0x5F || nat_eq c 0x200C || nat_eq c 0x200D

-- the characters of an identifier name, reserved or not
abbrev pub is_identifier_name : List ℕ → Bool
is_identifier_name [] = false
is_identifier_name (c ∷ cs) = is_identifier_start c && list_all is_identifier_part cs

-- the reserved words of no less and no more bytes than these
abbrev pub reserved_within : ℕ → ℕ → List Text
reserved_within least most = filter (λ x. nat_le least (length x) && nat_le (length x) most) reserved
