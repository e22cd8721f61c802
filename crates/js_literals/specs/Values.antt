-- What the types of the code mean, and what an escape adds to a value.
use Rattle.std.specs.Prelude.{◌≡◌, ℕ, ◌-◌, [], ◌∷◌, ◌++◌, length, take, drop, Option, None, Some, Bool, true, not, option_map, nat_eq}
use Rattle.std.specs.Borrow.{Bor}
use Rattle.std.specs.Char.{encode_utf8}
use Rattle.std.specs.List.{list_all}
use Rattle.js_term.specs.Term.{Text}
use Rattle.js_syntax.specs.Lexical.{decoded}
use Rattle.js_literals.specs.Escapes.{Unescaped}
use Rattle.js_literals.specs.declared.escapes.Escape.{Escape}

abbrev pub escape_of : Option Escape → Unescaped
escape_of None = None
escape_of (Some e) = Some (e.character, e.rest.now)

abbrev pub unescaped_of : Option (Option ℕ × Bor Text) → Unescaped
unescaped_of None = None
unescaped_of (Some p) = Some (p.0, p.1.now)

-- the text that a character adds, if one stands there
abbrev pub added : Option ℕ → Text
added None = []
added (Some c) = encode_utf8 c

-- the value of the characters from an escape on
abbrev pub value_from : ℕ → Unescaped → Option Text
value_from quote None = None
value_from quote (Some p) = option_map (λ x. added p.0 ++ x) (decoded quote p.1)

abbrev pub is_other : ℕ → ℕ → Bool
is_other c byte = not (nat_eq byte c)

-- the text in front of the first of these bytes, and behind it
pub record IsSplit (c : ℕ) (text front behind : Text) : Type 0 where
  pub is : text ≡ front ++ c ∷ behind
  pub others : list_all (is_other c) front ≡ true

-- what stands between the quotes of a string
abbrev pub characters : Text → Text
characters raw = take (length raw - 1 - 1) (drop 1 raw)
