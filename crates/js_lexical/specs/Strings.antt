-- Whether the characters of a string have a value, behind each of its forms.
-- They stand between the code and `decoded` of `js_syntax`, to which the proofs tie them, and need not be believed.
use Rattle.std.specs.Prelude.{ℕ, [], ◌∷◌, Bool, true, false, not, ◌&&◌, ◌||◌, if◌then◌else◌, nat_eq, is_some}
use Rattle.js_term.specs.Term.{Text}
use Rattle.js_term.specs.Lexeme.{is_digit}
use Rattle.js_syntax.specs.Lexical.{decoded, no_digit, is_lead_surrogate, is_trail_surrogate, begins_any, line_ends}
use Rattle.js_lexical.specs.Cursors.{passes_both, two_digits, four_digits, braced_digits}

abbrev pub has_value : ℕ → Text → Bool
has_value quote s = is_some (decoded quote s)

abbrev pub behind_number : ℕ → ℕ → Text → Bool
behind_number quote n s = has_value quote s

-- behind `\x`
abbrev pub hex_has_value : ℕ → Text → Bool
hex_has_value quote s = passes_both (behind_number quote) (two_digits s)

abbrev pub behind_trail : ℕ → ℕ → Text → Bool
behind_trail quote n s = is_trail_surrogate n && has_value quote s

-- behind a lead surrogate
abbrev pub trail_has_value : ℕ → Text → Bool
trail_has_value quote (k ∷ u ∷ s) = nat_eq k 92 && (nat_eq u 117 && passes_both (behind_trail quote) (four_digits s))
trail_has_value quote s = false

abbrev pub behind_unit : ℕ → ℕ → Text → Bool
behind_unit quote n s = if is_lead_surrogate n then trail_has_value quote s else not (is_trail_surrogate n) && has_value quote s

-- behind `\u` without a brace
abbrev pub unit_has_value : ℕ → Text → Bool
unit_has_value quote s = passes_both (behind_unit quote) (four_digits s)

abbrev pub behind_brace : ℕ → ℕ → Text → Bool
behind_brace quote n s = not (is_lead_surrogate n || is_trail_surrogate n) && has_value quote s

-- behind `\u{`
abbrev pub brace_has_value : ℕ → Text → Bool
brace_has_value quote s = passes_both (behind_brace quote) (braced_digits false 0 s)

-- behind `\u`
abbrev pub unicode_has_value : ℕ → Text → Bool
unicode_has_value quote [] = false
unicode_has_value quote (a ∷ s) = if nat_eq a 123 then brace_has_value quote s else unit_has_value quote (a ∷ s)

-- behind a carriage return
abbrev pub return_has_value : ℕ → Text → Bool
return_has_value quote [] = true
return_has_value quote (c ∷ s) = if nat_eq c 10 then has_value quote s else has_value quote (c ∷ s)

-- behind the first byte of U+2028 or U+2029
abbrev pub separator_has_value : ℕ → Text → Bool
separator_has_value quote (a ∷ b ∷ s) = has_value quote s
separator_has_value quote s = false

-- behind a backslash
abbrev pub escape_has_value : ℕ → Text → Bool
escape_has_value quote [] = false
escape_has_value quote (e ∷ s) =
    if nat_eq e 117 then unicode_has_value quote s else if nat_eq e 120 then hex_has_value quote s else if is_digit e then nat_eq e 48 && (no_digit s && has_value quote s) else if nat_eq e 10 then has_value quote s else if nat_eq e 13 then return_has_value quote s else if begins_any line_ends (e ∷ s) then separator_has_value quote s else has_value quote s
