-- What a token leaves of a text in UTF-8 is in UTF-8.
use Rattle.std.proofs.Common.{◌≡◌, refl, ℕ, ◌<◌, Bool, true, false, ◌&&◌, ◌||◌, not, if◌then◌else◌, [], ◌∷◌, Option, None, Some, length, nat_eq, subst, ap, arith}
use Rattle.std.specs.Str.{IsUtf8}
use Rattle.std.proofs.lemmas.Str.{IsUtf8-drop}
use Rattle.std.proofs.lemmas.Bool.Decides.{nat_tests}
use Rattle.js_term.specs.Term.{Text}
use Rattle.js_term.specs.Lexeme.{is_digit, is_quote}
use Rattle.js_syntax.specs.Lexical.{first_passes, is_numeral, is_big_integer, is_integer, is_point, begins_start_or_digit, is_raw_string, is_regexp_body, are_regexp_flags, in_order}
use Rattle.js_syntax.specs.Tokens.{Lexeme, number, big_integer, string, regexp}
use Rattle.js_tokens.specs.Gaps.{Behind, gap}
use Rattle.js_tokens.specs.Names.{begins_name, behind_name}
use Rattle.js_tokens.specs.Numbers.{number_rest}
use Rattle.js_tokens.specs.Punctuators.{punctuator_at}
use Rattle.js_tokens.specs.Strings.{before, string_rest, opens_string, string_value, value_in}
use Rattle.js_tokens.specs.Templates.{template_end, body_end}
use Rattle.js_tokens.specs.Next.{Cut, cut, cut_behind, next, next_regexp, next_tail, identifier_name_cut, private_identifier_cut, numeric_literal_cut, string_literal_cut, string_literal_by, template_cut, template_by, punctuator_cut, punctuator_by, regexp_cut, regexp_by, tail_cut, tail_by, behind_first, goal_behind}
use Rattle.js_tokens.proofs.NameLaws.{behind_name_utf8}
use Rattle.js_tokens.proofs.Cuts.{ascii_cut, sign_boundary, string_ends, number_ends, part_ends, gap_cut, body_cut}

-- whatever is cut off, UTF-8 is left
record Leaves (c : Cut) : Type 0 where
  holds : (l : Lexeme) (b : Text) → c ≡ Some (l, b) → IsUtf8 b

none_leaves : Leaves None
none_leaves = record { holds = λ l b e. absurd (cc) }

some_leaves : (l : Lexeme) (b : Text) → IsUtf8 b → Leaves (Some (l, b))
some_leaves l b u = record { holds = λ k c e. let pair : ◌≡◌ {A = Lexeme × Text} (l, b) (k, c) = cc in subst IsUtf8 (ap (λ p. p.1) pair) u }

leaves_if : (b : Bool) (x y : Cut) → (b ≡ true → Leaves x) → (b ≡ false → Leaves y) → Leaves (if b then x else y)
leaves_if true x y f g = f refl
leaves_if false x y f g = g refl

cut_or : (b : Bool) (l : Lexeme) (r : Text) (y : Cut) → IsUtf8 r → Leaves y → Leaves (if b then Some (l, r) else y)
cut_or true l r y u h = some_leaves l r u
cut_or false l r y u h = h

behind_byte : (c : ℕ) (s : Text) → c < 128 → IsUtf8 (c ∷ s) → IsUtf8 s
behind_byte c s below u = (ascii_cut (c ∷ s) [] c s u refl below).utf8

name_leaves : (text : Text) → IsUtf8 text → Leaves (identifier_name_cut text)
unfolding identifier_name_cut
name_leaves text u = cut_or _ _ _ _ (behind_name_utf8 text u) none_leaves

private_leaves : (text : Text) → IsUtf8 text → Leaves (private_identifier_cut text)
unfolding private_identifier_cut
private_leaves text u = cut_or _ _ _ _ (behind_name_utf8 text u) none_leaves

number_leaves : (text : Text) → IsUtf8 text → Leaves (numeric_literal_cut text)
unfolding numeric_literal_cut
number_leaves text u =
    let v = (number_ends text (number_rest text) u refl).utf8 in
    let raw = before text (number_rest text) in
    let rest = number_rest text in
    let big = cut_or (is_big_integer raw && not (begins_start_or_digit rest)) (big_integer raw) rest None v none_leaves in
    cut_or (is_numeral raw && (not (begins_start_or_digit rest) && not (is_integer raw && first_passes is_point rest))) (number raw) rest _ v big

string_leaves : (text : Text) → IsUtf8 text → opens_string text ≡ true → Leaves (string_literal_cut text)
unfolding string_literal_cut
string_leaves text u q = go (string_rest text) refl
  where
    go : (o : Option Text) → string_rest text ≡ o → Leaves (string_literal_by text o)
    go None e = none_leaves
    go (Some rest) e = cut_or (is_raw_string (before text rest)) (string (before text rest) (value_in (string_value (before text rest)))) rest None (string_ends text rest u q e).utf8 none_leaves

template_leaves : (s : Text) → IsUtf8 s → Leaves (template_cut s)
unfolding template_cut
template_leaves s u = go (template_end s) refl
  where
    go : (o : Option (Bool × Text)) → template_end s ≡ o → Leaves (template_by s o)
    go None e = none_leaves
    go (Some (false, rest)) e = some_leaves _ _ (part_ends s false rest u e).utf8
    go (Some (true, rest)) e = some_leaves _ _ (part_ends s true rest u e).utf8

punctuator_leaves : (text : Text) → IsUtf8 text → Leaves (punctuator_cut text)
unfolding punctuator_cut
punctuator_leaves text u = go (punctuator_at text) refl
  where
    go : (o : Option Text) → punctuator_at text ≡ o → Leaves (punctuator_by text o)
    go None e = none_leaves
    go (Some s) e = some_leaves _ _ (IsUtf8-drop text (length s) u (sign_boundary text s u e))

cut_leaves : (text : Text) → IsUtf8 text → Leaves (cut text)
unfolding cut
cut_leaves [] u = none_leaves
cut_leaves (c ∷ s) u =
    leaves_if (is_quote c) _ _ (λ h. string_leaves (c ∷ s) u h) (λ n0.
    leaves_if (nat_eq c 96) _ _ (λ h. template_leaves s (behind_byte c s (grind (arith, nat_tests)) u)) (λ n1.
    leaves_if (nat_eq c 35) _ _ (λ h. private_leaves s (behind_byte c s (grind (arith, nat_tests)) u)) (λ n2.
    leaves_if (is_digit c || (nat_eq c 46 && first_passes is_digit s)) _ _ (λ h. number_leaves (c ∷ s) u) (λ n3.
    leaves_if (begins_name (c ∷ s)) _ _ (λ h. name_leaves (c ∷ s) u) (λ n4. punctuator_leaves (c ∷ s) u)))))

pub next_utf8 : (a : Text) → IsUtf8 a → (l : Lexeme) (b : Text) → next a ≡ Some (l, b) → IsUtf8 b
unfolding next
next_utf8 a u l b e = go (gap false a) refl e
  where
    go : (g : Behind) → gap false a ≡ g → cut_behind g ≡ Some (l, b) → IsUtf8 b
    go None is e = absurd (cc)
    go (Some (line, m)) is e = (cut_leaves m (gap_cut a line m u is).utf8).holds l b e

-- ---- the other goals

first_leaves : (c : ℕ) (f : Text → Cut) (m : Text) → c < 128 → ((s : Text) → IsUtf8 s → Leaves (f s)) → IsUtf8 m → Leaves (behind_first c f m)
first_leaves c f [] below h u = none_leaves
first_leaves c f (d ∷ s) below h u = leaves_if (nat_eq d c) _ _ (λ e. h s (behind_byte d s (grind (arith, nat_tests)) u)) (λ e. none_leaves)

goal_leaves : (c : ℕ) (f : Text → Cut) (a : Text) → c < 128 → ((s : Text) → IsUtf8 s → Leaves (f s)) → IsUtf8 a → Leaves (goal_behind c f (gap false a))
goal_leaves c f a below h u = go (gap false a) refl
  where
    go : (g : Behind) → gap false a ≡ g → Leaves (goal_behind c f g)
    go None is = none_leaves
    go (Some (line, m)) is = first_leaves c f m below h (gap_cut a line m u is).utf8

regexp_leaves : (s : Text) → IsUtf8 s → Leaves (regexp_cut s)
unfolding regexp_cut
regexp_leaves s u = go (body_end false s) refl
  where
    go : (o : Option Text) → body_end false s ≡ o → Leaves (regexp_by s o)
    go None e = none_leaves
    go (Some rest) e = cut_or (is_regexp_body (before s (47 ∷ rest)) && are_regexp_flags (before rest (behind_name rest))) (regexp (before s (47 ∷ rest)) (in_order (before rest (behind_name rest)))) (behind_name rest) None (behind_name_utf8 rest (body_cut s rest u e).utf8) none_leaves

tail_leaves : (s : Text) → IsUtf8 s → Leaves (tail_cut s)
unfolding tail_cut
tail_leaves s u = go (template_end s) refl
  where
    go : (o : Option (Bool × Text)) → template_end s ≡ o → Leaves (tail_by s o)
    go None e = none_leaves
    go (Some (false, rest)) e = some_leaves _ _ (part_ends s false rest u e).utf8
    go (Some (true, rest)) e = some_leaves _ _ (part_ends s true rest u e).utf8

pub regexp_utf8 : (a : Text) → IsUtf8 a → (l : Lexeme) (b : Text) → next_regexp a ≡ Some (l, b) → IsUtf8 b
unfolding next_regexp
regexp_utf8 a u = (goal_leaves 47 regexp_cut a (omega arith) regexp_leaves u).holds

pub tail_utf8 : (a : Text) → IsUtf8 a → (l : Lexeme) (b : Text) → next_tail a ≡ Some (l, b) → IsUtf8 b
unfolding next_tail
tail_utf8 a u = (goal_leaves 125 tail_cut a (omega arith) tail_leaves u).holds
