-- Names and literals that stand in a text are read.
use Rattle.std.proofs.Common.{◌≡◌, ◌<◌, ℕ, Bool, true, false, not, ◌&&◌, ◌||◌, if◌then◌else◌, nat_le, length, Option, Some, None, refl, sym, subst, ◌∙◌, ap, arith, codes}
use Rattle.std.proofs.lemmas.Bool.{false≢true, or_parts, leb-true}
use Rattle.js_term.specs.Term.{Text, is_text, Term, depth}
use Rattle.js_term.specs.declared.kind.Kind.{Kind}
use Rattle.js_term.specs.Lexeme.{is_reserved}
use Rattle.js_term.specs.Node.{identifier_of, string_of, number_of, truth, boolean_of}
use Rattle.js_syntax.specs.Nodes.{alone, of_text, regexp_of}
use Rattle.js_syntax.specs.Tokens.{Lexeme, word, private_name, number, big_integer, string, regexp, no_substitution, template_head, template_middle, template_tail, sign}
use Rattle.js_syntax.specs.Edges.{full, edge}
use Rattle.js_syntax.proofs.Fronts.{same_text}
use Rattle.js_tokens.specs.Next.{lexeme, after, next_regexp}
use Rattle.js_reading.specs.declared.goal.Goal.{Goal}
use Rattle.js_reading.specs.Reading.{Found, closed, Reading, sees, sees_word, same_line, arrow_here}
use Rattle.js_reading.specs.Expressions.{regexp_by, is_arrow_name, named, async_by, async_expression, word_prefix, sign_prefix, prefix_by, prefix}
use Rattle.js_reading.specs.Read.{read}
use Rattle.js_reading.proofs.TokensThere.{Seen, SeenRegexp, is_slash_sign}
use Rattle.js_reading.proofs.Follows.{takes_name, either_case}
use Rattle.js_reading.proofs.Climbs.{quiet, IsRead, first_read}

-- ---- words

pub not_text : (x y : Text) → is_reserved x ≡ false → is_reserved y ≡ true → is_text x y ≡ false
not_text x y h h' = go (is_text x y) refl
  where
    go : (b : Bool) → is_text x y ≡ b → is_text x y ≡ false
    go true e = absurd (false≢true (sym h ∙ ap is_reserved (same_text x y e) ∙ h'))
    go false e = e

pub word_there : (sub : Goal → Text → Reading Found) (i : Bool) (least : ℕ) {x a b : Text} → Seen (word x) a b → prefix sub i least a ≡ word_prefix sub i least x b
unfolding prefix
word_there sub i least tok = rw (tok.lexeme_is, tok.after_is)

pub no_arrow : (b : Text) → takes_name b ≡ false → arrow_here b ≡ false
unfolding takes_name
no_arrow b h = (or_parts (arrow_here b) _ h).0

no_function : (b : Text) → takes_name b ≡ false → same_line b ≡ true → sees_word (codes "function") b || is_arrow_name (lexeme b) (after b) ≡ false
unfolding takes_name
no_function b h line = go (same_line b) line (or_parts (arrow_here b) _ h).1
  where
    go : (t : Bool) → t ≡ true → (t && (sees_word (codes "function") b || is_arrow_name (lexeme b) (after b))) ≡ false → sees_word (codes "function") b || is_arrow_name (lexeme b) (after b) ≡ false
    go true e h = h
    go false e h = absurd (false≢true e)

pub named_there : (sub : Goal → Text → Reading Found) (i : Bool) (x b : Text) → takes_name b ≡ false → named sub i x b ≡ Some (closed (identifier_of x) 21, b)
unfolding named
named_there sub i x b h = rw (no_arrow b h)

async_line : (sub : Goal → Text → Reading Found) (i : Bool) (least : ℕ) (b : Text) → same_line b ≡ true → takes_name b ≡ false → (nat_le least 2 && sees (codes "(") b) ≡ false → async_by sub i least b ≡ Some (closed (identifier_of (codes "async")) 21, b)
unfolding async_by
async_line sub i least b line h calm =
    let both = or_parts (sees_word (codes "function") b) (is_arrow_name (lexeme b) (after b)) (no_function b h line) in
    rw (both.0, both.1, calm, named_there sub i (codes "async") b h)

async_there : (sub : Goal → Text → Reading Found) (i : Bool) (least : ℕ) (b : Text) → takes_name b ≡ false → (same_line b ≡ true → (nat_le least 2 && sees (codes "(") b) ≡ false) → async_expression sub i least b ≡ Some (closed (identifier_of (codes "async")) 21, b)
unfolding async_expression
async_there sub i least b h calm = go (same_line b) refl
  where
    go : (t : Bool) → same_line b ≡ t → (if t then async_by sub i least b else named sub i (codes "async") b) ≡ Some (closed (identifier_of (codes "async")) 21, b)
    go true line = async_line sub i least b line h (calm line)
    go false line = named_there sub i (codes "async") b h

-- a name that is not `async`
pub plain_there : (sub : Goal → Text → Reading Found) (i : Bool) (least : ℕ) (x b : Text) → is_reserved x ≡ false → is_text x (codes "async") ≡ false → word_prefix sub i least x b ≡ named sub i x b
plain_there sub i least x b free other = rw (
  not_text x (codes "function") free refl,
  not_text x (codes "class") free refl,
  other,
  not_text x (codes "new") free refl,
  not_text x (codes "import") free refl,
  not_text x (codes "super") free refl,
  not_text x (codes "await") free refl,
  not_text x (codes "yield") free refl,
  not_text x (codes "delete") free refl,
  not_text x (codes "void") free refl,
  not_text x (codes "typeof") free refl,
  not_text x (codes "this") free refl,
  not_text x (codes "null") free refl,
  not_text x (codes "true") free refl,
  not_text x (codes "false") free refl,
  free,
)

pub name_prefix : (sub : Goal → Text → Reading Found) (i : Bool) (least : ℕ) {x a b : Text} → is_reserved x ≡ false → Seen (word x) a b → takes_name b ≡ false → (is_text x (codes "async") ≡ true → same_line b ≡ true → (nat_le least 2 && sees (codes "(") b) ≡ false) → prefix sub i least a ≡ Some (closed (identifier_of x) 21, b)
name_prefix sub i least {x} {a} {b} free tok h calm = word_there sub i least tok ∙ go (is_text x (codes "async")) refl
  where
    go : (t : Bool) → is_text x (codes "async") ≡ t → word_prefix sub i least x b ≡ Some (closed (identifier_of x) 21, b)
    go false e = plain_there sub i least x b free e ∙ named_there sub i x b h
    go true e = subst (λ (y : Text). word_prefix sub i least y b ≡ Some (closed (identifier_of y) 21, b)) (sym (same_text x (codes "async") e)) (async_there sub i least b h (calm e))

quiet_calm : (p q r : Bool) → not (p && (q && r)) ≡ true → p ≡ true → q ≡ true → r ≡ false
quiet_calm true true true h e e' = absurd (false≢true h)
quiet_calm true true false h e e' = refl
quiet_calm true false r h e e' = absurd (false≢true e')
quiet_calm false q r h e e' = absurd (false≢true e)

pub quiet_name : (x b : Text) → quiet (identifier_of x) b ≡ true → is_text x (codes "async") ≡ true → same_line b ≡ true → sees (codes "(") b ≡ false
unfolding quiet
quiet_name x b h e e' = quiet_calm (is_text x (codes "async")) (same_line b) (sees (codes "(") b) h e e'

calm_by : (p q : Bool) → (p ≡ true → q ≡ false) → (p && q) ≡ false
calm_by true q h = h refl
calm_by false q h = refl

pub identifier_read : {i : Bool} {x a b : Text} → is_reserved x ≡ false → Seen (word x) a b → IsRead i 1 (closed (identifier_of x) 21) a b
identifier_read {i} {x} {b = b} free tok =
    first_read refl refl tok.shorter (omega arith) (λ limit least fits low h q. name_prefix (read limit) i least free tok h (λ e e'. calm_by (nat_le least 2) (sees (codes "(") b) (λ low. quiet_name x b (q (leb-true least 2 low)) e e')))

-- ---- literals

pub leaf_read : {i : Bool} {e : Term} {a b : Text} → edge e ≡ full → length b < length a → 0 < depth e → ((limit least : ℕ) → prefix (read limit) i least a ≡ Some (closed e 21, b)) → IsRead i (depth e) (closed e 21) a b
leaf_read is shorter deep reads = first_read refl is shorter deep (λ limit least fits low h q. reads limit least)

pub this_read : {i : Bool} {a b : Text} → Seen (word (codes "this")) a b → IsRead i 1 (closed (alone Kind.ThisExpression) 21) a b
this_read {i} tok = leaf_read refl tok.shorter (omega arith) (λ limit least. word_there (read limit) i least tok)

pub null_read : {i : Bool} {a b : Text} → Seen (word (codes "null")) a b → IsRead i 1 (closed (alone Kind.NullLiteral) 21) a b
null_read {i} tok = leaf_read refl tok.shorter (omega arith) (λ limit least. word_there (read limit) i least tok)

pub boolean_read : {i : Bool} (v : Bool) {a b : Text} → Seen (word (truth v)) a b → IsRead i 1 (closed (boolean_of v) 21) a b
boolean_read {i} true tok = leaf_read refl tok.shorter (omega arith) (λ limit least. word_there (read limit) i least tok)
boolean_read {i} false tok = leaf_read refl tok.shorter (omega arith) (λ limit least. word_there (read limit) i least tok)

pub literal_there : (sub : Goal → Text → Reading Found) (i : Bool) (least : ℕ) {l : Lexeme} {a b : Text} → Seen l a b → prefix sub i least a ≡ prefix_by sub i least (Some l) a
unfolding prefix
literal_there sub i least {a = a} tok = ap (λ o. prefix_by sub i least o a) tok.lexeme_is

pub number_read : {i : Bool} {raw a b : Text} → Seen (number raw) a b → IsRead i 1 (closed (number_of raw) 21) a b
number_read {i} tok = leaf_read refl tok.shorter (omega arith) (λ limit least. literal_there (read limit) i least tok ∙ rw (tok.after_is))

pub bigint_read : {i : Bool} {raw a b : Text} → Seen (big_integer raw) a b → IsRead i 1 (closed (of_text Kind.BigIntLiteral raw) 21) a b
bigint_read {i} tok = leaf_read refl tok.shorter (omega arith) (λ limit least. literal_there (read limit) i least tok ∙ rw (tok.after_is))

pub string_read : {i : Bool} {raw v a b : Text} → Seen (string raw v) a b → IsRead i 1 (closed (string_of v) 21) a b
string_read {i} tok = leaf_read refl tok.shorter (omega arith) (λ limit least. literal_there (read limit) i least tok ∙ rw (tok.after_is))

slash_prefix : (sub : Goal → Text → Reading Found) (i : Bool) (least : ℕ) (o : Option Lexeme) (a : Text) → is_slash_sign o ≡ true → prefix_by sub i least o a ≡ regexp_by (next_regexp a)
slash_prefix sub i least None a h = absurd (false≢true h)
slash_prefix sub i least (Some (sign s)) a h = either_case (is_text s (codes "/")) (is_text s (codes "/=") || false) h
    (λ e. subst (λ (t : Text). sign_prefix sub i t a ≡ regexp_by (next_regexp a)) (sym (same_text s (codes "/") e)) refl)
    (λ e. either_case (is_text s (codes "/=")) false e (λ e. subst (λ (t : Text). sign_prefix sub i t a ≡ regexp_by (next_regexp a)) (sym (same_text s (codes "/=") e)) refl) (λ e. absurd (false≢true e)))
slash_prefix sub i least (Some (word x)) a h = absurd (false≢true h)
slash_prefix sub i least (Some (private_name x)) a h = absurd (false≢true h)
slash_prefix sub i least (Some (number x)) a h = absurd (false≢true h)
slash_prefix sub i least (Some (big_integer x)) a h = absurd (false≢true h)
slash_prefix sub i least (Some (string x v)) a h = absurd (false≢true h)
slash_prefix sub i least (Some (regexp x v)) a h = absurd (false≢true h)
slash_prefix sub i least (Some (no_substitution x)) a h = absurd (false≢true h)
slash_prefix sub i least (Some (template_head x)) a h = absurd (false≢true h)
slash_prefix sub i least (Some (template_middle x)) a h = absurd (false≢true h)
slash_prefix sub i least (Some (template_tail x)) a h = absurd (false≢true h)

regexp_prefix : (sub : Goal → Text → Reading Found) (i : Bool) (least : ℕ) {pattern flags a b : Text} → SeenRegexp pattern flags a b → prefix sub i least a ≡ Some (closed (regexp_of pattern flags) 21, b)
unfolding prefix
regexp_prefix sub i least {a = a} tok = slash_prefix sub i least (lexeme a) a tok.slash ∙ ap regexp_by tok.regexp_is

pub regexp_read : {i : Bool} {pattern flags a b : Text} → SeenRegexp pattern flags a b → IsRead i 1 (closed (regexp_of pattern flags) 21) a b
regexp_read {i} tok = leaf_read refl tok.shorter (omega arith) (λ limit least. regexp_prefix (read limit) i least tok)
