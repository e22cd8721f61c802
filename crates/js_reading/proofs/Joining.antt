-- An expression whose tree begins with no definition has a text that begins with none, where none goes on behind it.
use Rattle.std.proofs.Common.{◌≡◌, ℕ, Bool, true, false, not, List, [], ◌∷◌, Option, Some, None, refl, sym, subst, ◌∙◌, ap, codes}
use Rattle.std.specs.Str.{IsUtf8}
use Rattle.std.specs.List.{list_all}
use Rattle.std.proofs.lemmas.Bool.{false≢true, not-true, and_right}
use Rattle.js_term.specs.Term.{Text, is_text, Term, node, none, all}
use Rattle.js_term.specs.declared.kind.Kind.{Kind}
use Rattle.js_term.specs.Lexeme.{is_reserved}
use Rattle.js_term.specs.Node.{truth}
use Rattle.js_syntax.specs.Tokens.{Lexeme, word, sign, regexp, Token, Word, Sign}
use Rattle.js_syntax.specs.Edges.{leftmost, begins_with_definition}
use Rattle.js_syntax.specs.Spelling as spell
use Rattle.js_syntax.specs.Spelling.{Stands, Target, Expression, Listed, Access, Link, Spine, BareNew, Template, FunctionText, ClassText, ArrowHead, Operator, Arguments}
use Rattle.js_syntax.proofs.Fronts.{same_text, among}
use Rattle.js_tokens.specs.Looks.{is_div_lexeme}
use Rattle.js_tokens.specs.Next.{lexeme, after}
use Rattle.js_reading.specs.Reading.{is_word, sees_word, same_line}
use Rattle.js_reading.specs.Statements.{begins_async_function}
use Rattle.js_reading.proofs.TokensThere.{Seen, see, see_word, sees_word_by, slash_there, is_slash_sign}
use Rattle.js_reading.proofs.Opens.{begins_definition}
use Rattle.js_reading.proofs.Leaves.{not_text}

-- It begins with a definition, or its text begins with none whatever follows, or it is the name `async` alone.
pub data Joined (e : Term) (a b : Text) : Type 0 where
  defines : begins_with_definition e ≡ true → Joined e a b
  calm : begins_definition a ≡ false → Joined e a b
  alone : Seen (word (codes "async")) a b → Joined e a b

-- a token that begins no definition
no_definition : {a b : Text} {l : Lexeme} → Seen l a b → is_word (codes "function") (Some l) ≡ false → is_word (codes "class") (Some l) ≡ false → is_word (codes "async") (Some l) ≡ false → begins_definition a ≡ false
no_definition x h h' h'' = rw (sees_word_by (codes "function") x, sees_word_by (codes "class") x, sees_word_by (codes "async") x, h, h', h'') refl

leaf : {e : Term} {l : Lexeme} {a b c : Text} → Token a l c → IsUtf8 a → is_div_lexeme l ≡ true → is_word (codes "function") (Some l) ≡ false → is_word (codes "class") (Some l) ≡ false → is_word (codes "async") (Some l) ≡ false → Joined e a b
leaf tok u goal h h' h'' = calm (no_definition (see tok u goal) h h' h'')

async_behind : {a b : Text} → Seen (word (codes "async")) a b → sees_word (codes "function") b ≡ false → begins_async_function (after a) ≡ false
unfolding begins_async_function
async_behind x h = rw (x.after_is, h) (and_right (same_line _) false refl)

-- behind `async` no `function`
async_calm : {a b : Text} → Seen (word (codes "async")) a b → begins_async_function (after a) ≡ false → begins_definition a ≡ false
async_calm x h = rw (sees_word_by (codes "function") x, sees_word_by (codes "class") x, sees_word_by (codes "async") x, h) refl

name_joined : {e : Term} {x a b : Text} → is_reserved x ≡ false → Seen (word x) a b → Joined e a b
name_joined {e} {x} {a} {b} free tok = go (is_text x (codes "async")) refl
  where
    go : (t : Bool) → is_text x (codes "async") ≡ t → Joined e a b
    go false h = calm (no_definition tok (not_text x (codes "function") free refl) (not_text x (codes "class") free refl) h)
    go true h = alone (subst (λ (y : Text). Seen (word y) a b) (same_text x (codes "async") h) tok)

-- what begins with its first part, behind which this token stands
goes : {o e : Term} {l : Lexeme} {a b c d : Text} → Joined o a b → leftmost e ≡ leftmost o → Token b l c → is_div_lexeme l ≡ true → is_word (codes "function") (Some l) ≡ false → Joined e a d
goes (defines h) same tok goal other = defines (rw same h)
goes (calm h) same tok goal other = calm h
goes (alone x) same tok goal other = let y = see tok x.utf8 goal in calm (async_calm x (async_behind x (sees_word_by (codes "function") y ∙ other)))

-- the same with nothing behind
same_end : {o e : Term} {a b : Text} → Joined o a b → leftmost e ≡ leftmost o → Joined e a b
same_end (defines h) same = defines (rw same h)
same_end (calm h) same = calm h
same_end (alone x) same = alone x

-- what may stand behind `async` in an arrow
head_calm : {a b c : Text} {l : Lexeme} → Seen (word (codes "async")) a b → Token b l c → is_div_lexeme l ≡ true → is_word (codes "function") (Some l) ≡ false → begins_definition a ≡ false
head_calm x tok goal other = let y = see tok x.utf8 goal in async_calm x (async_behind x (sees_word_by (codes "function") y ∙ other))

head_joined : {e ps : Term} {async a b c d : Text} → ArrowHead async ps a b → Sign (codes "=>") b c → IsUtf8 a → Joined e a d
head_joined (spell.arrow_parameters (spell.parameters x ps y)) tok u = leaf x u refl refl refl refl
head_joined {e} (spell.arrow_name {x} free w) tok u = name_arrow (name_joined {e = node Kind.Identifier (x ∷ []) none} free (see_word w u)) tok
  where
    name_arrow : {a b c d : Text} → Joined (node Kind.Identifier (x ∷ []) none) a b → Sign (codes "=>") b c → Joined e a d
    name_arrow (defines h) tok = absurd (false≢true h)
    name_arrow (calm h) tok = calm h
    name_arrow (alone y) tok = calm (head_calm y tok refl refl)
head_joined (spell.arrow_async w line (spell.arrow_parameters (spell.parameters x ps y))) tok u = calm (head_calm (see_word w u) x refl refl)
head_joined (spell.arrow_async w line (spell.arrow_name {x} free n)) tok u = calm (head_calm (see_word w u) n refl (not_text x (codes "function") free refl))

function_joined : {f : Term} {a b : Text} → FunctionText Kind.FunctionExpression f a b → Joined f a b
function_joined (spell.function async w s id ps t) = defines refl

class_joined : {c : Term} {a b : Text} → ClassText Kind.ClassExpression c a b → Joined c a b
class_joined (spell.class w id h x es y) = defines refl

template_joined : {e : Term} {sound : Bool} {qs es : List Term} {a b c : Text} → Template sound qs es a b → IsUtf8 a → Joined e a c
template_joined (spell.whole_template h tok) u = leaf tok u refl refl refl refl
template_joined (spell.template_parts h tok e rest) u = leaf tok u refl refl refl refl

template_goes : {o e : Term} {sound : Bool} {qs es : List Term} {a b c d : Text} → Joined o a b → leftmost e ≡ leftmost o → Template sound qs es b c → Joined e a d
template_goes j same (spell.whole_template h tok) = goes j same tok refl refl
template_goes j same (spell.template_parts h tok e rest) = goes j same tok refl refl

access_goes : {optional : Bool} {o e : Term} {a b c d : Text} → Joined o a b → Access optional o e b c → Joined e a d
access_goes j (spell.static_access (spell.plain_dot tok) y) = goes j refl tok refl refl
access_goes j (spell.static_access (spell.optional_dot tok) y) = goes j refl tok refl refl
access_goes j (spell.computed_access spell.not_optional x e y) = goes j refl x refl refl
access_goes j (spell.computed_access (spell.is_optional tok) x e y) = goes j refl tok refl refl
access_goes j (spell.private_access (spell.plain_dot tok) y) = goes j refl tok refl refl
access_goes j (spell.private_access (spell.optional_dot tok) y) = goes j refl tok refl refl

arguments_go : {o e : Term} {es : List Term} {a b c d : Text} → Joined o a b → leftmost e ≡ leftmost o → Arguments es b c → Joined e a d
arguments_go j same (spell.arguments x g y) = goes j same x refl refl

link_goes : {optional : Bool} {o e : Term} {a b c d : Text} → Joined o a b → Link optional o e b c → Joined e a d
link_goes j (spell.access_link x) = access_goes j x
link_goes j (spell.argument_link spell.not_optional es) = arguments_go j refl es
link_goes j (spell.argument_link (spell.is_optional tok) es) = goes j refl tok refl refl

operator_goes : {o e : Term} {op a b c d : Text} → Joined o a b → leftmost e ≡ leftmost o → Operator op b c → Joined e a d
operator_goes {op = op} j same (spell.word_operator h tok) = goes j same tok refl (not-true (is_text op (codes "function")) (among (λ t. not (is_text t (codes "function"))) (codes "delete" ∷ codes "void" ∷ codes "typeof" ∷ codes "instanceof" ∷ codes "in" ∷ []) op refl h))
operator_goes j same (spell.sign_operator tok) = goes j same tok refl refl

operator_leaf : {e : Term} {op a b c : Text} → Operator op a b → IsUtf8 a → Joined e a c
operator_leaf {op = op} (spell.word_operator h tok) u = leaf tok u refl (apart (codes "function") refl) (apart (codes "class") refl) (apart (codes "async") refl)
  where
    apart : (x : Text) → list_all (λ t. not (is_text t x)) (codes "delete" ∷ codes "void" ∷ codes "typeof" ∷ codes "instanceof" ∷ codes "in" ∷ []) ≡ true → is_text op x ≡ false
    apart x all = not-true (is_text op x) (among (λ t. not (is_text t x)) (codes "delete" ∷ codes "void" ∷ codes "typeof" ∷ codes "instanceof" ∷ codes "in" ∷ []) op all h)
operator_leaf (spell.sign_operator tok) u = leaf tok u refl refl refl refl

boolean_joined : {e : Term} (v : Bool) {a b c : Text} → Word (truth v) a b → IsUtf8 a → Joined e a c
boolean_joined true tok u = leaf tok u refl refl refl refl
boolean_joined false tok u = leaf tok u refl refl refl refl

slash_calm : (o : Option Lexeme) → is_slash_sign o ≡ true → (x : Text) → is_word x o ≡ false
slash_calm (Some (sign s)) h x = refl
slash_calm None h x = refl
slash_calm (Some (word y)) h x = absurd (false≢true h)
slash_calm (Some l) h x = absurd (false≢true h)

regexp_joined : {e : Term} {pattern flags a b : Text} → Token a (regexp pattern flags) b → Joined e a b
unfolding sees_word
regexp_joined {a = a} tok = let h = slash_there tok in calm (rw (slash_calm (lexeme a) h (codes "function"), slash_calm (lexeme a) h (codes "class"), slash_calm (lexeme a) h (codes "async")) refl)

bare_joined : {i : Bool} {e : Term} {a b : Text} → BareNew i e a b → IsUtf8 a → Joined e a b
bare_joined (spell.new_member tok h s) u = leaf tok u refl refl refl refl
bare_joined (spell.new_new tok s) u = leaf tok u refl refl refl refl

mutual
  pub stands_joined : {i : Bool} {n : ℕ} {e : Term} {a b : Text} → Stands i n e a b → IsUtf8 a → Joined e a b
  stands_joined (spell.identifier free tok) u = name_joined free (see_word tok u)
  stands_joined (spell.this_expression tok) u = leaf tok u refl refl refl refl
  stands_joined (spell.null_literal tok) u = leaf tok u refl refl refl refl
  stands_joined (spell.boolean v tok) u = boolean_joined v tok u
  stands_joined (spell.numeric tok) u = leaf tok u refl refl refl refl
  stands_joined (spell.bigint tok) u = leaf tok u refl refl refl refl
  stands_joined (spell.string_literal tok) u = leaf tok u refl refl refl refl
  stands_joined (spell.regexp_literal tok) u = regexp_joined tok
  stands_joined (spell.template t) u = template_joined t u
  stands_joined (spell.array x g y) u = leaf x u refl refl refl refl
  stands_joined (spell.object x g y) u = leaf x u refl refl refl refl
  stands_joined (spell.function_expression f) u = function_joined f
  stands_joined (spell.class_expression c) u = class_joined c
  stands_joined (spell.parenthesized x e y) u = leaf x u refl refl refl refl
  stands_joined (spell.import_meta x y z) u = leaf x u refl refl refl refl
  stands_joined (spell.new_target x y z) u = leaf x u refl refl refl refl
  stands_joined (spell.member h o x) u = access_goes (stands_joined o u) x
  stands_joined (spell.super_member tok x h) u = leaf tok u refl refl refl refl
  stands_joined (spell.tagged h t q) u = template_goes (stands_joined t u) refl q
  stands_joined (spell.construction tok h f es) u = leaf tok u refl refl refl refl
  stands_joined (spell.bare_construction s) u = bare_joined s u
  stands_joined (spell.call h f es) u = arguments_go (stands_joined f u) refl es
  stands_joined (spell.super_call tok es) u = leaf tok u refl refl refl refl
  stands_joined (spell.import_call tok x e o y) u = leaf tok u refl refl refl refl
  stands_joined (spell.chain s) u = same_end (spine_joined s u) refl
  stands_joined (spell.update_behind is h s line tok) u = goes (stands_joined s u) refl tok refl refl
  stands_joined (spell.update_before is h tok s) u = leaf tok u refl refl refl refl
  stands_joined (spell.unary is h o s) u = operator_leaf o u
  stands_joined (spell.await_expression h tok s) u = leaf tok u refl refl refl refl
  stands_joined (spell.exponentiation h h' l tok r) u = goes (stands_joined l u) refl tok refl refl
  stands_joined (spell.binary is h h' h'' l tok r) u = operator_goes (stands_joined l u) refl tok
  stands_joined (spell.private_in h tok x s) u = leaf tok u refl refl refl refl
  stands_joined (spell.conjunction h h' l tok r) u = goes (stands_joined l u) refl tok refl refl
  stands_joined (spell.disjunction h h' l tok r) u = goes (stands_joined l u) refl tok refl refl
  stands_joined (spell.coalescing h h' l tok r) u = goes (stands_joined l u) refl tok refl refl
  stands_joined (spell.conditional h t x e y f) u = goes (stands_joined t u) refl x refl refl
  stands_joined (spell.assignment is h t tok e) u = goes (target_joined t u) refl tok refl refl
  stands_joined (spell.arrow h line tok t) u = head_joined h tok u
  stands_joined (spell.bare_yield tok) u = leaf tok u refl refl refl refl
  stands_joined (spell.yielding tok line e) u = leaf tok u refl refl refl refl
  stands_joined (spell.delegating tok line x e) u = leaf tok u refl refl refl refl

  spine_joined : {i : Bool} {e : Term} {a b : Text} → Spine i e a b → IsUtf8 a → Joined e a b
  spine_joined (spell.first_link h o x) u = link_goes (stands_joined o u) x
  spine_joined (spell.next_link s x) u = link_goes (spine_joined s u) x

  target_joined : {i : Bool} {t : Term} {a b : Text} → Target i t a b → IsUtf8 a → Joined t a b
  target_joined (spell.simple_target h s) u = stands_joined s u
  target_joined (spell.object_target x ps y) u = leaf x u refl refl refl refl
  target_joined (spell.array_target x ps y) u = leaf x u refl refl refl refl

pub expression_joined : {i : Bool} {e : Term} {a b : Text} → Expression i e a b → IsUtf8 a → Joined e a b
expression_joined (spell.single s) u = stands_joined s u
expression_joined (spell.sequence h (spell.last (spell.an_expression s))) u = same_end (stands_joined s u) refl
expression_joined (spell.sequence h (spell.and (spell.an_expression s) tok rest)) u = goes (stands_joined s u) refl tok refl refl

-- where no `function` stands behind it on the same line, its text begins with no definition
pub no_definition_there : {e : Term} {a b : Text} → Joined e a b → begins_with_definition e ≡ false → begins_async_function b ≡ false → begins_definition a ≡ false
no_definition_there (defines h) none' behind = absurd (false≢true (sym none' ∙ h))
no_definition_there (calm h) none' behind = h
no_definition_there (alone x) none' behind = async_calm x (ap begins_async_function x.after_is ∙ behind)
