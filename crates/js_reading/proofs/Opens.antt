-- How the text of an expression begins.
use Rattle.std.proofs.Common.{◌≡◌, ℕ, Bool, true, false, not, ◌&&◌, ◌||◌, List, [], ◌∷◌, Option, Some, None, refl, sym, ◌∙◌, ap, map, codes}
use Rattle.std.specs.Str.{IsUtf8}
use Rattle.std.proofs.lemmas.Bool.{false≢true, or_left, or_right, or_from, not-true}
use Rattle.js_term.specs.Term.{Text, is_text, Term, node, none, all}
use Rattle.js_term.specs.declared.kind.Kind.{Kind}
use Rattle.js_term.specs.Lexeme.{is_reserved, is_one_of}
use Rattle.js_term.specs.Node.{truth, boolean_of, sequence_of}
use Rattle.js_syntax.specs.Texts.{unary_operators, update_operators}
use Rattle.js_syntax.specs.Tokens.{Lexeme, word, private_name, number, big_integer, string, regexp, no_substitution, template_head, template_middle, template_tail, sign, Token, Word, Sign}
use Rattle.js_syntax.specs.Edges.{is_unary, is_update, leftmost, begins_with_brace, begins_with_definition}
use Rattle.js_syntax.specs.Spelling as spell
use Rattle.js_syntax.specs.Spelling.{Stands, Target, Expression, Listed, Access, Link, Spine, BareNew, Template, FunctionText, ClassText, ArrowHead, Operator}
use Rattle.js_syntax.proofs.Fronts.{same_text, among}
use Rattle.js_tokens.specs.Looks.{is_div_lexeme}
use Rattle.js_tokens.specs.Next.{lexeme, after}
use Rattle.js_reading.specs.Reading.{is_sign, is_word, sees, sees_word, same_line}
use Rattle.js_reading.specs.Statements.{begins_async_function}
use Rattle.js_reading.proofs.TokensThere.{Seen, see, see_word, sees_by, sees_word_by, on_line, slash_there, is_slash_sign}

-- words that are reserved and begin an expression
abbrev pub expression_words : List Text
expression_words = map codes ("this" ∷ "null" ∷ "true" ∷ "false" ∷ "function" ∷ "class" ∷ "new" ∷ "super" ∷ "import" ∷ "await" ∷ "yield" ∷ [])

abbrev pub expression_signs : List Text
expression_signs = map codes ("(" ∷ "[" ∷ "{" ∷ "/" ∷ "/=" ∷ [])

-- whether the token begins an expression
abbrev pub begins_by : Lexeme → Bool
begins_by (word x) = not (is_reserved x) || is_unary x || is_one_of x expression_words
begins_by (sign s) = is_unary s || is_update s || is_one_of s expression_signs
begins_by (template_middle raw) = false
begins_by (template_tail raw) = false
begins_by (regexp pattern flags) = false
begins_by l = true

abbrev pub begins : Option Lexeme → Bool
begins None = false
begins (Some l) = begins_by l

-- whether the text begins with `function`, `class` or `async function`
abbrev pub begins_definition : Text → Bool
begins_definition a = sees_word (codes "function") a || (sees_word (codes "class") a || (sees_word (codes "async") a && begins_async_function (after a)))

pub record Opens (e : Term) (a : Text) : Type 0 where
  pub starts : begins (lexeme a) ≡ true
  pub brace : begins_with_brace e ≡ sees (codes "{") a
  pub definition : begins_with_definition e ≡ true → begins_definition a ≡ true

-- by its first token
leaf : {e : Term} {l : Lexeme} {a b : Text} → Token a l b → IsUtf8 a → is_div_lexeme l ≡ true → begins_by l ≡ true → begins_with_brace e ≡ is_sign (codes "{") (Some l) → begins_with_definition e ≡ false → Opens e a
leaf tok u goal h brace plain = let x = see tok u goal in record {
  starts = ap begins x.lexeme_is ∙ h;
  brace = brace ∙ sym (sees_by (codes "{") x);
  definition = λ y. absurd (false≢true (sym plain ∙ y));
}

name_leaf : {e : Term} {x a b : Text} → is_reserved x ≡ false → Word x a b → IsUtf8 a → begins_with_brace e ≡ false → begins_with_definition e ≡ false → Opens e a
name_leaf {x = x} free tok u brace plain = leaf tok u refl (rw free refl) brace plain

-- by its first part
passes : {o e : Term} {a : Text} → Opens o a → leftmost e ≡ leftmost o → Opens e a
passes x same = record {
  starts = x.starts;
  brace = rw same x.brace;
  definition = λ y. x.definition (rw (sym same) y);
}

-- ---- words and signs

or_middle : (p q r : Bool) → q ≡ true → (p || q || r) ≡ true
or_middle true q r h = refl
or_middle false true r h = refl
or_middle false false r h = absurd (false≢true h)

no_brace : (op : Text) → is_unary op ≡ true → is_text op (codes "{") ≡ false
no_brace op is = not-true _ (among (λ s. not (is_text s (codes "{"))) unary_operators op refl is)

no_brace_update : (op : Text) → is_update op ≡ true → is_text op (codes "{") ≡ false
no_brace_update op is = not-true _ (among (λ s. not (is_text s (codes "{"))) update_operators op refl is)

unary_opens : {e : Term} {op a b : Text} → is_unary op ≡ true → Operator op a b → IsUtf8 a → begins_with_brace e ≡ false → begins_with_definition e ≡ false → Opens e a
unary_opens {op = op} is (spell.word_operator h tok) u brace plain = leaf tok u refl (or_middle (not (is_reserved op)) (is_unary op) (is_one_of op expression_words) is) brace plain
unary_opens {op = op} is (spell.sign_operator tok) u brace plain = leaf tok u refl (rw is refl) (brace ∙ sym (no_brace op is)) plain

update_opens : {e : Term} {op a b : Text} → is_update op ≡ true → Sign op a b → IsUtf8 a → begins_with_brace e ≡ false → begins_with_definition e ≡ false → Opens e a
update_opens {op = op} is tok u brace plain = leaf tok u refl (or_middle (is_unary op) (is_update op) (is_one_of op expression_signs) is) (brace ∙ sym (no_brace_update op is)) plain

regexp_opens : {e : Term} {pattern flags a b : Text} → Token a (regexp pattern flags) b → begins_with_brace e ≡ false → begins_with_definition e ≡ false → Opens e a
unfolding sees
regexp_opens {a = a} tok brace plain = record {
  starts = slash_starts (lexeme a) (slash_there tok);
  brace = brace ∙ sym (slash_brace (lexeme a) (slash_there tok));
  definition = λ y. absurd (false≢true (sym plain ∙ y));
}
  where
    slash_starts : (o : Option Lexeme) → is_slash_sign o ≡ true → begins o ≡ true
    slash_starts None h = absurd (false≢true h)
    slash_starts (Some (sign s)) h = among (λ t. begins_by (sign t)) (codes "/" ∷ codes "/=" ∷ []) s refl h
    slash_starts (Some (word x)) h = absurd (false≢true h)
    slash_starts (Some (private_name x)) h = absurd (false≢true h)
    slash_starts (Some (number x)) h = absurd (false≢true h)
    slash_starts (Some (big_integer x)) h = absurd (false≢true h)
    slash_starts (Some (string x v)) h = absurd (false≢true h)
    slash_starts (Some (regexp x v)) h = absurd (false≢true h)
    slash_starts (Some (no_substitution x)) h = absurd (false≢true h)
    slash_starts (Some (template_head x)) h = absurd (false≢true h)
    slash_starts (Some (template_middle x)) h = absurd (false≢true h)
    slash_starts (Some (template_tail x)) h = absurd (false≢true h)

    slash_brace : (o : Option Lexeme) → is_slash_sign o ≡ true → is_sign (codes "{") o ≡ false
    slash_brace None h = refl
    slash_brace (Some (sign s)) h = not-true _ (among (λ t. not (is_text t (codes "{"))) (codes "/" ∷ codes "/=" ∷ []) s refl h)
    slash_brace (Some (word x)) h = refl
    slash_brace (Some (private_name x)) h = refl
    slash_brace (Some (number x)) h = refl
    slash_brace (Some (big_integer x)) h = refl
    slash_brace (Some (string x v)) h = refl
    slash_brace (Some (regexp x v)) h = refl
    slash_brace (Some (no_substitution x)) h = refl
    slash_brace (Some (template_head x)) h = refl
    slash_brace (Some (template_middle x)) h = refl
    slash_brace (Some (template_tail x)) h = refl

template_opens : {e : Term} {sound : Bool} {qs es : List Term} {a b : Text} → Template sound qs es a b → IsUtf8 a → begins_with_brace e ≡ false → begins_with_definition e ≡ false → Opens e a
template_opens (spell.whole_template h tok) u brace plain = leaf tok u refl refl brace plain
template_opens (spell.template_parts h tok e rest) u brace plain = leaf tok u refl refl brace plain

-- ---- definitions

-- the text of a function or a class begins so, whatever it is for
pub record Defines (a : Text) : Type 0 where
  pub starts : begins (lexeme a) ≡ true
  pub no_brace : sees (codes "{") a ≡ false
  pub definition : begins_definition a ≡ true

pub async_definition : {a b c : Text} → Seen (word (codes "async")) a b → same_line b ≡ true → Seen (word (codes "function")) b c → begins_async_function (after a) ≡ true
unfolding begins_async_function
async_definition x line y = rw (x.after_is, line, sees_word_by (codes "function") y) refl

pub function_defines : {k : Kind} {f : Term} {a b : Text} → FunctionText k f a b → IsUtf8 a → Defines a
function_defines (spell.function spell.no_async w s id ps t) u = let x = see_word w u in record {
  starts = ap begins x.lexeme_is;
  no_brace = sees_by (codes "{") x;
  definition = or_left _ _ (sees_word_by (codes "function") x);
}
function_defines (spell.function {a = a} (spell.with_async tok line) w s id ps t) u =
    let x = see_word tok u in
    let y = see_word w x.utf8 in
    let joined = async_definition x (on_line _ line) y in
    record {
      starts = ap begins x.lexeme_is;
      no_brace = sees_by (codes "{") x;
      definition = or_right (sees_word (codes "function") a) _ (or_right (sees_word (codes "class") a) _ (rw (sees_word_by (codes "async") x) joined));
    }

pub class_defines : {k : Kind} {c : Term} {a b : Text} → ClassText k c a b → IsUtf8 a → Defines a
class_defines (spell.class {a = a} w id h x es y) u = let x = see_word w u in record {
  starts = ap begins x.lexeme_is;
  no_brace = sees_by (codes "{") x;
  definition = or_right (sees_word (codes "function") a) _ (or_left _ _ (sees_word_by (codes "class") x));
}

defined : {e : Term} {a : Text} → Defines a → begins_with_brace e ≡ false → Opens e a
defined x brace = let open_ = x.no_brace in record { starts = x.starts; brace = brace ∙ sym open_; definition = λ y. x.definition }

function_opens : {f : Term} {a b : Text} → FunctionText Kind.FunctionExpression f a b → IsUtf8 a → Opens f a
function_opens (spell.function async w s id ps t) u = defined (function_defines {k = Kind.FunctionExpression} (spell.function async w s id ps t) u) refl

class_opens : {c : Term} {a b : Text} → ClassText Kind.ClassExpression c a b → IsUtf8 a → Opens c a
class_opens (spell.class w id h x es y) u = defined (class_defines {k = Kind.ClassExpression} (spell.class w id h x es y) u) refl

-- ---- what begins with its first part

access_left : {optional : Bool} {o e : Term} {a b : Text} → Access optional o e a b → leftmost e ≡ leftmost o
access_left (spell.static_access x y) = refl
access_left (spell.computed_access x y e z) = refl
access_left (spell.private_access x y) = refl

link_left : {optional : Bool} {o e : Term} {a b : Text} → Link optional o e a b → leftmost e ≡ leftmost o
link_left (spell.access_link x) = access_left x
link_left (spell.argument_link x y) = refl

super_opens : {e : Term} {a b c : Text} → Word (codes "super") a b → Access false (node Kind.Super [] none) e b c → IsUtf8 a → Opens e a
super_opens tok (spell.static_access x y) u = leaf tok u refl refl refl refl
super_opens tok (spell.computed_access x y e z) u = leaf tok u refl refl refl refl
super_opens tok (spell.private_access x y) u = leaf tok u refl refl refl refl

boolean_opens : (v : Bool) {a b : Text} → Word (truth v) a b → IsUtf8 a → Opens (boolean_of v) a
boolean_opens true tok u = leaf tok u refl refl refl refl
boolean_opens false tok u = leaf tok u refl refl refl refl

pub bare_new_opens : {i : Bool} {e : Term} {a b : Text} → BareNew i e a b → IsUtf8 a → Opens e a
bare_new_opens (spell.new_member tok h s) u = leaf tok u refl refl refl refl
bare_new_opens (spell.new_new tok s) u = leaf tok u refl refl refl refl

head_opens : {e ps : Term} {async a b : Text} → ArrowHead async ps a b → IsUtf8 a → begins_with_brace e ≡ false → begins_with_definition e ≡ false → Opens e a
head_opens (spell.arrow_parameters (spell.parameters x ps y)) u brace plain = leaf x u refl refl brace plain
head_opens (spell.arrow_name free tok) u brace plain = name_leaf free tok u brace plain
head_opens (spell.arrow_async tok line h) u brace plain = leaf tok u refl refl brace plain

mutual
  pub stands_opens : {i : Bool} {n : ℕ} {e : Term} {a b : Text} → Stands i n e a b → IsUtf8 a → Opens e a
  stands_opens (spell.identifier free tok) u = name_leaf free tok u refl refl
  stands_opens (spell.this_expression tok) u = leaf tok u refl refl refl refl
  stands_opens (spell.null_literal tok) u = leaf tok u refl refl refl refl
  stands_opens (spell.boolean v tok) u = boolean_opens v tok u
  stands_opens (spell.numeric tok) u = leaf tok u refl refl refl refl
  stands_opens (spell.bigint tok) u = leaf tok u refl refl refl refl
  stands_opens (spell.string_literal tok) u = leaf tok u refl refl refl refl
  stands_opens (spell.regexp_literal tok) u = regexp_opens tok refl refl
  stands_opens (spell.template t) u = template_opens t u refl refl
  stands_opens (spell.array x g y) u = leaf x u refl refl refl refl
  stands_opens (spell.object x g y) u = leaf x u refl refl refl refl
  stands_opens (spell.function_expression f) u = function_opens f u
  stands_opens (spell.class_expression c) u = class_opens c u
  stands_opens (spell.parenthesized x e y) u = leaf x u refl refl refl refl
  stands_opens (spell.import_meta x y z) u = leaf x u refl refl refl refl
  stands_opens (spell.new_target x y z) u = leaf x u refl refl refl refl
  stands_opens (spell.member h o x) u = passes (stands_opens o u) (access_left x)
  stands_opens (spell.super_member tok x h) u = super_opens tok x u
  stands_opens (spell.tagged h t q) u = passes (stands_opens t u) refl
  stands_opens (spell.construction tok h f es) u = leaf tok u refl refl refl refl
  stands_opens (spell.bare_construction s) u = bare_new_opens s u
  stands_opens (spell.call h f es) u = passes (stands_opens f u) refl
  stands_opens (spell.super_call tok es) u = leaf tok u refl refl refl refl
  stands_opens (spell.import_call tok x e o y) u = leaf tok u refl refl refl refl
  stands_opens (spell.chain s) u = passes (spine_opens s u) refl
  stands_opens (spell.update_behind is h s line tok) u = passes (stands_opens s u) refl
  stands_opens (spell.update_before is h tok s) u = update_opens is tok u refl refl
  stands_opens (spell.unary is h o s) u = unary_opens is o u refl refl
  stands_opens (spell.await_expression h tok s) u = leaf tok u refl refl refl refl
  stands_opens (spell.exponentiation h h' l tok r) u = passes (stands_opens l u) refl
  stands_opens (spell.binary is h h' h'' l tok r) u = passes (stands_opens l u) refl
  stands_opens (spell.private_in h tok x s) u = leaf tok u refl refl refl refl
  stands_opens (spell.conjunction h h' l tok r) u = passes (stands_opens l u) refl
  stands_opens (spell.disjunction h h' l tok r) u = passes (stands_opens l u) refl
  stands_opens (spell.coalescing h h' l tok r) u = passes (stands_opens l u) refl
  stands_opens (spell.conditional h t x e y f) u = passes (stands_opens t u) refl
  stands_opens (spell.assignment is h t tok e) u = passes (target_opens t u) refl
  stands_opens (spell.arrow h line tok t) u = head_opens h u refl refl
  stands_opens (spell.bare_yield tok) u = leaf tok u refl refl refl refl
  stands_opens (spell.yielding tok line e) u = leaf tok u refl refl refl refl
  stands_opens (spell.delegating tok line x e) u = leaf tok u refl refl refl refl

  spine_opens : {i : Bool} {e : Term} {a b : Text} → Spine i e a b → IsUtf8 a → Opens e a
  spine_opens (spell.first_link h o x) u = passes (stands_opens o u) (link_left x)
  spine_opens (spell.next_link s x) u = passes (spine_opens s u) (link_left x)

  pub target_opens : {i : Bool} {t : Term} {a b : Text} → Target i t a b → IsUtf8 a → Opens t a
  target_opens (spell.simple_target h s) u = stands_opens s u
  target_opens (spell.object_target x ps y) u = leaf x u refl refl refl refl
  target_opens (spell.array_target x ps y) u = leaf x u refl refl refl refl

listed_opens : {i : Bool} {es : List Term} {a b : Text} → Listed (spell.expression i) es a b → IsUtf8 a → Opens (sequence_of (all es)) a
listed_opens (spell.last (spell.an_expression s)) u = passes (stands_opens s u) refl
listed_opens (spell.and (spell.an_expression s) tok rest) u = passes (stands_opens s u) refl

pub expression_opens : {i : Bool} {e : Term} {a b : Text} → Expression i e a b → IsUtf8 a → Opens e a
expression_opens (spell.single s) u = stands_opens s u
expression_opens (spell.sequence h l) u = listed_opens l u

-- ---- what no expression begins with

sign_among : (s : Text) (o : Option Lexeme) → begins o ≡ true → begins_by (sign s) ≡ false → is_sign s o ≡ false
sign_among s None h other = refl
sign_among s (Some (sign t)) h other = go (is_text t s) refl
  where
    go : (b : Bool) → is_text t s ≡ b → is_text t s ≡ false
    go false e = e
    go true e = absurd (false≢true (sym other ∙ ap (λ z. begins_by (sign z)) (sym (same_text t s e)) ∙ h))
sign_among s (Some (word x)) h other = refl
sign_among s (Some (private_name x)) h other = refl
sign_among s (Some (number x)) h other = refl
sign_among s (Some (big_integer x)) h other = refl
sign_among s (Some (string x v)) h other = refl
sign_among s (Some (regexp x v)) h other = refl
sign_among s (Some (no_substitution x)) h other = refl
sign_among s (Some (template_head x)) h other = refl
sign_among s (Some (template_middle x)) h other = refl
sign_among s (Some (template_tail x)) h other = refl

pub word_among : (x : Text) (o : Option Lexeme) → begins o ≡ true → begins_by (word x) ≡ false → is_word x o ≡ false
word_among x None h other = refl
word_among x (Some (word y)) h other = go (is_text y x) refl
  where
    go : (b : Bool) → is_text y x ≡ b → is_text y x ≡ false
    go false e = e
    go true e = absurd (false≢true (sym other ∙ ap (λ z. begins_by (word z)) (sym (same_text y x e)) ∙ h))
word_among x (Some (sign s)) h other = refl
word_among x (Some (private_name y)) h other = refl
word_among x (Some (number y)) h other = refl
word_among x (Some (big_integer y)) h other = refl
word_among x (Some (string y v)) h other = refl
word_among x (Some (regexp y v)) h other = refl
word_among x (Some (no_substitution y)) h other = refl
word_among x (Some (template_head y)) h other = refl
word_among x (Some (template_middle y)) h other = refl
word_among x (Some (template_tail y)) h other = refl

pub no_sign_there : (s a : Text) → begins (lexeme a) ≡ true → begins_by (sign s) ≡ false → sees s a ≡ false
unfolding sees
no_sign_there s a h other = sign_among s (lexeme a) h other

pub no_word_there : (x a : Text) → begins (lexeme a) ≡ true → begins_by (word x) ≡ false → sees_word x a ≡ false
unfolding sees_word
no_word_there x a h other = word_among x (lexeme a) h other

-- ---- what begins with neither brace nor definition

same_false : (p q : Bool) → (p ≡ true → q ≡ true) → q ≡ false → p ≡ false
same_false true q h other = absurd (false≢true (sym other ∙ h refl))
same_false false q h other = refl

pub no_definition : {e : Term} {a : Text} → Opens e a → begins_definition a ≡ false → begins_with_definition e ≡ false
no_definition {e} {a} x h = same_false (begins_with_definition e) (begins_definition a) x.definition h

-- The text of an expression begins with `{`, `function`, `class` or `async function` where its tree does.
pub begins_plain : {e : Term} {a : Text} → Opens e a → sees (codes "{") a ≡ false → begins_definition a ≡ false → begins_with_brace e || begins_with_definition e ≡ false
begins_plain {e} x brace h = or_from (begins_with_brace e) (begins_with_definition e) (x.brace ∙ brace) (no_definition x h)
