-- Arrays, objects, parentheses, functions, classes and templates that stand in a text are read, as what begins an expression.
use Rattle.std.proofs.Common.{◌≡◌, ◌≤◌, ◌<◌, ℕ, suc, Bool, true, false, ◌&&◌, List, [], ◌∷◌, length, Option, Some, None, refl, sym, subst, ◌∙◌, ap, arith, codes}
use Rattle.std.specs.Str.{IsUtf8}
use Rattle.std.proofs.lemmas.Bool.{false≢true}
use Rattle.js_term.specs.Term.{Text, Term, all, depth, depths}
use Rattle.js_term.specs.declared.kind.Kind.{Kind}
use Rattle.js_term.specs.Node.{array_of, object_of, parenthesized_of, sequence_of}
use Rattle.js_syntax.specs.Nodes.{of_parts, template_of}
use Rattle.js_syntax.specs.Parts.{is_node}
use Rattle.js_syntax.specs.Tokens.{Lexeme, word, private_name, number, big_integer, string, regexp, no_substitution, template_head, template_middle, template_tail, sign}
use Rattle.js_syntax.specs.Edges.{full, edge, member_level}
use Rattle.js_syntax.specs.Spelling.{is_several}
use Rattle.js_tokens.specs.Next.{lexeme, after}
use Rattle.js_reading.specs.declared.goal.Goal.{Goal}
use Rattle.js_reading.specs.Reading.{Found, closed, Reading, ◌>>=◌, sees, sees_word, same_line, arrow_here, joined, trees, any_cover}
use Rattle.js_reading.specs.Parts.{template_by}
use Rattle.js_reading.specs.Functions.{function}
use Rattle.js_reading.specs.Literals.{is_barred, literal, array, object, property_item, class}
use Rattle.js_reading.specs.Expressions.{at, template_tree, any_spread, parenthesized_by, parenthesized, async_by, async_expression, extended, prefix_by, prefix}
use Rattle.js_reading.specs.Read.{read}
use Rattle.js_reading.proofs.TokensThere.{Seen, sees_by, sees_word_by, expect_read}
use Rattle.js_reading.proofs.Opens.{begins}
use Rattle.js_reading.proofs.Lists.{ReadsGroup, group_some}
use Rattle.js_reading.proofs.Follows.{tightness, takes_name, is_full}
use Rattle.js_reading.proofs.Climbs.{whole, quiet_other, IsRead, first_read, Joins, joined_read}
use Rattle.js_reading.proofs.Leaves.{word_there, no_arrow}
use Rattle.js_reading.proofs.Listings.{StandsRead, FoundList, last_found, and_found, FoundGroup, item_of, element_of, stands_item}
use Rattle.js_reading.proofs.Links.{member_range}
use Rattle.js_reading.proofs.Claims.{FunctionOpens, plain_function, async_function, IsReadFunction, IsReadClass}

-- deeper parts allowed
pub deeper : {i : Bool} {d d' : ℕ} {f : Found} {a b : Text} → IsRead i d f a b → d ≤ d' → IsRead i d' f a b
deeper r h = record {
  shorter = r.shorter;
  high = r.high;
  deep = let s = r.deep in omega arith;
  ends = r.ends;
  keeps = r.keeps;
  some = r.some;
  wide = r.wide;
  tight = r.tight;
  calls = r.calls;
  reach = λ limit least low fits k q. r.reach limit least low (omega arith) k q;
}

-- ---- arrays and objects, whatever they may become

pub array_there : (limit : ℕ) {fs : List Found} {comma : Bool} {b c d : Text} → ReadsGroup (element_of limit) fs comma b c → Seen (sign (codes "]")) c d → array (read limit) b ≡ Some (literal (array_of (all (trees fs))) fs comma, d)
unfolding array
array_there limit r tok' = rw (r.reads (codes "]") refl (sees_by (codes "]") tok'), expect_read tok')

array_prefix : (i : Bool) (limit least : ℕ) {fs : List Found} {comma : Bool} {a b c d : Text} → Seen (sign (codes "[")) a b → ReadsGroup (element_of limit) fs comma b c → Seen (sign (codes "]")) c d → prefix (read limit) i least a ≡ Some (literal (array_of (all (trees fs))) fs comma, d)
unfolding prefix
array_prefix i limit least tok r tok' = rw (tok.lexeme_is, tok.after_is, array_there limit r tok')

-- an array by what was found in it, and the number of levels that stand in it
pub array_found : {i : Bool} {fs : List Found} {comma : Bool} {a b c d : Text} (n : ℕ) → Seen (sign (codes "[")) a b → ((limit : ℕ) → n ≤ limit → ReadsGroup (element_of limit) fs comma b c) → Seen (sign (codes "]")) c d → IsRead i (suc n) (literal (array_of (all (trees fs))) fs comma) a d
array_found {i} n tok r tok' =
    first_read refl refl (let s1 = tok.shorter in let g = r n (omega arith) in let s2 = g.short in let s3 = tok'.shorter in omega arith) (omega arith) (λ limit least fits low h q. array_prefix i limit least tok (r limit (omega arith)) tok')

abbrev pub property_of : ℕ → Text → Reading Found
property_of limit a = property_item (read limit) a

pub object_there : (limit : ℕ) {fs : List Found} {comma : Bool} {b c d : Text} → ReadsGroup (property_of limit) fs comma b c → Seen (sign (codes "}")) c d → object (read limit) b ≡ Some (literal (object_of (all (trees fs))) fs comma, d)
unfolding object
object_there limit r tok' = rw (r.reads (codes "}") refl (sees_by (codes "}") tok'), expect_read tok')

object_prefix : (i : Bool) (limit least : ℕ) {fs : List Found} {comma : Bool} {a b c d : Text} → Seen (sign (codes "{")) a b → ReadsGroup (property_of limit) fs comma b c → Seen (sign (codes "}")) c d → prefix (read limit) i least a ≡ Some (literal (object_of (all (trees fs))) fs comma, d)
unfolding prefix
object_prefix i limit least tok r tok' = rw (tok.lexeme_is, tok.after_is, object_there limit r tok')

pub object_found : {i : Bool} {fs : List Found} {comma : Bool} {a b c d : Text} (n : ℕ) → Seen (sign (codes "{")) a b → ((limit : ℕ) → n ≤ limit → ReadsGroup (property_of limit) fs comma b c) → Seen (sign (codes "}")) c d → IsRead i (suc n) (literal (object_of (all (trees fs))) fs comma) a d
object_found {i} n tok r tok' =
    first_read refl refl (let s1 = tok.shorter in let g = r n (omega arith) in let s2 = g.short in let s3 = tok'.shorter in omega arith) (omega arith) (λ limit least fits low h q. object_prefix i limit least tok (r limit (omega arith)) tok')

array_is : (fs : List Found) (comma : Bool) (es : List Term) → trees fs ≡ es → any_cover fs ≡ false → literal (array_of (all (trees fs))) fs comma ≡ whole (array_of (all es)) 21 (is_barred fs comma)
array_is fs comma es h h' = ap (λ (ts : List Term). record { tree = array_of (all ts); level = 21; cover = any_cover fs; barred = is_barred fs comma }) h ∙ ap (λ (c : Bool). record { tree = array_of (all es); level = 21; cover = c; barred = is_barred fs comma }) h'

object_is : (fs : List Found) (comma : Bool) (es : List Term) → trees fs ≡ es → any_cover fs ≡ false → literal (object_of (all (trees fs))) fs comma ≡ whole (object_of (all es)) 21 (is_barred fs comma)
object_is fs comma es h h' = ap (λ (ts : List Term). record { tree = object_of (all ts); level = 21; cover = any_cover fs; barred = is_barred fs comma }) h ∙ ap (λ (c : Bool). record { tree = object_of (all es); level = 21; cover = c; barred = is_barred fs comma }) h'

pub array_read : {i : Bool} {es : List Term} {a b c d : Text} → Seen (sign (codes "[")) a b → FoundGroup element_of es b c → Seen (sign (codes "]")) c d → StandsRead i 21 (array_of (all es)) a d
array_read {i} {es} {a} {d = d} tok g tok' = record {
  barred = is_barred g.found g.comma;
  read = deeper (subst (λ f. IsRead i (suc (depths (all es))) f a d) (array_is g.found g.comma es g.trees_are g.covers_are) (array_found (depths (all es)) tok (λ limit fits. g.reads limit fits) tok')) (omega arith);
  utf8 = tok'.utf8;
  simple = λ h. absurd (false≢true h);
}

pub object_read : {i : Bool} {es : List Term} {a b c d : Text} → Seen (sign (codes "{")) a b → FoundGroup property_of es b c → Seen (sign (codes "}")) c d → StandsRead i 21 (object_of (all es)) a d
object_read {i} {es} {a} {d = d} tok g tok' = record {
  barred = is_barred g.found g.comma;
  read = deeper (subst (λ f. IsRead i (suc (depths (all es))) f a d) (object_is g.found g.comma es g.trees_are g.covers_are) (object_found (depths (all es)) tok (λ limit fits. g.reads limit fits) tok')) (omega arith);
  utf8 = tok'.utf8;
  simple = λ h. absurd (false≢true h);
}

-- ---- parentheses (13.2.9)

-- expressions between parentheses, none of which is a spread
pub record ParenList (es : List Term) (a b : Text) : Type 0 where
  pub list : FoundList (item_of false) false es a b
  pub spreads : any_spread list.found ≡ false
  pub some : length es ≡ 0 → ⊥

spread_first : (f : Found) (fs : List Found) (e : Term) → f.tree ≡ e → is_node Kind.SpreadElement e ≡ false → any_spread fs ≡ false → any_spread (f ∷ fs) ≡ false
spread_first f fs e same h h' = rw (same, h, h') refl

pub last_paren : {n : ℕ} {e : Term} {a b : Text} → StandsRead true n e a b → begins (lexeme a) ≡ true → is_node Kind.SpreadElement e ≡ false → ParenList (e ∷ []) a b
unfolding last_found
last_paren {e = e} x starts h = let y = stands_item false x starts in record { list = last_found y; spreads = spread_first y.found [] e y.tree_is h refl; some = λ z. omega arith }

pub and_paren : {n : ℕ} {e : Term} {es : List Term} {a b c d : Text} → StandsRead true n e a b → begins (lexeme a) ≡ true → is_node Kind.SpreadElement e ≡ false → Seen (sign (codes ",")) b c → ParenList es c d → ParenList (e ∷ es) a d
unfolding and_found
and_paren {e = e} x starts h tok rest = let y = stands_item false x starts in let l = rest.list in record { list = and_found y tok rest.list; spreads = spread_first y.found l.found e y.tree_is h rest.spreads; some = λ z. omega arith }

parenthesized_is : (sub : Goal → Text → Reading Found) (fs : List Found) (es : List Term) (c : Text) → trees fs ≡ es → (length es ≡ 0 → ⊥) → any_cover fs ≡ false → any_spread fs ≡ false → parenthesized_by sub fs false c ≡ Some (closed (parenthesized_of (joined es)) 21, c)
parenthesized_is sub [] es c h some h' h'' = absurd (some (ap length (sym h)))
parenthesized_is sub (f ∷ fs) es c h some h' h'' = rw (h', h'') (ap (λ (ts : List Term). Some (closed (parenthesized_of (joined ts)) 21, c)) h)

parenthesized_there : (i : Bool) (limit : ℕ) {es : List Term} {b c d : Text} → (x : ParenList es b c) → depths (all es) ≤ limit → Seen (sign (codes ")")) c d → arrow_here d ≡ false → parenthesized (read limit) i b ≡ Some (closed (parenthesized_of (joined es)) 21, d)
unfolding parenthesized
parenthesized_there i limit {es} {d = d} x fits tok h =
    let l = x.list in
    let g = group_some refl (l.reads limit fits) in
    rw (g.reads (codes ")") refl (sees_by (codes ")") tok), expect_read tok, h) (parenthesized_is (read limit) l.found es d l.trees_are x.some l.covers_are x.spreads)

parenthesized_begun : (sub : Goal → Text → Reading Found) (i : Bool) (least : ℕ) {a b : Text} → Seen (sign (codes "(")) a b → prefix sub i least a ≡ parenthesized sub i b
unfolding prefix
parenthesized_begun sub i least tok = rw (tok.lexeme_is, tok.after_is)

depths_joined : (es : List Term) → depths (all es) ≤ depth (joined es)
depths_joined [] = omega arith
depths_joined (e ∷ []) = omega arith
depths_joined (e ∷ e' ∷ es) = omega arith

pub parenthesized_read : {i : Bool} {es : List Term} {a b c d : Text} → Seen (sign (codes "(")) a b → ParenList es b c → Seen (sign (codes ")")) c d → IsRead i (depth (parenthesized_of (joined es))) (closed (parenthesized_of (joined es)) 21) a d
parenthesized_read {i} {es} {d = d} tok x tok' =
    let l = x.list in
    let deep = depths_joined es in
    first_read refl refl (let s1 = tok.shorter in let g = l.reads (depths (all es)) (omega arith) in let s2 = g.short in let s3 = tok'.shorter in omega arith) (omega arith)
    (λ limit least fits low h q. parenthesized_begun (read limit) i least tok ∙ parenthesized_there i limit x (omega arith) tok' (no_arrow d h))

several_joined : (es : List Term) → is_several es ≡ true → joined es ≡ sequence_of (all es)
several_joined [] h = absurd (false≢true h)
several_joined (e ∷ []) h = absurd (false≢true h)
several_joined (e ∷ f ∷ es) h = refl

pub single_paren : {i : Bool} {e : Term} {a b c d : Text} → Seen (sign (codes "(")) a b → ParenList (e ∷ []) b c → Seen (sign (codes ")")) c d → IsRead i (depth (parenthesized_of e)) (closed (parenthesized_of e) 21) a d
single_paren tok x tok' = parenthesized_read tok x tok'

pub sequence_paren : {i : Bool} {es : List Term} {a b c d : Text} → is_several es ≡ true → Seen (sign (codes "(")) a b → ParenList es b c → Seen (sign (codes ")")) c d → IsRead i (depth (parenthesized_of (sequence_of (all es)))) (closed (parenthesized_of (sequence_of (all es))) 21) a d
sequence_paren {i} {es} {a} {d = d} h tok x tok' = subst (λ (e : Term). IsRead i (depth (parenthesized_of e)) (closed (parenthesized_of e) 21) a d) (several_joined es h) (parenthesized_read tok x tok')

-- ---- functions and classes

function_begun : (sub : Goal → Text → Reading Found) (i : Bool) (least : ℕ) {async a b : Text} → FunctionOpens async a b → prefix sub i least a ≡ (function sub Kind.FunctionExpression async b >>= at 21)
unfolding async_expression async_by
function_begun sub i least (plain_function tok) = word_there sub i least tok
function_begun sub i least (async_function tok line tok') = word_there sub i least tok ∙ rw (line, sees_word_by (codes "function") tok', tok'.after_is)

pub function_expression_read : {i : Bool} {g : Term} {a b : Text} → edge g ≡ full → IsReadFunction Kind.FunctionExpression g a b → IsRead i (depth g) (closed g 21) a b
function_expression_read {i} {g} is x = first_read refl is x.shorter x.deep (λ limit least fits low h q. function_begun (read limit) i least x.opens ∙ ap (λ r. r >>= at 21) (x.reads limit fits))

class_begun : (sub : Goal → Text → Reading Found) (i : Bool) (least : ℕ) {a b : Text} → Seen (word (codes "class")) a b → prefix sub i least a ≡ (class sub Kind.ClassExpression b >>= at 21)
class_begun sub i least tok = word_there sub i least tok

pub class_expression_read : {i : Bool} {g : Term} {a b : Text} → edge g ≡ full → IsReadClass Kind.ClassExpression g a b → IsRead i (depth g) (closed g 21) a b
class_expression_read {i} {g} is x = first_read refl is x.shorter x.deep (λ limit least fits low h q. class_begun (read limit) i least x.opens ∙ ap (λ r. r >>= at 21) (x.reads limit fits))

-- ---- templates (13.2.8, 13.3)

abbrev pub opens_template : Option Lexeme → Bool
opens_template (Some (no_substitution raw)) = true
opens_template (Some (template_head raw)) = true
opens_template o = false

-- A template is read behind the token that opens it.
pub record IsReadTemplate (sound : Bool) (qs es : List Term) (a b : Text) : Type 0 where
  pub utf8 : IsUtf8 b
  pub shorter : length b < length a
  pub opens : opens_template (lexeme a) ≡ true
  pub reads : (limit : ℕ) → depths (all es) ≤ limit → template_by (read limit) sound (lexeme a) (after a) ≡ Some ((qs, es), b)

template_prefix : (sub : Goal → Text → Reading Found) (i : Bool) (least : ℕ) (o : Option Lexeme) (a : Text) → opens_template o ≡ true → prefix_by sub i least o a ≡ (template_by sub true o (after a) >>= λ q b. at 21 (template_tree q) b)
template_prefix sub i least (Some (no_substitution x)) a h = refl
template_prefix sub i least (Some (template_head x)) a h = refl
template_prefix sub i least None a h = absurd (false≢true h)
template_prefix sub i least (Some (sign s)) a h = absurd (false≢true h)
template_prefix sub i least (Some (word x)) a h = absurd (false≢true h)
template_prefix sub i least (Some (private_name x)) a h = absurd (false≢true h)
template_prefix sub i least (Some (number x)) a h = absurd (false≢true h)
template_prefix sub i least (Some (big_integer x)) a h = absurd (false≢true h)
template_prefix sub i least (Some (string x v)) a h = absurd (false≢true h)
template_prefix sub i least (Some (regexp x v)) a h = absurd (false≢true h)
template_prefix sub i least (Some (template_middle x)) a h = absurd (false≢true h)
template_prefix sub i least (Some (template_tail x)) a h = absurd (false≢true h)

template_there : (i : Bool) (least limit : ℕ) {qs es : List Term} {a b : Text} → IsReadTemplate true qs es a b → depths (all es) ≤ limit → prefix (read limit) i least a ≡ Some (closed (template_of qs es) 21, b)
unfolding prefix
template_there i least limit {a = a} x fits = template_prefix (read limit) i least (lexeme a) a x.opens ∙ ap (λ r. r >>= λ q b. at 21 (template_tree q) b) (x.reads limit fits)

pub template_read : {i : Bool} {qs es : List Term} {a b : Text} → IsReadTemplate true qs es a b → IsRead i (depth (template_of qs es)) (closed (template_of qs es) 21) a b
template_read {i} x = first_read refl refl x.shorter (omega arith) (λ limit least fits low h q. template_there i least limit x (omega arith))

-- what the token that opens one is
pub data TemplateToken (b : Text) : Type 0 where
  whole_token : (raw : Text) → lexeme b ≡ Some (no_substitution raw) → TemplateToken b
  head_token : (raw : Text) → lexeme b ≡ Some (template_head raw) → TemplateToken b

template_token : (b : Text) → opens_template (lexeme b) ≡ true → TemplateToken b
template_token b h = go (lexeme b) refl h
  where
    go : (o : Option Lexeme) → lexeme b ≡ o → opens_template o ≡ true → TemplateToken b
    go (Some (no_substitution x)) is h = whole_token x is
    go (Some (template_head x)) is h = head_token x is
    go None is h = absurd (false≢true h)
    go (Some (sign s)) is h = absurd (false≢true h)
    go (Some (word x)) is h = absurd (false≢true h)
    go (Some (private_name x)) is h = absurd (false≢true h)
    go (Some (number x)) is h = absurd (false≢true h)
    go (Some (big_integer x)) is h = absurd (false≢true h)
    go (Some (string x v)) is h = absurd (false≢true h)
    go (Some (regexp x v)) is h = absurd (false≢true h)
    go (Some (template_middle x)) is h = absurd (false≢true h)
    go (Some (template_tail x)) is h = absurd (false≢true h)

line_false : (line : Bool) → (line && false) ≡ false
line_false true = refl
line_false false = refl

template_takes : (b : Text) → TemplateToken b → takes_name b ≡ false
unfolding takes_name arrow_here sees sees_word
template_takes b (whole_token raw is) = rw is (line_false (same_line b))
template_takes b (head_token raw is) = rw is (line_false (same_line b))

template_tight : (i : Bool) (b : Text) → TemplateToken b → tightness i b ≤ 19
unfolding tightness
template_tight i b (whole_token raw is) = rw (template_takes b (whole_token raw is), is) (omega arith)
template_tight i b (head_token raw is) = rw (template_takes b (head_token raw is), is) (omega arith)

template_joins : {i : Bool} {n : ℕ} {b : Text} → TemplateToken b → 19 ≤ n → Joins i n (member_level n) 19 b
template_joins {i} {n} {b} (whole_token raw is) h = record { some = rw is (omega arith); gives_is = rw is refl; needs_low = rw is h; suit = rw is refl; tight = template_tight i b (whole_token raw is) }
template_joins {i} {n} {b} (head_token raw is) h = record { some = rw is (omega arith); gives_is = rw is refl; needs_low = rw is h; suit = rw is refl; tight = template_tight i b (head_token raw is) }

template_no_paren : (b : Text) → TemplateToken b → sees (codes "(") b ≡ false
unfolding sees
template_no_paren b (whole_token raw is) = rw is refl
template_no_paren b (head_token raw is) = rw is refl

template_extends : (sub : Goal → Text → Reading Found) (i : Bool) (t : Term) (n : ℕ) (p : Bool) (b : Text) → TemplateToken b → extended sub i (whole t n p) b ≡ (template_by sub false (lexeme b) (after b) >>= λ q c. Some (closed (of_parts Kind.TaggedTemplateExpression t (template_tree q)) (member_level n), c))
unfolding extended
template_extends sub i t n p b (whole_token raw is) = rw is refl
template_extends sub i t n p b (head_token raw is) = rw is refl

pub tagged_read : {i : Bool} {n : ℕ} {t : Term} {p : Bool} {qs es : List Term} {a b c : Text} → 19 ≤ n → IsRead i (depth t) (whole t n p) a b → IsReadTemplate false qs es b c → IsRead i (depth (of_parts Kind.TaggedTemplateExpression t (template_of qs es))) (closed (of_parts Kind.TaggedTemplateExpression t (template_of qs es)) (member_level n)) a c
tagged_read {i} {n} {t} {p} {b = b} high left x =
    let tok = template_token b x.opens in
    let range = member_range n high in
    let r0 = range.0 in
    let r1 = range.1 in
    let r2 = range.2 in
    joined_read 21 left (template_joins tok high) (quiet_other t b (template_no_paren b tok)) (omega arith) (omega arith) r1 (omega arith) (left.calls high) x.shorter
    (is_full refl) (omega arith) (λ h. omega arith) (λ h h'. omega arith) (λ h. omega arith)
    (λ limit fits h. template_extends (read limit) i t n p b tok ∙ ap (λ r. r >>= λ q c. Some (closed (of_parts Kind.TaggedTemplateExpression t (template_tree q)) (member_level n), c)) (x.reads limit (omega arith)))
