-- Expressions by their derivations, from what is read of their parts: lemmas without a tactic left to do, for the dispatch.
use Rattle.std.proofs.Common.{◌≡◌, ◌≤◌, ℕ, suc, Bool, true, false, not, ◌||◌, List, [], Some, refl, codes}
use Rattle.std.specs.Str.{IsUtf8}
use Rattle.js_term.specs.Term.{Text, is_text, Term, absent, node, one, two, all}
use Rattle.js_term.specs.declared.kind.Kind.{Kind}
use Rattle.js_term.specs.Lexeme.{is_one_of}
use Rattle.js_term.specs.Node.{await_of}
use Rattle.js_syntax.specs.Nodes.{marked, three, of_part, of_parts, private_of, super_of, call_link, new_of, update_of, template_of}
use Rattle.js_syntax.specs.Parts.{is_node}
use Rattle.js_syntax.specs.Texts.{assignment_operators}
use Rattle.js_syntax.specs.Tokens.{word, private_name, sign}
use Rattle.js_syntax.specs.Edges.{full, edge, is_unary, is_update, is_simple_target, is_private_member, is_coalesce_left, member_level, binary_level}
use Rattle.js_syntax.specs.Spelling.{Stands, BareNew, Target}
use Rattle.js_tokens.specs.Next.{lexeme}
use Rattle.js_reading.specs.Reading.{same_line}
use Rattle.js_reading.proofs.TokensThere.{Seen}
use Rattle.js_reading.proofs.Opens.{begins, stands_opens, target_opens, bare_new_opens}
use Rattle.js_reading.proofs.Operations.{SeenOperator, exponentiation_read, conjunction_read, disjunction_read, coalescing_read, binary_read, conditional_read}
use Rattle.js_reading.proofs.Prefixes.{unary_read, await_read, update_before_read, update_behind_read, private_in_read, bare_yield_read, yielding_read, delegating_read}
use Rattle.js_reading.proofs.Listings.{StandsRead, stands, FoundGroup, item_of}
use Rattle.js_reading.proofs.Links.{LinkRead, link_signs, dot_read, bracket_read, SpineRead, first_link_read, next_link_read, chain_read, call_link_read, chain_call}
use Rattle.js_reading.proofs.Calls.{CallRead, call_arguments, call_read, construction_read, super_dot_read, super_bracket_read, super_call_read, OptionsRead, import_call_read}
use Rattle.js_reading.proofs.Grouped.{IsReadTemplate, template_read, tagged_read, function_expression_read, class_expression_read}
use Rattle.js_reading.proofs.Arrows.{TargetRead, assignment_read, ArrowBodyRead, HeadRead, arrow_read}
use Rattle.js_reading.proofs.Claims.{IsReadFunction, IsReadClass}
use Rattle.js_reading.proofs.Shapes.{Shape, stands_shape}

-- ---- links

-- the member of an object, by the sign that makes it
pub data AccessFound : Bool → Term → Term → Text → Text → Type 0 where
  by_chain : {o e : Term} {b c : Text} → LinkRead (codes "?.") o e b c → AccessFound true o e b c
  by_dot : {o e : Term} {b c : Text} → LinkRead (codes ".") o e b c → AccessFound false o e b c
  by_bracket : {o e : Term} {b c : Text} → LinkRead (codes "[") o e b c → AccessFound false o e b c

pub data LinkFound : Bool → Term → Term → Text → Text → Type 0 where
  chained : {o e : Term} {b c : Text} → LinkRead (codes "?.") o e b c → LinkFound true o e b c
  linked : {s : Text} {o e : Term} {b c : Text} → is_one_of s link_signs ≡ true → LinkRead s o e b c → LinkFound false o e b c

pub access_link : {optional : Bool} {o e : Term} {b c : Text} → AccessFound optional o e b c → LinkFound optional o e b c
access_link (by_chain x) = chained x
access_link (by_dot x) = linked refl x
access_link (by_bracket x) = linked refl x

pub member_stands : {i : Bool} {n : ℕ} {o e : Term} {a b c : Text} → 19 ≤ n → StandsRead i n o a b → AccessFound false o e b c → StandsRead i (member_level n) e a c
member_stands h o (by_dot x) = stands (dot_read h o.read x) x.utf8
member_stands h o (by_bracket x) = stands (bracket_read h o.read x) x.utf8

pub super_member_stands : {i : Bool} {e : Term} {a b c : Text} → Seen (word (codes "super")) a b → AccessFound false super_of e b c → is_private_member e ≡ false → StandsRead i 20 e a c
super_member_stands tok (by_dot x) h = stands (super_dot_read tok x h) x.utf8
super_member_stands tok (by_bracket x) h = stands (super_bracket_read tok x h) x.utf8

pub tagged_stands : {i : Bool} {n : ℕ} {t : Term} {qs es : List Term} {a b c : Text} → 19 ≤ n → StandsRead i n t a b → IsReadTemplate false qs es b c → StandsRead i (member_level n) (of_parts Kind.TaggedTemplateExpression t (template_of qs es)) a c
tagged_stands h t x = stands (tagged_read h t.read x) x.utf8

pub template_stands : {i : Bool} {qs es : List Term} {a b : Text} → IsReadTemplate true qs es a b → StandsRead i 21 (template_of qs es) a b
template_stands x = stands (template_read x) x.utf8

pub call_stands : {i : Bool} {n : ℕ} {f : Term} {es : List Term} {a b c : Text} → 19 ≤ n → Shape n f a b → IsUtf8 a → StandsRead i n f a b → CallRead es b c → StandsRead i 19 (call_link false f (all es)) a c
call_stands h shape u f x = let k = x.close in stands (call_read h (shape.async u) f.read x) k.utf8

pub super_call_stands : {i : Bool} {es : List Term} {a b c : Text} → Seen (word (codes "super")) a b → CallRead es b c → StandsRead i 19 (call_link false super_of (all es)) a c
super_call_stands tok x = let k = x.close in stands (super_call_read tok (call_arguments x)) k.utf8

pub construction_stands : {i : Bool} {n : ℕ} {f : Term} {es : List Term} {a b c d : Text} → Seen (word (codes "new")) a b → 20 ≤ n → begins (lexeme b) ≡ true → StandsRead i n f b c → CallRead es c d → StandsRead i 20 (new_of f (all es)) a d
construction_stands tok h starts f x = let k = x.close in stands (construction_read tok h starts f.read (call_arguments x)) k.utf8

pub call_text : {es : List Term} {b m d c : Text} → Seen (sign (codes "(")) b m → FoundGroup (item_of true) es m d → FoundGroup (item_of false) es m d → Seen (sign (codes ")")) d c → CallRead es b c
call_text {m = m} {d = d} x g g' y = record { rest = m; last = d; open' = x; outer = g; inner = g'; close = y }

pub call_linked : {o : Term} {es : List Term} {b c : Text} → CallRead es b c → LinkFound false o (call_link false o (all es)) b c
call_linked {o} x = linked refl (call_link_read o (call_arguments x))

pub call_chained : {o : Term} {es : List Term} {b m c : Text} → Seen (sign (codes "?.")) b m → CallRead es m c → LinkFound true o (call_link true o (all es)) b c
call_chained {o} tok x = chained (chain_call o tok (call_arguments x))

pub first_spine : {i : Bool} {n : ℕ} {o e : Term} {a b c : Text} → 19 ≤ n → StandsRead i n o a b → LinkFound true o e b c → SpineRead i e a c
first_spine h o (chained x) = first_link_read h o.read x

pub next_spine : {i : Bool} {optional : Bool} {o e : Term} {a b c : Text} → SpineRead i o a b → LinkFound optional o e b c → SpineRead i e a c
next_spine s (chained x) = next_link_read refl s x
next_spine s (linked is x) = next_link_read is s x

pub chain_stands : {i : Bool} {e : Term} {a b : Text} → SpineRead i e a b → StandsRead i 18 (of_part Kind.ChainExpression e) a b
chain_stands s = stands (chain_read s) s.utf8

-- ---- operators

pub update_behind_stands : {i : Bool} {n : ℕ} {op : Text} {t : Term} {a b c : Text} → is_update op ≡ true → is_simple_target t ≡ true → Shape n t a b → StandsRead i n t a b → same_line b ≡ true → Seen (sign op) b c → StandsRead i 17 (update_of op false t) a c
update_behind_stands is h shape x line tok = stands (update_behind_read is h (shape.high h) x.read line tok) tok.utf8

pub update_before_stands : {i : Bool} {n : ℕ} {op : Text} {t : Term} {a b c : Text} → is_update op ≡ true → is_simple_target t ≡ true → Shape n t b c → Seen (sign op) a b → StandsRead i n t b c → StandsRead i 17 (update_of op true t) a c
update_before_stands is h shape tok x = stands (update_before_read is h (shape.high h) tok x.read) x.utf8

pub unary_stands : {i : Bool} {n : ℕ} {op : Text} {e : Term} {a b c : Text} → is_unary op ≡ true → 16 ≤ n → SeenOperator op a b → StandsRead i n e b c → StandsRead i 16 (marked Kind.UnaryExpression op (one e)) a c
unary_stands is h tok x = stands (unary_read is h tok x.read) x.utf8

pub await_stands : {i : Bool} {n : ℕ} {e : Term} {a b c : Text} → 16 ≤ n → Seen (word (codes "await")) a b → StandsRead i n e b c → StandsRead i 16 (await_of e) a c
await_stands h tok x = stands (await_read h tok x.read) x.utf8

pub exponentiation_stands : {i : Bool} {m n : ℕ} {l r : Term} {a b c d : Text} → 17 ≤ m → 15 ≤ n → StandsRead i m l a b → Seen (sign (codes "**")) b c → StandsRead i n r c d → StandsRead i 15 (marked Kind.BinaryExpression (codes "**") (two l r)) a d
exponentiation_stands h h' l tok r = stands (exponentiation_read h h' l.read tok r.read) r.utf8

pub binary_stands : {i : Bool} {k m n : ℕ} {op : Text} {l r : Term} {a b c d : Text} → binary_level op ≡ Some k → not (is_text op (codes "in")) || i ≡ true → k ≤ m → suc k ≤ n → StandsRead i m l a b → SeenOperator op b c → StandsRead i n r c d → StandsRead i k (marked Kind.BinaryExpression op (two l r)) a d
binary_stands is allowed h h' l tok r = stands (binary_read is allowed h h' l.read tok r.read) r.utf8

pub private_in_stands : {n : ℕ} {x : Text} {r : Term} {a b c d : Text} → 12 ≤ n → Seen (private_name x) a b → Seen (word (codes "in")) b c → StandsRead true n r c d → StandsRead true 11 (of_parts Kind.PrivateInExpression (private_of x) r) a d
private_in_stands h tok tok' r = stands (private_in_read h tok tok' r.read) r.utf8

pub conjunction_stands : {i : Bool} {m n : ℕ} {l r : Term} {a b c d : Text} → 6 ≤ m → 7 ≤ n → StandsRead i m l a b → Seen (sign (codes "&&")) b c → StandsRead i n r c d → StandsRead i 6 (marked Kind.LogicalExpression (codes "&&") (two l r)) a d
conjunction_stands h h' l tok r = stands (conjunction_read h h' l.read tok r.read) r.utf8

pub disjunction_stands : {i : Bool} {m n : ℕ} {l r : Term} {a b c d : Text} → 5 ≤ m → 6 ≤ n → StandsRead i m l a b → Seen (sign (codes "||")) b c → StandsRead i n r c d → StandsRead i 5 (marked Kind.LogicalExpression (codes "||") (two l r)) a d
disjunction_stands h h' l tok r = stands (disjunction_read h h' l.read tok r.read) r.utf8

pub coalescing_stands : {i : Bool} {m n : ℕ} {l r : Term} {a b c d : Text} → is_coalesce_left m ≡ true → 7 ≤ n → StandsRead i m l a b → Seen (sign (codes "??")) b c → StandsRead i n r c d → StandsRead i 4 (marked Kind.LogicalExpression (codes "??") (two l r)) a d
coalescing_stands h h' l tok r = stands (coalescing_read h h' l.read tok r.read) r.utf8

pub conditional_stands : {i : Bool} {k m n : ℕ} {t e f : Term} {a b c d g h : Text} → 4 ≤ k → StandsRead i k t a b → Seen (sign (codes "?")) b c → StandsRead true m e c d → Seen (sign (codes ":")) d g → StandsRead i n f g h → StandsRead i 3 (node Kind.ConditionalExpression [] (three t e f)) a h
conditional_stands h t tok e tok' f = stands (conditional_read h t.read tok e.read tok' f.read) f.utf8

pub assignment_stands : {i : Bool} {n : ℕ} {op : Text} {t e : Term} {a b c d : Text} → is_one_of op assignment_operators ≡ true → is_simple_target t || is_text op (codes "=") ≡ true → TargetRead i t a b → Seen (sign op) b c → StandsRead i n e c d → StandsRead i 2 (marked Kind.AssignmentExpression op (two t e)) a d
assignment_stands is h t tok e = stands (assignment_read is h t tok e.read) e.utf8

pub arrow_stands : {i : Bool} {async : Text} {ps t : Term} {a b c d : Text} → HeadRead async ps a b → same_line b ≡ true → Seen (sign (codes "=>")) b c → ArrowBodyRead i t c d → StandsRead i 2 (marked Kind.ArrowFunctionExpression async (two ps t)) a d
arrow_stands h line tok t = stands (arrow_read h line tok t) t.utf8

pub bare_yield_stands : {i : Bool} {a b : Text} → Seen (word (codes "yield")) a b → StandsRead i 2 (marked Kind.YieldExpression [] (one absent)) a b
bare_yield_stands tok = stands (bare_yield_read tok) tok.utf8

pub yielding_stands : {i : Bool} {n : ℕ} {e : Term} {a b c : Text} → Seen (word (codes "yield")) a b → same_line b ≡ true → begins (lexeme b) ≡ true → StandsRead i n e b c → StandsRead i 2 (marked Kind.YieldExpression [] (one e)) a c
yielding_stands tok line starts e = stands (yielding_read tok line starts e.read) e.utf8

pub delegating_stands : {i : Bool} {n : ℕ} {e : Term} {a b c d : Text} → Seen (word (codes "yield")) a b → same_line b ≡ true → Seen (sign (codes "*")) b c → StandsRead i n e c d → StandsRead i 2 (marked Kind.YieldExpression (codes "*") (one e)) a d
delegating_stands tok line tok' e = stands (delegating_read tok line tok' e.read) e.utf8

pub import_call_stands : {i : Bool} {n : ℕ} {e o : Term} {a b c d f g : Text} → Seen (word (codes "import")) a b → Seen (sign (codes "(")) b c → StandsRead true n e c d → OptionsRead o d f → Seen (sign (codes ")")) f g → StandsRead i 19 (of_parts Kind.ImportExpression e o) a g
import_call_stands tok tok' e o tok'' = stands (import_call_read tok tok' e.read o tok'') tok''.utf8

pub function_stands : {i : Bool} {f : Term} {a b : Text} → edge f ≡ full → IsReadFunction Kind.FunctionExpression f a b → StandsRead i 21 f a b
function_stands is x = stands (function_expression_read is x) x.utf8

pub class_stands : {i : Bool} {c : Term} {a b : Text} → edge c ≡ full → IsReadClass Kind.ClassExpression c a b → StandsRead i 21 c a b
class_stands is x = stands (class_expression_read is x) x.utf8

-- ---- what an expression begins with

pub stands_starts : {i : Bool} {n : ℕ} {e : Term} {a b : Text} → Stands i n e a b → IsUtf8 a → begins (lexeme a) ≡ true
stands_starts s u = let x = stands_opens s u in x.starts

pub no_spread : {i : Bool} {n : ℕ} {e : Term} {a b : Text} → Stands i n e a b → is_node Kind.SpreadElement e ≡ false
no_spread s = let x = stands_shape s in x.no_spread

pub bare_starts : {i : Bool} {e : Term} {a b : Text} → BareNew i e a b → IsUtf8 a → begins (lexeme a) ≡ true
bare_starts s u = let x = bare_new_opens s u in x.starts

pub target_starts : {i : Bool} {t : Term} {a b : Text} → Target i t a b → IsUtf8 a → begins (lexeme a) ≡ true
target_starts t u = let x = target_opens t u in x.starts
