-- Declarations that stand in a text are read.
use Rattle.std.proofs.Common.{◌≡◌, ◌≤◌, ◌<◌, ℕ, Bool, true, false, not, ◌&&◌, List, [], ◌∷◌, length, Option, Some, refl, sym, subst, ◌∙◌, ap, arith, codes}
use Rattle.std.specs.Str.{IsUtf8}
use Rattle.std.proofs.lemmas.Bool.{not-true, not_from_false, and_parts, and_from}
use Rattle.js_term.specs.Term.{Text, Term, absent, list, node, all, depth, depths}
use Rattle.js_term.specs.declared.kind.Kind.{Kind}
use Rattle.js_term.specs.Lexeme.{is_one_of}
use Rattle.js_syntax.specs.Nodes.{variables_of, declarator_of}
use Rattle.js_syntax.specs.Tokens.{Lexeme, word, sign}
use Rattle.js_syntax.specs.Edges.{edge, edge_or_plain, declared_edge, is_unnamed}
use Rattle.js_syntax.specs.Spelling.{Semicolon}
use Rattle.js_syntax.proofs.Fronts.{among}
use Rattle.js_tokens.specs.Next.{lexeme}
use Rattle.js_reading.specs.Reading.{sees}
use Rattle.js_reading.specs.Functions.{function}
use Rattle.js_reading.specs.Literals.{class}
use Rattle.js_reading.specs.Statements.{begins_async_function, sees_each, declarator, declarators, variables, function_declaration, class_declaration, word_statement, statement}
use Rattle.js_reading.specs.Read.{read}
use Rattle.js_reading.proofs.Each.{no_sign_by}
use Rattle.js_reading.proofs.TokensThere.{Seen, sees_word_by}
use Rattle.js_reading.proofs.TokensEnd.{Ended, ended, lexeme_sees, semicolon_read, semicolon_utf8, semicolon_short}
use Rattle.js_reading.proofs.Lists.{is_end, is_closing, ReadsItem, some_item, ReadsAll, last_all, and_all}
use Rattle.js_reading.proofs.Follows.{holds, end_holds, Ends, is_loose}
use Rattle.js_reading.proofs.Climbs.{ends_low}
use Rattle.js_reading.proofs.Listings.{StandsRead}
use Rattle.js_reading.proofs.Claims.{IsReadPattern, FunctionOpens, plain_function, async_function, IsReadFunction, IsReadClass}
use Rattle.js_reading.proofs.Functions.{IsReadInitializer, no_initializer_read, initializer_read, bound_read, pattern_no_sign}
use Rattle.js_reading.proofs.Ending.{behind_semicolon, ended_operand}
use Rattle.js_reading.proofs.StatementStarts.{starts, starts_by, Follows, semicolon_follows, IsReadStatement, word_there}

-- ---- a declarator

-- a pattern, and what it is initialized by, or nothing
pub record IsReadDeclarator (i : Bool) (p e : Term) (a b : Text) : Type 0 where
  pub middle : Text
  pub pattern : IsReadPattern p a middle
  pub value : IsReadInitializer i e middle b
  pub ends : Ends 2 (edge e)
  pub each : sees_each b ≡ false → sees_each middle ≡ false

pub bare_declarator_read : {i : Bool} {p : Term} {a b : Text} → IsReadPattern p a b → IsReadDeclarator i p absent a b
bare_declarator_read {b = b} x = record { middle = b; pattern = x; value = no_initializer_read x.utf8; ends = is_loose refl (omega arith); each = λ h. h }

pub declarator_read : {i : Bool} {n : ℕ} {p e : Term} {a b c d : Text} → IsReadPattern p a b → Seen (sign (codes "=")) b c → StandsRead i n e c d → IsReadDeclarator i p e a d
unfolding sees_each
declarator_read {b = b} x tok y = let r = y.read in record { middle = b; pattern = x; value = initializer_read tok y; ends = ends_low r.ends; each = λ h. rw (sees_word_by (codes "in") tok, sees_word_by (codes "of") tok) refl }

declarator_there : {i : Bool} {p e : Term} {a b : Text} → IsReadDeclarator i p e a b → (limit : ℕ) → depth (declarator_of p e) ≤ limit → holds i (edge e) 1 b ≡ true → sees (codes "=") b ≡ false → declarator (read limit) i a ≡ Some (declarator_of p e, b)
unfolding declarator
declarator_there x limit fits h h' = let v = x.value in rw (bound_read x.pattern limit (omega arith), v.reads limit (omega arith) h h')

no_closing : (a : Text) (o : Option Lexeme) → lexeme a ≡ o → sees (codes ")") a ≡ false → sees (codes "]") a ≡ false → sees (codes "}") a ≡ false → is_closing o ≡ false
no_closing a (Some (sign s)) is h h' h'' = rw (sym (lexeme_sees (codes ")") a _ is) ∙ h, sym (lexeme_sees (codes "]") a _ is) ∙ h', sym (lexeme_sees (codes "}") a _ is) ∙ h'') refl
no_closing a o is h h' h'' = refl

pattern_open : {p : Term} {a b : Text} → IsReadPattern p a b → is_closing (lexeme a) ≡ false
pattern_open {a = a} x = no_closing a (lexeme a) refl (pattern_no_sign (codes ")") x refl refl) (pattern_no_sign (codes "]") x refl refl) (pattern_no_sign (codes "}") x refl refl)

-- what may stand behind a declarator whose initializer is this
abbrev pub may_follow : Bool → Term → Text → Bool
may_follow i e b = holds i (edge e) 1 b && not (sees (codes "=") b)

declarator_item : {i : Bool} {p e : Term} {a b : Text} → IsReadDeclarator i p e a b → (limit : ℕ) → depth (declarator_of p e) ≤ limit → ReadsItem false (may_follow i e b) (declarator (read limit) i) (declarator_of p e) a b
declarator_item {i} {p} {e} {a} {b} x limit fits = some_item (may_follow i e b) (let q = x.pattern in let v = x.value in let s1 = q.shorter in let s2 = v.short in omega arith) (pattern_open x.pattern)
    (λ h. declarator_there x limit fits (end_holds i (edge e) 1 b h) (no_sign_by is_end (codes "=") b h refl))
    (λ h. let (k, other) = and_parts (holds i (edge e) 1 b) _ h in declarator_there x limit fits k (not-true _ other))

-- ---- declarators with commas between

pub data IsReadDeclarators (i : Bool) : List Term → Text → Text → Type 0 where
  last_declarator : {p e : Term} {a b : Text} → IsReadDeclarator i p e a b → IsReadDeclarators i (declarator_of p e ∷ []) a b
  and_declarator : {p e : Term} {ds : List Term} {a b c d : Text} → IsReadDeclarator i p e a b → Seen (sign (codes ",")) b c → IsReadDeclarators i ds c d → IsReadDeclarators i (declarator_of p e ∷ ds) a d

-- they are read up to what may stand behind the initializer of the last
pub record ReadsDeclarators (i : Bool) (ds : List Term) (a b : Text) : Type 0 where
  pub utf8 : IsUtf8 b
  pub shorter : length b < length a
  pub last : Term
  pub edge_is : declared_edge ds ≡ edge_or_plain last
  pub skip : (p e : Term) → declared_edge (declarator_of p e ∷ ds) ≡ declared_edge ds
  pub ends : Ends 2 (edge last)
  pub reads : (limit : ℕ) → depths (all ds) ≤ limit → ReadsAll false (may_follow i last b) (declarator (read limit) i) ds a b

pub reads_declarators : {i : Bool} {ds : List Term} {a b : Text} → IsReadDeclarators i ds a b → ReadsDeclarators i ds a b
reads_declarators (last_declarator {e = e} x) = let q = x.pattern in let v = x.value in record {
  utf8 = v.utf8;
  shorter = let s1 = q.shorter in let s2 = v.short in omega arith;
  last = e;
  edge_is = refl;
  skip = λ p e. refl;
  ends = x.ends;
  reads = λ limit fits. last_all (declarator_item x limit (omega arith));
}
reads_declarators (and_declarator {p} {e} x tok rest) = let q = x.pattern in let v = x.value in let r = reads_declarators rest in record {
  utf8 = r.utf8;
  shorter = let s1 = q.shorter in let s2 = v.short in let s3 = tok.shorter in let s4 = r.shorter in omega arith;
  last = r.last;
  edge_is = r.skip p e ∙ r.edge_is;
  skip = λ p e. refl;
  ends = r.ends;
  reads = λ limit fits. and_all (declarator_item x limit (omega arith)) tok (r.reads limit (omega arith));
}

pub declarators_there : {i : Bool} {ds : List Term} {a b : Text} (r : ReadsDeclarators i ds a b) → (limit : ℕ) → depths (all ds) ≤ limit → may_follow i r.last b ≡ true → sees (codes ",") b ≡ false → declarators (read limit) i a ≡ Some (ds, b)
unfolding declarators
declarators_there {a = a} r limit fits h h' = let x = r.reads limit fits in x.separated (length a) [] (omega arith) refl h h'

-- ---- variables

value_behind : (e : Term) {b c : Text} → Ends 2 (edge e) → IsUtf8 b → Ended (edge_or_plain e) b c → holds true (edge e) 1 b ≡ true
unfolding holds
value_behind absent ends u end = ended_operand end
value_behind (list ts) ends u end = (behind_semicolon u ends end).keeps
value_behind (node k texts ts) ends u end = (behind_semicolon u ends end).keeps

variables_reads : {kind : Text} {ds : List Term} {a b c d : Text} (limit : ℕ) → is_one_of kind (codes "var" ∷ codes "let" ∷ codes "const" ∷ []) ≡ true → Seen (word kind) a b → ReadsDeclarators true ds b c → Semicolon (declared_edge ds) c d → depths (all ds) ≤ limit → Follows d → statement (read limit) a ≡ Some (variables_of kind ds, d)
unfolding word_statement variables
variables_reads {c = c} {d} limit is tok r end fits w =
    let v = r.utf8 in
    let f = semicolon_follows end v w in
    let keeps = value_behind r.last r.ends v (ended (subst (λ x. Semicolon x c d) r.edge_is end) v) in
    word_there (read limit) tok ∙ rw (is, tok.after_is, declarators_there r limit fits (and_from _ _ keeps (not_from_false _ f.no_equals)) f.no_comma, semicolon_read end v)

pub variables_read : {kind : Text} {ds : List Term} {a b c d : Text} → is_one_of kind (codes "var" ∷ codes "let" ∷ codes "const" ∷ []) ≡ true → Seen (word kind) a b → IsReadDeclarators true ds b c → Semicolon (declared_edge ds) c d → IsReadStatement (variables_of kind ds) a d
variables_read {kind} is tok x end = let r = reads_declarators x in record {
  utf8 = semicolon_utf8 end r.utf8;
  shorter = let s1 = tok.shorter in let s2 = r.shorter in let s3 = semicolon_short end r.utf8 in omega arith;
  begun = ap starts tok.lexeme_is ∙ among (λ x. starts_by (word x)) (codes "var" ∷ codes "let" ∷ codes "const" ∷ []) kind refl is;
  deep = omega arith;
  reads = λ limit fits w h. variables_reads limit is tok r end (omega arith) w;
}

-- ---- functions and classes

function_begun : {async a b : Text} → FunctionOpens async a b → starts (lexeme a) ≡ true
function_begun (plain_function tok) = ap starts tok.lexeme_is
function_begun (async_function tok line tok') = ap starts tok.lexeme_is

function_there : {f : Term} {async a b c : Text} (limit : ℕ) → is_unnamed f ≡ false → FunctionOpens async a b → function (read limit) Kind.FunctionDeclaration async b ≡ Some (f, c) → statement (read limit) a ≡ Some (f, c)
unfolding word_statement function_declaration begins_async_function
function_there limit named (plain_function tok) h = word_there (read limit) tok ∙ rw (tok.after_is, h, named)
function_there limit named (async_function tok line tok') h = word_there (read limit) tok ∙ rw (tok.after_is, line, sees_word_by (codes "function") tok', tok'.after_is, h, named)

pub function_declaration_read : {f : Term} {a b : Text} → is_unnamed f ≡ false → IsReadFunction Kind.FunctionDeclaration f a b → IsReadStatement f a b
function_declaration_read named x = record {
  utf8 = x.utf8;
  shorter = x.shorter;
  begun = function_begun x.opens;
  deep = x.deep;
  reads = λ limit fits w h. function_there limit named x.opens (x.reads limit fits);
}

class_there : {c : Term} {a b d : Text} (limit : ℕ) → is_unnamed c ≡ false → Seen (word (codes "class")) a b → class (read limit) Kind.ClassDeclaration b ≡ Some (c, d) → statement (read limit) a ≡ Some (c, d)
unfolding word_statement class_declaration
class_there limit named tok h = word_there (read limit) tok ∙ rw (tok.after_is, h, named)

pub class_declaration_read : {c : Term} {a b : Text} → is_unnamed c ≡ false → IsReadClass Kind.ClassDeclaration c a b → IsReadStatement c a b
class_declaration_read named x = let tok = x.opens in record {
  utf8 = x.utf8;
  shorter = x.shorter;
  begun = ap starts tok.lexeme_is;
  deep = x.deep;
  reads = λ limit fits w h. class_there limit named tok (x.reads limit fits);
}
