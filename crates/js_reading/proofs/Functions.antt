-- Functions that stand in a text are read.
use Rattle.std.proofs.Common.{◌≡◌, ◌≤◌, ◌<◌, ℕ, zero, suc, Bool, true, false, not, ◌&&◌, List, [], ◌∷◌, ◌++◌, length, Option, Some, None, refl, sym, ◌∙◌, ap, append_assoc, append-nil, arith, codes}
use Rattle.std.specs.Str.{IsUtf8}
use Rattle.std.proofs.lemmas.Bool.{false≢true}
use Rattle.js_term.specs.Term.{Text, Term, absent, all, depth, depths, is_text}
use Rattle.js_term.specs.declared.kind.Kind.{Kind}
use Rattle.js_term.specs.Lexeme.{is_reserved}
use Rattle.js_term.specs.Node.{binding_of}
use Rattle.js_syntax.specs.Nodes.{of_text, of_part, rested, parameter_of, function_node, body_node}
use Rattle.js_syntax.specs.Tokens.{word, string, sign}
use Rattle.js_syntax.specs.Edges.{edge, full}
use Rattle.js_tokens.specs.Next.{lexeme, after}
use Rattle.js_reading.specs.declared.goal.Goal.{Goal}
use Rattle.js_reading.specs.Reading.{Found, Reading, sees, semicolon, name, binding}
use Rattle.js_reading.specs.Functions.{star, naming, Parameters, no_rest, rest_last, directive_by, directives, bound, initializer, parameter, parameter_items, parameter_list, parameters, enclosed, body, function, method_function}
use Rattle.js_reading.specs.Statements.{pattern}
use Rattle.js_reading.specs.Read.{read}
use Rattle.js_reading.proofs.TokensThere.{Seen, expect_read, sees_by}
use Rattle.js_reading.proofs.Each.{no_sign_by}
use Rattle.js_reading.proofs.Lists.{is_end, sees_sign, ending_end, comma_seen}
use Rattle.js_reading.proofs.Follows.{holds, end_holds}
use Rattle.js_reading.proofs.Climbs.{right_read}
use Rattle.js_reading.proofs.Listings.{StandsRead}
use Rattle.js_reading.proofs.Claims.{IsReadPattern, FunctionOpens, plain_function, async_function, IsReadFunction, IsReadStatements}

-- ---- names and marks

pub record IsReadStar (s : Text) (a b : Text) : Type 0 where
  pub utf8 : IsUtf8 b
  pub short : length b ≤ length a
  pub reads : star a ≡ Some (s, b)

pub no_star_read : {a : Text} → IsUtf8 a → sees (codes "*") a ≡ false → IsReadStar [] a a
unfolding star
no_star_read u h = record { utf8 = u; short = omega arith; reads = rw h }

pub star_read : {a b : Text} → Seen (sign (codes "*")) a b → IsReadStar (codes "*") a b
unfolding star
star_read tok = record { utf8 = tok.utf8; short = let s = tok.shorter in omega arith; reads = rw (sees_by (codes "*") tok, tok.after_is) }

pub record IsReadNaming (id : Term) (a b : Text) : Type 0 where
  pub utf8 : IsUtf8 b
  pub short : length b ≤ length a
  pub reads : naming a ≡ Some (id, b)

-- where no name stands: before the parameters of a function or the brace of a class, or before `extends`
pub data Nameless (a : Text) : Type 0 where
  before_sign : {s : Text} → lexeme a ≡ Some (sign s) → Nameless a
  before_word : {x : Text} → is_reserved x ≡ true → lexeme a ≡ Some (word x) → Nameless a

nameless_there : {a : Text} → Nameless a → naming a ≡ Some (absent, a)
unfolding naming
nameless_there (before_sign is) = rw is
nameless_there (before_word h is) = rw (is, h)

pub unnamed_read : {a : Text} → IsUtf8 a → Nameless a → IsReadNaming absent a a
unnamed_read u h = record { utf8 = u; short = omega arith; reads = nameless_there h }

pub named_read : {x a b : Text} → is_reserved x ≡ false → Seen (word x) a b → IsReadNaming (binding_of x) a b
unfolding naming
named_read h tok = record { utf8 = tok.utf8; short = let s = tok.shorter in omega arith; reads = rw (tok.lexeme_is, h, tok.after_is) }

-- ---- initializers

pub record IsReadInitializer (i : Bool) (e : Term) (a b : Text) : Type 0 where
  pub utf8 : IsUtf8 b
  pub short : length b ≤ length a
  pub reads : (limit : ℕ) → depth e ≤ limit → holds i (edge e) 1 b ≡ true → sees (codes "=") b ≡ false → initializer (read limit) i a ≡ Some (e, b)

pub no_initializer_there : (sub : Goal → Text → Reading Found) (i : Bool) {a : Text} → sees (codes "=") a ≡ false → initializer sub i a ≡ Some (absent, a)
unfolding initializer
no_initializer_there sub i h = rw h

pub no_initializer_read : {i : Bool} {a : Text} → IsUtf8 a → IsReadInitializer i absent a a
no_initializer_read {i} u = record { utf8 = u; short = omega arith; reads = λ limit fits h h'. no_initializer_there (read limit) i h' }

pub initializer_read : {i : Bool} {n : ℕ} {e : Term} {a b c : Text} → Seen (sign (codes "=")) a b → StandsRead i n e b c → IsReadInitializer i e a c
unfolding initializer
initializer_read tok x = let r = x.read in record {
  utf8 = x.utf8;
  short = let s1 = tok.shorter in let s2 = r.shorter in omega arith;
  reads = λ limit fits h h'. rw (sees_by (codes "=") tok, tok.after_is, right_read r limit fits h);
}

pub initializer_before : {i : Bool} {e : Term} {a b : Text} → IsReadInitializer i e a b → (limit : ℕ) → depth e ≤ limit → is_end (lexeme b) ≡ true → initializer (read limit) i a ≡ Some (e, b)
initializer_before {i} {e} {b = b} x limit fits h = x.reads limit fits (end_holds i (edge e) 1 b h) (no_sign_by is_end (codes "=") b h refl)

-- ---- patterns, as the parts of functions

pub bound_read : {p : Term} {a b : Text} → IsReadPattern p a b → (limit : ℕ) → depth p ≤ limit → bound (read limit) a ≡ Some (p, b)
unfolding bound read
bound_read x zero fits = absurd (let d = x.deep in omega arith)
bound_read x (suc limit) fits = rw (x.reads limit fits)

-- a pattern begins with a name, or with one of these signs
sign_no_pattern : (sub : Goal → Text → Reading Found) (s a : Text) → lexeme a ≡ Some (sign s) → is_text s (codes "{") ≡ false → is_text s (codes "[") ≡ false → pattern sub a ≡ None
unfolding pattern sees binding name
sign_no_pattern sub s a is h h' = rw (is, h, h')

abbrev is_some : {A : Type 0} → Option A → Bool
is_some None = false
is_some (Some x) = true

pub pattern_no_sign : {p : Term} {a b : Text} (s : Text) → IsReadPattern p a b → is_text s (codes "{") ≡ false → is_text s (codes "[") ≡ false → sees s a ≡ false
pattern_no_sign {p} {a} s x h h' = go (sees s a) refl
  where
    go : (v : Bool) → sees s a ≡ v → sees s a ≡ false
    go false is = is
    go true is = absurd (false≢true (ap is_some (sym (sign_no_pattern (read (depth p)) s a (sees_sign s a is) h h') ∙ x.reads (depth p) (omega arith))))

-- ---- parameters

pub record IsReadParameter (p : Term) (a b : Text) : Type 0 where
  pub utf8 : IsUtf8 b
  pub shorter : length b < length a
  pub no_dots : sees (codes "...") a ≡ false
  pub no_close : sees (codes ")") a ≡ false
  pub reads : (limit : ℕ) → depth p ≤ limit → is_end (lexeme b) ≡ true → parameter (read limit) a ≡ Some (p, b)

parameter_there : {p e : Term} {a b c : Text} → IsReadPattern p a b → IsReadInitializer true e b c → (limit : ℕ) → depth (parameter_of p e) ≤ limit → is_end (lexeme c) ≡ true → parameter (read limit) a ≡ Some (parameter_of p e, c)
unfolding parameter
parameter_there x y limit fits h = rw (bound_read x limit (omega arith), initializer_before y limit (omega arith) h)

pub parameter_read : {p e : Term} {a b c : Text} → IsReadPattern p a b → IsReadInitializer true e b c → IsReadParameter (parameter_of p e) a c
parameter_read x y = record {
  utf8 = y.utf8;
  shorter = let s1 = x.shorter in let s2 = y.short in omega arith;
  no_dots = pattern_no_sign (codes "...") x refl refl;
  no_close = pattern_no_sign (codes ")") x refl refl;
  reads = λ limit fits h. parameter_there x y limit fits h;
}

-- parameters up to the parenthesis
pub record IsReadParameters (ps : List Term) (rest : Term) (comma : Bool) (a b : Text) : Type 0 where
  pub utf8 : IsUtf8 b
  pub shorter : length b < length a
  pub no_close : sees (codes ")") a ≡ false
  pub reads : (limit n : ℕ) (found : List Term) → depths (all ps) ≤ limit → depth rest ≤ limit → length a ≤ n → sees (codes ")") b ≡ true →
      parameter_items (read limit) n found a ≡ Some (record { items = found ++ ps; rest = rest; comma = comma }, b)

abbrev listing : List Term → Term → Bool → Parameters
listing ps rest comma = record { items = ps; rest = rest; comma = comma }

closes_no_comma : (b : Text) → lexeme b ≡ Some (sign (codes ")")) → sees (codes ",") b ≡ false
unfolding sees
closes_no_comma b is = rw is

-- a parameter, and what stands behind it
last_there : {p : Term} {a b : Text} → IsReadParameter p a b → (limit n : ℕ) (found : List Term) → depth p ≤ limit → length a ≤ n → sees (codes ")") b ≡ true → parameter_items (read limit) n found a ≡ Some (no_rest (found ++ p ∷ []) false, b)
unfolding parameter_items
last_there x limit zero found fits enough h = absurd (let s = x.shorter in omega arith)
last_there {b = b} x limit (suc n) found fits enough h = rw (x.no_dots, x.reads limit fits (ending_end (codes ")") b refl h), closes_no_comma b (sees_sign (codes ")") b h))

trailing_there : {p : Term} {a b c : Text} → IsReadParameter p a b → Seen (sign (codes ",")) b c → (limit n : ℕ) (found : List Term) → depth p ≤ limit → length a ≤ n → sees (codes ")") c ≡ true → parameter_items (read limit) n found a ≡ Some (no_rest (found ++ p ∷ []) true, c)
unfolding parameter_items
trailing_there x tok limit zero found fits enough h = absurd (let s = x.shorter in omega arith)
trailing_there x tok limit (suc n) found fits enough h = rw (x.no_dots, x.reads limit fits (ap is_end tok.lexeme_is), comma_seen tok, tok.after_is, h)

more_there : {p : Term} {a b c : Text} → IsReadParameter p a b → Seen (sign (codes ",")) b c → (limit n : ℕ) (found : List Term) → depth p ≤ limit → sees (codes ")") c ≡ false → parameter_items (read limit) (suc n) found a ≡ parameter_items (read limit) n (found ++ p ∷ []) c
unfolding parameter_items
more_there x tok limit n found fits h = rw (x.no_dots, x.reads limit fits (ap is_end tok.lexeme_is), comma_seen tok, tok.after_is, h)

rest_there : {p : Term} {a b c : Text} → Seen (sign (codes "...")) a b → IsReadPattern p b c → (limit n : ℕ) (found : List Term) → depth p ≤ limit → length a ≤ n → parameter_items (read limit) n found a ≡ Some (rest_last found p, c)
unfolding parameter_items
rest_there tok x limit zero found fits enough = absurd (let s = tok.shorter in omega arith)
rest_there tok x limit (suc n) found fits enough = rw (sees_by (codes "...") tok, tok.after_is, bound_read x limit fits)

pub last_parameter_read : {p : Term} {a b : Text} → IsReadParameter p a b → IsReadParameters (p ∷ []) absent false a b
last_parameter_read x = record { utf8 = x.utf8; shorter = x.shorter; no_close = x.no_close; reads = λ limit n found fits fits' enough h. last_there x limit n found (omega arith) enough h }

pub trailing_parameter_read : {p : Term} {a b c : Text} → IsReadParameter p a b → Seen (sign (codes ",")) b c → IsReadParameters (p ∷ []) absent true a c
trailing_parameter_read x tok = record { utf8 = tok.utf8; shorter = let s1 = x.shorter in let s2 = tok.shorter in omega arith; no_close = x.no_close; reads = λ limit n found fits fits' enough h. trailing_there x tok limit n found (omega arith) enough h }

pub rest_parameter_read : {p : Term} {a b c : Text} → Seen (sign (codes "...")) a b → IsReadPattern p b c → IsReadParameters [] (of_part Kind.FormalParameterRest (of_part Kind.BindingRestElement p)) false a c
rest_parameter_read {p} {c = c} tok x = record {
  utf8 = x.utf8;
  shorter = let s1 = tok.shorter in let s2 = x.shorter in omega arith;
  no_close = sees_by (codes ")") tok;
  reads = λ limit n found fits fits' enough h. rest_there tok x limit n found (omega arith) enough ∙ ap (λ ps. Some (rest_last ps p, c)) (sym (append-nil found));
}

pub and_parameter_read : {p r : Term} {ps : List Term} {k : Bool} {a b c d : Text} → IsReadParameter p a b → Seen (sign (codes ",")) b c → IsReadParameters ps r k c d → IsReadParameters (p ∷ ps) r k a d
and_parameter_read {p} {r} {ps} {k} {a} {b} {c} {d} x tok rest = record {
  utf8 = rest.utf8;
  shorter = let s1 = x.shorter in let s2 = tok.shorter in let s3 = rest.shorter in omega arith;
  no_close = x.no_close;
  reads = go;
}
  where
    go : (limit n : ℕ) (found : List Term) → depths (all (p ∷ ps)) ≤ limit → depth r ≤ limit → length a ≤ n → sees (codes ")") d ≡ true → parameter_items (read limit) n found a ≡ Some (listing (found ++ p ∷ ps) r k, d)
    go limit zero found fits fits' enough h = absurd (let s1 = x.shorter in omega arith)
    go limit (suc n) found fits fits' enough h =
        more_there x tok limit n found (omega arith) rest.no_close
        ∙ rest.reads limit n (found ++ p ∷ []) (omega arith) fits' (let s1 = x.shorter in let s2 = tok.shorter in omega arith) h
        ∙ ap (λ ys. Some (listing ys r k, d)) (append_assoc found (p ∷ []) ps)

-- what stands between the parentheses
pub record IsReadRested (t : Bool) (ps : List Term) (r : Term) (a b : Text) : Type 0 where
  pub utf8 : IsUtf8 b
  pub short : length b ≤ length a
  pub comma : Bool
  pub allowed : comma && not t ≡ false
  pub reads : (limit : ℕ) → depths (all ps) ≤ limit → depth r ≤ limit → sees (codes ")") b ≡ true → parameter_list (read limit) a ≡ Some (listing ps r comma, b)

none_there : (sub : Goal → Text → Reading Found) {a : Text} → sees (codes ")") a ≡ true → parameter_list sub a ≡ Some (no_rest [] false, a)
unfolding parameter_list
none_there sub h = rw h

pub no_parameters_read : {t : Bool} {a : Text} → IsUtf8 a → IsReadRested t [] absent a a
no_parameters_read u = record { utf8 = u; short = omega arith; comma = false; allowed = refl; reads = λ limit fits fits' h. none_there (read limit) h }

list_there : {ps : List Term} {r : Term} {k : Bool} {a b : Text} → IsReadParameters ps r k a b → (limit : ℕ) → depths (all ps) ≤ limit → depth r ≤ limit → sees (codes ")") b ≡ true → parameter_list (read limit) a ≡ Some (listing ps r k, b)
unfolding parameter_list
list_there {a = a} x limit fits fits' h = rw (x.no_close, x.reads limit (length a) [] fits fits' (omega arith) h)

pub some_parameters_read : {t : Bool} {ps : List Term} {r : Term} {k : Bool} {a b : Text} → IsReadParameters ps r k a b → k && not t ≡ false → IsReadRested t ps r a b
some_parameters_read {k = k} x h = record { utf8 = x.utf8; short = let s = x.shorter in omega arith; comma = k; allowed = h; reads = λ limit fits fits' h'. list_there x limit fits fits' h' }

-- the parameters with their parentheses; the flag allows a comma behind them
pub record IsReadFormals (t : Bool) (ps : Term) (a b : Text) : Type 0 where
  pub utf8 : IsUtf8 b
  pub shorter : length b < length a
  pub opens : lexeme a ≡ Some (sign (codes "("))
  pub reads : (limit : ℕ) → depth ps ≤ limit → parameters (read limit) t a ≡ Some (ps, b)

formals_there : {t : Bool} {ps : List Term} {r : Term} {a b c d : Text} → Seen (sign (codes "(")) a b → IsReadRested t ps r b c → Seen (sign (codes ")")) c d → (limit : ℕ) → depths (all ps) ≤ limit → depth r ≤ limit → parameters (read limit) t a ≡ Some (rested Kind.FormalParameters ps r, d)
unfolding parameters
formals_there opens x closes limit fits fits' = let h = x.allowed in rw (expect_read opens, x.reads limit fits fits' (sees_by (codes ")") closes), expect_read closes, h)

pub formals_read : {t : Bool} {ps : List Term} {r : Term} {a b c d : Text} → Seen (sign (codes "(")) a b → IsReadRested t ps r b c → Seen (sign (codes ")")) c d → IsReadFormals t (rested Kind.FormalParameters ps r) a d
formals_read opens x closes = record {
  utf8 = closes.utf8;
  shorter = let s1 = opens.shorter in let s2 = x.short in let s3 = closes.shorter in omega arith;
  opens = opens.lexeme_is;
  reads = λ limit fits. formals_there opens x closes limit (omega arith) (omega arith);
}

-- ---- bodies

-- directives, behind which no string token stands that a semicolon ends
pub record IsReadDirectives (ds : List Term) (a b : Text) : Type 0 where
  pub utf8 : IsUtf8 b
  pub short : length b ≤ length a
  pub reads : (n : ℕ) (found : List Term) → length a < n → directive_by (lexeme b) (after b) ≡ None → directives n found a ≡ Some (found ++ ds, b)

no_directives_there : (a : Text) (n : ℕ) (found : List Term) → length a < n → directive_by (lexeme a) (after a) ≡ None → directives n found a ≡ Some (found ++ [], a)
unfolding directives
no_directives_there a zero found enough h = absurd (omega arith)
no_directives_there a (suc n) found enough h = rw (h, append-nil found)

pub no_directives_read : {a : Text} → IsUtf8 a → IsReadDirectives [] a a
no_directives_read {a} u = record { utf8 = u; short = omega arith; reads = λ n found enough h. no_directives_there a n found enough h }

directive_there : {raw v a b c d : Text} {ds : List Term} → Seen (string raw v) a b → semicolon full b ≡ Some (tt, c) → length c ≤ length b → IsReadDirectives ds c d → (n : ℕ) (found : List Term) → length a < n → directive_by (lexeme d) (after d) ≡ None →
    directives n found a ≡ Some (found ++ of_text Kind.Directive raw ∷ ds, d)
unfolding directives
directive_there tok end short rest zero found enough h = absurd (omega arith)
directive_there {raw} {ds = ds} tok end short rest (suc n) found enough h = rw (
  tok.lexeme_is,
  tok.after_is,
  end,
  rest.reads n (found ++ of_text Kind.Directive raw ∷ []) (let s1 = tok.shorter in omega arith) h,
  append_assoc found (of_text Kind.Directive raw ∷ []) ds,
)

pub directive_read : {raw v a b c d : Text} {ds : List Term} → Seen (string raw v) a b → semicolon full b ≡ Some (tt, c) → length c ≤ length b → IsReadDirectives ds c d → IsReadDirectives (of_text Kind.Directive raw ∷ ds) a d
directive_read tok end short rest = record {
  utf8 = rest.utf8;
  short = let s1 = tok.shorter in let s2 = rest.short in omega arith;
  reads = λ n found enough h. directive_there tok end short rest n found enough h;
}

pub closed_statements : {ss : List Term} {a b c : Text} → IsReadStatements ss a b → Seen (sign (codes "}")) b c → (limit : ℕ) → depths (all ss) ≤ limit → enclosed (read limit) a ≡ Some (ss, c)
unfolding enclosed
closed_statements {a = a} x closes limit fits = rw (x.reads limit (length a) [] fits (omega arith) (sees_by (codes "}") closes), expect_read closes)

pub record IsReadBody (t : Term) (a b : Text) : Type 0 where
  pub utf8 : IsUtf8 b
  pub shorter : length b < length a
  pub opens : lexeme a ≡ Some (sign (codes "{"))
  pub reads : (limit : ℕ) → depth t ≤ limit → body (read limit) a ≡ Some (t, b)

body_there : {ds ss : List Term} {a b c d e : Text} → Seen (sign (codes "{")) a b → IsReadDirectives ds b c → directive_by (lexeme c) (after c) ≡ None → IsReadStatements ss c d → Seen (sign (codes "}")) d e → (limit : ℕ) → depths (all ss) ≤ limit → body (read limit) a ≡ Some (body_node ds ss, e)
unfolding body
body_there {b = b} opens x apart y closes limit fits = rw (expect_read opens, x.reads (suc (length b)) [] (omega arith) apart, closed_statements y closes limit fits)

pub body_read : {ds ss : List Term} {a b c d e : Text} → Seen (sign (codes "{")) a b → IsReadDirectives ds b c → directive_by (lexeme c) (after c) ≡ None → IsReadStatements ss c d → Seen (sign (codes "}")) d e → IsReadBody (body_node ds ss) a e
body_read opens x apart y closes = record {
  utf8 = closes.utf8;
  shorter = let s1 = opens.shorter in let s2 = x.short in let s3 = y.short in let s4 = closes.shorter in omega arith;
  opens = opens.lexeme_is;
  reads = λ limit fits. body_there opens x apart y closes limit (omega arith);
}

-- ---- functions

opens_shorter : {async a b : Text} → FunctionOpens async a b → length b < length a
opens_shorter (plain_function tok) = tok.shorter
opens_shorter (async_function tok line tok') = let s1 = tok.shorter in let s2 = tok'.shorter in omega arith

function_there : (k : Kind) (async : Text) {s : Text} {id ps t : Term} {a b c d e : Text} → IsReadStar s a b → IsReadNaming id b c → IsReadFormals true ps c d → IsReadBody t d e → (limit : ℕ) → depth ps ≤ limit → depth t ≤ limit → function (read limit) k async a ≡ Some (function_node k async s id ps t, e)
unfolding function
function_there k async x y z w limit fits fits' = rw (x.reads, y.reads, z.reads limit fits, w.reads limit fits')

pub function_read : (k : Kind) {async s : Text} {id ps t : Term} {o a b c d e : Text} → FunctionOpens async o a → IsReadStar s a b → IsReadNaming id b c → IsReadFormals true ps c d → IsReadBody t d e → IsReadFunction k (function_node k async s id ps t) o e
function_read k {async} {a = a} opens x y z w = record {
  utf8 = w.utf8;
  shorter = let s0 = opens_shorter opens in let s1 = x.short in let s2 = y.short in let s3 = z.shorter in let s4 = w.shorter in omega arith;
  deep = omega arith;
  async = async;
  behind = a;
  opens = opens;
  reads = λ limit fits. function_there k async x y z w limit (omega arith) (omega arith);
}

-- the function of a method
pub record IsReadMethod (t : Bool) (async s : Text) (f : Term) (a b : Text) : Type 0 where
  pub utf8 : IsUtf8 b
  pub shorter : length b < length a
  pub deep : 0 < depth f
  pub opens : lexeme a ≡ Some (sign (codes "("))
  pub reads : (limit : ℕ) → depth f ≤ suc limit → method_function (read limit) t async s a ≡ Some (f, b)

method_there : (k : Bool) (async s : Text) {ps t : Term} {a b c : Text} → IsReadFormals k ps a b → IsReadBody t b c → (limit : ℕ) → depth ps ≤ limit → depth t ≤ limit → method_function (read limit) k async s a ≡ Some (function_node Kind.FunctionExpression async s absent ps t, c)
unfolding method_function
method_there k async s x y limit fits fits' = rw (x.reads limit fits, y.reads limit fits')

pub method_read : (k : Bool) (async s : Text) {ps t : Term} {a b c : Text} → IsReadFormals k ps a b → IsReadBody t b c → IsReadMethod k async s (function_node Kind.FunctionExpression async s absent ps t) a c
method_read k async s x y = record {
  utf8 = y.utf8;
  shorter = let s1 = x.shorter in let s2 = y.shorter in omega arith;
  deep = omega arith;
  opens = x.opens;
  reads = λ limit fits. method_there k async s x y limit (omega arith) (omega arith);
}
