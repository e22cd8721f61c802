-- The parts of small modules that hold no expressions, and how lists of parts end.
use Rattle.std.proofs.Common.{◌≡◌, refl, ap, subst, ◌≤◌, List, [], ◌∷◌, true, false, not, arith}
use Rattle.js_term.specs.Term.{Text, Term, absent, list, node, Terms, more, two, all}
use Rattle.js_term.specs.declared.kind.Kind.TheVariants as Kind
use Rattle.js_term.specs.Lexeme.{Manner, left_paren, right_paren}
use Rattle.js_term.specs.Lexeme as token
use Rattle.js_term.specs.Node.{binding_of, named, parameters_of}
use Rattle.js_term.specs.Spells.{level, joined}
use Rattle.js_term.specs.Spells as small
use Rattle.js_syntax.specs.Nodes.{parameter_of}
use Rattle.js_syntax.specs.Edges.{last_absent}
use Rattle.js_syntax.specs.Parts.{is_present}
use Rattle.js_syntax.specs.Spelling.{Sort, expression, parameter, is_several, Expression, Item, Listed, Group, Parameters}
use Rattle.js_syntax.specs.Spelling as whole
use Rattle.js_syntax.proofs.NarrowTokens.{word_is, left_paren_is, right_paren_is, comma_is}

-- ---- no part that is absent

present : (e : Term) → 2 ≤ level e → not (is_present e) ≡ false
present absent h = absurd (omega arith)
present (list ts) h = refl
present (node k texts ts) h = refl

-- the last item is that of the rest, where there is one
last_of_rest : {m : Manner} {es : List Term} {a b : Text} (e : Term) → small.Listed m es a b → last_absent es ≡ false → last_absent (e ∷ es) ≡ false
last_of_rest e (small.last h s) l = l
last_of_rest e (small.and h s t rest) l = l

pub listed_present : {m : Manner} {es : List Term} {a b : Text} → small.Listed m es a b → last_absent es ≡ false
listed_present (small.last {e} h s) = present e h
listed_present (small.and {e} h s t rest) = last_of_rest e rest (listed_present rest)

pub properties_present : {m : Manner} {ps : List Term} {a b : Text} → small.Properties m ps a b → last_absent ps ≡ false
properties_present small.no_properties = refl
properties_present (small.last_property (small.init l t u s)) = refl
properties_present (small.last_property (small.method t u ps v b)) = refl
properties_present (small.and_property p t ps) = properties_present ps

-- a list, or nothing
pub data Listing (s : Sort) : List Term → Text → Text → Type 0 where
  nothing : {a : Text} → Listing s [] a a
  something : {es : List Term} {a b : Text} → Listed s es a b → Listing s es a b

pub grouped : {s : Sort} {es : List Term} {a b : Text} → last_absent es ≡ false → Listing s es a b → Group s es a b
grouped h nothing = whole.no_items
grouped h (something l) = whole.items h l

pub listed_of : {s : Sort} {e : Term} {es : List Term} {a b : Text} → Listing s (e ∷ es) a b → Listed s (e ∷ es) a b
listed_of (something l) = l

-- several expressions are a sequence
pub sequence_of_several : {m : Manner} {e : Term} {es : List Term} {a b c d : Text} → small.Listed m es c d → Listed (expression true) (e ∷ es) a b → Expression true (joined (e ∷ es)) a b
sequence_of_several (small.last h s) l = whole.sequence refl l
sequence_of_several (small.and h s t rest) l = whole.sequence refl l

-- ---- parameters

abbrev parameters : List Text → List Term
parameters [] = []
parameters (x ∷ xs) = parameter_of (binding_of x) absent ∷ parameters xs

all_parameters : (xs : List Text) → all (parameters xs) ≡ named xs
all_parameters [] = refl
all_parameters (x ∷ xs) = ap (more (parameter_of (binding_of x) absent)) (all_parameters xs)

parameters_present : (xs : List Text) → last_absent (parameters xs) ≡ false
parameters_present [] = refl
parameters_present (x ∷ []) = refl
parameters_present (x ∷ y ∷ ys) = parameters_present (y ∷ ys)

names_listed : {m : Manner} {xs : List Text} {a b : Text} → small.Names m xs a b → Listed parameter (parameters xs) a b
names_listed (small.last_name r t) = whole.last (whole.a_parameter (whole.binding r (word_is t)))
names_listed (small.and_name r t u xs) = whole.and (whole.a_parameter (whole.binding r (word_is t))) (comma_is u) (names_listed xs)

parameters_group : {m : Manner} {xs : List Text} {a b : Text} → small.Parameters m xs a b → Group parameter (parameters xs) a b
parameters_group small.no_names = whole.no_items
parameters_group (small.names {xs} ns) = whole.items (parameters_present xs) (names_listed ns)

pub parameters_are : {m : Manner} {xs : List Text} {a b c d : Text} → token.Token m a left_paren b → small.Parameters m xs b c → token.Token m c right_paren d → Parameters true (parameters_of xs) a d
parameters_are {xs = xs} {a = a} {d = d} t ps u =
    subst (λ (ts : Terms). Parameters true (node Kind.FormalParameters [] (two (list ts) absent)) a d) (all_parameters xs)
    (whole.parameters (left_paren_is t) (whole.no_rest (parameters_group ps)) (right_paren_is u))
