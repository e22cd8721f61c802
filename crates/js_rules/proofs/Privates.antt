-- The rule on private names, by the form of what it is asked of.
use Rattle.std.proofs.Common.{◌≡◌, refl, ap, ◌∙◌, sym, ℕ, zero, suc, ◌+◌, ◌<◌, List, ◌∷◌, Bool, true, false}
use Rattle.js_term.specs.Term.{Text, Term, list, node, Terms}
use Rattle.js_term.specs.declared.kind.Kind.{Kind}
use Rattle.js_term.specs.Kinds.{is_kind}
use Rattle.js_term.specs.Scope.{kid}
use Rattle.js_syntax.specs.Everywhere.{everywhere_kids, first_two_then}
use Rattle.js_syntax.specs.Parts.{text_at, count}
use Rattle.js_rules.specs.Seen.{from}
use Rattle.js_syntax.specs.ModuleTree.{classes_inside, allows_private, is_declared, declared_by}
use Rattle.js_rules.specs.OuterSeen.{has_private_names_in, parts_have_private_names, is_class}
use Rattle.js_rules.proofs.Parts.{each_as_kids, kids_alike, fails, goes_on, ends}

both : (xss : List (List Text)) (n : ℕ) → first_two_then xss xss n ≡ xss
both xss zero = refl
both xss (suc zero) = refl
both xss (suc (suc n)) = refl

pub of_list : (xss : List (List Text)) (t : Term) (ts : Terms) (b : Bool) → t ≡ list ts → b ≡ parts_have_private_names xss xss ts → b ≡ has_private_names_in xss t
of_list xss t ts b e f = f ∙ sym (ap (has_private_names_in xss) e ∙ (each_as_kids classes_inside (λ c. c) allows_private (λ c us. true) (λ c. true) xss 0 ts ∙ kids_alike classes_inside (λ c. c) allows_private (λ c us. true) (λ c. true) (λ n. xss) (first_two_then xss xss) (λ n. sym (both xss n)) 0 ts))

allowed : (xss : List (List Text)) (k : Kind) (texts : List Text) (ts : Terms) → is_kind k Kind.PrivateIdentifier ≡ false → allows_private xss k texts ts ≡ true
allowed xss Kind.PrivateIdentifier texts ts h = cc
allowed xss k texts ts h = refl

named : (xss : List (List Text)) (k : Kind) (texts : List Text) (ts : Terms) → is_kind k Kind.PrivateIdentifier ≡ true → allows_private xss k texts ts ≡ is_declared (text_at 0 texts) xss
named xss Kind.PrivateIdentifier texts ts h = refl
named xss k texts ts h = cc

in_class : (xss : List (List Text)) (k : Kind) (texts : List Text) (ts : Terms) → is_class k ≡ true → (n : ℕ) → classes_inside xss k texts ts n ≡ first_two_then xss (declared_by ts ∷ xss) n
in_class xss Kind.ClassDeclaration texts ts h n = refl
in_class xss Kind.ClassExpression texts ts h n = refl
in_class xss k texts ts h n = cc

elsewhere : (xss : List (List Text)) (k : Kind) (texts : List Text) (ts : Terms) → is_class k ≡ false → (n : ℕ) → classes_inside xss k texts ts n ≡ first_two_then xss xss n
elsewhere xss Kind.ClassDeclaration texts ts h n = cc
elsewhere xss Kind.ClassExpression texts ts h n = cc
elsewhere xss k texts ts h n = sym (both xss n)

-- a private name that no class declares
pub undeclared : (xss : List (List Text)) (t : Term) (k : Kind) (texts : List Text) (ts : Terms) → t ≡ node k texts ts → is_kind k Kind.PrivateIdentifier ≡ true → is_declared (text_at 0 texts) xss ≡ false → has_private_names_in xss t ≡ false
undeclared xss t k texts ts e h wrong = ap (has_private_names_in xss) e ∙ rw (named xss k texts ts h, wrong) refl

of_node : (xss yss zss : List (List Text)) (t : Term) (k : Kind) (texts : List Text) (ts : Terms) → t ≡ node k texts ts → allows_private xss k texts ts ≡ true → ((n : ℕ) → classes_inside xss k texts ts n ≡ first_two_then yss zss n) → has_private_names_in xss t ≡ parts_have_private_names yss zss ts
of_node xss yss zss t k texts ts e right same = ap (has_private_names_in xss) e ∙ rw right (kids_alike classes_inside (λ c. c) allows_private (λ c us. true) (λ c. true) (classes_inside xss k texts ts) (first_two_then yss zss) same 0 ts)

-- either it is no private name, or one that is declared
allows_by : (xss : List (List Text)) (k : Kind) (texts : List Text) (ts : Terms) (b : Bool) → is_kind k Kind.PrivateIdentifier ≡ b → (b ≡ true → is_declared (text_at 0 texts) xss ≡ true) → allows_private xss k texts ts ≡ true
allows_by xss k texts ts true h f = named xss k texts ts h ∙ f refl
allows_by xss k texts ts false h f = allowed xss k texts ts h

pub of_class : (xss : List (List Text)) (t : Term) (k : Kind) (texts : List Text) (ts : Terms) → t ≡ node k texts ts → (is_kind k Kind.PrivateIdentifier ≡ true → is_declared (text_at 0 texts) xss ≡ true) → is_class k ≡ true → has_private_names_in xss t ≡ parts_have_private_names xss (declared_by ts ∷ xss) ts
of_class xss t k texts ts e f h = of_node xss xss (declared_by ts ∷ xss) t k texts ts e (allows_by xss k texts ts (is_kind k Kind.PrivateIdentifier) refl f) (in_class xss k texts ts h)

pub of_other : (xss : List (List Text)) (t : Term) (k : Kind) (texts : List Text) (ts : Terms) → t ≡ node k texts ts → (is_kind k Kind.PrivateIdentifier ≡ true → is_declared (text_at 0 texts) xss ≡ true) → is_class k ≡ false → has_private_names_in xss t ≡ parts_have_private_names xss xss ts
of_other xss t k texts ts e f h = of_node xss xss xss t k texts ts e (allows_by xss k texts ts (is_kind k Kind.PrivateIdentifier) refl f) (elsewhere xss k texts ts h)

-- the parts that are left, of which the first two are outside
abbrev left : List (List Text) → List (List Text) → ℕ → Terms → Bool
left xss yss = everywhere_kids classes_inside (λ c. c) allows_private (λ c us. true) (λ c. true) (first_two_then xss yss)

pub part_fails : (xss yss zss : List (List Text)) (n : ℕ) (ts : Terms) (u : Term) → n < count ts → u ≡ kid n ts → zss ≡ first_two_then xss yss n → left xss yss n (from n ts) ≡ parts_have_private_names xss yss ts → has_private_names_in zss u ≡ false → false ≡ parts_have_private_names xss yss ts
part_fails xss yss zss n ts u h is round rest wrong = sym (fails classes_inside (λ c. c) allows_private (λ c us. true) (λ c. true) (first_two_then xss yss) n ts u zss h is round rest wrong)

pub part_holds : (xss yss zss : List (List Text)) (n : ℕ) (ts : Terms) (u : Term) → n < count ts → u ≡ kid n ts → zss ≡ first_two_then xss yss n → left xss yss n (from n ts) ≡ parts_have_private_names xss yss ts → has_private_names_in zss u ≡ true → left xss yss (n + 1) (from (n + 1) ts) ≡ parts_have_private_names xss yss ts
part_holds xss yss zss n ts u h is round rest right = goes_on classes_inside (λ c. c) allows_private (λ c us. true) (λ c. true) (first_two_then xss yss) n ts u zss h is round rest right

pub parts_end : (xss yss : List (List Text)) (n : ℕ) (ts : Terms) → n ≡ count ts → left xss yss n (from n ts) ≡ parts_have_private_names xss yss ts → true ≡ parts_have_private_names xss yss ts
parts_end xss yss n ts e rest = sym (ends classes_inside (λ c. c) allows_private (λ c us. true) (λ c. true) (first_two_then xss yss) n ts e rest)
