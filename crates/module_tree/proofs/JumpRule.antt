-- The rule on jumps, by the form of what it is asked of.
use Rattle.std.proofs.Common.{◌≡◌, refl, ap, ◌∙◌, sym, ℕ, ◌+◌, ◌<◌, List, Bool, true, false, cond}
use Rattle.js_term.specs.Term.{Text, Term, list, node, Terms, none, more}
use Rattle.js_term.specs.declared.kind.Kind.{Kind}
use Rattle.js_term.specs.Kinds.{is_kind, is_among}
use Rattle.js_term.specs.Scope.{kid}
use Rattle.js_syntax.specs.Everywhere.{everywhere_kids, alike}
use Rattle.js_syntax.specs.Parts.{count}
use Rattle.js_syntax.specs.ModuleTree.{Jumps, no_jumps, is_loop, second_is_loop, jumps_inside, allows_jump}
use Rattle.js_rules.specs.Seen.{from}
use Rattle.js_rules.proofs.Parts.{each_as_kids, kids_alike, fails, goes_on, ends}
use Rattle.module_tree.specs.JumpsSeen.{in_statement, roots_of_jumps, iteration_statements, has_jumps_in, parts_have_jumps}

second_loop : (ts : Terms) → second_is_loop ts ≡ is_loop (kid 1 ts)
second_loop none = refl
second_loop (more t none) = refl
second_loop (more t (more u ts)) = refl

by_kind : (k : Kind) (texts : List Text) (ts : Terms) → is_loop (node k texts ts) ≡ cond (is_kind k Kind.LabeledStatement) (second_is_loop ts) (is_among k iteration_statements)
by_kind Kind.DoWhileStatement texts ts = refl
by_kind Kind.WhileStatement texts ts = refl
by_kind Kind.ForStatement texts ts = refl
by_kind Kind.ForInStatement texts ts = refl
by_kind Kind.ForOfStatement texts ts = refl
by_kind Kind.LabeledStatement texts ts = refl
by_kind k texts ts = refl

pub loop_by_kind : (t : Term) (k : Kind) (texts : List Text) (ts : Terms) → t ≡ node k texts ts → is_loop t ≡ cond (is_kind k Kind.LabeledStatement) (is_loop (kid 1 ts)) (is_among k iteration_statements)
loop_by_kind t k texts ts e = ap is_loop e ∙ (by_kind k texts ts ∙ ap (λ b. cond (is_kind k Kind.LabeledStatement) b (is_among k iteration_statements)) (second_loop ts))

pub of_list : (j : Jumps) (t : Term) (ts : Terms) (b : Bool) → t ≡ list ts → b ≡ parts_have_jumps j ts → b ≡ has_jumps_in j t
of_list j t ts b e f = f ∙ sym (ap (has_jumps_in j) e ∙ each_as_kids jumps_inside (λ c. c) allows_jump (λ c us. true) (λ c. true) j 0 ts)

anew : (j : Jumps) (k : Kind) (texts : List Text) (ts : Terms) → is_among k roots_of_jumps ≡ true → (n : ℕ) → jumps_inside j k texts ts n ≡ no_jumps
anew j Kind.FunctionDeclaration texts ts h n = refl
anew j Kind.FunctionExpression texts ts h n = refl
anew j Kind.ArrowFunctionExpression texts ts h n = refl
anew j Kind.StaticBlock texts ts h n = refl
anew j k texts ts h n = cc

inside : (j : Jumps) (k : Kind) (texts : List Text) (ts : Terms) → is_kind k Kind.LabeledStatement ≡ false → is_among k roots_of_jumps ≡ false → (n : ℕ) → jumps_inside j k texts ts n ≡ in_statement j k
inside j Kind.FunctionDeclaration texts ts h i n = cc
inside j Kind.FunctionExpression texts ts h i n = cc
inside j Kind.ArrowFunctionExpression texts ts h i n = cc
inside j Kind.StaticBlock texts ts h i n = cc
inside j Kind.LabeledStatement texts ts h i n = cc
inside j Kind.DoWhileStatement texts ts h i n = refl
inside j Kind.WhileStatement texts ts h i n = refl
inside j Kind.ForStatement texts ts h i n = refl
inside j Kind.ForInStatement texts ts h i n = refl
inside j Kind.ForOfStatement texts ts h i n = refl
inside j Kind.SwitchStatement texts ts h i n = refl
inside j k texts ts h i n = refl

of_node : (i j : Jumps) (t : Term) (k : Kind) (texts : List Text) (ts : Terms) → t ≡ node k texts ts → allows_jump i k texts ts ≡ true → ((n : ℕ) → jumps_inside i k texts ts n ≡ j) → has_jumps_in i t ≡ parts_have_jumps j ts
of_node i j t k texts ts e right same = ap (has_jumps_in i) e ∙ rw right (kids_alike jumps_inside (λ c. c) allows_jump (λ c us. true) (λ c. true) (jumps_inside i k texts ts) (alike j) same 0 ts)

pub of_root : (j : Jumps) (t : Term) (k : Kind) (texts : List Text) (ts : Terms) → t ≡ node k texts ts → allows_jump j k texts ts ≡ true → is_among k roots_of_jumps ≡ true → has_jumps_in j t ≡ parts_have_jumps no_jumps ts
of_root j t k texts ts e right h = of_node j no_jumps t k texts ts e right (anew j k texts ts h)

pub of_other : (j : Jumps) (t : Term) (k : Kind) (texts : List Text) (ts : Terms) → t ≡ node k texts ts → allows_jump j k texts ts ≡ true → is_kind k Kind.LabeledStatement ≡ false → is_among k roots_of_jumps ≡ false → has_jumps_in j t ≡ parts_have_jumps (in_statement j k) ts
of_other j t k texts ts e right h i = of_node j (in_statement j k) t k texts ts e right (inside j k texts ts h i)

abbrev left : Jumps → ℕ → Terms → Bool
left j = everywhere_kids jumps_inside (λ c. c) allows_jump (λ c us. true) (λ c. true) (alike j)

pub part_fails : (j : Jumps) (n : ℕ) (ts : Terms) (u : Term) → n < count ts → u ≡ kid n ts → left j n (from n ts) ≡ parts_have_jumps j ts → has_jumps_in j u ≡ false → false ≡ parts_have_jumps j ts
part_fails j n ts u h is rest wrong = sym (fails jumps_inside (λ c. c) allows_jump (λ c us. true) (λ c. true) (alike j) n ts u j h is refl rest wrong)

pub part_holds : (j : Jumps) (n : ℕ) (ts : Terms) (u : Term) → n < count ts → u ≡ kid n ts → left j n (from n ts) ≡ parts_have_jumps j ts → has_jumps_in j u ≡ true → left j (n + 1) (from (n + 1) ts) ≡ parts_have_jumps j ts
part_holds j n ts u h is rest right = goes_on jumps_inside (λ c. c) allows_jump (λ c us. true) (λ c. true) (alike j) n ts u j h is refl rest right

pub parts_end : (j : Jumps) (n : ℕ) (ts : Terms) → n ≡ count ts → left j n (from n ts) ≡ parts_have_jumps j ts → true ≡ parts_have_jumps j ts
parts_end j n ts e rest = sym (ends jumps_inside (λ c. c) allows_jump (λ c us. true) (λ c. true) (alike j) n ts e rest)
