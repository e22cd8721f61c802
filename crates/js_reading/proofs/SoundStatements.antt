-- Statements that are read are spelled.
use Rattle.std.proofs.Common.{◌≡◌, ℕ, zero, suc, Bool, true, false, not, ◌&&◌, ◌||◌, if◌then◌else◌, List, [], ◌∷◌, ◌++◌, length, Option, Some, None, refl, sym, subst, ◌∙◌, append_assoc, append-nil, codes}
use Rattle.std.specs.Str.{IsUtf8}
use Rattle.std.proofs.lemmas.Bool.{and_parts}
use Rattle.js_term.specs.Term.{Text, is_text, Term, absent, list, all, two}
use Rattle.js_term.specs.declared.kind.Kind.{Kind}
use Rattle.js_term.specs.Lexeme.{is_reserved}
use Rattle.js_term.specs.Node.{sequence_of}
use Rattle.js_syntax.specs.Nodes.{of_part, three, declarator_of, case_of}
use Rattle.js_syntax.specs.Printable.{ends_open, is_named, is_switch, is_try}
use Rattle.js_syntax.specs.Tokens.{Lexeme, word, private_name, number, big_integer, string, no_substitution, template_head, sign, regexp, template_middle, template_tail, Word, Sign}
use Rattle.js_syntax.specs.Edges.{plain, edge, declared_edge, is_unnamed, is_body}
use Rattle.js_syntax.specs.Spelling.{Stands, Expression, Item, Listed, Async, Pattern, Target, Statement, Statements, Block, Embedded, Declaration, Variables, Perhaps, ForInit, ForLeft, Label, Cases, Handler, Finalizer, Semicolon}
use Rattle.js_syntax.specs.Spelling as spell
use Rattle.js_tokens.specs.Next.{lexeme, after}
use Rattle.js_reading.specs.declared.goal.Goal.{Goal}
use Rattle.js_reading.specs.declared.goal.Goal.TheVariants as goal
use Rattle.js_reading.specs.Reading.{Found, Reading, ◌>>=◌, is_sign, is_word, sees, sees_word, same_line, left_out}
use Rattle.js_reading.specs.Targets.{target_of, pattern_of}
use Rattle.js_reading.specs.Expressions.{target_in}
use Rattle.js_reading.specs.Statements.{is_declaring, ends_here, begins_async_function, Head, initial, repeated, left_by, tree_at, bound_in, destructured, sees_each, pattern, inner, embedded, condition, block, declarator, declarators, variables, function_declaration, class_declaration, ended, effect, return_statement, throw_statement, label, jump, alternate, if_statement, while_statement, do_statement, more_declarators, declared_head, more_expressions, found_head, head_by, head, perhaps, for_plain, for_in, for_of_each, for_repeated, for_by, for_await_by, for_statement, case_statements, case_test, case_clause, cases, switch_statement, catch_clause, handler, finalizer, try_statement, labeled, plain_statement, loop_statement, other_statement, word_statement, statement_by, statement}
use Rattle.js_reading.proofs.Each.{Each, each_none, each_some, each_bind, each_weaker, each_if, not_true, not_false, there, seen, seen_word, on_same_line, expect_each, expect_word_each, binding_each, semicolon_each, do_end_each}
use Rattle.js_reading.proofs.Chains.{separated_each}
use Rattle.js_reading.proofs.Covers.{Covers}
use Rattle.js_reading.proofs.Patterns.{pattern_there}
use Rattle.js_reading.proofs.SoundParts.{Good, part_each, listed_each, expression_each}
use Rattle.js_reading.proofs.SoundFunctions.{Initial, no_initial, Enclosed, bound_each, initializer_each, enclosed_each, function_each}
use Rattle.js_reading.proofs.SoundFunctions as functions
use Rattle.js_reading.proofs.SoundLiterals.{as_word, as_sign, array_each, object_each, class_each}
use Rattle.js_reading.proofs.Opens.{begins_definition, expression_opens, begins_plain}

-- ---- patterns

pattern_from : {i : Bool} {f : Found} {a b : Text} → IsUtf8 b → Covers i 0 f a b → Each (λ p c. Pattern p a c) (destructured f b)
unfolding destructured
pattern_from {i} {f} {a} {b} u c = go f.barred refl
  where
    from : (t : Term) → Target i t a b → (o : Option Term) → pattern_of false t ≡ o → Each (λ p c. Pattern p a c) (tree_at o b)
    from t x None is = each_none
    from t x (Some p) is = each_some p b u (pattern_there x false p is)

    target : f.barred ≡ false → (o : Option Term) → target_of false f.tree ≡ o → Each (λ p c. Pattern p a c) (bound_in o b)
    target free None is = each_none
    target free (Some t) is = from t (c.target free t is) (pattern_of false t) refl

    go : (k : Bool) → f.barred ≡ k → Each (λ p c. Pattern p a c) (bound_in (if k then None else target_of false f.tree) b)
    go true is = each_none
    go false is = target is (target_of false f.tree) refl

-- ---- the first part of a `for`

abbrev pub HeadFits : Text → Head → Text → Type 0
HeadFits a (initial t) b = ForInit t a b
HeadFits a (repeated t) b = ForLeft t a b

a_declarator : (i : Bool) {p e : Term} {a b c : Text} → Pattern p a b → Initial i e b c → Item (spell.declarator i) (declarator_of p e) a c
a_declarator i x no_initial = spell.a_declarator x
a_declarator i x (functions.initial tok s) = spell.an_initialized x tok s

and_sequence : {i : Bool} {n : ℕ} {e : Term} {es : List Term} {a b c d : Text} → Stands i n e a b → Sign (codes ",") b c → Listed (spell.expression i) es c d → Expression i (sequence_of (all (e ∷ es))) a d
and_sequence s tok (spell.last x) = spell.sequence refl (spell.and (spell.an_expression s) tok (spell.last x))
and_sequence s tok (spell.and x tok' l) = spell.sequence refl (spell.and (spell.an_expression s) tok (spell.and x tok' l))

record GivesStatements (found ss : List Term) (a b : Text) : Type 0 where
  new : List Term
  whole : ss ≡ found ++ new
  stand : Statements new a b

record GivesCases (found cs : List Term) (a b : Text) : Type 0 where
  new : List Term
  whole : cs ≡ found ++ new
  stand : Cases new a b

-- what a case begins with
data Tested : Term → Text → Text → Type 0 where
  a_case : {e : Term} {a b c : Text} → Word (codes "case") a b → Expression true e b c → Tested e a c
  a_default : {a b : Text} → Word (codes "default") a b → Tested absent a b

a_clause : {e : Term} {ss cs : List Term} {a b c d f : Text} → Tested e a b → Sign (codes ":") b c → Statements ss c d → Cases cs d f → Cases (case_of e ss ∷ cs) a f
a_clause (a_case tok x) colon ss cs = spell.next_case tok x colon ss cs
a_clause (a_default tok) colon ss cs = spell.default_case tok colon ss cs

-- a word is none of these
pub word_no_definition : (x a : Text) → lexeme a ≡ Some (word x) → is_text x (codes "function") ≡ false → is_text x (codes "class") ≡ false → (is_text x (codes "async") && begins_async_function (after a)) ≡ false → begins_definition a ≡ false
unfolding sees_word
word_no_definition x a is f c y = rw (is, f, c, y) refl

pub other_no_definition : (a : Text) (o : Option Lexeme) → lexeme a ≡ o → ((w : Text) → is_word w o ≡ false) → begins_definition a ≡ false
unfolding sees_word
other_no_definition a o is none' = rw (is, none' (codes "function"), none' (codes "class"), none' (codes "async")) refl

sees_none : (s a : Text) (o : Option Lexeme) → lexeme a ≡ o → is_sign s o ≡ false → sees s a ≡ false
unfolding sees
sees_none s a o is h = rw (is) h

right_false : (p q : Bool) → (p || q) ≡ false → q ≡ false
right_false true q h = absurd (cc)
right_false false q h = h

module _ (sub : Goal → Text → Reading Found) (good : Good sub) where
  pub pattern_each : (a : Text) → IsUtf8 a → Each (λ p b. Pattern p a b) (pattern sub a)
  unfolding pattern
  pattern_each a u = each_if (sees (codes "{") a) _ _
      (λ is. let t = seen (codes "{") a u is in each_bind _ (object_each sub good {i = true} a (after a) t.utf8 t.token) (λ f b v c. pattern_from v c))
      (λ _. each_if (sees (codes "[") a) _ _
      (λ is. let t = seen (codes "[") a u is in each_bind _ (array_each sub good {i = true} a (after a) t.utf8 t.token) (λ f b v c. pattern_from v c))
      (λ _. each_bind _ (binding_each a u) (λ x b v (free, tok). each_some _ _ v (spell.binding free tok))))

  pub inner_each : (a : Text) → IsUtf8 a → Each (λ s b. Statement s a b) (inner sub a)
  unfolding inner
  inner_each a u = each_bind _ (good goal.Statement a u) (λ f b v x. each_some f.tree b v x)

  embedded_each : (a : Text) → IsUtf8 a → Each (λ s b. Embedded s a b) (embedded sub a)
  unfolding embedded
  embedded_each a u = each_bind _ (inner_each a u) (λ s b v x. each_if (is_body s) _ _ (λ is. each_some s b v (spell.embedded is x)) (λ _. each_none))

  -- ( e )
  abbrev Condition : Term → Text → Text → Type 0
  Condition e a d = (b : Text) × (c : Text) × Sign (codes "(") a b × Expression true e b c × Sign (codes ")") c d

  condition_each : (a : Text) → IsUtf8 a → Each (λ e d. Condition e a d) (condition sub a)
  unfolding condition
  condition_each a u =
      each_bind _ (expect_each (codes "(") a u) (λ _ b v open'.
      each_bind _ (expression_each sub good true b v) (λ e c w x.
      each_bind _ (expect_each (codes ")") c w) (λ _ d y close. each_some e d y (b, c, open', x, close))))

  block_each : (a : Text) → IsUtf8 a → Each (λ s b. Block s a b) (block sub a)
  unfolding block
  block_each a u = each_bind _ (expect_each (codes "{") a u) (λ _ b v open'. each_bind _ (enclosed_each sub good b v) (λ ss c w x. each_some _ _ w (spell.block open' x.stand x.close)))

  -- ---- declarations

  declarator_each : (i : Bool) (a : Text) → IsUtf8 a → Each (λ d b. Item (spell.declarator i) d a b) (declarator sub i a)
  unfolding declarator
  declarator_each i a u = each_bind _ (bound_each sub good a u) (λ p b v x. each_bind _ (initializer_each sub good i b v) (λ e c w y. each_some _ _ w (a_declarator i x y)))

  declarators_each : (i : Bool) (a : Text) → IsUtf8 a → Each (λ ds b. Listed (spell.declarator i) ds a b) (declarators sub i a)
  unfolding declarators
  declarators_each i a u = each_weaker (separated_each (spell.declarator i) (declarator sub i) (declarator_each i) (length a) [] a u) (λ ds b x. subst (λ (z : List Term). Listed (spell.declarator i) z a b) (sym x.whole) x.listed)

  pub variables_each : (kind a b : Text) → IsUtf8 b → is_declaring kind ≡ true → Word kind a b → Each (λ s c. Declaration s a c) (variables sub kind b)
  unfolding variables
  variables_each kind a b u is tok =
      each_bind _ (declarators_each true b u) (λ ds c v x. each_bind _ (semicolon_each (declared_edge ds) c v) (λ _ d w end. each_some _ _ w (spell.variables (spell.declarators is tok x) end)))

  pub function_declaration_each : (async a b c : Text) → IsUtf8 c → Async async a b → Word (codes "function") b c → Each (λ s d. Declaration s a d) (function_declaration sub async c)
  unfolding function_declaration
  function_declaration_each async a b c u mark tok = each_bind _ (function_each sub good Kind.FunctionDeclaration async a b c u mark tok) (λ f d v x.
      each_if (is_unnamed f) _ _ (λ _. each_none) (λ h. each_some f d v (spell.function_declaration h x)))

  pub class_declaration_each : (a b : Text) → IsUtf8 b → Word (codes "class") a b → Each (λ s c. Declaration s a c) (class_declaration sub b)
  unfolding class_declaration
  class_declaration_each a b u tok = each_bind _ (class_each sub good Kind.ClassDeclaration a b u tok) (λ f c v x.
      each_if (is_unnamed f) _ _ (λ _. each_none) (λ h. each_some f c v (spell.class_declaration h x)))

  -- ---- what ends with an expression

  abbrev Ending : Term → Text → Text → Type 0
  Ending e a c = (b : Text) × Expression true e a b × Semicolon (edge e) b c

  ended_each : (a : Text) → IsUtf8 a → Each (λ e c. Ending e a c) (ended sub a)
  unfolding ended
  ended_each a u = each_bind _ (expression_each sub good true a u) (λ e b v x. each_bind _ (semicolon_each (edge e) b v) (λ _ c w end. each_some e c w (b, x, end)))

  effect_each : (a : Text) → IsUtf8 a → sees (codes "{") a ≡ false → begins_definition a ≡ false → Each (λ s b. Statement s a b) (effect sub a)
  unfolding effect
  effect_each a u brace free = each_bind _ (ended_each a u) (λ e b v (m, x, end). each_some _ _ v (spell.expression_statement (begins_plain (expression_opens x u) brace free) x end))

  return_each : (a b : Text) → IsUtf8 b → Word (codes "return") a b → Each (λ s c. Statement s a c) (return_statement sub b)
  unfolding return_statement ends_here
  return_each a b u tok = each_if (sees (codes ";") b || left_out plain b || not (same_line b)) _ _
      (λ _. each_bind _ (semicolon_each plain b u) (λ _ c v end. each_some _ _ v (spell.bare_return tok end)))
      (λ on. each_bind _ (ended_each b u) (λ e c v (m, x, end). each_some _ _ v (spell.return_statement tok (on_same_line b (not_false _ (right_false _ (not (same_line b)) on))) x end)))

  throw_each : (a b : Text) → IsUtf8 b → Word (codes "throw") a b → Each (λ s c. Statement s a c) (throw_statement sub b)
  unfolding throw_statement
  throw_each a b u tok = each_if (same_line b) _ _
      (λ h. each_bind _ (ended_each b u) (λ e c v (m, x, end). each_some _ _ v (spell.throw_statement tok (on_same_line b h) x end))) (λ _. each_none)

  label_each : (a : Text) → IsUtf8 a → Each (λ l b. Label l a b) (label sub a)
  unfolding label ends_here
  label_each a u = each_if (sees (codes ";") a || left_out plain a || not (same_line a)) _ _ (λ _. each_some absent a u spell.no_label)
      (λ on. each_bind _ (binding_each a u) (λ x b v (free, tok). each_some _ _ v (spell.a_label free (on_same_line a (not_false _ (right_false _ (not (same_line a)) on))) tok)))

  -- ---- if and the loops

  if_each : (a b : Text) → IsUtf8 b → Word (codes "if") a b → Each (λ s c. Statement s a c) (if_statement sub b)
  unfolding if_statement alternate
  if_each a b u tok =
      each_bind _ (condition_each b u) (λ e c v (m, n, open', x, close).
      each_bind _ (embedded_each c v) (λ s d w y.
      each_if (sees_word (codes "else") d) _ _
      (λ is. let t = seen_word (codes "else") d w is in each_bind _ (embedded_each (after d) t.utf8) (λ s' f z q. each_if (ends_open s) _ _ (λ _. each_none) (λ shut. each_some _ _ z (spell.if_else shut tok open' x close y t.token q))))
      (λ _. each_some _ _ w (spell.if_statement tok open' x close y))))

  while_each : (a b : Text) → IsUtf8 b → Word (codes "while") a b → Each (λ s c. Statement s a c) (while_statement sub b)
  unfolding while_statement
  while_each a b u tok = each_bind _ (condition_each b u) (λ e c v (m, n, open', x, close). each_bind _ (embedded_each c v) (λ s d w y. each_some _ _ w (spell.while_statement tok open' x close y)))

  do_each : (a b : Text) → IsUtf8 b → Word (codes "do") a b → Each (λ s c. Statement s a c) (do_statement sub b)
  unfolding do_statement
  do_each a b u tok =
      each_bind _ (embedded_each b u) (λ s c v y.
      each_bind _ (expect_word_each (codes "while") c v) (λ _ d w tok'.
      each_bind _ (condition_each d w) (λ e f z (m, n, open', x, close).
      each_bind _ (do_end_each f z) (λ _ g o end. each_some _ _ o (spell.do_while tok y tok' open' x close end)))))

  more_declarators_each : (kind : Text) (d : Term) (a b c : Text) → IsUtf8 c → is_declaring kind ≡ true → Word kind a b → Item (spell.declarator false) d b c → Each (λ h e. HeadFits a h e) (more_declarators sub kind d c)
  unfolding more_declarators
  more_declarators_each kind d a b c u is tok x = each_if (sees (codes ",") c) _ _
      (λ comma. let t = seen (codes ",") c u comma in each_bind _ (declarators_each false (after c) t.utf8) (λ ds e v y. each_some _ _ v (spell.init_variables (spell.declarators is tok (spell.and x t.token y)))))
      (λ _. each_some _ _ u (spell.init_variables (spell.declarators is tok (spell.last x))))

  declared_head_each : (kind a b : Text) → IsUtf8 b → is_declaring kind ≡ true → Word kind a b → Each (λ h c. HeadFits a h c) (declared_head sub kind b)
  unfolding declared_head
  declared_head_each kind a b u is tok = each_bind _ (bound_each sub good b u) (λ p c v x. each_if (sees_each c) _ _
      (λ _. each_some _ _ v (spell.left_variable is tok x))
      (λ _. each_bind _ (initializer_each sub good false c v) (λ e d w y. more_declarators_each kind _ a b d w is tok (a_declarator false x y))))

  more_expressions_each : (n : ℕ) (e : Term) (a b : Text) → IsUtf8 b → Stands false n e a b → Each (λ h c. HeadFits a h c) (more_expressions sub e b)
  unfolding more_expressions
  more_expressions_each n e a b u s = each_if (sees (codes ",") b) _ _
      (λ is. let t = seen (codes ",") b u is in each_bind _ (listed_each sub good false (length (after b)) (e ∷ []) (after b) t.utf8) (λ es c v (new, whole, listed).
      each_some _ _ v (spell.init_expression (subst (λ (z : List Term). Expression false (sequence_of (all z)) a c) (sym whole) (and_sequence s t.token listed)))))
      (λ _. each_some _ _ u (spell.init_expression (spell.single s)))

  left_from : (f : Found) (a b : Text) → IsUtf8 b → Covers false 2 f a b → Each (λ h c. HeadFits a h c) (left_by (target_in f) b)
  left_from f a b u c = go f.barred refl
    where
      target : f.barred ≡ false → (o : Option Term) → target_of false f.tree ≡ o → Each (λ h d. HeadFits a h d) (left_by o b)
      target free None is = each_none
      target free (Some t) is = each_some _ _ u (spell.left_target (c.target free t is))

      go : (k : Bool) → f.barred ≡ k → Each (λ h d. HeadFits a h d) (left_by (if k then None else target_of false f.tree) b)
      go true is = each_none
      go false is = target is (target_of false f.tree) refl

  found_each : (a : Text) → IsUtf8 a → Each (λ h b. HeadFits a h b) (sub (goal.Expression 2 false) a >>= found_head sub)
  unfolding found_head
  found_each a u = each_bind _ (good (goal.Expression 2 false) a u) (λ f b v c. each_if (sees_each b) _ _
      (λ _. left_from f a b v c)
      (λ _. settle f b v c f.cover refl))
    where
      settle : (f : Found) (b : Text) → IsUtf8 b → Covers false 2 f a b → (k : Bool) → f.cover ≡ k → Each (λ h d. HeadFits a h d) ((if k then None else Some (f.tree, b)) >>= more_expressions sub)
      settle f b v c true is = each_none
      settle f b v c false is = more_expressions_each f.level f.tree a b v (c.stands is)

  head_each : (a : Text) → IsUtf8 a → Each (λ h b. HeadFits a h b) (head sub a)
  unfolding head
  head_each a u = each_if (sees (codes ";") a) _ _ (λ _. each_some _ _ u spell.no_init) (λ _. go (lexeme a) refl)
    where
      go : (o : Option Lexeme) → lexeme a ≡ o → Each (λ h b. HeadFits a h b) (head_by sub o a)
      go (Some (word x)) is = each_if (is_declaring x) _ _ (λ h. let t = there a u _ is in declared_head_each x a (after a) t.utf8 h t.token) (λ _. found_each a u)
      go None is = found_each a u
      go (Some (private_name x)) is = found_each a u
      go (Some (number x)) is = found_each a u
      go (Some (big_integer x)) is = found_each a u
      go (Some (string x v)) is = found_each a u
      go (Some (regexp x v)) is = found_each a u
      go (Some (no_substitution x)) is = found_each a u
      go (Some (template_head x)) is = found_each a u
      go (Some (template_middle x)) is = found_each a u
      go (Some (template_tail x)) is = found_each a u
      go (Some (sign x)) is = found_each a u

  perhaps_each : (s a : Text) → IsUtf8 a → Each (λ e b. Perhaps e a b) (perhaps sub s a)
  unfolding perhaps
  perhaps_each s a u = each_if (sees s a) _ _ (λ _. each_some absent a u spell.perhaps_not) (λ _. each_weaker (expression_each sub good true a u) (λ e b x. spell.perhaps x))

  plain_each : (init : Term) (a b c d : Text) → IsUtf8 d → Word (codes "for") a b → Sign (codes "(") b c → ForInit init c d → Each (λ s e. Statement s a e) (for_plain sub init d)
  unfolding for_plain
  plain_each init a b c d u tok open' x =
      each_bind _ (expect_each (codes ";") d u) (λ _ e v semi.
      each_bind _ (perhaps_each (codes ";") e v) (λ test f w y.
      each_bind _ (expect_each (codes ";") f w) (λ _ g z semi'.
      each_bind _ (perhaps_each (codes ")") g z) (λ update h o q.
      each_bind _ (expect_each (codes ")") h o) (λ _ j p close.
      each_bind _ (embedded_each j p) (λ s k r body. each_some _ _ r (spell.for_statement tok open' x semi y semi' q close body)))))))

  in_each : (left : Term) (a b c d f : Text) → IsUtf8 f → Word (codes "for") a b → Sign (codes "(") b c → ForLeft left c d → Word (codes "in") d f → Each (λ s e. Statement s a e) (for_in sub left f)
  unfolding for_in
  in_each left a b c d f u tok open' x tok' =
      each_bind _ (expression_each sub good true f u) (λ right g v y.
      each_bind _ (expect_each (codes ")") g v) (λ _ h w close.
      each_bind _ (embedded_each h w) (λ s j z body. each_some _ _ z (spell.for_in tok open' x tok' y close body))))

  of_each : (left : Term) (a b c d f : Text) → IsUtf8 f → is_named (codes "async") left ≡ false → Word (codes "for") a b → Sign (codes "(") b c → ForLeft left c d → Word (codes "of") d f → Each (λ s e. Statement s a e) (for_of_each sub [] left f)
  unfolding for_of_each
  of_each left a b c d f u named tok open' x tok' =
      each_bind _ (part_each sub good 2 true f u) (λ right g v y.
      each_bind _ (expect_each (codes ")") g v) (λ _ h w close.
      each_bind _ (embedded_each h w) (λ s j z body. each_some _ _ z (spell.for_of_statement named tok open' x tok' y.stands close body))))

  await_each : (left : Term) (a b c d f g : Text) → IsUtf8 g → Word (codes "for") a b → Word (codes "await") b c → Sign (codes "(") c d → ForLeft left d f → Word (codes "of") f g → Each (λ s e. Statement s a e) (for_of_each sub (codes "await") left g)
  unfolding for_of_each
  await_each left a b c d f g u tok wait open' x tok' =
      each_bind _ (part_each sub good 2 true g u) (λ right h v y.
      each_bind _ (expect_each (codes ")") h v) (λ _ j w close.
      each_bind _ (embedded_each j w) (λ s k z body. each_some _ _ z (spell.for_await tok wait open' x tok' y.stands close body))))

  repeated_each : (left : Term) (a b c d : Text) → IsUtf8 d → Word (codes "for") a b → Sign (codes "(") b c → ForLeft left c d → Each (λ s e. Statement s a e) (for_repeated sub left d)
  unfolding for_repeated
  repeated_each left a b c d u tok open' x = each_if (sees_word (codes "in") d) _ _
      (λ is. let t = seen_word (codes "in") d u is in in_each left a b c d (after d) t.utf8 tok open' x t.token)
      (λ _. each_if (is_named (codes "async") left) _ _ (λ _. each_none)
      (λ named. each_bind _ (expect_word_each (codes "of") d u) (λ _ f v tok'. of_each left a b c d f v named tok open' x tok')))

  for_each : (a b : Text) → IsUtf8 b → Word (codes "for") a b → Each (λ s c. Statement s a c) (for_statement sub b)
  unfolding for_statement
  for_each a b u tok = each_if (sees_word (codes "await") b) _ _
      (λ is. let t = seen_word (codes "await") b u is in
      each_bind _ (expect_each (codes "(") (after b) t.utf8) (λ _ c v open'. each_bind _ (head_each c v) (λ h d w x. awaited h t.token open' w x)))
      (λ _. each_bind _ (expect_each (codes "(") b u) (λ _ c v open'. each_bind _ (head_each c v) (λ h d w x. not_awaited h open' w x)))
    where
      awaited : (h : Head) {c d e : Text} → Word (codes "await") b c → Sign (codes "(") c d → IsUtf8 e → HeadFits d h e → Each (λ s f. Statement s a f) (for_await_by sub h e)
      awaited (initial t) wait open' u x = each_none
      awaited (repeated t) {c} {d} {e} wait open' u x = each_bind _ (expect_word_each (codes "of") e u) (λ _ f v tok'. await_each t a b c d e f v tok wait open' x tok')

      not_awaited : (h : Head) {c d : Text} → Sign (codes "(") b c → IsUtf8 d → HeadFits c h d → Each (λ s e. Statement s a e) (for_by sub h d)
      not_awaited (initial t) {c} {d} open' u x = plain_each t a b c d u tok open' x
      not_awaited (repeated t) {c} {d} open' u x = repeated_each t a b c d u tok open' x

  -- ---- switch and try

  case_statements_each : (n : ℕ) (found : List Term) (a : Text) → IsUtf8 a → Each (λ ss b. GivesStatements found ss a b) (case_statements sub n found a)
  unfolding case_statements
  case_statements_each zero found a u = each_none
  case_statements_each (suc n) found a u = each_if (sees (codes "}") a || sees_word (codes "case") a || sees_word (codes "default") a) _ _
      (λ _. each_some found a u (record { new = []; whole = sym (append-nil found); stand = spell.no_statements }))
      (λ _. each_bind _ (inner_each a u) (λ s b v x. each_weaker (case_statements_each n (found ++ s ∷ []) b v) (λ ss c rest. record {
        new = s ∷ rest.new;
        whole = rest.whole ∙ append_assoc found (s ∷ []) rest.new;
        stand = spell.next_statement x rest.stand;
      })))

  test_each : (a : Text) → IsUtf8 a → Each (λ e b. Tested e a b) (case_test sub a)
  unfolding case_test
  test_each a u = each_if (sees_word (codes "default") a) _ _ (λ is. let t = seen_word (codes "default") a u is in each_some _ _ t.utf8 (a_default t.token))
      (λ _. each_bind _ (expect_word_each (codes "case") a u) (λ _ b v tok. each_weaker (expression_each sub good true b v) (λ e c x. a_case tok x)))

  -- a clause, whatever clauses follow
  record Clause (c : Term) (a b : Text) : Type 0 where
    more_cases : (cs : List Term) (d : Text) → Cases cs b d → Cases (c ∷ cs) a d

  clause_each : (a : Text) → IsUtf8 a → Each (λ c b. Clause c a b) (case_clause sub a)
  unfolding case_clause
  clause_each a u =
      each_bind _ (test_each a u) (λ e b v x.
      each_bind _ (expect_each (codes ":") b v) (λ _ c w colon.
      each_bind _ (case_statements_each (length c) [] c w) (λ ss d y z. each_some _ _ y (record { more_cases = λ cs f rest. a_clause x colon (subst (λ (l : List Term). Statements l c d) (sym z.whole) z.stand) rest }))))

  cases_each : (n : ℕ) (found : List Term) (a : Text) → IsUtf8 a → Each (λ cs b. GivesCases found cs a b) (cases sub n found a)
  unfolding cases
  cases_each zero found a u = each_none
  cases_each (suc n) found a u = each_if (sees (codes "}") a) _ _
      (λ _. each_some found a u (record { new = []; whole = sym (append-nil found); stand = spell.no_cases }))
      (λ _. each_bind _ (clause_each a u) (λ c b v x. each_weaker (cases_each n (found ++ c ∷ []) b v) (λ cs d rest. record {
        new = c ∷ rest.new;
        whole = rest.whole ∙ append_assoc found (c ∷ []) rest.new;
        stand = x.more_cases rest.new d rest.stand;
      })))

  switch_each : (a b : Text) → IsUtf8 b → Word (codes "switch") a b → Each (λ s c. Statement s a c) (switch_statement sub b)
  unfolding switch_statement
  switch_each a b u tok =
      each_bind _ (condition_each b u) (λ e c v (m, n, open', x, close).
      each_bind _ (expect_each (codes "{") c v) (λ _ d w brace.
      each_bind _ (cases_each (length d) [] d w) (λ cs f y z.
      each_bind _ (expect_each (codes "}") f y) (λ _ g o brace'.
      each_if (is_switch (two e (list (all cs)))) _ _ (λ is. each_some _ _ o (spell.switch_statement is tok open' x close brace (subst (λ (l : List Term). Cases l d f) (sym z.whole) z.stand) brace')) (λ _. each_none)))))

  handler_each : (a : Text) → IsUtf8 a → Each (λ h b. Handler h a b) (handler sub a)
  unfolding handler catch_clause
  handler_each a u = each_if (sees_word (codes "catch") a) _ _
      (λ is. let t = seen_word (codes "catch") a u is in each_if (sees (codes "(") (after a)) _ _
      (λ is'. let o = seen (codes "(") (after a) t.utf8 is' in
      each_bind _ (bound_each sub good (after (after a)) o.utf8) (λ p b v x.
      each_bind _ (expect_each (codes ")") b v) (λ _ c w close.
      each_bind _ (block_each c w) (λ s d y z. each_some _ _ y (spell.handler t.token o.token x close z)))))
      (λ _. each_bind _ (block_each (after a) t.utf8) (λ s b v x. each_some _ _ v (spell.bare_handler t.token x))))
      (λ _. each_some absent a u spell.no_handler)

  finalizer_each : (a : Text) → IsUtf8 a → Each (λ f b. Finalizer f a b) (finalizer sub a)
  unfolding finalizer
  finalizer_each a u = each_if (sees_word (codes "finally") a) _ _
      (λ is. let t = seen_word (codes "finally") a u is in each_weaker (block_each (after a) t.utf8) (λ s b x. spell.finalizer t.token x)) (λ _. each_some absent a u spell.no_finalizer)

  try_each : (a b : Text) → IsUtf8 b → Word (codes "try") a b → Each (λ s c. Statement s a c) (try_statement sub b)
  unfolding try_statement
  try_each a b u tok =
      each_bind _ (block_each b u) (λ s c v x. each_bind _ (handler_each c v) (λ h d w y. each_bind _ (finalizer_each d w) (λ f e z q.
      each_if (is_try (three s h f)) _ _ (λ is. each_some _ _ z (spell.try_statement is tok x y q)) (λ _. each_none))))

  -- ---- statements by their first token

  plain_statement_each : (x a : Text) → IsUtf8 a → lexeme a ≡ Some (word x) → sees (codes "{") a ≡ false → begins_definition a ≡ false → Each (λ s b. Statement s a b) (plain_statement sub x a)
  unfolding plain_statement labeled
  plain_statement_each x a u is brace free = let t = there a u _ is in each_if (not (is_reserved x) && sees (codes ":") (after a)) _ _
      (λ h. let (unreserved, colon) = and_parts (not (is_reserved x)) (sees (codes ":") (after a)) h in let o = seen (codes ":") (after a) t.utf8 colon in
      each_bind _ (embedded_each (after (after a)) o.utf8) (λ s b v y. each_some _ _ v (spell.labeled (not_true _ unreserved) t.token o.token y)))
      (λ _. effect_each a u brace free)

  jump_each : (k : Kind) (w a b : Text) → IsUtf8 b → ((l : Term) (c d : Text) → Label l b c → Semicolon plain c d → Statement (of_part k l) a d) → Each (λ s c. Statement s a c) (jump sub k b)
  unfolding jump
  jump_each k w a b u make = each_bind _ (label_each b u) (λ l c v x. each_bind _ (semicolon_each plain c v) (λ _ d y end. each_some _ _ y (make l c d x end)))

  loop_each : (x a : Text) → IsUtf8 a → lexeme a ≡ Some (word x) → sees (codes "{") a ≡ false → begins_definition a ≡ false → Each (λ s b. Statement s a b) (loop_statement sub x a)
  loop_each x a u is brace free = let t = there a u _ is in
      each_if (is_text x (codes "do")) _ _ (λ e. do_each a (after a) t.utf8 (as_word (codes "do") e t.token)) (λ _.
      each_if (is_text x (codes "while")) _ _ (λ e. while_each a (after a) t.utf8 (as_word (codes "while") e t.token)) (λ _.
      each_if (is_text x (codes "for")) _ _ (λ e. for_each a (after a) t.utf8 (as_word (codes "for") e t.token)) (λ _.
      each_if (is_text x (codes "continue")) _ _ (λ e. jump_each Kind.ContinueStatement x a (after a) t.utf8 (λ l c d y end. spell.continue_statement (as_word (codes "continue") e t.token) y end)) (λ _.
      each_if (is_text x (codes "break")) _ _ (λ e. jump_each Kind.BreakStatement x a (after a) t.utf8 (λ l c d y end. spell.break_statement (as_word (codes "break") e t.token) y end)) (λ _.
      each_if (is_text x (codes "debugger")) _ _ (λ e. each_bind _ (semicolon_each plain (after a) t.utf8) (λ _ b v end. each_some _ _ v (spell.debugger (as_word (codes "debugger") e t.token) end)))
      (λ _. plain_statement_each x a u is brace free))))))

  other_each : (x a : Text) → IsUtf8 a → lexeme a ≡ Some (word x) → sees (codes "{") a ≡ false → begins_definition a ≡ false → Each (λ s b. Statement s a b) (other_statement sub x a)
  other_each x a u is brace free = let t = there a u _ is in
      each_if (is_text x (codes "return")) _ _ (λ e. return_each a (after a) t.utf8 (as_word (codes "return") e t.token)) (λ _.
      each_if (is_text x (codes "throw")) _ _ (λ e. throw_each a (after a) t.utf8 (as_word (codes "throw") e t.token)) (λ _.
      each_if (is_text x (codes "if")) _ _ (λ e. if_each a (after a) t.utf8 (as_word (codes "if") e t.token)) (λ _.
      each_if (is_text x (codes "switch")) _ _ (λ e. switch_each a (after a) t.utf8 (as_word (codes "switch") e t.token)) (λ _.
      each_if (is_text x (codes "try")) _ _ (λ e. try_each a (after a) t.utf8 (as_word (codes "try") e t.token))
      (λ _. loop_each x a u is brace free)))))

  word_statement_each : (x a : Text) → IsUtf8 a → lexeme a ≡ Some (word x) → Each (λ s b. Statement s a b) (word_statement sub x a)
  unfolding word_statement begins_async_function
  word_statement_each x a u is = let t = there a u _ is in
      each_if (is_declaring x) _ _ (λ e. each_weaker (variables_each x a (after a) t.utf8 e t.token) (λ s b y. spell.declaration y)) (λ _.
      each_if (is_text x (codes "function")) _ _ (λ e. each_weaker (function_declaration_each [] a a (after a) t.utf8 spell.no_async (as_word (codes "function") e t.token)) (λ s b y. spell.declaration y)) (λ nf.
      each_if (is_text x (codes "async") && begins_async_function (after a)) _ _
      (λ h. let (e, on) = and_parts (is_text x (codes "async")) (begins_async_function (after a)) h in
      let (line, f) = and_parts (same_line (after a)) (sees_word (codes "function") (after a)) on in
      let o = seen_word (codes "function") (after a) t.utf8 f in
      each_weaker (function_declaration_each (codes "async") a (after a) (after (after a)) o.utf8 (spell.with_async (as_word (codes "async") e t.token) (on_same_line (after a) line)) o.token) (λ s b y. spell.declaration y)) (λ na.
      each_if (is_text x (codes "class")) _ _ (λ e. each_weaker (class_declaration_each a (after a) t.utf8 (as_word (codes "class") e t.token)) (λ s b y. spell.declaration y))
      (λ nc. other_each x a u is (sees_none (codes "{") a _ is refl) (word_no_definition x a is nf nc na)))))

  pub statement_each : (a : Text) → IsUtf8 a → Each (λ s b. Statement s a b) (statement sub a)
  unfolding statement
  statement_each a u = go (lexeme a) refl
    where
      go : (o : Option Lexeme) → lexeme a ≡ o → Each (λ s b. Statement s a b) (statement_by sub o a)
      go (Some (word x)) is = word_statement_each x a u is
      go (Some (sign s)) is = let t = there a u _ is in
          each_if (is_text s (codes "{")) _ _ (λ _. each_weaker (block_each a u) (λ s b y. spell.block_statement y)) (λ brace.
          each_if (is_text s (codes ";")) _ _ (λ e. each_some _ _ t.utf8 (spell.empty_statement (as_sign (codes ";") e t.token)))
          (λ _. effect_each a u (sees_none (codes "{") a _ is brace) (other_no_definition a _ is (λ w. refl))))
      go None is = effect_each a u (sees_none (codes "{") a _ is refl) (other_no_definition a _ is (λ w. refl))
      go (Some (private_name x)) is = effect_each a u (sees_none (codes "{") a _ is refl) (other_no_definition a _ is (λ w. refl))
      go (Some (number x)) is = effect_each a u (sees_none (codes "{") a _ is refl) (other_no_definition a _ is (λ w. refl))
      go (Some (big_integer x)) is = effect_each a u (sees_none (codes "{") a _ is refl) (other_no_definition a _ is (λ w. refl))
      go (Some (string x v)) is = effect_each a u (sees_none (codes "{") a _ is refl) (other_no_definition a _ is (λ w. refl))
      go (Some (regexp x v)) is = effect_each a u (sees_none (codes "{") a _ is refl) (other_no_definition a _ is (λ w. refl))
      go (Some (no_substitution x)) is = effect_each a u (sees_none (codes "{") a _ is refl) (other_no_definition a _ is (λ w. refl))
      go (Some (template_head x)) is = effect_each a u (sees_none (codes "{") a _ is refl) (other_no_definition a _ is (λ w. refl))
      go (Some (template_middle x)) is = effect_each a u (sees_none (codes "{") a _ is refl) (other_no_definition a _ is (λ w. refl))
      go (Some (template_tail x)) is = effect_each a u (sees_none (codes "{") a _ is refl) (other_no_definition a _ is (λ w. refl))
