-- What is spelled as a statement is read, from what is read below.
use Rattle.std.proofs.Common.{ℕ, Bool, List}
use Rattle.std.specs.Str.{IsUtf8}
use Rattle.std.proofs.lemmas.Bool.{false≢true}
use Rattle.js_term.specs.Term.{Text, Term, all}
use Rattle.js_syntax.specs.Spelling as spell
use Rattle.js_syntax.specs.Spelling.{Listed, Block, Embedded, Statement, Declaration, Perhaps, ForInit, ForLeft, Cases, Handler, Finalizer}
use Rattle.js_reading.proofs.TokensThere.{see_sign, see_word, on_line}
use Rattle.js_reading.proofs.Below.{Fits, Small, Smalls, Below, first_in, second_in, third_in, fourth_in, items_in, head_in, tail_in, fits, expressions_below, expression_below}
use Rattle.js_reading.proofs.StatementsBelow.{statements_follow}
use Rattle.js_reading.proofs.FunctionsBelow.{pattern_bound, function_below, class_below}
use Rattle.js_reading.proofs.Opens.{expression_opens, target_opens}
use Rattle.js_reading.proofs.Joining.{expression_joined}
use Rattle.js_reading.proofs.Dispatching.{stands_starts}
use Rattle.js_reading.proofs.StatementStarts.{IsReadStatement}
use Rattle.js_reading.proofs.StatementsThere.{IsReadBlock, block_read, block_statement_read, IsReadEmbedded, embedded_read, condition_read, if_read, if_else_read, do_read, while_read}
use Rattle.js_reading.proofs.Jumping.{empty_read, continue_read, break_read, bare_return_read, ending_read, return_read, throw_read, debugger_read}
use Rattle.js_reading.proofs.Effects.{effect_read, labeled_read}
use Rattle.js_reading.proofs.Declarations.{IsReadDeclarators, last_declarator, and_declarator, bare_declarator_read, declarator_read, variables_read, function_declaration_read, class_declaration_read}
use Rattle.js_reading.proofs.Heads.{IsReadInit, no_init_read, init_variables_read, single_init_read, sequence_init_read, IsReadLeft, left_variable_read, left_target_read, IsReadPerhaps, perhaps_not_read, perhaps_read, for_read, for_in_read, for_of_read, for_await_read}
use Rattle.js_reading.proofs.Switches.{IsReadCases, no_cases_read, case_test_read, default_test_read, next_case_read, switch_read, IsReadHandler, no_handler_read, bare_handler_read, handler_read, IsReadFinalizer, no_finalizer_read, finalizer_read, try_read}

module _ {d : ℕ} (below : Below d) where
  embedded_below : {s : Term} {a b : Text} → Embedded s a b → IsUtf8 a → Small d s → IsReadEmbedded s a b
  embedded_below (spell.embedded h s) u fit = embedded_read h (below.statement s u fit)

  block_below : {s : Term} {a b : Text} → Block s a b → IsUtf8 a → Fits d s → IsReadBlock s a b
  block_below (spell.block x ss y) u fit = let t = see_sign x u in let r = statements_follow below ss t.utf8 (items_in (first_in fit)) in block_read t r.read (see_sign y r.read.utf8)

  declarators_below : {i : Bool} {ds : List Term} {a b : Text} → Listed (spell.declarator i) ds a b → IsUtf8 a → Smalls d (all ds) → IsReadDeclarators i ds a b
  declarators_below (spell.last (spell.a_declarator p)) u fit = last_declarator (bare_declarator_read (pattern_bound below p u (first_in (fits (head_in fit)))))
  declarators_below (spell.last (spell.an_initialized p x e)) u fit = let r = pattern_bound below p u (first_in (fits (head_in fit))) in let t = see_sign x r.utf8 in last_declarator (declarator_read r t (below.stands e t.utf8 (second_in (fits (head_in fit)))))
  declarators_below (spell.and (spell.a_declarator p) y ds) u fit = let r = pattern_bound below p u (first_in (fits (head_in fit))) in let k = see_sign y r.utf8 in and_declarator (bare_declarator_read r) k (declarators_below ds k.utf8 (tail_in fit))
  declarators_below (spell.and (spell.an_initialized p x e) y ds) u fit = let r = pattern_bound below p u (first_in (fits (head_in fit))) in let t = see_sign x r.utf8 in let q = below.stands e t.utf8 (second_in (fits (head_in fit))) in let k = see_sign y q.utf8 in and_declarator (declarator_read r t q) k (declarators_below ds k.utf8 (tail_in fit))

  declaration_at : {s : Term} {a b : Text} → Declaration s a b → IsUtf8 a → Fits d s → IsReadStatement s a b
  declaration_at (spell.variables (spell.declarators is w ds) end) u fit = let t = see_word w u in variables_read is t (declarators_below ds t.utf8 (items_in (first_in fit))) end
  declaration_at (spell.function_declaration named f) u fit = function_declaration_read named (function_below below f u fit)
  declaration_at (spell.class_declaration named c) u fit = class_declaration_read named (class_below below c u fit)

  init_below : {t : Term} {a b : Text} → ForInit t a b → IsUtf8 a → Small d t → IsReadInit t a b
  init_below spell.no_init u fit = no_init_read u
  init_below (spell.init_variables (spell.declarators is w ds)) u fit = let t = see_word w u in init_variables_read is t (declarators_below ds t.utf8 (items_in (first_in (fits fit))))
  init_below (spell.init_expression (spell.single s)) u fit = single_init_read (below.stands s u fit) (stands_starts s u)
  init_below (spell.init_expression (spell.sequence h (spell.last e))) u fit = absurd (false≢true h)
  init_below (spell.init_expression (spell.sequence h (spell.and (spell.an_expression s) x es))) u fit = let r = below.stands s u (head_in (items_in (first_in (fits fit)))) in let k = see_sign x r.utf8 in sequence_init_read r (stands_starts s u) k (expressions_below below es k.utf8 (tail_in (items_in (first_in (fits fit)))))

  left_below : {t : Term} {a b : Text} → ForLeft t a b → IsUtf8 a → Small d t → IsReadLeft t a b
  left_below (spell.left_variable is w p) u fit = let t = see_word w u in left_variable_read is t (pattern_bound below p t.utf8 (first_in (fits (head_in (items_in (first_in (fits fit)))))))
  left_below (spell.left_target t) u fit = let o = target_opens t u in left_target_read o.starts (below.target t u fit)

  perhaps_below : {e : Term} {a b : Text} → Perhaps e a b → IsUtf8 a → Small d e → IsReadPerhaps e a b
  perhaps_below spell.perhaps_not u fit = perhaps_not_read u
  perhaps_below (spell.perhaps e) u fit = let o = expression_opens e u in perhaps_read o.starts (expression_below below e u fit)

  cases_below : {cs : List Term} {a b : Text} → Cases cs a b → IsUtf8 a → Smalls d (all cs) → IsReadCases cs a b
  cases_below spell.no_cases u fit = no_cases_read u
  cases_below (spell.next_case w e x ss cs) u fit = let t = see_word w u in let r = expression_below below e t.utf8 (first_in (fits (head_in fit))) in let k = see_sign x r.utf8 in let q = statements_follow below ss k.utf8 (items_in (second_in (fits (head_in fit)))) in next_case_read (case_test_read t r) k q (cases_below cs q.read.utf8 (tail_in fit))
  cases_below (spell.default_case w x ss cs) u fit = let t = see_word w u in let k = see_sign x t.utf8 in let q = statements_follow below ss k.utf8 (items_in (second_in (fits (head_in fit)))) in next_case_read (default_test_read t) k q (cases_below cs q.read.utf8 (tail_in fit))

  handler_below : {h : Term} {a b : Text} → Handler h a b → IsUtf8 a → Small d h → IsReadHandler h a b
  handler_below spell.no_handler u fit = no_handler_read u
  handler_below (spell.bare_handler w s) u fit = let t = see_word w u in bare_handler_read t (block_below s t.utf8 (fits (second_in (fits fit))))
  handler_below (spell.handler w x p y s) u fit = let t = see_word w u in let k = see_sign x t.utf8 in let r = pattern_bound below p k.utf8 (first_in (fits (first_in (fits fit)))) in let k' = see_sign y r.utf8 in handler_read t k r k' (block_below s k'.utf8 (fits (second_in (fits fit))))

  finalizer_below : {f : Term} {a b : Text} → Finalizer f a b → IsUtf8 a → Small d f → IsReadFinalizer f a b
  finalizer_below spell.no_finalizer u fit = no_finalizer_read u
  finalizer_below (spell.finalizer w s) u fit = let t = see_word w u in finalizer_read t (block_below s t.utf8 (fits fit))

  pub statement_at : {s : Term} {a b : Text} → Statement s a b → IsUtf8 a → Fits d s → IsReadStatement s a b
  statement_at (spell.block_statement s) u fit = block_statement_read (block_below s u fit)
  statement_at (spell.declaration d) u fit = declaration_at d u fit
  statement_at (spell.empty_statement x) u fit = empty_read (see_sign x u)
  statement_at (spell.expression_statement plain e end) u fit = effect_read plain u (expression_opens e u) (expression_joined e u) (expression_below below e u (first_in fit)) end
  statement_at (spell.if_statement w x e y s) u fit = let t = see_word w u in let k = see_sign x t.utf8 in let r = expression_below below e k.utf8 (first_in fit) in let k' = see_sign y r.utf8 in if_read t (condition_read k r k') (embedded_below s k'.utf8 (second_in fit))
  statement_at (spell.if_else shut w x e y s v z) u fit = let t = see_word w u in let k = see_sign x t.utf8 in let r = expression_below below e k.utf8 (first_in fit) in let k' = see_sign y r.utf8 in let q = embedded_below s k'.utf8 (second_in fit) in let t' = see_word v q.read.utf8 in if_else_read shut t (condition_read k r k') q t' (embedded_below z t'.utf8 (third_in fit))
  statement_at (spell.do_while w s v x e y end) u fit = let t = see_word w u in let q = embedded_below s t.utf8 (first_in fit) in let t' = see_word v q.read.utf8 in let k = see_sign x t'.utf8 in let r = expression_below below e k.utf8 (second_in fit) in do_read t q t' (condition_read k r (see_sign y r.utf8)) end
  statement_at (spell.while_statement w x e y s) u fit = let t = see_word w u in let k = see_sign x t.utf8 in let r = expression_below below e k.utf8 (first_in fit) in let k' = see_sign y r.utf8 in while_read t (condition_read k r k') (embedded_below s k'.utf8 (second_in fit))
  statement_at (spell.for_statement w x i y p y' p' z s) u fit = let t = see_word w u in let k = see_sign x t.utf8 in let r = init_below i k.utf8 (first_in fit) in let k1 = see_sign y r.utf8 in let r1 = perhaps_below p k1.utf8 (second_in fit) in let k2 = see_sign y' r1.utf8 in let r2 = perhaps_below p' k2.utf8 (third_in fit) in let k3 = see_sign z r2.utf8 in for_read t k r k1 r1 k2 r2 k3 (embedded_below s k3.utf8 (fourth_in fit))
  statement_at (spell.for_in w x l v e y s) u fit = let t = see_word w u in let k = see_sign x t.utf8 in let r = left_below l k.utf8 (first_in fit) in let t' = see_word v r.utf8 in let q = expression_below below e t'.utf8 (second_in fit) in let k' = see_sign y q.utf8 in for_in_read t k r t' q k' (embedded_below s k'.utf8 (third_in fit))
  statement_at (spell.for_of_statement named w x l v e y s) u fit = let t = see_word w u in let k = see_sign x t.utf8 in let r = left_below l k.utf8 (first_in fit) in let t' = see_word v r.utf8 in let q = below.stands e t'.utf8 (second_in fit) in let k' = see_sign y q.utf8 in for_of_read named t k r t' (stands_starts e t'.utf8) q k' (embedded_below s k'.utf8 (third_in fit))
  statement_at (spell.for_await w w' x l v e y s) u fit = let t = see_word w u in let a = see_word w' t.utf8 in let k = see_sign x a.utf8 in let r = left_below l k.utf8 (first_in fit) in let t' = see_word v r.utf8 in let q = below.stands e t'.utf8 (second_in fit) in let k' = see_sign y q.utf8 in for_await_read t a k r t' (stands_starts e t'.utf8) q k' (embedded_below s k'.utf8 (third_in fit))
  statement_at (spell.continue_statement w l end) u fit = continue_read (see_word w u) l end
  statement_at (spell.break_statement w l end) u fit = break_read (see_word w u) l end
  statement_at (spell.bare_return w end) u fit = bare_return_read (see_word w u) end
  statement_at (spell.return_statement w line e end) u fit = let t = see_word w u in let o = expression_opens e t.utf8 in return_read t (on_line _ line) (ending_read o.starts (expression_below below e t.utf8 (first_in fit)) end)
  statement_at (spell.switch_statement sound w x e y x' cs y') u fit = let t = see_word w u in let k = see_sign x t.utf8 in let r = expression_below below e k.utf8 (first_in fit) in let k1 = see_sign y r.utf8 in let k2 = see_sign x' k1.utf8 in let q = cases_below cs k2.utf8 (items_in (second_in fit)) in switch_read sound t (condition_read k r k1) k2 q (see_sign y' q.utf8)
  statement_at (spell.labeled free tok x s) u fit = let t = see_word tok u in let k = see_sign x t.utf8 in labeled_read free t k (embedded_below s k.utf8 (second_in fit))
  statement_at (spell.throw_statement w line e end) u fit = let t = see_word w u in let o = expression_opens e t.utf8 in throw_read t (on_line _ line) (ending_read o.starts (expression_below below e t.utf8 (first_in fit)) end)
  statement_at (spell.try_statement sound w s h f) u fit = let t = see_word w u in let r = block_below s t.utf8 (fits (first_in fit)) in let q = handler_below h r.utf8 (second_in fit) in try_read sound t r q (finalizer_below f q.utf8 (third_in fit))
  statement_at (spell.debugger w end) u fit = debugger_read (see_word w u) end
