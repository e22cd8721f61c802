-- The induction over a tree: what is claimed of each node holds, one rule for each kind.
use Rattle.std.proofs.Common.{◌≡◌, refl, sym, ap, ◌∙◌, subst, ℕ, suc, zero, List, [], ◌∷◌, Bool, true, false, not, ◌||◌}
use Rattle.std.proofs.lemmas.Bool.{and_parts}
use Rattle.js_term.specs.Term.{Text, Term, absent, list, node, Terms, none, more}
use Rattle.js_term.specs.declared.kind.Kind.{Kind}
use Rattle.js_syntax.specs.Everywhere.{everywhere_kids, everywhere_each, at_each_node}
use Rattle.js_syntax.specs.Parts.{is_set_at}
use Rattle.js_syntax.specs.Sorts.{Sort, Place, item_place, sort_of}
use Rattle.js_syntax.specs.Places.{place_at, places_at}
use Rattle.js_syntax.specs.Printable.{has_shape, fits, place_inside, has_link, first_has_link, spine_inside, allows_links, has_chains}
use Rattle.print_spelling.proofs.Tokens.{differ}
use Rattle.print_spelling.proofs.Fits.{Fit, fit_of, plainly, plain_places, is_special, is_program, list_shape, each_shaped, kids_shaped}
use Rattle.print_spelling.proofs.Claims.{Mode, off, mode_inside, Linked, unlinked, category, Meaning, Claim, Each, Kids, Rule, ExpressionRule}
use Rattle.print_spelling.proofs.Quiet.{is_quasi, within, agrees, item_agrees, are_quiet, is_tagged_kind, quiet}
use Rattle.print_spelling.proofs.Whole.{is_on, on_inside, link_mode, declared, functional, declarator_of_sort, variables_of_sort, class_of_sort, template_of_sort}
use Rattle.print_spelling.proofs.Leaves.{binding_rule, identifier_rule, string_rule, number_rule, bigint_rule, boolean_rule, null_rule, regexp_rule, this_rule, meta_rule, target_rule, parenthesized_rule}
use Rattle.print_spelling.proofs.Operators.{sequence_rule, yield_rule, conditional_rule, logical_rule, binary_rule, private_in_rule, unary_rule, await_rule}
use Rattle.print_spelling.proofs.Links.{call_rule, static_rule, computed_rule, private_rule, chain_rule, LinkRule}
use Rattle.print_spelling.proofs.Templates.{import_rule, new_rule, tagged_rule}
use Rattle.print_spelling.proofs.Assignments.{assignment_rule, update_rule}
use Rattle.print_spelling.proofs.Patterns.{parameters_rule, parameter_rule, array_pattern_rule, default_rule, array_target_rule, target_default_rule}
use Rattle.print_spelling.proofs.ObjectPatterns.{object_pattern_rule, binding_property_rule}
use Rattle.print_spelling.proofs.ObjectTargets.{object_target_rule, target_property_rule}
use Rattle.print_spelling.proofs.Functions.{arrow_rule}
use Rattle.print_spelling.proofs.Objects.{spread_rule, property_rule, array_rule, object_rule}
use Rattle.print_spelling.proofs.Bodies.{block_rule, body_rule}
use Rattle.print_spelling.proofs.Statements.{break_rule, continue_rule, debugger_rule, do_rule, empty_rule, expression_statement_rule, if_rule, labeled_rule, return_rule, throw_rule, try_rule, handler_rule, while_rule}
use Rattle.print_spelling.proofs.Heads.{for_in_rule, for_of_rule, for_rule, switch_rule}
use Rattle.print_spelling.proofs.Classes.{static_block_rule, method_definition_rule, field_rule, class_expression_rule}
use Rattle.print_spelling.proofs.Items.{import_declaration_rule, export_all_rule, export_named_rule, export_from_rule, export_declaration_rule, export_default_rule}

-- a node at its place, with what is claimed of its parts
record Here (m : Mode) (s : Sort) (k : Kind) (xs : List Text) (ts : Terms) : Type 0 where
  fit : Fit (places_at s k xs) k xs ts
  linked : allows_links (is_on m) k xs ts ≡ true
  quiet : agrees (Place.one s) m ≡ true
  kids : Kids (mode_inside m k) 0 ts

ruled : (k : Kind) → Rule k → is_special k ≡ false → (m : Mode) (s : Sort) (xs : List Text) (ts : Terms) → Here m s k xs ts → Meaning m (category k) (node k xs ts)
ruled k rule e m s xs ts h = rule m xs ts (plainly s k xs ts e h.fit) h.kids

expressed : (k : Kind) → ExpressionRule k → is_special k ≡ false → (m : Mode) (s : Sort) (xs : List Text) (ts : Terms) → has_link (node k xs ts) ≡ false → Fit (places_at s k xs) k xs ts → Kids (λ n. off) 0 ts → Linked m (node k xs ts)
expressed k rule e m s xs ts l f c = unlinked m (node k xs ts) l (rule xs ts (plainly s k xs ts e f) c)

joined : (k : Kind) → LinkRule k → is_special k ≡ false → (m : Mode) (s : Sort) (xs : List Text) (ts : Terms) → is_on m || not (is_set_at 0 xs) ≡ true → Here m s k xs ts → Linked m (node k xs ts)
joined k rule e m s xs ts l h = rule m xs ts (plainly s k xs ts e h.fit) h.kids (link_mode m (is_set_at 0 xs) l)

chain_at : (m : Mode) (s : Sort) (xs : List Text) (ts : Terms) → Here m s Kind.ChainExpression xs ts → Linked m (node Kind.ChainExpression xs ts)
chain_at m s xs ts h =
    unlinked m (node Kind.ChainExpression xs ts) refl
    (chain_rule xs ts (plainly s Kind.ChainExpression xs ts refl h.fit) h.kids (λ e. differ (sym h.linked ∙ ap first_has_link e)) (λ t e. sym (ap first_has_link e) ∙ h.linked))

by_kind : (m : Mode) (s : Sort) (k : Kind) (xs : List Text) (ts : Terms) → Here m s k xs ts → Meaning m (category k) (node k xs ts)
by_kind m s Kind.BlockStatement xs ts h = ruled Kind.BlockStatement block_rule refl m s xs ts h
by_kind m s Kind.BreakStatement xs ts h = ruled Kind.BreakStatement break_rule refl m s xs ts h
by_kind m s Kind.ContinueStatement xs ts h = ruled Kind.ContinueStatement continue_rule refl m s xs ts h
by_kind m s Kind.DebuggerStatement xs ts h = ruled Kind.DebuggerStatement debugger_rule refl m s xs ts h
by_kind m s Kind.DoWhileStatement xs ts h = ruled Kind.DoWhileStatement do_rule refl m s xs ts h
by_kind m s Kind.EmptyStatement xs ts h = ruled Kind.EmptyStatement empty_rule refl m s xs ts h
by_kind m s Kind.ExpressionStatement xs ts h = ruled Kind.ExpressionStatement expression_statement_rule refl m s xs ts h
by_kind m s Kind.ForInStatement xs ts h = ruled Kind.ForInStatement for_in_rule refl m s xs ts h
by_kind m s Kind.ForOfStatement xs ts h = ruled Kind.ForOfStatement for_of_rule refl m s xs ts h
by_kind m s Kind.ForStatement xs ts h = ruled Kind.ForStatement for_rule refl m s xs ts h
by_kind m s Kind.IfStatement xs ts h = ruled Kind.IfStatement if_rule refl m s xs ts h
by_kind m s Kind.LabeledStatement xs ts h = ruled Kind.LabeledStatement labeled_rule refl m s xs ts h
by_kind m s Kind.ReturnStatement xs ts h = ruled Kind.ReturnStatement return_rule refl m s xs ts h
by_kind m s Kind.SwitchStatement xs ts h = ruled Kind.SwitchStatement switch_rule refl m s xs ts h
by_kind m s Kind.ThrowStatement xs ts h = ruled Kind.ThrowStatement throw_rule refl m s xs ts h
by_kind m s Kind.TryStatement xs ts h = ruled Kind.TryStatement try_rule refl m s xs ts h
by_kind m s Kind.CatchClause xs ts h = ruled Kind.CatchClause handler_rule refl m s xs ts h
by_kind m s Kind.WhileStatement xs ts h = ruled Kind.WhileStatement while_rule refl m s xs ts h
by_kind m s Kind.ImportDeclaration xs ts h = ruled Kind.ImportDeclaration import_declaration_rule refl m s xs ts h
by_kind m s Kind.ExportAllDeclaration xs ts h = ruled Kind.ExportAllDeclaration export_all_rule refl m s xs ts h
by_kind m s Kind.ExportNamedDeclaration xs ts h = ruled Kind.ExportNamedDeclaration export_named_rule refl m s xs ts h
by_kind m s Kind.ExportFromDeclaration xs ts h = ruled Kind.ExportFromDeclaration export_from_rule refl m s xs ts h
by_kind m s Kind.ExportDeclaration xs ts h = ruled Kind.ExportDeclaration export_declaration_rule refl m s xs ts h
by_kind m s Kind.ExportDefaultDeclaration xs ts h = ruled Kind.ExportDefaultDeclaration export_default_rule refl m s xs ts h
by_kind m s Kind.FormalParameters xs ts h = ruled Kind.FormalParameters parameters_rule refl m s xs ts h
by_kind m s Kind.FormalParameter xs ts h = ruled Kind.FormalParameter parameter_rule refl m s xs ts h
by_kind m s Kind.FunctionBody xs ts h = ruled Kind.FunctionBody body_rule refl m s xs ts h
by_kind m s Kind.StaticBlock xs ts h = ruled Kind.StaticBlock static_block_rule refl m s xs ts h
by_kind m s Kind.MethodDefinition xs ts h = ruled Kind.MethodDefinition method_definition_rule refl m s xs ts h
by_kind m s Kind.PropertyDefinition xs ts h = ruled Kind.PropertyDefinition field_rule refl m s xs ts h
by_kind m s Kind.BindingIdentifier xs ts h = ruled Kind.BindingIdentifier binding_rule refl m s xs ts h
by_kind m s Kind.ObjectPattern xs ts h = ruled Kind.ObjectPattern object_pattern_rule refl m s xs ts h
by_kind m s Kind.BindingProperty xs ts h = ruled Kind.BindingProperty binding_property_rule refl m s xs ts h
by_kind m s Kind.ArrayPattern xs ts h = ruled Kind.ArrayPattern array_pattern_rule refl m s xs ts h
by_kind m s Kind.AssignmentPattern xs ts h = ruled Kind.AssignmentPattern default_rule refl m s xs ts h
by_kind m s Kind.ArrayAssignmentTarget xs ts h = ruled Kind.ArrayAssignmentTarget array_target_rule refl m s xs ts h
by_kind m s Kind.ObjectAssignmentTarget xs ts h = ruled Kind.ObjectAssignmentTarget object_target_rule refl m s xs ts h
by_kind m s Kind.AssignmentTargetProperty xs ts h = ruled Kind.AssignmentTargetProperty target_property_rule refl m s xs ts h
by_kind m s Kind.AssignmentTargetWithDefault xs ts h = ruled Kind.AssignmentTargetWithDefault target_default_rule refl m s xs ts h
by_kind m s Kind.SpreadElement xs ts h = ruled Kind.SpreadElement spread_rule refl m s xs ts h
by_kind m s Kind.ObjectProperty xs ts h = ruled Kind.ObjectProperty property_rule refl m s xs ts h
by_kind m s Kind.ClassExpression xs ts h = expressed Kind.ClassExpression class_expression_rule refl m s xs ts refl h.fit h.kids
by_kind m s Kind.Identifier xs ts h = expressed Kind.Identifier identifier_rule refl m s xs ts refl h.fit h.kids
by_kind m s Kind.StringLiteral xs ts h = expressed Kind.StringLiteral string_rule refl m s xs ts refl h.fit h.kids
by_kind m s Kind.NumericLiteral xs ts h = expressed Kind.NumericLiteral number_rule refl m s xs ts refl h.fit h.kids
by_kind m s Kind.BigIntLiteral xs ts h = expressed Kind.BigIntLiteral bigint_rule refl m s xs ts refl h.fit h.kids
by_kind m s Kind.BooleanLiteral xs ts h = expressed Kind.BooleanLiteral boolean_rule refl m s xs ts refl h.fit h.kids
by_kind m s Kind.NullLiteral xs ts h = expressed Kind.NullLiteral null_rule refl m s xs ts refl h.fit h.kids
by_kind m s Kind.RegExpLiteral xs ts h = expressed Kind.RegExpLiteral regexp_rule refl m s xs ts refl h.fit h.kids
by_kind m s Kind.ThisExpression xs ts h = expressed Kind.ThisExpression this_rule refl m s xs ts refl h.fit h.kids
by_kind m s Kind.ImportMeta xs ts h = expressed Kind.ImportMeta meta_rule refl m s xs ts refl h.fit h.kids
by_kind m s Kind.NewTarget xs ts h = expressed Kind.NewTarget target_rule refl m s xs ts refl h.fit h.kids
by_kind m s Kind.ParenthesizedExpression xs ts h = expressed Kind.ParenthesizedExpression parenthesized_rule refl m s xs ts refl h.fit h.kids
by_kind m s Kind.ArrayExpression xs ts h = expressed Kind.ArrayExpression array_rule refl m s xs ts refl h.fit h.kids
by_kind m s Kind.ObjectExpression xs ts h = expressed Kind.ObjectExpression object_rule refl m s xs ts refl h.fit h.kids
by_kind m s Kind.SequenceExpression xs ts h = expressed Kind.SequenceExpression sequence_rule refl m s xs ts refl h.fit h.kids
by_kind m s Kind.AssignmentExpression xs ts h = expressed Kind.AssignmentExpression assignment_rule refl m s xs ts refl h.fit h.kids
by_kind m s Kind.ArrowFunctionExpression xs ts h = expressed Kind.ArrowFunctionExpression arrow_rule refl m s xs ts refl h.fit h.kids
by_kind m s Kind.YieldExpression xs ts h = expressed Kind.YieldExpression yield_rule refl m s xs ts refl h.fit h.kids
by_kind m s Kind.ConditionalExpression xs ts h = expressed Kind.ConditionalExpression conditional_rule refl m s xs ts refl h.fit h.kids
by_kind m s Kind.LogicalExpression xs ts h = expressed Kind.LogicalExpression logical_rule refl m s xs ts refl h.fit h.kids
by_kind m s Kind.BinaryExpression xs ts h = expressed Kind.BinaryExpression binary_rule refl m s xs ts refl h.fit h.kids
by_kind m s Kind.PrivateInExpression xs ts h = expressed Kind.PrivateInExpression private_in_rule refl m s xs ts refl h.fit h.kids
by_kind m s Kind.UnaryExpression xs ts h = expressed Kind.UnaryExpression unary_rule refl m s xs ts refl h.fit h.kids
by_kind m s Kind.AwaitExpression xs ts h = expressed Kind.AwaitExpression await_rule refl m s xs ts refl h.fit h.kids
by_kind m s Kind.UpdateExpression xs ts h = expressed Kind.UpdateExpression update_rule refl m s xs ts refl h.fit h.kids
by_kind m s Kind.ImportExpression xs ts h = expressed Kind.ImportExpression import_rule refl m s xs ts refl h.fit h.kids
by_kind m s Kind.NewExpression xs ts h = expressed Kind.NewExpression new_rule refl m s xs ts refl h.fit h.kids
by_kind m s Kind.CallExpression xs ts h = joined Kind.CallExpression call_rule refl m s xs ts h.linked h
by_kind m s Kind.StaticMemberExpression xs ts h = joined Kind.StaticMemberExpression static_rule refl m s xs ts h.linked h
by_kind m s Kind.ComputedMemberExpression xs ts h = joined Kind.ComputedMemberExpression computed_rule refl m s xs ts h.linked h
by_kind m s Kind.PrivateFieldExpression xs ts h = joined Kind.PrivateFieldExpression private_rule refl m s xs ts h.linked h
by_kind m s Kind.ChainExpression xs ts h = chain_at m s xs ts h
by_kind m s Kind.TaggedTemplateExpression xs ts h = unlinked m (node Kind.TaggedTemplateExpression xs ts) refl (tagged_rule m xs ts (plainly s Kind.TaggedTemplateExpression xs ts refl h.fit) h.kids)
by_kind m s Kind.TemplateLiteral xs ts h = template_of_sort s m h.quiet xs ts h.fit h.kids
by_kind m s Kind.FunctionExpression xs ts h = unlinked m (node Kind.FunctionExpression xs ts) refl (functional s xs ts h.fit h.kids)
by_kind m s Kind.FunctionDeclaration xs ts h = declared s xs ts h.fit h.kids
by_kind m s Kind.ClassDeclaration xs ts h = class_of_sort s xs ts h.fit h.kids
by_kind m s Kind.VariableDeclaration xs ts h = variables_of_sort s m xs ts h.fit h.kids
by_kind m s Kind.VariableDeclarator xs ts h = declarator_of_sort s xs ts h.fit h.kids
by_kind m s k xs ts h = tt

program_meaning : (m : Mode) (k : Kind) (t : Term) → is_program k ≡ true → Meaning m (category k) t
program_meaning m Kind.Program t e = tt
program_meaning m k t e = differ (sym e)

node_meaning : (s : Sort) (m : Mode) (k : Kind) (xs : List Text) (ts : Terms) → has_shape (Place.one s) (node k xs ts) ≡ true → allows_links (is_on m) k xs ts ≡ true → agrees (Place.one s) m ≡ true → Kids (mode_inside m k) 0 ts → (b : Bool) → is_program k ≡ b → Meaning m (category k) (node k xs ts)
node_meaning s m k xs ts h l a c true e = program_meaning m k (node k xs ts) e
node_meaning s m k xs ts h l a c false e = by_kind m s k xs ts (record { fit = (fit_of s k xs ts e h).1; linked = l; quiet = a; kids = c })

node_claim : (p : Place) (m : Mode) (k : Kind) (xs : List Text) (ts : Terms) → has_shape p (node k xs ts) ≡ true → allows_links (is_on m) k xs ts ≡ true → agrees p m ≡ true → Kids (mode_inside m k) 0 ts → Claim m (node k xs ts)
node_claim (Place.one s) m k xs ts h l a c = (node_meaning s m k xs ts h l a c (is_program k) refl, c)
node_claim (Place.optional s) m k xs ts h l a c = (node_meaning s m k xs ts h l a c (is_program k) refl, c)
node_claim p m k xs ts h l a c = differ (sym h)

-- ---- each part stands at a place that takes it in its mode

quiet_at : (n : ℕ) (ps : List Place) → are_quiet ps ≡ true → not (is_quasi (within (place_at n ps))) ≡ true
quiet_at n [] h = refl
quiet_at zero (p ∷ ps) h = (and_parts (not (is_quasi (within p))) (are_quiet ps) h).0
quiet_at (suc n) (p ∷ ps) h = quiet_at n ps (and_parts (not (is_quasi (within p))) (are_quiet ps) h).1

tagged_agrees : (s : Sort) (m : Mode) (k : Kind) (xs : List Text) → is_tagged_kind k ≡ true → (n : ℕ) → agrees (place_at n (places_at s k xs)) (mode_inside m k n) ≡ true
tagged_agrees s m Kind.TaggedTemplateExpression xs e n = subst (λ ps. agrees (place_at n ps) (mode_inside m Kind.TaggedTemplateExpression n) ≡ true) (sym (plain_places s Kind.TaggedTemplateExpression xs refl)) (by n)
  where
    by : (n : ℕ) → agrees (place_at n (Place.one Sort.expression ∷ Place.one Sort.tagged_template ∷ [])) (mode_inside m Kind.TaggedTemplateExpression n) ≡ true
    by zero = refl
    by (suc zero) = refl
    by (suc (suc n)) = refl
tagged_agrees s m k xs e n = differ (sym e)

inside_agrees : (s : Sort) (m : Mode) (k : Kind) (xs : List Text) (n : ℕ) → agrees (place_at n (places_at s k xs)) (mode_inside m k n) ≡ true
inside_agrees s m k xs n = by (is_tagged_kind k) refl
  where
    by : (b : Bool) → is_tagged_kind k ≡ b → agrees (place_at n (places_at s k xs)) (mode_inside m k n) ≡ true
    by true e = tagged_agrees s m k xs e n
    by false e = rw (quiet_at n (places_at s k xs) (quiet s k xs e)) refl

-- ---- the induction

abbrev chained : Bool → Term → Bool
chained = at_each_node spine_inside allows_links

abbrev each_chained : Bool → Terms → Bool
each_chained = everywhere_each spine_inside (λ c. c) allows_links (λ c ts. true) (λ c. true)

abbrev kids_chained : (ℕ → Bool) → ℕ → Terms → Bool
kids_chained = everywhere_kids spine_inside (λ c. c) allows_links (λ c ts. true) (λ c. true)

mutual
  claim_at : (p : Place) (m : Mode) (t : Term) → has_shape p t ≡ true → chained (is_on m) t ≡ true → agrees p m ≡ true → Claim m t
  claim_at p m absent h c a = tt
  claim_at p m (list ts) h c a = claim_each (item_place p) m ts (list_shape p ts h).1 c (item_agrees p m a)
  claim_at p m (node k xs ts) h c a =
      let shape = and_parts (fits p k xs ts) (kids_shaped (place_inside p k xs ts) 0 ts) h in
      let links = and_parts (allows_links (is_on m) k xs ts) (kids_chained (spine_inside (is_on m) k xs ts) 0 ts) c in
      node_claim p m k xs ts h links.0 a (claim_kids (place_inside p k xs ts) (mode_inside m k) (spine_inside (is_on m) k xs ts) 0 ts shape.1 links.1 (on_inside m k xs ts) (inside_agrees (sort_of p Sort.expression) m k xs))

  claim_each : (p : Place) (m : Mode) (ts : Terms) → each_shaped p ts ≡ true → each_chained (is_on m) ts ≡ true → agrees p m ≡ true → Each m ts
  claim_each p m none h c a = tt
  claim_each p m (more t ts) h c a =
      let shape = and_parts (has_shape p t) (each_shaped p ts) h in
      let links = and_parts (chained (is_on m) t) (each_chained (is_on m) ts) c in
      (claim_at p m t shape.0 links.0 a, claim_each p m ts shape.1 links.1 a)

  claim_kids : (around : ℕ → Place) (modes : ℕ → Mode) (spines : ℕ → Bool) (n : ℕ) (ts : Terms) → kids_shaped around n ts ≡ true → kids_chained spines n ts ≡ true → ((j : ℕ) → is_on (modes j) ≡ spines j) → ((j : ℕ) → agrees (around j) (modes j) ≡ true) → Kids modes n ts
  claim_kids around modes spines n none h c e a = tt
  claim_kids around modes spines n (more t ts) h c e a =
      let shape = and_parts (has_shape (around n) t) (kids_shaped around (suc n) ts) h in
      let links = and_parts (chained (spines n) t) (kids_chained spines (suc n) ts) c in
      (claim_at (around n) (modes n) t shape.0 (subst (λ b. chained b t ≡ true) (sym (e n)) links.0) (a n), claim_kids around modes spines (suc n) ts shape.1 links.1 e a)

-- what is claimed of a tree that may stand at a place of the sort holds
pub tree_claim : (s : Sort) → is_quasi s ≡ false → (t : Term) → has_shape (Place.one s) t ≡ true → has_chains t ≡ true → Claim off t
tree_claim s q t h c = claim_at (Place.one s) off t h c (rw q refl)
