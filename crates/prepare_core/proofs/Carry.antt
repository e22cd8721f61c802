-- What each node is carried to.
use Rattle.std.proofs.Common.{◌≡◌, refl, sym, ◌∙◌, ap, ℕ, zero, suc, List, [], ◌∷◌, ◌++◌, Option, None, Some, Bool, true, false, ◌||◌, cond, map, codes, length}
use Rattle.std.specs.Prelude.{option_map}
use Rattle.std.specs.HashSet.{HashSet}
use Rattle.js_term.specs.Term.{Text, Term, Terms, absent, list, node, none, more, two, all, maybe, flag, is_text, first}
use Rattle.js_term.specs.declared.kind.Kind.{Kind}
use Rattle.js_term.specs.declared.kind.Kind.TheVariants as Kind
use Rattle.js_term.specs.Lexeme.{is_one_of}
use Rattle.js_term.specs.Scope.{Role, role, Env, Scope, Entry, here, arguments_object, imported, plainly, call_scope, entry_of, found, resolve, inner, function_env, body_names, parameter_names}
use Rattle.small_tree.specs.TermOf.{binding_term, pattern_term, parameter_term, parameters_term, directive_term, statement_term, function_term, function_word}
use Rattle.small_tree.specs.declared.id.BindingIdentifier.{BindingIdentifier}
use Rattle.small_tree.specs.declared.function.BindingPattern.{BindingPattern}
use Rattle.small_tree.specs.declared.function.BindingPattern.TheVariants as binding_pattern
use Rattle.small_tree.specs.declared.function.FormalParameter.{FormalParameter}
use Rattle.small_tree.specs.declared.function.Directive.{Directive}
use Rattle.small_tree.specs.declared.function.Function.{Function}
use Rattle.small_tree.specs.declared.function.FunctionKind.{FunctionKind}
use Rattle.small_tree.specs.declared.function.FunctionKind.TheVariants as function_kind
use Rattle.small_tree.specs.declared.statement.Statement.{Statement}
use Rattle.small_tree.proofs.Levels.{function_parts}
use Rattle.module_model.specs.Resolved.{finished}
use Rattle.module_model.specs.Run.{spelled, written}
use Rattle.prepare_core.specs.Names.{IsScopeOf, function_names, kids_of_function, is_value, within}
use Rattle.prepare_core.specs.Carried.{Turn, as_it_is, spelled_out, usual, turn, turned, carried, carried_kids, function_with}
use Rattle.prepare_core.proofs.Look.{has_entry, flips}

-- two environments in which each name is written alike
pub record Alike (env out : Env) : Type 0 where
  pub same : (x : Text) → written env x ≡ written out x

under : (s : Scope) {env out : Env} → Alike env out → Alike (s ∷ env) (s ∷ out)
under s {env} {out} a = record { same = λ x. by x (entry_of s x) }
  where
    by : (x : Text) (o : Option Entry) → spelled x (found o (length env) x (resolve env x)) ≡ spelled x (found o (length out) x (resolve out x))
    by x None = a.same x
    by x (Some here) = refl
    by x (Some arguments_object) = refl
    by x (Some (imported j None)) = refl
    by x (Some (imported j (Some k))) = refl

function_alike : (b : Bool) {env out : Env} (ts : Terms) → Alike env out → (n : ℕ) → Alike (function_env b env ts n) (function_env b out ts n)
function_alike b ts a zero = a
function_alike b ts a (suc zero) = under (call_scope (parameter_names b ts)) a
function_alike b ts a (suc (suc n)) = under (call_scope (body_names b ts)) a

inner_alike : (r : Role) {env out : Env} (ts : Terms) → Alike env out → (n : ℕ) → Alike (inner r env ts n) (inner r out ts n)
inner_alike Role.function_value ts a n = function_alike true ts a n
inner_alike Role.function_named ts a n = function_alike false ts a n
inner_alike Role.reference ts a n = a
inner_alike Role.bound ts a n = a
inner_alike Role.calls ts a n = a
inner_alike Role.member ts a n = a
inner_alike Role.all_kids ts a n = a
inner_alike Role.first_kid ts a n = a
inner_alike Role.imports ts a n = a
inner_alike Role.exports_declaration ts a n = a
inner_alike Role.other ts a n = a

finished_alike : (f g : Text → Term) → ((x : Text) → f x ≡ g x) → (r : Role) (k : Kind) (xs : List Text) (ts us : Terms) → finished f r k xs ts us ≡ finished g r k xs ts us
finished_alike f g e Role.reference k xs ts us = e (first xs)
finished_alike f g e Role.function_value k xs ts us = refl
finished_alike f g e Role.function_named k xs ts us = refl
finished_alike f g e Role.bound k xs ts us = refl
finished_alike f g e Role.calls k xs ts us = refl
finished_alike f g e Role.member k xs ts us = refl
finished_alike f g e Role.all_kids k xs ts us = refl
finished_alike f g e Role.first_kid k xs ts us = refl
finished_alike f g e Role.imports k xs ts us = refl
finished_alike f g e Role.exports_declaration k xs ts us = refl
finished_alike f g e Role.other k xs ts us = refl

turned_alike : (w : Turn) (f g : Text → Term) → ((x : Text) → f x ≡ g x) → (k : Kind) (xs : List Text) (ts us : Terms) → turned w f k xs ts us ≡ turned w g k xs ts us
turned_alike as_it_is f g e k xs ts us = refl
turned_alike spelled_out f g e k xs ts us = refl
turned_alike usual f g e k xs ts us = finished_alike f g e (role k) k xs ts us

mutual
  pub carried_alike : {env out : Env} → Alike env out → (t : Term) → carried env t ≡ carried out t
  carried_alike a absent = refl
  carried_alike a (list ts) = ap list (kids_alike (λ n. a) ts)
  carried_alike {env} {out} a (node k xs ts) =
      turned_alike (turn k) (written env) (written out) a.same k xs ts (carried_kids (inner (role k) env ts) ts) ∙ ap (turned (turn k) (written out) k xs ts) (kids_alike (inner_alike (role k) ts a) ts)

  pub kids_alike : {envs outs : ℕ → Env} → ((n : ℕ) → Alike (envs n) (outs n)) → (ts : Terms) → carried_kids envs ts ≡ carried_kids outs ts
  kids_alike ws none = refl
  kids_alike {envs} {outs} ws (more t ts) =
      ap (λ u. more u (carried_kids (λ n. envs (suc n)) ts)) (carried_alike (ws 0) t) ∙ ap (more (carried (outs 0) t)) (kids_alike (λ n. ws (suc n)) ts)

-- the scope of a function, as a set of names

call_entry : (xs : List Text) (x : Text) → entry_of (call_scope xs) x ≡ cond (is_one_of x xs) (Some here) (cond (is_text x (codes "arguments")) (Some arguments_object) None)
call_entry [] x = rw (flips (codes "arguments") x) refl
call_entry (y ∷ ys) x =
    rw (flips y x)
    (elim (is_text x y) as (λ b. cond b (Some here) (entry_of (call_scope ys) x) ≡ cond (b || is_one_of x ys) (Some here) (cond (is_text x (codes "arguments")) (Some arguments_object) None)) [ true ↦ refl | false ↦ call_entry ys x ])

pub scope_alike : (keys xs : List Text) (env : Env) → IsScopeOf keys (codes "arguments" ∷ xs) → Alike (plainly keys ∷ env) (call_scope xs ∷ env)
scope_alike keys xs env s = record { same = λ x. rw (has_entry keys x, s.same x, call_entry xs x) (by x (is_text x (codes "arguments")) (is_one_of x xs)) }
  where
    by : (x : Text) (a b : Bool) → spelled x (found (cond (a || b) (Some here) None) (length env) x (resolve env x)) ≡ spelled x (found (cond b (Some here) (cond a (Some arguments_object) None)) (length env) x (resolve env x))
    by x true true = refl
    by x true false = refl
    by x false true = refl
    by x false false = refl

-- lists of nodes

pub each_carried : {E : Type 0} (env : Env) (f : E → Term) (xs : List E) → carried_kids (λ n. env) (all (map f xs)) ≡ all (map (λ x. carried env (f x)) xs)
each_carried env f [] = refl
each_carried env f (x ∷ xs) = ap (more (carried env (f x))) (each_carried env f xs)

each_alike : {E : Type 0} {env out : Env} → Alike env out → (f : E → Term) (xs : List E) → map (λ x. carried env (f x)) xs ≡ map (λ x. carried out (f x)) xs
each_alike a f [] = refl
each_alike {E} {env} {out} a f (x ∷ xs) = ap (λ t. t ∷ map (λ x. carried env (f x)) xs) (carried_alike a (f x)) ∙ ap (λ ts. carried out (f x) ∷ ts) (each_alike a f xs)

-- what is kept

name_kept : (env : Env) (b : Option BindingIdentifier) → carried env (maybe (option_map binding_term b)) ≡ maybe (option_map binding_term b)
name_kept env None = refl
name_kept env (Some b) = refl

pub pattern_kept : (env : Env) (p : BindingPattern) → carried env (pattern_term p) ≡ pattern_term p
pattern_kept env (binding_pattern.BindingIdentifier n) = refl

parameters_kept : (env : Env) (ps : List (FormalParameter BindingPattern)) → carried_kids (λ n. env) (all (map parameter_term ps)) ≡ all (map parameter_term ps)
parameters_kept env [] = refl
parameters_kept env (p ∷ ps) = rw (pattern_kept env p.pattern, parameters_kept env ps) refl

directives_kept : (env : Env) (ds : List Directive) → carried_kids (λ n. env) (all (map directive_term ds)) ≡ all (map directive_term ds)
directives_kept env [] = refl
directives_kept env (d ∷ ds) = ap (more (directive_term d)) (directives_kept env ds)

-- a function whose statements are carried in the scope of its names
pub function_carried : (env : Env) (n : Function) (keys : List Text) (ss : List Statement) → IsScopeOf keys (function_names n) → map statement_term ss ≡ map (λ s. carried (plainly keys ∷ env) (statement_term s)) n.body.statements → function_with n (all (map statement_term ss)) ≡ carried env (function_term n)
function_carried env n keys ss s e = by n.kind s ∙ ap (carried env) (sym (function_parts n))
  where
    texts : List Text
    texts = flag n.is_async (codes "async") ∷ flag n.is_generator (codes "*") ∷ []

    kids : Terms
    kids = kids_of_function n

    made : FunctionKind → Term
    made k = node (function_word k) texts (more (maybe (option_map binding_term n.id)) (two (parameters_term n.params) (node Kind.FunctionBody [] (two (list (all (map directive_term n.body.directives))) (list (all (map statement_term ss)))))))

    by : (k : FunctionKind) → IsScopeOf keys (codes "arguments" ∷ body_names (is_value k) kids) → made k ≡ carried env (node (function_word k) texts kids)
    by function_kind.FunctionDeclaration s =
        let outer : Env = call_scope (parameter_names false kids) ∷ env in
        let own : Env = call_scope (body_names false kids) ∷ env in
        rw (e, each_alike (scope_alike keys (body_names false kids) env s) statement_term n.body.statements, name_kept env n.id, parameters_kept outer n.params.items, directives_kept own n.body.directives, each_carried own statement_term n.body.statements) refl
    by function_kind.FunctionExpression s =
        let outer : Env = call_scope (parameter_names true kids) ∷ env in
        let own : Env = call_scope (body_names true kids) ∷ env in
        rw (e, each_alike (scope_alike keys (body_names true kids) env s) statement_term n.body.statements, name_kept env n.id, parameters_kept outer n.params.items, directives_kept own n.body.directives, each_carried own statement_term n.body.statements) refl

-- the same where the scope is the last of those that the runner carries
within_more : {S : Type 0} (env : Env) (ss : List (HashSet Text S)) (s : HashSet Text S) → within env (ss ++ s ∷ []) ≡ plainly s.keys ∷ within env ss
within_more env [] s = refl
within_more env (t ∷ ss) s = within_more (plainly t.keys ∷ env) ss s

pub function_inside : {S : Type 0} (env : Env) (scopes : List (HashSet Text S)) (n : Function) (scope : HashSet Text S) (ss : List Statement) → IsScopeOf scope.keys (function_names n) → map statement_term ss ≡ map (λ s. carried (within env (scopes ++ scope ∷ [])) (statement_term s)) n.body.statements → function_with n (all (map statement_term ss)) ≡ carried (within env scopes) (function_term n)
function_inside env scopes n scope ss s e =
    function_carried (within env scopes) n scope.keys ss s (e ∙ ap (λ env. map (λ s. carried env (statement_term s)) n.body.statements) (within_more env scopes scope))
