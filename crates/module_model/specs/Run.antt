-- The tree that the module runner writes for a small module.
use Rattle.std.specs.Prelude.{ℕ, suc, List, [], ◌∷◌, None, Some}
use Rattle.js_term.specs.Term.{Text, Term, list, node, Terms, none, more, append, two}
use Rattle.js_term.specs.declared.kind.Kind.TheVariants as Kind
use Rattle.js_term.specs.Scope.{Env, Answer, local, arguments_of, global, import_of, resolve, module_env}
use Rattle.js_term.specs.Form.{items_of}
use Rattle.js_term.specs.Node.{identifier_of, member_of}
use Rattle.module_model.specs.Resolved.{read, read_kids}
use Rattle.module_model.specs.Shape.{import_name, getter, request}
use Rattle.module_model.specs.Meaning.{Request, hashbang_of, directives_of, all_handed_out, all_kept, requests}

-- a name by what it stands for: an imported one is the member of its request
abbrev pub spelled : Text → Answer → Term
spelled x (import_of j None) = identifier_of (import_name j)
spelled x (import_of j (Some k)) = member_of (identifier_of (import_name j)) k
spelled x (local d y) = identifier_of x
spelled x (arguments_of d) = identifier_of x
spelled x (global y) = identifier_of x

abbrev pub written : Env → Text → Term
written env x = spelled x (resolve env x)

abbrev pub rewritten : Env → Term → Term
rewritten = read written

abbrev pub rewritten_each : Env → Terms → Terms
rewritten_each env ts = read_kids written (λ n. env) ts

abbrev pub getters : Env → List Text → Terms
getters env [] = none
getters env (x ∷ xs) = more (getter x (written env x)) (getters env xs)

abbrev pub written_requests : ℕ → List Request → Terms
written_requests j [] = none
written_requests j (r ∷ rs) = more (request j r.source r.names) (written_requests (suc j) rs)

-- getters, requests, and the other statements
abbrev pub run_items : Terms → Terms
run_items ts =
    let env = module_env ts in
    append (getters env (all_handed_out ts)) (append (written_requests 0 (requests ts)) (rewritten_each env (all_kept ts)))

abbrev pub run : Term → Term
run t = node Kind.Program (hashbang_of t) (two (list (directives_of t)) (list (run_items (items_of t))))
