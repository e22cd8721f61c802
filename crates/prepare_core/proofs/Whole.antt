-- The module as a whole.
use Rattle.std.proofs.Common.{◌≡◌, refl, sym, ◌∙◌, ap, List, [], ◌∷◌, Option, None, Some, Bool, true, false, cond, map}
use Rattle.std.specs.List.{list_any}
use Rattle.js_term.specs.Term.{Text, Terms, more, append, all, is_text}
use Rattle.js_term.specs.Scope.{Env, Entry, here, plainly, declared_all, entry_of, found, module_env, all_brought, global}
use Rattle.small_tree.specs.TermOf.{program_term, statement_term}
use Rattle.small_tree.specs.declared.module.Program.{Program}
use Rattle.small_tree.specs.declared.statement.Statement.{Statement}
use Rattle.module_model.specs.Meaning.{requests, all_handed_out, all_kept}
use Rattle.module_model.specs.Run.{run, run_items, spelled, written, getters, written_requests, rewritten_each}
use Rattle.module_model.specs.Shape.{getter}
use Rattle.prepare_core.specs.Carried.{are_direct, carried_each}
use Rattle.prepare_core.specs.Names.{HasImports, brought_in}
use Rattle.prepare_core.specs.declared.imported.Import.{Import}
use Rattle.prepare_core.proofs.Asked.{append_terms}
use Rattle.prepare_core.proofs.Brought.{or_else, entry_append}
use Rattle.prepare_core.proofs.Carry.{Alike, kids_alike}
use Rattle.prepare_core.proofs.Direct.{kids_direct}
use Rattle.prepare_core.proofs.Look.{has_entry}

-- the scope of a module, of which the runner carries the imports alone
root_alike : (ts : Terms) (es : List (Text × Import)) → HasImports (all_brought 0 ts) es → Alike (brought_in es ∷ []) (module_env ts)
root_alike ts es h = record { same = λ x. ap (λ o. spelled x (found o 0 x (global x))) (h.same x) ∙ by x (entry_of (all_brought 0 ts) x) (list_any (is_text x) (declared_all ts)) ∙ ap (λ o. spelled x (found o 0 x (global x))) (sym (entry_append (all_brought 0 ts) (plainly (declared_all ts)) x ∙ ap (or_else (entry_of (all_brought 0 ts) x)) (has_entry (declared_all ts) x))) }
  where
    by : (x : Text) (o : Option Entry) (b : Bool) → spelled x (found o 0 x (global x)) ≡ spelled x (found (or_else o (cond b (Some here) None)) 0 x (global x))
    by x None true = refl
    by x None false = refl
    by x (Some e) b = refl

getters_alike : {env out : Env} → Alike env out → (xs : List Text) → getters env xs ≡ getters out xs
getters_alike a [] = refl
getters_alike {env} {out} a (x ∷ xs) = ap (λ t. more (getter x t) (getters env xs)) (a.same x) ∙ ap (more (getter x (written out x))) (getters_alike a xs)

pub items_written : (ts : Terms) (es : List (Text × Import)) (a b c : Terms) → HasImports (all_brought 0 ts) es → are_direct (all_kept ts) ≡ true → a ≡ getters (brought_in es ∷ []) (all_handed_out ts) → b ≡ append a (written_requests 0 (requests ts)) → c ≡ append b (carried_each (brought_in es ∷ []) (all_kept ts)) → c ≡ run_items ts
items_written ts es a b c h d p q r =
    let alike : Alike (brought_in es ∷ []) (module_env ts) = root_alike ts es h in
    r ∙ rw (q, p, getters_alike alike (all_handed_out ts), kids_alike (λ n. alike) (all_kept ts), kids_direct (λ n. module_env ts) (all_kept ts) d) (append_terms (getters (module_env ts) (all_handed_out ts)) (written_requests 0 (requests ts)) (rewritten_each (module_env ts) (all_kept ts)))

abbrev pub with_body : Program → List Statement → Program
with_body p body = record { span = p.span; hashbang = p.hashbang; directives = p.directives; body = body; scope_id = p.scope_id }

pub prepared : (p : Program) (body : List Statement) → all (map statement_term body) ≡ run_items (all (map statement_term p.body)) → program_term (with_body p body) ≡ run (program_term p)
prepared p body e = rw e refl
