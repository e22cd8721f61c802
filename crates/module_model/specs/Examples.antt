-- Small modules, with what they mean and what the runner is given for them.
use Rattle.std.specs.Prelude.{◌≡◌, List, [], ◌∷◌, None, Some, true, false, codes}
use Rattle.js_term.specs.Term.{Text, Term, Terms, node, none, more, one, two}
use Rattle.js_term.specs.declared.kind.Kind.TheVariants as Kind
use Rattle.js_term.specs.Node.{identifier_of, string_of, number_of, call_of, member_of, await_of, array_of, object_of, property_of, const_of, return_of, statement_of, function_of, specifier_of, import_declaration_of, export_declaration_of, program_of}
use Rattle.js_term.specs.Form.{is_small}
use Rattle.module_model.specs.Shape.{detached, getter}
use Rattle.module_model.specs.Meaning.{Request, meaning}
use Rattle.module_model.specs.ReadBack.{read_back}
use Rattle.module_model.specs.Run.{run}

-- the member of the first request's namespace, and how it is written
abbrev imported_member : Text → Term
imported_member x = member_of (node Kind.Namespace (codes "0" ∷ []) none) x

abbrev written_member : Text → Term
written_member x = member_of (identifier_of (codes "__vite_ssr_import_0__")) x

abbrev only_request : Text → List Text → List Request
only_request source names = record { source = source; names = Some names; star = false } ∷ []

-- const __vite_ssr_import_0__ = await __vite_ssr_import__('source', { importedNames: [names] });
abbrev written_request : Text → Terms → Term
written_request source names = const_of (codes "__vite_ssr_import_0__") (await_of (call_of (identifier_of (codes "__vite_ssr_import__")) (two (string_of source) (object_of (one (property_of (codes "importedNames") (array_of names)))))))

-- import { ref } from 'vue'; function foo() { return ref(0); }
abbrev pub calls_import : Term
calls_import = program_of (two (import_declaration_of (one (specifier_of (codes "ref") (codes "ref"))) (codes "vue")) (function_of (codes "foo") [] (one (return_of (call_of (identifier_of (codes "ref")) (one (number_of (codes "0"))))))))

-- function foo() { return (0, callee)(0); }
abbrev foo_of : Term → Term
foo_of callee = function_of (codes "foo") [] (one (return_of (call_of (detached callee) (one (number_of (codes "0"))))))

-- function f(b) { return value; }
abbrev f_of : Term → Term
f_of value = function_of (codes "f") (codes "b" ∷ []) (one (return_of value))

-- const x = callee(argument);
abbrev x_of : Term → Term → Term
x_of callee argument = const_of (codes "x") (call_of callee (one argument))

abbrev renamed_import : Term
renamed_import = import_declaration_of (two (specifier_of (codes "a") (codes "b")) (specifier_of (codes "c") (codes "c"))) (codes "m")

-- import { a as b, c } from 'm'; export const x = b(c); function f(b) { return b; }
abbrev pub renames : Term
renames = program_of (more renamed_import (two (export_declaration_of (x_of (identifier_of (codes "b")) (identifier_of (codes "c")))) (f_of (identifier_of (codes "b")))))

abbrev renames_request : Term
renames_request = written_request (codes "m") (two (string_of (codes "a")) (string_of (codes "c")))

-- a name that the d-th scope declares, counted from the module's
abbrev local_name : Text → Text → Term
local_name d x = node Kind.Local (d ∷ x ∷ []) none

-- a module without statements
abbrev pub empty_module : Term
empty_module = program_of none

-- __vite_ssr_import_0__;
abbrev pub names_no_request : Term
names_no_request = program_of (one (statement_of (identifier_of (codes "__vite_ssr_import_0__"))))

pub record Examples : Type 0 where
  pub calls_import_small : is_small calls_import ≡ true
  pub calls_import_means : meaning calls_import ≡ record { hashbang = []; directives = none; requests = only_request (codes "vue") (codes "ref" ∷ []); exports = []; statements = one (foo_of (imported_member (codes "ref"))) }
  pub calls_import_runs : run calls_import ≡ program_of (two (written_request (codes "vue") (one (string_of (codes "ref")))) (foo_of (written_member (codes "ref"))))
  pub calls_import_reads : read_back (run calls_import) ≡ Some (meaning calls_import)
  pub renames_small : is_small renames ≡ true
  -- `b` is the import at the root, and the parameter in `f`
  pub renames_means : meaning renames ≡ record {
    hashbang = [];
    directives = none;
    requests = only_request (codes "m") (codes "a" ∷ codes "c" ∷ []);
    exports = (codes "x", local_name (codes "0") (codes "x")) ∷ [];
    statements = two (x_of (detached (imported_member (codes "a"))) (imported_member (codes "c"))) (f_of (local_name (codes "1") (codes "b")));
  }
  pub renames_runs : run renames ≡ program_of (more (getter (codes "x") (identifier_of (codes "x"))) (more renames_request (two (x_of (detached (written_member (codes "a"))) (written_member (codes "c"))) (f_of (identifier_of (codes "b"))))))
  pub renames_reads : read_back (run renames) ≡ Some (meaning renames)
  pub empty_module_small : is_small empty_module ≡ true
  pub empty_module_means : meaning empty_module ≡ record { hashbang = []; directives = none; requests = []; exports = []; statements = none }
  pub empty_module_runs : run empty_module ≡ empty_module
  pub empty_module_reads : read_back empty_module ≡ Some (meaning empty_module)
  -- an import that is left is not the runner's, nor is one of its names in another place
  pub import_left : read_back calls_import ≡ None
  pub name_left : read_back names_no_request ≡ None
