-- The forms and the names that the module runner writes.
use Rattle.std.specs.Prelude.{ℕ, List, [], ◌∷◌, ◌++◌, Option, None, Some, true, codes, decimal}
use Rattle.js_term.specs.Term.{Text, Term, Terms, none, more, one, two}
use Rattle.js_term.specs.Node.{identifier_of, string_of, number_of, boolean_of, call_of, member_of, sequence_of, await_of, array_of, object_of, property_of, method_property_of, const_of, return_of, statement_of}

abbrev pub marked : Text → Text
marked x = codes "__vite_ssr_" ++ x

-- the name of the j-th request
abbrev pub import_name : ℕ → Text
import_name j = marked (codes "import_" ++ decimal j ++ codes "__")

-- (0, t): a call of it is no method call
abbrev pub detached : Term → Term
detached t = sequence_of (two (number_of (codes "0")) t)

-- Object.defineProperty(__vite_ssr_exports__, 'x', { enumerable: true, configurable: true, get() { return t; } });
abbrev pub descriptor : Term → Terms
descriptor t = more (property_of (codes "enumerable") (boolean_of true)) (two (property_of (codes "configurable") (boolean_of true)) (method_property_of (codes "get") [] (one (return_of t))))

abbrev pub getter : Text → Term → Term
getter x t = statement_of (call_of (member_of (identifier_of (codes "Object")) (codes "defineProperty")) (more (identifier_of (marked (codes "exports__"))) (two (string_of x) (object_of (descriptor t)))))

abbrev pub strings : List Text → Terms
strings [] = none
strings (x ∷ xs) = more (string_of x) (strings xs)

abbrev pub names_argument : Option (List Text) → Terms
names_argument None = none
names_argument (Some xs) = one (object_of (one (property_of (codes "importedNames") (array_of (strings xs)))))

-- const __vite_ssr_import_j__ = await __vite_ssr_import__('source', { importedNames: ['x', ..] });
abbrev pub request : ℕ → Text → Option (List Text) → Term
request j source names = const_of (import_name j) (await_of (call_of (identifier_of (marked (codes "import__"))) (more (string_of source) (names_argument names))))

-- __vite_ssr_exportAll__(__vite_ssr_import_j__);
abbrev pub export_all : ℕ → Term
export_all j = statement_of (call_of (identifier_of (marked (codes "exportAll__"))) (one (identifier_of (import_name j))))
