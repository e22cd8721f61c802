-- Imports, exports and items of modules (ECMAScript 16.2).
use Rattle.std.proofs.Common.{◌≡◌, refl, sym, subst, List, [], ◌∷◌, ◌++◌, Bool, true, false, ◌||◌}
use Rattle.std.specs.Prelude.{codes, if◌then◌else◌}
use Rattle.std.proofs.lemmas.Bool.{and_parts}
use Rattle.js_term.specs.Term.{Text, Term, absent, list, node, Terms, none, more, one, two, all}
use Rattle.js_term.specs.declared.kind.Kind.{Kind}
use Rattle.js_term.specs.Kinds.{is_kind, is_among}
use Rattle.js_term.specs.Node.{binding_of}
use Rattle.js_syntax.specs.Texts.{anything}
use Rattle.js_syntax.specs.Nodes.{of_part, of_parts, of_list}
use Rattle.js_syntax.specs.Sorts.{Sort, Place, takes, module_declarations, is_expression, is_statement}
use Rattle.js_syntax.specs.Printable.{has_shape, fits}
use Rattle.js_syntax.specs.Places.{places_at, are_as_many}
use Rattle.js_syntax.specs.Printable.{is_sound}
use Rattle.js_syntax.specs.Texts.{has_texts}
use Rattle.js_syntax.specs.Spelling.{written, Declaration, function_declaration, class_declaration}
use Rattle.js_syntax.specs.Modules.{imported, local, indirect, ImportClause, default_clause, namespace_clause, namespace, braced_clause, default_namespace, default_braced, from, Default, default_function, default_class, default_expression, ModuleItem, statement, bare_import, import_from, export_all, export_all_as, export_named, export_from, export_declaration, export_default, ModuleItems, no_more_items, next_item}
use Rattle.print_layout.specs.Rows.{line}
use Rattle.print_layout.specs.Needs.{never, needs, leads, is_looser}
use Rattle.js_syntax.specs.Edges.{is_definition_kind}
use Rattle.print_layout.specs.Layout.{wrapped, each_wrapped}
use Rattle.print_spelling.proofs.Tokens.{differ, or_false, Lead, flush, spaced, below, led, sign_at, word_at, name_at, string_at, semicolon_at, comma_at}
use Rattle.print_spelling.proofs.Spread.{To, to, each_to, separated_to}
use Rattle.print_spelling.proofs.Fits.{fit_of, taken_by, list_shape, each_shaped}
use Rattle.print_spelling.proofs.Shapes.{leaf}
use Rattle.print_spelling.proofs.Claims.{bare, bare_to, Claim, Each, Mode, off, Rule, Meaning, an_item, category}
use Rattle.print_spelling.proofs.Placed.{in_place_node, expression_meaning, loose_le, at_by}
use Rattle.print_spelling.proofs.Fronts.{opens_default}
use Rattle.print_spelling.proofs.Bodies.{statement_by, named_function, named_class}
use Rattle.print_spelling.proofs.Statements.{plain_declares, plain_declared, variables_declared}
use Rattle.print_spelling.proofs.Specifiers.{export_name_at, all_local, all_indirect, braced_to, braced_at, Clause, of_none, of_default, of_namespace, of_named, of_default_namespace, of_default_named, clause_of, all_imported, bound_part}

-- ---- imports

abbrev ImportAt : Terms → Term → Type 0
ImportAt ts s = (g : Lead) (rest : Text) → ModuleItem (bare true (of_parts Kind.ImportDeclaration (list ts) s)) (led g (bare_to true (of_parts Kind.ImportDeclaration (list ts) s) rest)) rest

import_with : (ts : Terms) (s : Term) (clause : To) → ((rest : Text) → ImportClause (each_wrapped true never ts) (32 ∷ clause (32 ∷ rest)) (32 ∷ rest)) → has_shape (Place.one (Sort.only Kind.StringLiteral)) s ≡ true → (g : Lead) (rest : Text) → ModuleItem (of_parts Kind.ImportDeclaration (list (all (each_wrapped true never ts))) (wrapped true never s)) (led g (codes "import " ++ clause (codes " from " ++ to true never s (59 ∷ rest)))) rest
import_with ts s clause f h g rest =
    leaf Kind.StringLiteral anything refl refl (λ texts. refl) (λ z. ModuleItem (of_parts Kind.ImportDeclaration (list (all (each_wrapped true never ts))) (wrapped true never z)) (led g (codes "import " ++ clause (codes " from " ++ to true never z (59 ∷ rest)))) rest)
    (λ v a. import_from (word_at g (codes "import") refl refl refl) (f _) (from (word_at spaced (codes "from") refl refl refl) (string_at spaced)) (written (semicolon_at flush))) s h

head_shape : (t : Term) (ts : Terms) → each_shaped (Place.one Sort.import_specifier) (more t ts) ≡ true → has_shape (Place.one Sort.import_specifier) t ≡ true
head_shape t ts h = (and_parts (has_shape (Place.one Sort.import_specifier) t) (each_shaped (Place.one Sort.import_specifier) ts) h).0

rest_shape : (t : Term) (ts : Terms) → each_shaped (Place.one Sort.import_specifier) (more t ts) ≡ true → each_shaped (Place.one Sort.import_specifier) ts ≡ true
rest_shape t ts h = (and_parts (has_shape (Place.one Sort.import_specifier) t) (each_shaped (Place.one Sort.import_specifier) ts) h).1

import_at : (ts : Terms) → Clause ts → each_shaped (Place.one Sort.import_specifier) ts ≡ true → (s : Term) → has_shape (Place.one (Sort.only Kind.StringLiteral)) s ≡ true → ImportAt ts s
import_at ts of_none h s hs = import_with none s (braced_to none) (λ r. braced_clause (braced_at imported none tt spaced (32 ∷ r))) hs
import_at ts (of_default xs us) h s hs =
    let f = (fit_of Sort.import_specifier Kind.ImportDefaultSpecifier xs us refl (head_shape (node Kind.ImportDefaultSpecifier xs us) none h)).1 in
    bound_part Kind.ImportDefaultSpecifier xs us f.counted f.placed (λ z. ImportAt (more z none) s) (λ x n. import_with (one (of_part Kind.ImportDefaultSpecifier (binding_of x))) s (λ r. x ++ r) (λ r. default_clause n.1 (name_at spaced n.0 refl)) hs)
import_at ts (of_namespace xs us) h s hs =
    let f = (fit_of Sort.import_specifier Kind.ImportNamespaceSpecifier xs us refl (head_shape (node Kind.ImportNamespaceSpecifier xs us) none h)).1 in
    bound_part Kind.ImportNamespaceSpecifier xs us f.counted f.placed (λ z. ImportAt (more z none) s) (λ x n. import_with (one (of_part Kind.ImportNamespaceSpecifier (binding_of x))) s (λ r. codes "* as " ++ (x ++ r)) (λ r. namespace_clause (namespace n.1 (sign_at spaced (codes "*") refl refl) (word_at spaced (codes "as") refl refl refl) (name_at spaced n.0 refl))) hs)
import_at ts (of_named xs us vs e) h s hs =
    let t : Term = node Kind.ImportSpecifier xs us in
    import_with (more t vs) s (braced_to (more t vs)) (λ r. braced_clause (braced_at imported (more t vs) (all_imported (more t vs) h e) spaced (32 ∷ r))) hs
import_at ts (of_default_namespace xs us ys vs) h s hs =
    let t : Term = node Kind.ImportDefaultSpecifier xs us in
    let u : Term = node Kind.ImportNamespaceSpecifier ys vs in
    let f = (fit_of Sort.import_specifier Kind.ImportDefaultSpecifier xs us refl (head_shape t (one u) h)).1 in
    let m = (fit_of Sort.import_specifier Kind.ImportNamespaceSpecifier ys vs refl (head_shape u none (rest_shape t (one u) h))).1 in
    bound_part Kind.ImportDefaultSpecifier xs us f.counted f.placed (λ z. ImportAt (two z u) s) (λ x n.
    bound_part Kind.ImportNamespaceSpecifier ys vs m.counted m.placed (λ z. ImportAt (two (of_part Kind.ImportDefaultSpecifier (binding_of x)) z) s) (λ y k.
    import_with (two (of_part Kind.ImportDefaultSpecifier (binding_of x)) (of_part Kind.ImportNamespaceSpecifier (binding_of y))) s (λ r. x ++ (codes ", * as " ++ (y ++ r))) (λ r. default_namespace n.1 (name_at spaced n.0 refl) (comma_at flush) (namespace k.1 (sign_at spaced (codes "*") refl refl) (word_at spaced (codes "as") refl refl refl) (name_at spaced k.0 refl))) hs))
import_at ts (of_default_named xs us ys vs ws e) h s hs =
    let t : Term = node Kind.ImportDefaultSpecifier xs us in
    let others : Terms = more (node Kind.ImportSpecifier ys vs) ws in
    let f = (fit_of Sort.import_specifier Kind.ImportDefaultSpecifier xs us refl (head_shape t others h)).1 in
    bound_part Kind.ImportDefaultSpecifier xs us f.counted f.placed (λ z. ImportAt (more z others) s) (λ x n. import_with (more (of_part Kind.ImportDefaultSpecifier (binding_of x)) others) s (λ r. x ++ (codes ", " ++ braced_to others r)) (λ r. default_braced n.1 (name_at spaced n.0 refl) (comma_at flush) (braced_at imported others (all_imported others (rest_shape t others h) e) spaced (32 ∷ r))) hs)

pub import_declaration_rule : Rule Kind.ImportDeclaration
import_declaration_rule m [] (more absent (more s none)) f c g rest =
    leaf Kind.StringLiteral anything refl refl (λ texts. refl) (λ z. ModuleItem (of_parts Kind.ImportDeclaration absent (wrapped true never z)) (led g (codes "import " ++ to true never z (59 ∷ rest))) rest) (λ v a. bare_import (word_at g (codes "import") refl refl refl) (string_at spaced) (written (semicolon_at flush))) s f.placed.1.0
import_declaration_rule m [] (more (list ts) (more s none)) f c g rest = let shape = (list_shape (Place.optional_list Sort.import_specifier) ts f.placed.0).1 in import_at ts (clause_of ts shape f.sound) shape s f.placed.1.0 g rest
import_declaration_rule m [] (more (node k xs us) (more s none)) f c g rest = differ (sym f.placed.0)
import_declaration_rule m xs ts f c g rest = differ (sym f.counted)

-- ---- exports

pub export_all_rule : Rule Kind.ExportAllDeclaration
export_all_rule m [] (more absent (more s none)) f c g rest =
    leaf Kind.StringLiteral anything refl refl (λ texts. refl) (λ z. ModuleItem (of_parts Kind.ExportAllDeclaration absent (wrapped true never z)) (led g (codes "export * from " ++ to true never z (59 ∷ rest))) rest)
    (λ v a. export_all (word_at g (codes "export") refl refl refl) (sign_at spaced (codes "*") refl refl) (from (word_at spaced (codes "from") refl refl refl) (string_at spaced)) (written (semicolon_at flush))) s f.placed.1.0
export_all_rule m [] (more (list ts) (more s none)) f c g rest = differ (sym f.placed.0)
export_all_rule m [] (more (node k xs us) (more s none)) f c g rest =
    leaf Kind.StringLiteral anything refl refl (λ texts. refl) (λ z. ModuleItem (of_parts Kind.ExportAllDeclaration (wrapped true never (node k xs us)) (wrapped true never z)) (led g (codes "export * as " ++ to true never (node k xs us) (codes " from " ++ to true never z (59 ∷ rest)))) rest)
    (λ v a. export_all_as (word_at g (codes "export") refl refl refl) (sign_at spaced (codes "*") refl refl) (word_at spaced (codes "as") refl refl refl) (export_name_at (node k xs us) f.placed.0 spaced _ refl) (from (word_at spaced (codes "from") refl refl refl) (string_at spaced)) (written (semicolon_at flush))) s f.placed.1.0
export_all_rule m xs ts f c g rest = differ (sym f.counted)

export_named_with : (ts : Terms) → each_shaped (Place.one (Sort.only Kind.ExportSpecifier)) ts ≡ true → (g : Lead) (rest : Text) → ModuleItem (of_list Kind.ExportNamedDeclaration (all (each_wrapped true never ts))) (led g (codes "export " ++ braced_to ts (59 ∷ rest))) rest
export_named_with ts h g rest = export_named (word_at g (codes "export") refl refl refl) (braced_at local ts (all_local ts h) spaced (59 ∷ rest)) (written (semicolon_at flush))

pub export_named_rule : Rule Kind.ExportNamedDeclaration
export_named_rule m [] (more (list none) none) f c g rest = export_named_with none refl g rest
export_named_rule m [] (more (list (more t ts)) none) f c g rest = export_named_with (more t ts) (list_shape (Place.many (Sort.only Kind.ExportSpecifier)) (more t ts) f.placed.0).1 g rest
export_named_rule m [] (more absent none) f c g rest = differ (sym f.placed.0)
export_named_rule m [] (more (node k xs us) none) f c g rest = differ (sym f.placed.0)
export_named_rule m xs ts f c g rest = differ (sym f.counted)

export_from_with : (ts : Terms) → each_shaped (Place.one Sort.export_from_specifier) ts ≡ true → (s : Term) → has_shape (Place.one (Sort.only Kind.StringLiteral)) s ≡ true → (g : Lead) (rest : Text) → ModuleItem (of_parts Kind.ExportFromDeclaration (list (all (each_wrapped true never ts))) (wrapped true never s)) (led g (codes "export " ++ braced_to ts (codes " from " ++ to true never s (59 ∷ rest)))) rest
export_from_with ts h s hs g rest =
    leaf Kind.StringLiteral anything refl refl (λ texts. refl) (λ z. ModuleItem (of_parts Kind.ExportFromDeclaration (list (all (each_wrapped true never ts))) (wrapped true never z)) (led g (codes "export " ++ braced_to ts (codes " from " ++ to true never z (59 ∷ rest)))) rest)
    (λ v a. export_from (word_at g (codes "export") refl refl refl) (braced_at indirect ts (all_indirect ts h) spaced _) (from (word_at spaced (codes "from") refl refl refl) (string_at spaced)) (written (semicolon_at flush))) s hs

pub export_from_rule : Rule Kind.ExportFromDeclaration
export_from_rule m [] (more (list none) (more s none)) f c g rest = export_from_with none refl s f.placed.1.0 g rest
export_from_rule m [] (more (list (more t ts)) (more s none)) f c g rest = export_from_with (more t ts) (list_shape (Place.many Sort.export_from_specifier) (more t ts) f.placed.0).1 s f.placed.1.0 g rest
export_from_rule m [] (more absent (more s none)) f c g rest = differ (sym f.placed.0)
export_from_rule m [] (more (node k xs us) (more s none)) f c g rest = differ (sym f.placed.0)
export_from_rule m xs ts f c g rest = differ (sym f.counted)

data ExportedKind (k : Kind) : Type 0 where
  variables_kind : k ≡ Kind.VariableDeclaration → ExportedKind k
  function_kind : k ≡ Kind.FunctionDeclaration → ExportedKind k
  class_kind : k ≡ Kind.ClassDeclaration → ExportedKind k

exported_kind : (k : Kind) → takes Sort.exported k ≡ true → ExportedKind k
exported_kind Kind.VariableDeclaration h = variables_kind refl
exported_kind Kind.FunctionDeclaration h = function_kind refl
exported_kind Kind.ClassDeclaration h = class_kind refl
exported_kind k h = differ (sym h)

abbrev DeclarationAt : Term → Type 0
DeclarationAt t = (g : Lead) (rest : Text) → Declaration (wrapped true never t) (led g (to true never t rest)) rest

declaration_at : (t : Term) → has_shape (Place.one Sort.exported) t ≡ true → Claim off t → DeclarationAt t
declaration_at absent h c = differ (sym h)
declaration_at (list ts) h c = differ (sym h)
declaration_at (node k xs ts) h c = elim (exported_kind k (taken_by Sort.exported k xs ts h).taken) as (λ z. DeclarationAt (node k xs ts)) [
  | variables_kind e ↦ subst (λ j. has_shape (Place.one Sort.exported) (node j xs ts) ≡ true → Claim off (node j xs ts) → DeclarationAt (node j xs ts)) (sym e) (λ h c. variables_declared (Sort.only Kind.VariableDeclarator) plain_declares (Place.some (Sort.only Kind.VariableDeclarator)) plain_declared xs ts (fit_of Sort.exported Kind.VariableDeclaration xs ts refl h).1 c.1) h c
  | function_kind e ↦ subst (λ j. has_shape (Place.one Sort.exported) (node j xs ts) ≡ true → Claim off (node j xs ts) → DeclarationAt (node j xs ts)) (sym e) (λ h c g rest. function_declaration (named_function ts xs (fit_of Sort.exported Kind.FunctionDeclaration xs ts refl h).1) (c.0 g rest)) h c
  | class_kind e ↦ subst (λ j. has_shape (Place.one Sort.exported) (node j xs ts) ≡ true → Claim off (node j xs ts) → DeclarationAt (node j xs ts)) (sym e) (λ h c g rest. class_declaration (named_class ts xs (fit_of Sort.exported Kind.ClassDeclaration xs ts refl h).1) (c.0 g rest)) h c
]

pub export_declaration_rule : Rule Kind.ExportDeclaration
export_declaration_rule m [] (more t none) f c g rest = export_declaration (word_at g (codes "export") refl refl refl) (declaration_at t f.placed.0 c.0 spaced rest)
export_declaration_rule m xs ts f c g rest = differ (sym f.counted)

-- ---- export default

data DefaultKind (k : Kind) : Type 0 where
  function_default : k ≡ Kind.FunctionDeclaration → DefaultKind k
  class_default : k ≡ Kind.ClassDeclaration → DefaultKind k
  expression_default : is_expression k ≡ true → DefaultKind k

default_kind : (k : Kind) → takes Sort.exported_default k ≡ true → DefaultKind k
default_kind Kind.FunctionDeclaration h = function_default refl
default_kind Kind.ClassDeclaration h = class_default refl
default_kind k h = expression_default h

-- whether no semicolon stands behind
abbrev is_definition : Kind → Bool
is_definition k = is_kind k Kind.FunctionDeclaration || is_kind k Kind.ClassDeclaration

not_definition : (k : Kind) → is_expression k ≡ true → is_definition k ≡ false
not_definition Kind.FunctionDeclaration h = differ (sym h)
not_definition Kind.ClassDeclaration h = differ (sym h)
not_definition k h = refl

abbrev default_need : Term → Bool
default_need = needs Kind.ExportDefaultDeclaration [] 0

abbrev DefaultAt : Kind → List Text → Terms → Type 0
DefaultAt k xs ts = (g : Lead) (rest : Text) → Default (wrapped true default_need (node k xs ts)) (led g (to true default_need (node k xs ts) ((if is_definition k then [] else codes ";") ++ rest))) rest

default_expression_at : (k : Kind) (xs : List Text) (ts : Terms) → is_expression k ≡ true → Claim off (node k xs ts) → DefaultAt k xs ts
default_expression_at k xs ts h c g rest =
    let t : Term = node k xs ts in
    let p = at_by 2 refl true default_need t (λ z. loose_le 2 t (or_false (leads is_definition_kind never t) (is_looser 2 t) z).1) (in_place_node true default_need k xs ts (expression_meaning off k t h c.0)) in
    subst (λ b. Default (wrapped true default_need t) (led g (to true default_need t ((if b then [] else codes ";") ++ rest))) rest) (sym (not_definition k h))
    (default_expression (opens_default default_need t refl (λ z. (or_false (leads is_definition_kind never t) (is_looser 2 t) z).0)) (p.stands g refl) (written (semicolon_at flush)))

default_at : (k : Kind) (xs : List Text) (ts : Terms) → has_shape (Place.one Sort.exported_default) (node k xs ts) ≡ true → Claim off (node k xs ts) → DefaultAt k xs ts
default_at k xs ts h c = elim (default_kind k (taken_by Sort.exported_default k xs ts h).taken) as (λ z. DefaultAt k xs ts) [
  | function_default e ↦ subst (λ j. Claim off (node j xs ts) → DefaultAt j xs ts) (sym e) (λ c g rest. default_function (c.0 g rest)) c
  | class_default e ↦ subst (λ j. Claim off (node j xs ts) → DefaultAt j xs ts) (sym e) (λ c g rest. default_class (c.0 g rest)) c
  | expression_default x ↦ default_expression_at k xs ts x c
]

pub export_default_rule : Rule Kind.ExportDefaultDeclaration
export_default_rule m [] (more absent none) f c g rest = differ (sym f.placed.0)
export_default_rule m [] (more (list ts) none) f c g rest = differ (sym f.placed.0)
export_default_rule m [] (more (node k xs ts) none) f c g rest = export_default (word_at g (codes "export") refl refl refl) (word_at spaced (codes "default") refl refl refl) (default_at k xs ts f.placed.0 c.0 spaced rest)
export_default_rule m xs ts f c g rest = differ (sym f.counted)

-- ---- items in their places

item_meaning : (m : Mode) (k : Kind) (t : Term) → is_among k module_declarations ≡ true → Meaning m (category k) t → Meaning m an_item t
item_meaning m Kind.ImportDeclaration t h c = c
item_meaning m Kind.ExportAllDeclaration t h c = c
item_meaning m Kind.ExportNamedDeclaration t h c = c
item_meaning m Kind.ExportFromDeclaration t h c = c
item_meaning m Kind.ExportDeclaration t h c = c
item_meaning m Kind.ExportDefaultDeclaration t h c = c
item_meaning m k t h c = differ (sym h)

-- what may stand in a list of statements may stand in a module
statement_shape : (k : Kind) (xs : List Text) (ts : Terms) → is_statement k ≡ true → has_shape (Place.one Sort.module_item) (node k xs ts) ≡ true → has_shape (Place.one Sort.statement) (node k xs ts) ≡ true
statement_shape k xs ts e h =
    let both = and_parts (fits (Place.one Sort.module_item) k xs ts) _ h in
    let a = and_parts _ (is_sound k xs ts) both.0 in
    let b = and_parts _ (are_as_many (places_at Sort.module_item k xs) ts) a.0 in
    let c = and_parts _ (has_texts k xs) b.0 in
    rw (e, c.1, b.1, a.1, both.1) refl

pub item_at : (t : Term) → has_shape (Place.one Sort.module_item) t ≡ true → Claim off t → (g : Lead) (rest : Text) → ModuleItem (wrapped true never t) (led g (to true never t rest)) rest
item_at absent h c = differ (sym h)
item_at (list ts) h c = differ (sym h)
item_at (node k xs ts) h c = by (is_among k module_declarations) refl
  where
    by : (b : Bool) → is_among k module_declarations ≡ b → (g : Lead) (rest : Text) → ModuleItem (wrapped true never (node k xs ts)) (led g (to true never (node k xs ts) rest)) rest
    by true e = item_meaning off k (node k xs ts) e c.0
    by false e = λ g rest. statement (statement_by k xs ts (statement_shape k xs ts (subst (λ b. b || is_statement k ≡ true) e (taken_by Sort.module_item k xs ts h).taken) h) c g rest)

pub items_at : (t : Term) (ts : Terms) → each_shaped (Place.one Sort.module_item) (more t ts) ≡ true → Each off (more t ts) → (g : Lead) (rest : Text) → ModuleItems (each_wrapped true never (more t ts)) (led g (separated_to line (each_to true never (more t ts)) rest)) rest
items_at t none h c g rest = next_item (item_at t (and_parts (has_shape (Place.one Sort.module_item) t) true h).0 c.0 g rest) no_more_items
items_at t (more u us) h c g rest =
    let both = and_parts (has_shape (Place.one Sort.module_item) t) (each_shaped (Place.one Sort.module_item) (more u us)) h in
    next_item (item_at t both.0 c.0 g (10 ∷ separated_to line (each_to true never (more u us)) rest)) (items_at u us both.1 c.1 below rest)
