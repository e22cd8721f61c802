-- Modules that are read are spelled.
use Rattle.std.proofs.Common.{◌≡◌, ℕ, zero, suc, Bool, true, false, ◌&&◌, ◌||◌, if◌then◌else◌, List, [], ◌∷◌, ◌++◌, length, Option, Some, None, refl, sym, subst, ◌∙◌, append_assoc, append-nil, codes}
use Rattle.std.specs.Str.{IsUtf8}
use Rattle.std.proofs.lemmas.Bool.{and_parts}
use Rattle.js_term.specs.Term.{Text, is_text, Term, absent, list, all}
use Rattle.js_term.specs.declared.kind.Kind.{Kind}
use Rattle.js_term.specs.Lexeme.{is_reserved}
use Rattle.js_term.specs.Node.{identifier_of, string_of}
use Rattle.js_syntax.specs.Nodes.{of_parts, of_list, export_specifier_of}
use Rattle.js_syntax.specs.Tokens.{Lexeme, word, private_name, number, big_integer, string, no_substitution, template_head, sign, regexp, template_middle, template_tail, Token, Word, Sign, AtEnd}
use Rattle.js_syntax.specs.Edges.{exports, plain, edge, is_string_statement, begins_with_string}
use Rattle.js_syntax.specs.Spelling.{Async, Statement, Declaration, Directives, Semicolon, FunctionText, ClassText}
use Rattle.js_syntax.specs.Spelling as spell
use Rattle.js_syntax.specs.Modules.{ExportName, Side, Specifier, Specifiers, Braced, Namespace, ImportClause, From, Default, ModuleItem, ModuleItems}
use Rattle.js_syntax.specs.Modules as module'
use Rattle.js_tokens.specs.Next.{lexeme, after}
use Rattle.js_reading.specs.declared.goal.Goal.{Goal}
use Rattle.js_reading.specs.Reading.{Found, Reading, sees, sees_word, same_line, at_end}
use Rattle.js_reading.specs.Functions.{directive_by}
use Rattle.js_reading.specs.Statements.{is_declaring, begins_async_function, inner}
use Rattle.js_reading.specs.Modules.{Exported, called, quoted, exported_tree, exported_by, exported, imported_same, imported, imports, namespace, behind_default, import_clause, from_source, bare_import, import_from, Pair, exported_pair, pairs, local_name, local_by, indirect_specifier, local_with, local_specifiers, indirect_specifiers, exports_by, export_pairs, all_of, all_name, export_all, default_expression, default_word, default_by, default, declaration_word, exported_declaration, export_by, export_item, import_by, item_by, module_item, module_items, module_body}
use Rattle.js_reading.proofs.Each.{Each, each_none, each_some, each_bind, each_weaker, each_if, there, seen, seen_word, on_same_line, is_end, expect_each, expect_word_each, binding_each, string_each, semicolon_each}
use Rattle.js_reading.proofs.Chains.{Chain, only, link, Held, held_none, held_some, held_comma, group_each}
use Rattle.js_reading.proofs.Directing.{no_string}
use Rattle.js_reading.proofs.SoundParts.{Good, part_each}
use Rattle.js_reading.proofs.SoundFunctions.{Directing, all_directives, function_each}
use Rattle.js_reading.proofs.SoundLiterals.{as_word, as_sign, class_each}
use Rattle.js_reading.proofs.SoundStatements.{inner_each, variables_each, function_declaration_each, class_declaration_each, word_no_definition, other_no_definition}
use Rattle.js_reading.proofs.Opens.{begins_definition, expression_opens, no_definition}

-- ---- names

abbrev pub ExportedAt : Exported → Text → Text → Type 0
ExportedAt (called x) a b = Word x a b
ExportedAt (quoted v) a b = (raw : Text) × Token a (string raw v) b

exported_name : (m : Exported) {a b : Text} → ExportedAt m a b → ExportName (exported_tree m) a b
exported_name (called x) tok = module'.name_exported tok
exported_name (quoted v) (raw, tok) = module'.string_exported tok

exported_each : (a : Text) → IsUtf8 a → Each (λ m b. ExportedAt m a b) (exported a)
unfolding exported
exported_each a u = go (lexeme a) refl
  where
    go : (o : Option Lexeme) → lexeme a ≡ o → Each (λ m b. ExportedAt m a b) (exported_by o (after a))
    go (Some (word x)) is = let t = there a u _ is in each_some _ _ t.utf8 t.token
    go (Some (string raw v)) is = let t = there a u _ is in each_some _ _ t.utf8 (raw, t.token)
    go None is = each_none
    go (Some (private_name x)) is = each_none
    go (Some (number x)) is = each_none
    go (Some (big_integer x)) is = each_none
    go (Some (regexp x v)) is = each_none
    go (Some (no_substitution x)) is = each_none
    go (Some (template_head x)) is = each_none
    go (Some (template_middle x)) is = each_none
    go (Some (template_tail x)) is = each_none
    go (Some (sign x)) is = each_none

-- ---- lists of specifiers

chain_specifiers : {s : Side} {ts : List Term} {a b : Text} → Chain (Specifier s) ts a b → Specifiers s ts a b
chain_specifiers (only x) = module'.last_specifier x
chain_specifiers (link x tok rest) = module'.and_specifier x tok (chain_specifiers rest)

trailing_specifiers : {s : Side} {ts : List Term} {a b c : Text} → Chain (Specifier s) ts a b → Sign (codes ",") b c → Specifiers s ts a c
trailing_specifiers (only x) tok = module'.and_specifier x tok module'.no_specifiers
trailing_specifiers (link x tok' rest) tok = module'.and_specifier x tok' (trailing_specifiers rest tok)

held_specifiers : {s : Side} {ts : List Term} {comma : Bool} {a b : Text} → Held (Specifier s) ts comma a b → Specifiers s ts a b
held_specifiers held_none = module'.no_specifiers
held_specifiers (held_some stops c) = chain_specifiers c
held_specifiers (held_comma c tok) = trailing_specifiers c tok

-- ---- imports

imported_each : (a : Text) → IsUtf8 a → Each (λ t b. Specifier module'.imported t a b) (imported a)
unfolding imported
imported_each a u = each_bind _ (exported_each a u) (λ m b v x. each_if (sees_word (codes "as") b) _ _
    (λ is. let t = seen_word (codes "as") b v is in each_bind _ (binding_each (after b) t.utf8) (λ y c w (free, tok). each_some _ _ w (module'.import_renamed free (exported_name m x) t.token tok)))
    (λ _. same m b v x))
  where
    same : (m : Exported) (b : Text) → IsUtf8 b → ExportedAt m a b → Each (λ t c. Specifier module'.imported t a c) (imported_same m b)
    same (called x) b v tok = each_if (is_reserved x) _ _ (λ _. each_none) (λ free. each_some _ _ v (module'.import_same free tok))
    same (quoted x) b v tok = each_none

imports_each : (a : Text) → IsUtf8 a → Each (λ ts b. Braced module'.imported ts a b) (imports a)
unfolding imports
imports_each a u =
    each_bind _ (expect_each (codes "{") a u) (λ _ b v open'.
    each_bind _ (group_each (Specifier module'.imported) imported imported_each (codes "}") b v) (λ found c w x.
    each_bind _ (expect_each (codes "}") c w) (λ _ d y close. each_some _ _ y (module'.braced open' (held_specifiers x) close))))

namespace_each : (a : Text) → IsUtf8 a → Each (λ n b. Namespace n a b) (namespace a)
unfolding namespace
namespace_each a u =
    each_bind _ (expect_each (codes "*") a u) (λ _ b v star.
    each_bind _ (expect_word_each (codes "as") b v) (λ _ c w tok.
    each_bind _ (binding_each c w) (λ x d y (free, name). each_some _ _ y (module'.namespace free star tok name))))

behind_default_each : (x a b : Text) → IsUtf8 b → is_reserved x ≡ false → Word x a b → Each (λ ts c. ImportClause ts a c) (behind_default x b)
unfolding behind_default
behind_default_each x a b u free tok = each_if (sees (codes ",") b) _ _
    (λ is. let t = seen (codes ",") b u is in each_if (sees (codes "*") (after b)) _ _
    (λ _. each_bind _ (namespace_each (after b) t.utf8) (λ n c v y. each_some _ _ v (module'.default_namespace free tok t.token y)))
    (λ _. each_bind _ (imports_each (after b) t.utf8) (λ ts c v y. each_some _ _ v (module'.default_braced free tok t.token y))))
    (λ _. each_some _ _ u (module'.default_clause free tok))

clause_each : (a : Text) → IsUtf8 a → Each (λ ts b. ImportClause ts a b) (import_clause a)
unfolding import_clause
clause_each a u = each_if (sees (codes "{") a) _ _ (λ _. each_weaker (imports_each a u) (λ ts b x. module'.braced_clause x))
    (λ _. each_if (sees (codes "*") a) _ _ (λ _. each_bind _ (namespace_each a u) (λ n b v x. each_some _ _ v (module'.namespace_clause x)))
    (λ _. each_bind _ (binding_each a u) (λ x b v (free, tok). behind_default_each x a b v free tok)))

from_each : (a : Text) → IsUtf8 a → Each (λ source b. From source a b) (from_source a)
unfolding from_source
from_each a u = each_bind _ (expect_word_each (codes "from") a u) (λ _ b v tok. each_bind _ (string_each b v) (λ s c w x. each_some _ _ w (module'.from tok x)))

bare_import_each : (a b : Text) → IsUtf8 b → Word (codes "import") a b → Each (λ t c. ModuleItem t a c) (bare_import b)
unfolding bare_import
bare_import_each a b u tok = each_bind _ (string_each b u) (λ s c v x. each_bind _ (semicolon_each plain c v) (λ _ d w end. each_some _ _ w (module'.bare_import tok x end)))

import_from_each : (a b : Text) → IsUtf8 b → Word (codes "import") a b → Each (λ t c. ModuleItem t a c) (import_from b)
unfolding import_from
import_from_each a b u tok =
    each_bind _ (clause_each b u) (λ ts c v x. each_bind _ (from_each c v) (λ source d w y. each_bind _ (semicolon_each plain d w) (λ _ e z end. each_some _ _ z (module'.import_from tok x y end))))

-- ---- exports

data PairAt : Pair → Text → Text → Type 0 where
  one_name : {m : Exported} {a b : Text} → ExportedAt m a b → PairAt (m, m) a b
  two_names : {m e : Exported} {a b c d : Text} → ExportedAt m a b → Word (codes "as") b c → ExportedAt e c d → PairAt (m, e) a d

pair_each : (a : Text) → IsUtf8 a → Each (λ p b. PairAt p a b) (exported_pair a)
unfolding exported_pair
pair_each a u = each_bind _ (exported_each a u) (λ m b v x. each_if (sees_word (codes "as") b) _ _
    (λ is. let t = seen_word (codes "as") b v is in each_bind _ (exported_each (after b) t.utf8) (λ e c w y. each_some _ _ w (two_names x t.token y)))
    (λ _. each_some _ _ v (one_name x)))

-- pairs between braces
data PairsAt : List Pair → Text → Text → Type 0 where
  pairs_at : {ps : List Pair} {comma : Bool} {a b c d : Text} → Sign (codes "{") a b → Held PairAt ps comma b c → Sign (codes "}") c d → PairsAt ps a d

pairs_each : (a : Text) → IsUtf8 a → Each (λ ps b. PairsAt ps a b) (pairs a)
unfolding pairs
pairs_each a u =
    each_bind _ (expect_each (codes "{") a u) (λ _ b v open'.
    each_bind _ (group_each PairAt exported_pair pair_each (codes "}") b v) (λ found c w x.
    each_bind _ (expect_each (codes "}") c w) (λ _ d y close. each_some _ _ y (pairs_at open' x close))))

indirect_pair : {p : Pair} {a b : Text} → PairAt p a b → Specifier module'.indirect (indirect_specifier p) a b
indirect_pair (one_name {m} x) = module'.indirect_same (exported_name m x)
indirect_pair (two_names {m} {e} x tok y) = module'.indirect_renamed (exported_name m x) tok (exported_name e y)

indirect_chain : {ps : List Pair} {a b : Text} → Chain PairAt ps a b → Chain (Specifier module'.indirect) (indirect_specifiers ps) a b
indirect_chain (only x) = only (indirect_pair x)
indirect_chain (link x tok rest) = link (indirect_pair x) tok (indirect_chain rest)

indirect_held : {ps : List Pair} {comma : Bool} {a b : Text} → Held PairAt ps comma a b → Held (Specifier module'.indirect) (indirect_specifiers ps) comma a b
indirect_held held_none = held_none
indirect_held (held_some stops c) = held_some stops (indirect_chain c)
indirect_held (held_comma c tok) = held_comma (indirect_chain c) tok

local_with_is : (o : Option Term) (p : Option (List Term)) (us : List Term) → local_with o p ≡ Some us → (t : Term) × (ts : List Term) × (o ≡ Some t) × (p ≡ Some ts) × (us ≡ t ∷ ts)
local_with_is None p us h = absurd (cc)
local_with_is (Some t) None us h = absurd (cc)
local_with_is (Some t) (Some ts) us h = (t, ts, refl, refl, cc)

some_is : {A : Type 0} (x y : A) → Some x ≡ Some y → x ≡ y
some_is x y h = cc

-- a local name is not reserved
called_cases : {P : Type 0} (x : Text) (e : Exported) (t : Term) → local_by (local_name (called x)) e ≡ Some t → (is_reserved x ≡ false → export_specifier_of (identifier_of x) (exported_tree e) ≡ t → P) → P
called_cases {P} x e t h f = go (is_reserved x) refl h
  where
    go : (k : Bool) → is_reserved x ≡ k → local_by (if k then None else Some (identifier_of x)) e ≡ Some t → P
    go true is h = absurd (cc)
    go false is h = f is (some_is _ t h)

local_pair : {p : Pair} {a b : Text} → PairAt p a b → (t : Term) → local_by (local_name p.0) p.1 ≡ Some t → Specifier module'.local t a b
local_pair {a = a} {b = b} (one_name {m = called x} tok) t h = called_cases x (called x) t h (λ free same. subst (λ (z : Term). Specifier module'.local z a b) same (module'.export_same free tok))
local_pair {a = a} {b = b} (one_name {m = quoted v} (raw, tok)) t h = subst (λ (z : Term). Specifier module'.local z a b) (some_is _ t h) (module'.string_same tok)
local_pair {a = a} {b = b} (two_names {m = called x} {e = e} tok as' y) t h = called_cases x e t h (λ free same. subst (λ (z : Term). Specifier module'.local z a b) same (module'.export_renamed free tok as' (exported_name e y)))
local_pair {a = a} {b = b} (two_names {m = quoted v} {e = e} (raw, tok) as' y) t h = subst (λ (z : Term). Specifier module'.local z a b) (some_is _ t h) (module'.string_renamed tok as' (exported_name e y))

local_chain : {ps : List Pair} {a b : Text} → Chain PairAt ps a b → (us : List Term) → local_specifiers ps ≡ Some us → Chain (Specifier module'.local) us a b
local_chain {a = a} {b = b} (only {x = p} x) us h =
    let (t, ts, is, none_is, whole) = local_with_is (local_by (local_name p.0) p.1) (Some []) us h in
    rw (whole, sym (some_is [] ts none_is)) (only (local_pair x t is))
local_chain (link {x = p} {xs = ps} x tok rest) us h =
    let (t, ts, is, more_is, whole) = local_with_is (local_by (local_name p.0) p.1) (local_specifiers ps) us h in
    rw (whole) (link (local_pair x t is) tok (local_chain rest ts more_is))

local_held : {ps : List Pair} {comma : Bool} {a b : Text} → Held PairAt ps comma a b → (us : List Term) → local_specifiers ps ≡ Some us → Held (Specifier module'.local) us comma a b
local_held held_none us h = rw (sym (some_is [] us h)) held_none
local_held (held_some stops c) us h = held_some stops (local_chain c us h)
local_held (held_comma c tok) us h = held_comma (local_chain c us h) tok

export_pairs_each : (a b : Text) → IsUtf8 b → Word (codes "export") a b → Each (λ t c. ModuleItem t a c) (export_pairs b)
unfolding export_pairs
export_pairs_each a b u tok = each_bind _ (pairs_each b u) (λ ps c v x. each_if (sees_word (codes "from") c) _ _
    (λ _. each_bind _ (from_each c v) (λ source d w y. each_bind _ (semicolon_each plain d w) (λ _ e z end. each_some _ _ z (indirect ps x y end))))
    (λ _. local ps c v x (local_specifiers ps) refl))
  where
    indirect : (ps : List Pair) {c d e : Text} {source : Text} → PairsAt ps b c → From source c d → Semicolon plain d e → ModuleItem (of_parts Kind.ExportFromDeclaration (list (all (indirect_specifiers ps))) (string_of source)) a e
    indirect ps (pairs_at open' h close) y end = module'.export_from tok (module'.braced open' (held_specifiers (indirect_held h)) close) y end

    local_item : (ps : List Pair) (us : List Term) {c d : Text} → PairsAt ps b c → local_specifiers ps ≡ Some us → Semicolon exports c d → ModuleItem (of_list Kind.ExportNamedDeclaration (all us)) a d
    local_item ps us (pairs_at open' h close) is end = module'.export_named tok (module'.braced open' (held_specifiers (local_held h us is)) close) end

    local : (ps : List Pair) (c : Text) → IsUtf8 c → PairsAt ps b c → (o : Option (List Term)) → local_specifiers ps ≡ o → Each (λ t d. ModuleItem t a d) (exports_by o c)
    local ps c v x None is = each_none
    local ps c v x (Some us) is = each_bind _ (semicolon_each exports c v) (λ _ d w end. each_some _ _ w (local_item ps us x is end))

-- what `export *` is called by, or nothing
data AllName : Term → Text → Text → Type 0 where
  no_name : {a : Text} → AllName absent a a
  all_as : {m : Term} {a b c : Text} → Word (codes "as") a b → ExportName m b c → AllName m a c

all_name_each : (a : Text) → IsUtf8 a → Each (λ m b. AllName m a b) (all_name a)
unfolding all_name
all_name_each a u = each_if (sees_word (codes "as") a) _ _
    (λ is. let t = seen_word (codes "as") a u is in each_bind _ (exported_each (after a) t.utf8) (λ m b v x. each_some _ _ v (all_as t.token (exported_name m x))))
    (λ _. each_some _ _ u no_name)

all_item : {m : Term} {source a b c d e f : Text} → Word (codes "export") a b → Sign (codes "*") b c → AllName m c d → From source d e → Semicolon plain e f → ModuleItem (all_of m source) a f
all_item tok star no_name x end = module'.export_all tok star x end
all_item tok star (all_as as' m) x end = module'.export_all_as tok star as' m x end

export_all_each : (a b c : Text) → IsUtf8 c → Word (codes "export") a b → Sign (codes "*") b c → Each (λ t d. ModuleItem t a d) (export_all c)
unfolding export_all
export_all_each a b c u tok star =
    each_bind _ (all_name_each c u) (λ m d v x. each_bind _ (from_each d v) (λ source e w y. each_bind _ (semicolon_each plain e w) (λ _ f z end. each_some _ _ z (all_item tok star x y end))))

record GivesItems (found ss : List Term) (a b : Text) : Type 0 where
  new : List Term
  whole : ss ≡ found ++ new
  stand : ModuleItems new a b
  end : AtEnd b

-- what the text of a module is, behind its hashbang
pub record Body (ds ss : List Term) (a : Text) : Type 0 where
  pub middle : Text
  pub rest : Text
  pub free : begins_with_string ss ≡ false
  pub directives : Directives ds a middle
  pub items : ModuleItems ss middle rest
  pub end : AtEnd rest

-- ---- items

-- an item is no string alone where no directive stands
no_string_item : {t : Term} {a b : Text} → ModuleItem t a b → IsUtf8 a → directive_by (lexeme a) (after a) ≡ None → is_string_statement t ≡ false
no_string_item (module'.statement s) u h = no_string s u h
no_string_item (module'.bare_import tok x end) u h = refl
no_string_item (module'.import_from tok x f end) u h = refl
no_string_item (module'.export_all tok star f end) u h = refl
no_string_item (module'.export_all_as tok star as' m f end) u h = refl
no_string_item (module'.export_named tok x end) u h = refl
no_string_item (module'.export_from tok x f end) u h = refl
no_string_item (module'.export_declaration tok d) u h = refl
no_string_item (module'.export_default tok tok' d) u h = refl

no_string_items : {ss : List Term} {a b : Text} → ModuleItems ss a b → IsUtf8 a → directive_by (lexeme a) (after a) ≡ None → begins_with_string ss ≡ false
no_string_items module'.no_more_items u h = refl
no_string_items (module'.next_item x rest) u h = no_string_item x u h

module _ (sub : Goal → Text → Reading Found) (good : Good sub) where
  default_expression_each : (a : Text) → IsUtf8 a → begins_definition a ≡ false → Each (λ d b. Default d a b) (default_expression sub a)
  unfolding default_expression
  default_expression_each a u free = each_bind _ (part_each sub good 2 true a u) (λ e b v x. each_bind _ (semicolon_each (edge e) b v) (λ _ c w end.
      each_some e c w (module'.default_expression (no_definition (expression_opens (spell.single x.stands) u) free) x.stands end)))

  default_word_each : (x a : Text) → IsUtf8 a → lexeme a ≡ Some (word x) → Each (λ d b. Default d a b) (default_word sub x a)
  unfolding begins_async_function
  default_word_each x a u is = let t = there a u _ is in
      each_if (is_text x (codes "function")) _ _ (λ e. each_weaker (function_each sub good Kind.FunctionDeclaration [] a a (after a) t.utf8 spell.no_async (as_word (codes "function") e t.token)) (λ f b y. module'.default_function y)) (λ nf.
      each_if (is_text x (codes "async") && begins_async_function (after a)) _ _
      (λ h. let (e, on) = and_parts (is_text x (codes "async")) (begins_async_function (after a)) h in
      let (line, f) = and_parts (same_line (after a)) (sees_word (codes "function") (after a)) on in
      let o = seen_word (codes "function") (after a) t.utf8 f in
      each_weaker (function_each sub good Kind.FunctionDeclaration (codes "async") a (after a) (after (after a)) o.utf8 (spell.with_async (as_word (codes "async") e t.token) (on_same_line (after a) line)) o.token) (λ f b y. module'.default_function y)) (λ na.
      each_if (is_text x (codes "class")) _ _ (λ e. each_weaker (class_each sub good Kind.ClassDeclaration a (after a) t.utf8 (as_word (codes "class") e t.token)) (λ f b y. module'.default_class y))
      (λ nc. default_expression_each a u (word_no_definition x a is nf nc na))))

  default_each : (a b c : Text) → IsUtf8 c → Word (codes "export") a b → Word (codes "default") b c → Each (λ t d. ModuleItem t a d) (default sub c)
  unfolding default
  default_each a b c u tok tok' = each_bind _ (go (lexeme c) refl) (λ d e v x. each_some _ _ v (module'.export_default tok tok' x))
    where
      go : (o : Option Lexeme) → lexeme c ≡ o → Each (λ d e. Default d c e) (default_by sub o c)
      go (Some (word x)) is = default_word_each x c u is
      go None is = default_expression_each c u (other_no_definition c _ is (λ w. refl))
      go (Some (private_name x)) is = default_expression_each c u (other_no_definition c _ is (λ w. refl))
      go (Some (number x)) is = default_expression_each c u (other_no_definition c _ is (λ w. refl))
      go (Some (big_integer x)) is = default_expression_each c u (other_no_definition c _ is (λ w. refl))
      go (Some (string x v)) is = default_expression_each c u (other_no_definition c _ is (λ w. refl))
      go (Some (regexp x v)) is = default_expression_each c u (other_no_definition c _ is (λ w. refl))
      go (Some (no_substitution x)) is = default_expression_each c u (other_no_definition c _ is (λ w. refl))
      go (Some (template_head x)) is = default_expression_each c u (other_no_definition c _ is (λ w. refl))
      go (Some (template_middle x)) is = default_expression_each c u (other_no_definition c _ is (λ w. refl))
      go (Some (template_tail x)) is = default_expression_each c u (other_no_definition c _ is (λ w. refl))
      go (Some (sign x)) is = default_expression_each c u (other_no_definition c _ is (λ w. refl))

  declaration_each : (x a : Text) → IsUtf8 a → lexeme a ≡ Some (word x) → Each (λ d b. Declaration d a b) (declaration_word sub x a)
  unfolding begins_async_function
  declaration_each x a u is = let t = there a u _ is in
      each_if (is_declaring x) _ _ (λ e. variables_each sub good x a (after a) t.utf8 e t.token) (λ _.
      each_if (is_text x (codes "function")) _ _ (λ e. function_declaration_each sub good [] a a (after a) t.utf8 spell.no_async (as_word (codes "function") e t.token)) (λ _.
      each_if (is_text x (codes "async") && begins_async_function (after a)) _ _
      (λ h. let (e, on) = and_parts (is_text x (codes "async")) (begins_async_function (after a)) h in
      let (line, f) = and_parts (same_line (after a)) (sees_word (codes "function") (after a)) on in
      let o = seen_word (codes "function") (after a) t.utf8 f in
      function_declaration_each sub good (codes "async") a (after a) (after (after a)) o.utf8 (spell.with_async (as_word (codes "async") e t.token) (on_same_line (after a) line)) o.token) (λ _.
      each_if (is_text x (codes "class")) _ _ (λ e. class_declaration_each sub good a (after a) t.utf8 (as_word (codes "class") e t.token)) (λ _. each_none))))

  exported_declaration_each : (x a b : Text) → IsUtf8 b → Word (codes "export") a b → lexeme b ≡ Some (word x) → Each (λ t c. ModuleItem t a c) (exported_declaration sub x b)
  unfolding exported_declaration
  exported_declaration_each x a b u tok is = each_bind _ (declaration_each x b u is) (λ d c v y. each_some _ _ v (module'.export_declaration tok y))

  export_each : (a b : Text) → IsUtf8 b → Word (codes "export") a b → Each (λ t c. ModuleItem t a c) (export_item sub b)
  unfolding export_item
  export_each a b u tok = go (lexeme b) refl
    where
      go : (o : Option Lexeme) → lexeme b ≡ o → Each (λ t c. ModuleItem t a c) (export_by sub o b)
      go (Some (word x)) is = let t = there b u _ is in each_if (is_text x (codes "default")) _ _
          (λ e. default_each a b (after b) t.utf8 tok (as_word (codes "default") e t.token))
          (λ _. exported_declaration_each x a b u tok is)
      go (Some (sign s)) is = let t = there b u _ is in each_if (is_text s (codes "*")) _ _
          (λ e. export_all_each a b (after b) t.utf8 tok (as_sign (codes "*") e t.token))
          (λ _. export_pairs_each a b u tok)
      go None is = each_none
      go (Some (private_name x)) is = each_none
      go (Some (number x)) is = each_none
      go (Some (big_integer x)) is = each_none
      go (Some (string x v)) is = each_none
      go (Some (regexp x v)) is = each_none
      go (Some (no_substitution x)) is = each_none
      go (Some (template_head x)) is = each_none
      go (Some (template_middle x)) is = each_none
      go (Some (template_tail x)) is = each_none

  import_each : (a b : Text) → IsUtf8 a → IsUtf8 b → Word (codes "import") a b → (o : Option Lexeme) → Each (λ t c. ModuleItem t a c) (import_by sub o b a)
  import_each a b u v tok o = go o
    where
      other : Each (λ t c. ModuleItem t a c) (if sees (codes "(") b || sees (codes ".") b then inner sub a else import_from b)
      other = each_if (sees (codes "(") b || sees (codes ".") b) _ _ (λ _. each_weaker (inner_each sub good a u) (λ s c x. module'.statement x)) (λ _. import_from_each a b v tok)

      go : (o : Option Lexeme) → Each (λ t c. ModuleItem t a c) (import_by sub o b a)
      go (Some (string x w)) = bare_import_each a b v tok
      go None = other
      go (Some (word x)) = other
      go (Some (sign x)) = other
      go (Some (private_name x)) = other
      go (Some (number x)) = other
      go (Some (big_integer x)) = other
      go (Some (regexp x w)) = other
      go (Some (no_substitution x)) = other
      go (Some (template_head x)) = other
      go (Some (template_middle x)) = other
      go (Some (template_tail x)) = other

  item_each : (a : Text) → IsUtf8 a → Each (λ t b. ModuleItem t a b) (module_item sub a)
  unfolding module_item
  item_each a u = go (lexeme a) refl
    where
      statement : Each (λ t b. ModuleItem t a b) (inner sub a)
      statement = each_weaker (inner_each sub good a u) (λ s c x. module'.statement x)

      go : (o : Option Lexeme) → lexeme a ≡ o → Each (λ t b. ModuleItem t a b) (item_by sub o a)
      go (Some (word x)) is = let t = there a u _ is in
          each_if (is_text x (codes "import")) _ _ (λ e. import_each a (after a) u t.utf8 (as_word (codes "import") e t.token) (lexeme (after a))) (λ _.
          each_if (is_text x (codes "export")) _ _ (λ e. export_each a (after a) t.utf8 (as_word (codes "export") e t.token)) (λ _. statement))
      go None is = statement
      go (Some (sign x)) is = statement
      go (Some (private_name x)) is = statement
      go (Some (number x)) is = statement
      go (Some (big_integer x)) is = statement
      go (Some (string x v)) is = statement
      go (Some (regexp x v)) is = statement
      go (Some (no_substitution x)) is = statement
      go (Some (template_head x)) is = statement
      go (Some (template_middle x)) is = statement
      go (Some (template_tail x)) is = statement

  items_each : (n : ℕ) (found : List Term) (a : Text) → IsUtf8 a → Each (λ ss b. GivesItems found ss a b) (module_items sub n found a)
  unfolding module_items
  items_each zero found a u = each_if (at_end a) _ _ (λ h. each_some found a u (record { new = []; whole = sym (append-nil found); stand = module'.no_more_items; end = is_end a h })) (λ _. each_none)
  items_each (suc n) found a u = each_if (at_end a) _ _
      (λ h. each_some found a u (record { new = []; whole = sym (append-nil found); stand = module'.no_more_items; end = is_end a h }))
      (λ _. each_bind _ (item_each a u) (λ s b v x. each_weaker (items_each n (found ++ s ∷ []) b v) (λ ss c rest. record {
        new = s ∷ rest.new;
        whole = rest.whole ∙ append_assoc found (s ∷ []) rest.new;
        stand = module'.next_item x rest.stand;
        end = rest.end;
      })))

  pub body_each : (a : Text) → IsUtf8 a → Each (λ p b. Body p.0 p.1 a) (module_body sub a)
  unfolding module_body
  body_each a u =
      each_bind _ (all_directives (suc (length a)) a u) (λ ds b v x.
      each_bind _ (items_each (length b) [] b v) (λ ss c w y.
      each_some _ _ w (whole ds ss b c v x (subst (λ (z : List Term). ModuleItems z b c) (sym y.whole) y.stand) y.end)))
    where
      whole : (ds ss : List Term) (b c : Text) → IsUtf8 b → Directing ds a b → ModuleItems ss b c → AtEnd c → Body ds ss a
      whole ds ss b c v x items end = record { middle = b; rest = c; free = no_string_items items v x.ends; directives = x.stand; items = items; end = end }
