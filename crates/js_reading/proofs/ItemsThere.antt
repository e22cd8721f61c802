-- Items of a module that are spelled in a text are read.
use Rattle.std.proofs.Common.{◌≡◌, ◌≤◌, ℕ, zero, suc, Bool, true, false, ◌||◌, List, [], length, Option, Some, None, refl, sym, subst, ◌∙◌, ap, arith, codes}
use Rattle.std.specs.Str.{IsUtf8}
use Rattle.std.proofs.lemmas.Bool.{false≢true, and_left}
use Rattle.js_term.specs.Term.{Text, is_text, Term, absent, list, all, depth}
use Rattle.js_term.specs.declared.kind.Kind.{Kind}
use Rattle.js_term.specs.Node.{string_of}
use Rattle.js_syntax.specs.Nodes.{of_parts, of_list}
use Rattle.js_syntax.specs.Edges.{plain, exports}
use Rattle.js_syntax.specs.Tokens.{Lexeme, word, private_name, number, big_integer, string, regexp, no_substitution, template_head, template_middle, template_tail, sign}
use Rattle.js_syntax.specs.Spelling as spell
use Rattle.js_syntax.specs.Spelling.{Semicolon, Stands, FunctionText, ClassText, Statement}
use Rattle.js_syntax.specs.Modules as module'
use Rattle.js_syntax.specs.Modules.{ImportClause, Default, ModuleItem, ModuleItems}
use Rattle.js_syntax.proofs.Fronts.{same_text}
use Rattle.js_tokens.specs.Next.{lexeme, after}
use Rattle.js_reading.specs.declared.goal.Goal.{Goal}
use Rattle.js_reading.specs.declared.goal.Goal.TheVariants as goal
use Rattle.js_reading.specs.Reading.{Found, Reading, is_sign, sees, expect, separated}
use Rattle.js_reading.specs.Parts.{part, expression}
use Rattle.js_reading.specs.Expressions.{import_expression, prefix, at_level}
use Rattle.js_reading.specs.Statements.{inner, ended, effect, plain_statement, word_statement, statement}
use Rattle.js_reading.specs.Modules.{import_by, item_by, module_item}
use Rattle.js_reading.specs.Read.{read}
use Rattle.js_reading.proofs.Knot.{stands_read, statement_read, function_read, class_read}
use Rattle.js_reading.proofs.TokensThere.{Seen, see, see_sign, see_word}
use Rattle.js_reading.proofs.TokensEnd.{ended as ends_so, semicolon_utf8, semicolon_short}
use Rattle.js_reading.proofs.Joining.{stands_joined}
use Rattle.js_reading.proofs.StatementStarts.{starts, starts_no_end, IsReadStatement}
use Rattle.js_reading.proofs.StatementsThere.{statement_part}
use Rattle.js_reading.proofs.Specified.{NameRead, name_at_utf8, name_at_shorter, export_name_read, list_short}
use Rattle.js_reading.proofs.Clauses.{import_clause_read, FromRead, from_text_read}
use Rattle.js_reading.proofs.ExportsRead.{LocalListRead, local_list_read, IndirectListRead, indirect_list_read, no_from_behind}
use Rattle.js_reading.proofs.ImportsRead.{bare_import_item, import_from_item, export_all_item, export_all_as_item, export_from_item, export_named_item}
use Rattle.js_reading.proofs.ItemStarts.{ItemFollows, statement_follows_item, import_follows, export_follows, IsReadItem, word_item}
use Rattle.js_reading.proofs.Exported.{export_declaration_item, IsReadDefault, function_default, class_default, expression_default, export_default_item}

-- ---- a statement that begins with `import`

import_prefix : (sub : Goal → Text → Reading Found) (a : Text) → lexeme a ≡ Some (word (codes "import")) → sees (codes "(") (after a) ≡ false → sees (codes ".") (after a) ≡ false → prefix sub true 2 a ≡ None
unfolding prefix import_expression expect
import_prefix sub a is h h' = rw (is, h', h)

import_part : (limit : ℕ) (a : Text) → lexeme a ≡ Some (word (codes "import")) → sees (codes "(") (after a) ≡ false → sees (codes ".") (after a) ≡ false → part (read limit) (goal.Expression 2 true) a ≡ None
unfolding part read at_level
import_part zero a is h h' = refl
import_part (suc limit) a is h h' = rw (import_prefix (read limit) a is h h')

none_separated : {A : Type 0} (item : Text → Reading A) (n : ℕ) (found : List A) (a : Text) → item a ≡ None → separated item n found a ≡ None
unfolding separated
none_separated item zero found a h = refl
none_separated item (suc n) found a h = rw h

import_statement : (limit : ℕ) (a : Text) → lexeme a ≡ Some (word (codes "import")) → sees (codes "(") (after a) ≡ false → sees (codes ".") (after a) ≡ false → statement (read limit) a ≡ None
unfolding statement word_statement plain_statement effect ended expression
import_statement limit a is h h' = rw (is, none_separated (part (read limit) (goal.Expression 2 true)) (length a) [] a (import_part limit a is h h'))

-- behind the word stands `(` or `.`
behind_import : (limit : ℕ) {s : Term} (a : Text) {b : Text} → statement (read limit) a ≡ Some (s, b) → lexeme a ≡ Some (word (codes "import")) → sees (codes "(") (after a) || sees (codes ".") (after a) ≡ true
behind_import limit {s} a {b} h is = go (sees (codes "(") (after a)) (sees (codes ".") (after a)) refl refl
  where
    go : (p q : Bool) → sees (codes "(") (after a) ≡ p → sees (codes ".") (after a) ≡ q → (p || q) ≡ true
    go true q e f = refl
    go false true e f = refl
    go false false e f = absurd (let none' = import_statement limit a is e f in let bad : None ≡ Some (s, b) = sym none' ∙ h in cc)

import_inner : (sub : Goal → Text → Reading Found) (a b : Text) → sees (codes "(") b || sees (codes ".") b ≡ true → import_by sub (lexeme b) b a ≡ inner sub a
unfolding sees
import_inner sub a b h = go (lexeme b) h
  where
    go : (o : Option Lexeme) → (is_sign (codes "(") o || is_sign (codes ".") o) ≡ true → import_by sub o b a ≡ inner sub a
    go (Some (string raw v)) e = absurd (false≢true e)
    go None e = rw h
    go (Some (word x)) e = rw h
    go (Some (private_name x)) e = rw h
    go (Some (number x)) e = rw h
    go (Some (big_integer x)) e = rw h
    go (Some (regexp x v)) e = rw h
    go (Some (no_substitution x)) e = rw h
    go (Some (template_head x)) e = rw h
    go (Some (template_middle x)) e = rw h
    go (Some (template_tail x)) e = rw h
    go (Some (sign x)) e = rw h

-- ---- statements as items

item_inner : (sub : Goal → Text → Reading Found) (a : Text) → starts (lexeme a) ≡ true → (lexeme a ≡ Some (word (codes "import")) → sees (codes "(") (after a) || sees (codes ".") (after a) ≡ true) → module_item sub a ≡ inner sub a
unfolding module_item
item_inner sub a begun behind = go (lexeme a) refl begun
  where
    by_word : (x : Text) (p q : Bool) → is_text x (codes "import") ≡ p → is_text x (codes "export") ≡ q → lexeme a ≡ Some (word x) → starts (Some (word x)) ≡ true → item_by sub (Some (word x)) a ≡ inner sub a
    by_word x true q e f is h = rw e (import_inner sub a (after a) (behind (is ∙ ap (λ y. Some (word y)) (same_text x (codes "import") e))))
    by_word x false true e f is h = absurd (false≢true (ap (λ y. starts (Some (word y))) (sym (same_text x (codes "export") f)) ∙ h))
    by_word x false false e f is h = rw (e, f)

    go : (o : Option Lexeme) → lexeme a ≡ o → starts o ≡ true → item_by sub o a ≡ inner sub a
    go (Some (word x)) is h = by_word x (is_text x (codes "import")) (is_text x (codes "export")) refl refl is h
    go None is h = refl
    go (Some (private_name x)) is h = refl
    go (Some (number x)) is h = refl
    go (Some (big_integer x)) is h = refl
    go (Some (string x v)) is h = refl
    go (Some (regexp x v)) is h = refl
    go (Some (no_substitution x)) is h = refl
    go (Some (template_head x)) is h = refl
    go (Some (template_middle x)) is h = refl
    go (Some (template_tail x)) is h = refl
    go (Some (sign x)) is h = refl

statement_there : {s : Term} {a b : Text} → IsReadStatement s a b → (limit : ℕ) → depth s ≤ limit → ItemFollows b → module_item (read limit) a ≡ Some (s, b)
statement_there {a = a} r limit fits k =
    let calm = and_left _ _ k.no_else in
    item_inner (read limit) a r.begun (λ is. behind_import limit a (r.reads limit (omega arith) k.follows calm) is) ∙ statement_part r limit fits k.follows calm

starts_token : (a : Text) → starts (lexeme a) ≡ true → lexeme a ≡ None → ⊥
starts_token a h is = false≢true (sym (ap starts is) ∙ h)

pub statement_item : {s : Term} {a b : Text} → IsReadStatement s a b → IsReadItem s a b
statement_item {a = a} r = record {
  utf8 = r.utf8;
  shorter = r.shorter;
  more = starts_no_end a r.begun;
  token = starts_token a r.begun;
  follows = statement_follows_item a r.begun;
  reads = λ limit fits k. statement_there r limit fits k;
}

-- ---- imports

pub bare_import_read : {raw source a b c d : Text} → Seen (word (codes "import")) a b → Seen (string raw source) b c → Semicolon plain c d → IsReadItem (of_parts Kind.ImportDeclaration absent (string_of source)) a d
bare_import_read tok x end = word_item tok (import_follows tok) (semicolon_utf8 end x.utf8) (let s = x.shorter in let k = semicolon_short end x.utf8 in omega arith) (λ limit fits k. bare_import_item (read limit) tok x end)

pub import_from_read : {ts : List Term} {source a b c d e : Text} → Seen (word (codes "import")) a b → ImportClause ts b c → FromRead source c d → Semicolon plain d e → IsReadItem (of_parts Kind.ImportDeclaration (list (all ts)) (string_of source)) a e
import_from_read tok clause f end = let r = import_clause_read clause tok.utf8 in word_item tok (import_follows tok) (semicolon_utf8 end f.utf8) (let s = r.shorter in let s' = f.shorter in let k = semicolon_short end f.utf8 in omega arith) (λ limit fits k. import_from_item (read limit) tok clause r f end)

-- ---- exports

pub export_all_read : {source a b c d e : Text} → Seen (word (codes "export")) a b → Seen (sign (codes "*")) b c → FromRead source c d → Semicolon plain d e → IsReadItem (of_parts Kind.ExportAllDeclaration absent (string_of source)) a e
export_all_read tok star f end = word_item tok (export_follows tok) (semicolon_utf8 end f.utf8) (let s = star.shorter in let s' = f.shorter in let k = semicolon_short end f.utf8 in omega arith) (λ limit fits k. export_all_item (read limit) tok star f end)

pub export_all_as_read : {m : Term} {source a b c d e f g : Text} → Seen (word (codes "export")) a b → Seen (sign (codes "*")) b c → Seen (word (codes "as")) c d → NameRead m d e → FromRead source e f → Semicolon plain f g → IsReadItem (of_parts Kind.ExportAllDeclaration m (string_of source)) a g
export_all_as_read {source = source} {a} {g = g} tok star as' n f end =
    subst (λ m. IsReadItem (of_parts Kind.ExportAllDeclaration m (string_of source)) a g) n.tree_is
    (word_item tok (export_follows tok) (semicolon_utf8 end f.utf8) (let s1 = star.shorter in let s2 = as'.shorter in let s3 = name_at_shorter n.at in let s4 = f.shorter in let k = semicolon_short end f.utf8 in omega arith) (λ limit fits k. export_all_as_item (read limit) tok star as' n.at f end))

pub export_from_read : {ts : List Term} {source a b c d e f g : Text} → Seen (word (codes "export")) a b → Seen (sign (codes "{")) b c → IndirectListRead ts c d → Seen (sign (codes "}")) d e → FromRead source e f → Semicolon plain f g → IsReadItem (of_parts Kind.ExportFromDeclaration (list (all ts)) (string_of source)) a g
export_from_read {source = source} {a} {g = g} tok open' r close' f end =
    subst (λ ts. IsReadItem (of_parts Kind.ExportFromDeclaration (list (all ts)) (string_of source)) a g) r.means
    (word_item tok (export_follows tok) (semicolon_utf8 end f.utf8) (let s1 = open'.shorter in let s2 = list_short r.items in let s3 = close'.shorter in let s4 = f.shorter in let k = semicolon_short end f.utf8 in omega arith) (λ limit fits k. export_from_item (read limit) tok open' r.items close' f end))

pub export_named_read : {ts : List Term} {a b c d e f : Text} → Seen (word (codes "export")) a b → Seen (sign (codes "{")) b c → LocalListRead ts c d → Seen (sign (codes "}")) d e → Semicolon exports e f → IsReadItem (of_list Kind.ExportNamedDeclaration (all ts)) a f
export_named_read tok open' r close' end =
    word_item tok (export_follows tok) (semicolon_utf8 end close'.utf8) (let s1 = open'.shorter in let s2 = list_short r.items in let s3 = close'.shorter in let k = semicolon_short end close'.utf8 in omega arith) (λ limit fits k. export_named_item (read limit) tok open' r.items close' r.means (no_from_behind (ends_so end close'.utf8)) end)

-- ---- items by their derivations

default_read : {d : Term} {a b : Text} → Default d a b → IsUtf8 a → IsReadDefault d a b
default_read (module'.default_function f) u = function_default (function_read f u)
default_read (module'.default_class c) u = class_default (class_read c u)
default_read (module'.default_expression free e end) u = expression_default free (stands_joined e u) (stands_read e u) end

pub module_item_read : {s : Term} {a b : Text} → ModuleItem s a b → IsUtf8 a → IsReadItem s a b
module_item_read (module'.statement s) u = statement_item (statement_read s u)
module_item_read (module'.bare_import tok x end) u = let t = see_word tok u in bare_import_read t (see x t.utf8 refl) end
module_item_read (module'.import_from tok clause f end) u = let t = see_word tok u in let r = import_clause_read clause t.utf8 in import_from_read t clause (from_text_read f r.utf8) end
module_item_read (module'.export_all tok star f end) u = let t = see_word tok u in let x = see_sign star t.utf8 in export_all_read t x (from_text_read f x.utf8) end
module_item_read (module'.export_all_as tok star as' m f end) u =
    let t = see_word tok u in
    let x = see_sign star t.utf8 in
    let y = see_word as' x.utf8 in
    let n = export_name_read m y.utf8 in
    export_all_as_read t x y n (from_text_read f (name_at_utf8 n.at)) end
module_item_read (module'.export_named tok (module'.braced open' l close') end) u =
    let t = see_word tok u in
    let x = see_sign open' t.utf8 in
    let r = local_list_read l x.utf8 in
    export_named_read t x r (see_sign close' r.utf8) end
module_item_read (module'.export_from tok (module'.braced open' l close') f end) u =
    let t = see_word tok u in
    let x = see_sign open' t.utf8 in
    let r = indirect_list_read l x.utf8 in
    let y = see_sign close' r.utf8 in
    export_from_read t x r y (from_text_read f y.utf8) end
module_item_read (module'.export_declaration tok d) u = let t = see_word tok u in export_declaration_item t d (statement_read (spell.declaration d) t.utf8)
module_item_read (module'.export_default tok tok' d) u = let t = see_word tok u in let x = see_word tok' t.utf8 in export_default_item t x (default_read d x.utf8)
