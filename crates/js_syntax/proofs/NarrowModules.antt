-- A small module is one of the whole language.
use Rattle.std.proofs.Common.{◌≡◌, refl, List, ◌∷◌, false}
use Rattle.js_term.specs.Term.{Text, Term}
use Rattle.js_term.specs.Lexeme.{Manner}
use Rattle.js_term.specs.Spells as small
use Rattle.js_syntax.specs.Edges.{begins_with_string}
use Rattle.js_syntax.specs.Spelling.{written, no_directives}
use Rattle.js_syntax.specs.Modules.{imported, Specifier, Specifiers, ModuleItem, ModuleItems, Spells}
use Rattle.js_syntax.specs.Modules as whole
use Rattle.js_syntax.specs.Narrow.{NarrowIsSpelled}
use Rattle.js_syntax.proofs.NarrowStarts.{statement_no_string}
use Rattle.js_syntax.proofs.NarrowTokens.{at_end_is, word_is, string_is, left_brace_is, right_brace_is, comma_is, semicolon_is}
use Rattle.js_syntax.proofs.NarrowSpelling.{statement_is, declaration_is}

specifier_is : {m : Manner} {s : Term} {a b : Text} → small.Specifier m s a b → Specifier imported s a b
specifier_is (small.renamed r t u v) = whole.import_renamed r (whole.name_exported (word_is t)) (word_is u) (word_is v)
specifier_is (small.unrenamed r t) = whole.import_same r (word_is t)

specifiers_are : {m : Manner} {ss : List Term} {a b : Text} → small.Specifiers m ss a b → Specifiers imported ss a b
specifiers_are small.no_specifiers = whole.no_specifiers
specifiers_are (small.last_specifier s) = whole.last_specifier (specifier_is s)
specifiers_are (small.and_specifier s t ss) = whole.and_specifier (specifier_is s) (comma_is t) (specifiers_are ss)

item_is : {m : Manner} {s : Term} {a b : Text} → small.Item m s a b → ModuleItem s a b
item_is (small.statement s) = whole.statement (statement_is s)
item_is (small.imports t u ss v w x y) =
    let source = string_is x in
    whole.import_from (word_is t) (whole.braced_clause (whole.braced (left_brace_is u) (specifiers_are ss) (right_brace_is v))) (whole.from (word_is w) source.token) (written (semicolon_is y))
item_is (small.exports t d) = whole.export_declaration (word_is t) (declaration_is d)

items_are : {m : Manner} {ss : List Term} {a b : Text} → small.Items m ss a b → ModuleItems ss a b
items_are small.no_more_items = whole.no_more_items
items_are (small.next_item s ss) = whole.next_item (item_is s) (items_are ss)

item_no_string : {m : Manner} {s : Term} {a b : Text} (ss : List Term) → small.Item m s a b → begins_with_string (s ∷ ss) ≡ false
item_no_string ss (small.statement s) = statement_no_string ss s
item_no_string ss (small.imports t u sp v w x y) = refl
item_no_string ss (small.exports t d) = refl

items_no_string : {m : Manner} {ss : List Term} {a b : Text} → small.Items m ss a b → begins_with_string ss ≡ false
items_no_string small.no_more_items = refl
items_no_string (small.next_item {ss} s rest) = item_no_string ss s

module_is : {m : Manner} {text : Text} {t : Term} → small.Spells m text t → Spells text t
module_is (small.spells {b = b} ss e) = whole.spells (items_no_string ss) whole.no_hashbang no_directives (items_are ss) (at_end_is b e)

pub narrow_is_spelled : NarrowIsSpelled
narrow_is_spelled m text t s = module_is s
