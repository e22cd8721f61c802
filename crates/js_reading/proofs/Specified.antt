-- Names, specifiers and clauses of imports and exports that stand in a text are read.
use Rattle.std.proofs.Common.{◌≡◌, ◌≤◌, ◌<◌, true, false, List, [], ◌∷◌, length, Option, Some, None, refl, ap, arith, codes}
use Rattle.std.specs.Str.{IsUtf8}
use Rattle.std.proofs.lemmas.Bool.{false≢true}
use Rattle.js_term.specs.Term.{Text, Term}
use Rattle.js_term.specs.declared.kind.Kind.{Kind}
use Rattle.js_term.specs.Lexeme.{is_reserved}
use Rattle.js_term.specs.Node.{binding_of, specifier_of}
use Rattle.js_syntax.specs.Nodes.{of_part, of_parts}
use Rattle.js_syntax.specs.Tokens.{Lexeme, word, private_name, number, big_integer, string, regexp, no_substitution, template_head, template_middle, template_tail, sign}
use Rattle.js_syntax.specs.Modules as module'
use Rattle.js_syntax.specs.Modules.{ExportName, Specifier, Specifiers, Braced, Namespace, ImportClause, From}
use Rattle.js_tokens.specs.Next.{lexeme}
use Rattle.js_reading.specs.Reading.{Reading, is_word, sees_word}
use Rattle.js_reading.specs.Modules.{Exported, called, quoted, exported_tree, exported, imported, imports, namespace, from_source, Pair, exported_pair, pairs}
use Rattle.js_reading.proofs.TokensThere.{Seen, see, see_word, sees_by, sees_word_by, expect_read, expect_word_read, binding_read, string_token_read}
use Rattle.js_reading.proofs.Lists.{is_closing, separates, ReadsItem, separate_item, ReadsAll, last_all, and_all, group_none, group_some, group_comma}

-- ---- names (ModuleExportName)

pub data NameAt : Exported → Text → Text → Type 0 where
  called_at : {x a b : Text} → Seen (word x) a b → NameAt (called x) a b
  quoted_at : {raw v a b : Text} → Seen (string raw v) a b → NameAt (quoted v) a b

pub name_at_read : {m : Exported} {a b : Text} → NameAt m a b → exported a ≡ Some (m, b)
unfolding exported
name_at_read (called_at x) = rw (x.lexeme_is, x.after_is)
name_at_read (quoted_at x) = rw (x.lexeme_is, x.after_is)

pub name_at_utf8 : {m : Exported} {a b : Text} → NameAt m a b → IsUtf8 b
name_at_utf8 (called_at x) = x.utf8
name_at_utf8 (quoted_at x) = x.utf8

pub name_at_shorter : {m : Exported} {a b : Text} → NameAt m a b → length b < length a
name_at_shorter (called_at x) = x.shorter
name_at_shorter (quoted_at x) = x.shorter

pub name_at_open : {m : Exported} {a b : Text} → NameAt m a b → is_closing (lexeme a) ≡ false
name_at_open (called_at x) = ap is_closing x.lexeme_is
name_at_open (quoted_at x) = ap is_closing x.lexeme_is

-- a name by its tree
pub record NameRead (m : Term) (a b : Text) : Type 0 where
  pub shown : Exported
  pub tree_is : exported_tree shown ≡ m
  pub at : NameAt shown a b

pub export_name_read : {m : Term} {a b : Text} → ExportName m a b → IsUtf8 a → NameRead m a b
export_name_read (module'.name_exported {x} tok) u = record { shown = called x; tree_is = refl; at = called_at (see_word tok u) }
export_name_read (module'.string_exported {v = v} tok) u = record { shown = quoted v; tree_is = refl; at = quoted_at (see tok u refl) }

-- ---- lists, behind whose last item a comma may stand

pub data ListRead {A : Type 0} (item : Text → Reading A) : List A → Text → Text → Type 0 where
  none_read : {a : Text} → ListRead item [] a a
  plain_read : {xs : List A} {a b : Text} → ReadsAll false false item xs a b → ListRead item xs a b
  comma_read : {xs : List A} {a b c : Text} → ReadsAll false false item xs a b → Seen (sign (codes ",")) b c → ListRead item xs a c

pub and_read : {A : Type 0} {item : Text → Reading A} {x : A} {xs : List A} {a b c d : Text} → ReadsItem false false item x a b → Seen (sign (codes ",")) b c → ListRead item xs c d → ListRead item (x ∷ xs) a d
and_read r tok none_read = comma_read (last_all r) tok
and_read r tok (plain_read rest) = plain_read (and_all r tok rest)
and_read r tok (comma_read rest more) = comma_read (and_all r tok rest) more

pub list_short : {A : Type 0} {item : Text → Reading A} {xs : List A} {a b : Text} → ListRead item xs a b → length b ≤ length a
list_short none_read = omega arith
list_short (plain_read r) = r.short
list_short (comma_read r tok) = let s = r.short in let k = tok.shorter in omega arith

not_word : (s : Text) (o : Option Lexeme) → separates o ≡ true → is_word s o ≡ false
not_word s None h = refl
not_word s (Some (sign x)) h = refl
not_word s (Some (word x)) h = absurd (false≢true h)
not_word s (Some (private_name x)) h = refl
not_word s (Some (number x)) h = refl
not_word s (Some (big_integer x)) h = refl
not_word s (Some (string x v)) h = refl
not_word s (Some (regexp x v)) h = refl
not_word s (Some (no_substitution x)) h = refl
not_word s (Some (template_head x)) h = refl
not_word s (Some (template_middle x)) h = refl
not_word s (Some (template_tail x)) h = refl

-- behind a specifier stands no word
pub separates_no_word : (s a : Text) → separates (lexeme a) ≡ true → sees_word s a ≡ false
unfolding sees_word
separates_no_word s a h = not_word s (lexeme a) h

-- ---- imports

import_renamed : {m : Exported} {x a b c d : Text} → is_reserved x ≡ false → NameAt m a b → Seen (word (codes "as")) b c → Seen (word x) c d → imported a ≡ Some (of_parts Kind.ImportSpecifier (exported_tree m) (binding_of x), d)
unfolding imported
import_renamed free at as' tok = rw (name_at_read at, sees_word_by (codes "as") as', as'.after_is, binding_read free tok)

import_same : {x a b : Text} → is_reserved x ≡ false → Seen (word x) a b → sees_word (codes "as") b ≡ false → imported a ≡ Some (specifier_of x x, b)
unfolding imported
import_same free tok h = rw (name_at_read (called_at tok), h, free)

pub renamed_item : {m : Exported} {x a b c d : Text} → is_reserved x ≡ false → NameAt m a b → Seen (word (codes "as")) b c → Seen (word x) c d → ReadsItem false false imported (of_parts Kind.ImportSpecifier (exported_tree m) (binding_of x)) a d
renamed_item free at as' tok =
    separate_item false (let s1 = name_at_shorter at in let s2 = as'.shorter in let s3 = tok.shorter in omega arith) (name_at_open at) (λ h. import_renamed free at as' tok) (λ h. import_renamed free at as' tok)

pub same_item : {x a b : Text} → is_reserved x ≡ false → Seen (word x) a b → ReadsItem false false imported (specifier_of x x) a b
same_item {b = b} free tok = separate_item false tok.shorter (ap is_closing tok.lexeme_is) (λ h. import_same free tok (separates_no_word (codes "as") b h)) (λ h. absurd (false≢true h))

pub imports_read : {ts : List Term} {a b c d : Text} → Seen (sign (codes "{")) a b → ListRead imported ts b c → Seen (sign (codes "}")) c d → imports a ≡ Some (ts, d)
unfolding imports
imports_read x none_read y = let g = group_none {item = imported} in rw (expect_read x, g.reads (codes "}") refl (sees_by (codes "}") y), expect_read y)
imports_read x (plain_read r) y = let g = group_some refl r in rw (expect_read x, g.reads (codes "}") refl (sees_by (codes "}") y), expect_read y)
imports_read x (comma_read r tok) y = let g = group_comma r tok in rw (expect_read x, g.reads (codes "}") refl (sees_by (codes "}") y), expect_read y)

pub namespace_read : {x a b c d : Text} → is_reserved x ≡ false → Seen (sign (codes "*")) a b → Seen (word (codes "as")) b c → Seen (word x) c d → namespace a ≡ Some (of_part Kind.ImportNamespaceSpecifier (binding_of x), d)
unfolding namespace
namespace_read free star as' tok = rw (expect_read star, expect_word_read as', binding_read free tok)

pub from_read : {raw source a b c : Text} → Seen (word (codes "from")) a b → Seen (string raw source) b c → from_source a ≡ Some (source, c)
unfolding from_source
from_read x y = rw (expect_word_read x, string_token_read y)

-- ---- exports

pair_renamed : {m e : Exported} {a b c d : Text} → NameAt m a b → Seen (word (codes "as")) b c → NameAt e c d → exported_pair a ≡ Some ((m, e), d)
unfolding exported_pair
pair_renamed at as' e = rw (name_at_read at, sees_word_by (codes "as") as', as'.after_is, name_at_read e)

pair_same : {m : Exported} {a b : Text} → NameAt m a b → sees_word (codes "as") b ≡ false → exported_pair a ≡ Some ((m, m), b)
unfolding exported_pair
pair_same at h = rw (name_at_read at, h)

pub renamed_pair : {m e : Exported} {a b c d : Text} → NameAt m a b → Seen (word (codes "as")) b c → NameAt e c d → ReadsItem false false exported_pair (m, e) a d
renamed_pair at as' e =
    separate_item false (let s1 = name_at_shorter at in let s2 = as'.shorter in let s3 = name_at_shorter e in omega arith) (name_at_open at) (λ h. pair_renamed at as' e) (λ h. pair_renamed at as' e)

pub same_pair : {m : Exported} {a b : Text} → NameAt m a b → ReadsItem false false exported_pair (m, m) a b
same_pair {b = b} at = separate_item false (name_at_shorter at) (name_at_open at) (λ h. pair_same at (separates_no_word (codes "as") b h)) (λ h. absurd (false≢true h))

pub pairs_read : {ps : List Pair} {a b c d : Text} → Seen (sign (codes "{")) a b → ListRead exported_pair ps b c → Seen (sign (codes "}")) c d → pairs a ≡ Some (ps, d)
unfolding pairs
pairs_read x none_read y = let g = group_none {item = exported_pair} in rw (expect_read x, g.reads (codes "}") refl (sees_by (codes "}") y), expect_read y)
pairs_read x (plain_read r) y = let g = group_some refl r in rw (expect_read x, g.reads (codes "}") refl (sees_by (codes "}") y), expect_read y)
pairs_read x (comma_read r tok) y = let g = group_comma r tok in rw (expect_read x, g.reads (codes "}") refl (sees_by (codes "}") y), expect_read y)
