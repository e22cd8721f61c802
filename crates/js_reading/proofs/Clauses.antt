-- Clauses of imports and exports that are spelled in a text are read.
use Rattle.std.proofs.Common.{◌≡◌, ◌<◌, true, false, List, [], ◌∷◌, length, Some, refl, subst, arith, codes}
use Rattle.std.specs.Str.{IsUtf8}
use Rattle.js_term.specs.Term.{Text, Term}
use Rattle.js_term.specs.declared.kind.Kind.{Kind}
use Rattle.js_term.specs.Lexeme.{is_reserved}
use Rattle.js_term.specs.Node.{binding_of}
use Rattle.js_syntax.specs.Nodes.{of_parts}
use Rattle.js_syntax.specs.Tokens.{word, sign}
use Rattle.js_syntax.specs.Modules as module'
use Rattle.js_syntax.specs.Modules.{Specifier, Specifiers, Braced, Namespace, ImportClause, From}
use Rattle.js_reading.specs.Reading.{sees, sees_word}
use Rattle.js_reading.specs.Modules.{imported, imports, namespace, import_clause, behind_default, default_import, from_source}
use Rattle.js_reading.proofs.TokensThere.{Seen, see, see_sign, see_word, sees_by, sees_word_by, binding_read}
use Rattle.js_reading.proofs.Lists.{ReadsItem, last_all}
use Rattle.js_reading.proofs.Specified.{export_name_read, name_at_utf8, ListRead, none_read, plain_read, and_read, list_short, renamed_item, same_item, imports_read, namespace_read, from_read}

-- ---- specifiers of an import

pub record ImportedRead (t : Term) (a b : Text) : Type 0 where
  pub utf8 : IsUtf8 b
  pub item : ReadsItem false false imported t a b

imported_read : {t : Term} {a b : Text} → Specifier module'.imported t a b → IsUtf8 a → ImportedRead t a b
imported_read (module'.import_renamed {x = x} {a} {d = d} free m as' tok) u =
    let n = export_name_read m u in
    let y = see_word as' (name_at_utf8 n.at) in
    let z = see_word tok y.utf8 in
    record { utf8 = z.utf8; item = subst (λ k. ReadsItem false false imported (of_parts Kind.ImportSpecifier k (binding_of x)) a d) n.tree_is (renamed_item free n.at y z) }
imported_read (module'.import_same free tok) u = let x = see_word tok u in record { utf8 = x.utf8; item = same_item free x }

pub record ImportedListRead (ts : List Term) (a b : Text) : Type 0 where
  pub utf8 : IsUtf8 b
  pub items : ListRead imported ts a b

pub imported_list_read : {ts : List Term} {a b : Text} → Specifiers module'.imported ts a b → IsUtf8 a → ImportedListRead ts a b
imported_list_read module'.no_specifiers u = record { utf8 = u; items = none_read }
imported_list_read (module'.last_specifier s) u = let x = imported_read s u in record { utf8 = x.utf8; items = plain_read (last_all x.item) }
imported_list_read (module'.and_specifier s tok rest) u =
    let x = imported_read s u in
    let c = see_sign tok x.utf8 in
    let r = imported_list_read rest c.utf8 in
    record { utf8 = r.utf8; items = and_read x.item c r.items }

-- ---- clauses

pub record ImportsRead (ts : List Term) (a b : Text) : Type 0 where
  pub utf8 : IsUtf8 b
  pub shorter : length b < length a
  pub brace : sees (codes "{") a ≡ true
  pub star : sees (codes "*") a ≡ false
  pub reads : imports a ≡ Some (ts, b)

pub braced_imports_read : {ts : List Term} {a b : Text} → Braced module'.imported ts a b → IsUtf8 a → ImportsRead ts a b
braced_imports_read (module'.braced open' list' close') u =
    let x = see_sign open' u in
    let r = imported_list_read list' x.utf8 in
    let y = see_sign close' r.utf8 in
    record {
      utf8 = y.utf8;
      shorter = let s1 = x.shorter in let s2 = list_short r.items in let s3 = y.shorter in omega arith;
      brace = sees_by (codes "{") x;
      star = sees_by (codes "*") x;
      reads = imports_read x r.items y;
    }

pub record NamespaceRead (n : Term) (a b : Text) : Type 0 where
  pub utf8 : IsUtf8 b
  pub shorter : length b < length a
  pub brace : sees (codes "{") a ≡ false
  pub star : sees (codes "*") a ≡ true
  pub reads : namespace a ≡ Some (n, b)

pub namespace_text_read : {n : Term} {a b : Text} → Namespace n a b → IsUtf8 a → NamespaceRead n a b
namespace_text_read (module'.namespace free star as' tok) u =
    let x = see_sign star u in
    let y = see_word as' x.utf8 in
    let z = see_word tok y.utf8 in
    record {
      utf8 = z.utf8;
      shorter = let s1 = x.shorter in let s2 = y.shorter in let s3 = z.shorter in omega arith;
      brace = sees_by (codes "{") x;
      star = sees_by (codes "*") x;
      reads = namespace_read free x y z;
    }

-- Behind a clause stands no comma.
pub record ClauseRead (ts : List Term) (a b : Text) : Type 0 where
  pub utf8 : IsUtf8 b
  pub shorter : length b < length a
  pub reads : sees (codes ",") b ≡ false → import_clause a ≡ Some (ts, b)

default_alone : {x a b : Text} → is_reserved x ≡ false → Seen (word x) a b → sees (codes ",") b ≡ false → import_clause a ≡ Some (default_import x ∷ [], b)
unfolding import_clause behind_default
default_alone free tok h = rw (sees_by (codes "{") tok, sees_by (codes "*") tok, binding_read free tok, h)

default_star : {x a b c d : Text} {n : Term} → is_reserved x ≡ false → Seen (word x) a b → Seen (sign (codes ",")) b c → NamespaceRead n c d → import_clause a ≡ Some (default_import x ∷ n ∷ [], d)
unfolding import_clause behind_default
default_star free tok comma r = rw (sees_by (codes "{") tok, sees_by (codes "*") tok, binding_read free tok, sees_by (codes ",") comma, comma.after_is, r.star, r.reads)

default_brace : {x a b c d : Text} {ts : List Term} → is_reserved x ≡ false → Seen (word x) a b → Seen (sign (codes ",")) b c → ImportsRead ts c d → import_clause a ≡ Some (default_import x ∷ ts, d)
unfolding import_clause behind_default
default_brace free tok comma r = rw (sees_by (codes "{") tok, sees_by (codes "*") tok, binding_read free tok, sees_by (codes ",") comma, comma.after_is, r.star, r.reads)

star_alone : {n : Term} {a b : Text} → NamespaceRead n a b → import_clause a ≡ Some (n ∷ [], b)
unfolding import_clause
star_alone r = rw (r.brace, r.star, r.reads)

brace_alone : {ts : List Term} {a b : Text} → ImportsRead ts a b → import_clause a ≡ Some (ts, b)
unfolding import_clause
brace_alone r = rw (r.brace, r.reads)

pub import_clause_read : {ts : List Term} {a b : Text} → ImportClause ts a b → IsUtf8 a → ClauseRead ts a b
import_clause_read (module'.default_clause free tok) u = let x = see_word tok u in record { utf8 = x.utf8; shorter = x.shorter; reads = λ h. default_alone free x h }
import_clause_read (module'.namespace_clause n) u = let r = namespace_text_read n u in record { utf8 = r.utf8; shorter = r.shorter; reads = λ h. star_alone r }
import_clause_read (module'.braced_clause ts) u = let r = braced_imports_read ts u in record { utf8 = r.utf8; shorter = r.shorter; reads = λ h. brace_alone r }
import_clause_read (module'.default_namespace free tok comma n) u =
    let x = see_word tok u in
    let c = see_sign comma x.utf8 in
    let r = namespace_text_read n c.utf8 in
    record { utf8 = r.utf8; shorter = let s1 = x.shorter in let s2 = c.shorter in let s3 = r.shorter in omega arith; reads = λ h. default_star free x c r }
import_clause_read (module'.default_braced free tok comma ts) u =
    let x = see_word tok u in
    let c = see_sign comma x.utf8 in
    let r = braced_imports_read ts c.utf8 in
    record { utf8 = r.utf8; shorter = let s1 = x.shorter in let s2 = c.shorter in let s3 = r.shorter in omega arith; reads = λ h. default_brace free x c r }

-- ---- from 'source'

pub record FromRead (source a b : Text) : Type 0 where
  pub utf8 : IsUtf8 b
  pub shorter : length b < length a
  pub no_comma : sees (codes ",") a ≡ false
  pub word_there : sees_word (codes "from") a ≡ true
  pub no_as : sees_word (codes "as") a ≡ false
  pub reads : from_source a ≡ Some (source, b)

pub from_text_read : {source a b : Text} → From source a b → IsUtf8 a → FromRead source a b
from_text_read (module'.from tok text) u =
    let x = see_word tok u in
    let y = see text x.utf8 refl in
    record {
      utf8 = y.utf8;
      shorter = let s1 = x.shorter in let s2 = y.shorter in omega arith;
      no_comma = sees_by (codes ",") x;
      word_there = sees_word_by (codes "from") x;
      no_as = sees_word_by (codes "as") x;
      reads = from_read x y;
    }
