-- Imports and exports that are spelled in a text are read.
use Rattle.std.proofs.Common.{◌≡◌, false, List, Some, ◌∙◌, codes}
use Rattle.std.specs.Str.{IsUtf8}
use Rattle.js_term.specs.Term.{Text, Term, absent, list, all}
use Rattle.js_term.specs.declared.kind.Kind.{Kind}
use Rattle.js_term.specs.Node.{string_of}
use Rattle.js_syntax.specs.Nodes.{of_list, of_parts}
use Rattle.js_syntax.specs.Tokens.{word, string, sign}
use Rattle.js_syntax.specs.Edges.{plain, exports}
use Rattle.js_syntax.specs.Spelling.{Semicolon}
use Rattle.js_syntax.specs.Modules as module'
use Rattle.js_syntax.specs.Modules.{Specifier, Specifiers, ImportClause}
use Rattle.js_tokens.specs.Next.{lexeme}
use Rattle.js_reading.specs.declared.goal.Goal.{Goal}
use Rattle.js_reading.specs.Reading.{Found, Reading, sees_word}
use Rattle.js_reading.specs.Modules.{Exported, exported_tree, Pair, exported_pair, local_specifiers, indirect_specifiers, import_of, bare_import, import_from, import_by, all_of, all_name, export_all, export_pairs, export_item, module_item}
use Rattle.js_reading.proofs.TokensThere.{Seen, see_sign, see_word, sees_by, sees_word_by, string_token_read}
use Rattle.js_reading.proofs.TokensEnd.{semicolon_read}
use Rattle.js_reading.proofs.Specified.{NameAt, name_at_read, ListRead, pairs_read}
use Rattle.js_reading.proofs.Clauses.{ClauseRead, FromRead}

module _ (sub : Goal → Text → Reading Found) where
  -- ---- imports

  pub bare_import_item : {raw source a b c d : Text} → Seen (word (codes "import")) a b → Seen (string raw source) b c → Semicolon plain c d → module_item sub a ≡ Some (import_of absent source, d)
  unfolding module_item bare_import
  bare_import_item x y end = rw (x.lexeme_is, x.after_is, y.lexeme_is, string_token_read y, semicolon_read end y.utf8)

  clause_by : (a : Text) {ts : List Term} {b c : Text} → ImportClause ts b c → IsUtf8 b → import_by sub (lexeme b) b a ≡ import_from b
  clause_by a (module'.default_clause free tok) u = let x = see_word tok u in rw (x.lexeme_is, sees_by (codes "(") x, sees_by (codes ".") x)
  clause_by a (module'.default_namespace free tok comma n) u = let x = see_word tok u in rw (x.lexeme_is, sees_by (codes "(") x, sees_by (codes ".") x)
  clause_by a (module'.default_braced free tok comma n) u = let x = see_word tok u in rw (x.lexeme_is, sees_by (codes "(") x, sees_by (codes ".") x)
  clause_by a (module'.namespace_clause (module'.namespace free tok as' y)) u = let x = see_sign tok u in rw (x.lexeme_is, sees_by (codes "(") x, sees_by (codes ".") x)
  clause_by a (module'.braced_clause (module'.braced tok l close')) u = let x = see_sign tok u in rw (x.lexeme_is, sees_by (codes "(") x, sees_by (codes ".") x)

  import_from_here : {ts : List Term} {source b c d e : Text} → ClauseRead ts b c → FromRead source c d → Semicolon plain d e → import_from b ≡ Some (import_of (list (all ts)) source, e)
  unfolding import_from
  import_from_here r f end = rw (r.reads f.no_comma, f.reads, semicolon_read end f.utf8)

  pub import_from_item : {ts : List Term} {source a b c d e : Text} → Seen (word (codes "import")) a b → ImportClause ts b c → ClauseRead ts b c → FromRead source c d → Semicolon plain d e → module_item sub a ≡ Some (import_of (list (all ts)) source, e)
  unfolding module_item
  import_from_item {a = a} x clause r f end = rw (x.lexeme_is, x.after_is) (clause_by a clause x.utf8 ∙ import_from_here r f end)

  -- ---- exports

  pub export_there : {a b : Text} → Seen (word (codes "export")) a b → module_item sub a ≡ export_item sub b
  unfolding module_item
  export_there x = rw (x.lexeme_is, x.after_is)

  pub export_all_item : {source a b c d e : Text} → Seen (word (codes "export")) a b → Seen (sign (codes "*")) b c → FromRead source c d → Semicolon plain d e → module_item sub a ≡ Some (all_of absent source, e)
  unfolding export_item export_all all_name
  export_all_item x star f end = rw (export_there x, star.lexeme_is, star.after_is, f.no_as, f.reads, semicolon_read end f.utf8)

  pub export_all_as_item : {m : Exported} {source a b c d e f g : Text} → Seen (word (codes "export")) a b → Seen (sign (codes "*")) b c → Seen (word (codes "as")) c d → NameAt m d e → FromRead source e f → Semicolon plain f g → module_item sub a ≡ Some (all_of (exported_tree m) source, g)
  unfolding export_item export_all all_name
  export_all_as_item x star as' m f end = rw (export_there x, star.lexeme_is, star.after_is, sees_word_by (codes "as") as', as'.after_is, name_at_read m, f.reads, semicolon_read end f.utf8)

  pub export_from_item : {ps : List Pair} {source a b c d e f g : Text} → Seen (word (codes "export")) a b → Seen (sign (codes "{")) b c → ListRead exported_pair ps c d → Seen (sign (codes "}")) d e → FromRead source e f → Semicolon plain f g → module_item sub a ≡ Some (of_parts Kind.ExportFromDeclaration (list (all (indirect_specifiers ps))) (string_of source), g)
  unfolding export_item export_pairs
  export_from_item x open' ps close' f end = rw (export_there x, open'.lexeme_is, pairs_read open' ps close', f.word_there, f.reads, semicolon_read end f.utf8)

  pub export_named_item : {ps : List Pair} {ts : List Term} {a b c d e f : Text} → Seen (word (codes "export")) a b → Seen (sign (codes "{")) b c → ListRead exported_pair ps c d → Seen (sign (codes "}")) d e → local_specifiers ps ≡ Some ts → sees_word (codes "from") e ≡ false → Semicolon exports e f → module_item sub a ≡ Some (of_list Kind.ExportNamedDeclaration (all ts), f)
  unfolding export_item export_pairs
  export_named_item x open' ps close' means no_from end = rw (export_there x, open'.lexeme_is, pairs_read open' ps close', no_from, means, semicolon_read end close'.utf8)
