-- What stands at the front of a text stands there behind a blank or a line end, too.
use Rattle.std.proofs.Common.{◌≡◌, refl, ◌∙◌, ℕ, List, ◌∷◌, true}
use Rattle.js_term.specs.Term.{Text, Term}
use Rattle.js_term.specs.Lexeme.{whole, is_blank, opens_otherwise}
use Rattle.js_term.specs.Spells.{Stands, identifier, boolean, numeric, string_literal, parenthesized, call, member, await_expression, array, object, Listed, last, and, Names, last_name, and_name, Property, init, method, Statement, declaration, returns, expression, Declaration, constant, function, Specifier, renamed, unrenamed, Item, statement, imports, exports}
use Rattle.js_print.proofs.Lexemes.{behind_gap}

module _ (c : ℕ) (h : is_blank c ≡ true) where
  pub gap_stands : {t : Term} {a b : Text} → Stands whole t a b → Stands whole t (c ∷ a) b
  gap_stands (identifier r t) = identifier r (behind_gap c h t)
  gap_stands (boolean v t) = boolean v (behind_gap c h t)
  gap_stands (numeric t) = numeric (behind_gap c h t)
  gap_stands (string_literal t) = string_literal (behind_gap c h t)
  gap_stands (parenthesized t es u) = parenthesized (behind_gap c h t) es u
  gap_stands (call l s t g u) = call l (gap_stands s) t g u
  gap_stands (member l s t u) = member l (gap_stands s) t u
  gap_stands (await_expression l t s) = await_expression l (behind_gap c h t) s
  gap_stands (array t g u) = array (behind_gap c h t) g u
  gap_stands (object t g u) = object (behind_gap c h t) g u

  pub gap_listed : {es : List Term} {a b : Text} → Listed whole es a b → Listed whole es (c ∷ a) b
  gap_listed (last l s) = last l (gap_stands s)
  gap_listed (and l s t es) = and l (gap_stands s) t es

  pub gap_names : {xs : List Text} {a b : Text} → Names whole xs a b → Names whole xs (c ∷ a) b
  gap_names (last_name r t) = last_name r (behind_gap c h t)
  gap_names (and_name r t u xs) = and_name r (behind_gap c h t) u xs

  pub gap_property : {p : Term} {a b : Text} → Property whole p a b → Property whole p (c ∷ a) b
  gap_property (init l t u s) = init l (behind_gap c h t) u s
  gap_property (method t u ps v b) = method (behind_gap c h t) u ps v b

  pub gap_declaration : {s : Term} {a b : Text} → Declaration whole s a b → Declaration whole s (c ∷ a) b
  gap_declaration (constant r l t u v s w) = constant r l (behind_gap c h t) u v s w
  gap_declaration (function r t u v ps w b) = function r (behind_gap c h t) u v ps w b

  opens_behind : (a : Text) → opens_otherwise (c ∷ a) ≡ opens_otherwise a
  opens_behind a = rw h refl

  pub gap_statement : {s : Term} {a b : Text} → Statement whole s a b → Statement whole s (c ∷ a) b
  gap_statement (declaration d) = declaration (gap_declaration d)
  gap_statement (returns t n es u) = returns (behind_gap c h t) n es u
  gap_statement {a = a} (expression o n es t) = expression (opens_behind a ∙ o) n (gap_listed es) t

  pub gap_specifier : {s : Term} {a b : Text} → Specifier whole s a b → Specifier whole s (c ∷ a) b
  gap_specifier (renamed r t u v) = renamed r (behind_gap c h t) u v
  gap_specifier (unrenamed r t) = unrenamed r (behind_gap c h t)

  pub gap_item : {s : Term} {a b : Text} → Item whole s a b → Item whole s (c ∷ a) b
  gap_item (statement s) = statement (gap_statement s)
  gap_item (imports t u ss v w x y) = imports (behind_gap c h t) u ss v w x y
  gap_item (exports t d) = exports (behind_gap c h t) d
