-- Texts that spell no module, and rules where the tables say no. The law `refuted_texts` says that each of these holds.
use Rattle.std.specs.Prelude.{◌≡◌, ℕ, [], ◌∷◌, Bool, true, false, codes}
use Rattle.js_term.specs.Term.{Text, Term, Terms, none, one, two}
use Rattle.js_term.specs.declared.kind.Kind.TheVariants as Kind
use Rattle.js_term.specs.Node.{identifier_of}
use Rattle.js_syntax.specs.Lexical.{has_byte, has_any}
use Rattle.js_syntax.specs.Nodes.{marked, call_link, new_of}
use Rattle.js_syntax.specs.Tokens.{sign, regexp, word}
use Rattle.js_syntax.specs.Edges.{full, updated, accessor, goes_on_with, is_simple_target}
use Rattle.js_syntax.specs.Spelling.{Stands}
use Rattle.js_syntax.specs.Modules.{Spells}

pub record Refuted : Type 0 where
  -- no item of a module begins with one of these
  pub a_wrong_front : (c : ℕ) (rest : Text) (t : Term) → has_byte (codes ")]},:=?*%<>&|^@\\") c ≡ true → Spells (c ∷ rest) t → ⊥
  -- no quote ends the string, and nothing ends the comment
  pub an_open_string : (rest : Text) (t : Term) → has_byte rest 39 ≡ false → Spells (39 ∷ rest) t → ⊥
  pub an_open_comment : (rest : Text) (t : Term) → has_any (codes "*/" ∷ []) rest ≡ false → Spells (47 ∷ 42 ∷ rest) t → ⊥
  pub no_digits : (t : Term) → Spells (codes "0x") t → ⊥
  -- without parentheses no text spells a power of -a, an `||` of an `??`, an `??` of an `||`, a `new` of a call
  pub a_power_of_a_sign : {i : Bool} {n : ℕ} {op : Text} {l r : Term} {a b : Text} → Stands i n (marked Kind.BinaryExpression (codes "**") (two (marked Kind.UnaryExpression op (one l)) r)) a b → ⊥
  pub an_or_of_a_coalescing : {i : Bool} {n : ℕ} {r : Term} {ts : Terms} {a b : Text} → Stands i n (marked Kind.LogicalExpression (codes "||") (two (marked Kind.LogicalExpression (codes "??") ts) r)) a b → ⊥
  pub a_coalescing_of_an_or : {i : Bool} {n : ℕ} {r : Term} {ts : Terms} {a b : Text} → Stands i n (marked Kind.LogicalExpression (codes "??") (two (marked Kind.LogicalExpression (codes "||") ts) r)) a b → ⊥
  pub a_new_of_a_call : {i : Bool} {n : ℕ} {f : Term} {es ts : Terms} {a b : Text} → Stands i n (new_of (call_link false f es) ts) a b → ⊥
  -- between `a` and `(b)` on the next line no semicolon is left out, nor between `a` and `/b/`; between `a++` and `(b)` it is
  pub a_call_goes_on : goes_on_with full (sign (codes "(")) ≡ true
  pub a_division_goes_on : goes_on_with full (regexp (codes "b") []) ≡ true
  pub no_call_of_an_update : goes_on_with updated (sign (codes "(")) ≡ false
  pub an_update_ends : goes_on_with full (sign (codes "++")) ≡ false
  pub a_key_goes_on : goes_on_with accessor (word (codes "x")) ≡ true
  pub no_generator_behind_get : goes_on_with accessor (sign (codes "*")) ≡ false
  -- f() = a
  pub no_call_is_a_target : is_simple_target (call_link false (identifier_of (codes "f")) none) ≡ false
