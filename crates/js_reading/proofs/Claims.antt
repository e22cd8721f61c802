-- What it is that a part is read: the claims on which the productions meet.
use Rattle.std.proofs.Common.{◌≡◌, ◌≤◌, ◌<◌, ℕ, suc, true, List, [], ◌++◌, length, Some, codes}
use Rattle.std.specs.Str.{IsUtf8}
use Rattle.js_term.specs.Term.{Text, Term, all, depth, depths}
use Rattle.js_term.specs.declared.kind.Kind.{Kind}
use Rattle.js_syntax.specs.Tokens.{word}
use Rattle.js_reading.specs.Reading.{sees, same_line}
use Rattle.js_reading.specs.Functions.{function, statements}
use Rattle.js_reading.specs.Literals.{class}
use Rattle.js_reading.specs.Statements.{pattern}
use Rattle.js_reading.specs.Read.{read}
use Rattle.js_reading.proofs.TokensThere.{Seen}

-- a pattern that binds names, whatever follows
pub record IsReadPattern (p : Term) (a b : Text) : Type 0 where
  pub utf8 : IsUtf8 b
  pub shorter : length b < length a
  pub deep : 0 < depth p
  pub reads : (limit : ℕ) → depth p ≤ suc limit → pattern (read limit) a ≡ Some (p, b)

-- how the text of a function begins, up to what stands behind `function`
pub data FunctionOpens : Text → Text → Text → Type 0 where
  plain_function : {a b : Text} → Seen (word (codes "function")) a b → FunctionOpens [] a b
  async_function : {a b c : Text} → Seen (word (codes "async")) a b → same_line b ≡ true → Seen (word (codes "function")) b c → FunctionOpens (codes "async") a c

pub record IsReadFunction (k : Kind) (f : Term) (a b : Text) : Type 0 where
  pub utf8 : IsUtf8 b
  pub shorter : length b < length a
  pub deep : 0 < depth f
  pub async : Text
  pub behind : Text
  pub opens : FunctionOpens async a behind
  pub reads : (limit : ℕ) → depth f ≤ suc limit → function (read limit) k async behind ≡ Some (f, b)

pub record IsReadClass (k : Kind) (c : Term) (a b : Text) : Type 0 where
  pub utf8 : IsUtf8 b
  pub shorter : length b < length a
  pub deep : 0 < depth c
  pub behind : Text
  pub opens : Seen (word (codes "class")) a behind
  pub reads : (limit : ℕ) → depth c ≤ suc limit → class (read limit) k behind ≡ Some (c, b)

-- statements up to a brace
pub record IsReadStatements (ss : List Term) (a b : Text) : Type 0 where
  pub utf8 : IsUtf8 b
  pub short : length b ≤ length a
  pub reads : (limit n : ℕ) (found : List Term) → depths (all ss) ≤ limit → length a ≤ n → sees (codes "}") b ≡ true → statements (read limit) n found a ≡ Some (found ++ ss, b)
