-- Names read from their module: `x` becomes `i.x`, and `(0, i.x)` where it is called, so that `this` is not the module.
use Rattle.std.specs.Prelude.{ℕ, zero, List, [], ◌∷◌, Option, None, Some, codes, if◌then◌else◌}
use Rattle.js_term.specs.Term.{Text}
use Rattle.js_term.specs.declared.kind.Kind.TheVariants as Kind
use Rattle.js_tree.specs.Parts.{Top}
use Rattle.js_tree.specs.Tree.{Tree, listed, made}
use Rattle.js_tree.specs.declared.node.Form.{Form}
use Rattle.js_tree.specs.declared.node.Form.TheVariants as form
use Rattle.tree_rewrite.specs.Rewritten.{replaced}
use Rattle.tree_tests.specs.Names.{name_at, has}
use Rattle.tree_tests.specs.declared.reading.Standing.{Standing}

-- i.x
abbrev pub member : Text → Text → Tree
member i x = made Kind.StaticMemberExpression ([] ∷ []) (made Kind.Identifier (i ∷ []) [] ∷ made Kind.IdentifierName (x ∷ []) [] ∷ [])

-- (0, t)
abbrev pub detached : Tree → Tree
detached t = made Kind.SequenceExpression [] (listed (made Kind.NumericLiteral (codes "0" ∷ []) [] ∷ t ∷ []) ∷ [])

abbrev pub read_from : Text → Text → Standing → Tree
read_from i x Standing.Plain = member i x
read_from i x Standing.Callee = detached (member i x)

abbrev pub part_standing : Form → ℕ → Standing
part_standing (form.Node Kind.CallExpression) zero = Standing.Callee
part_standing f k = Standing.Plain

abbrev pub inside : Standing → Top → ℕ → Standing
inside p t k = part_standing t.form k

abbrev pub read_name : List Text → Text → Standing → Option Text → Option Tree
read_name names i p None = None
read_name names i p (Some x) = if has names x then Some (read_from i x p) else None

abbrev pub read : List Text → Text → Standing → Tree → Tree
read names i = replaced (λ p t. read_name names i p (name_at t)) inside (λ p t. t)
