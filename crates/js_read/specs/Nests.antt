-- A function value that reads expressions, or statements, to a depth.
use Rattle.std.specs.Prelude.{◌≤◌, ◌<◌, ◌^◌, ℕ, ◌+◌, List, Result, IfOk, map}
use Rattle.std.specs.declared.alloc.Global.{Global}
use denote.Ref.{MutBor}
use Rattle.js_term.specs.Term.{Text, Term}
use Rattle.small_tree.specs.TermOf.{expression_term, statement_term}
use Rattle.small_tree.specs.declared.statement.Statement.{Statement}
use Rattle.small_tree.specs.declared.function.FunctionBody.{FunctionBody}
use Rattle.small_tree.specs.declared.function.FormalParameter.{FormalParameter}
use Rattle.small_tree.specs.declared.function.FormalParameters.{FormalParameters}
use Rattle.small_tree.specs.declared.function.BindingPattern.{BindingPattern}
use Rattle.small_tree.specs.declared.function.BindingPattern.TheVariants as pattern
use Rattle.js_read.specs.declared.found.Found.{Found}
use Rattle.js_read.specs.declared.found.Listing.{Listing}
use Rattle.js_read.specs.declared.fault.Halt.{Halt}
use Rattle.js_read.specs.Gives.{Reads}
use Rattle.js_read.specs.Read.{read, statement}

abbrev pub tree : Found → Term
tree f = expression_term f.tree

abbrev pub listing : Listing → List Term
listing l = map expression_term l.items

pub record Nests (depth : ℕ) (pre : Global → MutBor Text → ℕ → Type 0)
    (post : Global → MutBor Text → ℕ → Result Found Halt → MutBor Text → Type 0) : Type 0 where
  pub small : depth < 2 ^ 16
  pub callable : (alloc : Global) (old : MutBor Text) → pre alloc old depth
  pub reads : (alloc : Global) (old new : MutBor Text) (r : Result Found Halt) → post alloc old depth r new
      → Reads tree (read depth old.now) r new.now
  pub flat : (alloc : Global) (old new : MutBor Text) (r : Result Found Halt) → post alloc old depth r new
      → IfOk r (λ f. f.depth ≤ depth)

abbrev pub statements_of : FunctionBody Statement → List Term
statements_of b = map statement_term b.statements

abbrev pub pattern_name : BindingPattern → Text
pattern_name (pattern.BindingIdentifier n) = n.name

abbrev pub parameter_name : FormalParameter BindingPattern → Text
parameter_name n = pattern_name n.pattern

abbrev pub parameter_names : FormalParameters BindingPattern → List Text
parameter_names n = map parameter_name n.items

-- the same of a function value that reads statements
pub record Holds (depth : ℕ) (pre : Global → MutBor Text → ℕ → Type 0)
    (post : Global → MutBor Text → ℕ → Result Statement Halt → MutBor Text → Type 0) : Type 0 where
  pub small : depth + 1 < 2 ^ 16
  pub callable : (alloc : Global) (old : MutBor Text) → pre alloc old depth
  pub reads : (alloc : Global) (old new : MutBor Text) (r : Result Statement Halt) → post alloc old depth r new
      → Reads statement_term (statement depth old.now) r new.now
