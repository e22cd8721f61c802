-- Which module texts can be prepared, and what the module text read, the module text written and the two lists of
-- sources have to do with each other.
use Rattle.std.specs.Prelude.{◌≡◌, ◌≤◌, List, [], true, Some}
use Rattle.js_term.specs.Term.{Text, Term, depth}
use Rattle.js_term.specs.Lexeme.{Manner}
use Rattle.js_term.specs.Form.{is_small}
use Rattle.js_term.specs.Spells.{Spells}
use Rattle.module_model.specs.Meaning.{meaning, sources_of}
use Rattle.module_model.specs.ReadBack.{read_back}
use Rattle.module_model.specs.Deps.{AreDeps}

-- the text spells a small module that is not nested too deep
pub record IsReadable (text : Text) : Type 0 where
  pub module_read : Term
  pub spelled : Spells Manner.narrow text module_read
  pub small : is_small module_read ≡ true
  pub shallow : depth module_read ≤ 512

-- the text spells no such module
abbrev pub IsUnreadable : Text → Type 0
IsUnreadable text = (t : Term) → Spells Manner.narrow text t → is_small t ≡ true → depth t ≤ 512 → ⊥

pub record IsPrepared (text written : Text) (deps dynamic_deps : List Text) : Type 0 where
  -- the text spells a small module, not nested too deep
  pub module_read : Term
  pub spelled : Spells Manner.narrow text module_read
  pub small : is_small module_read ≡ true
  pub shallow : depth module_read ≤ 512
  -- what is written spells a module of calls of the module runner that means the same
  pub module_written : Term
  pub written_spelled : Spells Manner.whole written module_written
  pub means : read_back module_written ≡ Some (meaning module_read)
  -- the sources of the requests; none of small modules is dynamic
  pub deps_are : AreDeps (sources_of (meaning module_read).requests) deps
  pub dynamic_deps_are : dynamic_deps ≡ []
