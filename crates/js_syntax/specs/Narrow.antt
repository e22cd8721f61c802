-- The spelling of small modules is a part of the whole one.
use Rattle.js_term.specs.Term.{Text, Term}
use Rattle.js_term.specs.Lexeme.{Manner}
use Rattle.js_term.specs.Spells as small
use Rattle.js_syntax.specs.Modules.{Spells}

-- What is spelled as a small module, in either manner, is spelled so.
abbrev pub NarrowIsSpelled : Type 0
NarrowIsSpelled = (m : Manner) (text : Text) (t : Term) → small.Spells m text t → Spells text t
