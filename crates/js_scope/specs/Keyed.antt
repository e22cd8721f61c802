-- Entries of a map whose keys are texts, each key as its bytes.
use Rattle.std.specs.Prelude.{List, map}
use Rattle.js_term.specs.Term.{Text}

abbrev pub by_text : {K X : Type 0} → (K → Text) → List (K × X) → List (Text × X)
by_text text entries = map (λ e. (text e.0, e.1)) entries
