-- What an answer about the hashbang says, in the words of `js_syntax`.
use Rattle.std.specs.Prelude.{◌≡◌, List, [], ◌∷◌, Option, None, Some, true, false, if◌then◌else◌, codes}
use Rattle.js_term.specs.Term.{Text}
use Rattle.js_syntax.specs.Lexical.{begins, begins_any, line_ends}
use Rattle.js_syntax.specs.Modules as modules
use Rattle.js_syntax.specs.Tokens.{Lexeme, Token, AtEnd}
use Rattle.js_literals.specs.declared.hashbang.Hashbang.{Hashbang}

-- the texts of the program's node, and what is left
abbrev pub texts_of : Option Hashbang → List Text
texts_of None = []
texts_of (Some h) = h.text.now ∷ []

abbrev pub rest_of : Text → Option Hashbang → Text
rest_of text None = text
rest_of text (Some h) = h.rest.now

-- the text from its first line end on
abbrev pub behind_line : Text → Text
behind_line [] = []
behind_line (c ∷ s) = if begins_any line_ends (c ∷ s) then c ∷ s else behind_line s

-- What is found stands at the front, and what stands there is found. Where none is found none begins; and where one begins
-- stand no token and no end, so that a module whose text begins with one has it.
pub record CutsHashbang (text : Text) (texts : List Text) (rest : Text) : Type 0 where
  pub found : modules.Hashbang texts text rest
  pub there : (x b : Text) → modules.Hashbang (x ∷ []) text b → (texts ≡ x ∷ []) × (rest ≡ b)
  pub begins_none : texts ≡ [] → begins (codes "#!") text ≡ false
  pub no_token : begins (codes "#!") text ≡ true → (l : Lexeme) (b : Text) → ¬ (Token text l b)
  pub no_end : begins (codes "#!") text ≡ true → ¬ (AtEnd text)
