-- What a view of a term tells of its form, and the size by which a walk over it ends.
use Rattle.std.specs.Prelude.{◌≡◌, ℕ, zero, suc, ◌+◌}
use Rattle.js_term.specs.Term.{Term, absent, list, node, Terms, none, more}
use Rattle.js_syntax.specs.Parts.{texts_of, parts_of}
use Rattle.js_rules.specs.declared.view.Form.{Form}
use Rattle.js_rules.specs.declared.view.Form.TheVariants as form

abbrev pub HasForm : Form → Term → Type 0
HasForm form.Absent t = t ≡ absent
HasForm form.List t = t ≡ list (parts_of t)
HasForm (form.Node k) t = t ≡ node k (texts_of t) (parts_of t)

abbrev mutual
  pub size : Term → ℕ
  size absent = 0
  size (list ts) = suc (sizes ts)
  size (node k texts ts) = suc (sizes ts)

  pub sizes : Terms → ℕ
  sizes none = 0
  sizes (more t ts) = suc (size t + sizes ts)

-- the parts from the one numbered n on
abbrev pub from : ℕ → Terms → Terms
from zero ts = ts
from (suc n) none = none
from (suc n) (more t ts) = from n ts
