-- A module that is read, prepared and printed.
use Rattle.std.proofs.Common.{◌≡◌, ap, ◌∙◌, ◌≤◌, true, List, [], Some}
use Rattle.js_term.specs.Term.{Text, Term, strip, depth}
use Rattle.js_term.specs.Lexeme.{narrow}
use Rattle.js_term.specs.Spells.{Spells}
use Rattle.js_term.specs.Form.{is_small}
use Rattle.module_model.specs.Meaning.{meaning, sources_of}
use Rattle.module_model.specs.ReadBack.{read_back, read_stripped}
use Rattle.module_model.specs.Deps.{AreDeps}
use Rattle.js_print.specs.Layout.{IsPrinted}
use Rattle.prepare_program.specs.Prepared.{IsPrepared}

-- parentheses change nothing of what is read back
pub prepared : (text written : Text) (p q : Term) (deps dynamic_deps : List Text) → Spells narrow text p → is_small p ≡ true → depth p ≤ 512 → read_back q ≡ Some (meaning p) → IsPrinted q written → AreDeps (sources_of (meaning p).requests) deps → dynamic_deps ≡ [] → IsPrepared text written deps dynamic_deps
prepared text written p q deps dynamic_deps r small shallow m w d e = record {
  module_read = p;
  spelled = r;
  small = small;
  shallow = shallow;
  module_written = w.module_written;
  written_spelled = w.spelled;
  means = ap read_stripped w.same ∙ m;
  deps_are = d;
  dynamic_deps_are = e;
}
