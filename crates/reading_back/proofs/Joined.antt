-- The text spells the module with its parentheses, and what is spelled is read.
use Rattle.std.proofs.Common.{◌≤◌}
use Rattle.js_term.specs.Term.{Term, depth}
use Rattle.js_reading.proofs.ModulesThere.{IsReadModule, spells_read}
use Rattle.print_layout.specs.Layout.{module_text, module_tree}
use Rattle.print_spelling.proofs.Program.{printed_modules}
use Rattle.reading_back.specs.Laws.{IsReadBack, PrintedIsRead}

read_back : (t : Term) → IsReadModule (module_tree t) (module_text t) → depth (module_tree t) ≤ 512 → IsReadBack t
read_back t r fits = record {
  hashbang = r.hashbang;
  directives = r.directives;
  items = r.statements;
  whole = r.whole;
  reads = record { behind = r.behind; rest = r.rest; opened = r.opened; reads = r.reads fits };
}

pub printed_is_read : PrintedIsRead
printed_is_read = record { read = λ t printable u fits. read_back t (spells_read (printed_modules.spelled t printable) u) fits }
