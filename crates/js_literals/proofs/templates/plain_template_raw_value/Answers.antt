use Rattle.std.proofs.Common.{◌∙◌, ap, sym}
use Rattle.std.specs.List.{list_all}
use Rattle.js_syntax.specs.Lexical.{is_no_return}
use Rattle.js_literals.proofs.Lines.{plain_lines}
use Rattle.js_literals.proofs.templates.plain_template_raw_value.Goals as goal

pub returns-clause-value : goal.returns-clause-value
returns-clause-value c = plain_lines c.args.characters.now (ap (list_all is_no_return) (sym c.as_bytes.ensures.value) ∙ sym c.if-not-has_no_return.ensures)
