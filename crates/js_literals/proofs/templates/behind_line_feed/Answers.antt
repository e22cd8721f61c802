use Rattle.std.proofs.Common.{None, arith}
use Rattle.std.proofs.lemmas.Str.Pattern.{strip_prefix_char}
use Rattle.js_literals.proofs.Lines.{no_feed}
use Rattle.js_literals.proofs.templates.behind_line_feed.Goals as goal

pub returns-in-None : goal.returns-in-None
returns-in-None c = no_feed c.args.text.now (strip_prefix_char 10 c.args.text.now None c.in-None.ensures.cases (omega arith))
