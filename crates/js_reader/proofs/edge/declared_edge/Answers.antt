use Rattle.std.proofs.Common.{◌∙◌}
use Rattle.js_reader.proofs.Edges.{declared_last}
use Rattle.js_reader.proofs.edge.declared_edge.Goals as goal

pub returns-in-len1-up : goal.returns-in-len1-up
returns-in-len1-up c = c.declarator_edge.ensures ∙ declared_last _ c.last-item.result c.in-len1-up.len_at_least c.last-item.is
