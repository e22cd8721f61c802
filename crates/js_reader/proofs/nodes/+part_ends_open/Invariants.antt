use Rattle.js_reader.specs.NodeParts.{size_in}
use Rattle.js_reader.proofs.nodes.+part_ends_open.Given as goal

abbrev pub decreases-part_ends_open : goal.decreases-part_ends_open
decreases-part_ends_open l = size_in l.statement
