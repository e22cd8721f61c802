-- How the text of a part ends.
use Rattle.std.specs.Prelude.{Option, None, Some}
use Rattle.js_term.specs.Term.{Terms}
use Rattle.js_syntax.specs.Edges as syntax
use Rattle.js_reader.specs.declared.edge.Edge as code
use Rattle.js_reader.specs.declared.edge.Edge.TheVariants as edge

abbrev pub edge_of : code.Edge → syntax.Edge
edge_of edge.Full = syntax.full
edge_of edge.Updated = syntax.updated
edge_of edge.Loose = syntax.loose
edge_of edge.Exports = syntax.exports
edge_of edge.Accessor = syntax.accessor
edge_of edge.Static = syntax.static
edge_of edge.Plain = syntax.plain

-- an edge, or else that of the last of these parts
abbrev pub edge_in : Option code.Edge → Terms → syntax.Edge
edge_in (Some e) ts = edge_of e
edge_in None ts = syntax.edge_last ts
