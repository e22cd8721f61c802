use Rattle.std.proofs.Common.{◌∙◌, sym, arith}
use Rattle.js_reader.proofs.Edges.{last_is_smaller, edge_of_last}
use Rattle.js_reader.proofs.edge.+right_edge.Goals as goal

pub right_edge-requires : goal.right_edge-requires
right_edge-requires t c =
    let lighter = last_is_smaller c.args.node.now c.last-item.result c.kids.result.now c.kids.ensures c.in-len1-up.len_at_least c.last-item.is in
    (omega (arith, lighter, c.decreases), tt)

pub returns-in-len1-up : goal.returns-in-len1-up
returns-in-len1-up t c = c.right_edge.ensures ∙ sym (edge_of_last _ c.last-item.result c.kids.result.now c.kids.ensures c.in-len1-up.len_at_least c.last-item.is) ∙ sym c.in-None.ensures
