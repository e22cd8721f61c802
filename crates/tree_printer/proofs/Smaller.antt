-- The parts of a node are smaller than it.
use Rattle.std.proofs.Common.{◌≡◌, ◌<◌, ◌+◌, ◌*◌, List, ap, arith}
use denote.Param.Weighed.{most}
use Rattle.js_tree.specs.Parts.{kids}
use Rattle.js_tree.specs.declared.node.Node.{Node, size-Node}
use Rattle.js_tree.proofs.PartLaws.{kids_are_smaller}

pub parts_fall : (n : Node) (ps : List Node) → ps ≡ kids n → 2 * most size-Node ps + 1 < 2 * size-Node n
parts_fall n ps e =
    let same = ap (most size-Node) e in
    let smaller = kids_are_smaller n in
    omega (arith, same, smaller)
