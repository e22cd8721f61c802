-- How much is still to be freed: a number that falls with each step of a drop.
use Rattle.std.specs.Prelude.{ℕ, suc, ◌+◌, ◌*◌, List, [], ◌∷◌, Option, None, Some, map}
use denote.Param.Weighed.{most}
use Rattle.js_tree.specs.declared.node.Node.{Node, fold-Node, size-Node}

abbrev pub total : List ℕ → ℕ
total [] = 0
total (n ∷ ns) = n + total ns

-- the number of nodes of a tree
unfoldable pub weight : Node → ℕ
weight = fold-Node ℕ (λ n. suc (total n.kids))

abbrev pub weights : List Node → ℕ
weights xs = total (map weight xs)

abbrev pub waiting_weight : Option (List Node) → ℕ
waiting_weight None = 0
waiting_weight (Some xs) = weights xs

-- the nodes that are left count first, then the size of the part that is next
abbrev pub left_to_free : Node → Option (List Node) → ℕ
left_to_free next waiting =
    let w = weight next + waiting_weight waiting in
    w * w + size-Node next

-- the same where the part that is next is opened already: these parts and those that wait, and one above the size of each
abbrev pub left_to_open : List Node → Option (List Node) → ℕ
left_to_open parts waiting =
    let w = suc (weights parts + waiting_weight waiting) in
    w * w + suc (most size-Node parts)
