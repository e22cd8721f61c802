use Rattle.std.proofs.Common.{◌≡◌, take}
use Rattle.js_tree.proofs.+copy.Given as goal

abbrev pub invariant-copy::copy_all-loop-part : goal.invariant-copy::copy_all-loop-part
invariant-copy::copy_all-loop-part l = l.copies ≡ take l.part-index l.parts
