use Rattle.std.proofs.Common.{length}
use Rattle.module_tree.proofs.letters.+are_those_of.Given as goal

abbrev pub decreases-are_those_of : goal.decreases-are_those_of
decreases-are_those_of l = length l.letters.now
