-- The names of a set.
use Rattle.std.specs.Prelude.{Bool}
use Rattle.std.specs.BTreeSet.{BTreeSet, contains}
use Rattle.std.specs.Cmp.Lexicographic.{slice_cmp}
use Rattle.std.specs.Ordering.{nat_cmp}
use Rattle.js_term.specs.Term.{Text}

abbrev pub has : BTreeSet Text → Text → Bool
has = contains (slice_cmp nat_cmp)
