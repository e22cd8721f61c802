-- The modules that a module asks for, as a sorted list without repeats.
use Rattle.std.specs.Prelude.{◌↔◌, List, Contains}
use Rattle.std.specs.List.Sorted.{IsStrictlySortedBy}
use Rattle.std.specs.Cmp.Lexicographic.{slice_cmp}
use Rattle.std.specs.Ordering.{nat_cmp}
use Rattle.js_term.specs.Term.{Text}

pub record AreDeps (sources deps : List Text) : Type 0 where
  -- each before the next, by bytes
  pub ascending : IsStrictlySortedBy (slice_cmp nat_cmp) deps
  pub same : (x : Text) → Contains deps x ↔ Contains sources x
