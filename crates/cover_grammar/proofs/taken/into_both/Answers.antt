use Rattle.std.proofs.Common.{arith}
use Rattle.cover_grammar.proofs.Parting.{as_many, both_are}
use Rattle.cover_grammar.proofs.taken.into_both.Goals as goal

pub replace_kid-second-requires : goal.replace_kid-second-requires
replace_kid-second-requires c = omega (arith, as_many _ _ _ _ c.replace_kid-first.ensures.kept)

pub returns : goal.returns
returns c = both_are _ _ _ _ _ (omega arith) c.replace_kid-first.ensures.given c.replace_kid-first.ensures.kept c.replace_kid-second.ensures.given
