use Rattle.js_tokens.proofs.RawStrings.{inner_begins, inner_ends}
use Rattle.js_literals.proofs.strings.characters.Goals as goal

pub range-requires-clause-start_boundary : goal.range-requires-clause-start_boundary
range-requires-clause-start_boundary c _ = inner_begins c.args.raw.now c.utf8.raw c.requires

pub range-requires-clause-end_boundary : goal.range-requires-clause-end_boundary
range-requires-clause-end_boundary c = inner_ends c.args.raw.now c.utf8.raw c.requires
