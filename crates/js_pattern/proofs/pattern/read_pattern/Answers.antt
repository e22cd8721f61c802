use Rattle.std.proofs.Common.{ap, ◌∙◌}
use Rattle.std.specs.Str.{chars}
use Rattle.js_pattern.specs.Patterns as spec
use Rattle.js_pattern.specs.Scan.{scan}
use Rattle.js_pattern.proofs.Reading.{read_is_pattern, pattern_is_read}
use Rattle.js_pattern.proofs.pattern.read_pattern.Goals as goal

pub returns-clause-read : goal.returns-clause-read
returns-clause-read c =
    read_is_pattern (spec.mode_of c.args.flags) (chars c.args.text.now) c.scan.result (c.scan.ensures.scan ∙ ap (λ m. scan m (chars c.args.text.now)) c.mode_of.ensures)

pub returns-clause-pattern : goal.returns-clause-pattern
returns-clause-pattern c =
    pattern_is_read (spec.mode_of c.args.flags) (chars c.args.text.now) c.scan.result (c.scan.ensures.scan ∙ ap (λ m. scan m (chars c.args.text.now)) c.mode_of.ensures)
