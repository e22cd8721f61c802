use Rattle.std.proofs.Common.{◌≤◌, ◌∙◌, ap, length, arith}
use Rattle.std.proofs.lemmas.List.{take_all}
use Rattle.js_term.specs.Node.{array_of}
use Rattle.prepare_core.proofs.forms.names_array.Goals as goal

pub returns : goal.returns
returns c =
    let h : length c.args.imported.now ≤ c.loop-one.one-index = omega arith in
    c.array.ensures ∙ ap array_of (rw (take_all c.loop-one.one-index c.args.imported.now h) at c.loop-one.invariant)
