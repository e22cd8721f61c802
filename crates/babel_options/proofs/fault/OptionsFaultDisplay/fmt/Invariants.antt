use Rattle.std.proofs.Common.{◌++◌, codes, take}
use Rattle.std.specs.Fmt.{HasWritten, IsPlainFormatter}
use Rattle.std.specs.List.{flat_map}
use Rattle.babel_options.specs.Faults.{listed}
use Rattle.babel_options.proofs.fault.OptionsFaultDisplay.fmt.Given as goal

abbrev pub invariant-loop-error : goal.invariant-loop-error
invariant-loop-error g l =
    IsPlainFormatter l.fn.f → HasWritten g.W.Write.write_str_gives l.fn.f (codes "the options are refused" ++ flat_map listed (take l.error-index l.error-items)) l.f
