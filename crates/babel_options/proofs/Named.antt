-- Targets that were read are those that the words name.
use Rattle.std.proofs.Common.{◌≡◌, ◌≢◌, Result, Ok, Err, IfOk, IfErr, ap, sym}
use Rattle.std.specs.Result.{result_ok}
use Rattle.transform_targets.specs.declared.engine_targets.EngineTargets.{EngineTargets}
use Rattle.transform_targets.specs.declared.target_fault.TargetFault.{TargetFault}
use Rattle.transform_targets.specs.declared.target_fault.TargetFault.TheVariants.{NoMemory}
use Rattle.transform_targets.specs.Words.{IsFaultOf}

pub known : (expected named : Result EngineTargets TargetFault) → IfOk named (λ targets. expected ≡ Ok targets)
    → IfErr named (IsFaultOf expected) → named ≢ Err NoMemory → result_ok named ≡ result_ok expected
known expected (Ok targets) made refused remembered = ap result_ok (sym made)
known expected (Err fault) made refused remembered = ap result_ok (sym (refused (λ none. remembered (ap Err none))))
