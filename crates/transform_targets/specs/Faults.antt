-- What is shown of a fault.
use Rattle.std.specs.Prelude.{List, ℕ, ◌++◌, codes}
use Rattle.transform_targets.specs.declared.target_fault.TargetFault.{TargetFault}
use Rattle.transform_targets.specs.declared.target_fault.TargetFault.TheVariants.{NoMatch, Version, Duplicate, NoMemory}

abbrev pub message : TargetFault → List ℕ
message (NoMatch word) = codes "no matching target: " ++ word
message (Version word) = codes "invalid version: " ++ word
message (Duplicate word) = codes "duplicate target: " ++ word
message NoMemory = codes "out of memory"
