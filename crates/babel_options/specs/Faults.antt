-- What is shown of a refusal.
use Rattle.std.specs.Prelude.{List, ℕ, ◌++◌, codes}
use Rattle.std.specs.List.{flat_map}
use Rattle.babel_options.specs.declared.fault.OptionsFault.{OptionsFault}
use Rattle.babel_options.specs.declared.fault.OptionsFault.TheVariants.{Refused, NoMemory}

abbrev pub listed : List ℕ → List ℕ
listed error = codes "; " ++ error

abbrev pub message : OptionsFault → List ℕ
message (Refused errors) = codes "the options are refused" ++ flat_map listed errors.items
message NoMemory = codes "out of memory"
