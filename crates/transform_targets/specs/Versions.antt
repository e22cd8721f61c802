-- The order of versions: by their three numbers, the first that differs decides.
use Rattle.std.specs.Prelude.{Bool, ◌==◌, nat_lt, if◌then◌else◌}
use Rattle.transform_targets.specs.declared.version.Version.{Version}

abbrev pub is_below : Version → Version → Bool
is_below a b = if a.major == b.major
    then (if a.minor == b.minor then nat_lt a.patch b.patch else nat_lt a.minor b.minor)
    else nat_lt a.major b.major
