-- The first name that is not listed, of a map's keys in turn.
use Rattle.std.proofs.Common.{◌≡◌, ℕ, List, [], ◌∷◌, map, refl, ap, String, Global, string_bytes, Some, None}
use Rattle.std.specs.Prelude.{Option, if◌then◌else◌}
use Rattle.serde_json.specs.View.{members_view}
use Rattle.serde_json.specs.declared.value.Value.{Value}
use Rattle.prepare_program.specs.Request.{is_listed, first_unlisted}

abbrev pub first_name : List (String Global) → Option (List ℕ)
first_name [] = None
first_name (name ∷ names) = if is_listed (string_bytes name) then first_name names else Some (string_bytes name)

pub first_name-entries : (entries : List (String Global × Value)) → first_name (map (λ e. e.0) entries) ≡ first_unlisted (members_view entries)
first_name-entries [] = refl
first_name-entries (e ∷ entries) = ap (λ r. if is_listed (string_bytes e.0) then r else Some (string_bytes e.0)) (first_name-entries entries)
