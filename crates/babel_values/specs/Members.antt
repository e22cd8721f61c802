-- Members of an object, which may be absent.
use Rattle.std.specs.Prelude.{ℕ, List, Bool, true, ◌||◌, Option, None, Some, is_some, option_and_then, unwrap_or}
use Rattle.serde_json.specs.Data.{Data}
use Rattle.serde_json.specs.Find.{as_bool, as_null, as_str}

abbrev pub is_absent_or : (Data → Bool) → Option Data → Bool
is_absent_or test None = true
is_absent_or test (Some value) = test value

abbrev pub is_text : Option Data → Bool
is_text = is_absent_or (λ value. is_some (as_str value))

abbrev pub is_text_or_null : Option Data → Bool
is_text_or_null = is_absent_or (λ value. is_some (as_str value) || is_some (as_null value))

abbrev pub is_flag : Option Data → Bool
is_flag = is_absent_or (λ value. is_some (as_bool value))

abbrev pub is_flag_or_null : Option Data → Bool
is_flag_or_null = is_absent_or (λ value. is_some (as_bool value) || is_some (as_null value))

abbrev pub flag : Bool → Option Data → Bool
flag default member = unwrap_or (option_and_then as_bool member) default

abbrev pub text : Option Data → Option (List ℕ)
text member = option_and_then as_str member
