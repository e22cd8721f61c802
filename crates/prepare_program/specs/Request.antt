-- What a request asks for: one JSON object, whose member `module` is a text, and which has no other.
use Rattle.std.specs.Prelude.{[], Bool, if◌then◌else◌, Option, None, Some, option_and_then, codes}
use Rattle.std.specs.Str.{bytes_eq, is_utf8}
use Rattle.js_term.specs.Term.{Text}
use Rattle.serde_json.specs.Data.{Data, Members, no_members, member}
use Rattle.serde_json.specs.Find.{get, as_str, as_object}
use Rattle.serde_json.specs.Read.{read}

pub data Asked : Type 0 where
  for_module : Text → Asked
  not_json : Asked
  -- with the name of the first wrong member
  bad_request : Text → Asked

-- a member of this name may stand in a request
abbrev pub is_listed : Text → Bool
is_listed name = bytes_eq name (codes "module")

-- the first name by bytes that may not stand there; the members stand in the order of their names
abbrev pub first_unlisted : Members → Option (Text)
first_unlisted no_members = None
first_unlisted (member name value rest) = if is_listed name then first_unlisted rest else Some name

-- a listed member is shown before an unlisted one
abbrev pub asked_with : Option (Text) → Option (Text) → Asked
asked_with None unlisted = bad_request (codes "module")
asked_with (Some text) (Some name) = bad_request name
asked_with (Some text) None = for_module text

abbrev pub asked_in : Option Members → Option (Text) → Asked
asked_in None text = bad_request []
asked_in (Some members) text = asked_with text (first_unlisted members)

abbrev pub asked_of : Data → Asked
asked_of value = asked_in (as_object value) (option_and_then as_str (get (codes "module") value))

abbrev pub asked_if_read : Option Data → Asked
asked_if_read None = not_json
asked_if_read (Some value) = asked_of value

-- what these bytes ask for
unfoldable pub request : Text → Asked
request bytes = if is_utf8 bytes then asked_if_read (read bytes) else not_json
