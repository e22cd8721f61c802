-- The lines that are written: compact JSON with its members in the order of their names, and a line feed.
use Rattle.std.specs.Prelude.{◌≡◌, List, [], ◌∷◌, ◌++◌, map, codes, Option, Some, None, string_bytes}
use Rattle.js_term.specs.Term.{Text}
use Rattle.serde_json.specs.Data.{Data, string, array, object, member, no_members}
use Rattle.serde_json.specs.View.{items_of}
use Rattle.serde_json.specs.Written.{compact_text}
use Rattle.prepare_program.specs.declared.fault.Fault.{Fault}
use Rattle.prepare_program.specs.declared.fault.Fault.TheVariants as rust
use Rattle.prepare_program.specs.Request.{Asked, for_module, request}
use Rattle.prepare_program.specs.Prepared.{IsReadable, IsUnreadable, IsPrepared}

abbrev pub line : Data → Text
line value = compact_text value ++ 10 ∷ []

abbrev pub texts : List Text → Data
texts all = array (items_of (map string all))

-- what is written of a module that was prepared
abbrev pub report : Text → List Text → List Text → Data
report module_text deps dynamic_deps = object (member (codes "deps") (texts deps)
    (member (codes "dynamicDeps") (texts dynamic_deps)
    (member (codes "module") (string module_text) no_members)))

-- why a request is refused
pub data Reason : Type 0 where
  not_json : Reason
  -- with the name of the first wrong member
  bad_request : Text → Reason
  unread : Reason

abbrev pub fault_value : Reason → Data
fault_value not_json = object (member (codes "fault") (string (codes "NotJson")) no_members)
fault_value (bad_request key) = object (member (codes "fault") (string (codes "BadRequest"))
    (member (codes "key") (string key) no_members))
fault_value unread = object (member (codes "fault") (string (codes "Unread")) no_members)

-- The reason has its cause in these bytes: they are no JSON text, or they are no request, or the module text that
-- they ask for spells no module that is read. No two of these hold of the same bytes.
abbrev pub IsCaused : Text → Reason → Type 0
IsCaused bytes not_json = request bytes ≡ Asked.not_json
IsCaused bytes (bad_request key) = request bytes ≡ Asked.bad_request key
IsCaused bytes unread = (text : Text) × (request bytes ≡ for_module text) × IsUnreadable text

-- there is a reason to refuse the request
abbrev pub HasReason : Text → Type 0
HasReason bytes = (reason : Reason) × IsCaused bytes reason

-- the bytes ask for a module that is read
abbrev pub IsForReadable : Text → Type 0
IsForReadable bytes = (text : Text) × (request bytes ≡ for_module text) × IsReadable text

-- the line reports what becomes of the module that these bytes ask for
pub record Reports (bytes written : Text) : Type 0 where
  pub text : Text
  pub asked : request bytes ≡ for_module text
  pub module_text : Text
  pub deps : List Text
  pub dynamic_deps : List Text
  pub prepared : IsPrepared text module_text deps dynamic_deps
  pub line_is : written ≡ line (report module_text deps dynamic_deps)

-- The line names the one reason that has its cause in these bytes. So it is the first of them, in any order.
pub record Refuses (bytes written : Text) : Type 0 where
  pub reason : Reason
  pub caused : IsCaused bytes reason
  pub only : (other : Reason) → IsCaused bytes other → other ≡ reason
  pub line_is : written ≡ line (fault_value reason)

-- the reason that a fault of the program stands for; want of memory is none
abbrev pub told : Fault → Option Reason
told rust.NotJson = Some not_json
told (rust.BadRequest key) = Some (bad_request (string_bytes key))
told rust.Unread = Some unread
told rust.NoMemory = None
