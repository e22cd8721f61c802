-- What a request is, from what a reader of JSON says of its bytes.
use Rattle.std.proofs.Common.{◌≡◌, ℕ, List, true, false, cond, refl, ap, Some, None}
use Rattle.std.specs.Str.{is_utf8, IsUtf8}
use Rattle.std.proofs.lemmas.Str.{IsUtf8-from_is_utf8, is_utf8-from_IsUtf8}
use Rattle.serde_json.specs.Data.{Data}
use Rattle.serde_json.specs.Read.{read}
use Rattle.prepare_program.specs.Request.{not_json, request, asked_of, asked_if_read}

pub request_read : (bytes : List ℕ) (value : Data) → IsUtf8 bytes → read bytes ≡ Some value → request bytes ≡ asked_of value
unfolding request
request_read bytes value utf8 has = rw (is_utf8-from_IsUtf8 bytes utf8) (ap asked_if_read has)

pub request_unread : (bytes : List ℕ) → (IsUtf8 bytes → read bytes ≡ None) → request bytes ≡ not_json
unfolding request
request_unread bytes none =
    elim (is_utf8 bytes) as (λ b. is_utf8 bytes ≡ b → cond b (asked_if_read (read bytes)) not_json ≡ not_json)
    [ true ↦ λ e. ap asked_if_read (none (IsUtf8-from_is_utf8 bytes e)) | false ↦ λ e. refl ] refl
