-- A request has one reason to be refused, or none where it asks for a module that is read.
use Rattle.std.proofs.Common.{◌≡◌, refl, subst}
use Rattle.js_term.specs.Term.{Text}
use Rattle.prepare_program.specs.Request.{for_module, request}
use Rattle.prepare_program.specs.Prepared.{IsReadable, IsUnreadable}
use Rattle.prepare_program.specs.Report.{Reason, not_json, bad_request, unread, IsCaused, HasReason, IsForReadable, Reports}

pub reason_is_only : (bytes : Text) (a b : Reason) → IsCaused bytes a → IsCaused bytes b → a ≡ b
reason_is_only bytes not_json not_json h k = refl
reason_is_only bytes not_json (bad_request key) h k = cc (h, k)
reason_is_only bytes not_json unread h k = cc (h, k.1)
reason_is_only bytes (bad_request key) not_json h k = cc (h, k)
reason_is_only bytes (bad_request key) (bad_request other) h k = cc (h, k)
reason_is_only bytes (bad_request key) unread h k = cc (h, k.1)
reason_is_only bytes unread not_json h k = cc (h.1, k)
reason_is_only bytes unread (bad_request key) h k = cc (h.1, k)
reason_is_only bytes unread unread h k = refl

-- a request asks for one text
asked_once : (bytes text other : Text) → request bytes ≡ for_module text → request bytes ≡ for_module other → text ≡ other
asked_once bytes text other h k = cc (h, k)

has_no_reason : (bytes text : Text) → request bytes ≡ for_module text → IsReadable text → (reason : Reason) → IsCaused bytes reason → ⊥
has_no_reason bytes text asked r not_json h = cc (asked, h)
has_no_reason bytes text asked r (bad_request key) h = cc (asked, h)
has_no_reason bytes text asked r unread h =
    subst IsUnreadable (asked_once bytes h.0 text h.1 asked) h.2 r.module_read r.spelled r.small r.shallow

pub readable_has_no_reason : (bytes : Text) → IsForReadable bytes → HasReason bytes → ⊥
readable_has_no_reason bytes r h = has_no_reason bytes r.0 r.1 r.2 h.0 h.1

pub report_is_readable : (bytes written : Text) → Reports bytes written → IsForReadable bytes
report_is_readable bytes written r =
    (r.text, r.asked, record { module_read = r.prepared.module_read; spelled = r.prepared.spelled; small = r.prepared.small; shallow = r.prepared.shallow })
