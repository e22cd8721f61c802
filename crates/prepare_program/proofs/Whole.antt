-- The values that are written have no float, so their text is stated.
use Rattle.std.proofs.Common.{◌≡◌, List, [], ◌∷◌, false, refl, ap, ◌∙◌}
use Rattle.std.specs.Prelude.{◌||◌}
use Rattle.js_term.specs.Term.{Text}
use Rattle.serde_json.specs.Written.{has_float}
use Rattle.prepare_program.specs.Report.{texts, report, Reason, not_json, bad_request, unread, fault_value}

texts_are_whole : (all : List Text) → has_float (texts all) ≡ false
texts_are_whole [] = refl
texts_are_whole (text ∷ all) = texts_are_whole all

pub report_is_whole : (text : Text) (deps dynamic_deps : List Text) → has_float (report text deps dynamic_deps) ≡ false
report_is_whole text deps dynamic_deps =
    ap (λ b. b || (has_float (texts dynamic_deps) || false)) (texts_are_whole deps) ∙ ap (λ b. b || false) (texts_are_whole dynamic_deps)

pub fault_is_whole : (reason : Reason) → has_float (fault_value reason) ≡ false
fault_is_whole not_json = refl
fault_is_whole (bad_request key) = refl
fault_is_whole unread = refl
