-- What the scanner's answer says of the text.
use Rattle.std.proofs.Common.{◌≡◌, Result, Ok, Err, IfOk, sym}
use Rattle.std.specs.Result.{result_ok}
use Rattle.js_pattern.specs.Patterns.{Text, IsPattern}
use Rattle.js_pattern.specs.Scan.{scan}
use Rattle.js_pattern.specs.declared.pattern.Forms.{Forms}
use Rattle.js_pattern.specs.declared.pattern.Mode.{Mode}
use Rattle.js_pattern.proofs.Complete.{complete}
use Rattle.js_pattern.proofs.Sound.{sound}

pub read_is_pattern : {E : Type 0} (m : Mode) (text : Text) (r : Result Forms E) → result_ok r ≡ scan m text → IfOk r (λ forms. IsPattern m text forms)
read_is_pattern m text (Ok forms) h = sound m text forms (sym h)
read_is_pattern m text (Err e) h = tt

pub pattern_is_read : {E : Type 0} (m : Mode) (text : Text) (r : Result Forms E) → result_ok r ≡ scan m text → (forms : Forms) → IsPattern m text forms → r ≡ Ok forms
pattern_is_read m text (Ok found) h forms is = let same = complete m text forms is in cc
pattern_is_read m text (Err e) h forms is = let same = complete m text forms is in cc
