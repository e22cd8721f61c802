-- The items of a module, up to its end, are read.
use Rattle.std.proofs.Common.{◌≡◌, ◌≤◌, ◌<◌, ℕ, zero, suc, true, false, List, [], ◌∷◌, ◌++◌, length, Some, sym, ◌∙◌, ap, append_assoc, append-nil, arith}
use Rattle.js_term.specs.Term.{Text, Term}
use Rattle.js_reading.specs.declared.goal.Goal.{Goal}
use Rattle.js_reading.specs.Reading.{Found, Reading, at_end}
use Rattle.js_reading.specs.Modules.{module_item, module_items}

-- items that are read one behind another
pub data ItemsRead (sub : Goal → Text → Reading Found) : List Term → Text → Text → Type 0 where
  no_item_read : {a : Text} → ItemsRead sub [] a a
  next_item_read : {s : Term} {ss : List Term} {a b c : Text} → at_end a ≡ false → length b < length a → module_item sub a ≡ Some (s, b) → ItemsRead sub ss b c → ItemsRead sub (s ∷ ss) a c

pub module_items_read : (sub : Goal → Text → Reading Found) (n : ℕ) (found : List Term) {ss : List Term} {a b : Text} → ItemsRead sub ss a b → length a ≤ n → at_end b ≡ true → module_items sub n found a ≡ Some (found ++ ss, b)
unfolding module_items
module_items_read sub zero found {a = a} no_item_read enough end = rw end (ap (λ ys. Some (ys, a)) (sym (append-nil found)))
module_items_read sub (suc n) found {a = a} no_item_read enough end = rw end (ap (λ ys. Some (ys, a)) (sym (append-nil found)))
module_items_read sub zero found (next_item_read more shorter is rest) enough end = absurd (omega arith)
module_items_read sub (suc n) found {b = b} (next_item_read {s} {ss} more shorter is rest) enough end =
    rw (more, is) (module_items_read sub n (found ++ s ∷ []) rest (omega arith) end ∙ ap (λ ys. Some (ys, b)) (append_assoc found (s ∷ []) ss))
