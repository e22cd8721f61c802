-- What is asked twice in a definition may be asked once.
use Rattle.std.proofs.Common.{◌≡◌, refl, Bool, true, false, ◌&&◌}

-- `super` is asked of printable trees, and is the third of the six rules
pub asked_once : (shape chains super exports leave jumps names arguments privates parts : Bool) → (shape && chains) && (exports && leave && super && jumps && names && arguments && privates && parts) ≡ ((shape && chains) && super) && (exports && leave && super && jumps && names && arguments && privates && parts)
asked_once false b s i l j n g p q = refl
asked_once true false s i l j n g p q = refl
asked_once true true true i l j n g p q = refl
asked_once true true false false l j n g p q = refl
asked_once true true false true false j n g p q = refl
asked_once true true false true true j n g p q = refl
