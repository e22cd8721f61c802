-- Pieces in braces.
use Rattle.std.proofs.Common.{◌≡◌, refl, ◌++◌, List, [], ◌∷◌, Bool, true, false}
use Rattle.print_layout.specs.Rows.{Piece, say, braces}
use Rattle.tree_printer.specs.Printed.{opening, closing}

pub in_braces : (some : Bool) (ps : List Piece) → braces some ps ≡ say (opening some) ∷ (ps ++ say (closing some) ∷ [])
in_braces true ps = refl
in_braces false ps = refl
