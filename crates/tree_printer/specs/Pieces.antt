-- The pieces of a row, as the code has them.
use Rattle.std.specs.Prelude.{List, [], ◌∷◌, ◌++◌, take, drop, codes}
use Rattle.js_term.specs.Term.{Text}
use Rattle.js_tree.specs.Words.{flags_word}
use Rattle.print_layout.specs.Rows as rows
use Rattle.print_layout.specs.Rows.{quoted, line}
use Rattle.print_layout.specs.Layout.{Printed, part_at, separated, template}
use Rattle.tree_printer.specs.declared.piece.Piece.{Piece}
use Rattle.tree_printer.specs.declared.piece.Piece.TheVariants as piece

abbrev pub piece_of : Piece → List rows.Piece
piece_of piece.Nothing = []
piece_of (piece.Say x) = rows.say x.now ∷ []
piece_of (piece.Quoted x) = rows.say (quoted x.now) ∷ []
piece_of (piece.Hashbang x) = rows.say (codes "#!" ++ (x.now ++ line)) ∷ []
piece_of (piece.Flags flags) = rows.say (flags_word flags) ∷ []
piece_of (piece.Part k) = rows.part k ∷ []
piece_of (piece.Each separator k) = rows.each separator.now k ∷ []
piece_of (piece.Heads m separator k) = rows.heads m separator.now k ∷ []
piece_of (piece.Past m separator k) = rows.past m separator.now k ∷ []
piece_of (piece.Woven m k) = rows.woven m k ∷ []

abbrev pub pieces_of : List Piece → List rows.Piece
pieces_of [] = []
pieces_of (p ∷ ps) = piece_of p ++ pieces_of ps

-- the text of one piece, by the texts of the parts
abbrev pub said : Piece → List Printed → Text
said piece.Nothing rs = []
said (piece.Say x) rs = x.now
said (piece.Quoted x) rs = quoted x.now
said (piece.Hashbang x) rs = codes "#!" ++ (x.now ++ line)
said (piece.Flags flags) rs = flags_word flags
said (piece.Part k) rs = (part_at k rs).whole
said (piece.Each separator k) rs = separated separator.now (part_at k rs).items
said (piece.Heads m separator k) rs = separated separator.now (take m (part_at k rs).items)
said (piece.Past m separator k) rs = separated separator.now (drop m (part_at k rs).items)
said (piece.Woven m k) rs = template (part_at m rs).items (part_at k rs).items
