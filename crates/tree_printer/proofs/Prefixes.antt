-- An update begins with its part where its second text is empty.
use Rattle.std.proofs.Common.{◌≡◌, refl, [], ◌∷◌, ◌++◌, Bool, true, false, not, ◌||◌, nat_eq}
use Rattle.std.specs.Prelude.{bit_and, codes}
use Rattle.js_term.specs.Term.{Text, flag}
use Rattle.js_term.specs.declared.kind.Kind.{Kind}
use Rattle.js_chars.specs.declared.flags.RegExpFlags.{RegExpFlags}
use Rattle.js_syntax.specs.Edges.{begins_with_part}
use Rattle.js_syntax.specs.Parts.{is_set}
use Rattle.js_tree.specs.Words.{flags_word}

pub by_second : (x y : Text) → begins_with_part Kind.UpdateExpression (x ∷ y ∷ []) ≡ not (is_set y)
by_second x [] = refl
by_second x (c ∷ cs) = refl

any_letter : (d g i m s u v y : Bool) → is_set (flag d (codes "d") ++ flag g (codes "g") ++ flag i (codes "i") ++ flag m (codes "m") ++ flag s (codes "s") ++ flag u (codes "u") ++ flag v (codes "v") ++ flag y (codes "y")) ≡ (d || (g || (i || (m || (s || (u || (v || y)))))))
any_letter true g i m s u v y = refl
any_letter false true i m s u v y = refl
any_letter false false true m s u v y = refl
any_letter false false false true s u v y = refl
any_letter false false false false true u v y = refl
any_letter false false false false false true v y = refl
any_letter false false false false false false true y = refl
any_letter false false false false false false false true = refl
any_letter false false false false false false false false = refl

pub set_flags : (x : RegExpFlags) → is_set (flags_word x) ≡ (nat_eq (bit_and x.0 1) 1 || (nat_eq (bit_and x.0 2) 2 || (nat_eq (bit_and x.0 4) 4 || (nat_eq (bit_and x.0 8) 8 || (nat_eq (bit_and x.0 16) 16 || (nat_eq (bit_and x.0 32) 32 || (nat_eq (bit_and x.0 64) 64 || (nat_eq (bit_and x.0 128) 128))))))))
set_flags x = any_letter (nat_eq (bit_and x.0 1) 1) (nat_eq (bit_and x.0 2) 2) (nat_eq (bit_and x.0 4) 4) (nat_eq (bit_and x.0 8) 8) (nat_eq (bit_and x.0 16) 16) (nat_eq (bit_and x.0 32) 32) (nat_eq (bit_and x.0 64) 64) (nat_eq (bit_and x.0 128) 128)
