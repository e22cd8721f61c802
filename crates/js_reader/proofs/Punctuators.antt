-- Punctuators are told apart by their texts.
use Rattle.std.proofs.Common.{◌≡◌, rules, Bool, true, false, refl, sym, ap, subst, ◌∙◌, List, [], ◌∷◌, Option, None, Some, if◌then◌else◌}
use denote.Enum.Bare.{sameb, same_true, true_same}
use Rattle.js_term.specs.Term.{Text, is_text}
use Rattle.js_syntax.proofs.Fronts.{same_text}
use Rattle.js_reading.proofs.TokensThere.{same_itself}
use Rattle.js_tokens.specs.declared.punctuators.Punctuator.{Punctuator}
use Rattle.js_tokens.specs.declared.punctuators.Punctuator.TheVariants as punctuator
use Rattle.js_tokens.specs.contracts.punctuators.Punctuator.{the_type}
use Rattle.js_tokens.specs.PunctuatorTexts.{text_of}

abbrev every : List Punctuator
every = punctuator.OpenBrace ∷ punctuator.CloseBrace ∷ punctuator.OpenParenthesis ∷ punctuator.CloseParenthesis ∷ punctuator.OpenBracket ∷ punctuator.CloseBracket ∷ punctuator.Point ∷ punctuator.Ellipsis ∷ punctuator.Semicolon ∷ punctuator.Comma ∷ punctuator.Less ∷ punctuator.Greater ∷ punctuator.LessEqual ∷ punctuator.GreaterEqual ∷ punctuator.Equal ∷ punctuator.Unequal ∷ punctuator.StrictEqual ∷ punctuator.StrictUnequal ∷ punctuator.Plus ∷ punctuator.Minus ∷ punctuator.Star ∷ punctuator.Slash ∷ punctuator.Percent ∷ punctuator.Power ∷ punctuator.Increment ∷ punctuator.Decrement ∷ punctuator.ShiftLeft ∷ punctuator.ShiftRight ∷ punctuator.ShiftRightUnsigned ∷ punctuator.Ampersand ∷ punctuator.Bar ∷ punctuator.Caret ∷ punctuator.Exclamation ∷ punctuator.Tilde ∷ punctuator.And ∷ punctuator.Or ∷ punctuator.Coalesce ∷ punctuator.Question ∷ punctuator.OptionalChaining ∷ punctuator.Colon ∷ punctuator.Assign ∷ punctuator.PlusAssign ∷ punctuator.MinusAssign ∷ punctuator.StarAssign ∷ punctuator.SlashAssign ∷ punctuator.PercentAssign ∷ punctuator.PowerAssign ∷ punctuator.ShiftLeftAssign ∷ punctuator.ShiftRightAssign ∷ punctuator.ShiftRightUnsignedAssign ∷ punctuator.AmpersandAssign ∷ punctuator.BarAssign ∷ punctuator.CaretAssign ∷ punctuator.AndAssign ∷ punctuator.OrAssign ∷ punctuator.CoalesceAssign ∷ punctuator.Arrow ∷ []

abbrev among : Text → List Punctuator → Option Punctuator
among x [] = None
among x (p ∷ ps) = if is_text (text_of p) x then Some p else among x ps

-- the punctuator of this text
found : (p : Punctuator) → among (text_of p) every ≡ Some p
found punctuator.OpenBrace = refl
found punctuator.CloseBrace = refl
found punctuator.OpenParenthesis = refl
found punctuator.CloseParenthesis = refl
found punctuator.OpenBracket = refl
found punctuator.CloseBracket = refl
found punctuator.Point = refl
found punctuator.Ellipsis = refl
found punctuator.Semicolon = refl
found punctuator.Comma = refl
found punctuator.Less = refl
found punctuator.Greater = refl
found punctuator.LessEqual = refl
found punctuator.GreaterEqual = refl
found punctuator.Equal = refl
found punctuator.Unequal = refl
found punctuator.StrictEqual = refl
found punctuator.StrictUnequal = refl
found punctuator.Plus = refl
found punctuator.Minus = refl
found punctuator.Star = refl
found punctuator.Slash = refl
found punctuator.Percent = refl
found punctuator.Power = refl
found punctuator.Increment = refl
found punctuator.Decrement = refl
found punctuator.ShiftLeft = refl
found punctuator.ShiftRight = refl
found punctuator.ShiftRightUnsigned = refl
found punctuator.Ampersand = refl
found punctuator.Bar = refl
found punctuator.Caret = refl
found punctuator.Exclamation = refl
found punctuator.Tilde = refl
found punctuator.And = refl
found punctuator.Or = refl
found punctuator.Coalesce = refl
found punctuator.Question = refl
found punctuator.OptionalChaining = refl
found punctuator.Colon = refl
found punctuator.Assign = refl
found punctuator.PlusAssign = refl
found punctuator.MinusAssign = refl
found punctuator.StarAssign = refl
found punctuator.SlashAssign = refl
found punctuator.PercentAssign = refl
found punctuator.PowerAssign = refl
found punctuator.ShiftLeftAssign = refl
found punctuator.ShiftRightAssign = refl
found punctuator.ShiftRightUnsignedAssign = refl
found punctuator.AmpersandAssign = refl
found punctuator.BarAssign = refl
found punctuator.CaretAssign = refl
found punctuator.AndAssign = refl
found punctuator.OrAssign = refl
found punctuator.CoalesceAssign = refl
found punctuator.Arrow = refl

one_text : (p q : Punctuator) → text_of p ≡ text_of q → p ≡ q
one_text p q e = let both : Some p ≡ Some q = sym (found p) ∙ ap (λ x. among x every) e ∙ found q in cc

-- Two punctuators are one where their texts are.
pub same_texts : (p q : Punctuator) → sameb the_type p q ≡ is_text (text_of p) (text_of q)
same_texts p q = go (sameb the_type p q) (is_text (text_of p) (text_of q)) refl refl
  where
    go : (b c : Bool) → sameb the_type p q ≡ b → is_text (text_of p) (text_of q) ≡ c → b ≡ c
    go true true e f = refl
    go false false e f = refl
    go true false e f = absurd (let same : p ≡ q = same_true the_type (search rules) _ _ e in let yes' : is_text (text_of p) (text_of q) ≡ true = subst (λ (z : Punctuator). is_text (text_of p) (text_of z) ≡ true) same (same_itself (text_of p)) in cc)
    go false true e f = absurd (let same = one_text p q (same_text (text_of p) (text_of q) f) in let yes' = true_same the_type p q same in cc)
