-- What goes on with an expression as an operator is what its operation says.
use Rattle.std.proofs.Common.{◌≡◌, refl, ℕ, [], ◌∷◌, map, Option, None, Some, Bool, true, false, ◌&&◌, ◌||◌, if◌then◌else◌, nat_le, codes}
use Rattle.js_term.specs.Term.{Text, is_text, Term}
use Rattle.js_term.specs.Lexeme.{is_one_of}
use Rattle.js_term.specs.declared.kind.Kind.{Kind}
use Rattle.js_syntax.specs.Edges.{binary_level, is_update}
use Rattle.js_syntax.specs.Texts.{logical_operators}
use Rattle.js_syntax.specs.Tokens.{word}
use Rattle.js_reading.specs.declared.goal.Goal.{Goal}
use Rattle.js_reading.specs.Reading.{Found, Reading}
use Rattle.js_reading.specs.Expressions.{logical_right, logical_level, operated, binary_by, operator_by}
use Rattle.js_reading.specs.Operators.{goes_on_by}
use Rattle.js_reader.specs.Operations.{binary_at, operation_at, word_operation_at, operated_by}

-- a word that goes on with an expression is `in` or `instanceof`
pub goes_on_word : (i : Bool) (least n : ℕ) (x : Text) (line : Bool) → goes_on_by i least n (Some (word x)) line ≡ true → is_one_of x (map codes ("in" ∷ "instanceof" ∷ [])) ≡ true
goes_on_word i least n x line h = go (is_text x (codes "in")) (is_text x (codes "instanceof")) _ _ _ h
  where
    go : (p q b c d : Bool) → (nat_le 2 (if p then (if i then 11 else 0) else if q then 11 else 0) && b && c && d) ≡ true → (p || (q || false)) ≡ true
    go true q b c d h = refl
    go false true b c d h = refl
    go false false b c d h = absurd (cc)

module _ (sub : Goal → Text → Reading Found) (i : Bool) where
  binary_is : (s : Text) (l : Term) (o : Option ℕ) (b : Text) → binary_by sub i s l o b ≡ operated_by sub i l (binary_at s o) b
  binary_is s l None b = refl
  binary_is s l (Some k) b = refl

  pub word_operation_is : (x : Text) (l : Term) (b : Text) → is_one_of x (map codes ("in" ∷ "instanceof" ∷ [])) ≡ true → binary_by sub i x l (binary_level x) b ≡ operated_by sub i l (word_operation_at x) b
  word_operation_is x l b h = rw h (binary_is x l (binary_level x) b)

  pub operation_is : (f : Found) (s b : Text) → is_update s ≡ false → is_text s (codes "?") ≡ false → operator_by sub i f s b ≡ operated_by sub i f.tree (operation_at s) b
  operation_is f s b g h = rw (g, h) (go (is_text s (codes "**")) (is_one_of s logical_operators))
    where
      go : (p q : Bool) →
          (if p then operated sub i Kind.BinaryExpression s f.tree 15 15 b else if q then operated sub i Kind.LogicalExpression s f.tree (logical_right s) (logical_level s) b else binary_by sub i s f.tree (binary_level s) b)
          ≡ operated_by sub i f.tree (if p then Some (record { kind = Kind.BinaryExpression; operator = s; right = 15; level = 15 }) else if q then Some (record { kind = Kind.LogicalExpression; operator = s; right = logical_right s; level = logical_level s }) else binary_at s (binary_level s)) b
      go true q = refl
      go false true = refl
      go false false = binary_is s f.tree (binary_level s) b
