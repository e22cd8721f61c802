-- What a binary or logical operator makes of the expression in front of it.
use Rattle.std.specs.Prelude.{ℕ, suc, [], ◌∷◌, map, Option, None, Some, Bool, if◌then◌else◌, codes}
use Rattle.js_term.specs.Term.{Text, is_text, Term}
use Rattle.js_term.specs.Lexeme.{is_one_of}
use Rattle.js_term.specs.declared.kind.Kind.{Kind}
use Rattle.js_syntax.specs.Edges.{binary_level}
use Rattle.js_syntax.specs.Texts.{logical_operators}
use Rattle.js_tree.specs.Words.{word_text}
use Rattle.js_reading.specs.declared.goal.Goal.{Goal}
use Rattle.js_reading.specs.Reading.{Found, Reading}
use Rattle.js_reading.specs.Expressions.{logical_right, logical_level, operated}
use Rattle.js_reader.specs.declared.operations.Operation.{Operation}

-- the kind of the tree, its operator, the level of the right operand, and that of the whole
pub record Operated : Type 0 where
  pub kind : Kind
  pub operator : Text
  pub right : ℕ
  pub level : ℕ

abbrev pub binary_at : Text → Option ℕ → Option Operated
binary_at s None = None
binary_at s (Some k) = Some (record { kind = Kind.BinaryExpression; operator = s; right = suc k; level = k })

-- of a sign
abbrev pub operation_at : Text → Option Operated
operation_at s =
    if is_text s (codes "**") then Some (record { kind = Kind.BinaryExpression; operator = s; right = 15; level = 15 })
    else if is_one_of s logical_operators then Some (record { kind = Kind.LogicalExpression; operator = s; right = logical_right s; level = logical_level s })
    else binary_at s (binary_level s)

-- of a word
abbrev pub word_operation_at : Text → Option Operated
word_operation_at x = if is_one_of x (map codes ("in" ∷ "instanceof" ∷ [])) then binary_at x (binary_level x) else None

abbrev pub operation_of : Option Operation → Option Operated
operation_of None = None
operation_of (Some o) = Some (record { kind = o.kind; operator = word_text o.operator; right = o.right; level = o.level })

-- the reading that follows
abbrev pub operated_by : (Goal → Text → Reading Found) → Bool → Term → Option Operated → Text → Reading Found
operated_by sub i l None b = None
operated_by sub i l (Some o) b = operated sub i o.kind o.operator l o.right o.level b
