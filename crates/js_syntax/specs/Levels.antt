-- The level of an expression by its tree (13.2 to 13.16), and which places its parts have.
use Rattle.std.specs.Prelude.{◌≡◌, ℕ, suc, List, Option, None, Some, Bool, true, ◌&&◌, if◌then◌else◌, nat_le, codes}
use Rattle.js_term.specs.Term.{Text, is_text, Term, absent, list, node, Terms, none, more, first, head, rest}
use Rattle.js_term.specs.declared.kind.Kind.{Kind}
use Rattle.js_syntax.specs.Edges.{binary_level, is_coalesce_left, member_level}
use Rattle.js_syntax.specs.Spelling.{Stands}

abbrev pub level_or : Option ℕ → ℕ → ℕ
level_or None n = n
level_or (Some k) n = k

abbrev pub logical_level : Text → ℕ
logical_level op = if is_text op (codes "??") then 4 else if is_text op (codes "||") then 5 else 6

-- by its kind, its texts and the level of its first part
abbrev pub level_by : Kind → List Text → ℕ → ℕ
level_by Kind.SequenceExpression texts n = 1
level_by Kind.AssignmentExpression texts n = 2
level_by Kind.ArrowFunctionExpression texts n = 2
level_by Kind.YieldExpression texts n = 2
level_by Kind.ConditionalExpression texts n = 3
level_by Kind.LogicalExpression texts n = logical_level (first texts)
level_by Kind.BinaryExpression texts n = level_or (binary_level (first texts)) 15
level_by Kind.PrivateInExpression texts n = 11
level_by Kind.UnaryExpression texts n = 16
level_by Kind.AwaitExpression texts n = 16
level_by Kind.UpdateExpression texts n = 17
level_by Kind.ChainExpression texts n = 18
level_by Kind.CallExpression texts n = 19
level_by Kind.ImportExpression texts n = 19
level_by Kind.StaticMemberExpression texts n = member_level n
level_by Kind.ComputedMemberExpression texts n = member_level n
level_by Kind.PrivateFieldExpression texts n = member_level n
level_by Kind.TaggedTemplateExpression texts n = member_level n
level_by Kind.NewExpression texts n = 20
level_by k texts n = 21

abbrev mutual
  pub level : Term → ℕ
  level absent = 0
  level (list ts) = 0
  level (node k texts ts) = level_by k texts (level_first ts)

  pub level_first : Terms → ℕ
  level_first none = 0
  level_first (more t ts) = level t

abbrev pub second : Terms → Term
second ts = head (rest ts)

abbrev pub binary_fits : Option ℕ → ℕ → ℕ → Bool
binary_fits None l r = nat_le 17 l && nat_le 15 r
binary_fits (Some k) l r = nat_le k l && nat_le (suc k) r

abbrev pub logical_fits : Text → ℕ → ℕ → Bool
logical_fits op l r = if is_text op (codes "??") then is_coalesce_left l && nat_le 7 r else if is_text op (codes "||") then nat_le 5 l && nat_le 6 r else nat_le 6 l && nat_le 7 r

-- whether the operands of an expression have the levels of their places, by the levels of its first two parts
abbrev pub fits_by : Kind → List Text → ℕ → ℕ → Bool
fits_by Kind.ConditionalExpression texts l r = nat_le 4 l
fits_by Kind.LogicalExpression texts l r = logical_fits (first texts) l r
fits_by Kind.BinaryExpression texts l r = binary_fits (binary_level (first texts)) l r
fits_by Kind.PrivateInExpression texts l r = nat_le 12 r
fits_by Kind.UnaryExpression texts l r = nat_le 16 l
fits_by Kind.AwaitExpression texts l r = nat_le 16 l
fits_by Kind.CallExpression texts l r = nat_le 19 l
fits_by Kind.StaticMemberExpression texts l r = nat_le 19 l
fits_by Kind.ComputedMemberExpression texts l r = nat_le 19 l
fits_by Kind.PrivateFieldExpression texts l r = nat_le 19 l
fits_by Kind.TaggedTemplateExpression texts l r = nat_le 19 l
fits_by Kind.NewExpression texts l r = nat_le 20 l
fits_by k texts l r = true

abbrev pub fits : Term → Bool
fits (node k texts ts) = fits_by k texts (level_first ts) (level (second ts))
fits t = true

-- A level is that of the tree, but for a `new` without arguments, whose level is 18.
pub data HasLevel : ℕ → Term → Type 0 where
  usual : {n : ℕ} {e : Term} → n ≡ level e → HasLevel n e
  bare_new : {n : ℕ} {e : Term} → n ≡ 18 → level e ≡ 20 → HasLevel n e

-- What stands with a level has it by its tree, and its operands have those of their places.
pub record Levels : Type 0 where
  pub a_level : {i : Bool} {n : ℕ} {e : Term} {a b : Text} → Stands i n e a b → HasLevel n e
  pub its_parts : {i : Bool} {n : ℕ} {e : Term} {a b : Text} → Stands i n e a b → fits e ≡ true
