-- How far the level of an expression depends on that of its first part.
use Rattle.std.proofs.Common.{◌≡◌, ℕ, refl, List, true, false}
use Rattle.js_term.specs.Term.{Text}
use Rattle.js_term.specs.declared.kind.Kind.{Kind}
use Rattle.js_syntax.specs.Edges.{member_level}
use Rattle.js_syntax.specs.Levels.{level_by}
use Rattle.tree_printer.specs.Links.{is_link}

pub link_level : (k : Kind) (texts : List Text) (n : ℕ) → is_link k ≡ true → level_by k texts n ≡ member_level n
link_level Kind.StaticMemberExpression texts n h = refl
link_level Kind.ComputedMemberExpression texts n h = refl
link_level Kind.PrivateFieldExpression texts n h = refl
link_level Kind.TaggedTemplateExpression texts n h = refl
link_level k texts n h = cc

pub own_level : (k : Kind) (texts : List Text) (n : ℕ) → is_link k ≡ false → level_by k texts n ≡ level_by k texts 0
own_level Kind.StaticMemberExpression texts n h = cc
own_level Kind.ComputedMemberExpression texts n h = cc
own_level Kind.PrivateFieldExpression texts n h = cc
own_level Kind.TaggedTemplateExpression texts n h = cc
own_level Kind.SequenceExpression texts n h = refl
own_level Kind.AssignmentExpression texts n h = refl
own_level Kind.ArrowFunctionExpression texts n h = refl
own_level Kind.YieldExpression texts n h = refl
own_level Kind.ConditionalExpression texts n h = refl
own_level Kind.LogicalExpression texts n h = refl
own_level Kind.BinaryExpression texts n h = refl
own_level Kind.PrivateInExpression texts n h = refl
own_level Kind.UnaryExpression texts n h = refl
own_level Kind.AwaitExpression texts n h = refl
own_level Kind.UpdateExpression texts n h = refl
own_level Kind.ChainExpression texts n h = refl
own_level Kind.CallExpression texts n h = refl
own_level Kind.ImportExpression texts n h = refl
own_level Kind.NewExpression texts n h = refl
own_level k texts n h = refl
