-- The part that each kind plays in scoping. A new kind of an old part adds one row.
use Rattle.js_term.specs.declared.kind.Kind.{Kind}
use Rattle.scope_model.specs.declared.role.Role.{Role}

abbrev pub role : Kind → Role
-- names: looked up (ECMAScript 13.1), bound (8.2.1 BoundNames)
role Kind.Identifier = Role.Reference
role Kind.BindingIdentifier = Role.Binding
-- what holds bound names: patterns (14.3.3), declarators (14.3), parameters (15.1), the parameter of a catch (14.15)
role Kind.ObjectPattern = Role.Pattern
role Kind.BindingProperty = Role.Pattern
role Kind.ArrayPattern = Role.Pattern
role Kind.AssignmentPattern = Role.Pattern
role Kind.BindingRestElement = Role.Pattern
role Kind.VariableDeclarator = Role.Pattern
role Kind.FormalParameter = Role.Pattern
role Kind.FormalParameterRest = Role.Pattern
role Kind.CatchParameter = Role.Pattern
role Kind.FormalParameters = Role.Parameters
-- declarations: 14.3; 15.2, 15.5, 15.6, 15.8; 15.7
role Kind.VariableDeclaration = Role.VariableDeclaration
role Kind.FunctionDeclaration = Role.FunctionDeclaration
role Kind.ClassDeclaration = Role.ClassDeclaration
-- expressions and class elements that open a scope: 15.2, 15.5, 15.6, 15.8; 15.3, 15.9; 15.7
role Kind.FunctionExpression = Role.FunctionExpression
role Kind.ArrowFunctionExpression = Role.Arrow
role Kind.ClassExpression = Role.ClassExpression
role Kind.PropertyDefinition = Role.Field
role Kind.StaticBlock = Role.StaticBlock
-- statements that hold others: 14.7.2, 14.6, 14.13, 14.15, 14.7.3
role Kind.DoWhileStatement = Role.Statement
role Kind.IfStatement = Role.Statement
role Kind.LabeledStatement = Role.Statement
role Kind.TryStatement = Role.Statement
role Kind.WhileStatement = Role.Statement
-- and those that open a scope: 14.2, 14.7.4, 14.7.5, 14.12, 14.15
role Kind.BlockStatement = Role.Block
role Kind.ForInStatement = Role.Loop
role Kind.ForOfStatement = Role.Loop
role Kind.ForStatement = Role.Loop
role Kind.SwitchStatement = Role.Switch
role Kind.SwitchCase = Role.Case
role Kind.CatchClause = Role.CatchClause
-- functions and modules: 15.2; 16.2, 16.2.2, 16.2.3
role Kind.FunctionBody = Role.Body
role Kind.Program = Role.Program
role Kind.ExportDeclaration = Role.Export
role Kind.ExportDefaultDeclaration = Role.Export
role Kind.ImportDeclaration = Role.Import
role Kind.ExportAllDeclaration = Role.ExportFrom
role Kind.ExportFromDeclaration = Role.ExportFrom
role Kind.ImportSpecifier = Role.ImportSpecifier
role Kind.ImportDefaultSpecifier = Role.DefaultSpecifier
role Kind.ImportNamespaceSpecifier = Role.NamespaceSpecifier
role k = Role.Other
