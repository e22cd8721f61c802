-- The node of each kind by its parts, beside those of small modules.
use Rattle.std.specs.Prelude.{List, [], ◌∷◌, Bool, codes}
use Rattle.js_term.specs.Term.{Text, Term, list, node, Terms, none, more, one, two, all, flag}
use Rattle.js_term.specs.declared.kind.Kind.{Kind}
use Rattle.js_term.specs.Node.{name_of}

abbrev pub three : Term → Term → Term → Terms
three t u v = more t (two u v)

abbrev pub four : Term → Term → Term → Term → Terms
four t u v w = more t (three u v w)

-- expressions

abbrev pub alone : Kind → Term
alone k = node k [] none

abbrev pub of_text : Kind → Text → Term
of_text k x = node k (x ∷ []) none

abbrev pub of_part : Kind → Term → Term
of_part k t = node k [] (one t)

abbrev pub of_parts : Kind → Term → Term → Term
of_parts k t u = node k [] (two t u)

abbrev pub of_list : Kind → Terms → Term
of_list k ts = node k [] (one (list ts))

-- a part with an operator or a mark
abbrev pub marked : Kind → Text → Terms → Term
marked k x ts = node k (x ∷ []) ts

abbrev pub regexp_of : Text → Text → Term
regexp_of pattern flags = node Kind.RegExpLiteral (pattern ∷ flags ∷ []) none

abbrev pub template_of : List Term → List Term → Term
template_of quasis es = node Kind.TemplateLiteral [] (two (list (all quasis)) (list (all es)))

abbrev pub super_of : Term
super_of = alone Kind.Super

-- f(ts), f?.(ts)
abbrev pub call_link : Bool → Term → Terms → Term
call_link optional f ts = marked Kind.CallExpression (flag optional (codes "?.")) (two f (list ts))

-- o.x, o?.x
abbrev pub static_link : Bool → Term → Text → Term
static_link optional o x = marked Kind.StaticMemberExpression (flag optional (codes "?.")) (two o (name_of x))

-- o[e], o?.[e]
abbrev pub computed_link : Bool → Term → Term → Term
computed_link optional o e = marked Kind.ComputedMemberExpression (flag optional (codes "?.")) (two o e)

abbrev pub private_of : Text → Term
private_of x = of_text Kind.PrivateIdentifier x

-- o.#x, o?.#x
abbrev pub private_link : Bool → Term → Text → Term
private_link optional o x = marked Kind.PrivateFieldExpression (flag optional (codes "?.")) (two o (private_of x))

abbrev pub new_of : Term → Terms → Term
new_of f ts = node Kind.NewExpression [] (two f (list ts))

abbrev pub update_of : Text → Bool → Term → Term
update_of op prefix t = node Kind.UpdateExpression (op ∷ flag prefix (codes "prefix") ∷ []) (one t)

-- Its texts are the kind, and the flags method, shorthand and computed.
abbrev pub property : Text → Bool → Bool → Bool → Term → Term → Term
property kind method shorthand computed key value =
    node Kind.ObjectProperty (kind ∷ flag method (codes "method") ∷ flag shorthand (codes "shorthand") ∷ flag computed (codes "computed") ∷ []) (two key value)

-- patterns

-- its texts are the flags computed and shorthand
abbrev pub pair_of : Kind → Bool → Bool → Term → Term → Term
pair_of k computed shorthand key value = node k (flag computed (codes "computed") ∷ flag shorthand (codes "shorthand") ∷ []) (two key value)

-- a pattern of items and a rest, or no rest
abbrev pub rested : Kind → List Term → Term → Term
rested k es r = node k [] (two (list (all es)) r)

abbrev pub parameter_of : Term → Term → Term
parameter_of p initializer = of_parts Kind.FormalParameter p initializer

-- functions and classes

-- the flags async and generator, then the name or none, the parameters and the body
abbrev pub function_node : Kind → Text → Text → Term → Term → Term → Term
function_node k async star id params body = node k (async ∷ star ∷ []) (three id params body)

abbrev pub body_node : List Term → List Term → Term
body_node ds ss = of_parts Kind.FunctionBody (list (all ds)) (list (all ss))

abbrev pub class_node : Kind → Term → Term → List Term → Term
class_node k id heritage es = node k [] (three id heritage (of_list Kind.ClassBody (all es)))

-- its texts are the kind and the flags computed and static
abbrev pub method_node : Text → Bool → Text → Term → Term → Term
method_node kind computed static key f = node Kind.MethodDefinition (kind ∷ flag computed (codes "computed") ∷ static ∷ []) (two key f)

abbrev pub field_node : Bool → Text → Term → Term → Term
field_node computed static key value = node Kind.PropertyDefinition (flag computed (codes "computed") ∷ static ∷ []) (two key value)

-- statements

abbrev pub variables_of : Text → List Term → Term
variables_of kind ds = marked Kind.VariableDeclaration kind (one (list (all ds)))

abbrev pub declarator_of : Term → Term → Term
declarator_of p init = of_parts Kind.VariableDeclarator p init

abbrev pub block_of : List Term → Term
block_of ss = of_list Kind.BlockStatement (all ss)

abbrev pub label_of : Text → Term
label_of x = of_text Kind.LabelIdentifier x

abbrev pub for_of : Term → Term → Term → Term → Term
for_of init test update s = node Kind.ForStatement [] (four init test update s)

-- `for` .. `in`, and `for` .. `of` with the flag await
abbrev pub for_each : Kind → List Text → Term → Term → Term → Term
for_each k texts left right s = node k texts (three left right s)

abbrev pub case_of : Term → List Term → Term
case_of test ss = of_parts Kind.SwitchCase test (list (all ss))

abbrev pub if_of : Term → Term → Term → Term
if_of test s alternate = node Kind.IfStatement [] (three test s alternate)

abbrev pub try_of : Term → Term → Term → Term
try_of block handler finalizer = node Kind.TryStatement [] (three block handler finalizer)

-- modules

abbrev pub export_specifier_of : Term → Term → Term
export_specifier_of local exported = of_parts Kind.ExportSpecifier local exported

abbrev pub module_of : List Text → List Term → List Term → Term
module_of hashbang ds ss = node Kind.Program hashbang (two (list (all ds)) (list (all ss)))
