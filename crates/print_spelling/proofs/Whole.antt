-- What the induction over a tree cites: which modes stand on a chain, and the rules of the kinds whose parts are a matter of their own place.
use Rattle.std.proofs.Common.{◌≡◌, refl, sym, ℕ, suc, zero, List, Bool, true, false, not, ◌||◌}
use Rattle.js_term.specs.Term.{Text, Term, absent, list, node, Terms}
use Rattle.js_term.specs.declared.kind.Kind.{Kind}
use Rattle.js_syntax.specs.Sorts.{Sort, Place}
use Rattle.js_syntax.specs.Places.{places_at}
use Rattle.js_syntax.specs.Printable.{has_shape, spine_inside}
use Rattle.print_spelling.proofs.Tokens.{differ}
use Rattle.print_spelling.proofs.Fits.{Fit}
use Rattle.print_spelling.proofs.Claims.{Mode, off, on, tagged, mode_inside, Kids, Linked, unlinked, Meaning, category, NodeExpr}
use Rattle.print_spelling.proofs.Quiet.{is_tagged, agrees}
use Rattle.print_spelling.proofs.Templates.{template_rule}
use Rattle.print_spelling.proofs.Heads.{left_rule}
use Rattle.print_spelling.proofs.Classes.{class_is}
use Rattle.print_spelling.proofs.Functions.{declaration_is, function_is}
use Rattle.print_spelling.proofs.Statements.{declarator_rule, plain_declares, plain_declared, variables_rule}

-- ---- modes and chains

abbrev pub is_on : Mode → Bool
is_on on = true
is_on m = false

pub on_inside : (m : Mode) (k : Kind) (texts : List Text) (ts : Terms) (n : ℕ) → is_on (mode_inside m k n) ≡ spine_inside (is_on m) k texts ts n
on_inside m Kind.ChainExpression texts ts n = refl
on_inside m Kind.CallExpression texts ts zero = refl
on_inside m Kind.CallExpression texts ts (suc n) = refl
on_inside m Kind.StaticMemberExpression texts ts zero = refl
on_inside m Kind.StaticMemberExpression texts ts (suc n) = refl
on_inside m Kind.ComputedMemberExpression texts ts zero = refl
on_inside m Kind.ComputedMemberExpression texts ts (suc n) = refl
on_inside m Kind.PrivateFieldExpression texts ts zero = refl
on_inside m Kind.PrivateFieldExpression texts ts (suc n) = refl
on_inside m Kind.TaggedTemplateExpression texts ts zero = refl
on_inside m Kind.TaggedTemplateExpression texts ts (suc n) = refl
on_inside m k texts ts n = refl

-- an optional link is on a spine
pub link_mode : (m : Mode) (b : Bool) → is_on m || not b ≡ true → b ≡ true → m ≡ on
link_mode on b h e = refl
link_mode off true h e = differ (sym h)
link_mode off false h e = differ (sym e)
link_mode tagged true h e = differ (sym h)
link_mode tagged false h e = differ (sym e)

-- ---- each kind

same_name : (id : Term) → has_shape (Place.one (Sort.only Kind.BindingIdentifier)) id ≡ true → has_shape (Place.optional (Sort.only Kind.BindingIdentifier)) id ≡ true
same_name absent h = refl
same_name (list ts) h = differ (sym h)
same_name (node k texts ts) h = h

no_name_kept : (id : Term) → has_shape Place.nothing id ≡ true → has_shape (Place.optional (Sort.only Kind.BindingIdentifier)) id ≡ true
no_name_kept absent h = refl
no_name_kept (list ts) h = differ (sym h)
no_name_kept (node k texts ts) h = differ (sym h)

nothing_kept : (e : Term) → has_shape Place.nothing e ≡ true → has_shape (Place.optional Sort.expression) e ≡ true
nothing_kept absent h = refl
nothing_kept (list ts) h = differ (sym h)
nothing_kept (node k texts ts) h = differ (sym h)

pub declared : (s : Sort) (texts : List Text) (ts : Terms) → Fit (places_at s Kind.FunctionDeclaration texts) Kind.FunctionDeclaration texts ts → Kids (λ n. off) 0 ts → Meaning off (category Kind.FunctionDeclaration) (node Kind.FunctionDeclaration texts ts)
declared Sort.exported_default texts ts f c = declaration_is (Place.optional (Sort.only Kind.BindingIdentifier)) (λ id h. h) texts ts f c
declared s texts ts f c = declaration_is (Place.one (Sort.only Kind.BindingIdentifier)) same_name texts ts f c

pub functional : (s : Sort) (texts : List Text) (ts : Terms) → Fit (places_at s Kind.FunctionExpression texts) Kind.FunctionExpression texts ts → Kids (λ n. off) 0 ts → NodeExpr (node Kind.FunctionExpression texts ts)
functional Sort.method texts ts f c = function_is Place.nothing no_name_kept texts ts f c
functional Sort.plain_method texts ts f c = function_is Place.nothing no_name_kept texts ts f c
functional s texts ts f c = function_is (Place.optional (Sort.only Kind.BindingIdentifier)) (λ id h. h) texts ts f c

pub declarator_of_sort : (s : Sort) (texts : List Text) (ts : Terms) → Fit (places_at s Kind.VariableDeclarator texts) Kind.VariableDeclarator texts ts → Kids (λ n. off) 0 ts → Meaning off (category Kind.VariableDeclarator) (node Kind.VariableDeclarator texts ts)
declarator_of_sort Sort.for_declarator texts ts f c = declarator_rule Place.nothing nothing_kept texts ts f c
declarator_of_sort s texts ts f c = declarator_rule (Place.optional Sort.expression) (λ e h. h) texts ts f c

pub variables_of_sort : (s : Sort) (m : Mode) (texts : List Text) (ts : Terms) → Fit (places_at s Kind.VariableDeclaration texts) Kind.VariableDeclaration texts ts → Kids (λ n. off) 0 ts → Meaning m (category Kind.VariableDeclaration) (node Kind.VariableDeclaration texts ts)
variables_of_sort Sort.for_left m texts ts f c = left_rule m texts ts f c
variables_of_sort s m texts ts f c = variables_rule (Sort.only Kind.VariableDeclarator) plain_declares (Place.some (Sort.only Kind.VariableDeclarator)) plain_declared m texts ts f c

pub class_of_sort : (s : Sort) (texts : List Text) (ts : Terms) → Fit (places_at s Kind.ClassDeclaration texts) Kind.ClassDeclaration texts ts → Kids (λ n. off) 0 ts → Meaning off (category Kind.ClassDeclaration) (node Kind.ClassDeclaration texts ts)
class_of_sort Sort.exported_default texts ts f c = class_is (Place.optional (Sort.only Kind.BindingIdentifier)) (λ id h. h) texts ts f c
class_of_sort s texts ts f c = class_is (Place.one (Sort.only Kind.BindingIdentifier)) same_name texts ts f c

-- of the template of a tag nothing is claimed
tagged_nothing : (m : Mode) (t : Term) → is_tagged m ≡ true → Linked m t
tagged_nothing off t h = differ (sym h)
tagged_nothing on t h = differ (sym h)
tagged_nothing tagged t h = tt

pub template_of_sort : (s : Sort) (m : Mode) → agrees (Place.one s) m ≡ true → (texts : List Text) (ts : Terms) → Fit (places_at s Kind.TemplateLiteral texts) Kind.TemplateLiteral texts ts → Kids (λ n. off) 0 ts → Linked m (node Kind.TemplateLiteral texts ts)
template_of_sort Sort.tagged_template m a texts ts f c = tagged_nothing m (node Kind.TemplateLiteral texts ts) a
template_of_sort s m a texts ts f c = unlinked m (node Kind.TemplateLiteral texts ts) refl (template_rule texts ts f c)
