-- The text of each variant, by the texts of its parts.
use Rattle.std.proofs.Common.{◌≡◌, refl, sym, ◌∙◌, ap, ℕ, ◌+◌, ◌<◌, arith, List, [], ◌∷◌, ◌++◌, length, take, get_or, map, Bool, true, false, ◌||◌, append_assoc, add-one, take-suc, ◌≤◌}
use Rattle.std.proofs.lemmas.List.{append-nil, map-append, length-take-le, length-map}
use Rattle.std.specs.Prelude.{codes}
use Rattle.js_term.specs.Term.{Text, Term, node, Terms, all}
use Rattle.js_term.specs.declared.kind.Kind.{Kind}
use Rattle.js_term.specs.Node.{truth}
use Rattle.small_tree.specs.TermOf.{expression_term, statement_term, function_term, property_term}
use Rattle.small_tree.proofs.Levels.{expression_node, statement_node, e_BooleanLiteral, e_NumericLiteral, e_StringLiteral, e_Identifier, e_ArrayExpression, e_AwaitExpression, e_CallExpression, e_FunctionExpression, e_ObjectExpression, e_ParenthesizedExpression, e_SequenceExpression, e_StaticMemberExpression}
use Rattle.small_tree.specs.declared.expression.Expression.{Expression}
use Rattle.small_tree.specs.declared.expression.Expression.TheVariants as expression
use Rattle.small_tree.specs.declared.statement.Statement.{Statement}
use Rattle.small_tree.specs.declared.expression.BooleanLiteral.{BooleanLiteral}
use Rattle.small_tree.specs.declared.expression.NumericLiteral.{NumericLiteral}
use Rattle.small_tree.specs.declared.expression.StringLiteral.{StringLiteral}
use Rattle.small_tree.specs.declared.id.IdentifierReference.{IdentifierReference}
use Rattle.small_tree.specs.declared.expression.ArrayExpression.{ArrayExpression}
use Rattle.small_tree.specs.declared.expression.AwaitExpression.{AwaitExpression}
use Rattle.small_tree.specs.declared.expression.CallExpression.{CallExpression}
use Rattle.small_tree.specs.declared.expression.ObjectProperty.{ObjectProperty}
use Rattle.small_tree.specs.declared.expression.ObjectExpression.{ObjectExpression}
use Rattle.small_tree.specs.declared.expression.ParenthesizedExpression.{ParenthesizedExpression}
use Rattle.small_tree.specs.declared.expression.SequenceExpression.{SequenceExpression}
use Rattle.small_tree.specs.declared.expression.StaticMemberExpression.{StaticMemberExpression}
use Rattle.small_tree.specs.declared.function.Function.{Function}
use Rattle.js_print.specs.Parts.{key_start}
use Rattle.js_print.specs.Layout.{pieces, all_pieces, printed, commas, behind, separated, braces, lines, lead, quoted, is_looser, is_number, needs, no_need, in_parentheses, held, held_kids, wrapped, at_level}

-- a part in its place
abbrev pub needs_parentheses : (Term → Bool) → Expression → Text
needs_parentheses need e = printed (in_parentheses (need (wrapped (expression_term e))) (wrapped (expression_term e)))

pub held_expression : (need : Term → Bool) (e : Expression) → held need (expression_term e) ≡ in_parentheses (need (wrapped (expression_term e))) (wrapped (expression_term e))
held_expression need = expression_node (λ t. held need t ≡ in_parentheses (need (wrapped t)) (wrapped t)) (λ k texts ts. refl)

-- lists of nodes

node_piece : (need : Term → Bool) (k : Kind) (texts : List Text) (ts : Terms) → pieces (held need (node k texts ts)) ≡ printed (held need (node k texts ts)) ∷ []
node_piece need k texts ts = by (need (node k texts (held_kids (needs k) ts)))
  where
    by : (c : Bool) → pieces (in_parentheses c (node k texts (held_kids (needs k) ts))) ≡ printed (in_parentheses c (node k texts (held_kids (needs k) ts))) ∷ []
    by true = refl
    by false = refl

pub pieces_each : {A : Type 0} (f : A → Term) (need : Term → Bool) → ((a : A) → pieces (held need (f a)) ≡ printed (held need (f a)) ∷ []) → (xs : List A) → all_pieces (held_kids (λ n. need) (all (map f xs))) ≡ map (λ a. printed (held need (f a))) xs
pieces_each f need p [] = refl
pieces_each f need p (x ∷ xs) = rw (p x, pieces_each f need p xs) refl

expressions_pieces : (need : Term → Bool) (xs : List Expression) → all_pieces (held_kids (λ n. need) (all (map expression_term xs))) ≡ map (λ e. printed (held need (expression_term e))) xs
expressions_pieces need = pieces_each expression_term need (expression_node (λ t. pieces (held need t) ≡ printed (held need t) ∷ []) (node_piece need))

pub statements_pieces : (xs : List Statement) → all_pieces (held_kids (λ n. no_need) (all (map statement_term xs))) ≡ map (λ s. printed (wrapped (statement_term s))) xs
statements_pieces = pieces_each statement_term no_need (statement_node (λ t. pieces (held no_need t) ≡ printed (held no_need t) ∷ []) (node_piece no_need))

-- one more item behind a separator
behind_snoc : (separator : Text) (ys : List Text) (x : Text) → behind separator (ys ++ x ∷ []) ≡ behind separator ys ++ (separator ++ x)
behind_snoc separator [] x = ap (λ z. separator ++ z) (append-nil x)
behind_snoc separator (y ∷ ys) x =
    ap (λ z. separator ++ (y ++ z)) (behind_snoc separator ys x)
    ∙ sym (ap (λ z. z) (append_assoc separator (y ++ behind separator ys) (separator ++ x)) ∙ ap (λ z. separator ++ z) (append_assoc y (behind separator ys) (separator ++ x)))

separated_snoc : (separator : Text) (xs : List Text) (x : Text) → separated separator (xs ++ x ∷ []) ≡ separated separator xs ++ (lead separator (length xs) ++ x)
separated_snoc separator [] x = append-nil x
separated_snoc separator (y ∷ ys) x = ap (λ z. y ++ z) (behind_snoc separator ys x) ∙ sym (append_assoc y (behind separator ys) (separator ++ x))

length_before : {A : Type 0} (F : A → Text) (xs : List A) (i : ℕ) → i < length xs → length (map F (take i xs)) ≡ i
length_before F xs i h = length-map (take i xs) F ∙ (let k : i ≤ length xs = omega arith in length-take-le i xs k)

-- a loop that prints items with separators, one item further
pub item_printed : {A : Type 0} (separator : Text) (F : A → Text) (xs : List A) (start out mid new : Text) (i : ℕ) (x : A) → x ≡ get_or xs i x → out ≡ start ++ separated separator (map F (take i xs)) → i < length xs → mid ≡ out ++ lead separator i → new ≡ mid ++ F x → new ≡ start ++ separated separator (map F (take (i + 1) xs))
item_printed separator F xs start out mid new i x e p h q r =
    rw (add-one, take-suc xs i x h, map-append F (take i xs) (get_or xs i x ∷ []), separated_snoc separator (map F (take i xs)) (F (get_or xs i x)), length_before F xs i h)
    (r ∙ ap (λ y. mid ++ F y) e ∙ ap (λ z. z ++ F (get_or xs i x)) (q ∙ ap (λ z. z ++ lead separator i) p)
    ∙ append_assoc (start ++ separated separator (map F (take i xs))) (lead separator i) (F (get_or xs i x))
    ∙ append_assoc start (separated separator (map F (take i xs))) (lead separator i ++ F (get_or xs i x)))

-- expressions

abbrev pub one_text : Term → Text
one_text t = printed (wrapped t)

pub r_BooleanLiteral : (n : BooleanLiteral) → one_text (expression_term (expression.BooleanLiteral n)) ≡ truth n.value
r_BooleanLiteral n = rw (e_BooleanLiteral n) refl

pub r_NumericLiteral : (n : NumericLiteral) → one_text (expression_term (expression.NumericLiteral n)) ≡ n.raw
r_NumericLiteral n = rw (e_NumericLiteral n) refl

pub r_StringLiteral : (n : StringLiteral) → one_text (expression_term (expression.StringLiteral n)) ≡ quoted n.value
r_StringLiteral n = rw (e_StringLiteral n) refl

pub r_Identifier : (n : IdentifierReference) → one_text (expression_term (expression.Identifier n)) ≡ n.name
r_Identifier n = rw (e_Identifier n) refl

-- expressions as items of a list
abbrev pub items_text : List Expression → Text
items_text xs = commas (map (λ e. at_level 2 (expression_term e)) xs)

items_is : (xs : List Expression) → commas (all_pieces (held_kids (λ n. is_looser 2) (all (map expression_term xs)))) ≡ items_text xs
items_is xs = ap commas (expressions_pieces (is_looser 2) xs)

pub r_ArrayExpression : (n : ArrayExpression Expression) → one_text (expression_term (expression.ArrayExpression n)) ≡ codes "[" ++ (items_text n.elements ++ codes "]")
r_ArrayExpression n = rw (e_ArrayExpression n) (ap (λ x. codes "[" ++ (x ++ codes "]")) (items_is n.elements))

pub r_SequenceExpression : (n : SequenceExpression Expression) → one_text (expression_term (expression.SequenceExpression n)) ≡ items_text n.expressions
r_SequenceExpression n = rw (e_SequenceExpression n) (items_is n.expressions)

pub r_AwaitExpression : (n : AwaitExpression Expression) → one_text (expression_term (expression.AwaitExpression n)) ≡ codes "await " ++ needs_parentheses (is_looser 16) n.argument
r_AwaitExpression n = rw (e_AwaitExpression n) (ap (λ t. codes "await " ++ printed t) (held_expression (is_looser 16) n.argument))

pub r_ParenthesizedExpression : (n : ParenthesizedExpression Expression) → one_text (expression_term (expression.ParenthesizedExpression n)) ≡ codes "(" ++ (one_text (expression_term n.expression) ++ codes ")")
r_ParenthesizedExpression n = rw (e_ParenthesizedExpression n) refl

pub r_CallExpression : (n : CallExpression Expression) → one_text (expression_term (expression.CallExpression n)) ≡ needs_parentheses (is_looser 19) n.callee ++ (codes "(" ++ (items_text n.arguments ++ codes ")"))
r_CallExpression n = rw (e_CallExpression n) (λ i. printed (held_expression (is_looser 19) n.callee i) ++ (codes "(" ++ (items_is n.arguments i ++ codes ")")))

abbrev pub is_loose_object : Term → Bool
is_loose_object t = is_looser 19 t || is_number t

pub r_StaticMemberExpression : (n : StaticMemberExpression Expression) → one_text (expression_term (expression.StaticMemberExpression n)) ≡ needs_parentheses is_loose_object n.object ++ (codes "." ++ n.property.name)
r_StaticMemberExpression n = rw (e_StaticMemberExpression n) (ap (λ t. printed t ++ (codes "." ++ n.property.name)) (held_expression is_loose_object n.object))

pub r_FunctionExpression : (n : Function) → one_text (expression_term (expression.FunctionExpression n)) ≡ one_text (function_term n)
r_FunctionExpression n = rw (e_FunctionExpression n) refl

-- properties
abbrev pub property_text : ObjectProperty Expression → Text
property_text p = one_text (property_term expression_term p)

pub r_ObjectExpression : (n : ObjectExpression Expression) → one_text (expression_term (expression.ObjectExpression n)) ≡ braces (codes ", ") (map property_text n.properties)
r_ObjectExpression n = rw (e_ObjectExpression n) (ap (braces (codes ", ")) (pieces_each (property_term expression_term) no_need (λ p. refl) n.properties))

property_by : (p : ObjectProperty Expression) (b : Bool) → p.method ≡ b → property_text p ≡ key_start b p.key.name ++ needs_parentheses (is_looser 2) p.value
property_by p true h = rw (h, held_expression (is_looser 2) p.value) refl
property_by p false h = rw (h, held_expression (is_looser 2) p.value) (sym (append_assoc p.key.name (codes ": ") (needs_parentheses (is_looser 2) p.value)))

pub r_property : (p : ObjectProperty Expression) → property_text p ≡ key_start p.method p.key.name ++ needs_parentheses (is_looser 2) p.value
r_property p = property_by p p.method refl

-- a property behind its key
pub property_printed : (p : ObjectProperty Expression) (mid key new : Text) → key ≡ mid ++ key_start p.method p.key.name → new ≡ key ++ needs_parentheses (is_looser 2) p.value → new ≡ mid ++ property_text p
property_printed p mid key new r t =
    t ∙ ap (λ z. z ++ needs_parentheses (is_looser 2) p.value) r ∙ append_assoc mid (key_start p.method p.key.name) (needs_parentheses (is_looser 2) p.value) ∙ ap (λ z. mid ++ z) (sym (r_property p))

braces_of : (separator : Text) (xs : List Text) → 0 < length xs → braces separator xs ≡ codes "{ " ++ (separated separator xs ++ codes " }")
braces_of separator [] h = absurd (omega arith)
braces_of separator (x ∷ xs) h = refl

-- items in braces, once they are all printed
pub braces_printed : {A : Type 0} (separator : Text) (F : A → Text) (xs : List A) (start mid out new : Text) → 0 < length xs → mid ≡ start ++ codes "{ " → out ≡ mid ++ separated separator (map F xs) → new ≡ out ++ codes " }" → new ≡ start ++ braces separator (map F xs)
braces_printed separator F xs start mid out new h p q r =
    let some : 0 < length (map F xs) = let e : length (map F xs) ≡ length xs = length-map xs F in omega arith in
    r ∙ ap (λ z. z ++ codes " }") (q ∙ ap (λ z. z ++ separated separator (map F xs)) p)
    ∙ append_assoc (start ++ codes "{ ") (separated separator (map F xs)) (codes " }") ∙ append_assoc start (codes "{ ") (separated separator (map F xs) ++ codes " }")
    ∙ ap (λ z. start ++ z) (sym (braces_of separator (map F xs) some))

-- a loop that prints lines moves one from what is left to what is written
pub line_moved : {A : Type 0} (F : A → Text) (x : A) (rest : List A) (empty start line out new whole : Text) → out ++ lines (map F (x ∷ rest)) ≡ whole → empty ≡ [] → start ≡ empty ++ F x → line ≡ start ++ 10 ∷ [] → new ≡ out ++ line → new ++ lines (map F rest) ≡ whole
line_moved F x rest empty start line out new whole h e p q r =
    let full : line ≡ F x ++ 10 ∷ [] = q ∙ ap (λ z. z ++ 10 ∷ []) (p ∙ ap (λ z. z ++ F x) e) in
    ap (λ z. z ++ lines (map F rest)) (r ∙ ap (λ z. out ++ z) full)
    ∙ append_assoc out (F x ++ 10 ∷ []) (lines (map F rest))
    ∙ ap (λ z. out ++ z) (append_assoc (F x) (10 ∷ []) (lines (map F rest))) ∙ h
