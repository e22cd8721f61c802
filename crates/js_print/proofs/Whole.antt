-- Each printable module is spelled by its layout.
use Rattle.std.proofs.Common.{◌≡◌, refl, sym, ◌∙◌, ap, subst, List, [], ◌∷◌, ◌++◌, Bool, true, false, ◌||◌, cond, nat_eq, nat_lt, lit≤, append_assoc}
use Rattle.std.proofs.lemmas.List.{append-nil}
use Rattle.std.proofs.lemmas.Bool.{ltb-false}
use Rattle.std.specs.Prelude.{codes}
use Rattle.js_term.specs.Term.{Text, is_text, Term, absent, list, node, Terms, none, more, one, two, all, strip}
use Rattle.js_term.specs.declared.kind.Kind.{Kind}
use Rattle.js_term.specs.declared.kind.Kind.TheVariants as Kind
use Rattle.js_term.specs.Lexeme.{whole, is_word, is_decimal, is_reserved, not_next, goes_on}
use Rattle.js_term.specs.Node.{name_of, binding_of, string_of, object_of, function_of, const_of, return_of, statement_of, specifier_of, import_declaration_of, program_of, parenthesized_of}
use Rattle.js_term.specs.Spells.{level, level_first, joined, is_string_literal, Stands, parenthesized, object, last, Properties, no_properties, last_property, and_property, Statement, declaration, returns, expression, Declaration, constant, function, Specifier, renamed, unrenamed, Specifiers, last_specifier, and_specifier, Item, statement, imports, exports, Items, no_more_items, next_item, Spells, spells}
use Rattle.js_term.specs.Form.{Sort, Place, one_text, no_texts, two_flags, is_off, is_truth, is_binding_name, is_property, many, some, single, several, empty, is_printable}
use Rattle.js_term.specs.Form as form
use Rattle.js_print.specs.Layout.{pieces, all_pieces, printed, commas, all_escaped, braces, lines, renamed_text, is_looser, leads, needs, no_need, in_parentheses, held, held_kids, wrapped, layout, IsPrinted}
use Rattle.js_print.proofs.Lexemes.{word_token, string_token, sign_token, behind_gap}
use Rattle.js_print.proofs.Blanks.{gap_listed, gap_property, gap_declaration, gap_specifier, gap_item, gap_stands}
use Rattle.js_print.proofs.Fit.{differ, and_left, and_right, fit, fit_each, fit_places, one_part, two_parts, three_parts, empty_part, many_part, some_part, single_part, text_alone, text_none}
use Rattle.js_print.proofs.Leads.{listed_opens}
use Rattle.js_print.proofs.Strip.{strip_held}
use Rattle.js_print.proofs.Standing.{text_same, Standing, Lists, Claim, Claims, AllClaims, moved, held_level, held_stands, listing, all_listing, ends, ends_by, fresh_append, fresh_line, is_fresh, true_not}
use Rattle.js_print.proofs.Standing as standing
use Rattle.js_print.proofs.Expressions.{or_left, or_right, binding_alone, name_alone, source_alone, tight, Freshly, identifier_step, string_step, number_step, boolean_step, call_step, member_step, await_step, array_step, sequence_step, identifier_fresh, numeric_fresh, boolean_fresh, call_fresh, member_fresh, sequence_fresh}
use Rattle.js_print.proofs.Statements.{plainly, first_of_one, first_of_more, InParentheses, parameters_stand}
use Rattle.js_print.proofs.Modules.{flags_off, statement_place, item_place, node_piece, claim_of, braces_some, InBraces, body_stands, gap_body, property_stands}

abbrev expression_place : Place
expression_place = standing.expression

abbrev property_place : Place
property_place = form.one Sort.property

abbrev comma_blank : Text
comma_blank = codes ", "

abbrev is_sequence : Kind → Bool
is_sequence Kind.SequenceExpression = true
is_sequence k = false

-- object literals

gap_properties : {p : Term} {ps : List Term} {a b : Text} → Properties whole (p ∷ ps) a b → Properties whole (p ∷ ps) (32 ∷ a) b
gap_properties (last_property p) = last_property (gap_property 32 refl p)
gap_properties (and_property p t ps) = and_property (gap_property 32 refl p) t ps

properties_stand : (t : Term) (ts : Terms) → AllClaims (more t ts) → fit property_place t ≡ true → fit_each property_place ts ≡ true → (rest : Text) → Properties whole (listing (plainly (more t ts))) (commas (all_pieces (plainly (more t ts))) ++ 32 ∷ rest) (32 ∷ rest)
properties_stand t none g h hs rest =
    moved (λ a. Properties whole (wrapped t ∷ []) a (32 ∷ rest)) (commas (pieces (wrapped t) ++ []) ++ 32 ∷ rest) (printed (wrapped t) ++ 32 ∷ rest)
    (first_of_one comma_blank (printed (wrapped t)) (pieces (wrapped t)) (32 ∷ rest) (node_piece Sort.property no_need t h))
    (last_property (property_stands t g.0 h 32 rest refl))
properties_stand t (more v vs) g h hs rest =
    let hv : fit property_place v ≡ true = and_left (fit property_place v) (fit_each property_place vs) hs in
    let ps : List Text = all_pieces (plainly (more v vs)) in
    let ps_is : ps ≡ printed (wrapped v) ∷ all_pieces (plainly vs) = ap (λ q. q ++ all_pieces (plainly vs)) (node_piece Sort.property no_need v hv) in
    moved (λ a. Properties whole (listing (plainly (more t (more v vs)))) a (32 ∷ rest)) (commas (pieces (wrapped t) ++ ps) ++ 32 ∷ rest) (printed (wrapped t) ++ 44 ∷ 32 ∷ (commas ps ++ 32 ∷ rest))
    (first_of_more comma_blank (printed (wrapped t)) (printed (wrapped v)) (pieces (wrapped t)) ps (all_pieces (plainly vs)) (32 ∷ rest) (node_piece Sort.property no_need t h) ps_is)
    (and_property (property_stands t g.0 h 44 (32 ∷ (commas ps ++ 32 ∷ rest)) refl) (sign_token 44 (32 ∷ (commas ps ++ 32 ∷ rest)) refl)
    (gap_properties (properties_stand v vs g.1 hv (and_right (fit property_place v) (fit_each property_place vs) hs) rest)))

object_step : (texts : List Text) (ts : Terms) → AllClaims ts → no_texts texts ≡ true → fit_places (many Sort.property ∷ []) ts ≡ true → (rest : Text) → Standing (node Kind.ObjectExpression texts ts) rest
object_step texts ts g a p rest =
    text_none (λ xs. Standing (node Kind.ObjectExpression xs ts) rest)
    (one_part (λ us. AllClaims us → Standing (node Kind.ObjectExpression [] us) rest) (many Sort.property)
    (λ f hf. many_part (λ v. AllClaims (one v) → Standing (node Kind.ObjectExpression [] (one v)) rest) Sort.property of_properties f hf) ts p g) texts a
  where
    of_properties : (us : Terms) → fit_each property_place us ≡ true → AllClaims (one (list us)) → Standing (node Kind.ObjectExpression [] (one (list us))) rest
    of_properties none e k = object (sign_token 123 (125 ∷ rest) refl) no_properties (sign_token 125 rest refl)
    of_properties (more v vs) e k =
        let hv : fit property_place v ≡ true = and_left (fit property_place v) (fit_each property_place vs) e in
        let ps : List Text = all_pieces (plainly (more v vs)) in
        let ps_is : ps ≡ printed (wrapped v) ∷ all_pieces (plainly vs) = ap (λ q. q ++ all_pieces (plainly vs)) (node_piece Sort.property no_need v hv) in
        moved (λ b. Stands whole (object_of (plainly (more v vs))) b rest) (braces comma_blank ps ++ rest) (123 ∷ 32 ∷ (commas ps ++ 32 ∷ 125 ∷ rest))
        (braces_some comma_blank (printed (wrapped v)) (all_pieces (plainly vs)) ps rest ps_is)
        (subst (λ us. Stands whole (object_of us) (123 ∷ 32 ∷ (commas ps ++ 32 ∷ 125 ∷ rest)) rest) (all_listing (plainly (more v vs)))
        (object (sign_token 123 (32 ∷ (commas ps ++ 32 ∷ 125 ∷ rest)) refl)
        (gap_properties (properties_stand v vs k.0 hv (and_right (fit property_place v) (fit_each property_place vs) e) (125 ∷ rest)))
        (behind_gap 32 refl (sign_token 125 rest refl))))

braces_fresh : (separator : Text) (ps : List Text) → is_fresh (braces separator ps) ≡ true
braces_fresh separator [] = refl
braces_fresh separator (x ∷ xs) = refl

-- declarations

abbrev DeclarationStands : Term → Text → Type 0
DeclarationStands t rest = Declaration whole (wrapped t) (printed (wrapped t) ++ rest) rest

abbrev StatementStands : Term → Text → Type 0
StatementStands t rest = Statement whole (wrapped t) (printed (wrapped t) ++ rest) rest

constant_stands : (x : Text) (e : Term) → Claims e → is_word x ≡ true → is_reserved x ≡ false → fit expression_place e ≡ true → (rest : Text) → DeclarationStands (const_of x e) rest
constant_stands x e g w r h rest =
    let v : Term = held (is_looser 2) e in
    let body : Text = x ++ 32 ∷ 61 ∷ 32 ∷ printed v in
    let text_is : ((body ++ []) ++ 59 ∷ []) ++ rest ≡ x ++ 32 ∷ 61 ∷ 32 ∷ (printed v ++ 59 ∷ rest) =
    ap (λ y. (y ++ 59 ∷ []) ++ rest) (append-nil body) ∙ append_assoc body (59 ∷ []) rest ∙ append_assoc x (32 ∷ 61 ∷ 32 ∷ printed v) (59 ∷ rest) in
    moved (λ a. Declaration whole (const_of x v) a rest) (codes "const" ++ 32 ∷ (((body ++ []) ++ 59 ∷ []) ++ rest)) (codes "const" ++ 32 ∷ (x ++ 32 ∷ 61 ∷ 32 ∷ (printed v ++ 59 ∷ rest))) (ap (λ y. codes "const" ++ 32 ∷ y) text_is)
    (constant r (held_level 2 (is_looser 2) e (lit≤ tt) (tight 2) h) (word_token (codes "const") (32 ∷ (x ++ 32 ∷ 61 ∷ 32 ∷ (printed v ++ 59 ∷ rest))) refl refl)
    (behind_gap 32 refl (word_token x (32 ∷ 61 ∷ 32 ∷ (printed v ++ 59 ∷ rest)) w refl))
    (behind_gap 32 refl (sign_token 61 (32 ∷ (printed v ++ 59 ∷ rest)) refl))
    (gap_stands 32 refl (held_stands (is_looser 2) e g h (tight 2) (59 ∷ rest) (λ n. ends_by e (59 ∷ rest) refl)))
    (sign_token 59 rest refl))

declarator_alone : (C : Term → Type 0) → ((x : Text) (e : Term) → is_word x ≡ true → is_reserved x ≡ false → fit expression_place e ≡ true → C (node Kind.VariableDeclarator [] (two (binding_of x) e))) → (t : Term) → fit (form.one Sort.declarator) t ≡ true → C t
declarator_alone C f absent h = differ (sym h)
declarator_alone C f (list ts) h = differ (sym h)
declarator_alone C f (node Kind.VariableDeclarator texts ts) h =
    text_none (λ xs. C (node Kind.VariableDeclarator xs ts))
    (two_parts (λ us. C (node Kind.VariableDeclarator [] us)) (form.one Sort.binding) expression_place
    (λ t u ht hu. binding_alone (λ v. C (node Kind.VariableDeclarator [] (two v u))) (λ x w r. f x u w r hu) t ht) ts
    (and_right (no_texts texts) (fit_places (form.one Sort.binding ∷ expression_place ∷ []) ts) h)) texts (and_left (no_texts texts) (fit_places (form.one Sort.binding ∷ expression_place ∷ []) ts) h)
declarator_alone C f (node k texts ts) h = differ (sym h)

variables_step : (texts : List Text) (ts : Terms) → AllClaims ts → one_text (λ x. is_text x (codes "const")) texts ≡ true → fit_places (single Sort.declarator ∷ []) ts ≡ true → (rest : Text) → DeclarationStands (node Kind.VariableDeclaration texts ts) rest
variables_step texts ts g a p rest =
    text_alone (λ xs. DeclarationStands (node Kind.VariableDeclaration xs ts) rest) (λ x. is_text x (codes "const"))
    (λ x h. subst (λ y. DeclarationStands (node Kind.VariableDeclaration (y ∷ []) ts) rest) (sym (text_same x (codes "const") h))
    (one_part (λ us. AllClaims us → DeclarationStands (node Kind.VariableDeclaration (codes "const" ∷ []) us) rest) (single Sort.declarator)
    (λ f hf. single_part (λ v. AllClaims (one v) → DeclarationStands (node Kind.VariableDeclaration (codes "const" ∷ []) (one v)) rest) Sort.declarator
    (λ d hd. declarator_alone (λ v. AllClaims (one (list (one v))) → DeclarationStands (node Kind.VariableDeclaration (codes "const" ∷ []) (one (list (one v)))) rest)
    (λ y e w r he k. constant_stands y e k.0.0.1.1.0 w r he rest) d hd) f hf) ts p g)) texts a

function_step : (texts : List Text) (ts : Terms) → AllClaims ts → two_flags texts ≡ true → fit_places (form.one Sort.binding ∷ form.one Sort.parameters ∷ form.one Sort.function_body ∷ []) ts ≡ true → (rest : Text) → DeclarationStands (node Kind.FunctionDeclaration texts ts) rest
function_step texts ts g a p rest =
    flags_off (λ xs. DeclarationStands (node Kind.FunctionDeclaration xs ts) rest)
    (three_parts (λ us. AllClaims us → DeclarationStands (node Kind.FunctionDeclaration ([] ∷ [] ∷ []) us) rest) (form.one Sort.binding) (form.one Sort.parameters) (form.one Sort.function_body)
    (λ t u v ht hu hv. binding_alone (λ s. AllClaims (more s (two u v)) → DeclarationStands (node Kind.FunctionDeclaration ([] ∷ [] ∷ []) (more s (two u v))) rest) (λ x w r k. of_parts x u v w r hu hv k) t ht) ts p g) texts a
  where
    of_parts : (x : Text) (u v : Term) → is_word x ≡ true → is_reserved x ≡ false → fit (form.one Sort.parameters) u ≡ true → fit (form.one Sort.function_body) v ≡ true → AllClaims (more (binding_of x) (two u v)) → DeclarationStands (node Kind.FunctionDeclaration ([] ∷ [] ∷ []) (more (binding_of x) (two u v))) rest
    of_parts x u v w r hu hv k =
        let b : InBraces v rest = body_stands v k.1.1.0 hv rest in
        let behind_is : Text = printed (wrapped v) ++ rest in
        let ps : InParentheses u (32 ∷ behind_is) = parameters_stand u hu (32 ∷ behind_is) in
        let t : Text = ps.inside ++ 41 ∷ 32 ∷ behind_is in
        let text_is : (x ++ (printed (wrapped u) ++ 32 ∷ printed (wrapped v))) ++ rest ≡ x ++ 40 ∷ t =
        append_assoc x (printed (wrapped u) ++ 32 ∷ printed (wrapped v)) rest ∙ ap (λ y. x ++ y) (append_assoc (printed (wrapped u)) (32 ∷ printed (wrapped v)) rest ∙ ps.text_is) in
        let node_is : node Kind.FunctionDeclaration ([] ∷ [] ∷ []) (more (binding_of x) (two (wrapped u) (wrapped v))) ≡ function_of x ps.texts (all b.statements) =
        λ i. node Kind.FunctionDeclaration ([] ∷ [] ∷ []) (more (binding_of x) (two (ps.same i) (b.same i))) in
        moved (λ y. Declaration whole (node Kind.FunctionDeclaration ([] ∷ [] ∷ []) (more (binding_of x) (two (wrapped u) (wrapped v)))) y rest) (codes "function" ++ 32 ∷ ((x ++ (printed (wrapped u) ++ 32 ∷ printed (wrapped v))) ++ rest)) (codes "function" ++ 32 ∷ (x ++ 40 ∷ t)) (ap (λ y. codes "function" ++ 32 ∷ y) text_is)
        (subst (λ d. Declaration whole d (codes "function" ++ 32 ∷ (x ++ 40 ∷ t)) rest) (sym node_is)
        (function r (word_token (codes "function") (32 ∷ (x ++ 40 ∷ t)) refl refl) (behind_gap 32 refl (word_token x (40 ∷ t) w refl)) (sign_token 40 t refl) ps.stand (sign_token 41 (32 ∷ behind_is) refl) (gap_body b.stand)))

-- statements

return_step : (texts : List Text) (ts : Terms) → AllClaims ts → no_texts texts ≡ true → fit_places (expression_place ∷ []) ts ≡ true → (rest : Text) → StatementStands (node Kind.ReturnStatement texts ts) rest
return_step texts ts g a p rest =
    text_none (λ xs. StatementStands (node Kind.ReturnStatement xs ts) rest)
    (one_part (λ us. AllClaims us → StatementStands (node Kind.ReturnStatement [] us) rest) expression_place of_argument ts p g) texts a
  where
    of_argument : (e : Term) → fit expression_place e ≡ true → AllClaims (one e) → StatementStands (node Kind.ReturnStatement [] (one e)) rest
    of_argument e h k =
        let c : Claim e = claim_of Sort.expression e k.0 h in
        let v : Text = printed (wrapped e) in
        let l : Lists (wrapped e) (v ++ 59 ∷ rest) (59 ∷ rest) = c.lists h (59 ∷ rest) (ends_by e (59 ∷ rest) refl) in
        moved (λ b. Statement whole (return_of (wrapped e)) b rest) (codes "return" ++ 32 ∷ ((v ++ 59 ∷ []) ++ rest)) (codes "return" ++ 32 ∷ (v ++ 59 ∷ rest)) (ap (λ y. codes "return" ++ 32 ∷ y) (append_assoc v (59 ∷ []) rest))
        (subst (λ u. Statement whole (return_of u) (codes "return" ++ 32 ∷ (v ++ 59 ∷ rest)) rest) l.is_joined
        (returns (word_token (codes "return") (32 ∷ (v ++ 59 ∷ rest)) refl refl) (fresh_line (v ++ 59 ∷ rest) (fresh_append v (59 ∷ rest) (c.fresh h))) (gap_listed 32 refl l.stand) (sign_token 59 rest refl)))

effect_place : Place
effect_place = form.one Sort.effect

effect_fits : (t : Term) → fit (form.one Sort.effect) t ≡ true → fit expression_place t ≡ true
effect_fits absent h = h
effect_fits (list ts) h = h
effect_fits (node k texts ts) h = h

-- the expression of a statement, in parentheses where it would be read otherwise
effect_step : (texts : List Text) (ts : Terms) → AllClaims ts → no_texts texts ≡ true → fit_places (form.one Sort.effect ∷ []) ts ≡ true → (rest : Text) → StatementStands (node Kind.ExpressionStatement texts ts) rest
effect_step texts ts g a p rest =
    text_none (λ xs. StatementStands (node Kind.ExpressionStatement xs ts) rest)
    (one_part (λ us. AllClaims us → StatementStands (node Kind.ExpressionStatement [] us) rest) (form.one Sort.effect) of_effect ts p g) texts a
  where
    need : Term → Bool
    need t = leads t || is_string_literal t

    of_effect : (e : Term) → fit (form.one Sort.effect) e ≡ true → AllClaims (one e) → StatementStands (node Kind.ExpressionStatement [] (one e)) rest
    of_effect absent h k = differ (sym h)
    of_effect (list us) h k = differ (sym h)
    of_effect (node j xs us) h k = by (need u) refl
      where
        u : Term
        u = node j xs (held_kids (needs j) us)

        l : Lists u (printed u ++ 59 ∷ rest) (59 ∷ rest)
        l = k.0.0.lists h (59 ∷ rest) (ends_by (node j xs us) (59 ∷ rest) refl)

        m : Lists u (printed u ++ 41 ∷ 59 ∷ rest) (41 ∷ 59 ∷ rest)
        m = k.0.0.lists h (41 ∷ 59 ∷ rest) (ends_by (node j xs us) (41 ∷ 59 ∷ rest) refl)

        wraps : Stands whole (parenthesized_of u) (40 ∷ (printed u ++ 41 ∷ 59 ∷ rest)) (59 ∷ rest)
        wraps = subst (λ v. Stands whole (parenthesized_of v) (40 ∷ (printed u ++ 41 ∷ 59 ∷ rest)) (59 ∷ rest)) m.is_joined (parenthesized (sign_token 40 (printed u ++ 41 ∷ 59 ∷ rest) refl) m.stand (sign_token 41 (59 ∷ rest) refl))

        by : (c : Bool) → need u ≡ c → Statement whole (statement_of (in_parentheses c u)) ((printed (in_parentheses c u) ++ 59 ∷ []) ++ rest) rest
        by true n =
            moved (λ b. Statement whole (statement_of (parenthesized_of u)) b rest) (40 ∷ (((printed u ++ 41 ∷ []) ++ 59 ∷ []) ++ rest)) (40 ∷ (printed u ++ 41 ∷ 59 ∷ rest)) (ap (λ y. 40 ∷ y) (append_assoc (printed u ++ 41 ∷ []) (59 ∷ []) rest ∙ append_assoc (printed u) (41 ∷ []) (59 ∷ rest)))
            (expression {es = parenthesized_of u ∷ []} refl refl (last (lit≤ tt) wraps) (sign_token 59 rest refl))
        by false n =
            let leads_not : leads (joined l.items) ≡ false = ap leads l.is_joined ∙ or_left (leads u) (is_string_literal u) n in
            let string_not : is_string_literal (joined l.items) ≡ false = ap is_string_literal l.is_joined ∙ or_right (leads u) (is_string_literal u) n in
            moved (λ b. Statement whole (statement_of u) b rest) ((printed u ++ 59 ∷ []) ++ rest) (printed u ++ 59 ∷ rest) (append_assoc (printed u) (59 ∷ []) rest)
            (subst (λ v. Statement whole (statement_of v) (printed u ++ 59 ∷ rest) rest) l.is_joined
            (expression (listed_opens l.stand leads_not) string_not l.stand (sign_token 59 rest refl)))

-- all claims of a node, from those of its parts

stands_by : (k : Kind) (texts : List Text) (ts : Terms) → AllClaims ts → fit expression_place (node k texts ts) ≡ true → is_looser 2 (wrapped (node k texts ts)) ≡ false → (rest : Text) → ends (node k texts ts) rest ≡ true → Standing (node k texts ts) rest
stands_by Kind.Identifier texts ts g h l rest e = identifier_step texts ts (and_left (one_text is_binding_name texts) (fit_places [] ts) h) (and_right (one_text is_binding_name texts) (fit_places [] ts) h) rest e
stands_by Kind.StringLiteral texts ts g h l rest e = string_step texts ts (and_left (one_text (λ x. true) texts) (fit_places [] ts) h) (and_right (one_text (λ x. true) texts) (fit_places [] ts) h) rest
stands_by Kind.NumericLiteral texts ts g h l rest e = number_step texts ts (and_left (one_text is_decimal texts) (fit_places [] ts) h) (and_right (one_text is_decimal texts) (fit_places [] ts) h) rest e
stands_by Kind.BooleanLiteral texts ts g h l rest e = boolean_step texts ts (and_left (one_text is_truth texts) (fit_places [] ts) h) (and_right (one_text is_truth texts) (fit_places [] ts) h) rest e
stands_by Kind.CallExpression texts ts g h l rest e = call_step texts ts g (and_left (one_text is_off texts) (fit_places (expression_place ∷ many Sort.expression ∷ []) ts) h) (and_right (one_text is_off texts) (fit_places (expression_place ∷ many Sort.expression ∷ []) ts) h) rest
stands_by Kind.StaticMemberExpression texts ts g h l rest e = member_step texts ts g (and_left (one_text is_off texts) (fit_places (expression_place ∷ form.one Sort.name ∷ []) ts) h) (and_right (one_text is_off texts) (fit_places (expression_place ∷ form.one Sort.name ∷ []) ts) h) rest e
stands_by Kind.AwaitExpression texts ts g h l rest e = await_step texts ts g (and_left (no_texts texts) (fit_places (expression_place ∷ []) ts) h) (and_right (no_texts texts) (fit_places (expression_place ∷ []) ts) h) rest e
stands_by Kind.ArrayExpression texts ts g h l rest e = array_step texts ts g (and_left (no_texts texts) (fit_places (many Sort.expression ∷ []) ts) h) (and_right (no_texts texts) (fit_places (many Sort.expression ∷ []) ts) h) rest
stands_by Kind.ObjectExpression texts ts g h l rest e = object_step texts ts g (and_left (no_texts texts) (fit_places (many Sort.property ∷ []) ts) h) (and_right (no_texts texts) (fit_places (many Sort.property ∷ []) ts) h) rest
stands_by Kind.SequenceExpression texts ts g h l rest e = differ l
stands_by k texts ts g h l rest e = differ (sym h)

fresh_by : (k : Kind) (texts : List Text) (ts : Terms) → AllClaims ts → fit expression_place (node k texts ts) ≡ true → Freshly (node k texts ts)
fresh_by Kind.Identifier texts ts g h = identifier_fresh texts ts (and_left (one_text is_binding_name texts) (fit_places [] ts) h)
fresh_by Kind.StringLiteral texts ts g h = refl
fresh_by Kind.NumericLiteral texts ts g h = numeric_fresh texts ts (and_left (one_text is_decimal texts) (fit_places [] ts) h)
fresh_by Kind.BooleanLiteral texts ts g h = boolean_fresh texts ts (and_left (one_text is_truth texts) (fit_places [] ts) h)
fresh_by Kind.CallExpression texts ts g h = call_fresh texts ts g (and_right (one_text is_off texts) (fit_places (expression_place ∷ many Sort.expression ∷ []) ts) h)
fresh_by Kind.StaticMemberExpression texts ts g h = member_fresh texts ts g (and_right (one_text is_off texts) (fit_places (expression_place ∷ form.one Sort.name ∷ []) ts) h)
fresh_by Kind.AwaitExpression texts ts g h = refl
fresh_by Kind.ArrayExpression texts ts g h = refl
fresh_by Kind.ObjectExpression texts ts g h =
    one_part (λ us. Freshly (node Kind.ObjectExpression texts us)) (many Sort.property) (λ f hf. braces_fresh comma_blank (pieces (held no_need f))) ts (and_right (no_texts texts) (fit_places (many Sort.property ∷ []) ts) h)
fresh_by Kind.SequenceExpression texts ts g h = sequence_fresh texts ts g (and_right (no_texts texts) (fit_places (several Sort.expression ∷ []) ts) h)
fresh_by k texts ts g h = differ (sym h)

-- only a sequence is looser than an item of a list
tight_by : (k : Kind) (texts : List Text) (ts : Terms) → is_sequence k ≡ false → is_looser 2 (wrapped (node k texts ts)) ≡ false
tight_by Kind.SequenceExpression texts ts h = differ h
tight_by Kind.StaticMemberExpression texts ts h = by (nat_eq (level_first (held_kids (needs Kind.StaticMemberExpression) ts)) 19)
  where
    by : (b : Bool) → nat_lt (cond b 19 20) 2 ≡ false
    by true = refl
    by false = refl
tight_by k texts ts h = refl

lists_by : (k : Kind) (texts : List Text) (ts : Terms) → AllClaims ts → fit expression_place (node k texts ts) ≡ true → (rest : Text) → ends (node k texts ts) rest ≡ true → (b : Bool) → is_sequence k ≡ b → Lists (wrapped (node k texts ts)) (printed (wrapped (node k texts ts)) ++ rest) rest
lists_by k texts ts g h rest e false l =
    let t : is_looser 2 (wrapped (node k texts ts)) ≡ false = tight_by k texts ts l in
    record { items = wrapped (node k texts ts) ∷ []; is_joined = refl; stand = last (ltb-false (level (wrapped (node k texts ts))) 2 t) (stands_by k texts ts g h t rest e) }
lists_by Kind.SequenceExpression texts ts g h rest e true l = sequence_step texts ts g (and_left (no_texts texts) (fit_places (several Sort.expression ∷ []) ts) h) (and_right (no_texts texts) (fit_places (several Sort.expression ∷ []) ts) h) rest e
lists_by k texts ts g h rest e true l = differ (sym l)

declares_by : (k : Kind) (texts : List Text) (ts : Terms) → AllClaims ts → fit (form.one Sort.declaration) (node k texts ts) ≡ true → (rest : Text) → DeclarationStands (node k texts ts) rest
declares_by Kind.VariableDeclaration texts ts g h rest = variables_step texts ts g (and_left (one_text (λ x. is_text x (codes "const")) texts) (fit_places (single Sort.declarator ∷ []) ts) h) (and_right (one_text (λ x. is_text x (codes "const")) texts) (fit_places (single Sort.declarator ∷ []) ts) h) rest
declares_by Kind.FunctionDeclaration texts ts g h rest = function_step texts ts g (and_left (two_flags texts) (fit_places (form.one Sort.binding ∷ form.one Sort.parameters ∷ form.one Sort.function_body ∷ []) ts) h) (and_right (two_flags texts) (fit_places (form.one Sort.binding ∷ form.one Sort.parameters ∷ form.one Sort.function_body ∷ []) ts) h) rest
declares_by k texts ts g h rest = differ (sym h)

states_by : (k : Kind) (texts : List Text) (ts : Terms) → AllClaims ts → fit statement_place (node k texts ts) ≡ true → (rest : Text) → StatementStands (node k texts ts) rest
states_by Kind.ReturnStatement texts ts g h rest = return_step texts ts g (and_left (no_texts texts) (fit_places (expression_place ∷ []) ts) h) (and_right (no_texts texts) (fit_places (expression_place ∷ []) ts) h) rest
states_by Kind.ExpressionStatement texts ts g h rest = effect_step texts ts g (and_left (no_texts texts) (fit_places (form.one Sort.effect ∷ []) ts) h) (and_right (no_texts texts) (fit_places (form.one Sort.effect ∷ []) ts) h) rest
states_by Kind.VariableDeclaration texts ts g h rest = declaration (declares_by Kind.VariableDeclaration texts ts g h rest)
states_by Kind.FunctionDeclaration texts ts g h rest = declaration (declares_by Kind.FunctionDeclaration texts ts g h rest)
states_by k texts ts g h rest = differ (sym h)

mutual
  claims : (t : Term) → Claims t
  claims absent = tt
  claims (list ts) = all_claims ts
  claims (node k texts ts) =
      let g : AllClaims ts = all_claims ts in (
        record {
          stands = stands_by k texts ts g;
          lists = λ h rest e. lists_by k texts ts g h rest e (is_sequence k) refl;
          fresh = fresh_by k texts ts g;
          states = states_by k texts ts g;
          declares = declares_by k texts ts g;
        },
        g,
      )

  all_claims : (ts : Terms) → AllClaims ts
  all_claims none = tt
  all_claims (more t ts) = (claims t, all_claims ts)

-- imports

specifier_stands : (t : Term) → fit (form.one Sort.specifier) t ≡ true → (rest : Text) → not_next goes_on rest ≡ true → Specifier whole (wrapped t) (printed (wrapped t) ++ rest) rest
specifier_stands absent h rest e = differ (sym h)
specifier_stands (list ts) h rest e = differ (sym h)
specifier_stands (node Kind.ImportSpecifier texts ts) h rest e =
    text_none (λ xs. S (node Kind.ImportSpecifier xs ts))
    (two_parts (λ us. S (node Kind.ImportSpecifier [] us)) (form.one Sort.name) (form.one Sort.binding)
    (λ t u ht hu. name_alone (λ v. S (node Kind.ImportSpecifier [] (two v u))) (λ x w. binding_alone (λ v. S (node Kind.ImportSpecifier [] (two (name_of x) v))) (λ y v r. of_names x y w v r (is_text x y) refl) u hu) t ht) ts
    (and_right (no_texts texts) (fit_places (form.one Sort.name ∷ form.one Sort.binding ∷ []) ts) h)) texts (and_left (no_texts texts) (fit_places (form.one Sort.name ∷ form.one Sort.binding ∷ []) ts) h)
  where
    S : Term → Type 0
    S t = Specifier whole (wrapped t) (printed (wrapped t) ++ rest) rest

    of_names : (x y : Text) → is_word x ≡ true → is_word y ≡ true → is_reserved y ≡ false → (b : Bool) → is_text x y ≡ b → S (specifier_of x y)
    of_names x y w v r true q =
        let p : x ≡ y = text_same x y q in
        moved (λ a. Specifier whole (specifier_of x y) a rest) (renamed_text false x y ++ rest) (x ++ rest) (rw q refl)
        (subst (λ z. Specifier whole (specifier_of x z) (x ++ rest) rest) p (unrenamed (subst (λ z. is_reserved z ≡ false) (sym p) r) (word_token x rest w e)))
    of_names x y w v r false q =
        moved (λ a. Specifier whole (specifier_of x y) a rest) (renamed_text false x y ++ rest) (x ++ 32 ∷ (codes "as" ++ 32 ∷ (y ++ rest))) (rw q (append_assoc x (32 ∷ (codes "as" ++ 32 ∷ y)) rest))
        (renamed r (word_token x (32 ∷ (codes "as" ++ 32 ∷ (y ++ rest))) w refl) (behind_gap 32 refl (word_token (codes "as") (32 ∷ (y ++ rest)) refl refl)) (behind_gap 32 refl (word_token y rest v e)))
specifier_stands (node k texts ts) h rest e = differ (sym h)

specifier_place : Place
specifier_place = form.one Sort.specifier

gap_specifiers : {s : Term} {ss : List Term} {a b : Text} → Specifiers whole (s ∷ ss) a b → Specifiers whole (s ∷ ss) (32 ∷ a) b
gap_specifiers (last_specifier s) = last_specifier (gap_specifier 32 refl s)
gap_specifiers (and_specifier s t ss) = and_specifier (gap_specifier 32 refl s) t ss

specifiers_stand : (t : Term) (ts : Terms) → fit (form.one Sort.specifier) t ≡ true → fit_each (form.one Sort.specifier) ts ≡ true → (rest : Text) → Specifiers whole (listing (plainly (more t ts))) (commas (all_pieces (plainly (more t ts))) ++ 32 ∷ rest) (32 ∷ rest)
specifiers_stand t none h hs rest =
    moved (λ a. Specifiers whole (wrapped t ∷ []) a (32 ∷ rest)) (commas (pieces (wrapped t) ++ []) ++ 32 ∷ rest) (printed (wrapped t) ++ 32 ∷ rest)
    (first_of_one comma_blank (printed (wrapped t)) (pieces (wrapped t)) (32 ∷ rest) (node_piece Sort.specifier no_need t h))
    (last_specifier (specifier_stands t h (32 ∷ rest) refl))
specifiers_stand t (more v vs) h hs rest =
    let hv : fit (form.one Sort.specifier) v ≡ true = and_left (fit (form.one Sort.specifier) v) (fit_each (form.one Sort.specifier) vs) hs in
    let ps : List Text = all_pieces (plainly (more v vs)) in
    let ps_is : ps ≡ printed (wrapped v) ∷ all_pieces (plainly vs) = ap (λ q. q ++ all_pieces (plainly vs)) (node_piece Sort.specifier no_need v hv) in
    moved (λ a. Specifiers whole (listing (plainly (more t (more v vs)))) a (32 ∷ rest)) (commas (pieces (wrapped t) ++ ps) ++ 32 ∷ rest) (printed (wrapped t) ++ 44 ∷ 32 ∷ (commas ps ++ 32 ∷ rest))
    (first_of_more comma_blank (printed (wrapped t)) (printed (wrapped v)) (pieces (wrapped t)) ps (all_pieces (plainly vs)) (32 ∷ rest) (node_piece Sort.specifier no_need t h) ps_is)
    (and_specifier (specifier_stands t h (44 ∷ 32 ∷ (commas ps ++ 32 ∷ rest)) refl) (sign_token 44 (32 ∷ (commas ps ++ 32 ∷ rest)) refl)
    (gap_specifiers (specifiers_stand v vs hv (and_right (fit (form.one Sort.specifier) v) (fit_each (form.one Sort.specifier) vs) hs) rest)))

-- the items of a module

abbrev ItemStands : Term → Text → Type 0
ItemStands t rest = Item whole (wrapped t) (printed (wrapped t) ++ rest) rest

import_step : (texts : List Text) (ts : Terms) → no_texts texts ≡ true → fit_places (some Sort.specifier ∷ form.one Sort.source ∷ []) ts ≡ true → (rest : Text) → ItemStands (node Kind.ImportDeclaration texts ts) rest
import_step texts ts a p rest =
    text_none (λ xs. ItemStands (node Kind.ImportDeclaration xs ts) rest)
    (two_parts (λ us. ItemStands (node Kind.ImportDeclaration [] us) rest) (some Sort.specifier) (form.one Sort.source)
    (λ t u ht hu. source_alone (λ v. ItemStands (node Kind.ImportDeclaration [] (two t v)) rest) (λ x. some_part (λ v. ItemStands (node Kind.ImportDeclaration [] (two v (string_of x))) rest) Sort.specifier (λ s ss hs hss. of_specifiers x s ss hs hss) t ht) u hu) ts p) texts a
  where
    of_specifiers : (x : Text) (s : Term) (ss : Terms) → fit (form.one Sort.specifier) s ≡ true → fit_each (form.one Sort.specifier) ss ≡ true → ItemStands (import_declaration_of (more s ss) x) rest
    of_specifiers x s ss hs hss =
        let cs : Text = commas (all_pieces (plainly (more s ss))) in
        let source : Text = 39 ∷ (all_escaped x ++ 39 ∷ []) in
        let last_text : Text = source ++ 59 ∷ rest in
        let text_is : (cs ++ 32 ∷ 125 ∷ 32 ∷ (codes "from" ++ 32 ∷ (source ++ 59 ∷ []))) ++ rest ≡ cs ++ 32 ∷ 125 ∷ 32 ∷ (codes "from" ++ 32 ∷ last_text) =
        append_assoc cs (32 ∷ 125 ∷ 32 ∷ (codes "from" ++ 32 ∷ (source ++ 59 ∷ []))) rest ∙ ap (λ y. cs ++ 32 ∷ 125 ∷ 32 ∷ (codes "from" ++ 32 ∷ y)) (append_assoc source (59 ∷ []) rest) in
        let whole_text : Text = codes "import" ++ 32 ∷ 123 ∷ 32 ∷ (cs ++ 32 ∷ 125 ∷ 32 ∷ (codes "from" ++ 32 ∷ last_text)) in
        moved (λ b. Item whole (import_declaration_of (plainly (more s ss)) x) b rest) (codes "import" ++ 32 ∷ 123 ∷ 32 ∷ ((cs ++ 32 ∷ 125 ∷ 32 ∷ (codes "from" ++ 32 ∷ (source ++ 59 ∷ []))) ++ rest)) whole_text (ap (λ y. codes "import" ++ 32 ∷ 123 ∷ 32 ∷ y) text_is)
        (subst (λ us. Item whole (import_declaration_of us x) whole_text rest) (all_listing (plainly (more s ss)))
        (imports (word_token (codes "import") (32 ∷ 123 ∷ 32 ∷ (cs ++ 32 ∷ 125 ∷ 32 ∷ (codes "from" ++ 32 ∷ last_text))) refl refl)
        (behind_gap 32 refl (sign_token 123 (32 ∷ (cs ++ 32 ∷ 125 ∷ 32 ∷ (codes "from" ++ 32 ∷ last_text))) refl))
        (gap_specifiers (specifiers_stand s ss hs hss (125 ∷ 32 ∷ (codes "from" ++ 32 ∷ last_text))))
        (behind_gap 32 refl (sign_token 125 (32 ∷ (codes "from" ++ 32 ∷ last_text)) refl))
        (behind_gap 32 refl (word_token (codes "from") (32 ∷ last_text) refl refl))
        (behind_gap 32 refl (string_token x (59 ∷ rest)))
        (sign_token 59 rest refl)))

export_step : (texts : List Text) (ts : Terms) → no_texts texts ≡ true → fit_places (form.one Sort.declaration ∷ []) ts ≡ true → (rest : Text) → ItemStands (node Kind.ExportDeclaration texts ts) rest
export_step texts ts a p rest =
    text_none (λ xs. ItemStands (node Kind.ExportDeclaration xs ts) rest)
    (one_part (λ us. ItemStands (node Kind.ExportDeclaration [] us) rest) (form.one Sort.declaration)
    (λ d h. exports (word_token (codes "export") (32 ∷ (printed (wrapped d) ++ rest)) refl refl) (gap_declaration 32 refl ((claim_of Sort.declaration d (claims d) h).declares h rest))) ts p) texts a

item_by : (k : Kind) (texts : List Text) (ts : Terms) → fit item_place (node k texts ts) ≡ true → (rest : Text) → ItemStands (node k texts ts) rest
item_by Kind.ImportDeclaration texts ts h rest = import_step texts ts (and_left (no_texts texts) (fit_places (some Sort.specifier ∷ form.one Sort.source ∷ []) ts) h) (and_right (no_texts texts) (fit_places (some Sort.specifier ∷ form.one Sort.source ∷ []) ts) h) rest
item_by Kind.ExportDeclaration texts ts h rest = export_step texts ts (and_left (no_texts texts) (fit_places (form.one Sort.declaration ∷ []) ts) h) (and_right (no_texts texts) (fit_places (form.one Sort.declaration ∷ []) ts) h) rest
item_by Kind.ExpressionStatement texts ts h rest = statement (states_by Kind.ExpressionStatement texts ts (all_claims ts) h rest)
item_by Kind.VariableDeclaration texts ts h rest = statement (states_by Kind.VariableDeclaration texts ts (all_claims ts) h rest)
item_by Kind.FunctionDeclaration texts ts h rest = statement (states_by Kind.FunctionDeclaration texts ts (all_claims ts) h rest)
item_by k texts ts h rest = differ (sym h)

item_stands : (t : Term) → fit item_place t ≡ true → (rest : Text) → ItemStands t rest
item_stands absent h rest = differ (sym h)
item_stands (list ts) h rest = differ (sym h)
item_stands (node k texts ts) h rest = item_by k texts ts h rest

lines_more : (t : Term) (ps : List Text) → fit item_place t ≡ true → lines (pieces (wrapped t) ++ ps) ≡ printed (wrapped t) ++ 10 ∷ lines ps
lines_more t ps h = ap (λ q. lines (q ++ ps)) (node_piece Sort.item no_need t h)

-- items behind the line feed of the one before
items_stand : (ts : Terms) → fit_each item_place ts ≡ true → Items whole (listing (plainly ts)) (10 ∷ lines (all_pieces (plainly ts))) (10 ∷ [])
items_stand none h = no_more_items
items_stand (more t ts) h =
    let ht : fit item_place t ≡ true = and_left (fit item_place t) (fit_each item_place ts) h in
    let ps : List Text = all_pieces (plainly ts) in
    moved (λ a. Items whole (wrapped t ∷ listing (plainly ts)) (10 ∷ a) (10 ∷ [])) (lines (pieces (wrapped t) ++ ps)) (printed (wrapped t) ++ 10 ∷ lines ps) (lines_more t ps ht)
    (next_item (gap_item 10 refl (item_stands t ht (10 ∷ lines ps))) (items_stand ts (and_right (fit item_place t) (fit_each item_place ts) h)))

-- the tree that a printed text spells: the tree with its parentheses
abbrev pub Spelled : Term → Type 0
Spelled t = Spells whole (layout t) (wrapped t)

items_spell : (ts : Terms) → fit_each item_place ts ≡ true → Spelled (program_of ts)
items_spell none h = spells {ss = []} no_more_items refl
items_spell (more t ts) h =
    let ht : fit item_place t ≡ true = and_left (fit item_place t) (fit_each item_place ts) h in
    let ps : List Text = all_pieces (plainly ts) in
    moved (λ a. Spells whole a (program_of (plainly (more t ts)))) (lines (pieces (wrapped t) ++ ps)) (printed (wrapped t) ++ 10 ∷ lines ps) (lines_more t ps ht)
    (subst (λ us. Spells whole (printed (wrapped t) ++ 10 ∷ lines ps) (program_of us)) (all_listing (plainly (more t ts)))
    (spells (next_item (item_stands t ht (10 ∷ lines ps)) (items_stand ts (and_right (fit item_place t) (fit_each item_place ts) h))) refl))

program_spells : (k : Kind) (texts : List Text) (ts : Terms) → fit (form.one Sort.program) (node k texts ts) ≡ true → Spelled (node k texts ts)
program_spells Kind.Program texts ts h =
    text_none (λ xs. Spelled (node Kind.Program xs ts))
    (two_parts (λ us. Spelled (node Kind.Program [] us)) empty (many Sort.item)
    (λ t u ht hu. empty_part (λ v. Spelled (node Kind.Program [] (two v u))) (many_part (λ v. Spelled (node Kind.Program [] (two (list none) v))) Sort.item items_spell u hu) t ht) ts
    (and_right (no_texts texts) (fit_places (empty ∷ many Sort.item ∷ []) ts) h)) texts (and_left (no_texts texts) (fit_places (empty ∷ many Sort.item ∷ []) ts) h)
program_spells k texts ts h = differ (sym h)

pub layout_spells : (t : Term) → is_printable t ≡ true → Spelled t
layout_spells absent h = differ (sym h)
layout_spells (list ts) h = differ (sym h)
layout_spells (node k texts ts) h = program_spells k texts ts h

pub wrapped_same : (t : Term) → strip (wrapped t) ≡ strip t
wrapped_same t = strip_held no_need t

pub printed_module : (t : Term) (text : Text) → is_printable t ≡ true → text ≡ layout t → IsPrinted t text
printed_module t text h e = record { module_written = wrapped t; spelled = moved (λ a. Spells whole a (wrapped t)) text (layout t) e (layout_spells t h); same = wrapped_same t }
