-- What stands for bodies, properties, statements and modules.
use Rattle.std.proofs.Common.{◌≡◌, refl, sym, ◌∙◌, ap, subst, ℕ, List, [], ◌∷◌, ◌++◌, Bool, true, false, ◌&&◌, ◌||◌, lit≤, append_assoc}
use Rattle.std.specs.Prelude.{codes}
use Rattle.js_term.specs.Term.{Text, is_text, Term, absent, list, node, Terms, none, more, two, all}
use Rattle.js_term.specs.declared.kind.Kind.TheVariants as Kind
use Rattle.js_term.specs.Lexeme.{whole, is_word, is_one_of, not_next, goes_on_number}
use Rattle.js_term.specs.Node.{name_of, property_of, method_property_of, parameters_of, body_of}
use Rattle.js_term.specs.Spells.{Parameters, Property, init, method, Body, body, Statements, no_statements, next_statement}
use Rattle.js_term.specs.Form.{Sort, Place, one_text, no_texts, two_flags, is_property, property_places, many, some, single, empty, nothing, is_printable}
use Rattle.js_term.specs.Form as form
use Rattle.js_print.specs.Layout.{pieces, all_pieces, printed, separated, braces, is_looser, needs, no_need, in_parentheses, held, held_kids, wrapped}
use Rattle.js_print.proofs.Lexemes.{word_token, sign_token, behind_gap}
use Rattle.js_print.proofs.Blanks.{gap_stands, gap_statement}
use Rattle.js_print.proofs.Fit.{differ, and_left, and_right, fit, fit_each, fit_places, two_parts, three_parts, absent_part, empty_part, many_part, text_none}
use Rattle.js_print.proofs.Standing.{text_same, Lists, Claim, Claims, AllClaims, moved, held_level, held_stands, listing, all_listing, ends, ends_by, fresh_append, fresh_line, is_fresh}
use Rattle.js_print.proofs.Standing as standing
use Rattle.js_print.proofs.Expressions.{name_alone, tight}
use Rattle.js_print.proofs.Statements.{plainly, first_of_one, first_of_more, InParentheses, parameters_stand}

pub flags_off : (C : List Text → Type 0) → C ([] ∷ [] ∷ []) → (texts : List Text) → two_flags texts ≡ true → C texts
flags_off C f [] h = differ (sym h)
flags_off C f ([] ∷ []) h = differ (sym h)
flags_off C f ([] ∷ [] ∷ []) h = f
flags_off C f ([] ∷ [] ∷ x ∷ xs) h = differ (sym h)
flags_off C f ([] ∷ (c ∷ cs) ∷ xs) h = differ (sym h)
flags_off C f ((c ∷ cs) ∷ xs) h = differ (sym h)

abbrev pub statement_place : Place
statement_place = form.one Sort.statement

abbrev pub item_place : Place
item_place = form.one Sort.item

-- any node has one printed piece
pub node_piece : (s : Sort) (need : Term → Bool) (t : Term) → fit (form.one s) t ≡ true → pieces (held need t) ≡ printed (held need t) ∷ []
node_piece s need absent h = differ (sym h)
node_piece s need (list ts) h = differ (sym h)
node_piece s need (node k texts ts) h = by (need u)
  where
    u : Term
    u = node k texts (held_kids (needs k) ts)

    by : (c : Bool) → pieces (in_parentheses c u) ≡ printed (in_parentheses c u) ∷ []
    by true = refl
    by false = refl

pub claim_of : (s : Sort) (t : Term) → Claims t → fit (form.one s) t ≡ true → Claim t
claim_of s absent g h = differ (sym h)
claim_of s (list ts) g h = differ (sym h)
claim_of s (node k texts ts) g h = g.0

-- statements with blanks between

gap_next : {s : Term} {ss : List Term} {a b : Text} → Statements whole (s ∷ ss) a b → Statements whole (s ∷ ss) (32 ∷ a) b
gap_next (next_statement s ss) = next_statement (gap_statement 32 refl s) ss

statements_stand : (t : Term) (ts : Terms) → AllClaims (more t ts) → fit statement_place t ≡ true → fit_each statement_place ts ≡ true → (rest : Text) → Statements whole (listing (plainly (more t ts))) (separated (codes " ") (all_pieces (plainly (more t ts))) ++ rest) rest
statements_stand t none g h hs rest =
    moved (λ a. Statements whole (wrapped t ∷ []) a rest) (separated (codes " ") (pieces (wrapped t) ++ []) ++ rest) (printed (wrapped t) ++ rest)
    (first_of_one (codes " ") (printed (wrapped t)) (pieces (wrapped t)) rest (node_piece Sort.statement no_need t h))
    (next_statement ((claim_of Sort.statement t g.0 h).states h rest) no_statements)
statements_stand t (more v vs) g h hs rest =
    let hv : fit statement_place v ≡ true = and_left (fit statement_place v) (fit_each statement_place vs) hs in
    let ps : List Text = all_pieces (plainly (more v vs)) in
    let ps_is : ps ≡ printed (wrapped v) ∷ all_pieces (plainly vs) = ap (λ q. q ++ all_pieces (plainly vs)) (node_piece Sort.statement no_need v hv) in
    moved (λ a. Statements whole (listing (plainly (more t (more v vs)))) a rest) (separated (codes " ") (pieces (wrapped t) ++ ps) ++ rest) (printed (wrapped t) ++ 32 ∷ (separated (codes " ") ps ++ rest))
    (first_of_more (codes " ") (printed (wrapped t)) (printed (wrapped v)) (pieces (wrapped t)) ps (all_pieces (plainly vs)) rest (node_piece Sort.statement no_need t h) ps_is)
    (next_statement ((claim_of Sort.statement t g.0 h).states h (32 ∷ (separated (codes " ") ps ++ rest)))
    (gap_next (statements_stand v vs g.1 hv (and_right (fit statement_place v) (fit_each statement_place vs) hs) rest)))

-- braces round items that stand before a blank and the closing brace
pub braces_some : (separator x : Text) (xs ps : List Text) (rest : Text) → ps ≡ x ∷ xs → braces separator ps ++ rest ≡ 123 ∷ 32 ∷ (separated separator ps ++ 32 ∷ 125 ∷ rest)
braces_some separator x xs ps rest e = rw e (ap (λ y. 123 ∷ 32 ∷ y) (append_assoc (separated separator (x ∷ xs)) (32 ∷ 125 ∷ []) rest))

pub gap_body : {ss : List Term} {a b : Text} → Body whole ss a b → Body whole ss (32 ∷ a) b
gap_body (body t ss u) = body (behind_gap 32 refl t) ss u

-- a function body in its braces
pub record InBraces (t : Term) (rest : Text) : Type 0 where
  pub statements : List Term
  pub same : wrapped t ≡ body_of (all statements)
  pub stand : Body whole statements (printed (wrapped t) ++ rest) rest

pub body_stands : (t : Term) → Claims t → fit (form.one Sort.function_body) t ≡ true → (rest : Text) → InBraces t rest
body_stands absent g h rest = differ (sym h)
body_stands (list ts) g h rest = differ (sym h)
body_stands (node Kind.FunctionBody texts ts) g h rest =
    text_none (λ xs. InBraces (node Kind.FunctionBody xs ts) rest)
    (two_parts (λ us. AllClaims us → InBraces (node Kind.FunctionBody [] us) rest) empty (many Sort.statement)
    (λ t u ht hu. empty_part (λ v. AllClaims (two v u) → InBraces (node Kind.FunctionBody [] (two v u)) rest) (many_part (λ v. AllClaims (two (list none) v) → InBraces (node Kind.FunctionBody [] (two (list none) v)) rest) Sort.statement of_statements u hu) t ht) ts
    (and_right (no_texts texts) (fit_places (empty ∷ many Sort.statement ∷ []) ts) h) g.1) texts (and_left (no_texts texts) (fit_places (empty ∷ many Sort.statement ∷ []) ts) h)
  where
    of_statements : (us : Terms) → fit_each statement_place us ≡ true → AllClaims (two (list none) (list us)) → InBraces (node Kind.FunctionBody [] (two (list none) (list us))) rest
    of_statements none e k = record { statements = []; same = refl; stand = body (sign_token 123 (125 ∷ rest) refl) no_statements (sign_token 125 rest refl) }
    of_statements (more v vs) e k =
        let hv : fit statement_place v ≡ true = and_left (fit statement_place v) (fit_each statement_place vs) e in
        let ps : List Text = all_pieces (plainly (more v vs)) in
        let ps_is : ps ≡ printed (wrapped v) ∷ all_pieces (plainly vs) = ap (λ q. q ++ all_pieces (plainly vs)) (node_piece Sort.statement no_need v hv) in
        record {
          statements = listing (plainly (more v vs));
          same = ap body_of (sym (all_listing (plainly (more v vs))));
          stand = moved (λ a. Body whole (listing (plainly (more v vs))) a rest) (braces (codes " ") ps ++ rest) (123 ∷ 32 ∷ (separated (codes " ") ps ++ 32 ∷ 125 ∷ rest))
              (braces_some (codes " ") (printed (wrapped v)) (all_pieces (plainly vs)) ps rest ps_is)
              (body (sign_token 123 (32 ∷ (separated (codes " ") ps ++ 32 ∷ 125 ∷ rest)) refl)
              (gap_next (statements_stand v vs k.1.0 hv (and_right (fit statement_place v) (fit_each statement_place vs) e) (32 ∷ 125 ∷ rest)))
              (behind_gap 32 refl (sign_token 125 rest refl)));
        }
body_stands (node k texts ts) g h rest = differ (sym h)

-- properties

-- a function in method place
record IsMethod (t : Term) (rest : Text) : Type 0 where
  texts : List Text
  statements : List Term
  same : wrapped t ≡ node Kind.FunctionExpression ([] ∷ [] ∷ []) (more absent (two (parameters_of texts) (body_of (all statements))))
  inside : Text
  behind_text : Text
  text_is : printed (wrapped t) ++ rest ≡ 40 ∷ (inside ++ 41 ∷ 32 ∷ behind_text)
  parameters : Parameters whole texts (inside ++ 41 ∷ 32 ∷ behind_text) (41 ∷ 32 ∷ behind_text)
  stand : Body whole statements behind_text rest

method_stands : (t : Term) → Claims t → fit (form.one Sort.method) t ≡ true → (rest : Text) → IsMethod t rest
method_stands absent g h rest = differ (sym h)
method_stands (list ts) g h rest = differ (sym h)
method_stands (node Kind.FunctionExpression texts ts) g h rest =
    flags_off (λ xs. IsMethod (node Kind.FunctionExpression xs ts) rest)
    (three_parts (λ us. AllClaims us → IsMethod (node Kind.FunctionExpression ([] ∷ [] ∷ []) us) rest) nothing (form.one Sort.parameters) (form.one Sort.function_body)
    (λ t u v ht hu hv. absent_part (λ w. AllClaims (more w (two u v)) → IsMethod (node Kind.FunctionExpression ([] ∷ [] ∷ []) (more w (two u v))) rest) (λ k. of_parts u v hu hv k) t ht) ts
    (and_right (two_flags texts) (fit_places (nothing ∷ form.one Sort.parameters ∷ form.one Sort.function_body ∷ []) ts) h) g.1) texts (and_left (two_flags texts) (fit_places (nothing ∷ form.one Sort.parameters ∷ form.one Sort.function_body ∷ []) ts) h)
  where
    of_parts : (u v : Term) → fit (form.one Sort.parameters) u ≡ true → fit (form.one Sort.function_body) v ≡ true → AllClaims (more absent (two u v)) → IsMethod (node Kind.FunctionExpression ([] ∷ [] ∷ []) (more absent (two u v))) rest
    of_parts u v hu hv k =
        let b : InBraces v rest = body_stands v k.1.1.0 hv rest in
        let behind_is : Text = printed (wrapped v) ++ rest in
        let p : InParentheses u (32 ∷ behind_is) = parameters_stand u hu (32 ∷ behind_is) in
        record {
          texts = p.texts;
          statements = b.statements;
          same = λ i. node Kind.FunctionExpression ([] ∷ [] ∷ []) (more absent (two (p.same i) (b.same i)));
          inside = p.inside;
          behind_text = behind_is;
          text_is = append_assoc (printed (wrapped u)) (32 ∷ printed (wrapped v)) rest ∙ p.text_is;
          parameters = p.stand;
          stand = b.stand;
        }
method_stands (node k texts ts) g h rest = differ (sym h)

abbrev pub PropertyStands : Term → Text → Type 0
PropertyStands t rest = Property whole (wrapped t) (printed (wrapped t) ++ rest) rest

-- the marks of a property: none, or that of a method
marks : (C : List Text → Type 0) → C (codes "init" ∷ [] ∷ [] ∷ [] ∷ []) → C (codes "init" ∷ codes "method" ∷ [] ∷ [] ∷ []) → (texts : List Text) → is_property texts ≡ true → C texts
marks C f m [] h = differ (sym h)
marks C f m (x ∷ []) h = differ (sym h)
marks C f m (x ∷ mark ∷ flags) h =
    let a : is_text x (codes "init") ≡ true = and_left (is_text x (codes "init")) (is_one_of mark ([] ∷ codes "method" ∷ []) && two_flags flags) h in
    let b : (is_one_of mark ([] ∷ codes "method" ∷ []) && two_flags flags) ≡ true = and_right (is_text x (codes "init")) (is_one_of mark ([] ∷ codes "method" ∷ []) && two_flags flags) h in
    let c : is_one_of mark ([] ∷ codes "method" ∷ []) ≡ true = and_left (is_one_of mark ([] ∷ codes "method" ∷ [])) (two_flags flags) b in
    let d : two_flags flags ≡ true = and_right (is_one_of mark ([] ∷ codes "method" ∷ [])) (two_flags flags) b in
    subst (λ y. C (y ∷ mark ∷ flags)) (sym (text_same x (codes "init") a))
    (flags_off (λ fs. C (codes "init" ∷ mark ∷ fs)) (by (is_text mark []) refl (is_text mark (codes "method")) refl c) flags d)
  where
    by : (p : Bool) → is_text mark [] ≡ p → (q : Bool) → is_text mark (codes "method") ≡ q → (p || (q || false)) ≡ true → C (codes "init" ∷ mark ∷ [] ∷ [] ∷ [])
    by true e q g k = subst (λ y. C (codes "init" ∷ y ∷ [] ∷ [] ∷ [])) (sym (text_same mark [] e)) f
    by false e true g k = subst (λ y. C (codes "init" ∷ y ∷ [] ∷ [] ∷ [])) (sym (text_same mark (codes "method") g)) m
    by false e false g k = differ (sym k)

pub property_stands : (t : Term) → Claims t → fit (form.one Sort.property) t ≡ true → (c : ℕ) (rest : Text) → goes_on_number c ≡ false → PropertyStands t (c ∷ rest)
property_stands absent g h c rest e = differ (sym h)
property_stands (list ts) g h c rest e = differ (sym h)
property_stands (node Kind.ObjectProperty texts ts) g h c rest e =
    marks (λ xs. fit_places (property_places xs) ts ≡ true → PropertyStands (node Kind.ObjectProperty xs ts) (c ∷ rest))
    (λ p. two_parts (λ us. AllClaims us → PropertyStands (node Kind.ObjectProperty (codes "init" ∷ [] ∷ [] ∷ [] ∷ []) us) (c ∷ rest)) (form.one Sort.name) standing.expression
    (λ t u ht hu. name_alone (λ v. AllClaims (two v u) → PropertyStands (node Kind.ObjectProperty (codes "init" ∷ [] ∷ [] ∷ [] ∷ []) (two v u)) (c ∷ rest)) (λ x w k. of_value x u w hu k) t ht) ts p g.1)
    (λ p. two_parts (λ us. AllClaims us → PropertyStands (node Kind.ObjectProperty (codes "init" ∷ codes "method" ∷ [] ∷ [] ∷ []) us) (c ∷ rest)) (form.one Sort.name) (form.one Sort.method)
    (λ t u ht hu. name_alone (λ v. AllClaims (two v u) → PropertyStands (node Kind.ObjectProperty (codes "init" ∷ codes "method" ∷ [] ∷ [] ∷ []) (two v u)) (c ∷ rest)) (λ x w k. of_method x u w hu k) t ht) ts p g.1)
    texts (and_left (is_property texts) (fit_places (property_places texts) ts) h) (and_right (is_property texts) (fit_places (property_places texts) ts) h)
  where
    end_is : not_next goes_on_number (c ∷ rest) ≡ true
    end_is = rw e refl

    of_value : (x : Text) (u : Term) → is_word x ≡ true → fit standing.expression u ≡ true → AllClaims (two (name_of x) u) → PropertyStands (node Kind.ObjectProperty (codes "init" ∷ [] ∷ [] ∷ [] ∷ []) (two (name_of x) u)) (c ∷ rest)
    of_value x u w hu k =
        let v : Term = held (is_looser 2) u in
        moved (λ a. Property whole (property_of x v) a (c ∷ rest)) ((x ++ 58 ∷ 32 ∷ printed v) ++ c ∷ rest) (x ++ 58 ∷ 32 ∷ (printed v ++ c ∷ rest)) (append_assoc x (58 ∷ 32 ∷ printed v) (c ∷ rest))
        (init (held_level 2 (is_looser 2) u (lit≤ tt) (tight 2) hu) (word_token x (58 ∷ 32 ∷ (printed v ++ c ∷ rest)) w refl) (sign_token 58 (32 ∷ (printed v ++ c ∷ rest)) refl)
        (gap_stands 32 refl (held_stands (is_looser 2) u k.1.0 hu (tight 2) (c ∷ rest) (λ n. ends_by u (c ∷ rest) end_is))))

    method_kind : (u : Term) → fit (form.one Sort.method) u ≡ true → held (is_looser 2) u ≡ wrapped u
    method_kind absent f = refl
    method_kind (list ts) f = differ (sym f)
    method_kind (node Kind.FunctionExpression texts ts) f = refl
    method_kind (node k texts ts) f = differ (sym f)

    of_method : (x : Text) (u : Term) → is_word x ≡ true → fit (form.one Sort.method) u ≡ true → AllClaims (two (name_of x) u) → PropertyStands (node Kind.ObjectProperty (codes "init" ∷ codes "method" ∷ [] ∷ [] ∷ []) (two (name_of x) u)) (c ∷ rest)
    of_method x u w hu k =
        let m : IsMethod u (c ∷ rest) = method_stands u k.1.0 hu (c ∷ rest) in
        let t : Text = m.inside ++ 41 ∷ 32 ∷ m.behind_text in
        let node_is : node Kind.ObjectProperty (codes "init" ∷ codes "method" ∷ [] ∷ [] ∷ []) (two (name_of x) (held (is_looser 2) u)) ≡ method_property_of x m.texts (all m.statements) =
        ap (λ v. node Kind.ObjectProperty (codes "init" ∷ codes "method" ∷ [] ∷ [] ∷ []) (two (name_of x) v)) (method_kind u hu ∙ m.same) in
        let text_is : (x ++ printed (held (is_looser 2) u)) ++ c ∷ rest ≡ x ++ 40 ∷ t =
        append_assoc x (printed (held (is_looser 2) u)) (c ∷ rest) ∙ ap (λ y. x ++ y) (ap (λ v. printed v ++ c ∷ rest) (method_kind u hu) ∙ m.text_is) in
        moved (λ a. Property whole (node Kind.ObjectProperty (codes "init" ∷ codes "method" ∷ [] ∷ [] ∷ []) (two (name_of x) (held (is_looser 2) u))) a (c ∷ rest)) ((x ++ printed (held (is_looser 2) u)) ++ c ∷ rest) (x ++ 40 ∷ t) text_is
        (subst (λ v. Property whole v (x ++ 40 ∷ t) (c ∷ rest)) (sym node_is)
        (method (word_token x (40 ∷ t) w refl) (sign_token 40 t refl) m.parameters (sign_token 41 (32 ∷ m.behind_text) refl) (gap_body m.stand)))
property_stands (node k texts ts) g h c rest e = differ (sym h)
