-- What stands for each kind of expression, from what is claimed of its parts.
use Rattle.std.proofs.Common.{◌≡◌, refl, sym, ◌∙◌, ap, subst, ℕ, ◌≤◌, List, [], ◌∷◌, ◌++◌, Bool, true, false, ◌||◌, not, lit≤, arith, append_assoc}
use Rattle.std.proofs.lemmas.List.{append-nil}
use Rattle.std.proofs.lemmas.Bool.{ltb-false, le-ltb}
use Rattle.std.specs.Prelude.{codes}
use Rattle.js_term.specs.Term.{Text, is_text, Term, absent, list, node, Terms, none, more, one, two}
use Rattle.js_term.specs.declared.kind.Kind.TheVariants as Kind
use Rattle.js_term.specs.Lexeme.{whole, is_word, is_decimal, is_reserved, not_next, goes_on, goes_on_number, is_start, is_part, is_digit, between}
use Rattle.js_term.specs.Node.{name_of, binding_of, string_of, call_of, member_of, sequence_of, array_of}
use Rattle.js_term.specs.Spells.{level, Stands, identifier, boolean, numeric, string_literal, call, member, await_expression, array, Listed, last, and, Group, no_items, some_items}
use Rattle.js_term.specs.Form.{Sort, is_binding_name, one_text, is_off, is_truth, no_texts, many, several}
use Rattle.js_term.specs.Form as form
use Rattle.js_print.specs.Layout.{pieces, all_pieces, printed, commas, behind, is_looser, is_number, held, held_kids, wrapped}
use Rattle.js_print.proofs.Lexemes.{word_token, number_token, string_token, sign_token}
use Rattle.js_print.proofs.Blanks.{gap_stands, gap_listed}
use Rattle.js_print.proofs.Fit.{differ, and_left, and_right, fit, fit_each, fit_places, no_parts, one_part, two_parts, many_part, several_part, text_alone, text_none}
use Rattle.std.specs.List.{list_all}
use Rattle.js_print.proofs.Leads.{blank_fails, tens_digit}
use Rattle.js_print.proofs.Standing.{true_not, text_same, expression, Standing, Lists, AllClaims, moved, held_level, held_piece, held_stands, listing, all_listing, ends, ends_by, is_fresh, fresh_append, held_fresh}

pub or_left : (a b : Bool) → (a || b) ≡ false → a ≡ false
or_left true b h = h
or_left false b h = refl

pub or_right : (a b : Bool) → (a || b) ≡ false → b ≡ false
or_right true b h = differ h
or_right false b h = h

pub identifier_step : (texts : List Text) (ts : Terms) → one_text is_binding_name texts ≡ true → fit_places [] ts ≡ true → (rest : Text) → not_next goes_on rest ≡ true → Standing (node Kind.Identifier texts ts) rest
identifier_step texts ts a p rest e =
    text_alone (λ xs. Standing (node Kind.Identifier xs ts) rest) is_binding_name
    (λ x h. no_parts (λ us. Standing (node Kind.Identifier (x ∷ []) us) rest)
    (identifier (true_not (is_reserved x) (and_right (is_word x) (not (is_reserved x)) h)) (word_token x rest (and_left (is_word x) (not (is_reserved x)) h) e)) ts p) texts a

pub string_step : (texts : List Text) (ts : Terms) → one_text (λ x. true) texts ≡ true → fit_places [] ts ≡ true → (rest : Text) → Standing (node Kind.StringLiteral texts ts) rest
string_step texts ts a p rest =
    text_alone (λ xs. Standing (node Kind.StringLiteral xs ts) rest) (λ x. true)
    (λ x h. no_parts (λ us. Standing (node Kind.StringLiteral (x ∷ []) us) rest) (string_literal (string_token x rest)) ts p) texts a

pub number_step : (texts : List Text) (ts : Terms) → one_text is_decimal texts ≡ true → fit_places [] ts ≡ true → (rest : Text) → not_next goes_on_number rest ≡ true → Standing (node Kind.NumericLiteral texts ts) rest
number_step texts ts a p rest e =
    text_alone (λ xs. Standing (node Kind.NumericLiteral xs ts) rest) is_decimal
    (λ x h. no_parts (λ us. Standing (node Kind.NumericLiteral (x ∷ []) us) rest) (numeric (number_token x rest h e)) ts p) texts a

truth_cases : (C : Text → Type 0) → C (codes "true") → C (codes "false") → (x : Text) → is_truth x ≡ true → C x
truth_cases C t f x h = by (is_text x (codes "true")) refl (is_text x (codes "false")) refl h
  where
    by : (a : Bool) → is_text x (codes "true") ≡ a → (b : Bool) → is_text x (codes "false") ≡ b → (a || (b || false)) ≡ true → C x
    by true e b g k = subst C (sym (text_same x (codes "true") e)) t
    by false e true g k = subst C (sym (text_same x (codes "false") g)) f
    by false e false g k = differ (sym k)

pub boolean_step : (texts : List Text) (ts : Terms) → one_text is_truth texts ≡ true → fit_places [] ts ≡ true → (rest : Text) → not_next goes_on rest ≡ true → Standing (node Kind.BooleanLiteral texts ts) rest
boolean_step texts ts a p rest e =
    text_alone (λ xs. Standing (node Kind.BooleanLiteral xs ts) rest) is_truth
    (λ x h. no_parts (λ us. Standing (node Kind.BooleanLiteral (x ∷ []) us) rest)
    (truth_cases (λ y. Standing (node Kind.BooleanLiteral (y ∷ []) none) rest) (boolean true (word_token (codes "true") rest refl e)) (boolean false (word_token (codes "false") rest refl e)) x h) ts p) texts a

-- lists of expressions with commas between, before a byte that is a sign

abbrev pub items : Terms → Terms
items ts = held_kids (λ n. is_looser 2) ts

pub tight : (n : ℕ) (u : Term) → is_looser n u ≡ false → is_looser n u ≡ false
tight n u h = h

behind_some : (x : Text) (xs ps : List Text) → ps ≡ x ∷ xs → behind (codes ", ") ps ≡ codes ", " ++ commas ps
behind_some x xs ps e = rw e refl

commas_some : (x : Text) (ps qs : List Text) → ps ≡ x ∷ [] → commas (ps ++ qs) ≡ x ++ behind (codes ", ") qs
commas_some x ps qs e = rw e refl

module _ (rest : Text) (end_is : not_next goes_on_number rest ≡ true) where
  pub listed_stands : (t : Term) (ts : Terms) → AllClaims (more t ts) → fit expression t ≡ true → fit_each expression ts ≡ true → Listed whole (listing (items (more t ts))) (commas (all_pieces (items (more t ts))) ++ rest) rest
  listed_stands t none g h hs =
      let u : Term = held (is_looser 2) t in
      moved (λ a. Listed whole (u ∷ []) a rest) (commas (pieces u ++ []) ++ rest) (printed u ++ rest)
      (ap (λ x. x ++ rest) (commas_some (printed u) (pieces u) [] (held_piece (is_looser 2) t h) ∙ append-nil (printed u)))
      (last (held_level 2 (is_looser 2) t (lit≤ tt) (tight 2) h) (held_stands (is_looser 2) t g.0 h (tight 2) rest (λ n. ends_by t rest end_is)))
  listed_stands t (more v vs) g h hs =
      let u : Term = held (is_looser 2) t in
      let w : Term = held (is_looser 2) v in
      let hv : fit expression v ≡ true = and_left (fit expression v) (fit_each expression vs) hs in
      let ps : List Text = all_pieces (items (more v vs)) in
      let more_is : ps ≡ printed w ∷ all_pieces (items vs) = ap (λ q. q ++ all_pieces (items vs)) (held_piece (is_looser 2) v hv) in
      let text_is : commas (pieces u ++ ps) ++ rest ≡ printed u ++ 44 ∷ 32 ∷ (commas ps ++ rest) =
      ap (λ x. x ++ rest) (commas_some (printed u) (pieces u) ps (held_piece (is_looser 2) t h) ∙ ap (λ x. printed u ++ x) (behind_some (printed w) (all_pieces (items vs)) ps more_is))
      ∙ append_assoc (printed u) (44 ∷ 32 ∷ commas ps) rest in
      moved (λ a. Listed whole (u ∷ listing (items (more v vs))) a rest) (commas (pieces u ++ ps) ++ rest) (printed u ++ 44 ∷ 32 ∷ (commas ps ++ rest)) text_is
      (and (held_level 2 (is_looser 2) t (lit≤ tt) (tight 2) h)
      (held_stands (is_looser 2) t g.0 h (tight 2) (44 ∷ 32 ∷ (commas ps ++ rest)) (λ n. ends_by t (44 ∷ 32 ∷ (commas ps ++ rest)) refl))
      (sign_token 44 (32 ∷ (commas ps ++ rest)) refl)
      (gap_listed 32 refl (listed_stands v vs g.1 hv (and_right (fit expression v) (fit_each expression vs) hs))))

  pub group_stands : (ts : Terms) → AllClaims ts → fit_each expression ts ≡ true → Group whole (listing (items ts)) (commas (all_pieces (items ts)) ++ rest) rest
  group_stands none g h = no_items
  group_stands (more t ts) g h = some_items (listed_stands t ts g (and_left (fit expression t) (fit_each expression ts) h) (and_right (fit expression t) (fit_each expression ts) h))

-- nodes that hold expressions

lower : (n : ℕ) → 2 ≤ n → (u : Term) → is_looser n u ≡ false → is_looser 2 u ≡ false
lower n b u h =
    let least : n ≤ level u = ltb-false (level u) n h in
    let enough : 2 ≤ level u = omega arith in
    le-ltb (level u) 2 enough

-- one leaf stands at a place for names, for bindings and for sources
pub name_alone : (C : Term → Type 0) → ((x : Text) → is_word x ≡ true → C (name_of x)) → (t : Term) → fit (form.one Sort.name) t ≡ true → C t
name_alone C f absent h = differ (sym h)
name_alone C f (list ts) h = differ (sym h)
name_alone C f (node Kind.IdentifierName texts ts) h =
    text_alone (λ xs. C (node Kind.IdentifierName xs ts)) is_word (λ x w. no_parts (λ us. C (node Kind.IdentifierName (x ∷ []) us)) (f x w) ts (and_right (one_text is_word texts) (fit_places [] ts) h)) texts (and_left (one_text is_word texts) (fit_places [] ts) h)
name_alone C f (node k texts ts) h = differ (sym h)

pub binding_alone : (C : Term → Type 0) → ((x : Text) → is_word x ≡ true → is_reserved x ≡ false → C (binding_of x)) → (t : Term) → fit (form.one Sort.binding) t ≡ true → C t
binding_alone C f absent h = differ (sym h)
binding_alone C f (list ts) h = differ (sym h)
binding_alone C f (node Kind.BindingIdentifier texts ts) h =
    text_alone (λ xs. C (node Kind.BindingIdentifier xs ts)) is_binding_name (λ x w. no_parts (λ us. C (node Kind.BindingIdentifier (x ∷ []) us)) (f x (and_left (is_word x) (not (is_reserved x)) w) (true_not (is_reserved x) (and_right (is_word x) (not (is_reserved x)) w))) ts (and_right (one_text is_binding_name texts) (fit_places [] ts) h)) texts (and_left (one_text is_binding_name texts) (fit_places [] ts) h)
binding_alone C f (node k texts ts) h = differ (sym h)

pub source_alone : (C : Term → Type 0) → ((x : Text) → C (string_of x)) → (t : Term) → fit (form.one Sort.source) t ≡ true → C t
source_alone C f absent h = differ (sym h)
source_alone C f (list ts) h = differ (sym h)
source_alone C f (node Kind.StringLiteral texts ts) h =
    text_alone (λ xs. C (node Kind.StringLiteral xs ts)) (λ x. true) (λ x w. no_parts (λ us. C (node Kind.StringLiteral (x ∷ []) us)) (f x) ts (and_right (one_text (λ x. true) texts) (fit_places [] ts) h)) texts (and_left (one_text (λ x. true) texts) (fit_places [] ts) h)
source_alone C f (node k texts ts) h = differ (sym h)

off_text : (C : List Text → Type 0) → C ([] ∷ []) → (texts : List Text) → one_text is_off texts ≡ true → C texts
off_text C f [] h = differ (sym h)
off_text C f ([] ∷ []) h = f
off_text C f ((c ∷ cs) ∷ []) h = differ (sym h)
off_text C f (x ∷ y ∷ ys) h = differ (sym h)

-- no number, and nothing that ends in one, stands bare before a dot
ends_before_dot : (t : Term) (rest : Text) → (is_looser 19 (wrapped t) || is_number (wrapped t)) ≡ false → ends t (46 ∷ rest) ≡ true
ends_before_dot absent rest h = refl
ends_before_dot (list ts) rest h = refl
ends_before_dot (node Kind.NumericLiteral texts ts) rest h = differ h
ends_before_dot (node Kind.SequenceExpression texts ts) rest h = differ h
ends_before_dot (node Kind.AwaitExpression texts ts) rest h = differ h
ends_before_dot (node k texts ts) rest h = refl

pub member_step : (texts : List Text) (ts : Terms) → AllClaims ts → one_text is_off texts ≡ true → fit_places (expression ∷ form.one Sort.name ∷ []) ts ≡ true → (rest : Text) → not_next goes_on rest ≡ true → Standing (node Kind.StaticMemberExpression texts ts) rest
member_step texts ts g a p rest e =
    off_text (λ xs. Standing (node Kind.StaticMemberExpression xs ts) rest)
    (two_parts (λ us. AllClaims us → Standing (node Kind.StaticMemberExpression ([] ∷ []) us) rest) expression (form.one Sort.name)
    (λ f u hf hu. name_alone (λ v. AllClaims (two f v) → Standing (node Kind.StaticMemberExpression ([] ∷ []) (two f v)) rest) (λ x w k. of_object f x hf w k) u hu) ts p g) texts a
  where
    need : Term → Bool
    need t = is_looser 19 t || is_number t

    of_object : (f : Term) (x : Text) → fit expression f ≡ true → is_word x ≡ true → AllClaims (two f (name_of x)) → Standing (node Kind.StaticMemberExpression ([] ∷ []) (two f (name_of x))) rest
    of_object f x hf hx k =
        let w : Term = held need f in
        moved (λ b. Stands whole (member_of w x) b rest) ((printed w ++ 46 ∷ x) ++ rest) (printed w ++ 46 ∷ (x ++ rest)) (append_assoc (printed w) (46 ∷ x) rest)
        (member (held_level 19 need f (lit≤ tt) (λ u h. or_left (is_looser 19 u) (is_number u) h) hf)
        (held_stands need f k.0 hf (λ u h. lower 19 (lit≤ tt) u (or_left (is_looser 19 u) (is_number u) h)) (46 ∷ (x ++ rest)) (λ n. ends_before_dot f (x ++ rest) n))
        (sign_token 46 (x ++ rest) refl) (word_token x rest hx e))

pub await_step : (texts : List Text) (ts : Terms) → AllClaims ts → no_texts texts ≡ true → fit_places (expression ∷ []) ts ≡ true → (rest : Text) → not_next goes_on_number rest ≡ true → Standing (node Kind.AwaitExpression texts ts) rest
await_step texts ts g a p rest e =
    text_none (λ xs. Standing (node Kind.AwaitExpression xs ts) rest)
    (one_part (λ us. AllClaims us → Standing (node Kind.AwaitExpression [] us) rest) expression
    (λ f hf k.
    let w : Term = held (is_looser 16) f in
    await_expression (held_level 16 (is_looser 16) f (lit≤ tt) (tight 16) hf) (word_token (codes "await") (32 ∷ (printed w ++ rest)) refl refl)
    (gap_stands 32 refl (held_stands (is_looser 16) f k.0 hf (lower 16 (lit≤ tt)) rest (λ n. ends_by f rest e)))) ts p g) texts a

pub array_step : (texts : List Text) (ts : Terms) → AllClaims ts → no_texts texts ≡ true → fit_places (many Sort.expression ∷ []) ts ≡ true → (rest : Text) → Standing (node Kind.ArrayExpression texts ts) rest
array_step texts ts g a p rest =
    text_none (λ xs. Standing (node Kind.ArrayExpression xs ts) rest)
    (one_part (λ us. AllClaims us → Standing (node Kind.ArrayExpression [] us) rest) (many Sort.expression)
    (λ f hf. many_part (λ v. AllClaims (one v) → Standing (node Kind.ArrayExpression [] (one v)) rest) Sort.expression of_elements f hf) ts p g) texts a
  where
    of_elements : (es : Terms) → fit_each expression es ≡ true → AllClaims (one (list es)) → Standing (node Kind.ArrayExpression [] (one (list es))) rest
    of_elements es hs k =
        let cs : Text = commas (all_pieces (items es)) in
        moved (λ b. Stands whole (array_of (items es)) b rest) (91 ∷ ((cs ++ 93 ∷ []) ++ rest)) (91 ∷ (cs ++ 93 ∷ rest)) (ap (λ x. 91 ∷ x) (append_assoc cs (93 ∷ []) rest))
        (subst (λ us. Stands whole (array_of us) (91 ∷ (cs ++ 93 ∷ rest)) rest) (all_listing (items es))
        (array (sign_token 91 (cs ++ 93 ∷ rest) refl) (group_stands (93 ∷ rest) refl es k.0 hs) (sign_token 93 rest refl)))

-- a sequence has two expressions or more
pub sequence_step : (texts : List Text) (ts : Terms) → AllClaims ts → no_texts texts ≡ true → fit_places (several Sort.expression ∷ []) ts ≡ true → (rest : Text) → not_next goes_on_number rest ≡ true → Lists (wrapped (node Kind.SequenceExpression texts ts)) (printed (wrapped (node Kind.SequenceExpression texts ts)) ++ rest) rest
sequence_step texts ts g a p rest e =
    text_none (λ xs. In (node Kind.SequenceExpression xs ts))
    (one_part (λ us. AllClaims us → In (node Kind.SequenceExpression [] us)) (several Sort.expression)
    (λ f hf. several_part (λ v. AllClaims (one v) → In (node Kind.SequenceExpression [] (one v))) Sort.expression of_items f hf) ts p g) texts a
  where
    In : Term → Type 0
    In t = Lists (wrapped t) (printed (wrapped t) ++ rest) rest

    of_items : (t u : Term) (us : Terms) → fit expression t ≡ true → fit_each expression (more u us) ≡ true → AllClaims (one (list (more t (more u us)))) → In (node Kind.SequenceExpression [] (one (list (more t (more u us)))))
    of_items t u us h hs k = record {
      items = listing (items (more t (more u us)));
      is_joined = ap sequence_of (all_listing (items (more t (more u us))));
      stand = listed_stands rest e t (more u us) k.0 h hs;
    }

pub call_step : (texts : List Text) (ts : Terms) → AllClaims ts → one_text is_off texts ≡ true → fit_places (expression ∷ many Sort.expression ∷ []) ts ≡ true → (rest : Text) → Standing (node Kind.CallExpression texts ts) rest
call_step texts ts g a p rest =
    off_text (λ xs. Standing (node Kind.CallExpression xs ts) rest)
    (two_parts (λ us. AllClaims us → Standing (node Kind.CallExpression ([] ∷ []) us) rest) expression (many Sort.expression)
    (λ f u hf hu. many_part (λ v. AllClaims (two f v) → Standing (node Kind.CallExpression ([] ∷ []) (two f v)) rest) Sort.expression (λ args hs k. with_arguments f args hf hs k) u hu) ts p g) texts a
  where
    with_arguments : (f : Term) (args : Terms) → fit expression f ≡ true → fit_each expression args ≡ true → AllClaims (two f (list args)) → Standing (node Kind.CallExpression ([] ∷ []) (two f (list args))) rest
    with_arguments f args hf hs k =
        let w : Term = held (is_looser 19) f in
        let cs : Text = commas (all_pieces (items args)) in
        let looser : (u : Term) → is_looser 19 u ≡ false → is_looser 2 u ≡ false = lower 19 (lit≤ tt) in
        let text_is : (printed w ++ 40 ∷ (cs ++ 41 ∷ [])) ++ rest ≡ printed w ++ 40 ∷ (cs ++ 41 ∷ rest) =
        append_assoc (printed w) (40 ∷ (cs ++ 41 ∷ [])) rest ∙ ap (λ x. printed w ++ 40 ∷ x) (append_assoc cs (41 ∷ []) rest) in
        moved (λ b. Stands whole (call_of w (items args)) b rest) ((printed w ++ 40 ∷ (cs ++ 41 ∷ [])) ++ rest) (printed w ++ 40 ∷ (cs ++ 41 ∷ rest)) text_is
        (subst (λ us. Stands whole (call_of w us) (printed w ++ 40 ∷ (cs ++ 41 ∷ rest)) rest) (all_listing (items args))
        (call (held_level 19 (is_looser 19) f (lit≤ tt) (tight 19) hf)
        (held_stands (is_looser 19) f k.0 hf looser (40 ∷ (cs ++ 41 ∷ rest)) (λ n. ends_by f (40 ∷ (cs ++ 41 ∷ rest)) refl))
        (sign_token 40 (cs ++ 41 ∷ rest) refl) (group_stands (41 ∷ rest) refl args k.1.0 hs) (sign_token 41 rest refl)))

-- no expression begins with a blank

word_fresh : (x : Text) → is_word x ≡ true → is_fresh x ≡ true
word_fresh [] h = differ (sym h)
word_fresh (c ∷ cs) h = rw (blank_fails is_start refl refl refl refl c (and_left (is_start c) (list_all is_part cs) h)) refl

number_fresh : (x : Text) → is_decimal x ≡ true → is_fresh x ≡ true
number_fresh [] h = differ (sym h)
number_fresh (c ∷ []) h = rw (blank_fails is_digit refl refl refl refl c h) refl
number_fresh (c ∷ d ∷ cs) h = rw (blank_fails is_digit refl refl refl refl c (tens_digit c (and_left (between 49 57 c) (list_all is_digit (d ∷ cs)) h))) refl

abbrev pub Freshly : Term → Type 0
Freshly t = is_fresh (printed (wrapped t)) ≡ true

pub identifier_fresh : (texts : List Text) (ts : Terms) → one_text is_binding_name texts ≡ true → Freshly (node Kind.Identifier texts ts)
identifier_fresh texts ts a = text_alone (λ xs. Freshly (node Kind.Identifier xs ts)) is_binding_name (λ x h. word_fresh x (and_left (is_word x) (not (is_reserved x)) h)) texts a

pub numeric_fresh : (texts : List Text) (ts : Terms) → one_text is_decimal texts ≡ true → Freshly (node Kind.NumericLiteral texts ts)
numeric_fresh texts ts a = text_alone (λ xs. Freshly (node Kind.NumericLiteral xs ts)) is_decimal number_fresh texts a

pub boolean_fresh : (texts : List Text) (ts : Terms) → one_text is_truth texts ≡ true → Freshly (node Kind.BooleanLiteral texts ts)
boolean_fresh texts ts a = text_alone (λ xs. Freshly (node Kind.BooleanLiteral xs ts)) is_truth (truth_cases is_fresh_text refl refl) texts a
  where
    is_fresh_text : Text → Type 0
    is_fresh_text x = is_fresh x ≡ true

pub call_fresh : (texts : List Text) (ts : Terms) → AllClaims ts → fit_places (expression ∷ many Sort.expression ∷ []) ts ≡ true → Freshly (node Kind.CallExpression texts ts)
call_fresh texts ts g p = two_parts (λ us. AllClaims us → Freshly (node Kind.CallExpression texts us)) expression (many Sort.expression)
    (λ f u hf hu k. fresh_append (printed (held (is_looser 19) f)) (40 ∷ (commas (pieces (held (is_looser 2) u)) ++ 41 ∷ [])) (held_fresh (is_looser 19) f k.0 hf)) ts p g

pub member_fresh : (texts : List Text) (ts : Terms) → AllClaims ts → fit_places (expression ∷ form.one Sort.name ∷ []) ts ≡ true → Freshly (node Kind.StaticMemberExpression texts ts)
member_fresh texts ts g p = two_parts (λ us. AllClaims us → Freshly (node Kind.StaticMemberExpression texts us)) expression (form.one Sort.name)
    (λ f u hf hu k. fresh_append (printed (held need f)) (46 ∷ printed (held need u)) (held_fresh need f k.0 hf)) ts p g
  where
    need : Term → Bool
    need t = is_looser 19 t || is_number t

pub sequence_fresh : (texts : List Text) (ts : Terms) → AllClaims ts → fit_places (several Sort.expression ∷ []) ts ≡ true → Freshly (node Kind.SequenceExpression texts ts)
sequence_fresh texts ts g p =
    one_part (λ us. AllClaims us → Freshly (node Kind.SequenceExpression texts us)) (several Sort.expression)
    (λ f hf. several_part (λ v. AllClaims (one v) → Freshly (node Kind.SequenceExpression texts (one v))) Sort.expression of_items f hf) ts p g
  where
    of_items : (t u : Term) (us : Terms) → fit expression t ≡ true → fit_each expression (more u us) ≡ true → AllClaims (one (list (more t (more u us)))) → Freshly (node Kind.SequenceExpression texts (one (list (more t (more u us)))))
    of_items t u us h hs k =
        let w : Term = held (is_looser 2) t in
        let qs : List Text = all_pieces (items (more u us)) in
        rw (commas_some (printed w) (pieces w) qs (held_piece (is_looser 2) t h)) (fresh_append (printed w) (behind (codes ", ") qs) (held_fresh (is_looser 2) t k.0.0 h))
