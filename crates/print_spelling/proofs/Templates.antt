-- Templates, `new` and `import()` (ECMAScript 13.2.8, 13.3.5, 13.3.10, 13.3.11).
use Rattle.std.proofs.Common.{◌≡◌, refl, sym, subst, ℕ, suc, ◌≤◌, List, [], ◌∷◌, ◌++◌, Bool, true, false, not, ◌||◌, nat_eq, arith}
use Rattle.std.specs.Prelude.{codes}
use Rattle.std.proofs.lemmas.Bool.{and_parts, not-true, eqb-true}
use Rattle.std.specs.List.{list_all}
use Rattle.js_term.specs.Term.{Text, Term, absent, list, node, Terms, none, more, two}
use Rattle.js_term.specs.declared.kind.Kind.{Kind}
use Rattle.js_term.specs.Kinds.{is_kind}
use Rattle.js_syntax.specs.Lexical.{is_no_return, are_template_characters, is_template_text, normal_lines, has_sound_escapes}
use Rattle.js_syntax.specs.Tokens.{Token, no_substitution, template_head, template_middle, template_tail, is_no_substitution, is_head, is_middle, is_tail}
use Rattle.js_syntax.specs.Parts.{count}
use Rattle.js_syntax.specs.Nodes.{of_text, of_parts}
use Rattle.js_syntax.specs.Sorts.{Sort, Place, suits}
use Rattle.js_syntax.specs.Printable.{has_shape}
use Rattle.js_syntax.specs.Levels.{level}
use Rattle.js_syntax.specs.Spelling as spelling
use Rattle.js_syntax.specs.Spelling.{Stands, Template, whole_template, template_parts, TemplateRest, template_end, template_more, template, construction, import_call, ImportOptions, no_options, options}
use Rattle.print_layout.specs.Needs.{never}
use Rattle.print_layout.specs.Layout.{wrapped, each_wrapped}
use Rattle.print_spelling.proofs.Tokens.{differ, Lead, flush, spaced, led, token_of, word_at, left_parenthesis, right_parenthesis, comma_at}
use Rattle.print_spelling.proofs.Spread.{each_to, template_to}
use Rattle.print_spelling.proofs.Fits.{Fit, fit_of, taken_by, list_shape, each_shaped}
use Rattle.print_spelling.proofs.Shapes.{kind_is, leaf}
use Rattle.print_spelling.proofs.Claims.{bare, bare_to, closed, opens_at, Expr, NodeExpr, ExpressionRule, of_stands, Claim, Each, Kids, Mode, off}
use Rattle.print_spelling.proofs.Claims as claims
use Rattle.print_spelling.proofs.Placed.{in_place, loose, At, at, opens_tight}
use Rattle.print_spelling.proofs.Calls.{arguments_at}

-- ---- the texts of a template

abbrev element_sort : Bool → Sort
element_sort true = Sort.template_text
element_sort false = Sort.only Kind.TemplateElement

record Element (sound : Bool) (q : Term) : Type 0 where
  raw : Text
  is : q ≡ of_text Kind.TemplateElement raw
  text : is_template_text raw ≡ true
  escapes : not sound || has_sound_escapes raw ≡ true

sound_element : (texts : List Text) (ts : Terms) → Fit [] Kind.TemplateElement texts ts → suits Sort.template_text Kind.TemplateElement texts ≡ true → Element true (node Kind.TemplateElement texts ts)
sound_element (x ∷ []) none f s = record { raw = x; is = refl; text = f.spoken.0; escapes = s }
sound_element texts ts f s = differ (sym f.counted)

element_of : (sound : Bool) (q : Term) → has_shape (Place.one (element_sort sound)) q ≡ true → Element sound q
element_of true absent h = differ (sym h)
element_of true (list ts) h = differ (sym h)
element_of true (node k texts ts) h =
    let same : k ≡ Kind.TemplateElement = kind_is k Kind.TemplateElement (fit_taken k texts ts h) in
    subst (λ j. has_shape (Place.one Sort.template_text) (node j texts ts) ≡ true → Element true (node j texts ts)) (sym same) (λ h. let f = fit_of Sort.template_text Kind.TemplateElement texts ts refl h in sound_element texts ts f.1 f.0.suited) h
  where
    fit_taken : (k : Kind) (texts : List Text) (ts : Terms) → has_shape (Place.one Sort.template_text) (node k texts ts) ≡ true → is_kind k Kind.TemplateElement ≡ true
    fit_taken k texts ts h = (taken_by Sort.template_text k texts ts h).taken
element_of false q h = leaf Kind.TemplateElement is_template_text refl refl (λ texts. refl) (λ z. Element false z) (λ x t. record { raw = x; is = refl; text = t; escapes = refl }) q h

-- text without a carriage return is as it is printed
plain_lines : (s : Text) → list_all is_no_return s ≡ true → normal_lines s ≡ s
plain_lines [] h = refl
plain_lines (c ∷ s) h = let both = and_parts (not (nat_eq c 13)) (list_all is_no_return s) h in rw (not-true (nat_eq c 13) both.0, plain_lines s both.1) refl

characters : (raw : Text) → is_template_text raw ≡ true → are_template_characters raw ≡ true
characters raw h = (and_parts (list_all is_no_return raw) (are_template_characters raw) h).1

lines : (raw : Text) → is_template_text raw ≡ true → normal_lines raw ≡ raw
lines raw h = plain_lines raw (and_parts (list_all is_no_return raw) (are_template_characters raw) h).0

whole_at : (g : Lead) (raw rest : Text) → is_template_text raw ≡ true → Token (led g (96 ∷ (raw ++ 96 ∷ rest))) (no_substitution raw) rest
whole_at g raw rest h = subst (λ z. Token (led g (96 ∷ (raw ++ 96 ∷ rest))) (no_substitution z) rest) (lines raw h) (token_of g refl (is_no_substitution raw (characters raw h)))

head_at : (g : Lead) (raw rest : Text) → is_template_text raw ≡ true → Token (led g (96 ∷ (raw ++ 36 ∷ 123 ∷ rest))) (template_head raw) rest
head_at g raw rest h = subst (λ z. Token (led g (96 ∷ (raw ++ 36 ∷ 123 ∷ rest))) (template_head z) rest) (lines raw h) (token_of g refl (is_head raw (characters raw h)))

middle_at : (raw rest : Text) → is_template_text raw ≡ true → Token (125 ∷ (raw ++ 36 ∷ 123 ∷ rest)) (template_middle raw) rest
middle_at raw rest h = subst (λ z. Token (125 ∷ (raw ++ 36 ∷ 123 ∷ rest)) (template_middle z) rest) (lines raw h) (token_of flush refl (is_middle raw (characters raw h)))

tail_at : (raw rest : Text) → is_template_text raw ≡ true → Token (125 ∷ (raw ++ 96 ∷ rest)) (template_tail raw) rest
tail_at raw rest h = subst (λ z. Token (125 ∷ (raw ++ 96 ∷ rest)) (template_tail z) rest) (lines raw h) (token_of flush refl (is_tail raw (characters raw h)))

one_more : (m n : ℕ) → nat_eq (suc m) (suc n) ≡ true → nat_eq m n ≡ true
one_more m n e = grind arith

none_left : {A : Type 0} (n : ℕ) → nat_eq (suc (suc n)) 1 ≡ true → A
none_left n e = let same : suc (suc n) ≡ 1 = eqb-true (suc (suc n)) 1 e in absurd (omega arith)

too_few : {A : Type 0} (n : ℕ) → nat_eq 0 (suc n) ≡ true → A
too_few n e = let same : 0 ≡ suc n = eqb-true 0 (suc n) e in absurd (omega arith)

template_rest : (sound : Bool) (qs es : Terms) → each_shaped (Place.one (element_sort sound)) qs ≡ true → each_shaped (Place.one Sort.expression) es ≡ true → Each off es → nat_eq (count qs) (suc (count es)) ≡ true → (rest : Text) → TemplateRest sound (each_wrapped true never qs) (each_wrapped true never es) (125 ∷ template_to (each_to true never qs) (each_to true never es) (96 ∷ rest)) rest
template_rest sound none es hq he c n rest = too_few (count es) n
template_rest sound (more q (more r qs)) none hq he c n rest = none_left (count qs) n
template_rest sound (more q none) none hq he c n rest =
    let x = element_of sound q (and_parts (has_shape (Place.one (element_sort sound)) q) true hq).0 in
    subst (λ z. TemplateRest sound (each_wrapped true never (more z none)) [] (125 ∷ template_to (each_to true never (more z none)) [] (96 ∷ rest)) rest) (sym x.is) (template_end x.escapes (tail_at x.raw rest x.text))
template_rest sound (more q qs) (more e es) hq he c n rest =
    let qh = and_parts (has_shape (Place.one (element_sort sound)) q) (each_shaped (Place.one (element_sort sound)) qs) hq in
    let eh = and_parts (has_shape (Place.one Sort.expression) e) (each_shaped (Place.one Sort.expression) es) he in
    let x = element_of sound q qh.0 in
    let p = in_place true never e eh.0 c.0 in
    subst (λ z. TemplateRest sound (each_wrapped true never (more z qs)) (each_wrapped true never (more e es)) (125 ∷ template_to (each_to true never (more z qs)) (each_to true never (more e es)) (96 ∷ rest)) rest) (sym x.is)
    (template_more x.escapes (middle_at x.raw _ x.text) (p.expr.expression flush refl) (template_rest sound qs es qh.1 eh.1 c.1 (one_more (count qs) (suc (count es)) n) rest))

pub template_is : (sound : Bool) (qs es : Terms) → each_shaped (Place.one (element_sort sound)) qs ≡ true → each_shaped (Place.one Sort.expression) es ≡ true → Each off es → nat_eq (count qs) (suc (count es)) ≡ true → (g : Lead) (rest : Text) → Template sound (each_wrapped true never qs) (each_wrapped true never es) (led g (96 ∷ template_to (each_to true never qs) (each_to true never es) (96 ∷ rest))) rest
template_is sound none es hq he c n g rest = too_few (count es) n
template_is sound (more q (more r qs)) none hq he c n g rest = none_left (count qs) n
template_is sound (more q none) none hq he c n g rest =
    let x = element_of sound q (and_parts (has_shape (Place.one (element_sort sound)) q) true hq).0 in
    subst (λ z. Template sound (each_wrapped true never (more z none)) [] (led g (96 ∷ template_to (each_to true never (more z none)) [] (96 ∷ rest))) rest) (sym x.is) (whole_template x.escapes (whole_at g x.raw rest x.text))
template_is sound (more q qs) (more e es) hq he c n g rest =
    let qh = and_parts (has_shape (Place.one (element_sort sound)) q) (each_shaped (Place.one (element_sort sound)) qs) hq in
    let eh = and_parts (has_shape (Place.one Sort.expression) e) (each_shaped (Place.one Sort.expression) es) he in
    let x = element_of sound q qh.0 in
    let p = in_place true never e eh.0 c.0 in
    subst (λ z. Template sound (each_wrapped true never (more z qs)) (each_wrapped true never (more e es)) (led g (96 ∷ template_to (each_to true never (more z qs)) (each_to true never (more e es)) (96 ∷ rest))) rest) (sym x.is)
    (template_parts x.escapes (head_at g x.raw _ x.text) (p.expr.expression flush refl) (template_rest sound qs es qh.1 eh.1 c.1 (one_more (count qs) (suc (count es)) n) rest))

-- ---- templates without and with a tag

pub template_rule : (texts : List Text) (ts : Terms) → Fit (Place.some Sort.template_text ∷ Place.many Sort.expression ∷ []) Kind.TemplateLiteral texts ts → Kids (λ n. off) 0 ts → NodeExpr (node Kind.TemplateLiteral texts ts)
template_rule [] (more (list qs) (more (list es) none)) m c i n =
    of_stands (λ g rest e. template (template_is true qs es (list_shape (Place.some Sort.template_text) qs m.placed.0).1 (list_shape (Place.many Sort.expression) es m.placed.1.0).1 c.1.0 m.sound g rest)) (opens_at (λ rest. refl))
template_rule [] (more absent ts) m c i n = differ (sym m.placed.0)
template_rule [] (more (node k texts us) ts) m c i n = differ (sym m.placed.0)
template_rule [] (more (list qs) (more absent none)) m c i n = differ (sym m.placed.1.0)
template_rule [] (more (list qs) (more (node k texts us) none)) m c i n = differ (sym m.placed.1.0)
template_rule texts ts m c i n = differ (sym m.counted)

-- the template behind a tag
quasi_is : (texts : List Text) (us : Terms) → Fit (Place.some (Sort.only Kind.TemplateElement) ∷ Place.many Sort.expression ∷ []) Kind.TemplateLiteral texts us → Kids (λ n. off) 0 us → (P : List Text → Terms → Type 0) → ((qs es : Terms) → ((g : Lead) (rest : Text) → Template false (each_wrapped true never qs) (each_wrapped true never es) (led g (96 ∷ template_to (each_to true never qs) (each_to true never es) (96 ∷ rest))) rest) → P [] (two (list qs) (list es))) → P texts us
quasi_is [] (more (list qs) (more (list es) none)) m c P f = f qs es (template_is false qs es (list_shape (Place.some (Sort.only Kind.TemplateElement)) qs m.placed.0).1 (list_shape (Place.many Sort.expression) es m.placed.1.0).1 c.1.0 m.sound)
quasi_is [] (more absent ts) m c P f = differ (sym m.placed.0)
quasi_is [] (more (node k texts us) ts) m c P f = differ (sym m.placed.0)
quasi_is [] (more (list qs) (more absent none)) m c P f = differ (sym m.placed.1.0)
quasi_is [] (more (list qs) (more (node k texts us) none)) m c P f = differ (sym m.placed.1.0)
quasi_is texts ts m c P f = differ (sym m.counted)

tagged_with : (t : Term) (i : Bool) → At i (loose 19) 19 t → (qs es : Terms) → ((g : Lead) (rest : Text) → Template false (each_wrapped true never qs) (each_wrapped true never es) (led g (96 ∷ template_to (each_to true never qs) (each_to true never es) (96 ∷ rest))) rest) → Expr i (bare i (of_parts Kind.TaggedTemplateExpression t (node Kind.TemplateLiteral [] (two (list qs) (list es))))) (bare_to i (of_parts Kind.TaggedTemplateExpression t (node Kind.TemplateLiteral [] (two (list qs) (list es)))))
tagged_with t i p qs es f =
    let high : 19 ≤ level (wrapped i (loose 19) t) = p.high in
    of_stands (λ g rest e. spelling.tagged p.high (p.stands g refl) (f flush rest)) (opens_tight (λ rest. 96 ∷ template_to (each_to true never qs) (each_to true never es) (96 ∷ rest)) (omega (arith, high)) p.placed.expr.opens)

pub tagged_rule : (m : Mode) (texts : List Text) (ts : Terms) → Fit (Place.one Sort.expression ∷ Place.one Sort.tagged_template ∷ []) Kind.TaggedTemplateExpression texts ts → Kids (claims.mode_inside m Kind.TaggedTemplateExpression) 0 ts → NodeExpr (node Kind.TaggedTemplateExpression texts ts)
tagged_rule d [] (more t (more (node k texts us) none)) m c i n =
    let same : k ≡ Kind.TemplateLiteral = kind_is k Kind.TemplateLiteral (taken_by Sort.tagged_template k texts us m.placed.1.0).taken in
    let p = at 19 refl i t m.placed.0 c.0 in
    subst (λ j. has_shape (Place.one Sort.tagged_template) (node j texts us) ≡ true → Claim claims.tagged (node j texts us) → Expr i (bare i (of_parts Kind.TaggedTemplateExpression t (node j texts us))) (bare_to i (of_parts Kind.TaggedTemplateExpression t (node j texts us)))) (sym same)
    (λ h d. quasi_is texts us (fit_of Sort.tagged_template Kind.TemplateLiteral texts us refl h).1 d.1 (λ xs vs. Expr i (bare i (of_parts Kind.TaggedTemplateExpression t (node Kind.TemplateLiteral xs vs))) (bare_to i (of_parts Kind.TaggedTemplateExpression t (node Kind.TemplateLiteral xs vs)))) (λ qs es f. tagged_with t i p qs es f)) m.placed.1.0 c.1.0
tagged_rule d [] (more t (more absent none)) m c i n = differ (sym m.placed.1.0)
tagged_rule d [] (more t (more (list ts) none)) m c i n = differ (sym m.placed.1.0)
tagged_rule d texts ts m c i n = differ (sym m.counted)

-- ---- new f(es), import(e, o)

pub new_rule : ExpressionRule Kind.NewExpression
new_rule [] (more f (more (list ts) none)) m c i n =
    let p = at 20 refl i f m.placed.0 c.0 in
    of_stands (λ g rest e. construction (word_at g (codes "new") refl refl refl) p.high (p.stands spaced refl) (arguments_at ts m.placed.1.0 c.1.0 flush rest)) (opens_at (λ rest. refl))
new_rule [] (more f (more absent none)) m c i n = differ (sym m.placed.1.0)
new_rule [] (more f (more (node k texts ts) none)) m c i n = differ (sym m.placed.1.0)
new_rule texts ts m c i n = differ (sym m.counted)

pub import_rule : ExpressionRule Kind.ImportExpression
import_rule [] (more e (more absent none)) m c i n =
    let p = at 2 refl true e m.placed.0 c.0 in
    of_stands (λ g rest h. import_call (word_at g (codes "import") refl refl refl) (left_parenthesis flush) (p.stands flush refl) no_options (right_parenthesis flush)) (opens_at (λ rest. refl))
import_rule [] (more e (more (list ts) none)) m c i n = differ (sym m.placed.1.0)
import_rule [] (more e (more (node k texts ts) none)) m c i n =
    let p = at 2 refl true e m.placed.0 c.0 in
    let q = at 2 refl true (node k texts ts) m.placed.1.0 c.1.0 in
    of_stands (λ g rest h. import_call (word_at g (codes "import") refl refl refl) (left_parenthesis flush) (p.stands flush refl) (options (comma_at flush) (q.stands spaced refl)) (right_parenthesis flush)) (opens_at (λ rest. refl))
import_rule texts ts m c i n = differ (sym m.counted)
