-- What patterns of objects and targets of objects share: keys with values, names alone, and a rest (ECMAScript 13.15.5, 14.3.3).
use Rattle.std.proofs.Common.{◌≡◌, refl, sym, subst, List, [], ◌∷◌, Bool, true, false, ◌&&◌, ◌||◌}
use Rattle.std.specs.Prelude.{codes}
use Rattle.std.proofs.lemmas.Bool.{and_parts}
use Rattle.js_term.specs.Term.{Text, Term, absent, list, node, Terms, none, more, two, flag}
use Rattle.js_term.specs.declared.kind.Kind.{Kind}
use Rattle.js_term.specs.Node.{name_of}
use Rattle.js_syntax.specs.Tokens.{Sign}
use Rattle.js_syntax.specs.Texts as texts
use Rattle.js_syntax.specs.Texts.{is_free_name}
use Rattle.js_syntax.specs.Parts.{is_set, is_node, is_present, first_is}
use Rattle.js_syntax.specs.Sorts as sorts
use Rattle.js_syntax.specs.Sorts.{Place}
use Rattle.js_syntax.specs.Places.{key_place}
use Rattle.js_syntax.specs.Printable.{has_shape, is_one_name, is_value_of, marks_shorthand}
use Rattle.js_syntax.specs.Spelling.{Sort, no_items, items, Rested, no_rest, rest_alone, Rest}
use Rattle.print_layout.specs.Rows as rows
use Rattle.print_layout.specs.Rows.{braces, has_items}
use Rattle.print_layout.specs.Needs.{never}
use Rattle.print_layout.specs.Layout.{wrapped, each_wrapped}
use Rattle.print_spelling.proofs.Tokens.{differ, same_text, Lead, flush, spaced, led, left_brace, right_brace}
use Rattle.print_spelling.proofs.Spread.{To, to, each_to, items_to, spread_to}
use Rattle.print_spelling.proofs.Fits.{Fit, are_words, are_many, Worded, fit_of, taken_by, each_shaped}
use Rattle.print_spelling.proofs.Shapes.{kind_is}
use Rattle.print_spelling.proofs.Claims.{ends, Claim, Each, off}
use Rattle.print_spelling.proofs.Lists.{ItemAt, one_whole, whole_list, last_present}
use Rattle.print_spelling.proofs.Functions.{by_flag}
use Rattle.print_spelling.proofs.Patterns.{with_rest}

-- ---- one name for key and value

pub record IsBound (k : Kind) (x : Text) (t : Term) : Type 0 where
  pub is : t ≡ node k (x ∷ []) none
  pub free : is_free_name x ≡ true

pub bound_leaf : (k : Kind) (x : Text) (xs : List Text) (ts : Terms) → (are_words (is_free_name ∷ []) xs && are_many [] ts ≡ true) → Worded (is_free_name ∷ []) xs → first_is x xs ≡ true → IsBound k x (node k xs ts)
bound_leaf k x (y ∷ []) none c w h = subst (λ z. IsBound k z (node k (y ∷ []) none)) (same_text y x h) (record { is = refl; free = w.0 })
bound_leaf k x xs ts c w h = differ (sym c)

-- the key of a shorthand is the name
pub key_name : (P : Term → Type 0) (k : Term) → has_shape (Place.one sorts.Sort.key) k ≡ true → is_node Kind.IdentifierName k ≡ true → ((x : Text) → P (name_of x)) → P k
key_name P absent h n f = differ (sym h)
key_name P (list ts) h n f = differ (sym h)
key_name P (node k xs ts) h n f =
    subst (λ j. has_shape (Place.one sorts.Sort.key) (node j xs ts) ≡ true → P (node j xs ts)) (sym (kind_is k Kind.IdentifierName n)) (λ h. by xs ts (fit_of sorts.Sort.key Kind.IdentifierName xs ts refl h).1) h
  where
    by : (xs : List Text) (ts : Terms) → Fit [] Kind.IdentifierName xs ts → P (node Kind.IdentifierName xs ts)
    by (x ∷ []) none g = f x
    by xs ts g = differ (sym g.counted)

-- no key in brackets is a bare name
pub no_name : {A : Type 0} (k : Term) → has_shape (Place.one sorts.Sort.expression) k ≡ true → is_node Kind.IdentifierName k ≡ true → A
no_name absent h n = differ (sym h)
no_name (list ts) h n = differ (sym h)
no_name (node k xs ts) h n = differ (sym (subst (λ j. sorts.is_expression j ≡ true) (kind_is k Kind.IdentifierName n) (taken_by sorts.Sort.expression k xs ts h).taken))

-- by its flags: a key and a value, or a name alone
pub pair_by : (v : Term) (P : List Text → Term → Type 0) (k : Term) → ((computed : Bool) → has_shape (key_place computed sorts.Sort.key) k ≡ true → P (flag computed (codes "computed") ∷ [] ∷ []) k) → ((x : Text) → is_value_of x v ≡ true → P ([] ∷ codes "shorthand" ∷ []) (name_of x)) → (x y : Text) → texts.flag (codes "computed") x ≡ true → texts.flag (codes "shorthand") y ≡ true → has_shape (key_place (is_set x) sorts.Sort.key) k ≡ true → marks_shorthand y (two k v) ≡ true → P (x ∷ y ∷ []) k
pair_by v P k pair name x y hx hy =
    by_flag (codes "computed") (λ z. has_shape (key_place (is_set z) sorts.Sort.key) k ≡ true → marks_shorthand y (two k v) ≡ true → P (z ∷ y ∷ []) k)
    (λ a. by_flag (codes "shorthand") (λ z. has_shape (key_place (is_set (flag a (codes "computed"))) sorts.Sort.key) k ≡ true → marks_shorthand z (two k v) ≡ true → P (flag a (codes "computed") ∷ z ∷ []) k) (λ b. by a b) y hy) x hx
  where
    by : (a b : Bool) → has_shape (key_place (is_set (flag a (codes "computed"))) sorts.Sort.key) k ≡ true → marks_shorthand (flag b (codes "shorthand")) (two k v) ≡ true → P (flag a (codes "computed") ∷ flag b (codes "shorthand") ∷ []) k
    by true false h s = pair true h
    by false false h s = pair false h
    by true true h s = no_name k h (and_parts (is_node Kind.IdentifierName k) _ s).0
    by false true h s = key_name (λ z. is_one_name (two z v) ≡ true → P ([] ∷ codes "shorthand" ∷ []) z) k h (and_parts (is_node Kind.IdentifierName k) _ s).0 (λ x s. name x (and_parts (is_node Kind.IdentifierName (name_of x)) _ s).1) s

-- ---- { k: p, ...r }

abbrev pub object_to : Terms → Term → To
object_to ts r rest = spread_to (braces (has_items (list ts) || is_present r) (rows.rested (two (list ts) r))) (record { whole = to true never (list ts); items = each_to true never ts } ∷ record { whole = to true never r; items = items_to true never r } ∷ []) rest

pub object_with : (s : Sort) (k q : sorts.Sort) (P : List Term → Term → Text → Text → Type 0) → ((es : List Term) (r : Term) (a b c d : Text) → Sign (codes "{") a b → Rested true s es r b c → Sign (codes "}") c d → P es r a d) → ((t : Term) → has_shape (Place.one k) t ≡ true → Claim off t → ItemAt s true never t) → (r : Term) → has_shape (Place.optional q) r ≡ true → (has_shape (Place.one q) r ≡ true → (g : Lead) (rest : Text) → ends rest false ≡ true → Rest s (wrapped true never r) (led g (to true never r rest)) rest) → (ts : Terms) → each_shaped (Place.one k) ts ≡ true → Each off ts → (g : Lead) (rest : Text) → P (each_wrapped true never ts) (wrapped true never r) (led g (object_to ts r rest)) rest
object_with s k q P make item absent hr last none h c g rest = make [] absent _ _ _ _ (left_brace g) (no_rest no_items) (right_brace flush)
object_with s k q P make item absent hr last (more t ts) h c g rest =
    make (each_wrapped true never (more t ts)) absent _ _ _ _ (left_brace g) (no_rest (items (last_present (Place.one k) (one_whole k) true never t ts h) (whole_list s (Place.one k) (one_whole k) off true never item t ts h c spaced (32 ∷ 125 ∷ rest) refl))) (right_brace spaced)
object_with s k q P make item (list us) hr last ts h c g rest = differ (sym hr)
object_with s k q P make item (node j xs us) hr last none h c g rest = make [] (wrapped true never (node j xs us)) _ _ _ _ (left_brace g) (rest_alone (last hr spaced (32 ∷ 125 ∷ rest) refl)) (right_brace spaced)
object_with s k q P make item (node j xs us) hr last (more t ts) h c g rest =
    make (each_wrapped true never (more t ts)) (wrapped true never (node j xs us)) _ _ _ _ (left_brace g) (with_rest true s (Place.one k) item (more t ts) h c (wrapped true never (node j xs us)) (to true never (node j xs us)) (32 ∷ 125 ∷ rest) (λ l. last hr l (32 ∷ 125 ∷ rest) refl) spaced) (right_brace spaced)
