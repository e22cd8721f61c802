-- The parts of a node that fits a place.
use Rattle.std.proofs.Common.{◌≡◌, refl, sym, ◌∙◌, List, [], ◌∷◌, Bool, true, false, ◌&&◌}
use mathlib.Core.Bool.{true≢false}
use Rattle.js_term.specs.Term.{Text, Term, absent, list, node, Terms, none, more, one, two}
use Rattle.js_term.specs.Form.{Sort, Place, nothing, many, some, single, several, empty, nowhere, fits, fits_each, fits_places, stands_printable, allows, is_binding_name, places, one_text, no_texts, takes_list}
use Rattle.js_term.specs.Form as form

pub differ : {A : Type 0} → true ≡ false → A
differ e = absurd (true≢false e)

pub and_left : (a b : Bool) → (a && b) ≡ true → a ≡ true
and_left true b h = refl
and_left false b h = h

pub and_right : (a b : Bool) → (a && b) ≡ true → b ≡ true
and_right true b h = h
and_right false b h = differ (sym h)

abbrev pub fit : Place → Term → Bool
fit = fits stands_printable (allows is_binding_name is_binding_name) places

abbrev pub fit_each : Place → Terms → Bool
fit_each = fits_each stands_printable (allows is_binding_name is_binding_name) places

abbrev pub fit_places : List Place → Terms → Bool
fit_places = fits_places stands_printable (allows is_binding_name is_binding_name) places

nowhere_fits : (t : Term) → fit nowhere t ≡ false
nowhere_fits absent = refl
nowhere_fits (list ts) = refl
nowhere_fits (node k texts ts) = refl

pub no_parts : (C : Terms → Type 0) → C none → (ts : Terms) → fit_places [] ts ≡ true → C ts
no_parts C f none h = f
no_parts C f (more t ts) h = differ (sym (and_left (fit nowhere t) (fit_places [] ts) h) ∙ nowhere_fits t)

pub next_part : (C : Terms → Type 0) (p : Place) (ps : List Place) → ((t : Term) (ts : Terms) → fit p t ≡ true → fit_places ps ts ≡ true → C (more t ts)) → (ts : Terms) → fit_places (p ∷ ps) ts ≡ true → C ts
next_part C p ps f none h = differ (sym h)
next_part C p ps f (more t ts) h = f t ts (and_left (fit p t) (fit_places ps ts) h) (and_right (fit p t) (fit_places ps ts) h)

pub one_part : (C : Terms → Type 0) (p : Place) → ((t : Term) → fit p t ≡ true → C (one t)) → (ts : Terms) → fit_places (p ∷ []) ts ≡ true → C ts
one_part C p f = next_part C p [] (λ t ts h g. no_parts (λ us. C (more t us)) (f t h) ts g)

pub two_parts : (C : Terms → Type 0) (p q : Place) → ((t u : Term) → fit p t ≡ true → fit q u ≡ true → C (two t u)) → (ts : Terms) → fit_places (p ∷ q ∷ []) ts ≡ true → C ts
two_parts C p q f = next_part C p (q ∷ []) (λ t ts h g. one_part (λ us. C (more t us)) q (λ u k. f t u h k) ts g)

pub three_parts : (C : Terms → Type 0) (p q r : Place) → ((t u v : Term) → fit p t ≡ true → fit q u ≡ true → fit r v ≡ true → C (more t (two u v))) → (ts : Terms) → fit_places (p ∷ q ∷ r ∷ []) ts ≡ true → C ts
three_parts C p q r f = next_part C p (q ∷ r ∷ []) (λ t ts h g. two_parts (λ us. C (more t us)) q r (λ u v k l. f t u v h k l) ts g)

pub absent_part : (C : Term → Type 0) → C absent → (t : Term) → fit nothing t ≡ true → C t
absent_part C f absent h = f
absent_part C f (list ts) h = differ (sym h)
absent_part C f (node k texts ts) h = differ (sym h)

pub empty_part : (C : Term → Type 0) → C (list none) → (t : Term) → fit empty t ≡ true → C t
empty_part C f absent h = differ (sym h)
empty_part C f (list none) h = f
empty_part C f (list (more t ts)) h = differ (sym h)
empty_part C f (node k texts ts) h = differ (sym h)

pub many_part : (C : Term → Type 0) (s : Sort) → ((ts : Terms) → fit_each (form.one s) ts ≡ true → C (list ts)) → (t : Term) → fit (many s) t ≡ true → C t
many_part C s f absent h = differ (sym h)
many_part C s f (list ts) h = f ts h
many_part C s f (node k texts ts) h = differ (sym h)

pub some_part : (C : Term → Type 0) (s : Sort) → ((t : Term) (ts : Terms) → fit (form.one s) t ≡ true → fit_each (form.one s) ts ≡ true → C (list (more t ts))) → (t : Term) → fit (some s) t ≡ true → C t
some_part C s f absent h = differ (sym h)
some_part C s f (list none) h = differ (sym h)
some_part C s f (list (more t ts)) h = f t ts (and_left (fit (form.one s) t) (fit_each (form.one s) ts) h) (and_right (fit (form.one s) t) (fit_each (form.one s) ts) h)
some_part C s f (node k texts ts) h = differ (sym h)

pub single_part : (C : Term → Type 0) (s : Sort) → ((t : Term) → fit (form.one s) t ≡ true → C (list (one t))) → (t : Term) → fit (single s) t ≡ true → C t
single_part C s f absent h = differ (sym h)
single_part C s f (list none) h = differ (sym h)
single_part C s f (list (more t none)) h = f t (and_left (fit (form.one s) t) true h)
single_part C s f (list (more t (more u ts))) h = differ (sym h)
single_part C s f (node k texts ts) h = differ (sym h)

pub several_part : (C : Term → Type 0) (s : Sort) → ((t u : Term) (ts : Terms) → fit (form.one s) t ≡ true → fit_each (form.one s) (more u ts) ≡ true → C (list (more t (more u ts)))) → (t : Term) → fit (several s) t ≡ true → C t
several_part C s f absent h = differ (sym h)
several_part C s f (list none) h = differ (sym h)
several_part C s f (list (more t none)) h = differ (sym h)
several_part C s f (list (more t (more u ts))) h = f t u ts (and_left (fit (form.one s) t) (fit_each (form.one s) (more u ts)) h) (and_right (fit (form.one s) t) (fit_each (form.one s) (more u ts)) h)
several_part C s f (node k texts ts) h = differ (sym h)

pub text_alone : (C : List Text → Type 0) (test : Text → Bool) → ((x : Text) → test x ≡ true → C (x ∷ [])) → (texts : List Text) → one_text test texts ≡ true → C texts
text_alone C test f [] h = differ (sym h)
text_alone C test f (x ∷ []) h = f x h
text_alone C test f (x ∷ y ∷ ys) h = differ (sym h)

pub text_none : (C : List Text → Type 0) → C [] → (texts : List Text) → no_texts texts ≡ true → C texts
text_none C f [] h = f
text_none C f (x ∷ xs) h = differ (sym h)
