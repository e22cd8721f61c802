-- A printed tree stands at the front of a text: its layout spells it, with the parentheses that were put.
use Rattle.std.proofs.Common.{◌≡◌, refl, sym, ap, subst, ℕ, ◌≤◌, List, [], ◌∷◌, ◌++◌, Bool, true, false, ◌&&◌, ◌||◌, not, cond, nat_eq, append_assoc}
use Rattle.std.proofs.lemmas.Bool.{ltb-false}
use Rattle.std.specs.Cmp.Lexicographic.{bytes_decides}
use Rattle.js_term.specs.Term.{Text, is_text, Term, absent, list, node, Terms, none, more, all}
use Rattle.js_term.specs.declared.kind.Kind.{Kind}
use Rattle.js_term.specs.declared.kind.Kind.TheVariants as Kind
use Rattle.js_term.specs.Lexeme.{whole, not_next, goes_on, goes_on_number, is_blank, is_line_end, same_line}
use Rattle.js_term.specs.Node.{parenthesized_of}
use Rattle.js_term.specs.Spells.{level, joined, Stands, parenthesized, Listed, Statement, Declaration}
use Rattle.js_term.specs.Form.{Sort, Place, fits, is_binding_name, one_text, is_off, is_truth, no_texts, many, several}
use Rattle.js_term.specs.Form as form
use Rattle.js_print.specs.Layout.{pieces, printed, is_looser, needs, in_parentheses, held, held_kids, wrapped}
use Rattle.js_print.proofs.Lexemes.{sign_token}
use Rattle.js_print.proofs.Fit.{differ, fit}

pub true_not : (b : Bool) → not b ≡ true → b ≡ false
true_not true h = sym h
true_not false h = refl

pub text_same : (x y : Text) → is_text x y ≡ true → x ≡ y
text_same x y e = (bytes_decides x y).0 e

abbrev pub expression : Place
expression = form.one Sort.expression

-- what may not follow an expression: a number, and what may end in one, is not followed by `.`
abbrev pub may_end_in_number : Kind → Bool
may_end_in_number Kind.NumericLiteral = true
may_end_in_number Kind.SequenceExpression = true
may_end_in_number Kind.AwaitExpression = true
may_end_in_number k = false

abbrev pub ends : Term → Text → Bool
ends (node k texts ts) rest = cond (may_end_in_number k) (not_next goes_on_number rest) (not_next goes_on rest)
ends t rest = true

pub ends_by : (t : Term) (rest : Text) → not_next goes_on_number rest ≡ true → ends t rest ≡ true
ends_by absent rest h = refl
ends_by (list ts) rest h = refl
ends_by (node k texts ts) rest h = by (may_end_in_number k)
  where
    weaker : (r : Text) → not_next goes_on_number r ≡ true → not_next goes_on r ≡ true
    weaker [] g = refl
    weaker (c ∷ cs) g = no_part (goes_on c) (nat_eq c 46) g
      where
        no_part : (b d : Bool) → not (b || d) ≡ true → not b ≡ true
        no_part true d f = f
        no_part false d f = refl

    by : (b : Bool) → cond b (not_next goes_on_number rest) (not_next goes_on rest) ≡ true
    by true = h
    by false = weaker rest h

-- a text that begins with no blank
abbrev pub is_fresh : Text → Bool
is_fresh [] = false
is_fresh (c ∷ cs) = not (is_blank c)

pub fresh_append : (x y : Text) → is_fresh x ≡ true → is_fresh (x ++ y) ≡ true
fresh_append [] y h = differ (sym h)
fresh_append (c ∷ cs) y h = h

no_line : (s p r : Bool) → not (s || p) ≡ true → (not p && (not (s || p) || r)) ≡ true
no_line true p r h = differ (sym h)
no_line false true r h = differ (sym h)
no_line false false r h = refl

pub fresh_line : (x : Text) → is_fresh x ≡ true → same_line (32 ∷ x) ≡ true
fresh_line [] h = refl
fresh_line (c ∷ cs) h = no_line (nat_eq c 32 || nat_eq c 9) (is_line_end c) (same_line cs) h

abbrev pub Standing : Term → Text → Type 0
Standing t rest = Stands whole (wrapped t) (printed (wrapped t) ++ rest) rest

-- a list of expressions that is one expression
pub record Lists (u : Term) (a b : Text) : Type 0 where
  pub items : List Term
  pub is_joined : joined items ≡ u
  pub stand : Listed whole items a b

pub record Claim (t : Term) : Type 0 where
  pub stands : fit expression t ≡ true → is_looser 2 (wrapped t) ≡ false → (rest : Text) → ends t rest ≡ true → Standing t rest
  pub lists : fit expression t ≡ true → (rest : Text) → ends t rest ≡ true → Lists (wrapped t) (printed (wrapped t) ++ rest) rest
  pub fresh : fit expression t ≡ true → is_fresh (printed (wrapped t)) ≡ true
  pub states : fit (form.one Sort.statement) t ≡ true → (rest : Text) → Statement whole (wrapped t) (printed (wrapped t) ++ rest) rest
  pub declares : fit (form.one Sort.declaration) t ≡ true → (rest : Text) → Declaration whole (wrapped t) (printed (wrapped t) ++ rest) rest

-- what is claimed of a tree and of all of its parts
abbrev mutual
  pub Claims : Term → Type 0
  Claims absent = Unit {0}
  Claims (list ts) = AllClaims ts
  Claims (node k texts ts) = Claim (node k texts ts) × AllClaims ts

  pub AllClaims : Terms → Type 0
  AllClaims none = Unit {0}
  AllClaims (more t ts) = Claims t × AllClaims ts

pub moved : (P : Text → Type 0) (a b : Text) → a ≡ b → P b → P a
moved P a b e p = subst P (sym e) p

-- a part in its place

not_looser : (n : ℕ) (u : Term) → is_looser n u ≡ false → n ≤ level u
not_looser n u h = ltb-false (level u) n h

pub held_level : (n : ℕ) (need : Term → Bool) (t : Term) → n ≤ 21 → ((u : Term) → need u ≡ false → is_looser n u ≡ false) → fit expression t ≡ true → n ≤ level (held need t)
held_level n need absent b f h = differ (sym h)
held_level n need (list ts) b f h = differ (sym h)
held_level n need (node k texts ts) b f h = by (need u) refl
  where
    u : Term
    u = node k texts (held_kids (needs k) ts)

    by : (c : Bool) → need u ≡ c → n ≤ level (in_parentheses c u)
    by true e = b
    by false e = not_looser n u (f u e)

pub held_piece : (need : Term → Bool) (t : Term) → fit expression t ≡ true → pieces (held need t) ≡ printed (held need t) ∷ []
held_piece need absent h = differ (sym h)
held_piece need (list ts) h = differ (sym h)
held_piece need (node k texts ts) h = by (need u)
  where
    u : Term
    u = node k texts (held_kids (needs k) ts)

    by : (c : Bool) → pieces (in_parentheses c u) ≡ printed (in_parentheses c u) ∷ []
    by true = refl
    by false = refl

pub held_stands : (need : Term → Bool) (t : Term) → Claims t → fit expression t ≡ true → ((u : Term) → need u ≡ false → is_looser 2 u ≡ false) → (rest : Text) → (need (wrapped t) ≡ false → ends t rest ≡ true) → Stands whole (held need t) (printed (held need t) ++ rest) rest
held_stands need absent g h f rest e = differ (sym h)
held_stands need (list ts) g h f rest e = differ (sym h)
held_stands need (node k texts ts) g h f rest e = by (need u) refl
  where
    u : Term
    u = node k texts (held_kids (needs k) ts)

    inside : Lists u (printed u ++ 41 ∷ rest) (41 ∷ rest)
    inside = g.0.lists h (41 ∷ rest) (ends_by (node k texts ts) (41 ∷ rest) refl)

    by : (c : Bool) → need u ≡ c → Stands whole (in_parentheses c u) (printed (in_parentheses c u) ++ rest) rest
    by true n =
        moved (λ a. Stands whole (parenthesized_of u) a rest) (40 ∷ ((printed u ++ 41 ∷ []) ++ rest)) (40 ∷ (printed u ++ 41 ∷ rest)) (ap (λ a. 40 ∷ a) (append_assoc (printed u) (41 ∷ []) rest))
        (subst (λ v. Stands whole (parenthesized_of v) (40 ∷ (printed u ++ 41 ∷ rest)) rest) inside.is_joined (parenthesized (sign_token 40 (printed u ++ 41 ∷ rest) refl) inside.stand (sign_token 41 rest refl)))
    by false n = g.0.stands h (f u n) rest (e n)

-- lists of parts

abbrev pub listing : Terms → List Term
listing none = []
listing (more t ts) = t ∷ listing ts

pub all_listing : (ts : Terms) → all (listing ts) ≡ ts
all_listing none = refl
all_listing (more t ts) = ap (more t) (all_listing ts)

pub held_fresh : (need : Term → Bool) (t : Term) → Claims t → fit expression t ≡ true → is_fresh (printed (held need t)) ≡ true
held_fresh need absent g h = differ (sym h)
held_fresh need (list ts) g h = differ (sym h)
held_fresh need (node k texts ts) g h = by (need u)
  where
    u : Term
    u = node k texts (held_kids (needs k) ts)

    by : (c : Bool) → is_fresh (printed (in_parentheses c u)) ≡ true
    by true = refl
    by false = g.0.fresh h
