-- What an expression's text begins with, where its place asks.
use Rattle.std.proofs.Common.{◌≡◌, refl, sym, ◌∙◌, subst, List, Bool, true, false, not, ◌&&◌, ◌||◌}
use Rattle.std.specs.Prelude.{if◌then◌else◌}
use Rattle.js_term.specs.Term.{Text, Term, absent, list, node, Terms, none, more}
use Rattle.js_term.specs.declared.kind.Kind.{Kind}
use Rattle.js_syntax.specs.Edges.{leftmost, leftmost_first, has_kind, begins_with_part, begins_with_brace, begins_with_definition, is_brace_kind, is_definition_kind}
use Rattle.print_layout.specs.Needs.{never, leads, leads_first, front_needs, needs, inside, is_opener, is_in}
use Rattle.print_layout.specs.Layout.{put, wrapped, wrapped_kids}
use Rattle.print_spelling.proofs.Tokens.{differ}

abbrev pub is_item : Term → Bool
is_item (list ts) = false
is_item t = true

front_needed : (k : Kind) (texts : List Text) → begins_with_part k texts ≡ true → needs k texts 0 ≡ front_needs k texts
front_needed Kind.ExpressionStatement texts h = differ (sym h)
front_needed Kind.ExportDefaultDeclaration texts h = differ (sym h)
front_needed k texts h = refl

module _ (test : Kind → Bool) (no_parentheses : test Kind.ParenthesizedExpression ≡ false) where
  mutual
    leads_not : (i : Bool) (need : Term → Bool) (t : Term) → leads test need t ≡ false → has_kind test (leftmost (wrapped i need t)) ≡ false
    leads_not i need absent h = refl
    leads_not i need (list none) h = refl
    leads_not i need (list (more t ts)) h = leads_not i need t h
    leads_not i need (node k texts ts) h =
        by (need (node k texts ts)) (not i && is_in k texts) (begins_with_part k texts) refl h (λ j e. kids_not j k texts ts e)
      where
        by : (b d c : Bool) → begins_with_part k texts ≡ c → not b && (if c then leads_first test (front_needs k texts) ts else test k) ≡ false → ((j : Bool) → begins_with_part k texts ≡ true → leads_first test (front_needs k texts) ts ≡ false → has_kind test (leftmost_first (wrapped_kids j k texts 0 ts)) ≡ false) → has_kind test (leftmost (put (b || d) (node k texts (wrapped_kids (i || (b || d)) k texts 0 ts)))) ≡ false
        by true d c e h f = no_parentheses
        by false true c e h f = no_parentheses
        by false false true e h f = rw e (f (i || false) e h)
        by false false false e h f = rw e h

    kids_not : (i : Bool) (k : Kind) (texts : List Text) (ts : Terms) → begins_with_part k texts ≡ true → leads_first test (front_needs k texts) ts ≡ false → has_kind test (leftmost_first (wrapped_kids i k texts 0 ts)) ≡ false
    kids_not i k texts none e h = refl
    kids_not i k texts (more t ts) e h =
        subst (λ n. has_kind test (leftmost (wrapped (inside i k 0) n t)) ≡ false) (sym (front_needed k texts e)) (leads_not (inside i k 0) (front_needs k texts) t h)

  -- a part whose place asks for parentheses where its text would begin so
  pub front_not : (i : Bool) (need : Term → Bool) (t : Term) → is_item t ≡ true → (need t ≡ false → leads test never t ≡ false) → has_kind test (leftmost (wrapped i need t)) ≡ false
  front_not i need absent e f = refl
  front_not i need (list ts) e f = differ (sym e)
  front_not i need (node k texts ts) e f = leads_not i need (node k texts ts) (by (need (node k texts ts)) f)
    where
      by : (b : Bool) → (b ≡ false → leads test never (node k texts ts) ≡ false) → not b && (if begins_with_part k texts then leads_first test (front_needs k texts) ts else test k) ≡ false
      by true f = refl
      by false f = f refl

either : (a b : Kind → Bool) (t : Term) → has_kind (λ k. a k || b k) t ≡ (has_kind a t || has_kind b t)
either a b absent = refl
either a b (list ts) = refl
either a b (node k texts ts) = refl

pub opens_statement : (need : Term → Bool) (t : Term) → is_item t ≡ true → (need t ≡ false → leads is_opener never t ≡ false) → begins_with_brace (wrapped true need t) || begins_with_definition (wrapped true need t) ≡ false
opens_statement need t e f = sym (either is_brace_kind is_definition_kind (leftmost (wrapped true need t))) ∙ front_not is_opener refl true need t e f

pub opens_body : (i : Bool) (need : Term → Bool) (t : Term) → is_item t ≡ true → (need t ≡ false → leads is_brace_kind never t ≡ false) → begins_with_brace (wrapped i need t) ≡ false
opens_body i need t e f = front_not is_brace_kind refl i need t e f

pub opens_default : (need : Term → Bool) (t : Term) → is_item t ≡ true → (need t ≡ false → leads is_definition_kind never t ≡ false) → begins_with_definition (wrapped true need t) ≡ false
opens_default need t e f = front_not is_definition_kind refl true need t e f
