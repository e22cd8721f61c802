-- What stands for each kind of statement, and for the functions in properties.
use Rattle.std.proofs.Common.{◌≡◌, refl, sym, ◌∙◌, ap, List, [], ◌∷◌, ◌++◌, true, false, append_assoc}
use Rattle.std.proofs.lemmas.List.{append-nil}
use Rattle.std.specs.Prelude.{codes}
use Rattle.js_term.specs.Term.{Text, Term, absent, list, node, Terms, none, more, two}
use Rattle.js_term.specs.declared.kind.Kind.TheVariants as Kind
use Rattle.js_term.specs.Lexeme.{whole, is_word, is_reserved}
use Rattle.js_term.specs.Node.{binding_of, named, parameters_of}
use Rattle.js_term.specs.Spells.{Names, last_name, and_name, Parameters, no_names, names}
use Rattle.js_term.specs.Form.{Sort, Place, one_text, no_texts, two_flags, is_property, many, some, single, empty, nothing}
use Rattle.js_term.specs.Form as form
use Rattle.js_print.specs.Layout.{pieces, all_pieces, printed, commas, behind, separated, no_need, held, held_kids, wrapped}
use Rattle.js_print.proofs.Lexemes.{word_token, sign_token}
use Rattle.js_print.proofs.Blanks.{gap_names}
use Rattle.js_print.proofs.Fit.{differ, and_left, and_right, fit, fit_each, fit_places, two_parts, absent_part, many_part, text_none}
use Rattle.js_print.proofs.Standing.{moved}
use Rattle.js_print.proofs.Expressions.{binding_alone}

-- parts that no place needs parentheses for
abbrev pub plainly : Terms → Terms
plainly ts = held_kids (λ n. no_need) ts

abbrev comma_blank : Text
comma_blank = codes ", "

behind_some : (separator x : Text) (xs ps : List Text) → ps ≡ x ∷ xs → behind separator ps ≡ separator ++ separated separator ps
behind_some separator x xs ps e = rw e refl

separated_some : (separator x : Text) (ps qs : List Text) → ps ≡ x ∷ [] → separated separator (ps ++ qs) ≡ x ++ behind separator qs
separated_some separator x ps qs e = rw e refl

-- a text of parts with separators, by its first part
pub first_of_one : (separator x : Text) (ps : List Text) (rest : Text) → ps ≡ x ∷ [] → separated separator (ps ++ []) ++ rest ≡ x ++ rest
first_of_one separator x ps rest e = ap (λ y. y ++ rest) (separated_some separator x ps [] e ∙ append-nil x)

pub first_of_more : (separator x y : Text) (ps qs ys : List Text) (rest : Text) → ps ≡ x ∷ [] → qs ≡ y ∷ ys → separated separator (ps ++ qs) ++ rest ≡ x ++ (separator ++ (separated separator qs ++ rest))
first_of_more separator x y ps qs ys rest e f =
    ap (λ z. z ++ rest) (separated_some separator x ps qs e ∙ ap (λ z. x ++ z) (behind_some separator y ys qs f))
    ∙ append_assoc x (separator ++ separated separator qs) rest ∙ ap (λ z. x ++ z) (append_assoc separator (separated separator qs) rest)

-- parameters

parameter_name : (C : Term → Type 0) → ((x : Text) → is_word x ≡ true → is_reserved x ≡ false → C (node Kind.FormalParameter [] (two (binding_of x) absent))) → (t : Term) → fit (form.one Sort.parameter) t ≡ true → C t
parameter_name C f absent h = differ (sym h)
parameter_name C f (list ts) h = differ (sym h)
parameter_name C f (node Kind.FormalParameter texts ts) h =
    text_none (λ xs. C (node Kind.FormalParameter xs ts))
    (two_parts (λ us. C (node Kind.FormalParameter [] us)) (form.one Sort.binding) nothing
    (λ t u ht hu. absent_part (λ v. C (node Kind.FormalParameter [] (two t v))) (binding_alone (λ v. C (node Kind.FormalParameter [] (two v absent))) f t ht) u hu) ts
    (and_right (no_texts texts) (fit_places (form.one Sort.binding ∷ nothing ∷ []) ts) h)) texts (and_left (no_texts texts) (fit_places (form.one Sort.binding ∷ nothing ∷ []) ts) h)
parameter_name C f (node k texts ts) h = differ (sym h)

-- names that are parameters
pub record Named (ts : Terms) : Type 0 where
  pub texts : List Text
  pub same : plainly ts ≡ named texts

-- one or more parameters before a parenthesis
record Some (t : Term) (ts : Terms) (rest : Text) : Type 0 where
  texts : List Text
  same : plainly (more t ts) ≡ named texts
  stand : Names whole texts (commas (all_pieces (plainly (more t ts))) ++ 41 ∷ rest) (41 ∷ rest)

piece_of : (x : Text) → pieces (held no_need (node Kind.FormalParameter [] (two (binding_of x) absent))) ≡ x ∷ []
piece_of x = refl

names_stand : (t : Term) (ts : Terms) → fit (form.one Sort.parameter) t ≡ true → fit_each (form.one Sort.parameter) ts ≡ true → (rest : Text) → Some t ts rest
names_stand t none h hs rest =
    parameter_name (λ v. Some v none rest) (λ x w r. record {
      texts = x ∷ [];
      same = refl;
      stand = moved (λ a. Names whole (x ∷ []) a (41 ∷ rest)) ((x ++ []) ++ 41 ∷ rest) (x ++ 41 ∷ rest) (ap (λ y. y ++ 41 ∷ rest) (append-nil x)) (last_name r (word_token x (41 ∷ rest) w refl));
    }) t h
names_stand t (more v vs) h hs rest = with_rest (names_stand v vs (and_left (fit (form.one Sort.parameter) v) (fit_each (form.one Sort.parameter) vs) hs) (and_right (fit (form.one Sort.parameter) v) (fit_each (form.one Sort.parameter) vs) hs) rest)
  where
    piece : (u : Term) → fit (form.one Sort.parameter) u ≡ true → pieces (held no_need u) ≡ printed (held no_need u) ∷ []
    piece = parameter_name (λ u. pieces (held no_need u) ≡ printed (held no_need u) ∷ []) (λ x w r. refl)

    with_rest : Some v vs rest → Some t (more v vs) rest
    with_rest s = parameter_name (λ u. Some u (more v vs) rest) (λ x w r.
        let ps : List Text = all_pieces (plainly (more v vs)) in
        let ps_is : ps ≡ printed (held no_need v) ∷ all_pieces (plainly vs) = ap (λ q. q ++ all_pieces (plainly vs)) (piece v (and_left (fit (form.one Sort.parameter) v) (fit_each (form.one Sort.parameter) vs) hs)) in
        record {
          texts = x ∷ s.texts;
          same = ap (more (node Kind.FormalParameter [] (two (binding_of x) absent))) s.same;
          stand = moved (λ a. Names whole (x ∷ s.texts) a (41 ∷ rest)) (commas ((x ∷ []) ++ ps) ++ 41 ∷ rest) (x ++ 44 ∷ 32 ∷ (commas ps ++ 41 ∷ rest))
              (first_of_more comma_blank x (printed (held no_need v)) (x ∷ []) ps (all_pieces (plainly vs)) (41 ∷ rest) refl ps_is)
              (and_name r (word_token x (44 ∷ 32 ∷ (commas ps ++ 41 ∷ rest)) w refl) (sign_token 44 (32 ∷ (commas ps ++ 41 ∷ rest)) refl) (gap_names 32 refl s.stand));
        }) t h

-- parameters in their parentheses
pub record InParentheses (t : Term) (rest : Text) : Type 0 where
  pub texts : List Text
  pub same : wrapped t ≡ parameters_of texts
  pub inside : Text
  pub text_is : printed (wrapped t) ++ rest ≡ 40 ∷ (inside ++ 41 ∷ rest)
  pub stand : Parameters whole texts (inside ++ 41 ∷ rest) (41 ∷ rest)

pub parameters_stand : (t : Term) → fit (form.one Sort.parameters) t ≡ true → (rest : Text) → InParentheses t rest
parameters_stand absent h rest = differ (sym h)
parameters_stand (list ts) h rest = differ (sym h)
parameters_stand (node Kind.FormalParameters texts ts) h rest =
    text_none (λ xs. InParentheses (node Kind.FormalParameters xs ts) rest)
    (two_parts (λ us. InParentheses (node Kind.FormalParameters [] us) rest) (many Sort.parameter) nothing
    (λ t u ht hu. absent_part (λ v. InParentheses (node Kind.FormalParameters [] (two t v)) rest) (many_part (λ v. InParentheses (node Kind.FormalParameters [] (two v absent)) rest) Sort.parameter of_names t ht) u hu) ts
    (and_right (no_texts texts) (fit_places (many Sort.parameter ∷ nothing ∷ []) ts) h)) texts (and_left (no_texts texts) (fit_places (many Sort.parameter ∷ nothing ∷ []) ts) h)
  where
    of_names : (us : Terms) → fit_each (form.one Sort.parameter) us ≡ true → InParentheses (node Kind.FormalParameters [] (two (list us) absent)) rest
    of_names none g = record { texts = []; same = refl; inside = []; text_is = refl; stand = no_names }
    of_names (more v vs) g =
        let s : Some v vs rest = names_stand v vs (and_left (fit (form.one Sort.parameter) v) (fit_each (form.one Sort.parameter) vs) g) (and_right (fit (form.one Sort.parameter) v) (fit_each (form.one Sort.parameter) vs) g) rest in
        record {
          texts = s.texts;
          same = ap (λ us. node Kind.FormalParameters [] (two (list us) absent)) s.same;
          inside = commas (all_pieces (plainly (more v vs)));
          text_is = ap (λ y. 40 ∷ y) (append_assoc (commas (all_pieces (plainly (more v vs)))) (41 ∷ []) rest);
          stand = names s.stand;
        }
parameters_stand (node k texts ts) h rest = differ (sym h)
