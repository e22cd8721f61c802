-- Lists of names that differ from each other.
use Rattle.std.proofs.Common.{◌≡◌, refl, ◌∙◌, ap, sym, append_assoc, List, [], ◌∷◌, ◌++◌, Option, None, Some, Bool, true, false, not, ◌&&◌, ◌||◌}
use Rattle.js_term.specs.Term.{Text, is_text}
use Rattle.js_term.specs.Lexeme.{is_one_of}
use Rattle.js_term.specs.Form.{is_distinct}
use Rattle.js_small.specs.Names.{apart, with_name, is_again}

pub or_assoc : (a b c : Bool) → ((a || b) || c) ≡ (a || (b || c))
or_assoc true b c = refl
or_assoc false b c = refl

pub and_assoc : (a b c : Bool) → ((a && b) && c) ≡ (a && (b && c))
and_assoc true b c = refl
and_assoc false b c = refl

pub one_of_append : (x : Text) (xs ys : List Text) → is_one_of x (xs ++ ys) ≡ (is_one_of x xs || is_one_of x ys)
one_of_append x [] ys = refl
one_of_append x (z ∷ xs) ys = ap (λ b. is_text x z || b) (one_of_append x xs ys) ∙ sym (or_assoc (is_text x z) (is_one_of x xs) (is_one_of x ys))

pub apart_append : (xs ys zs : List Text) → apart (xs ++ ys) zs ≡ (apart xs (ys ++ zs) && apart ys zs)
apart_append [] ys zs = refl
apart_append (x ∷ xs) ys zs =
    rw (one_of_append x xs ys, one_of_append x ys zs, apart_append xs ys zs, or_assoc (is_one_of x xs) (is_one_of x ys) (is_one_of x zs))
    (sym (and_assoc (not (is_one_of x xs || (is_one_of x ys || is_one_of x zs))) (apart xs (ys ++ zs)) (apart ys zs)))

pub distinct_append : (xs ys : List Text) → is_distinct (xs ++ ys) ≡ (apart xs ys && is_distinct ys)
distinct_append [] ys = refl
distinct_append (x ∷ xs) ys =
    rw (one_of_append x xs ys, distinct_append xs ys)
    (sym (and_assoc (not (is_one_of x xs || is_one_of x ys)) (apart xs ys) (is_distinct ys)))

pub one_of_named : (x : Text) (n : Option Text) (ys : List Text) → is_one_of x (with_name n ys) ≡ (is_one_of x (with_name n []) || is_one_of x ys)
one_of_named x None ys = refl
one_of_named x (Some z) ys = one_of_append x (z ∷ []) ys

pub distinct_named : (n : Option Text) (ys : List Text) → is_distinct (with_name n ys) ≡ (not (is_again n ys) && is_distinct ys)
distinct_named None ys = refl
distinct_named (Some z) ys = refl

pub with_name_append : (n : Option Text) (out ys : List Text) → (out ++ with_name n []) ++ ys ≡ out ++ with_name n ys
with_name_append None out ys = append_assoc out [] ys
with_name_append (Some z) out ys = append_assoc out (z ∷ []) ys
