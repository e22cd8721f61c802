-- Names of small modules and the runner's names.
use Rattle.std.proofs.Common.{◌≡◌, refl, sym, ◌∙◌, ap, ℕ, zero, suc, List, [], ◌∷◌, ◌++◌, Option, None, Some, Bool, true, false, not, ◌&&◌, ◌||◌, cond, ◌<◌, ◌^◌, arith, nat_eq, ◌⊎◌, inl, inr, ◌+◌, ◌/◌, ◌%◌}
use Rattle.std.specs.Prelude.{decimal, codes, ◌==◌}
use Rattle.std.specs.Fmt.{digits, digits_onto, digit_glyph}
use Rattle.std.specs.List.{list_all}
use Rattle.std.specs.Cmp.Lexicographic.{bytes_decides}
use Rattle.std.proofs.lemmas.Fmt.{decimal_injective}
use Rattle.std.proofs.lemmas.Bool.{eqb-true, eqb-false, lt-ltb, le-ltb, and_parts, and_from, not-true}
use Rattle.std.proofs.lemmas.List.{append_cancel_left, append_cancel_right}
use Rattle.std.proofs.lemmas.List.Folds.{list_all-append}
use Rattle.js_term.specs.Term.{Text, is_text}
use Rattle.js_term.specs.Lexeme.{is_start, is_digit, is_part, is_one_of}
use Rattle.js_term.specs.Scope.{Scope, Entry, here, arguments_object, imported, plainly, call_scope, entry_of}
use Rattle.js_term.specs.Form.{is_marked, is_small_name, is_small_binding, is_binding_name}
use Rattle.module_model.specs.Shape.{marked, import_name}
use Rattle.module_model.specs.ReadBack.{is_readable, is_bindable, is_request_name, numbered}

pub or_left : (a b : Bool) → a ≡ true → (a || b) ≡ true
or_left a b p = rw p refl

pub or_right : (a b : Bool) → b ≡ true → (a || b) ≡ true
or_right true b p = refl
or_right false b p = p

pub false_by : (b : Bool) → (b ≡ true → false ≡ true) → b ≡ false
false_by true f = sym (f refl)
false_by false f = refl

pub is_text_same : (x : Text) → is_text x x ≡ true
is_text_same x = (bytes_decides x x).1 refl

pub text_same : (x y : Text) → is_text x y ≡ true → x ≡ y
text_same x y e = (bytes_decides x y).0 e

-- what a name of a small module is not
module _ (x : Text) (h : is_small_name x ≡ true) where
  parts : (is_binding_name x ≡ true) × ((not (is_marked x) && not (is_text x (codes "Object"))) ≡ true)
  parts = and_parts (is_binding_name x) (not (is_marked x) && not (is_text x (codes "Object"))) h

  pub small_binding : is_binding_name x ≡ true
  small_binding = parts.0

  pub unmarked : is_marked x ≡ false
  unmarked = not-true (is_marked x) (and_parts (not (is_marked x)) (not (is_text x (codes "Object"))) parts.1).0

  pub no_object : is_text x (codes "Object") ≡ false
  no_object = not-true (is_text x (codes "Object")) (and_parts (not (is_marked x)) (not (is_text x (codes "Object"))) parts.1).1

  pub small_bindable : is_bindable x ≡ true
  small_bindable = rw unmarked refl

  pub small_readable : (n : ℕ) → is_readable n x ≡ true
  small_readable n = rw unmarked refl

  pub small_is_no_request : (j : ℕ) → is_text x (import_name j) ≡ false
  small_is_no_request j = false_by (is_text x (import_name j)) (λ e. sym unmarked ∙ ap is_marked (text_same x (import_name j) e))

pub bound_is_small : (x : Text) → is_small_binding x ≡ true → is_small_name x ≡ true
bound_is_small x h = (and_parts (is_small_name x) (not (is_one_of x (codes "arguments" ∷ codes "eval" ∷ []))) h).0

-- the number of a request
same_or_below : (n j : ℕ) → j < suc n → (nat_eq j n ≡ true) × (j ≡ n) ⊎ (nat_eq j n ≡ false) × (j < n)
same_or_below n j h = by (nat_eq j n) (eqb-true j n) (eqb-false j n)
  where
    by : (b : Bool) → (b ≡ true → j ≡ n) → (b ≡ false → j ≡ n → ⊥) → (b ≡ true) × (j ≡ n) ⊎ (b ≡ false) × (j < n)
    by true f g = inl (refl, f refl)
    by false f g = let d : j ≡ n → ⊥ = g refl in inr (refl, omega (arith, d))

pub request_readable : (n j : ℕ) → j < n → is_request_name n (import_name j) ≡ true
request_readable zero j h = absurd (omega arith)
request_readable (suc n) j h =
    elim (same_or_below n j h) as (λ v. is_request_name (suc n) (import_name j) ≡ true) [
      | inl e ↦ or_left (is_text (import_name j) (import_name n)) (is_request_name n (import_name j)) (ap (λ m. is_text (import_name j) (import_name m)) (sym e.1) ∙ is_text_same (import_name j))
      | inr e ↦ or_right (is_text (import_name j) (import_name n)) (is_request_name n (import_name j)) (request_readable n j e.1)
    ]

abbrev end : Text
end = codes "__"

pub names_differ : (i j : ℕ) → import_name i ≡ import_name j → decimal i ≡ decimal j
names_differ i j e = append_cancel_right (decimal i) (decimal j) end (append_cancel_left (marked (codes "import_")) (decimal i ++ end) (decimal j ++ end) e)

pub numbered_finds : (n j : ℕ) → n < 2 ^ 64 → j < n → entry_of (numbered n) (import_name j) ≡ Some (imported j None)
numbered_finds zero j b h = absurd (omega arith)
numbered_finds (suc n) j b h =
    elim (same_or_below n j h) as (λ v. entry_of (numbered (suc n)) (import_name j) ≡ Some (imported j None)) [
      | inl e ↦ rw (ap (λ m. is_text (import_name m) (import_name j)) (sym e.1) ∙ is_text_same (import_name j), sym e.1) refl
      | inr e ↦
          let other : is_text (import_name n) (import_name j) ≡ false = false_by (is_text (import_name n) (import_name j)) (λ t. absurd (let q : n ≡ j = decimal_injective n j (omega arith) (omega arith) (names_differ n j (text_same (import_name n) (import_name j) t)) in omega arith)) in
          rw other (numbered_finds n j (omega arith) e.1)
    ]

pub numbered_none : (n : ℕ) (x : Text) → is_marked x ≡ false → entry_of (numbered n) x ≡ None
numbered_none zero x p = refl
numbered_none (suc n) x p =
    rw (false_by (is_text (import_name n) x) (λ e. sym p ∙ ap is_marked (sym (text_same (import_name n) x e)))) (numbered_none n x p)

-- the name of a request is a word, and not reserved
below_ten : (d : ℕ) → d < 10 → is_part (digit_glyph false d) ≡ true
below_ten d h =
    rw (lt-ltb d 10 h) (or_right (is_start (48 + d)) (is_digit (48 + d)) (rw (le-ltb (48 + d) 48 (omega arith), le-ltb 57 (48 + d) (omega arith)) refl))

digits_are_parts : (k n : ℕ) (ds : Text) → list_all is_part ds ≡ true → list_all is_part (digits_onto k 10 false n ds) ≡ true
digits_are_parts zero n ds h = h
digits_are_parts (suc k) n ds h =
    let digit : is_part (digit_glyph false (n % 10)) ≡ true = below_ten (n % 10) (omega arith) in
    let more : list_all is_part (digit_glyph false (n % 10) ∷ ds) ≡ true = and_from (is_part (digit_glyph false (n % 10))) (list_all is_part ds) digit h in
    elim (n / 10 == 0) as (λ b. list_all is_part (cond b (digit_glyph false (n % 10) ∷ ds) (digits_onto k 10 false (n / 10) (digit_glyph false (n % 10) ∷ ds))) ≡ true)
    [ true ↦ more | false ↦ digits_are_parts k (n / 10) (digit_glyph false (n % 10) ∷ ds) more ]

decimal_parts : (n : ℕ) → list_all is_part (decimal n) ≡ true
unfolding digits
decimal_parts n = digits_are_parts 64 n [] refl

pub request_name_binds : (j : ℕ) → is_binding_name (import_name j) ≡ true
request_name_binds j = rw (list_all-append is_part (decimal j) (codes "__"), decimal_parts j) refl

-- lists of names that pass a test
pub data Names : List Text → Type 0 where
  no_names : Names []
  a_name : {x : Text} {xs : List Text} → is_small_name x ≡ true → Names xs → Names (x ∷ xs)

pub names_append : (xs ys : List Text) → Names xs → Names ys → Names (xs ++ ys)
names_append [] ys p q = q
names_append (x ∷ xs) ys (a_name h p) q = a_name h (names_append xs ys p q)

abbrev pub or_else : Option Entry → Option Entry → Option Entry
or_else None b = b
or_else (Some e) b = Some e

pub entry_append : (s t : Scope) (x : Text) → entry_of (s ++ t) x ≡ or_else (entry_of s x) (entry_of t x)
entry_append [] t x = refl
entry_append (e ∷ s) t x =
    elim (is_text e.0 x) as (λ b. cond b (Some e.1) (entry_of (s ++ t) x) ≡ or_else (cond b (Some e.1) (entry_of s x)) (entry_of t x))
    [ true ↦ refl | false ↦ entry_append s t x ]

-- such names hide no request, and not `Object`
pub plainly_no_request : (xs : List Text) (j : ℕ) → Names xs → entry_of (plainly xs) (import_name j) ≡ None
plainly_no_request [] j p = refl
plainly_no_request (x ∷ xs) j (a_name h p) = rw (small_is_no_request x h j) (plainly_no_request xs j p)

pub call_no_request : (xs : List Text) (j : ℕ) → Names xs → entry_of (call_scope xs) (import_name j) ≡ None
call_no_request xs j p = rw (entry_append (plainly xs) ((codes "arguments", arguments_object) ∷ []) (import_name j), plainly_no_request xs j p) refl

pub plainly_no_object : (xs : List Text) → Names xs → entry_of (plainly xs) (codes "Object") ≡ None
plainly_no_object [] p = refl
plainly_no_object (x ∷ xs) (a_name h p) = rw (no_object x h) (plainly_no_object xs p)

-- what a scope of declarations has
abbrev pub is_plain : Option Entry → Bool
is_plain None = true
is_plain (Some here) = true
is_plain e = false

-- what the scope of a call has
abbrev pub is_inner : Option Entry → Bool
is_inner (Some (imported j k)) = false
is_inner e = true

pub plainly_is_plain : (xs : List Text) (x : Text) → is_plain (entry_of (plainly xs) x) ≡ true
plainly_is_plain [] x = refl
plainly_is_plain (y ∷ ys) x =
    elim (is_text y x) as (λ b. is_plain (cond b (Some here) (entry_of (plainly ys) x)) ≡ true) [ true ↦ refl | false ↦ plainly_is_plain ys x ]

pub call_is_inner : (xs : List Text) (x : Text) → is_inner (entry_of (call_scope xs) x) ≡ true
call_is_inner [] x =
    elim (is_text (codes "arguments") x) as (λ b. is_inner (cond b (Some arguments_object) None) ≡ true) [ true ↦ refl | false ↦ refl ]
call_is_inner (y ∷ ys) x =
    elim (is_text y x) as (λ b. is_inner (cond b (Some here) (entry_of (call_scope ys) x)) ≡ true) [ true ↦ refl | false ↦ call_is_inner ys x ]
