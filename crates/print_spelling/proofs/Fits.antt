-- What a node that fits its place is: its texts and its parts by their number.
use Rattle.std.proofs.Common.{◌≡◌, refl, ap, ◌∙◌, subst, ℕ, suc, ◌+◌, List, [], ◌∷◌, Bool, true, false, ◌&&◌, nat_eq, arith}
use Rattle.std.specs.Prelude.{length}
use Rattle.std.proofs.lemmas.Bool.{and_parts, eqb-true}
use Rattle.js_term.specs.Term.{Text, list, node, Terms, none, more}
use Rattle.js_term.specs.declared.kind.Kind.{Kind}
use Rattle.js_syntax.specs.Everywhere.{everywhere_kids, everywhere_each}
use Rattle.js_syntax.specs.Parts.{count, text_at}
use Rattle.js_syntax.specs.Sorts.{Sort, Place, takes_list, takes_absent, item_place, takes, suits}
use Rattle.js_syntax.specs.Places.{place_at, places_at, places, are_as_many}
use Rattle.js_syntax.specs.Texts.{tests, pass, pass_from, has_texts}
use Rattle.js_syntax.specs.Printable.{has_shape, fits, place_inside, is_sound}
use Rattle.print_spelling.proofs.Tokens.{differ}

abbrev pub are_many : List Place → Terms → Bool
are_many [] none = true
are_many (p ∷ ps) (more t ts) = are_many ps ts
are_many ps ts = false

abbrev pub are_words : List (Text → Bool) → List Text → Bool
are_words [] [] = true
are_words (p ∷ ps) (x ∷ xs) = are_words ps xs
are_words ps xs = false

abbrev pub Placed : List Place → Terms → Type 0
Placed (p ∷ ps) (more t ts) = (has_shape p t ≡ true) × Placed ps ts
Placed ps ts = Unit {0}

abbrev pub Worded : List (Text → Bool) → List Text → Type 0
Worded (p ∷ ps) (x ∷ xs) = (p x ≡ true) × Worded ps xs
Worded ps xs = Unit {0}

-- a node of the kind with parts at these places
pub record Fit (ps : List Place) (k : Kind) (texts : List Text) (ts : Terms) : Type 0 where
  pub counted : are_words (tests k) texts && are_many ps ts ≡ true
  pub spoken : Worded (tests k) texts
  pub placed : Placed ps ts
  pub sound : is_sound k texts ts ≡ true

suc_same : (m n : ℕ) → nat_eq (suc m) (suc n) ≡ true → nat_eq m n ≡ true
suc_same m n e = grind arith

abbrev pub kids_shaped : (ℕ → Place) → ℕ → Terms → Bool
kids_shaped = everywhere_kids place_inside item_place fits takes_list takes_absent

placed_from : (around : ℕ → Place) (n : ℕ) (ps : List Place) (ts : Terms) → ((j m : ℕ) → m ≡ j + n → around m ≡ place_at j ps) → nat_eq (count ts) (length ps) ≡ true → kids_shaped around n ts ≡ true → (are_many ps ts ≡ true) × Placed ps ts
placed_from around n [] none f c h = (refl, tt)
placed_from around n (p ∷ ps) none f c h = let e : 0 ≡ suc (length ps) = eqb-true 0 (suc (length ps)) c in absurd (omega arith)
placed_from around n [] (more t ts) f c h = let e : suc (count ts) ≡ 0 = eqb-true (suc (count ts)) 0 c in absurd (omega arith)
placed_from around n (p ∷ ps) (more t ts) f c h =
    let both = and_parts (has_shape (around n) t) (kids_shaped around (suc n) ts) h in
    let here : has_shape p t ≡ true = subst (λ q. has_shape q t ≡ true) (f 0 n (omega arith)) both.0 in
    let others = placed_from around (suc n) ps ts (λ j m e. f (suc j) m (omega arith)) (suc_same (count ts) (length ps) c) both.1 in
    (others.0, (here, others.1))

worded_from : (all : List Text) (n : ℕ) (ps : List (Text → Bool)) (xs : List Text) → ((j m : ℕ) → m ≡ j + n → text_at m all ≡ text_at j xs) → nat_eq (length xs) (length ps) ≡ true → pass_from n ps all ≡ true → (are_words ps xs ≡ true) × Worded ps xs
worded_from all n [] [] f c h = (refl, tt)
worded_from all n (p ∷ ps) [] f c h = let e : 0 ≡ suc (length ps) = eqb-true 0 (suc (length ps)) c in absurd (omega arith)
worded_from all n [] (x ∷ xs) f c h = let e : suc (length xs) ≡ 0 = eqb-true (suc (length xs)) 0 c in absurd (omega arith)
worded_from all n (p ∷ ps) (x ∷ xs) f c h =
    let both = and_parts (p (text_at n all)) (pass_from (suc n) ps all) h in
    let here : p x ≡ true = subst (λ z. p z ≡ true) (f 0 n (omega arith)) both.0 in
    let others = worded_from all (suc n) ps xs (λ j m e. f (suc j) m (omega arith)) (suc_same (length xs) (length ps) c) both.1 in
    (others.0, (here, others.1))

plus_zero : (j : ℕ) → j + 0 ≡ j
plus_zero j = omega arith

abbrev pub is_program : Kind → Bool
is_program Kind.Program = true
is_program k = false

passed : (k : Kind) (texts : List Text) → is_program k ≡ false → has_texts k texts ≡ true → pass (tests k) texts ≡ true
passed Kind.Program texts e h = differ e
passed k texts e h = h

-- what stands at a place for one part
pub record Taken (s : Sort) (k : Kind) (texts : List Text) : Type 0 where
  pub taken : takes s k ≡ true
  pub suited : suits s k texts ≡ true

pub taken_by : (s : Sort) (k : Kind) (texts : List Text) (ts : Terms) → has_shape (Place.one s) (node k texts ts) ≡ true → Taken s k texts
taken_by s k texts ts h =
    let both = and_parts (fits (Place.one s) k texts ts) _ h in
    let a = and_parts _ (is_sound k texts ts) both.0 in
    let b = and_parts _ (are_as_many (places_at s k texts) ts) a.0 in
    let c = and_parts _ (has_texts k texts) b.0 in
    let d = and_parts (takes s k) (suits s k texts) c.0 in
    record { taken = d.0; suited = d.1 }

-- the parts of a node that has its shape
pub placed_of : (s : Sort) (k : Kind) (texts : List Text) (ts : Terms) → has_shape (Place.one s) (node k texts ts) ≡ true → (are_many (places_at s k texts) ts ≡ true) × Placed (places_at s k texts) ts
placed_of s k texts ts h =
    let both = and_parts (fits (Place.one s) k texts ts) _ h in
    let a = and_parts _ (is_sound k texts ts) both.0 in
    let b = and_parts _ (are_as_many (places_at s k texts) ts) a.0 in
    placed_from (λ n. place_at n (places_at s k texts)) 0 (places_at s k texts) ts (λ j m e. ap (λ z. place_at z (places_at s k texts)) (e ∙ plus_zero j)) b.1 both.1

pub fit_of : (s : Sort) (k : Kind) (texts : List Text) (ts : Terms) → is_program k ≡ false → has_shape (Place.one s) (node k texts ts) ≡ true → Taken s k texts × Fit (places_at s k texts) k texts ts
fit_of s k texts ts e h =
    let both = and_parts (fits (Place.one s) k texts ts) _ h in
    let a = and_parts _ (is_sound k texts ts) both.0 in
    let b = and_parts _ (are_as_many (places_at s k texts) ts) a.0 in
    let c = and_parts _ (has_texts k texts) b.0 in
    let f = placed_of s k texts ts h in
    let w = and_parts (nat_eq (length texts) (length (tests k))) _ (passed k texts e c.1) in
    let g = worded_from texts 0 (tests k) texts (λ j m e. ap (λ z. text_at z texts) (e ∙ plus_zero j)) w.0 w.1 in
    (taken_by s k texts ts h, record { counted = rw (g.0, f.0) refl; spoken = g.1; placed = f.1; sound = a.1 })

-- kinds whose parts' places are a matter of their own place
abbrev pub is_special : Kind → Bool
is_special Kind.FunctionDeclaration = true
is_special Kind.ClassDeclaration = true
is_special Kind.FunctionExpression = true
is_special Kind.VariableDeclaration = true
is_special Kind.VariableDeclarator = true
is_special Kind.ExportSpecifier = true
is_special Kind.BindingRestElement = true
is_special Kind.AssignmentTargetRest = true
is_special Kind.TemplateLiteral = true
is_special k = false

pub plain_places : (s : Sort) (k : Kind) (texts : List Text) → is_special k ≡ false → places_at s k texts ≡ places k texts
plain_places Sort.exported_default Kind.FunctionDeclaration texts h = differ h
plain_places Sort.exported_default Kind.ClassDeclaration texts h = differ h
plain_places Sort.method Kind.FunctionExpression texts h = differ h
plain_places Sort.plain_method Kind.FunctionExpression texts h = differ h
plain_places Sort.for_left Kind.VariableDeclaration texts h = differ h
plain_places Sort.for_declarator Kind.VariableDeclarator texts h = differ h
plain_places Sort.export_from_specifier Kind.ExportSpecifier texts h = differ h
plain_places Sort.object_rest Kind.BindingRestElement texts h = differ h
plain_places Sort.object_target_rest Kind.AssignmentTargetRest texts h = differ h
plain_places Sort.tagged_template Kind.TemplateLiteral texts h = differ h
plain_places s k texts h = refl

pub plainly : (s : Sort) (k : Kind) (texts : List Text) (ts : Terms) → is_special k ≡ false → Fit (places_at s k texts) k texts ts → Fit (places k texts) k texts ts
plainly s k texts ts h f = subst (λ ps. Fit ps k texts ts) (plain_places s k texts h) f

-- each item of a list at its place
abbrev pub each_shaped : Place → Terms → Bool
each_shaped = everywhere_each place_inside item_place fits takes_list takes_absent

pub list_shape : (p : Place) (ts : Terms) → has_shape p (list ts) ≡ true → (takes_list p ts ≡ true) × (each_shaped (item_place p) ts ≡ true)
list_shape p ts h = and_parts (takes_list p ts) _ h
