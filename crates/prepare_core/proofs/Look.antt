-- Looking a name up in the scopes that the runner carries.
use Rattle.std.proofs.Common.{◌≡◌, refl, sym, ◌∙◌, ℕ, List, [], ◌∷◌, ◌++◌, Option, None, Some, Bool, true, false, ◌||◌, cond, take, length, get_or, ◌<◌, ◌+◌, add-one}
use Rattle.std.proofs.Math.Seq.{take-suc}
use Rattle.std.specs.Prelude.{option_map, MatchOption}
use Rattle.std.specs.Cmp.Lexicographic.{nat_list_eq_equiv}
use Rattle.std.specs.HashMap.{HashMap}
use Rattle.std.specs.HashSet.{HashSet}
use Rattle.std.specs.List.{list_any}
use Rattle.std.specs.Map.{lookup}
use mathlib.Core.Bool.{true≢false}
use Rattle.js_term.specs.Term.{Text, is_text}
use Rattle.js_term.specs.Lexeme.{is_one_of}
use Rattle.js_term.specs.Node.{identifier_of}
use Rattle.js_term.specs.Scope.{Env, Entry, here, imported, plainly, entry_of, resolve, import_of}
use Rattle.module_model.specs.Run.{written}
use Rattle.prepare_core.specs.Names.{hidden, brought_in, within, names_env, IsScopeOf}
use Rattle.prepare_core.specs.declared.imported.Import.{Import}

pub differ : {A : Type 0} → true ≡ false → A
differ e = absurd (true≢false e)

pub flips : (x y : Text) → is_text x y ≡ is_text y x
flips = nat_list_eq_equiv.symm

pub has_entry : (xs : List Text) (x : Text) → entry_of (plainly xs) x ≡ cond (list_any (is_text x) xs) (Some here) None
has_entry [] x = refl
has_entry (y ∷ ys) x =
    rw (flips y x)
    (elim (is_text x y) as (λ b. cond b (Some here) (entry_of (plainly ys) x) ≡ cond (b || list_any (is_text x) ys) (Some here) None) [ true ↦ refl | false ↦ has_entry ys x ])

or_cases : (a b : Bool) → (a || b) ≡ false → (a ≡ false) × (b ≡ false)
or_cases true b h = differ h
or_cases false b h = (refl, h)

not_hidden : {S : Type 0} (env : Env) (ss : List (HashSet Text S)) (x : Text) → hidden ss x ≡ false → resolve (within env ss) x ≡ resolve env x
not_hidden env [] x h = refl
not_hidden env (s ∷ ss) x h =
    let p : (list_any (is_text x) s.keys ≡ false) × (hidden ss x ≡ false) = or_cases (list_any (is_text x) s.keys) (hidden ss x) h in
    not_hidden (plainly s.keys ∷ env) ss x p.1 ∙ rw (has_entry s.keys x, p.0) refl

hidden_written : {S : Type 0} (env : Env) (ss : List (HashSet Text S)) (x : Text) → hidden ss x ≡ true → written (within env ss) x ≡ identifier_of x
hidden_written env [] x h = differ (sym h)
hidden_written {S} env (s ∷ ss) x h = by (hidden ss x) refl (λ e. hidden_written (plainly s.keys ∷ env) ss x e) (list_any (is_text x) s.keys) refl h
  where
    by : (b : Bool) → hidden ss x ≡ b → (hidden ss x ≡ true → written (within (plainly s.keys ∷ env) ss) x ≡ identifier_of x) → (a : Bool) → list_any (is_text x) s.keys ≡ a → (a || b) ≡ true → written (within (plainly s.keys ∷ env) ss) x ≡ identifier_of x
    by true e more a f g = more e
    by false e more true f g = rw (not_hidden (plainly s.keys ∷ env) ss x e, has_entry s.keys x, f) refl
    by false e more false f g = differ (sym g)

pub is_hidden : {S T : Type 0} (imports : HashMap Text Import S) (ss : List (HashSet Text T)) (x : Text) → hidden ss x ≡ true → written (names_env imports ss) x ≡ identifier_of x
is_hidden imports ss x h = hidden_written (brought_in imports.entries ∷ []) ss x h

abbrev pub entry_for : Import → Entry
entry_for i = imported i.request (Some i.name)

pub entry_lookup : (es : List (Text × Import)) (x : Text) → entry_of (brought_in es) x ≡ option_map entry_for (lookup (is_text x) es)
entry_lookup [] x = refl
entry_lookup (e ∷ es) x =
    rw (flips e.0 x)
    (elim (is_text x e.0) as (λ b. cond b (Some (entry_for e.1)) (entry_of (brought_in es) x) ≡ option_map entry_for (cond b (Some e.1) (lookup (is_text x) es))) [ true ↦ refl | false ↦ entry_lookup es x ])

-- what the map has at a name that no function declares
pub looked_up : {S T R : Type 0} (imports : HashMap Text Import S) (ss : List (HashSet Text T)) (x : Text) (now : R → Import) (r : Option R) → option_map now r ≡ lookup (is_text x) imports.entries → hidden ss x ≡ false → MatchOption r (written (names_env imports ss) x ≡ identifier_of x) (λ i. resolve (names_env imports ss) x ≡ import_of (now i).request (Some (now i).name))
looked_up imports ss x now None e h = rw (not_hidden (brought_in imports.entries ∷ []) ss x h, entry_lookup imports.entries x, ← e) refl
looked_up imports ss x now (Some i) e h = not_hidden (brought_in imports.entries ∷ []) ss x h ∙ rw (entry_lookup imports.entries x, ← e) refl

one_of_append : (q : Text) (xs : List Text) (y : Text) → is_one_of q (xs ++ y ∷ []) ≡ (is_text q y || is_one_of q xs)
one_of_append q [] y = refl
one_of_append q (x ∷ xs) y =
    rw (one_of_append q xs y)
    (elim (is_text q x) as (λ b. (b || (is_text q y || is_one_of q xs)) ≡ (is_text q y || (b || is_one_of q xs))) [ true ↦ elim (is_text q y) as (λ c. true ≡ (c || true)) [ true ↦ refl | false ↦ refl ] | false ↦ refl ])

either : (b c : Bool) → cond b true c ≡ (b || c)
either true c = refl
either false c = refl

-- a set of names, one more of a list
pub one_more_name : {S : Type 0} (old new : HashSet Text S) (names : List Text) (i : ℕ) (d y : Text) → IsScopeOf old.keys (take i names) → i < length names → y ≡ get_or names i d → ((q : Text) → list_any (is_text q) new.keys ≡ cond (is_text y q) true (list_any (is_text q) old.keys)) → IsScopeOf new.keys (take (i + 1) names)
one_more_name old new names i d y s h p e = record { same = one }
  where
    one : (q : Text) → list_any (is_text q) new.keys ≡ is_one_of q (take (i + 1) names)
    one q = rw (add-one, take-suc names i d h, one_of_append q (take i names) (get_or names i d), ← p) (e q ∙ either (is_text y q) (list_any (is_text q) old.keys) ∙ rw (flips y q, s.same q) refl)
