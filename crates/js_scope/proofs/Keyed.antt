-- A look-up, an insertion and a removal in a map whose keys are texts, by the bytes of its keys.
use Rattle.std.proofs.Common.{◌≡◌, List, [], ◌∷◌, ◌++◌, Some, None, refl, sym, ap}
use Rattle.std.specs.Prelude.{Bool, true, false, cond}
use Rattle.std.specs.Map.{lookup, remove_entry, set_value}
use Rattle.indexmap.specs.IndexMap.{insert_entry}
use Rattle.js_term.specs.Term.{Text, is_text}
use Rattle.js_scope.specs.Keyed.{by_text}

module _ {K X : Type 0} (text : K → Text) where
  pub looked_up : (es : List (K × X)) (x : Text) → lookup (λ k. is_text x (text k)) es ≡ lookup (is_text x) (by_text text es)
  looked_up [] x = refl
  looked_up (e ∷ es) x = ap (cond (is_text x (text e.0)) (Some e.1)) (looked_up es x)

  pub inserted : (es : List (K × X)) (k : K) (v : X) → by_text text (insert_entry (λ a b. is_text (text a) (text b)) es k v) ≡ insert_entry is_text (by_text text es) (text k) v
  inserted [] k v = refl
  inserted (e ∷ es) k v =
      elim (is_text (text k) (text e.0)) as (λ b. by_text text (cond b ((e.0, v) ∷ es) (e ∷ insert_entry (λ a c. is_text (text a) (text c)) es k v))
      ≡ cond b ((text e.0, v) ∷ by_text text es) ((text e.0, e.1) ∷ insert_entry is_text (by_text text es) (text k) v)) [
        | true ↦ refl
        | false ↦ ap (λ l. (text e.0, e.1) ∷ l) (inserted es k v)
      ]

  pub removed : (es : List (K × X)) (x : Text) → by_text text (remove_entry (λ k. is_text x (text k)) es) ≡ remove_entry (is_text x) (by_text text es)
  removed [] x = refl
  removed (e ∷ es) x =
      elim (is_text x (text e.0)) as (λ b. by_text text (cond b es (e ∷ remove_entry (λ k. is_text x (text k)) es)) ≡ cond b (by_text text es) ((text e.0, e.1) ∷ remove_entry (is_text x) (by_text text es))) [
        | true ↦ refl
        | false ↦ ap (λ l. (text e.0, e.1) ∷ l) (removed es x)
      ]

  pub valued : (es : List (K × X)) (x : Text) (w : X) → by_text text (set_value (λ k. is_text x (text k)) es w) ≡ set_value (is_text x) (by_text text es) w
  valued [] x w = refl
  valued (e ∷ es) x w =
      elim (is_text x (text e.0)) as (λ b. by_text text (cond b ((e.0, w) ∷ es) (e ∷ set_value (λ k. is_text x (text k)) es w)) ≡ cond b ((text e.0, w) ∷ by_text text es) ((text e.0, e.1) ∷ set_value (is_text x) (by_text text es) w)) [
        | true ↦ refl
        | false ↦ ap (λ l. (text e.0, e.1) ∷ l) (valued es x w)
      ]

-- ---- entries by a test of their keys

new_at : {K X : Type 0} (eq : K → K → Bool) (k : K) (v : X) (e : K × X) (es : List (K × X)) (b : Bool) → eq k e.0 ≡ b → cond b (Some e.1) (lookup (eq k) es) ≡ None →
    (lookup (eq k) es ≡ None → insert_entry eq es k v ≡ es ++ (k, v) ∷ []) → insert_entry eq (e ∷ es) k v ≡ (e ∷ es) ++ (k, v) ∷ []
new_at eq k v e es true q h f = absurd (cc (h))
new_at eq k v e es false q h f = rw q (ap (λ l. e ∷ l) (f h))

-- a key that is not there goes last
pub inserted_new : {K X : Type 0} (eq : K → K → Bool) (k : K) (v : X) (es : List (K × X)) → lookup (eq k) es ≡ None → insert_entry eq es k v ≡ es ++ (k, v) ∷ []
inserted_new eq k v [] h = refl
inserted_new eq k v (e ∷ es) h = new_at eq k v e es (eq k e.0) refl h (inserted_new eq k v es)

kept_at : {K X : Type 0} (test : K → Bool) (w : X) (e : K × X) (es : List (K × X)) (b : Bool) → cond b (Some e.1) (lookup test es) ≡ Some w → (lookup test es ≡ Some w → set_value test es w ≡ es) →
    cond b ((e.0, w) ∷ es) (e ∷ set_value test es w) ≡ e ∷ es
kept_at test w e es true h f = let q : e.1 ≡ w = cc in ap (λ v. (e.0, v) ∷ es) (sym q)
kept_at test w e es false h f = ap (λ l. e ∷ l) (f h)

-- the value that is there already
pub kept : {K X : Type 0} (test : K → Bool) (w : X) (es : List (K × X)) → lookup test es ≡ Some w → set_value test es w ≡ es
kept test w [] h = refl
kept test w (e ∷ es) h = kept_at test w e es (test e.0) h (kept test w es)

removed_at : {K X : Type 0} (test : K → Bool) (w : X) (e : K × X) (es : List (K × X)) (b : Bool) → test e.0 ≡ b → remove_entry test (set_value test es w) ≡ remove_entry test es →
    remove_entry test (set_value test (e ∷ es) w) ≡ remove_entry test (e ∷ es)
removed_at test w e es true q f = rw (q, q) refl
removed_at test w e es false q f = rw (q, q) (ap (λ l. e ∷ l) f)

pub removed_valued : {K X : Type 0} (test : K → Bool) (w : X) (es : List (K × X)) → remove_entry test (set_value test es w) ≡ remove_entry test es
removed_valued test w [] = refl
removed_valued test w (e ∷ es) = removed_at test w e es (test e.0) refl (removed_valued test w es)
