-- A reference that is put into the list of a name, or taken out of it.
use Rattle.std.proofs.Common.{◌≡◌, ℕ, List, [], ◌∷◌, ◌++◌, Some, None, Ok, Err, refl, sym, ap, ◌∙◌}
use Rattle.std.specs.Prelude.{Result, OnOk, OnErr}
use Rattle.std.specs.Map.{lookup, remove_entry, set_value}
use Rattle.indexmap.specs.IndexMap.{insert_entry}
use Rattle.js_term.specs.Term.{Text, is_text}
use Rattle.js_scope.specs.Unresolved.{Lists, listed, listed_at, unlisted, unlisted_at, left, without}
use Rattle.js_scope.proofs.Keyed.{inserted_new}

pub on_ok : {T E P Q : Type 0} (r : Result T E) → (P → Q) → OnOk r P → OnOk r Q
on_ok (Ok x) f h = f h
on_ok (Err e) f h = tt

pub on_err : {T E P Q : Type 0} (r : Result T E) → (P → Q) → OnErr r P → OnErr r Q
on_err (Ok x) f h = tt
on_err (Err e) f h = f h

pub listed_more : (ls now : Lists) (x : Text) (r : ℕ) (rs new : List ℕ) → ls ≡ now → lookup (is_text x) ls ≡ Some rs → new ≡ rs ++ r ∷ [] → set_value (is_text x) ls new ≡ listed now x r
listed_more ls now x r rs new v h e = ap (set_value (is_text x) ls) e ∙ sym (ap (λ o. listed_at o ls x r) h) ∙ ap (λ l. listed l x r) v

pub listed_first : (ls now : Lists) (x : Text) (r : ℕ) (new : List ℕ) → ls ≡ now → lookup (is_text x) ls ≡ None → new ≡ r ∷ [] → insert_entry is_text ls x new ≡ listed now x r
listed_first ls now x r new v h e = inserted_new is_text x new ls h ∙ ap (λ l. ls ++ (x, l) ∷ []) e ∙ sym (ap (λ o. listed_at o ls x r) h) ∙ ap (λ l. listed l x r) v

pub unlisted_none : (ls now : Lists) (x : Text) (r : ℕ) → ls ≡ now → lookup (is_text x) ls ≡ None → ls ≡ unlisted now x r
unlisted_none ls now x r v h = sym (ap (λ o. unlisted_at o ls x r) h) ∙ ap (λ l. unlisted l x r) v

pub unlisted_last : (ls now : Lists) (x : Text) (r : ℕ) (rs new : List ℕ) → ls ≡ now → lookup (is_text x) ls ≡ Some rs → new ≡ without r rs → new ≡ [] → remove_entry (is_text x) ls ≡ unlisted now x r
unlisted_last ls now x r rs new v h e q = ap (λ l. left l ls x) (sym q ∙ e) ∙ sym (ap (λ o. unlisted_at o ls x r) h) ∙ ap (λ l. unlisted l x r) v

left_more : (new : List ℕ) (ls : Lists) (x : Text) → (new ≡ [] → ⊥) → set_value (is_text x) ls new ≡ left new ls x
left_more [] ls x q = absurd (q refl)
left_more (n ∷ ns) ls x q = refl

pub unlisted_more : (ls now : Lists) (x : Text) (r : ℕ) (rs new : List ℕ) → ls ≡ now → lookup (is_text x) ls ≡ Some rs → new ≡ without r rs → (new ≡ [] → ⊥) → set_value (is_text x) ls new ≡ unlisted now x r
unlisted_more ls now x r rs new v h e q = left_more new ls x q ∙ ap (λ l. left l ls x) e ∙ sym (ap (λ o. unlisted_at o ls x r) h) ∙ ap (λ l. unlisted l x r) v
