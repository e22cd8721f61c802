-- The specifiers of an import, by where they stand.
use Rattle.std.proofs.Common.{◌≡◌, refl, ap, ◌∙◌, ℕ, zero, suc, ◌+◌, ◌<◌, Bool, true, false, not, cond, arith}
use Rattle.js_term.specs.Term.{Term, Terms, none, more}
use Rattle.js_term.specs.declared.kind.Kind.TheVariants.{ImportDefaultSpecifier, ImportSpecifier}
use Rattle.js_term.specs.Scope.{kid}
use Rattle.js_syntax.specs.Parts.{count, each, is_node}
use Rattle.js_syntax.specs.Printable.{are_plain_specifiers, behind_default, is_import_clause}
use Rattle.js_rules.specs.Seen.{from}
use Rattle.js_rules.proofs.Parts.{from_step, from_end}

alone : (t : Term) (ts us : Terms) → ts ≡ more t us → us ≡ none → are_plain_specifiers ts ≡ not (is_node ImportDefaultSpecifier t)
alone t ts us e f = rw (e, f) refl

pub plain_one : (n : ℕ) (ts : Terms) → count ts ≡ n + 1 → are_plain_specifiers (from n ts) ≡ not (is_node ImportDefaultSpecifier (kid n ts))
plain_one n ts e = let h : n < count ts = omega arith in let s : suc n ≡ count ts = omega arith in alone (kid n ts) (from n ts) (from (suc n) ts) (from_step n ts h) (ap (λ m. from m ts) s ∙ from_end ts)

one_left : (n : ℕ) (ts : Terms) → count (from n ts) ≡ 1 → count ts ≡ n + 1
one_left zero ts e = omega (arith, e)
one_left (suc n) none e = absurd (omega (arith, e))
one_left (suc n) (more t ts) e = let i : count ts ≡ n + 1 = one_left n ts e in omega arith

others : (ts : Terms) → (count ts ≡ 1 → ⊥) → are_plain_specifiers ts ≡ each (is_node ImportSpecifier) ts
others none h = refl
others (more t none) h = absurd (h refl)
others (more t (more u ts)) h = refl

pub plain_others : (n : ℕ) (ts : Terms) → (count ts ≡ n + 1 → ⊥) → are_plain_specifiers (from n ts) ≡ each (is_node ImportSpecifier) (from n ts)
plain_others n ts h = others (from n ts) (λ e. h (one_left n ts e))

clause_by : (b : Bool) (t : Term) (ts : Terms) → behind_default b t ts ≡ are_plain_specifiers (from (cond b 1 0) (more t ts))
clause_by true t ts = refl
clause_by false t ts = refl

pub clause_of : (n : ℕ) (ts : Terms) → n ≡ cond (is_node ImportDefaultSpecifier (kid 0 ts)) 1 0 → is_import_clause ts ≡ are_plain_specifiers (from n ts)
clause_of n none e = rw e refl
clause_of n (more t ts) e = rw e (clause_by (is_node ImportDefaultSpecifier t) t ts)
