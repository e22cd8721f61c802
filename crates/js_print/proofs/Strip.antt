-- Parentheses that are put are taken away by strip.
use Rattle.std.proofs.Common.{◌≡◌, refl, ap, ◌∙◌, ℕ, suc, Bool, true, false}
use Rattle.js_term.specs.Term.{Term, absent, list, node, Terms, none, more, strip, strip_all, unwrapped}
use Rattle.js_print.specs.Layout.{needs, in_parentheses, held, held_kids}

strip_in_parentheses : (b : Bool) (t : Term) → strip (in_parentheses b t) ≡ strip t
strip_in_parentheses true t = refl
strip_in_parentheses false t = refl

mutual
  pub strip_held : (need : Term → Bool) (t : Term) → strip (held need t) ≡ strip t
  strip_held need absent = refl
  strip_held need (list ts) = ap list (strip_held_kids (λ n. need) ts)
  strip_held need (node k texts ts) =
      strip_in_parentheses (need (node k texts (held_kids (needs k) ts))) (node k texts (held_kids (needs k) ts)) ∙ ap (unwrapped k texts) (strip_held_kids (needs k) ts)

  pub strip_held_kids : (need : ℕ → Term → Bool) (ts : Terms) → strip_all (held_kids need ts) ≡ strip_all ts
  strip_held_kids need none = refl
  strip_held_kids need (more t ts) = rw (strip_held (need 0) t, strip_held_kids (λ n. need (suc n)) ts) refl
