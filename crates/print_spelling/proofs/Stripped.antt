-- Parentheses that are printed are taken away by `strip`.
use Rattle.std.proofs.Common.{◌≡◌, refl, ap, ◌∙◌, ℕ, suc, List, Bool, true, false, ◌||◌}
use Rattle.js_term.specs.Term.{Text, Term, absent, list, node, Terms, none, more, all, strip, strip_all, unwrapped}
use Rattle.js_term.specs.declared.kind.Kind.{Kind}
use Rattle.print_layout.specs.Needs.{needs, inside, is_held}
use Rattle.print_layout.specs.Layout.{put, wrapped, wrapped_kids, each_wrapped}

strip_put : (b : Bool) (t : Term) → strip (put b t) ≡ strip t
strip_put true t = refl
strip_put false t = refl

mutual
  pub strip_wrapped : (i : Bool) (need : Term → Bool) (t : Term) → strip (wrapped i need t) ≡ strip t
  strip_wrapped i need absent = refl
  strip_wrapped i need (list ts) = ap list (strip_each i need ts)
  strip_wrapped i need (node k texts ts) =
      let held = is_held i need k texts ts in
      strip_put held (node k texts (wrapped_kids (i || held) k texts 0 ts)) ∙ ap (unwrapped k texts) (strip_kids (i || held) k texts 0 ts)

  strip_kids : (i : Bool) (k : Kind) (texts : List Text) (n : ℕ) (ts : Terms) → strip_all (wrapped_kids i k texts n ts) ≡ strip_all ts
  strip_kids i k texts n none = refl
  strip_kids i k texts n (more t ts) = rw (strip_wrapped (inside i k n) (needs k texts n) t, strip_kids i k texts (suc n) ts) refl

  strip_each : (i : Bool) (need : Term → Bool) (ts : Terms) → strip_all (all (each_wrapped i need ts)) ≡ strip_all ts
  strip_each i need none = refl
  strip_each i need (more t ts) = rw (strip_wrapped i need t, strip_each i need ts) refl
