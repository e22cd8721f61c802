-- The kids of a node from the one numbered n on, and a rule over them.
use Rattle.std.proofs.Common.{◌≡◌, refl, ap, ◌∙◌, sym, ℕ, zero, suc, ◌+◌, ◌<◌, ◌≤◌, List, Bool, true, false, cond, ◌&&◌, arith, add-one}
use Rattle.js_term.specs.Term.{Text, Term, absent, list, node, Terms, none, more}
use Rattle.js_term.specs.declared.kind.Kind.{Kind}
use Rattle.js_term.specs.Scope.{kid}
use Rattle.js_syntax.specs.Everywhere.{everywhere, everywhere_each, everywhere_kids}
use Rattle.js_syntax.specs.Parts.{count, count_if, each, parts_of}
use Rattle.js_rules.specs.Seen.{from, size, sizes}

pub from_step : (n : ℕ) (ts : Terms) → n < count ts → from n ts ≡ more (kid n ts) (from (suc n) ts)
from_step n none h = absurd (omega arith)
from_step zero (more t ts) h = refl
from_step (suc n) (more t ts) h = let k : n < count ts = omega arith in from_step n ts k

pub from_end : (ts : Terms) → from (count ts) ts ≡ none
from_end none = refl
from_end (more t ts) = from_end ts

pub from_past : (n : ℕ) (ts : Terms) → count ts ≤ n → from n ts ≡ none
from_past zero none h = refl
from_past (suc n) none h = refl
from_past zero (more t ts) h = absurd (omega arith)
from_past (suc n) (more t ts) h = let k : count ts ≤ n = omega arith in from_past n ts k

each_step : (p : Term → Bool) (n : ℕ) (ts : Terms) → n < count ts → each p (from n ts) ≡ p (kid n ts) && each p (from (suc n) ts)
each_step p n ts h = ap (each p) (from_step n ts h)

-- a test of each part that is left, where it fails, goes on and ends
pub each_fails : (p : Term → Bool) (n : ℕ) (ts : Terms) (w c : Bool) → n < count ts → c ≡ p (kid n ts) → each p (from n ts) ≡ w → c ≡ false → w ≡ false
each_fails p n ts w c h is left wrong = sym left ∙ (each_step p n ts h ∙ ap (λ b. b && each p (from (suc n) ts)) (sym is ∙ wrong))

pub each_next : (p : Term → Bool) (n : ℕ) (ts : Terms) (w c : Bool) → n < count ts → c ≡ p (kid n ts) → each p (from n ts) ≡ w → c ≡ true → each p (from (n + 1) ts) ≡ w
each_next p n ts w c h is left right = rw add-one (sym (ap (λ b. b && each p (from (suc n) ts)) (sym is ∙ right)) ∙ (sym (each_step p n ts h) ∙ left))

pub each_ends : (p : Term → Bool) (n : ℕ) (ts : Terms) (w : Bool) → count ts ≤ n → each p (from n ts) ≡ w → w ≡ true
each_ends p n ts w h left = sym left ∙ ap (each p) (from_past n ts h)

kid_is_smaller : (n : ℕ) (ts : Terms) → size (kid n ts) < suc (sizes ts)
kid_is_smaller n none = omega arith
kid_is_smaller zero (more t ts) = omega arith
kid_is_smaller (suc n) (more t ts) = let i : size (kid n ts) < suc (sizes ts) = kid_is_smaller n ts in omega arith

pub part_is_smaller : (t u : Term) (n : ℕ) → n < count (parts_of t) → u ≡ kid n (parts_of t) → size u < size t
part_is_smaller absent u n h e = absurd (omega arith)
part_is_smaller (list ts) u n h e = rw e (kid_is_smaller n ts)
part_is_smaller (node k texts ts) u n h e = rw e (kid_is_smaller n ts)

pub node_part_is_smaller : (t u : Term) (n : ℕ) (k : Kind) (texts : List Text) (ts : Terms) → t ≡ node k texts ts → u ≡ kid n ts → size u < size t
node_part_is_smaller t u n k texts ts h e = rw (h, e) (kid_is_smaller n ts)

count_step : (p : Term → Bool) (n : ℕ) (ts : Terms) → n < count ts → count_if p (from n ts) ≡ cond (p (kid n ts)) (suc (count_if p (from (suc n) ts))) (count_if p (from (suc n) ts))
count_step p n ts h = ap (count_if p) (from_step n ts h)

one_more : (c : Bool) (m r k : ℕ) → k ≡ m + cond c (suc r) r → k ≡ m + cond c 1 0 + r
one_more false m r k e = omega (arith, e)
one_more true m r k e = omega (arith, e)

-- what was counted so far, and what is left
pub count_next : (p : Term → Bool) (n : ℕ) (ts : Terms) (m : ℕ) (c : Bool) → n < count ts → c ≡ p (kid n ts) → count_if p ts ≡ m + count_if p (from n ts) → count_if p ts ≡ m + cond c 1 0 + count_if p (from (n + 1) ts)
count_next p n ts m c h is left = rw add-one (one_more c m _ _ (left ∙ ap (λ k. m + k) (count_step p n ts h ∙ ap (λ d. cond d (suc (count_if p (from (suc n) ts))) (count_if p (from (suc n) ts))) (sym is))))

pub count_all : (p : Term → Bool) (n : ℕ) (ts : Terms) (m : ℕ) → n ≡ count ts → count_if p ts ≡ m + count_if p (from n ts) → count_if p ts ≡ m
count_all p n ts m e left = left ∙ (ap (λ k. m + k) (ap (count_if p) (ap (λ j. from j ts) e ∙ from_end ts)) ∙ omega arith)

module _ {C : Type 0} (inside : C → Kind → List Text → Terms → ℕ → C) (item : C → C) (allows : C → Kind → List Text → Terms → Bool) (allows_list : C → Terms → Bool) (allows_absent : C → Bool) where
  abbrev holds_of : C → Term → Bool
  holds_of = everywhere inside item allows allows_list allows_absent

  abbrev pub kids_hold : (ℕ → C) → ℕ → Terms → Bool
  kids_hold = everywhere_kids inside item allows allows_list allows_absent

  kids_step : (f : ℕ → C) (n : ℕ) (ts : Terms) → n < count ts → kids_hold f n (from n ts) ≡ holds_of (f n) (kid n ts) && kids_hold f (suc n) (from (suc n) ts)
  kids_step f n ts h = ap (kids_hold f n) (from_step n ts h)

  pub each_as_kids : (c : C) (n : ℕ) (ts : Terms) → everywhere_each inside item allows allows_list allows_absent c ts ≡ kids_hold (λ m. c) n ts
  each_as_kids c n none = refl
  each_as_kids c n (more t ts) = ap (λ b. holds_of c t && b) (each_as_kids c (suc n) ts)

  -- a kid of which the rule does not hold
  pub fails : (f : ℕ → C) (n : ℕ) (ts : Terms) (u : Term) (d : C) → n < count ts → u ≡ kid n ts → d ≡ f n → kids_hold f n (from n ts) ≡ kids_hold f 0 ts → holds_of d u ≡ false → kids_hold f 0 ts ≡ false
  fails f n ts u d lt is round left wrong = sym left ∙ (kids_step f n ts lt ∙ ap (λ b. b && kids_hold f (suc n) (from (suc n) ts)) (sym (ap (λ e. holds_of e (kid n ts)) round) ∙ (sym (ap (holds_of d) is) ∙ wrong)))

  -- one of which it holds
  pub goes_on : (f : ℕ → C) (n : ℕ) (ts : Terms) (u : Term) (d : C) → n < count ts → u ≡ kid n ts → d ≡ f n → kids_hold f n (from n ts) ≡ kids_hold f 0 ts → holds_of d u ≡ true → kids_hold f (n + 1) (from (n + 1) ts) ≡ kids_hold f 0 ts
  goes_on f n ts u d lt is round left right = rw add-one (sym (ap (λ b. b && kids_hold f (suc n) (from (suc n) ts)) (sym (ap (λ e. holds_of e (kid n ts)) round) ∙ (sym (ap (holds_of d) is) ∙ right))) ∙ (sym (kids_step f n ts lt) ∙ left))

  pub ends : (f : ℕ → C) (n : ℕ) (ts : Terms) → n ≡ count ts → kids_hold f n (from n ts) ≡ kids_hold f 0 ts → kids_hold f 0 ts ≡ true
  ends f n ts e left = sym left ∙ ap (kids_hold f n) (ap (λ m. from m ts) e ∙ from_end ts)

  -- what the parts decide is what the whole decides
  pub of_list : (c d : C) (t : Term) (ts : Terms) (b : Bool) → t ≡ list ts → d ≡ item c → allows_list c ts ≡ true → kids_hold (λ m. d) 0 ts ≡ b → holds_of c t ≡ b
  of_list c d t ts b is round right parts = ap (holds_of c) is ∙ (ap (λ a. a && everywhere_each inside item allows allows_list allows_absent (item c) ts) right ∙ (ap (λ e. everywhere_each inside item allows allows_list allows_absent e ts) (sym round) ∙ (each_as_kids d 0 ts ∙ parts)))

  pub of_node : (c : C) (t : Term) (k : Kind) (texts : List Text) (ts : Terms) (b : Bool) → t ≡ node k texts ts → allows c k texts ts ≡ true → kids_hold (inside c k texts ts) 0 ts ≡ b → holds_of c t ≡ b
  of_node c t k texts ts b is right parts = ap (holds_of c) is ∙ (ap (λ a. a && kids_hold (inside c k texts ts) 0 ts) right ∙ parts)

  -- contexts that agree on each kid
  pub kids_alike : (f g : ℕ → C) → ((m : ℕ) → f m ≡ g m) → (n : ℕ) (ts : Terms) → kids_hold f n ts ≡ kids_hold g n ts
  kids_alike f g same n none = refl
  kids_alike f g same n (more t ts) = ap (λ c. holds_of c t && kids_hold f (suc n) ts) (same n) ∙ ap (λ b. holds_of (g n) t && b) (kids_alike f g same (suc n) ts)
