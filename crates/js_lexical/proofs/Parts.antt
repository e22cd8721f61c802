-- Texts cut in two: before the first byte that passes a test, and before the last byte.
use Rattle.std.proofs.Common.{◌≡◌, refl, ℕ, suc, ◌+◌, ◌-◌, ◌≤◌, Bool, true, false, not, if◌then◌else◌, [], ◌∷◌, ◌++◌, length, take, drop, get_or, Some, None, ap, sym, ◌∙◌, arith}
use Rattle.std.specs.Prelude.{nat_eq, option_map}
use Rattle.std.proofs.lemmas.List.{take_more, take_all}
use Rattle.std.specs.List.{prefix_len}
use Rattle.js_term.specs.Term.{Text}
use Rattle.js_syntax.specs.Lexical.{up_to, onward, without_last}

front_more : (p : ℕ → Bool) (c : ℕ) (cs : Text) → take (prefix_len (λ b. not (p b)) cs) cs ≡ up_to p cs → (b : Bool) → p c ≡ b → take (prefix_len (λ b. not (p b)) (c ∷ cs)) (c ∷ cs) ≡ up_to p (c ∷ cs)
front_more p c cs h true e = rw e refl
front_more p c cs h false e = let one : 1 + prefix_len (λ b. not (p b)) cs ≡ suc (prefix_len (λ b. not (p b)) cs) = omega arith in rw (e, one) (ap (λ x. c ∷ x) h)

pub front : (p : ℕ → Bool) (x : Text) → take (prefix_len (λ b. not (p b)) x) x ≡ up_to p x
front p [] = refl
front p (c ∷ cs) = front_more p c cs (front p cs) (p c) refl

behind_more : (p : ℕ → Bool) (c : ℕ) (cs : Text) → drop (prefix_len (λ b. not (p b)) cs) cs ≡ onward p cs → (b : Bool) → p c ≡ b → drop (prefix_len (λ b. not (p b)) (c ∷ cs)) (c ∷ cs) ≡ onward p (c ∷ cs)
behind_more p c cs h true e = rw e refl
behind_more p c cs h false e = let one : 1 + prefix_len (λ b. not (p b)) cs ≡ suc (prefix_len (λ b. not (p b)) cs) = omega arith in rw (e, one) h

pub behind : (p : ℕ → Bool) (x : Text) → drop (prefix_len (λ b. not (p b)) x) x ≡ onward p x
behind p [] = refl
behind p (c ∷ cs) = behind_more p c cs (behind p cs) (p c) refl

last_of_one : (last c : ℕ) (xs : Text) (b : Bool) → option_map (λ x. c ∷ x) (if b then Some xs else None) ≡ (if b then Some (c ∷ xs) else None)
last_of_one last c xs true = refl
last_of_one last c xs false = refl

without_last-push : (last c : ℕ) (xs : Text) → without_last last (xs ++ c ∷ []) ≡ (if nat_eq c last then Some xs else None)
without_last-push last c [] = refl
without_last-push last c (d ∷ []) = last_of_one last d [] (nat_eq c last)
without_last-push last c (d ∷ e ∷ xs) = ap (option_map (λ x. d ∷ x)) (without_last-push last c (e ∷ xs)) ∙ last_of_one last d (e ∷ xs) (nat_eq c last)

-- a text by its last byte and what is in front of it
pub by_last : (last : ℕ) (x : Text) → 1 ≤ length x → without_last last x ≡ (if nat_eq (get_or x (length x - 1) 0) last then Some (take (length x - 1) x) else None)
by_last last x some =
    let n = length x - 1 in
    let all : n + 1 ≡ length x = omega arith in
    let is : x ≡ take n x ++ get_or x n 0 ∷ [] = sym (take_all (length x) x (omega arith)) ∙ ap (λ m. take m x) (sym all) ∙ take_more x n 0 (omega arith) in
    ap (without_last last) is ∙ without_last-push last (get_or x n 0) (take n x)
