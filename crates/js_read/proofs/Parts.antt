-- Tokens and lists that stand in a text are read.
use Rattle.std.proofs.Common.{◌≡◌, ◌≤◌, ◌<◌, ℕ, zero, suc, Bool, true, false, ◌||◌, nat_eq, List, [], ◌∷◌, ◌++◌, length, Option, Some, None, refl, ◌∙◌, ap, append_assoc, arith}
use Rattle.std.proofs.lemmas.Bool.Decides.{nat_tests}
use Rattle.js_term.specs.Term.{Text}
use Rattle.js_term.specs.Lexeme.{narrow, Lexeme, word, number, string, sign, Token, left_paren, comma, dot, is_reserved}
use Rattle.js_lex.specs.Next.{lexeme, after, sees, same_lexeme}
use Rattle.js_lex.proofs.Laws.{token_found, sees_by}
use Rattle.js_read.specs.Read.{Reading, expect, name, binding, source, separated, separated_until, goes_on}

pub expect_read : {l : Lexeme} {a b : Text} → Token narrow a l b → same_lexeme l l ≡ true → expect l a ≡ Some (tt, b)
unfolding expect
expect_read {l} {a} {b} tok same = let f = token_found tok in rw (sees_by l l a f.lexeme_is, same, f.after_is)

pub sees_it : {l : Lexeme} {a b : Text} → Token narrow a l b → same_lexeme l l ≡ true → sees l a ≡ true
sees_it {l} {a} tok same = let f = token_found tok in sees_by l l a f.lexeme_is ∙ same

pub sees_other : {l : Lexeme} {a b : Text} (k : Lexeme) → Token narrow a l b → same_lexeme k l ≡ false → sees k a ≡ false
sees_other {l} {a} k tok other = let f = token_found tok in sees_by k l a f.lexeme_is ∙ other

pub name_read : {x a b : Text} → Token narrow a (word x) b → name a ≡ Some (x, b)
unfolding name
name_read tok = let f = token_found tok in rw (f.lexeme_is, f.after_is)

pub binding_read : {x a b : Text} → is_reserved x ≡ false → Token narrow a (word x) b → binding a ≡ Some (x, b)
unfolding binding
binding_read free tok = rw (name_read tok, free)

pub source_read : {v a b : Text} → Token narrow a (string v) b → source a ≡ Some (v, b)
unfolding source
source_read tok = let f = token_found tok in rw (f.lexeme_is, f.after_is)

-- ---- what begins and what ends a part

abbrev pub no_sign : Option Lexeme → Bool
no_sign None = false
no_sign (Some (word x)) = true
no_sign (Some (number x)) = true
no_sign (Some (string x)) = true
no_sign (Some (sign c)) = false

abbrev pub is_end_sign : ℕ → Bool
is_end_sign c = nat_eq c 44 || nat_eq c 41 || nat_eq c 125 || nat_eq c 59

-- a comma, or what closes a list or a statement
abbrev pub is_end : Option Lexeme → Bool
is_end (Some (sign c)) = is_end_sign c
is_end o = false

sees_no_sign : (c : ℕ) (o : Option Lexeme) (a : Text) → lexeme a ≡ o → no_sign o ≡ true → sees (sign c) a ≡ false
sees_no_sign c None a is h = absurd (cc)
sees_no_sign c (Some (word x)) a is h = sees_by (sign c) (word x) a is
sees_no_sign c (Some (number x)) a is h = sees_by (sign c) (number x) a is
sees_no_sign c (Some (string x)) a is h = sees_by (sign c) (string x) a is
sees_no_sign c (Some (sign d)) a is h = absurd (cc)

pub no_sign_sees : (c : ℕ) (a : Text) → no_sign (lexeme a) ≡ true → sees (sign c) a ≡ false
no_sign_sees c a h = sees_no_sign c (lexeme a) a refl h

end_sees_word : (x : Text) (o : Option Lexeme) (a : Text) → lexeme a ≡ o → is_end o ≡ true → sees (word x) a ≡ false
end_sees_word x None a is h = absurd (cc)
end_sees_word x (Some (word y)) a is h = absurd (cc)
end_sees_word x (Some (number y)) a is h = absurd (cc)
end_sees_word x (Some (string y)) a is h = absurd (cc)
end_sees_word x (Some (sign d)) a is h = sees_by (word x) (sign d) a is

pub end_sees : (x a : Text) → is_end (lexeme a) ≡ true → sees (word x) a ≡ false
end_sees x a h = end_sees_word x (lexeme a) a refl h

end_sign : (d : ℕ) → is_end_sign d ≡ true → (nat_eq d 40 || nat_eq d 46) ≡ false
end_sign d h = grind (arith, nat_tests)

end_goes_by : (o : Option Lexeme) (a : Text) → lexeme a ≡ o → is_end o ≡ true → goes_on a ≡ false
end_goes_by None a is h = absurd (cc)
end_goes_by (Some (word y)) a is h = absurd (cc)
end_goes_by (Some (number y)) a is h = absurd (cc)
end_goes_by (Some (string y)) a is h = absurd (cc)
end_goes_by (Some (sign d)) a is h = rw (sees_by left_paren (sign d) a is, sees_by dot (sign d) a is) (end_sign d h)

pub end_goes : (a : Text) → is_end (lexeme a) ≡ true → goes_on a ≡ false
end_goes a h = end_goes_by (lexeme a) a refl h

-- ---- lists

-- A part is read, before what may follow it.
pub record ReadsPart {A : Type 0} (part : Text → Reading A) (x : A) (a b : Text) : Type 0 where
  pub shorter : length b < length a
  pub starts : no_sign (lexeme a) ≡ true
  pub reads : is_end (lexeme b) ≡ true → part a ≡ Some (x, b)

pub record ReadsAll {A : Type 0} (part : Text → Reading A) (xs : List A) (a b : Text) : Type 0 where
  pub shorter : length b < length a
  pub starts : no_sign (lexeme a) ≡ true
  pub reads : (n : ℕ) (found : List A) → length a ≤ n → is_end (lexeme b) ≡ true → sees comma b ≡ false → separated part n found a ≡ Some (found ++ xs, b)

pub record ReadsUntil {A : Type 0} (part : Text → Reading A) (end : ℕ) (xs : List A) (a b : Text) : Type 0 where
  pub short : length b ≤ length a
  pub reads : lexeme b ≡ Some (sign end) → separated_until part (sign end) a ≡ Some (xs, b)

module _ {A : Type 0} (part : Text → Reading A) where
  turn_last : (x : A) (a b : Text) (n : ℕ) (found : List A) → part a ≡ Some (x, b) → sees comma b ≡ false → separated part (suc n) found a ≡ Some (found ++ x ∷ [], b)
  unfolding separated
  turn_last x a b n found p h = rw (p, h)

  turn_more : (x : A) (a b c : Text) (n : ℕ) (found : List A) → part a ≡ Some (x, b) → sees comma b ≡ true → after b ≡ c → separated part (suc n) found a ≡ separated part n (found ++ x ∷ []) c
  unfolding separated
  turn_more x a b c n found p h e = rw (p, h, e)

  pub last_all : (x : A) (a b : Text) → ReadsPart part x a b → ReadsAll part (x ∷ []) a b
  last_all x a b r = record { shorter = r.shorter; starts = r.starts; reads = λ n found enough end last. go n found enough end last }
    where
      go : (n : ℕ) (found : List A) → length a ≤ n → is_end (lexeme b) ≡ true → sees comma b ≡ false → separated part n found a ≡ Some (found ++ x ∷ [], b)
      go zero found enough end last = absurd (let s = r.shorter in omega arith)
      go (suc n) found enough end last = turn_last x a b n found (r.reads end) last

  pub and_all : (x : A) (xs : List A) (a b c d : Text) → ReadsPart part x a b → Token narrow b comma c → ReadsAll part xs c d → ReadsAll part (x ∷ xs) a d
  and_all x xs a b c d r tok rest = let f = token_found tok in record {
    shorter = let s1 = r.shorter in let s2 = f.shorter in let s3 = rest.shorter in omega arith;
    starts = r.starts;
    reads = λ n found enough end last. go n found enough end last;
  }
    where
      go : (n : ℕ) (found : List A) → length a ≤ n → is_end (lexeme d) ≡ true → sees comma d ≡ false → separated part n found a ≡ Some (found ++ x ∷ xs, d)
      go zero found enough end last = absurd (let s = r.shorter in omega arith)
      go (suc n) found enough end last =
          let f = token_found tok in
          turn_more x a b c n found (r.reads (ap is_end f.lexeme_is)) (sees_it tok refl) f.after_is
          ∙ rest.reads n (found ++ x ∷ []) (let s1 = r.shorter in let s2 = f.shorter in omega arith) end last
          ∙ ap (λ ys. Some (ys, d)) (append_assoc found (x ∷ []) xs)

  pub until_none : (end : ℕ) (a : Text) → ReadsUntil part end [] a a
  until_none end a = record { short = omega arith; reads = λ is. let same : nat_eq end end ≡ true = grind (arith, nat_tests) in rw (sees_by (sign end) (sign end) a is, same) }

  pub until_some : (end : ℕ) (xs : List A) (a b : Text) → is_end_sign end ≡ true → nat_eq end 44 ≡ false → ReadsAll part xs a b → ReadsUntil part end xs a b
  until_some end xs a b ends other r = record {
    short = let s = r.shorter in omega arith;
    reads = λ is. rw (no_sign_sees end a r.starts) (r.reads (length a) [] (omega arith) (ap is_end is ∙ ends) (sees_by comma (sign end) b is ∙ other));
  }
