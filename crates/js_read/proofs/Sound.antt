-- What is read of an expression is spelled.
use Rattle.std.proofs.Common.{◌≡◌, ◌≤◌, ◌<◌, ℕ, zero, suc, Bool, true, false, cond, ◌||◌, nat_le, nat_eq, List, length, Option, Some, None, refl, arith}
use Rattle.std.proofs.lemmas.Bool.{leb-true}
use Rattle.js_term.specs.Term.{Text, Term, node, absent, list, all, depth, depths}
use Rattle.js_term.specs.Lexeme.{narrow, Lexeme, word, number, string, sign, Token, left_paren, right_paren, dot, is_reserved, opens_otherwise}
use Rattle.js_term.specs.Spells.{level, Stands, Listed, Group}
use Rattle.js_term.specs.Spells as spell
use Rattle.js_lex.specs.Next.{lexeme, after, sees}
use Rattle.js_lex.proofs.Laws.{token_there, seen}
use Rattle.js_read.specs.Read.{name, name_by, primary, primary_by, goes_on, member, call, extended, climb, whole, read}
use Rattle.js_read.proofs.Each.{Each, each_none, each_some, each_bind, each_if, expect_each, Chain, Chains, one, next, nothing, some, until_each}
use Rattle.js_read.proofs.Opens.{opens_word, opens_number, opens_string}

-- a word
pub name_each : (a : Text) → Each (λ x b. Token narrow a (word x) b) (name a)
unfolding name
name_each a = go (lexeme a) refl
  where
    go : (o : Option Lexeme) → lexeme a ≡ o → Each (λ x b. Token narrow a (word x) b) (name_by o (after a))
    go None is = each_none
    go (Some (word x)) is = each_some x (after a) (token_there a (word x) is)
    go (Some (number x)) is = each_none
    go (Some (string x)) is = each_none
    go (Some (sign c)) is = each_none

-- what reading an expression gives
pub record Fits (limit : ℕ) (e : Term) (a b : Text) : Type 0 where
  pub stands : Stands narrow e a b
  pub high : 19 ≤ level e
  pub flat : depth e ≤ limit
  pub opens : opens_otherwise a ≡ false

pub high_deep : (e : Term) → 19 ≤ level e → 0 < depth e
high_deep absent h = absurd (omega arith)
high_deep (list ts) h = absurd (omega arith)
high_deep (node k texts ts) h = omega arith

chain_listed : {limit : ℕ} {es : List Term} {a b : Text} → Chain (Fits limit) es a b → Listed narrow es a b
chain_listed (one f) = spell.last (let h = f.high in omega arith) f.stands
chain_listed (next f tok rest) = spell.and (let h = f.high in omega arith) f.stands tok (chain_listed rest)

chain_flat : {limit : ℕ} {es : List Term} {a b : Text} → Chain (Fits limit) es a b → depths (all es) ≤ limit
chain_flat (one f) = let h = f.flat in omega arith
chain_flat (next f tok rest) = let h = f.flat in let k = chain_flat rest in omega arith

chains_group : {limit : ℕ} {es : List Term} {a b : Text} → Chains (Fits limit) es a b → Group narrow es a b
chains_group nothing = spell.no_items
chains_group (some c) = spell.some_items (chain_listed c)

chains_flat : {limit : ℕ} {es : List Term} {a b : Text} → Chains (Fits limit) es a b → depths (all es) ≤ limit
chains_flat nothing = omega arith
chains_flat (some c) = chain_flat c

member_high : (b : Bool) → 19 ≤ cond b 19 20
member_high true = omega arith
member_high false = omega arith

primary_each : (limit : ℕ) (a : Text) → Each (λ e b. Fits (suc limit) e a b) (primary a)
unfolding primary
primary_each limit a = go (lexeme a) refl
  where
    go : (o : Option Lexeme) → lexeme a ≡ o → Each (λ e b. Fits (suc limit) e a b) (primary_by o (after a))
    go None is = each_none
    go (Some (word x)) is = each_if (is_reserved x) _ _ (λ _. each_none) (λ free.
        let tok = token_there a (word x) is in
        each_some _ _ (record { stands = spell.identifier free tok; high = omega arith; flat = omega arith; opens = opens_word free tok }))
    go (Some (number x)) is = let tok = token_there a (number x) is in
        each_some _ _ (record { stands = spell.numeric tok; high = omega arith; flat = omega arith; opens = opens_number tok })
    go (Some (string x)) is = let tok = token_there a (string x) is in
        each_some _ _ (record { stands = spell.string_literal tok; high = omega arith; flat = omega arith; opens = opens_string tok })
    go (Some (sign c)) is = each_none

member_each : (limit : ℕ) (e : Term) (a b : Text) → Fits limit e a b → sees dot b ≡ true → Each (λ t c. Fits (suc limit) t a c) (member e (after b))
unfolding member
member_each limit e a b fits is = each_bind _ (name_each (after b)) (λ x c tok. each_some _ _ (record {
  stands = spell.member fits.high fits.stands (seen dot b is) tok;
  high = member_high (nat_eq (level e) 19);
  flat = let f = fits.flat in let d = high_deep e fits.high in omega arith;
  opens = fits.opens;
}))

or_right : (b c : Bool) → (b || c) ≡ true → b ≡ false → c ≡ true
or_right true c h e = absurd (cc)
or_right false c h e = h

module _ (limit : ℕ) (sub : (a : Text) → Each (λ e b. Fits limit e a b) (read limit a)) where
  call_each : (e : Term) (a b : Text) → Fits limit e a b → sees left_paren b ≡ true → Each (λ t c. Fits (suc limit) t a c) (call (read limit) e (after b))
  unfolding call
  call_each e a b fits is = each_bind _ (until_each (Fits limit) (read limit) sub right_paren (after b)) (λ es c args.
      each_bind _ (expect_each right_paren c) (λ _ d close. each_some _ _ (record {
        stands = spell.call fits.high fits.stands (seen left_paren b is) (chains_group args) close;
        high = omega arith;
        flat = let f = fits.flat in let g = chains_flat args in omega arith;
        opens = fits.opens;
      })))

  extended_each : (e : Term) (a b : Text) → Fits (suc limit) e a b → goes_on b ≡ true → Each (λ t c. Fits (suc limit) t a c) (extended limit (read limit) e b)
  unfolding extended
  extended_each e a b fits on = each_if (nat_le (depth e) limit) _ _
      (λ le. let flat : Fits limit e a b = record { stands = fits.stands; high = fits.high; flat = leb-true _ _ le; opens = fits.opens } in
      each_if (sees left_paren b) _ _ (λ is. call_each e a b flat is) (λ no. member_each limit e a b flat (or_right _ _ on no)))
      (λ _. each_none)

  climb_each : (n : ℕ) (e : Term) (a b : Text) → Fits (suc limit) e a b → Each (λ t c. Fits (suc limit) t a c) (climb limit (read limit) n e b)
  unfolding climb
  climb_each zero e a b fits = each_some _ _ fits
  climb_each (suc n) e a b fits = each_if (goes_on b) _ _
      (λ on. each_bind _ (extended_each e a b fits on) (λ e' b' fits'. climb_each n e' a b' fits'))
      (λ _. each_some _ _ fits)

  whole_each : (a : Text) → Each (λ e b. Fits (suc limit) e a b) (whole limit (read limit) a)
  unfolding whole
  whole_each a = each_bind _ (primary_each limit a) (λ e b fits. climb_each (length b) e a b fits)

pub read_each : (limit : ℕ) (a : Text) → Each (λ e b. Fits limit e a b) (read limit a)
unfolding read
read_each zero a = each_none
read_each (suc limit) a = whole_each limit (λ b. read_each limit b) a
