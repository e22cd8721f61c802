-- What is spelled as an expression is read.
use Rattle.std.proofs.Common.{◌≡◌, ◌≤◌, ◌<◌, ℕ, zero, suc, Bool, true, false, not, ◌&&◌, List, length, Option, Some, None, refl, ◌∙◌, arith}
use Rattle.std.proofs.lemmas.Bool.{le-leb, and_parts}
use Rattle.js_term.specs.Term.{Text, Term, all, depth, depths}
use Rattle.js_term.specs.Lexeme.{narrow, Lexeme, word, number, string, sign, Token, left_paren, right_paren, dot, is_reserved}
use Rattle.js_term.specs.Node.{identifier_of, string_of, number_of, call_of, member_of}
use Rattle.js_term.specs.Spells.{Stands, Listed, Group, joined}
use Rattle.js_term.specs.Spells as spell
use Rattle.js_lex.specs.Next.{lexeme}
use Rattle.js_lex.proofs.Laws.{token_found}
use Rattle.js_read.specs.Plain.{is_plain, are_plain}
use Rattle.js_read.specs.Read.{primary, goes_on, member, call, extended, climb, whole, read}
use Rattle.js_read.proofs.Parts.{expect_read, sees_it, sees_other, name_read, no_sign, end_goes, ReadsPart, ReadsAll, ReadsUntil, last_all, and_all, until_none, until_some}

-- what begins an expression
abbrev pub begins : Option Lexeme → Bool
begins None = false
begins (Some (word x)) = not (is_reserved x)
begins (Some (number x)) = true
begins (Some (string x)) = true
begins (Some (sign c)) = false

pub begins_no_sign : (o : Option Lexeme) → begins o ≡ true → no_sign o ≡ true
begins_no_sign None h = absurd (cc)
begins_no_sign (Some (word x)) h = refl
begins_no_sign (Some (number x)) h = refl
begins_no_sign (Some (string x)) h = refl
begins_no_sign (Some (sign c)) h = absurd (cc)

-- Reading from a comes to where the term is read and the text b is left.
pub record Reach (limit : ℕ) (e : Term) (a b : Text) : Type 0 where
  pub turns : ℕ
  pub enough : length b ≤ turns
  pub same : whole limit (read limit) a ≡ climb limit (read limit) turns e b

pub record IsRead (e : Term) (a b : Text) : Type 0 where
  pub shorter : length b < length a
  pub starts : begins (lexeme a) ≡ true
  pub deep : 0 < depth e
  pub reach : (limit : ℕ) → depth e ≤ suc limit → Reach limit e a b

climb_stops : (limit n : ℕ) (e : Term) (b : Text) → goes_on b ≡ false → climb limit (read limit) n e b ≡ Some (e, b)
unfolding climb
climb_stops limit zero e b h = refl
climb_stops limit (suc n) e b h = rw h

-- an expression is read, and nothing more
pub part : {e : Term} {a b : Text} → IsRead e a b → (limit : ℕ) → depth e ≤ limit → goes_on b ≡ false → read limit a ≡ Some (e, b)
unfolding read
part r zero d s = absurd (let deep = r.deep in omega arith)
part {e = e} {b = b} r (suc limit) d s = let x = r.reach limit d in x.same ∙ climb_stops limit x.turns e b s

pub part_reads : {e : Term} {a b : Text} → IsRead e a b → (limit : ℕ) → depth e ≤ limit → ReadsPart (read limit) e a b
part_reads {e} {a} {b} r limit d = record { shorter = r.shorter; starts = begins_no_sign (lexeme a) r.starts; reads = λ end. part r limit d (end_goes b end) }

identifier_read : {x a b : Text} → is_reserved x ≡ false → Token narrow a (word x) b → IsRead (identifier_of x) a b
unfolding whole primary
identifier_read {b = b} free tok = let f = token_found tok in record {
  shorter = f.shorter;
  starts = rw (f.lexeme_is, free);
  deep = omega arith;
  reach = λ limit d. record { turns = length b; enough = omega arith; same = rw (f.lexeme_is, free, f.after_is) };
}

number_read : {x a b : Text} → Token narrow a (number x) b → IsRead (number_of x) a b
unfolding whole primary
number_read {b = b} tok = let f = token_found tok in record {
  shorter = f.shorter;
  starts = rw (f.lexeme_is);
  deep = omega arith;
  reach = λ limit d. record { turns = length b; enough = omega arith; same = rw (f.lexeme_is, f.after_is) };
}

string_read : {x a b : Text} → Token narrow a (string x) b → IsRead (string_of x) a b
unfolding whole primary
string_read {b = b} tok = let f = token_found tok in record {
  shorter = f.shorter;
  starts = rw (f.lexeme_is);
  deep = omega arith;
  reach = λ limit d. record { turns = length b; enough = omega arith; same = rw (f.lexeme_is, f.after_is) };
}

turn : (limit n : ℕ) (e e' : Term) (b b' : Text) → goes_on b ≡ true → extended limit (read limit) e b ≡ Some (e', b') → climb limit (read limit) (suc n) e b ≡ climb limit (read limit) n e' b'
unfolding climb
turn limit n e e' b b' g x = rw (g, x)

-- An expression goes on to a larger one: what was read before is read on.
grown : {e e' : Term} {a b b' : Text} (limit : ℕ) → IsRead e a b → depth e ≤ suc limit → length b' < length b → goes_on b ≡ true → extended limit (read limit) e b ≡ Some (e', b') → Reach limit e' a b'
grown {e = e} {e' = e'} {a = a} {b = b} {b' = b'} limit r d shorter g x =
    let from = r.reach limit d in go from.turns from.enough from.same
  where
    go : (n : ℕ) → length b ≤ n → whole limit (read limit) a ≡ climb limit (read limit) n e b → Reach limit e' a b'
    go zero enough same = absurd (omega arith)
    go (suc n) enough same = record { turns = n; enough = omega arith; same = same ∙ turn limit n e e' b b' g x }

member_extends : {x b c d : Text} (limit : ℕ) (o : Term) → depth o ≤ limit → Token narrow b dot c → Token narrow c (word x) d → extended limit (read limit) o b ≡ Some (member_of o x, d)
unfolding extended member
member_extends {x} {b} {c} {d} limit o fits point property =
    let f = token_found point in
    rw (le-leb (depth o) limit fits, sees_other left_paren point refl, f.after_is, name_read property)

member_read : {o : Term} {x a b c d : Text} → IsRead o a b → Token narrow b dot c → Token narrow c (word x) d → IsRead (member_of o x) a d
member_read {o} {x} {a} {b} {c} {d} object point property =
    let f = token_found point in
    let g = token_found property in
    let s1 = object.shorter in
    let s2 = f.shorter in
    let s3 = g.shorter in
    record {
      shorter = omega arith;
      starts = object.starts;
      deep = omega arith;
      reach = λ limit dep. grown limit object (omega arith) (omega arith)
          (rw (sees_other left_paren point refl, sees_it point refl))
          (member_extends limit o (omega arith) point property);
    }

call_extends : {es : List Term} {b c d e : Text} (limit : ℕ) (f : Term) → depth f ≤ limit → Token narrow b left_paren c → ReadsUntil (read limit) 41 es c d → Token narrow d right_paren e →
    extended limit (read limit) f b ≡ Some (call_of f (all es), e)
unfolding extended call
call_extends {es} {b} {c} {d} {e} limit f fits open' args close =
    let o = token_found open' in
    let k = token_found close in
    rw (le-leb (depth f) limit fits, sees_it open' refl, o.after_is, args.reads k.lexeme_is, expect_read close refl)

call_read : {f : Term} {es : List Term} {a b c d e : Text} → IsRead f a b → Token narrow b left_paren c → ((limit : ℕ) → depths (all es) ≤ limit → ReadsUntil (read limit) 41 es c d) → Token narrow d right_paren e →
    IsRead (call_of f (all es)) a e
call_read {f = f} {es = es} {b = b} {c = c} {d = d} callee open' args close =
    let o = token_found open' in
    let k = token_found close in
    let s1 = callee.shorter in
    let s2 = o.shorter in
    let s3 = k.shorter in
    let s4 = (args (depths (all es)) (omega arith)).short in
    record {
      shorter = omega arith;
      starts = callee.starts;
      deep = omega arith;
      reach = λ limit dep. grown limit callee (omega arith) (omega arith)
          (rw (sees_it open' refl))
          (call_extends limit f (omega arith) open' (args limit (omega arith)) close);
    }

-- ---- the whole grammar

mutual
  pub stands_read : {e : Term} {a b : Text} → Stands narrow e a b → is_plain e ≡ true → IsRead e a b
  stands_read (spell.identifier free tok) p = identifier_read free tok
  stands_read (spell.boolean v tok) p = absurd (cc)
  stands_read (spell.numeric tok) p = number_read tok
  stands_read (spell.string_literal tok) p = string_read tok
  stands_read (spell.parenthesized x es y) p = absurd (cc)
  stands_read (spell.call {f} {es} h s x args y) p =
      let (one, rest) = and_parts (is_plain f) (are_plain (all es) && true) p in
      let (more, _) = and_parts (are_plain (all es)) true rest in
      call_read (stands_read s one) x (λ limit d. group_read args more limit d) y
  stands_read (spell.member {o} h s x y) p =
      let (one, rest) = and_parts (is_plain o) true p in
      member_read (stands_read s one) x y
  stands_read (spell.await_expression h x s) p = absurd (cc)
  stands_read (spell.array x es y) p = absurd (cc)
  stands_read (spell.object x es y) p = absurd (cc)

  pub listed_read : {es : List Term} {a b : Text} → Listed narrow es a b → are_plain (all es) ≡ true → (limit : ℕ) → depths (all es) ≤ limit → ReadsAll (read limit) es a b
  listed_read (spell.last {e} {a} {b} h s) p limit d =
      let (one, rest) = and_parts (is_plain e) true p in
      last_all (read limit) e a b (part_reads (stands_read s one) limit (omega arith))
  listed_read (spell.and {e} {es} {a} {b} {c} {d} h s tok rest) p limit dep =
      let (one, more) = and_parts (is_plain e) (are_plain (all es)) p in
      and_all (read limit) e es a b c d (part_reads (stands_read s one) limit (omega arith)) tok (listed_read rest more limit (omega arith))

  pub group_read : {es : List Term} {a b : Text} → Group narrow es a b → are_plain (all es) ≡ true → (limit : ℕ) → depths (all es) ≤ limit → ReadsUntil (read limit) 41 es a b
  group_read (spell.no_items {a}) p limit d = until_none (read limit) 41 a
  group_read (spell.some_items {es} {a} {b} l) p limit d = until_some (read limit) 41 es a b refl refl (listed_read l p limit d)
