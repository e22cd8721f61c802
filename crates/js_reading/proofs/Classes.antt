-- Classes that stand in a text are read.
use Rattle.std.proofs.Common.{◌≡◌, ◌≤◌, ◌<◌, ℕ, zero, suc, Bool, true, ◌||◌, List, [], ◌∷◌, ◌++◌, length, Option, Some, refl, ap, append_assoc, append-nil, arith, codes}
use Rattle.std.proofs.lemmas.Bool.{or_left}
use Rattle.std.specs.Str.{IsUtf8}
use Rattle.js_term.specs.Term.{Text, Term, absent, all, depth, depths}
use Rattle.js_term.specs.declared.kind.Kind.{Kind}
use Rattle.js_syntax.specs.Nodes.{of_list, class_node}
use Rattle.js_syntax.specs.Tokens.{Lexeme, word, sign}
use Rattle.js_syntax.specs.Edges.{edge}
use Rattle.js_tokens.specs.Next.{lexeme}
use Rattle.js_reading.specs.Reading.{is_sign, sees, begins_key_by, begins_key_at}
use Rattle.js_reading.specs.Literals.{heritage, modifies_element, class_element, static_block, static_element, elements, class}
use Rattle.js_reading.specs.Read.{read}
use Rattle.js_reading.proofs.TokensThere.{Seen, expect_read, sees_by, sees_word_by}
use Rattle.js_reading.proofs.Follows.{holds, tight_holds, sign_tight}
use Rattle.js_reading.proofs.Climbs.{place_read}
use Rattle.js_reading.proofs.Listings.{StandsRead}
use Rattle.js_reading.proofs.Claims.{IsReadStatements, IsReadClass}
use Rattle.js_reading.proofs.Functions.{IsReadNaming, Nameless, before_sign, before_word, closed_statements}
use Rattle.js_reading.proofs.Each.{no_sign_by}

-- ---- what a class extends, before the brace

pub record IsReadHeritage (h : Term) (a b : Text) : Type 0 where
  pub utf8 : IsUtf8 b
  pub short : length b ≤ length a
  pub nameless : Nameless a
  pub reads : (limit : ℕ) → depth h ≤ limit → heritage (read limit) a ≡ Some (h, b)

pub no_heritage_read : {a b : Text} → IsUtf8 a → Seen (sign (codes "{")) a b → IsReadHeritage absent a a
unfolding heritage
no_heritage_read u tok = record { utf8 = u; short = omega arith; nameless = before_sign tok.lexeme_is; reads = λ limit fits. rw (sees_word_by (codes "extends") tok) }

brace_holds : {n : ℕ} {e : Term} {a b c : Text} → 18 ≤ n → StandsRead true n e a b → Seen (sign (codes "{")) b c → holds true (edge e) 17 b ≡ true
brace_holds {n} {e} {b = b} high x tok = let r = x.read in let t = sign_tight true tok refl refl in tight_holds true (edge e) n 17 b r.ends (omega arith) (omega arith)

pub heritage_read : {n : ℕ} {e : Term} {a b c d : Text} → Seen (word (codes "extends")) a b → 18 ≤ n → StandsRead true n e b c → Seen (sign (codes "{")) c d → IsReadHeritage e a c
unfolding heritage
heritage_read tok high x brace = let r = x.read in record {
  utf8 = x.utf8;
  nameless = before_word refl tok.lexeme_is;
  short = let s1 = tok.shorter in let s2 = r.shorter in omega arith;
  reads = λ limit fits. rw (sees_word_by (codes "extends") tok, tok.after_is, place_read r limit 18 17 high (omega arith) (omega arith) (omega arith) fits (brace_holds high x brace));
}

-- ---- elements

-- with what an element begins
abbrev pub begins_element : Option Lexeme → Bool
begins_element o = begins_key_by o || is_sign (codes "*") o

-- what may stand behind one
abbrev pub follows_element : Option Lexeme → Bool
follows_element o = begins_element o || (is_sign (codes ";") o || is_sign (codes "}") o)

pub record IsReadElement (e : Term) (a b : Text) : Type 0 where
  pub utf8 : IsUtf8 b
  pub shorter : length b < length a
  pub begun : begins_element (lexeme a) ≡ true
  pub reads : (limit : ℕ) → depth e ≤ limit → follows_element (lexeme b) ≡ true → class_element (read limit) a ≡ Some (e, b)

-- elements up to the brace
pub record IsReadElements (es : List Term) (a b c : Text) : Type 0 where
  pub closes : Seen (sign (codes "}")) b c
  pub short : length b ≤ length a
  pub follows : follows_element (lexeme a) ≡ true
  pub reads : (limit n : ℕ) (found : List Term) → depths (all es) ≤ limit → length a ≤ n → elements (read limit) n found a ≡ Some (found ++ es, b)

no_elements_there : {a b : Text} → Seen (sign (codes "}")) a b → (limit n : ℕ) (found : List Term) → length a ≤ n → elements (read limit) n found a ≡ Some (found ++ [], a)
unfolding elements
no_elements_there tok limit zero found enough = absurd (let s = tok.shorter in omega arith)
no_elements_there tok limit (suc n) found enough = rw (sees_by (codes "}") tok, append-nil found)

pub no_elements_read : {a b : Text} → Seen (sign (codes "}")) a b → IsReadElements [] a a b
no_elements_read tok = record { closes = tok; short = omega arith; follows = ap follows_element tok.lexeme_is; reads = λ limit n found fits enough. no_elements_there tok limit n found enough }

semicolon_there : {es : List Term} {a b c d : Text} → Seen (sign (codes ";")) a b → IsReadElements es b c d → (limit n : ℕ) (found : List Term) → depths (all es) ≤ limit → length a ≤ n → elements (read limit) n found a ≡ Some (found ++ es, c)
unfolding elements
semicolon_there tok rest limit zero found fits enough = absurd (let s = tok.shorter in omega arith)
semicolon_there tok rest limit (suc n) found fits enough = rw (sees_by (codes "}") tok, sees_by (codes ";") tok, tok.after_is, rest.reads limit n found fits (let s = tok.shorter in omega arith))

pub lone_semicolon_read : {es : List Term} {a b c d : Text} → Seen (sign (codes ";")) a b → IsReadElements es b c d → IsReadElements es a c d
lone_semicolon_read tok rest = record { closes = rest.closes; short = let s1 = tok.shorter in let s2 = rest.short in omega arith; follows = ap follows_element tok.lexeme_is; reads = λ limit n found fits enough. semicolon_there tok rest limit n found fits enough }

element_there : {e : Term} {es : List Term} {a b c d : Text} → IsReadElement e a b → IsReadElements es b c d → (limit n : ℕ) (found : List Term) → depths (all (e ∷ es)) ≤ limit → length a ≤ n → elements (read limit) n found a ≡ Some (found ++ e ∷ es, c)
unfolding elements
element_there x rest limit zero found fits enough = absurd (let s = x.shorter in omega arith)
element_there {e} {es} {a} x rest limit (suc n) found fits enough = rw (no_sign_by begins_element (codes "}") a x.begun refl, no_sign_by begins_element (codes ";") a x.begun refl, x.reads limit (omega arith) rest.follows, rest.reads limit n (found ++ e ∷ []) (omega arith) (let s = x.shorter in omega arith), append_assoc found (e ∷ []) es)

pub next_element_read : {e : Term} {es : List Term} {a b c d : Text} → IsReadElement e a b → IsReadElements es b c d → IsReadElements (e ∷ es) a c d
next_element_read {a = a} x rest = record { closes = rest.closes; short = let s1 = x.shorter in let s2 = rest.short in omega arith; follows = or_left (begins_element (lexeme a)) _ x.begun; reads = λ limit n found fits enough. element_there x rest limit n found fits enough }

-- static { ss }
brace_modifies : {a b : Text} → Seen (sign (codes "{")) a b → modifies_element a ≡ true
unfolding modifies_element begins_key_at sees
brace_modifies tok = rw tok.lexeme_is

static_there : {ss : List Term} {a b c d e : Text} → Seen (word (codes "static")) a b → Seen (sign (codes "{")) b c → IsReadStatements ss c d → Seen (sign (codes "}")) d e → (limit : ℕ) → depths (all ss) ≤ limit → class_element (read limit) a ≡ Some (of_list Kind.StaticBlock (all ss), e)
unfolding class_element static_element static_block
static_there tok opens x closes limit fits = rw (sees_word_by (codes "static") tok, tok.after_is, brace_modifies opens, sees_by (codes "{") opens, opens.after_is, closed_statements x closes limit fits)

pub static_block_read : {ss : List Term} {a b c d e : Text} → Seen (word (codes "static")) a b → Seen (sign (codes "{")) b c → IsReadStatements ss c d → Seen (sign (codes "}")) d e → IsReadElement (of_list Kind.StaticBlock (all ss)) a e
static_block_read tok opens x closes = record {
  utf8 = closes.utf8;
  shorter = let s1 = tok.shorter in let s2 = opens.shorter in let s3 = x.short in let s4 = closes.shorter in omega arith;
  begun = ap begins_element tok.lexeme_is;
  reads = λ limit fits h. static_there tok opens x closes limit (omega arith);
}

-- ---- the class

class_there : (k : Kind) {id h : Term} {es : List Term} {a b c d e f : Text} → IsReadNaming id a b → IsReadHeritage h b c → Seen (sign (codes "{")) c d → IsReadElements es d e f → (limit : ℕ) → depth h ≤ limit → depths (all es) ≤ limit → class (read limit) k a ≡ Some (class_node k id h es, f)
unfolding class
class_there k {d = d} x y opens z limit fits fits' = rw (x.reads, y.reads limit fits, expect_read opens, z.reads limit (length d) [] fits' (omega arith), expect_read z.closes)

pub class_read : (k : Kind) {id h : Term} {es : List Term} {o a b c d e f : Text} → Seen (word (codes "class")) o a → IsReadNaming id a b → IsReadHeritage h b c → Seen (sign (codes "{")) c d → IsReadElements es d e f → IsReadClass k (class_node k id h es) o f
class_read k {a = a} tok x y opens z = let w = z.closes in record {
  utf8 = w.utf8;
  shorter = let s0 = tok.shorter in let s1 = x.short in let s2 = y.short in let s3 = opens.shorter in let s4 = z.short in let s5 = w.shorter in omega arith;
  deep = omega arith;
  behind = a;
  opens = tok;
  reads = λ limit fits. class_there k x y opens z limit (omega arith) (omega arith);
}
