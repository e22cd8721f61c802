-- Templates and keys that stand in a text are read.
use Rattle.std.proofs.Common.{◌≡◌, ◌≤◌, ◌<◌, ℕ, zero, suc, Bool, true, false, not, ◌||◌, List, [], ◌∷◌, ◌++◌, length, Option, Some, None, refl, sym, ◌∙◌, ap, append_assoc, append-nil, arith, codes}
use Rattle.std.specs.Str.{IsUtf8}
use Rattle.js_term.specs.Term.{Text, Term, all, depth, depths}
use Rattle.js_term.specs.declared.kind.Kind.{Kind}
use Rattle.js_term.specs.Node.{name_of, string_of, number_of}
use Rattle.js_syntax.specs.Lexical.{has_sound_escapes}
use Rattle.js_syntax.specs.Nodes.{of_text, private_of}
use Rattle.js_syntax.specs.Tokens.{Lexeme, word, private_name, number, big_integer, string, regexp, no_substitution, template_head, template_middle, template_tail, sign}
use Rattle.js_syntax.specs.Edges.{edge}
use Rattle.js_tokens.specs.Next.{lexeme, after}
use Rattle.js_reading.specs.declared.goal.Goal.{Goal}
use Rattle.js_reading.specs.Reading.{Found, Reading, begins_key_by}
use Rattle.js_reading.specs.Parts.{Key, quasi, expression, computed_key, key_by, key, member_key_by, member_key, template_rest, template_by}
use Rattle.js_reading.specs.Read.{read}
use Rattle.js_reading.proofs.TokensThere.{Seen, SeenTail, sees_by, expect_read}
use Rattle.js_reading.proofs.TokensEnd.{lexeme_sees}
use Rattle.js_reading.proofs.Lists.{is_end, ending_end}
use Rattle.js_reading.proofs.Follows.{end_holds}
use Rattle.js_reading.proofs.Climbs.{whole, IsRead, right_read}
use Rattle.js_reading.proofs.Listings.{StandsRead, IsReadExpression, expression_before}
use Rattle.js_reading.proofs.Grouped.{IsReadTemplate}

-- ---- templates (13.2.8)

-- what stands behind a substitution
pub record IsReadQuasis (sound : Bool) (qs es : List Term) (a b : Text) : Type 0 where
  pub utf8 : IsUtf8 b
  pub shorter : length b < length a
  pub closes : lexeme a ≡ Some (sign (codes "}"))
  pub reads : (limit n : ℕ) (texts parts : List Term) → depths (all es) ≤ limit → length a ≤ n → template_rest (read limit) sound n (texts, parts) a ≡ Some ((texts ++ qs, parts ++ es), b)

tail_there : (sub : Goal → Text → Reading Found) (sound : Bool) (n : ℕ) (texts parts : List Term) {raw a b : Text} → not sound || has_sound_escapes raw ≡ true → SeenTail (template_tail raw) a b → template_rest sub sound (suc n) (texts, parts) a ≡ Some ((texts ++ quasi raw ∷ [], parts), b)
unfolding template_rest
tail_there sub sound n texts parts h tok = let is = tok.tail_is in rw (is, h)

tail_read : (sound : Bool) {raw a b : Text} (limit n : ℕ) (texts parts : List Term) → not sound || has_sound_escapes raw ≡ true → SeenTail (template_tail raw) a b → length a ≤ n → template_rest (read limit) sound n (texts, parts) a ≡ Some ((texts ++ quasi raw ∷ [], parts ++ []), b)
tail_read sound limit zero texts parts h tok enough = absurd (let s = tok.shorter in omega arith)
tail_read sound {raw} {a} {b} limit (suc n) texts parts h tok enough = tail_there (read limit) sound n texts parts h tok ∙ ap (λ (ps : List Term). Some ((texts ++ quasi raw ∷ [], ps), b)) (sym (append-nil parts))

pub template_end_read : {sound : Bool} {raw a b : Text} → not sound || has_sound_escapes raw ≡ true → SeenTail (template_tail raw) a b → IsReadQuasis sound (of_text Kind.TemplateElement raw ∷ []) [] a b
template_end_read {sound} h tok = record { utf8 = tok.utf8; shorter = tok.shorter; closes = tok.lexeme_is; reads = λ limit n texts parts fits enough. tail_read sound limit n texts parts h tok enough }

-- an expression before the brace that closes its substitution
inner_read : {e : Term} {a b : Text} (limit : ℕ) → IsReadExpression true e a b → lexeme b ≡ Some (sign (codes "}")) → depth e ≤ limit → expression (read limit) true a ≡ Some (e, b)
inner_read {b = b} limit x is fits = expression_before x limit fits (ap is_end is) (lexeme_sees (codes ",") b _ is)

middle_there : (sound : Bool) {raw a b c : Text} {e : Term} (limit n : ℕ) (texts parts : List Term) → not sound || has_sound_escapes raw ≡ true → SeenTail (template_middle raw) a b → IsReadExpression true e b c → lexeme c ≡ Some (sign (codes "}")) → depth e ≤ limit → template_rest (read limit) sound (suc n) (texts, parts) a ≡ template_rest (read limit) sound n (texts ++ quasi raw ∷ [], parts ++ e ∷ []) c
unfolding template_rest
middle_there sound limit n texts parts h tok x closes fits = let is = tok.tail_is in rw (is, h, inner_read limit x closes fits)

middle_read : (sound : Bool) {raw a b c d : Text} {e : Term} {qs es : List Term} (limit n : ℕ) (texts parts : List Term) → not sound || has_sound_escapes raw ≡ true → SeenTail (template_middle raw) a b → IsReadExpression true e b c → IsReadQuasis sound qs es c d → depth e ≤ limit → depths (all es) ≤ limit → length a ≤ n → template_rest (read limit) sound n (texts, parts) a ≡ Some ((texts ++ quasi raw ∷ qs, parts ++ e ∷ es), d)
middle_read sound limit zero texts parts h tok x rest fits fits' enough = absurd (let s = tok.shorter in omega arith)
middle_read sound {raw} {a} {b} {c} {d} {e} {qs} {es} limit (suc n) texts parts h tok x rest fits fits' enough =
    middle_there sound limit n texts parts h tok x rest.closes fits
    ∙ rest.reads limit n (texts ++ quasi raw ∷ []) (parts ++ e ∷ []) fits' (let s = tok.shorter in let s' = x.shorter in omega arith)
    ∙ ap (λ (ts : List Term). Some ((ts, (parts ++ e ∷ []) ++ es), d)) (append_assoc texts (quasi raw ∷ []) qs)
    ∙ ap (λ (ps : List Term). Some ((texts ++ quasi raw ∷ qs, ps), d)) (append_assoc parts (e ∷ []) es)

pub template_more_read : {sound : Bool} {raw a b c d : Text} {e : Term} {qs es : List Term} → not sound || has_sound_escapes raw ≡ true → SeenTail (template_middle raw) a b → IsReadExpression true e b c → IsReadQuasis sound qs es c d → IsReadQuasis sound (of_text Kind.TemplateElement raw ∷ qs) (e ∷ es) a d
template_more_read {sound} h tok x rest = record {
  utf8 = rest.utf8;
  shorter = let s1 = tok.shorter in let s2 = x.shorter in let s3 = rest.shorter in omega arith;
  closes = tok.lexeme_is;
  reads = λ limit n texts parts fits enough. middle_read sound limit n texts parts h tok x rest (omega arith) (omega arith) enough;
}

whole_there : (sub : Goal → Text → Reading Found) (sound : Bool) {raw a b : Text} → not sound || has_sound_escapes raw ≡ true → Seen (no_substitution raw) a b → template_by sub sound (lexeme a) (after a) ≡ Some ((quasi raw ∷ [], []), b)
whole_there sub sound h tok = rw (tok.lexeme_is, h, tok.after_is)

pub whole_template_read : {sound : Bool} {raw a b : Text} → not sound || has_sound_escapes raw ≡ true → Seen (no_substitution raw) a b → IsReadTemplate sound (of_text Kind.TemplateElement raw ∷ []) [] a b
whole_template_read {sound} h tok = record { utf8 = tok.utf8; shorter = tok.shorter; opens = rw (tok.lexeme_is) refl; reads = λ limit fits. whole_there (read limit) sound h tok }

head_there : {sound : Bool} {raw a b c d : Text} {e : Term} {qs es : List Term} (limit : ℕ) → not sound || has_sound_escapes raw ≡ true → Seen (template_head raw) a b → IsReadExpression true e b c → IsReadQuasis sound qs es c d → depth e ≤ limit → depths (all es) ≤ limit → template_by (read limit) sound (lexeme a) (after a) ≡ Some ((quasi raw ∷ qs, e ∷ es), d)
head_there {sound} {raw} {c = c} {e = e} limit h tok x rest fits fits' = rw (tok.lexeme_is, h, tok.after_is, inner_read limit x rest.closes fits) (rest.reads limit (length c) (quasi raw ∷ []) (e ∷ []) fits' (omega arith))

pub template_parts_read : {sound : Bool} {raw a b c d : Text} {e : Term} {qs es : List Term} → not sound || has_sound_escapes raw ≡ true → Seen (template_head raw) a b → IsReadExpression true e b c → IsReadQuasis sound qs es c d → IsReadTemplate sound (of_text Kind.TemplateElement raw ∷ qs) (e ∷ es) a d
template_parts_read h tok x rest = record {
  utf8 = rest.utf8;
  shorter = let s1 = tok.shorter in let s2 = x.shorter in let s3 = rest.shorter in omega arith;
  opens = rw (tok.lexeme_is) refl;
  reads = λ limit fits. head_there limit h tok x rest (omega arith) (omega arith);
}

-- ---- keys (13.2.5, 15.7)

pub record IsReadKey (computed : Bool) (k : Term) (a b : Text) : Type 0 where
  pub utf8 : IsUtf8 b
  pub shorter : length b < length a
  pub begins : begins_key_by (lexeme a) ≡ true
  pub reads : (limit : ℕ) → depth k ≤ limit → key (read limit) a ≡ Some ((computed, k), b)

name_key_there : (sub : Goal → Text → Reading Found) {x a b : Text} → Seen (word x) a b → key sub a ≡ Some ((false, name_of x), b)
unfolding key
name_key_there sub tok = rw (tok.lexeme_is, tok.after_is)

string_key_there : (sub : Goal → Text → Reading Found) {raw v a b : Text} → Seen (string raw v) a b → key sub a ≡ Some ((false, string_of v), b)
unfolding key
string_key_there sub tok = rw (tok.lexeme_is, tok.after_is)

number_key_there : (sub : Goal → Text → Reading Found) {raw a b : Text} → Seen (number raw) a b → key sub a ≡ Some ((false, number_of raw), b)
unfolding key
number_key_there sub tok = rw (tok.lexeme_is, tok.after_is)

bigint_key_there : (sub : Goal → Text → Reading Found) {raw a b : Text} → Seen (big_integer raw) a b → key sub a ≡ Some ((false, of_text Kind.BigIntLiteral raw), b)
unfolding key
bigint_key_there sub tok = rw (tok.lexeme_is, tok.after_is)

computed_key_there : {n : ℕ} {e : Term} {p : Bool} {a b c d : Text} (limit : ℕ) → Seen (sign (codes "[")) a b → IsRead true (depth e) (whole e n p) b c → Seen (sign (codes "]")) c d → depth e ≤ limit → key (read limit) a ≡ Some ((true, e), d)
unfolding key computed_key
computed_key_there {e = e} {c = c} limit tok r tok' fits = rw (tok.lexeme_is, tok.after_is, right_read r limit fits (end_holds true (edge e) 1 c (ending_end (codes "]") c refl (sees_by (codes "]") tok'))), expect_read tok')

pub name_key_read : {x a b : Text} → Seen (word x) a b → IsReadKey false (name_of x) a b
name_key_read tok = record { utf8 = tok.utf8; shorter = tok.shorter; begins = rw (tok.lexeme_is) refl; reads = λ limit fits. name_key_there (read limit) tok }

pub string_key_read : {raw v a b : Text} → Seen (string raw v) a b → IsReadKey false (string_of v) a b
string_key_read tok = record { utf8 = tok.utf8; shorter = tok.shorter; begins = rw (tok.lexeme_is) refl; reads = λ limit fits. string_key_there (read limit) tok }

pub number_key_read : {raw a b : Text} → Seen (number raw) a b → IsReadKey false (number_of raw) a b
number_key_read tok = record { utf8 = tok.utf8; shorter = tok.shorter; begins = rw (tok.lexeme_is) refl; reads = λ limit fits. number_key_there (read limit) tok }

pub bigint_key_read : {raw a b : Text} → Seen (big_integer raw) a b → IsReadKey false (of_text Kind.BigIntLiteral raw) a b
bigint_key_read tok = record { utf8 = tok.utf8; shorter = tok.shorter; begins = rw (tok.lexeme_is) refl; reads = λ limit fits. bigint_key_there (read limit) tok }

pub computed_key_read : {n : ℕ} {e : Term} {a b c d : Text} → Seen (sign (codes "[")) a b → StandsRead true n e b c → Seen (sign (codes "]")) c d → IsReadKey true e a d
computed_key_read tok x tok' = let r = x.read in record { utf8 = tok'.utf8; shorter = let s1 = tok.shorter in let s2 = r.shorter in let s3 = tok'.shorter in omega arith; begins = rw (tok.lexeme_is) refl; reads = λ limit fits. computed_key_there limit tok x.read tok' fits }

-- a key of a class element
pub record IsReadMemberKey (computed : Bool) (k : Term) (a b : Text) : Type 0 where
  pub utf8 : IsUtf8 b
  pub shorter : length b < length a
  pub begins : begins_key_by (lexeme a) ≡ true
  pub reads : (limit : ℕ) → depth k ≤ limit → member_key (read limit) a ≡ Some ((computed, k), b)

private_there : (sub : Goal → Text → Reading Found) {x a b : Text} → Seen (private_name x) a b → member_key sub a ≡ Some ((false, private_of x), b)
unfolding member_key
private_there sub tok = rw (tok.lexeme_is, tok.after_is)

pub private_key_read : {x a b : Text} → Seen (private_name x) a b → IsReadMemberKey false (private_of x) a b
private_key_read tok = record { utf8 = tok.utf8; shorter = tok.shorter; begins = rw (tok.lexeme_is) refl; reads = λ limit fits. private_there (read limit) tok }

-- what is no private name is the key of a property
public_there : (sub : Goal → Text → Reading Found) (a : Text) {k : Key} {b : Text} → key sub a ≡ Some (k, b) → member_key sub a ≡ Some (k, b)
unfolding key member_key
public_there sub a {k} {b} h = go (lexeme a) h
  where
    go : (o : Option Lexeme) → key_by sub o (after a) ≡ Some (k, b) → member_key_by sub o (after a) ≡ Some (k, b)
    go (Some (private_name x)) h = absurd (cc)
    go None h = h
    go (Some (word x)) h = h
    go (Some (sign s)) h = h
    go (Some (number x)) h = h
    go (Some (big_integer x)) h = h
    go (Some (string x v)) h = h
    go (Some (no_substitution x)) h = h
    go (Some (template_head x)) h = h
    go (Some (template_middle x)) h = h
    go (Some (template_tail x)) h = h
    go (Some (regexp x v)) h = h

pub public_key_read : {computed : Bool} {k : Term} {a b : Text} → IsReadKey computed k a b → IsReadMemberKey computed k a b
public_key_read {a = a} x = record { utf8 = x.utf8; shorter = x.shorter; begins = x.begins; reads = λ limit fits. public_there (read limit) a (x.reads limit fits) }
