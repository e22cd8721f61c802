-- Statements that are an expression, and statements behind a label, are read.
use Rattle.std.proofs.Common.{◌≡◌, ◌≤◌, ℕ, Bool, true, false, not, ◌&&◌, ◌||◌, Option, Some, None, refl, sym, ◌∙◌, ap, arith, codes, []}
use Rattle.std.specs.Str.{IsUtf8}
use Rattle.std.proofs.lemmas.Bool.{false≢true, and_left, and_right, or_parts, or_from, not-true, and_parts}
use Rattle.js_term.specs.Term.{Text, Term, depth}
use Rattle.js_term.specs.declared.kind.Kind.{Kind}
use Rattle.js_term.specs.Lexeme.{is_reserved}
use Rattle.js_term.specs.Node.{identifier_of, statement_of}
use Rattle.js_syntax.specs.Nodes.{of_parts, label_of}
use Rattle.js_syntax.specs.Printable.{ends_open}
use Rattle.js_syntax.specs.Tokens.{Lexeme, word, private_name, number, big_integer, string, regexp, no_substitution, template_head, template_middle, template_tail, sign}
use Rattle.js_syntax.specs.Edges.{Edge, edge, begins_with_brace, begins_with_definition}
use Rattle.js_syntax.specs.Spelling.{Semicolon}
use Rattle.js_tokens.specs.Next.{lexeme, after}
use Rattle.js_reading.specs.declared.goal.Goal.{Goal}
use Rattle.js_reading.specs.Reading.{Found, Reading, either, sees, sees_word, same_line, at_end, left_out}
use Rattle.js_reading.specs.Statements.{begins_async_function, effect, labeled, plain_statement, word_statement, statement_by, statement}
use Rattle.js_reading.specs.Read.{read}
use Rattle.js_reading.proofs.Each.{there}
use Rattle.js_reading.proofs.TokensThere.{Seen, see_word, sees_by, sees_word_by}
use Rattle.js_reading.proofs.TokensEnd.{Ended, by_sign, by_stop, ended, end_none, lexeme_sees, semicolon_utf8, semicolon_short, lexeme_sees_word}
use Rattle.js_reading.proofs.Opens.{begins, begins_definition, Opens, no_sign_there, word_among}
use Rattle.js_reading.proofs.Joining.{Joined, no_definition_there}
use Rattle.js_reading.proofs.Lists.{ending_end, sees_sign}
use Rattle.js_reading.proofs.Follows.{either_case}
use Rattle.js_reading.proofs.Leaves.{not_text, identifier_read}
use Rattle.js_reading.proofs.Listings.{stands, IsReadExpression, single_read, expression_before}
use Rattle.js_reading.proofs.Ending.{Behind, behind_semicolon}
use Rattle.js_reading.proofs.Jumping.{ended_expression}
use Rattle.js_reading.proofs.StatementStarts.{begins_starts, Follows, semicolon_follows, IsReadStatement, word_there}
use Rattle.js_reading.proofs.StatementsThere.{IsReadEmbedded, embedded_reads}

-- ---- no label stands in front of an expression

-- a name alone is an expression
name_begins : {x a b : Text} → is_reserved x ≡ false → Seen (word x) a b → begins (lexeme a) ≡ true
name_begins free tok = ap begins tok.lexeme_is ∙ rw free refl

name_alone : {x a b : Text} → is_reserved x ≡ false → Seen (word x) a b → IsReadExpression true (identifier_of x) a b
name_alone free tok = single_read (stands (identifier_read free tok) tok.utf8) (name_begins free tok)

rest_in : Reading Term → Text
rest_in r = either r [] (λ _ b. b)

-- Before a colon it is all that is read.
colon_behind : {e : Term} {x a b m : Text} → IsReadExpression true e a b → Behind (edge e) b → is_reserved x ≡ false → Seen (word x) a m → sees (codes ":") m ≡ true → m ≡ b
unfolding rest_in
colon_behind {e} {m = m} r k free tok colon =
    let s = r.deep in
    let is = sees_sign (codes ":") m colon in
    ap rest_in (sym (expression_before (name_alone free tok) (depth e) (omega arith) (ending_end (codes ":") m refl colon) (lexeme_sees (codes ",") m _ is)) ∙ r.reads (depth e) (omega arith) k.keeps k.no_comma)

no_colon_behind : {e : Term} {x a b m : Text} → IsReadExpression true e a b → Behind (edge e) b → is_reserved x ≡ false → Seen (word x) a m → sees (codes ":") b ≡ false → sees (codes ":") m ≡ false
no_colon_behind {m = m} r k free tok h = go (sees (codes ":") m) refl
  where
    go : (v : Bool) → sees (codes ":") m ≡ v → sees (codes ":") m ≡ false
    go false is = is
    go true is = absurd (false≢true (sym h ∙ sym (ap (sees (codes ":")) (colon_behind r k free tok is)) ∙ is))

-- whether a name and a colon stand in front
abbrev labels : Option Lexeme → Text → Bool
labels (Some (word x)) b = not (is_reserved x) && sees (codes ":") b
labels o b = false

-- ---- a statement that begins with no word of its own

plain_there : (sub : Goal → Text → Reading Found) {x a b : Text} → begins (lexeme a) ≡ true → Seen (word x) a b → begins_definition a ≡ false → word_statement sub x a ≡ plain_statement sub x a
unfolding word_statement
plain_there sub {x} {a} h tok calm =
    let starts : begins (Some (word x)) ≡ true = sym (ap begins tok.lexeme_is) ∙ h in
    let (function, rest) = or_parts (sees_word (codes "function") a) _ calm in
    let (class, async) = or_parts (sees_word (codes "class") a) _ rest in
    rw (
      word_among (codes "var") (Some (word x)) starts refl,
      word_among (codes "let") (Some (word x)) starts refl,
      word_among (codes "const") (Some (word x)) starts refl,
      sym (sees_word_by (codes "function") tok) ∙ function,
      ap (λ k. k && begins_async_function (after a)) (sym (sees_word_by (codes "async") tok)) ∙ async,
      sym (sees_word_by (codes "class") tok) ∙ class,
      word_among (codes "return") (Some (word x)) starts refl,
      word_among (codes "throw") (Some (word x)) starts refl,
      word_among (codes "if") (Some (word x)) starts refl,
      word_among (codes "switch") (Some (word x)) starts refl,
      word_among (codes "try") (Some (word x)) starts refl,
      word_among (codes "do") (Some (word x)) starts refl,
      word_among (codes "while") (Some (word x)) starts refl,
      word_among (codes "for") (Some (word x)) starts refl,
      word_among (codes "continue") (Some (word x)) starts refl,
      word_among (codes "break") (Some (word x)) starts refl,
      word_among (codes "debugger") (Some (word x)) starts refl,
    )

plain_effect : (sub : Goal → Text → Reading Found) (x a : Text) → (not (is_reserved x) && sees (codes ":") (after a)) ≡ false → plain_statement sub x a ≡ effect sub a
unfolding plain_statement
plain_effect sub x a h = rw h

effect_by : (sub : Goal → Text → Reading Found) (a : Text) (o : Option Lexeme) → IsUtf8 a → lexeme a ≡ o → begins (lexeme a) ≡ true → sees (codes "{") a ≡ false → begins_definition a ≡ false → labels o (after a) ≡ false → statement_by sub o a ≡ effect sub a
effect_by sub a (Some (word x)) u is h brace calm label = let t = there a u (word x) is in plain_there sub h (see_word t.token u) calm ∙ plain_effect sub x a label
effect_by sub a (Some (sign s)) u is h brace calm label = rw (sym (lexeme_sees (codes "{") a _ is) ∙ brace, sym (lexeme_sees (codes ";") a _ is) ∙ no_sign_there (codes ";") a h refl)
effect_by sub a None u is h brace calm label = refl
effect_by sub a (Some (private_name x)) u is h brace calm label = refl
effect_by sub a (Some (number x)) u is h brace calm label = refl
effect_by sub a (Some (big_integer x)) u is h brace calm label = refl
effect_by sub a (Some (string x v)) u is h brace calm label = refl
effect_by sub a (Some (regexp x v)) u is h brace calm label = refl
effect_by sub a (Some (no_substitution x)) u is h brace calm label = refl
effect_by sub a (Some (template_head x)) u is h brace calm label = refl
effect_by sub a (Some (template_middle x)) u is h brace calm label = refl
effect_by sub a (Some (template_tail x)) u is h brace calm label = refl

effect_there : (sub : Goal → Text → Reading Found) (a : Text) → IsUtf8 a → begins (lexeme a) ≡ true → sees (codes "{") a ≡ false → begins_definition a ≡ false → labels (lexeme a) (after a) ≡ false → statement sub a ≡ effect sub a
unfolding statement
effect_there sub a u h brace calm label = effect_by sub a (lexeme a) u refl h brace calm label

-- ---- an expression

-- no `function` stands behind an expression that ends a statement
no_function_behind : {x : Edge} {b c : Text} → Ended x b c → begins_async_function b ≡ false
unfolding begins_async_function left_out
no_function_behind {b = b} (by_sign t) = and_right (same_line b) _ (sees_word_by (codes "function") t)
no_function_behind {b = b} (by_stop same st) = either_case (sees (codes "}") b || at_end b) _ st.left
    (λ h. either_case (sees (codes "}") b) (at_end b) h
    (λ is. and_right (same_line b) _ (lexeme_sees_word (codes "function") b _ (sees_sign (codes "}") b is)))
    (λ is. and_right (same_line b) _ (lexeme_sees_word (codes "function") b _ (end_none b is))))
    (λ h. let (line, on) = and_parts (not (same_line b)) _ h in and_left (same_line b) _ (not-true _ line))

no_labels : {e : Term} {a b : Text} (o : Option Lexeme) → IsUtf8 a → lexeme a ≡ o → IsReadExpression true e a b → Behind (edge e) b → sees (codes ":") b ≡ false → labels o (after a) ≡ false
no_labels {a = a} (Some (word x)) u is r k h = go (is_reserved x) refl
  where
    go : (v : Bool) → is_reserved x ≡ v → (not (is_reserved x) && sees (codes ":") (after a)) ≡ false
    go true e = rw e refl
    go false e = let t = there a u (word x) is in and_right (not (is_reserved x)) _ (no_colon_behind r k e (see_word t.token u) h)
no_labels None u is r k h = refl
no_labels (Some l) u is r k h = refl

effect_reads : {e : Term} {a b c : Text} (limit : ℕ) → begins_with_brace e || begins_with_definition e ≡ false → IsUtf8 a → Opens e a → Joined e a b → IsReadExpression true e a b → Semicolon (edge e) b c → depth e ≤ limit → Follows c → statement (read limit) a ≡ Some (statement_of e, c)
unfolding effect
effect_reads {e} {a} {b} limit plain u opens joined r end fits w =
    let (brace, definition) = or_parts (begins_with_brace e) _ plain in
    let is = opens.brace in
    let v = r.utf8 in
    let k = behind_semicolon v r.ends (ended end v) in
    let f = semicolon_follows end v w in
    effect_there (read limit) a u opens.starts (sym is ∙ brace) (no_definition_there joined definition (no_function_behind (ended end v))) (no_labels (lexeme a) u refl r k f.no_colon)
    ∙ rw (ended_expression r end limit fits)

pub effect_read : {e : Term} {a b c : Text} → begins_with_brace e || begins_with_definition e ≡ false → IsUtf8 a → Opens e a → Joined e a b → IsReadExpression true e a b → Semicolon (edge e) b c → IsReadStatement (statement_of e) a c
effect_read {a = a} plain u opens joined r end = record {
  utf8 = semicolon_utf8 end r.utf8;
  shorter = let s = r.shorter in let k = semicolon_short end r.utf8 in omega arith;
  begun = begins_starts (lexeme a) opens.starts;
  deep = omega arith;
  reads = λ limit fits w h. effect_reads limit plain u opens joined r end (omega arith) w;
}

-- ---- a label

label_begins : {x a b c : Text} → is_reserved x ≡ false → Seen (word x) a b → Seen (sign (codes ":")) b c → begins_definition a ≡ false
unfolding begins_async_function
label_begins {x} {a} {b} free tok colon = or_from _ _ (sees_word_by (codes "function") tok ∙ not_text x (codes "function") free refl) (or_from _ _ (sees_word_by (codes "class") tok ∙ not_text x (codes "class") free refl) (and_right (sees_word (codes "async") a) _ (rw tok.after_is (and_right (same_line b) _ (sees_word_by (codes "function") colon)))))

labeled_reads : {x : Text} {s : Term} {a b c d : Text} (limit : ℕ) → is_reserved x ≡ false → Seen (word x) a b → Seen (sign (codes ":")) b c → IsReadEmbedded s c d → depth s ≤ limit → Follows d → (sees_word (codes "else") d && ends_open s) ≡ false → statement (read limit) a ≡ Some (of_parts Kind.LabeledStatement (label_of x) s, d)
unfolding plain_statement labeled
labeled_reads limit free tok colon y fits w h =
    word_there (read limit) tok ∙ plain_there (read limit) (name_begins free tok) tok (label_begins free tok colon)
    ∙ rw (free, tok.after_is, sees_by (codes ":") colon, colon.after_is, embedded_reads limit y fits w h)

pub labeled_read : {x : Text} {s : Term} {a b c d : Text} → is_reserved x ≡ false → Seen (word x) a b → Seen (sign (codes ":")) b c → IsReadEmbedded s c d → IsReadStatement (of_parts Kind.LabeledStatement (label_of x) s) a d
labeled_read {a = a} free tok colon y = let r = y.read in record {
  utf8 = r.utf8;
  shorter = let s1 = tok.shorter in let s2 = colon.shorter in let s3 = r.shorter in omega arith;
  begun = begins_starts (lexeme a) (name_begins free tok);
  deep = omega arith;
  reads = λ limit fits w h. labeled_reads limit free tok colon y (omega arith) w h;
}
