-- Statements that end with a semicolon, and are no declaration and no expression alone, are read.
use Rattle.std.proofs.Common.{◌≡◌, ◌≤◌, ◌<◌, ℕ, true, false, length, Some, refl, arith, codes, ap, ◌∙◌}
use Rattle.std.specs.Str.{IsUtf8}
use Rattle.js_term.specs.Term.{Text, Term, absent, depth}
use Rattle.js_term.specs.Lexeme.{is_reserved}
use Rattle.js_term.specs.declared.kind.Kind.{Kind}
use Rattle.js_term.specs.Node.{return_of}
use Rattle.js_syntax.specs.Nodes.{alone, of_part, label_of}
use Rattle.js_syntax.specs.Tokens.{word, sign}
use Rattle.js_syntax.specs.Edges.{plain, edge}
use Rattle.js_syntax.specs.Spelling.{Semicolon, Label}
use Rattle.js_syntax.specs.Spelling as spell
use Rattle.js_tokens.specs.Next.{lexeme, after}
use Rattle.js_reading.specs.declared.goal.Goal.{Goal}
use Rattle.js_reading.specs.Reading.{Found, Reading, same_line, left_out}
use Rattle.js_reading.specs.Statements.{ends_here, ended, return_statement, throw_statement, label, jump, word_statement, statement}
use Rattle.js_reading.specs.Read.{read}
use Rattle.js_reading.proofs.TokensThere.{Seen, see_word, sees_by, on_line, binding_read}
use Rattle.js_reading.proofs.TokensEnd.{Ended, by_sign, by_stop, Stops, seen_not_end, semicolon_read, semicolon_utf8, semicolon_short}
use Rattle.js_reading.proofs.TokensEnd as semi
use Rattle.js_reading.proofs.Opens.{begins, no_sign_there}
use Rattle.js_reading.proofs.Listings.{IsReadExpression}
use Rattle.js_reading.proofs.Ending.{before_semicolon}
use Rattle.js_reading.proofs.StatementStarts.{starts, begins_starts, starts_no_sign, starts_no_end, IsReadStatement, word_read}

-- ---- statements without parts

empty_there : (sub : Goal → Text → Reading Found) {a b : Text} → Seen (sign (codes ";")) a b → statement sub a ≡ Some (alone Kind.EmptyStatement, b)
unfolding statement
empty_there sub t = rw (t.lexeme_is, t.after_is)

pub empty_read : {a b : Text} → Seen (sign (codes ";")) a b → IsReadStatement (alone Kind.EmptyStatement) a b
empty_read t = record { utf8 = t.utf8; shorter = t.shorter; begun = ap starts t.lexeme_is; deep = omega arith; reads = λ limit fits w h. empty_there (read limit) t }

debugger_there : (sub : Goal → Text → Reading Found) {a b c : Text} → Seen (word (codes "debugger")) a b → Semicolon plain b c → word_statement sub (codes "debugger") a ≡ Some (alone Kind.DebuggerStatement, c)
unfolding word_statement
debugger_there sub t end = rw (t.after_is, semicolon_read end t.utf8)

pub debugger_read : {a b c : Text} → Seen (word (codes "debugger")) a b → Semicolon plain b c → IsReadStatement (alone Kind.DebuggerStatement) a c
debugger_read t end = word_read t refl (omega arith) (semicolon_utf8 end t.utf8) (semicolon_short end t.utf8) (λ limit fits. debugger_there (read limit) t end)

-- ---- what may stand bare

ended_here : {a b : Text} → Ended plain a b → ends_here a ≡ true
unfolding ends_here
ended_here (by_sign x) = rw (sees_by (codes ";") x) refl
ended_here (by_stop same s) = let h = s.no_semicolon in let h' = s.left in rw (h, h') refl

bare_return_there : (sub : Goal → Text → Reading Found) {a b c : Text} → Seen (word (codes "return")) a b → Semicolon plain b c → word_statement sub (codes "return") a ≡ Some (return_of absent, c)
unfolding word_statement return_statement
bare_return_there sub t end = rw (t.after_is, ended_here (semi.ended end t.utf8), semicolon_read end t.utf8)

pub bare_return_read : {a b c : Text} → Seen (word (codes "return")) a b → Semicolon plain b c → IsReadStatement (return_of absent) a c
bare_return_read t end = word_read t refl (omega arith) (semicolon_utf8 end t.utf8) (semicolon_short end t.utf8) (λ limit fits. bare_return_there (read limit) t end)

-- the label of a `break` or a `continue`, or none, and the semicolon
bare_jump : (sub : Goal → Text → Reading Found) (k : Kind) {a b : Text} → IsUtf8 a → Semicolon plain a b → jump sub k a ≡ Some (of_part k absent, b)
unfolding jump label
bare_jump sub k u end = rw (ended_here (semi.ended end u), semicolon_read end u)

name_goes_on : {x a b : Text} → same_line a ≡ true → Seen (word x) a b → ends_here a ≡ false
unfolding ends_here left_out
name_goes_on line x = rw (sees_by (codes ";") x, sees_by (codes "}") x, seen_not_end x, line) refl

labelled_jump : (sub : Goal → Text → Reading Found) (k : Kind) {x a b c : Text} → is_reserved x ≡ false → same_line a ≡ true → Seen (word x) a b → Semicolon plain b c → jump sub k a ≡ Some (of_part k (label_of x), c)
unfolding jump label
labelled_jump sub k free line x end = rw (name_goes_on line x, binding_read free x, semicolon_read end x.utf8)

jump_there : (sub : Goal → Text → Reading Found) (k : Kind) {l : Term} {a b c : Text} → IsUtf8 a → Label l a b → Semicolon plain b c → jump sub k a ≡ Some (of_part k l, c)
jump_there sub k u spell.no_label end = bare_jump sub k u end
jump_there sub k {a = a} u (spell.a_label free line tok) end = labelled_jump sub k free (on_line a line) (see_word tok u) end

label_utf8 : {l : Term} {a b : Text} → IsUtf8 a → Label l a b → IsUtf8 b
label_utf8 u spell.no_label = u
label_utf8 u (spell.a_label free line tok) = let x = see_word tok u in x.utf8

label_short : {l : Term} {a b : Text} → IsUtf8 a → Label l a b → length b ≤ length a
label_short u spell.no_label = omega arith
label_short u (spell.a_label free line tok) = let x = see_word tok u in let s = x.shorter in omega arith

jump_read : {k : Kind} {x : Text} {l : Term} {a b c d : Text} → Seen (word x) a b → starts (Some (word x)) ≡ true → ((sub : Goal → Text → Reading Found) → word_statement sub x a ≡ jump sub k (after a)) → Label l b c → Semicolon plain c d → IsReadStatement (of_part k l) a d
jump_read {k} t begun by l end = let u = label_utf8 t.utf8 l in
    word_read t begun (omega arith) (semicolon_utf8 end u) (let s = label_short t.utf8 l in let s' = semicolon_short end u in omega arith) (λ limit fits. by (read limit) ∙ rw (t.after_is) (jump_there (read limit) k t.utf8 l end))

pub break_read : {l : Term} {a b c d : Text} → Seen (word (codes "break")) a b → Label l b c → Semicolon plain c d → IsReadStatement (of_part Kind.BreakStatement l) a d
unfolding word_statement
break_read t l end = jump_read t refl (λ sub. refl) l end

pub continue_read : {l : Term} {a b c d : Text} → Seen (word (codes "continue")) a b → Label l b c → Semicolon plain c d → IsReadStatement (of_part Kind.ContinueStatement l) a d
unfolding word_statement
continue_read t l end = jump_read t refl (λ sub. refl) l end

-- ---- what ends with an expression

-- an expression and its semicolon
pub ended_expression : {e : Term} {a b c : Text} → IsReadExpression true e a b → Semicolon (edge e) b c → (limit : ℕ) → depth e ≤ limit → ended (read limit) a ≡ Some (e, c)
unfolding ended
ended_expression r end limit fits = rw (before_semicolon r end limit fits, semicolon_read end r.utf8)

pub record IsReadEnding (e : Term) (a c : Text) : Type 0 where
  pub utf8 : IsUtf8 c
  pub shorter : length c < length a
  pub deep : 0 < depth e
  pub begun : begins (lexeme a) ≡ true
  pub reads : (limit : ℕ) → depth e ≤ limit → ended (read limit) a ≡ Some (e, c)

pub ending_read : {e : Term} {a b c : Text} → begins (lexeme a) ≡ true → IsReadExpression true e a b → Semicolon (edge e) b c → IsReadEnding e a c
ending_read begun x end = record {
  utf8 = semicolon_utf8 end x.utf8;
  shorter = let s = x.shorter in let k = semicolon_short end x.utf8 in omega arith;
  deep = x.deep;
  begun = begun;
  reads = λ limit fits. ended_expression x end limit fits;
}

-- an operand of `return` stands on its line
operand_here : (b : Text) → begins (lexeme b) ≡ true → same_line b ≡ true → ends_here b ≡ false
unfolding ends_here left_out
operand_here b h line =
    let s = begins_starts (lexeme b) h in
    rw (no_sign_there (codes ";") b h refl, starts_no_sign (codes "}") b s refl, starts_no_end b s, line) refl

return_there : {e : Term} {a b c : Text} (limit : ℕ) → Seen (word (codes "return")) a b → same_line b ≡ true → IsReadEnding e b c → depth e ≤ limit → word_statement (read limit) (codes "return") a ≡ Some (return_of e, c)
unfolding word_statement return_statement
return_there {b = b} limit t line x fits = rw (t.after_is, operand_here b x.begun line, x.reads limit fits)

pub return_read : {e : Term} {a b c : Text} → Seen (word (codes "return")) a b → same_line b ≡ true → IsReadEnding e b c → IsReadStatement (return_of e) a c
return_read t line x = word_read t refl (omega arith) x.utf8 (let s = x.shorter in omega arith) (λ limit fits. return_there limit t line x (omega arith))

throw_there : {e : Term} {a b c : Text} (limit : ℕ) → Seen (word (codes "throw")) a b → same_line b ≡ true → IsReadEnding e b c → depth e ≤ limit → word_statement (read limit) (codes "throw") a ≡ Some (of_part Kind.ThrowStatement e, c)
unfolding word_statement throw_statement
throw_there limit t line x fits = rw (t.after_is, line, x.reads limit fits)

pub throw_read : {e : Term} {a b c : Text} → Seen (word (codes "throw")) a b → same_line b ≡ true → IsReadEnding e b c → IsReadStatement (of_part Kind.ThrowStatement e) a c
throw_read t line x = word_read t refl (omega arith) x.utf8 (let s = x.shorter in omega arith) (λ limit fits. throw_there limit t line x (omega arith))
