-- What is spelled as a module is read.
use Rattle.std.proofs.Common.{◌≡◌, ◌≤◌, ◌<◌, ℕ, zero, suc, ◌+◌, Bool, true, false, not, List, [], ◌∷◌, ◌++◌, length, Option, Some, None, refl, sym, ◌∙◌, ap, append_assoc, codes, arith}
use Rattle.std.proofs.lemmas.Bool.{le-leb, and_parts}
use Rattle.std.proofs.lemmas.List.{append-nil}
use Rattle.std.specs.List.{list_all}
use Rattle.js_term.specs.Term.{Text, Term, all, depth, depths}
use Rattle.js_term.specs.Lexeme.{narrow, Lexeme, word, number, string, sign, Token, AtEnd, left_brace, right_brace, left_paren, right_paren, semicolon, equals, is_blank, is_reserved, same_line}
use Rattle.js_term.specs.Node.{named, parameters_of, function_of, const_of, return_of, statement_of, specifier_of, import_declaration_of, export_declaration_of}
use Rattle.js_term.specs.Spells.{Stands, Listed, joined, is_string_literal, Spells}
use Rattle.js_term.specs.Spells as spell
use Rattle.js_lex.specs.Next.{lexeme, sees, same_lexeme}
use Rattle.js_lex.proofs.Laws.{token_found, sees_by, text_is, at_end_lexeme}
use Rattle.js_term.specs.Form.{is_small}
use Rattle.js_read.specs.declared.fault.ReadFault.{ReadFault}
use Rattle.js_read.specs.declared.fault.ReadFault.TheVariants as fault
use Rattle.js_read.specs.Gives.{FailsWhole, Refuses}
use Rattle.js_read.specs.Plain.{is_plain, are_plain}
use Rattle.js_read.proofs.Plain.{small_plain}
use Rattle.js_read.specs.Read.{binding, source, parameters, fits, statements, body, function, constant, declares, declaration, returned, effect, either, statement, renamed, unrenamed, specifier, specifiers, imported, exported, item, items, read_of}
use Rattle.js_read.proofs.Parts.{expect_read, sees_it, sees_other, name_read, binding_read, source_read, no_sign, no_sign_sees, is_end, end_sees, end_goes, ReadsPart, ReadsAll, ReadsUntil, last_all, and_all, until_none, until_some}
use Rattle.js_read.proofs.Complete.{IsRead, begins, begins_no_sign, part, stands_read}

-- ---- parameters

binding_part : {x a b : Text} → is_reserved x ≡ false → Token narrow a (word x) b → ReadsPart binding x a b
binding_part free tok = let f = token_found tok in record { shorter = f.shorter; starts = rw (f.lexeme_is); reads = λ _. binding_read free tok }

names_read : {xs : List Text} {a b : Text} → spell.Names narrow xs a b → ReadsAll binding xs a b
names_read (spell.last_name {x} {a} {b} free tok) = last_all binding x a b (binding_part free tok)
names_read (spell.and_name {x} {xs} {a} {b} {c} {d} free tok more rest) = and_all binding x xs a b c d (binding_part free tok) more (names_read rest)

parameters_until : {xs : List Text} {a b : Text} → spell.Parameters narrow xs a b → ReadsUntil binding 41 xs a b
parameters_until (spell.no_names {a}) = until_none binding 41 a
parameters_until (spell.names {xs} {a} {b} ns) = until_some binding 41 xs a b refl refl (names_read ns)

parameters_read : {xs : List Text} {a b c d : Text} → Token narrow a left_paren b → spell.Parameters narrow xs b c → Token narrow c right_paren d → parameters a ≡ Some (xs, d)
unfolding parameters
parameters_read left inner right = let f = token_found right in rw (expect_read left refl, (parameters_until inner).reads f.lexeme_is, expect_read right refl)

-- ---- statements

pub record IsDeclared (d : Term) (a b : Text) : Type 0 where
  pub shorter : length b < length a
  pub declares_it : declares a ≡ true
  pub starts : no_sign (lexeme a) ≡ true
  pub no_import : sees (word (codes "import")) a ≡ false
  pub no_export : sees (word (codes "export")) a ≡ false
  pub deep : 1 < depth d
  pub reads : (limit : ℕ) → depth d ≤ suc (suc limit) → declaration limit (statement limit) a ≡ Some (d, b)

pub record IsStated (s : Term) (a b : Text) : Type 0 where
  pub shorter : length b < length a
  pub starts : no_sign (lexeme a) ≡ true
  pub no_import : sees (word (codes "import")) a ≡ false
  pub no_export : sees (word (codes "export")) a ≡ false
  pub reads : (limit : ℕ) → depth s ≤ limit → statement limit a ≡ Some (s, b)

pub record AreStated (ss : List Term) (a b : Text) : Type 0 where
  pub short : length b ≤ length a
  pub reads : (limit n : ℕ) (found : List Term) → depths (all ss) ≤ limit → length a ≤ n → 0 < length b → lexeme b ≡ Some right_brace → statements limit (statement limit) n found a ≡ Some (found ++ ss, b)

pub record IsBodied (ss : List Term) (a b : Text) : Type 0 where
  pub shorter : length b < length a
  pub reads : (limit : ℕ) → depths (all ss) ≤ limit → body limit (statement limit) a ≡ Some (ss, b)

constant_reads : {x : Text} {e : Term} {b c d f g : Text} (limit : ℕ) → is_reserved x ≡ false → depth e ≤ limit → Token narrow b (word x) c → Token narrow c equals d → IsRead e d f → Token narrow f semicolon g →
    constant limit (statement limit) b ≡ Some (const_of x e, g)
unfolding constant
constant_reads {f = f} limit free fit id equal inner end =
    let k = token_found end in
    rw (binding_read free id, expect_read equal refl, part inner limit fit (end_goes f (ap is_end k.lexeme_is)), expect_read end refl)

declaration_constant : {a b : Text} {d : Term} {g : Text} (limit : ℕ) → Token narrow a (word (codes "const")) b → constant limit (statement limit) b ≡ Some (d, g) → declaration limit (statement limit) a ≡ Some (d, g)
unfolding declaration
declaration_constant limit tok h = let f = token_found tok in rw (sees_it tok refl, f.after_is, h)

constant_read : {x : Text} {e : Term} {a b c d f g : Text} → is_reserved x ≡ false → Token narrow a (word (codes "const")) b → Token narrow b (word x) c → Token narrow c equals d → IsRead e d f → Token narrow f semicolon g →
    IsDeclared (const_of x e) a g
constant_read free tok id equal inner end =
    let f1 = token_found tok in let f2 = token_found id in let f3 = token_found equal in let f4 = token_found end in
    let s1 = f1.shorter in let s2 = f2.shorter in let s3 = f3.shorter in let s4 = f4.shorter in let s5 = inner.shorter in
    record {
      shorter = omega arith;
      declares_it = rw (sees_it tok refl);
      starts = rw (f1.lexeme_is);
      no_import = sees_other (word (codes "import")) tok refl;
      no_export = sees_other (word (codes "export")) tok refl;
      deep = omega arith;
      reads = λ limit dep. declaration_constant limit tok (constant_reads limit free (omega arith) id equal inner end);
    }

fits_named : (limit : ℕ) (xs : List Text) → depth (parameters_of xs) ≤ suc limit → fits limit xs ≡ true
fits_named limit [] h = refl
fits_named limit (x ∷ xs) h = le-leb 2 limit (omega arith)

function_reads : {x : Text} {xs : List Text} {ss : List Term} {b c d e f g : Text} (limit : ℕ) → is_reserved x ≡ false → depth (parameters_of xs) ≤ suc limit → depths (all ss) ≤ limit →
    Token narrow b (word x) c → Token narrow c left_paren d → spell.Parameters narrow xs d e → Token narrow e right_paren f → IsBodied ss f g → function limit (statement limit) b ≡ Some (function_of x xs (all ss), g)
unfolding function
function_reads {xs = xs} limit free fit fit' id left params right inner =
    rw (binding_read free id, parameters_read left params right, inner.reads limit fit', fits_named limit xs fit)

declaration_function : {a b : Text} {d : Term} {g : Text} (limit : ℕ) → Token narrow a (word (codes "function")) b → function limit (statement limit) b ≡ Some (d, g) → declaration limit (statement limit) a ≡ Some (d, g)
unfolding declaration
declaration_function limit tok h = let f = token_found tok in rw (sees_other (word (codes "const")) tok refl, f.after_is, h)

function_read : {x : Text} {xs : List Text} {ss : List Term} {a b c d e f g : Text} → is_reserved x ≡ false → Token narrow a (word (codes "function")) b → Token narrow b (word x) c → Token narrow c left_paren d →
    spell.Parameters narrow xs d e → Token narrow e right_paren f → IsBodied ss f g → IsDeclared (function_of x xs (all ss)) a g
function_read free tok id left params right inner =
    let f1 = token_found tok in let f2 = token_found id in let f3 = token_found left in let f4 = token_found right in
    let s1 = f1.shorter in let s2 = f2.shorter in let s3 = f3.shorter in let s4 = f4.shorter in let s5 = inner.shorter in
    let s6 = (parameters_until params).short in
    record {
      shorter = omega arith;
      declares_it = rw (sees_other (word (codes "const")) tok refl, sees_it tok refl);
      starts = rw (f1.lexeme_is);
      no_import = sees_other (word (codes "import")) tok refl;
      no_export = sees_other (word (codes "export")) tok refl;
      deep = omega arith;
      reads = λ limit dep. declaration_function limit tok (function_reads limit free (omega arith) (omega arith) id left params right inner);
    }

body_read : {ss : List Term} {a b c d : Text} → Token narrow a left_brace b → AreStated ss b c → Token narrow c right_brace d → IsBodied ss a d
unfolding body
body_read {b = b} left inner right =
    let f = token_found left in let g = token_found right in
    let s1 = f.shorter in let s2 = g.shorter in let s3 = inner.short in
    record {
      shorter = omega arith;
      reads = λ limit dep. rw (expect_read left refl, inner.reads limit (length b) [] dep (omega arith) (omega arith) g.lexeme_is, expect_read right refl);
    }

statements_stop : (n limit : ℕ) (found : List Term) (a : Text) → lexeme a ≡ Some right_brace → statements limit (statement limit) (suc n) found a ≡ Some (found, a)
unfolding statements
statements_stop n limit found a end = rw (sees_by right_brace right_brace a end)

statements_go : (n limit : ℕ) (found : List Term) (s : Term) (a b : Text) → no_sign (lexeme a) ≡ true → statement limit a ≡ Some (s, b) → statements limit (statement limit) (suc n) found a ≡ statements limit (statement limit) n (found ++ s ∷ []) b
unfolding statements
statements_go n limit found s a b starts h = rw (no_sign_sees 125 a starts, h)

no_statements : {a : Text} → AreStated [] a a
no_statements {a} = record { short = omega arith; reads = λ limit n found dep enough some end. go n limit found enough some end }
  where
    go : (n limit : ℕ) (found : List Term) → length a ≤ n → 0 < length a → lexeme a ≡ Some right_brace → statements limit (statement limit) n found a ≡ Some (found ++ [], a)
    go zero limit found enough some end = absurd (omega arith)
    go (suc n) limit found enough some end = statements_stop n limit found a end ∙ ap (λ ss. Some (ss, a)) (sym (append-nil found))

next_statements : {s : Term} {ss : List Term} {a b c : Text} → IsStated s a b → AreStated ss b c → AreStated (s ∷ ss) a c
next_statements {s} {ss} {a} {b} {c} first rest = record {
  short = let s1 = first.shorter in let s2 = rest.short in omega arith;
  reads = λ limit n found dep enough some end. go n limit found dep enough some end;
}
  where
    go : (n limit : ℕ) (found : List Term) → depths (all (s ∷ ss)) ≤ limit → length a ≤ n → 0 < length c → lexeme c ≡ Some right_brace → statements limit (statement limit) n found a ≡ Some (found ++ s ∷ ss, c)
    go zero limit found dep enough some end = absurd (let s1 = first.shorter in omega arith)
    go (suc n) limit found dep enough some end =
        statements_go n limit found s a b first.starts (first.reads limit (omega arith))
        ∙ rest.reads limit n (found ++ s ∷ []) (omega arith) (let s1 = first.shorter in omega arith) some end
        ∙ ap (λ ts. Some (ts, c)) (append_assoc found (s ∷ []) ss)

-- a statement of at most this depth, where it has two levels at least
deep_statement : (limit : ℕ) (s : Term) (a b : Text) → 1 < depth s → depth s ≤ limit → ((l : ℕ) → depth s ≤ suc (suc l) → either l (statement l) a ≡ Some (s, b)) → statement limit a ≡ Some (s, b)
unfolding statement
deep_statement zero s a b deep fit h = absurd (omega arith)
deep_statement (suc zero) s a b deep fit h = absurd (omega arith)
deep_statement (suc (suc limit)) s a b deep fit h = h limit fit

either_declaration : (limit : ℕ) (s : Term) (a b : Text) → declares a ≡ true → declaration limit (statement limit) a ≡ Some (s, b) → either limit (statement limit) a ≡ Some (s, b)
unfolding either
either_declaration limit s a b is h = rw (is, h)

declared_statement : {s : Term} {a b : Text} → IsDeclared s a b → IsStated s a b
declared_statement {s} {a} {b} d = record {
  shorter = d.shorter;
  starts = d.starts;
  no_import = d.no_import;
  no_export = d.no_export;
  reads = λ limit fit. deep_statement limit s a b d.deep fit (λ l dep. either_declaration l s a b d.declares_it (d.reads l dep));
}

constant_plain : (x : Text) (e : Term) → is_plain (const_of x e) ≡ true → is_plain e ≡ true
constant_plain x e p = go (is_plain e) refl p
  where
    go : (b : Bool) → is_plain e ≡ b → is_plain (const_of x e) ≡ true → is_plain e ≡ true
    go true is p = is
    go false is p = absurd (let no : is_plain (const_of x e) ≡ false = rw is refl in cc)

named_plain : (xs : List Text) → are_plain (named xs) ≡ true
named_plain [] = refl
named_plain (x ∷ xs) = named_plain xs

function_plain : (x : Text) (xs : List Text) (ss : List Term) → is_plain (function_of x xs (all ss)) ≡ true → are_plain (all ss) ≡ true
function_plain x xs ss p = go (are_plain (all ss)) refl p
  where
    go : (b : Bool) → are_plain (all ss) ≡ b → is_plain (function_of x xs (all ss)) ≡ true → are_plain (all ss) ≡ true
    go true is p = is
    go false is p = absurd (let no : is_plain (function_of x xs (all ss)) ≡ false = rw (named_plain xs, is) refl in cc)

-- an expression alone, since sequences are not read
data Single : List Term → Text → Text → Type 0 where
  single : {e : Term} {a b : Text} → Stands narrow e a b → Single (e ∷ []) a b

listed_single : {es : List Term} {a b : Text} → Listed narrow es a b → is_plain (joined es) ≡ true → Single es a b
listed_single (spell.last h s) p = single s
listed_single (spell.and h s tok (spell.last h' s')) p = absurd (cc)
listed_single (spell.and h s tok (spell.and h' s' tok' rest)) p = absurd (cc)

returned_reads : {e : Term} {b c d : Text} (limit : ℕ) → same_line b ≡ true → depth e ≤ limit + 1 → IsRead e b c → Token narrow c semicolon d → returned limit (statement limit) b ≡ Some (return_of e, d)
unfolding returned
returned_reads {c = c} limit same fit inner end =
    let k = token_found end in
    rw (same, part inner (limit + 1) fit (end_goes c (ap is_end k.lexeme_is)), expect_read end refl)

either_returned : {e : Term} {a b d : Text} (limit : ℕ) → Token narrow a (word (codes "return")) b → returned limit (statement limit) b ≡ Some (e, d) → either limit (statement limit) a ≡ Some (e, d)
unfolding either
either_returned limit tok h =
    let f = token_found tok in
    rw (sees_other (word (codes "const")) tok refl, sees_other (word (codes "function")) tok refl, sees_it tok refl, f.after_is, h)

return_read : {e : Term} {a b c d : Text} → Token narrow a (word (codes "return")) b → same_line b ≡ true → IsRead e b c → Token narrow c semicolon d → IsStated (return_of e) a d
return_read {e} {a} {b} {c} {d} tok same inner end =
    let f = token_found tok in let g = token_found end in
    let s1 = f.shorter in let s2 = g.shorter in let s3 = inner.shorter in
    let deep = inner.deep in
    record {
      shorter = omega arith;
      starts = rw (f.lexeme_is);
      no_import = sees_other (word (codes "import")) tok refl;
      no_export = sees_other (word (codes "export")) tok refl;
      reads = λ limit fit. deep_statement limit (return_of e) a d (omega arith) fit (λ l dep. either_returned l tok (returned_reads l same (omega arith) inner end));
    }

effect_reads : {e : Term} {a b c : Text} (limit : ℕ) → is_string_literal e ≡ false → depth e ≤ limit + 1 → IsRead e a b → Token narrow b semicolon c → effect limit (statement limit) a ≡ Some (statement_of e, c)
unfolding effect
effect_reads {b = b} limit other fit inner end =
    let k = token_found end in
    rw (part inner (limit + 1) fit (end_goes b (ap is_end k.lexeme_is)), other, expect_read end refl)

begins_sees_by : (y : Text) (o : Option Lexeme) (a : Text) → lexeme a ≡ o → is_reserved y ≡ true → begins o ≡ true → sees (word y) a ≡ false
begins_sees_by y None a is h b = absurd (cc)
begins_sees_by y (Some (number x)) a is h b = sees_by (word y) (number x) a is
begins_sees_by y (Some (string x)) a is h b = sees_by (word y) (string x) a is
begins_sees_by y (Some (sign c)) a is h b = absurd (cc)
begins_sees_by y (Some (word x)) a is h b = go (same_lexeme (word y) (word x)) refl
  where
    go : (t : Bool) → same_lexeme (word y) (word x) ≡ t → sees (word y) a ≡ false
    go false e = sees_by (word y) (word x) a is ∙ e
    go true e = absurd (let same = ap is_reserved (text_is x y e) in let no : not (is_reserved x) ≡ true = b in let yes : is_reserved x ≡ true = same ∙ h in let clash : not true ≡ true = rw yes at no in cc)

begins_sees : (y a : Text) → is_reserved y ≡ true → begins (lexeme a) ≡ true → sees (word y) a ≡ false
begins_sees y a h b = begins_sees_by y (lexeme a) a refl h b

either_effect : {e : Term} {c : Text} (limit : ℕ) (a : Text) → begins (lexeme a) ≡ true → effect limit (statement limit) a ≡ Some (e, c) → either limit (statement limit) a ≡ Some (e, c)
unfolding either
either_effect limit a b h =
    rw (begins_sees (codes "const") a refl b, begins_sees (codes "function") a refl b, begins_sees (codes "return") a refl b, h)

effect_read : {e : Term} {a b c : Text} → is_string_literal e ≡ false → IsRead e a b → Token narrow b semicolon c → IsStated (statement_of e) a c
effect_read {e} {a} {b} {c} other inner end =
    let g = token_found end in
    let s2 = g.shorter in let s3 = inner.shorter in
    let deep = inner.deep in
    record {
      shorter = omega arith;
      starts = begins_no_sign (lexeme a) inner.starts;
      no_import = begins_sees (codes "import") a refl inner.starts;
      no_export = begins_sees (codes "export") a refl inner.starts;
      reads = λ limit fit. deep_statement limit (statement_of e) a c (omega arith) fit (λ l dep. either_effect l a inner.starts (effect_reads l other (omega arith) inner end));
    }

return_single : {es : List Term} {a b c d : Text} → Token narrow a (word (codes "return")) b → same_line b ≡ true → Single es b c → is_plain (joined es) ≡ true → Token narrow c semicolon d → IsStated (return_of (joined es)) a d
return_single tok same (single s) p end = return_read tok same (stands_read s p) end

effect_single : {es : List Term} {a b c : Text} → is_string_literal (joined es) ≡ false → Single es a b → is_plain (joined es) ≡ true → Token narrow b semicolon c → IsStated (statement_of (joined es)) a c
effect_single other (single s) p end = effect_read other (stands_read s p) end

mutual
  declaration_read : {d : Term} {a b : Text} → spell.Declaration narrow d a b → is_plain d ≡ true → IsDeclared d a b
  declaration_read (spell.constant {x} {e} free h tok id equal s end) p = constant_read free tok id equal (stands_read s (constant_plain x e p)) end
  declaration_read (spell.function {x} {xs} {ss} free tok id left params right inner) p = function_read free tok id left params right (body_reads inner (function_plain x xs ss p))

  body_reads : {ss : List Term} {a b : Text} → spell.Body narrow ss a b → are_plain (all ss) ≡ true → IsBodied ss a b
  body_reads (spell.body left inner right) p = body_read left (statements_read inner p) right

  statements_read : {ss : List Term} {a b : Text} → spell.Statements narrow ss a b → are_plain (all ss) ≡ true → AreStated ss a b
  statements_read spell.no_statements p = no_statements
  statements_read (spell.next_statement {s} {ss} first rest) p =
      let (one, more) = and_parts (is_plain s) (are_plain (all ss)) p in
      next_statements (statement_read first one) (statements_read rest more)

  statement_read : {s : Term} {a b : Text} → spell.Statement narrow s a b → is_plain s ≡ true → IsStated s a b
  statement_read (spell.declaration d) p = declared_statement (declaration_read d p)
  statement_read (spell.returns {es} tok same l end) p = let (one, _) = and_parts (is_plain (joined es)) true p in return_single tok same (listed_single l one) one end
  statement_read (spell.expression {es} opens other l end) p = let (one, _) = and_parts (is_plain (joined es)) true p in effect_single other (listed_single l one) one end

-- ---- modules

renamed_reads : {x y a b c d : Text} → is_reserved y ≡ false → Token narrow a (word x) b → Token narrow b (word (codes "as")) c → Token narrow c (word y) d → specifier a ≡ Some (specifier_of x y, d)
unfolding specifier renamed
renamed_reads free tok as' id = let f = token_found as' in rw (name_read tok, sees_it as' refl, f.after_is, binding_read free id)

unrenamed_reads : {x a b : Text} → is_reserved x ≡ false → Token narrow a (word x) b → is_end (lexeme b) ≡ true → specifier a ≡ Some (specifier_of x x, b)
unfolding specifier unrenamed
unrenamed_reads {b = b} free tok end = rw (name_read tok, end_sees (codes "as") b end, free)

specifier_part : {s : Term} {a b : Text} → spell.Specifier narrow s a b → ReadsPart specifier s a b
specifier_part (spell.renamed free tok as' id) =
    let f = token_found tok in let g = token_found as' in let h = token_found id in
    let s1 = f.shorter in let s2 = g.shorter in let s3 = h.shorter in
    record { shorter = omega arith; starts = rw (f.lexeme_is); reads = λ _. renamed_reads free tok as' id }
specifier_part (spell.unrenamed free tok) =
    let f = token_found tok in record { shorter = f.shorter; starts = rw (f.lexeme_is); reads = λ end. unrenamed_reads free tok end }

specifiers_all : {s : Term} {ss : List Term} {a b : Text} → spell.Specifiers narrow (s ∷ ss) a b → ReadsAll specifier (s ∷ ss) a b
specifiers_all (spell.last_specifier {s} {a} {b} x) = last_all specifier s a b (specifier_part x)
specifiers_all (spell.and_specifier {s} {t} {ss} {a} {b} {c} {d} x tok rest) = and_all specifier s (t ∷ ss) a b c d (specifier_part x) tok (specifiers_all rest)

specifiers_until : (ss : List Term) {a b : Text} → spell.Specifiers narrow ss a b → ReadsUntil specifier 125 ss a b
specifiers_until [] (spell.no_specifiers {a}) = until_none specifier 125 a
specifiers_until (s ∷ ss) {a} {b} x = until_some specifier 125 (s ∷ ss) a b refl refl (specifiers_all x)

imported_reads : {ss : List Term} {v b c d e f g h : Text} → Token narrow b left_brace c → spell.Specifiers narrow ss c d → Token narrow d right_brace e → Token narrow e (word (codes "from")) f → Token narrow f (string v) g → Token narrow g semicolon h →
    imported b ≡ Some (import_declaration_of (all ss) v, h)
unfolding imported specifiers
imported_reads {ss} left inner right from source end =
    let k = token_found right in
    rw (expect_read left refl, (specifiers_until ss inner).reads k.lexeme_is, expect_read right refl, expect_read from refl, source_read source, expect_read end refl)

pub record IsItem (s : Term) (a b : Text) : Type 0 where
  pub shorter : length b < length a
  pub starts : no_sign (lexeme a) ≡ true
  pub reads : (limit : ℕ) → depth s ≤ limit + 3 → item limit a ≡ Some (s, b)

item_import : {s : Term} {a b c : Text} (limit : ℕ) → Token narrow a (word (codes "import")) b → imported b ≡ Some (s, c) → item limit a ≡ Some (s, c)
unfolding item
item_import limit tok h = let f = token_found tok in rw (sees_it tok refl, f.after_is, h)

import_read : {ss : List Term} {v a b c d e f g h : Text} → Token narrow a (word (codes "import")) b → Token narrow b left_brace c → spell.Specifiers narrow ss c d → Token narrow d right_brace e → Token narrow e (word (codes "from")) f → Token narrow f (string v) g → Token narrow g semicolon h →
    IsItem (import_declaration_of (all ss) v) a h
import_read {ss} tok left inner right from source end =
    let f1 = token_found tok in let f2 = token_found left in let f3 = token_found right in let f4 = token_found from in let f5 = token_found source in let f6 = token_found end in
    let s1 = f1.shorter in let s2 = f2.shorter in let s3 = f3.shorter in let s4 = f4.shorter in let s5 = f5.shorter in let s6 = f6.shorter in
    let s7 = (specifiers_until ss inner).short in
    record {
      shorter = omega arith;
      starts = rw (f1.lexeme_is);
      reads = λ limit fit. item_import limit tok (imported_reads left inner right from source end);
    }

exported_reads : {d : Term} {b c : Text} (limit : ℕ) → IsDeclared d b c → depth d ≤ suc (suc limit) → exported limit b ≡ Some (export_declaration_of d, c)
unfolding exported
exported_reads limit d fit = rw (d.declares_it, d.reads limit fit)

item_export : {s : Term} {a b c : Text} (limit : ℕ) → Token narrow a (word (codes "export")) b → exported limit b ≡ Some (s, c) → item limit a ≡ Some (s, c)
unfolding item
item_export limit tok h = let f = token_found tok in rw (sees_other (word (codes "import")) tok refl, sees_it tok refl, f.after_is, h)

export_read : {d : Term} {a b c : Text} → Token narrow a (word (codes "export")) b → IsDeclared d b c → IsItem (export_declaration_of d) a c
export_read tok d =
    let f = token_found tok in let s1 = f.shorter in let s2 = d.shorter in
    record { shorter = omega arith; starts = rw (f.lexeme_is); reads = λ limit fit. item_export limit tok (exported_reads limit d (omega arith)) }

item_statement : {s : Term} {a b : Text} (limit : ℕ) → IsStated s a b → depth s ≤ limit + 3 → item limit a ≡ Some (s, b)
unfolding item
item_statement limit s fit = rw (s.no_import, s.no_export, s.reads (limit + 3) fit)

item_read : {s : Term} {a b : Text} → spell.Item narrow s a b → is_plain s ≡ true → IsItem s a b
item_read (spell.statement s) p = let x = statement_read s p in record { shorter = x.shorter; starts = x.starts; reads = λ limit fit. item_statement limit x fit }
item_read (spell.imports tok left inner right from source end) p = import_read tok left inner right from source end
item_read (spell.exports {d} tok s) p = let (one, _) = and_parts (is_plain d) true p in export_read tok (declaration_read s one)

not_end : (a : Text) → no_sign (lexeme a) ≡ true → list_all is_blank a ≡ false
not_end a h = go (list_all is_blank a) refl
  where
    go : (b : Bool) → list_all is_blank a ≡ b → list_all is_blank a ≡ false
    go false e = e
    go true e = absurd (let no = ap no_sign (at_end_lexeme a e) in cc)

items_stop : (n limit : ℕ) (found : List Term) (a : Text) → AtEnd a → items limit n found a ≡ Some (found, a)
unfolding items
items_stop zero limit found a end = rw end
items_stop (suc n) limit found a end = rw end

items_go : (n limit : ℕ) (found : List Term) (s : Term) (a b : Text) → list_all is_blank a ≡ false → item limit a ≡ Some (s, b) → items limit (suc n) found a ≡ items limit n (found ++ s ∷ []) b
unfolding items
items_go n limit found s a b more h = rw (more, h)

pub record AreItems (ss : List Term) (a b : Text) : Type 0 where
  pub reads : AtEnd b → (limit n : ℕ) (found : List Term) → depths (all ss) ≤ limit + 3 → length a ≤ n → items limit n found a ≡ Some (found ++ ss, b)

no_items : {a : Text} → AreItems [] a a
no_items {a} = record { reads = λ end limit n found dep enough. items_stop n limit found a end ∙ ap (λ ss. Some (ss, a)) (sym (append-nil found)) }

next_items : {s : Term} {ss : List Term} {a b c : Text} → IsItem s a b → AreItems ss b c → AreItems (s ∷ ss) a c
next_items {s} {ss} {a} {b} {c} first rest = record { reads = λ end limit n found dep enough. go n limit found end dep enough }
  where
    go : (n limit : ℕ) (found : List Term) → AtEnd c → depths (all (s ∷ ss)) ≤ limit + 3 → length a ≤ n → items limit n found a ≡ Some (found ++ s ∷ ss, c)
    go zero limit found end dep enough = absurd (let s1 = first.shorter in omega arith)
    go (suc n) limit found end dep enough =
        items_go n limit found s a b (not_end a first.starts) (first.reads limit (omega arith))
        ∙ rest.reads end limit n (found ++ s ∷ []) (omega arith) (let s1 = first.shorter in omega arith)
        ∙ ap (λ ts. Some (ts, c)) (append_assoc found (s ∷ []) ss)

items_read : {ss : List Term} {a b : Text} → spell.Items narrow ss a b → are_plain (all ss) ≡ true → AreItems ss a b
items_read spell.no_more_items p = no_items
items_read (spell.next_item {s} {ss} first rest) p =
    let (one, more) = and_parts (is_plain s) (are_plain (all ss)) p in
    next_items (item_read first one) (items_read rest more)

-- What is spelled is read.
pub spelled_read : {a : Text} {t : Term} → Spells narrow a t → is_plain t ≡ true → depth t ≤ 512 → read_of a ≡ Some t
unfolding read_of
spelled_read (spell.spells {ss} {a} {b} ss' end) p dep =
    let (one, _) = and_parts (are_plain (all ss)) true p in
    rw ((items_read ss' one).reads end 508 (length a) [] (omega arith) (omega arith))

some_same : (o : Option Term) (t u : Term) → o ≡ Some t → o ≡ Some u → t ≡ u
some_same o t u e e' = cc

-- at most one small tree is spelled by a text
pub small_read : {a : Text} {t : Term} → Spells narrow a t → is_small t ≡ true → depth t ≤ 512 → read_of a ≡ Some t
small_read {t = t} h small dep = spelled_read h (small_plain t small) dep

pub small_unique : {a : Text} {t u : Term} → Spells narrow a t → is_small t ≡ true → depth t ≤ 512 → read_of a ≡ Some u → t ≡ u
small_unique {a} {t} {u} h small dep is = some_same (read_of a) t u (small_read h small dep) is

-- where nothing is read, no small tree is spelled
pub unread : (a : Text) (e : ReadFault) → FailsWhole e (read_of a) → Refuses a e
unread a fault.NoMemory h = tt
unread a (fault.Unread at) h = λ t s small dep. let is = small_read s small dep in cc

-- nor where what is read is not small
pub unread_large : (a : Text) (u : Term) → read_of a ≡ Some u → is_small u ≡ false → (t : Term) → Spells narrow a t → is_small t ≡ true → depth t ≤ 512 → ⊥
unread_large a u is large t s small dep = let same = small_unique s small dep is in let both = ap is_small same in cc
