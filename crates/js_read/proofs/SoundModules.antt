-- What is read of a module is spelled.
use Rattle.std.proofs.Common.{◌≡◌, ◌≤◌, ℕ, zero, suc, ◌+◌, Bool, true, false, ◌||◌, List, [], ◌∷◌, ◌++◌, length, Option, Some, None, refl, sym, ◌∙◌, append_assoc, codes, arith}
use Rattle.std.proofs.lemmas.Bool.{leb-true}
use Rattle.std.proofs.lemmas.List.{append-nil}
use Rattle.std.specs.List.{list_all}
use Rattle.js_term.specs.Term.{Text, Term, all, depth, depths}
use Rattle.js_term.specs.Lexeme.{narrow, Lexeme, word, number, string, sign, Token, AtEnd, left_brace, right_brace, left_paren, right_paren, semicolon, equals, is_blank, is_reserved, same_line}
use Rattle.js_term.specs.Node.{named, parameters_of, program_of}
use Rattle.js_term.specs.Spells.{is_string_literal, Spells}
use Rattle.js_term.specs.Spells as spell
use Rattle.js_lex.specs.Next.{lexeme, after, sees}
use Rattle.js_lex.proofs.Laws.{token_there, seen}
use Rattle.js_read.specs.Read.{Reading, binding, source, source_by, parameters, fits, statements, body, function, constant, declares, declaration, returned, effect, either, statement, renamed, unrenamed, specifier, specifiers, imported, exported, item, items, program_by, read_of}
use Rattle.js_read.proofs.Each.{Each, each_none, each_some, each_bind, each_weaker, each_if, expect_each, Chain, Chains, one, next, nothing, some, until_each}
use Rattle.js_read.proofs.Sound.{read_each, name_each, high_deep}

-- a name that is not reserved
pub record IsBinding (x a b : Text) : Type 0 where
  pub free : is_reserved x ≡ false
  pub token : Token narrow a (word x) b

pub binding_each : (a : Text) → Each (λ x b. IsBinding x a b) (binding a)
unfolding binding
binding_each a = each_bind _ (name_each a) (λ x b tok. each_if (is_reserved x) _ _ (λ _. each_none) (λ free. each_some x b (record { free = free; token = tok })))

source_each : (a : Text) → Each (λ v b. Token narrow a (string v) b) (source a)
unfolding source
source_each a = go (lexeme a) refl
  where
    go : (o : Option Lexeme) → lexeme a ≡ o → Each (λ v b. Token narrow a (string v) b) (source_by o (after a))
    go None is = each_none
    go (Some (word x)) is = each_none
    go (Some (number x)) is = each_none
    go (Some (string v)) is = each_some v (after a) (token_there a (string v) is)
    go (Some (sign c)) is = each_none

-- ---- parameters

chain_names : {xs : List Text} {a b : Text} → Chain IsBinding xs a b → spell.Names narrow xs a b
chain_names (one i) = spell.last_name i.free i.token
chain_names (next i tok rest) = spell.and_name i.free i.token tok (chain_names rest)

chains_parameters : {xs : List Text} {a b : Text} → Chains IsBinding xs a b → spell.Parameters narrow xs a b
chains_parameters nothing = spell.no_names
chains_parameters (some c) = spell.names (chain_names c)

pub record Parenthesized (xs : List Text) (a d : Text) : Type 0 where
  pub inner : Text
  pub outer : Text
  pub left : Token narrow a left_paren inner
  pub names : spell.Parameters narrow xs inner outer
  pub right : Token narrow outer right_paren d

parameters_each : (a : Text) → Each (λ xs d. Parenthesized xs a d) (parameters a)
unfolding parameters
parameters_each a =
    each_bind _ (expect_each left_paren a) (λ _ b left.
    each_bind _ (until_each IsBinding binding binding_each right_paren b) (λ xs c names.
    each_bind _ (expect_each right_paren c) (λ _ d right.
    each_some _ _ (record { inner = b; outer = c; left = left; names = chains_parameters names; right = right }))))

named_flat : (xs : List Text) → depths (named xs) ≤ 2
named_flat [] = omega arith
named_flat (x ∷ xs) = let h = named_flat xs in omega arith

pub parameters_flat : (limit : ℕ) (xs : List Text) → fits limit xs ≡ true → depth (parameters_of xs) ≤ limit + 1
parameters_flat limit [] h = omega arith
parameters_flat limit (x ∷ xs) h = let n = named_flat (x ∷ xs) in let k = leb-true 2 limit h in omega arith

-- ---- statements

-- what reading a statement, a declaration or an item gives
pub record Reads (P : Term → Text → Text → Type 0) (limit : ℕ) (s : Term) (a b : Text) : Type 0 where
  pub spelled : P s a b
  pub flat : depth s ≤ limit

abbrev pub IsStatement : ℕ → Term → Text → Text → Type 0
IsStatement = Reads (spell.Statement narrow)

abbrev pub IsDeclaration : ℕ → Term → Text → Text → Type 0
IsDeclaration = Reads (spell.Declaration narrow)

abbrev pub IsItem : ℕ → Term → Text → Text → Type 0
IsItem = Reads (spell.Item narrow)

pub record AreStatements (limit : ℕ) (found ss : List Term) (a b : Text) : Type 0 where
  pub new : List Term
  pub whole : ss ≡ found ++ new
  pub spelled : spell.Statements narrow new a b
  pub flat : depths (all new) ≤ limit

pub record IsBody (limit : ℕ) (ss : List Term) (a b : Text) : Type 0 where
  pub spelled : spell.Body narrow ss a b
  pub flat : depths (all ss) ≤ limit

or_right : (b c : Bool) → (b || c) ≡ true → b ≡ false → c ≡ true
or_right true c h e = absurd (cc)
or_right false c h e = h

module _ (limit : ℕ) (part : Text → Reading Term) (sub : (a : Text) → Each (λ s b. IsStatement limit s a b) (part a)) where
  statements_each : (n : ℕ) (found : List Term) (a : Text) → Each (λ ss b. AreStatements limit found ss a b) (statements limit part n found a)
  unfolding statements
  statements_each zero found a = each_none
  statements_each (suc n) found a = each_if (sees right_brace a) _ _
      (λ _. each_some _ _ (record { new = []; whole = sym (append-nil found); spelled = spell.no_statements; flat = omega arith }))
      (λ _. each_bind _ (sub a) (λ s b first. each_weaker (statements_each n (found ++ s ∷ []) b) (λ ss c rest. record {
        new = s ∷ rest.new;
        whole = rest.whole ∙ append_assoc found (s ∷ []) rest.new;
        spelled = spell.next_statement first.spelled rest.spelled;
        flat = let f = first.flat in let g = rest.flat in omega arith;
      })))

  body_each : (a : Text) → Each (λ ss d. IsBody limit ss a d) (body limit part a)
  unfolding body
  body_each a =
      each_bind _ (expect_each left_brace a) (λ _ b left.
      each_bind _ (statements_each (length b) [] b) (λ ss c inner.
      each_bind _ (expect_each right_brace c) (λ _ d right.
      each_some _ _ (record { spelled = spell.body left (rw inner.whole inner.spelled) right; flat = rw inner.whole inner.flat }))))

  function_each : (a b : Text) → Token narrow a (word (codes "function")) b → Each (λ d f. IsDeclaration (suc (suc limit)) d a f) (function limit part b)
  unfolding function
  function_each a b tok =
      each_bind _ (binding_each b) (λ x c id.
      each_bind _ (parameters_each c) (λ xs d params.
      each_bind _ (body_each d) (λ ss f inner.
      each_if (fits limit xs) _ _
      (λ fit. each_some _ _ (record {
        spelled = spell.function id.free tok id.token params.left params.names params.right inner.spelled;
        flat = let p = parameters_flat limit xs fit in let s = inner.flat in omega arith;
      }))
      (λ _. each_none))))

  constant_each : (a b : Text) → Token narrow a (word (codes "const")) b → Each (λ d f. IsDeclaration (suc (suc limit)) d a f) (constant limit part b)
  unfolding constant
  constant_each a b tok =
      each_bind _ (binding_each b) (λ x c id.
      each_bind _ (expect_each equals c) (λ _ d equal.
      each_bind _ (read_each limit d) (λ e f fits.
      each_bind _ (expect_each semicolon f) (λ _ g end.
      each_some _ _ (record {
        spelled = spell.constant id.free (let h = fits.high in omega arith) tok id.token equal fits.stands end;
        flat = let h = fits.flat in let deep = high_deep e fits.high in omega arith;
      })))))

  pub declaration_each : (a : Text) → declares a ≡ true → Each (λ d b. IsDeclaration (suc (suc limit)) d a b) (declaration limit part a)
  unfolding declaration
  declaration_each a is = each_if (sees (word (codes "const")) a) _ _
      (λ const. constant_each a (after a) (seen _ a const))
      (λ no. function_each a (after a) (seen _ a (or_right _ _ is no)))

  returned_each : (a b : Text) → Token narrow a (word (codes "return")) b → Each (λ s c. IsStatement (suc (suc limit)) s a c) (returned limit part b)
  unfolding returned
  returned_each a b tok = each_if (same_line b) _ _
      (λ same. each_bind _ (read_each (limit + 1) b) (λ e c fits.
      each_bind _ (expect_each semicolon c) (λ _ d end.
      each_some _ _ (record {
        spelled = spell.returns {es = e ∷ []} tok same (spell.last (let h = fits.high in omega arith) fits.stands) end;
        flat = let h = fits.flat in omega arith;
      }))))
      (λ _. each_none)

  effect_each : (a : Text) → Each (λ s b. IsStatement (suc (suc limit)) s a b) (effect limit part a)
  unfolding effect
  effect_each a = each_bind _ (read_each (limit + 1) a) (λ e b fits.
      each_if (is_string_literal e) _ _ (λ _. each_none)
      (λ plain. each_bind _ (expect_each semicolon b) (λ _ c end.
      each_some _ _ (record {
        spelled = spell.expression {es = e ∷ []} fits.opens plain (spell.last (let h = fits.high in omega arith) fits.stands) end;
        flat = let h = fits.flat in omega arith;
      }))))

  either_each : (a : Text) → Each (λ s b. IsStatement (suc (suc limit)) s a b) (either limit part a)
  unfolding either
  either_each a = each_if (declares a) _ _
      (λ is. each_weaker (declaration_each a is) (λ d b x. record { spelled = spell.declaration x.spelled; flat = x.flat }))
      (λ _. each_if (sees (word (codes "return")) a) _ _
      (λ is. returned_each a (after a) (seen _ a is))
      (λ _. effect_each a))

pub statement_each : (limit : ℕ) (a : Text) → Each (λ s b. IsStatement limit s a b) (statement limit a)
unfolding statement
statement_each zero a = each_none
statement_each (suc zero) a = each_none
statement_each (suc (suc limit)) a = either_each limit (statement limit) (λ b. statement_each limit b) a

-- ---- modules

pub record IsSpecifier (s : Term) (a b : Text) : Type 0 where
  pub spelled : spell.Specifier narrow s a b
  pub flat : depth s ≤ 2

renamed_each : (x a b : Text) → Token narrow a (word x) b → sees (word (codes "as")) b ≡ true → Each (λ s c. IsSpecifier s a c) (renamed x (after b))
unfolding renamed
renamed_each x a b tok is = each_bind _ (binding_each (after b)) (λ y c id. each_some _ _ (record { spelled = spell.renamed id.free tok (seen _ b is) id.token; flat = omega arith }))

unrenamed_each : (x a b : Text) → Token narrow a (word x) b → Each (λ s c. IsSpecifier s a c) (unrenamed x b)
unfolding unrenamed
unrenamed_each x a b tok = each_if (is_reserved x) _ _ (λ _. each_none) (λ free. each_some _ _ (record { spelled = spell.unrenamed free tok; flat = omega arith }))

specifier_each : (a : Text) → Each (λ s b. IsSpecifier s a b) (specifier a)
unfolding specifier
specifier_each a = each_bind _ (name_each a) (λ x b tok.
    each_if (sees (word (codes "as")) b) _ _ (λ is. renamed_each x a b tok is) (λ _. unrenamed_each x a b tok))

chain_specifiers : {ss : List Term} {a b : Text} → Chain IsSpecifier ss a b → spell.Specifiers narrow ss a b
chain_specifiers (one s) = spell.last_specifier s.spelled
chain_specifiers (next s tok rest) = spell.and_specifier s.spelled tok (chain_specifiers rest)

chain_specifiers_flat : {ss : List Term} {a b : Text} → Chain IsSpecifier ss a b → depths (all ss) ≤ 2
chain_specifiers_flat (one s) = let h = s.flat in omega arith
chain_specifiers_flat (next s tok rest) = let h = s.flat in let k = chain_specifiers_flat rest in omega arith

chains_specifiers : {ss : List Term} {a b : Text} → Chains IsSpecifier ss a b → spell.Specifiers narrow ss a b
chains_specifiers nothing = spell.no_specifiers
chains_specifiers (some c) = chain_specifiers c

chains_specifiers_flat : {ss : List Term} {a b : Text} → Chains IsSpecifier ss a b → depths (all ss) ≤ 2
chains_specifiers_flat nothing = omega arith
chains_specifiers_flat (some c) = chain_specifiers_flat c

imported_each : (limit : ℕ) (a b : Text) → Token narrow a (word (codes "import")) b → Each (λ s c. IsItem (limit + 3) s a c) (imported b)
unfolding imported specifiers
imported_each limit a b tok =
    each_bind _ (expect_each left_brace b) (λ _ c left.
    each_bind _ (until_each IsSpecifier specifier specifier_each right_brace c) (λ ss d inner.
    each_bind _ (expect_each right_brace d) (λ _ e right.
    each_bind _ (expect_each (word (codes "from")) e) (λ _ f from.
    each_bind _ (source_each f) (λ v g source.
    each_bind _ (expect_each semicolon g) (λ _ h end.
    each_some _ _ (record {
      spelled = spell.imports tok left (chains_specifiers inner) right from source end;
      flat = let k = chains_specifiers_flat inner in omega arith;
    })))))))

exported_each : (limit : ℕ) (a b : Text) → Token narrow a (word (codes "export")) b → Each (λ s c. IsItem (limit + 3) s a c) (exported limit b)
unfolding exported
exported_each limit a b tok = each_if (declares b) _ _
    (λ is. each_bind _ (declaration_each limit (statement limit) (statement_each limit) b is) (λ d c x.
    each_some _ _ (record { spelled = spell.exports tok x.spelled; flat = let h = x.flat in omega arith })))
    (λ _. each_none)

item_each : (limit : ℕ) (a : Text) → Each (λ s b. IsItem (limit + 3) s a b) (item limit a)
unfolding item
item_each limit a = each_if (sees (word (codes "import")) a) _ _
    (λ is. imported_each limit a (after a) (seen _ a is))
    (λ _. each_if (sees (word (codes "export")) a) _ _
    (λ is. exported_each limit a (after a) (seen _ a is))
    (λ _. each_weaker (statement_each (limit + 3) a) (λ s b x. record { spelled = spell.statement x.spelled; flat = x.flat })))

pub record AreItems (limit : ℕ) (found ss : List Term) (a b : Text) : Type 0 where
  pub new : List Term
  pub whole : ss ≡ found ++ new
  pub spelled : spell.Items narrow new a b
  pub flat : depths (all new) ≤ limit
  pub ends : AtEnd b

no_more : (limit : ℕ) (found : List Term) (a : Text) → list_all is_blank a ≡ true → AreItems limit found found a a
no_more limit found a is = record { new = []; whole = sym (append-nil found); spelled = spell.no_more_items; flat = omega arith; ends = is }

items_each : (limit n : ℕ) (found : List Term) (a : Text) → Each (λ ss b. AreItems (limit + 3) found ss a b) (items limit n found a)
unfolding items
items_each limit zero found a = each_if (list_all is_blank a) _ _ (λ is. each_some _ _ (no_more (limit + 3) found a is)) (λ _. each_none)
items_each limit (suc n) found a = each_if (list_all is_blank a) _ _
    (λ is. each_some _ _ (no_more (limit + 3) found a is))
    (λ _. each_bind _ (item_each limit a) (λ s b first. each_weaker (items_each limit n (found ++ s ∷ []) b) (λ ss c rest. record {
      new = s ∷ rest.new;
      whole = rest.whole ∙ append_assoc found (s ∷ []) rest.new;
      spelled = spell.next_item first.spelled rest.spelled;
      flat = let f = first.flat in let g = rest.flat in omega arith;
      ends = rest.ends;
    })))

pub record IsSpelled (a : Text) (t : Term) : Type 0 where
  pub spelled : Spells narrow a t
  pub shallow : depth t ≤ 512

-- What is read is spelled.
pub read_spelled : (a : Text) (t : Term) → read_of a ≡ Some t → IsSpelled a t
unfolding read_of
read_spelled a t h = go (items 508 (length a) [] a) (items_each 508 (length a) [] a) h
  where
    go : (r : Reading (List Term)) → Each (λ ss b. AreItems 511 [] ss a b) r → program_by r ≡ Some t → IsSpelled a t
    go None each h = absurd (cc)
    go (Some p) each h =
        let x = each.holds p.0 p.1 refl in
        let tree : t ≡ program_of (all x.new) = let f = x.whole in cc in
        rw tree (record { spelled = spell.spells x.spelled x.ends; shallow = let f = x.flat in omega arith })
