-- Expressions that are read are spelled.
use Rattle.std.proofs.Common.{◌≡◌, ℕ, Bool, true, false, not, ◌&&◌, ◌||◌, if◌then◌else◌, nat_le, List, [], ◌∷◌, Option, Some, None, refl, sym, subst, arith, codes}
use Rattle.std.specs.Str.{IsUtf8}
use Rattle.std.proofs.lemmas.Bool.{and_parts, leb-true}
use Rattle.js_term.specs.Term.{Text, is_text, Term, absent, all, none}
use Rattle.js_term.specs.declared.kind.Kind.{Kind}
use Rattle.js_term.specs.Lexeme.{is_reserved}
use Rattle.js_term.specs.Node.{truth, boolean_of}
use Rattle.js_syntax.specs.Nodes.{alone, new_of, super_of, call_link}
use Rattle.js_syntax.specs.Tokens.{Lexeme, word, private_name, number, big_integer, string, no_substitution, template_head, sign, regexp, template_middle, template_tail, Token, Word, Sign, SameLine}
use Rattle.js_syntax.specs.Edges.{is_simple_target, is_private_member, is_unary, is_update, is_word_operator}
use Rattle.js_syntax.specs.Spelling.{Stands, Operator, FunctionText, ClassText, BareNew, ImportOptions, Target, Access}
use Rattle.js_syntax.specs.Spelling as spell
use Rattle.js_syntax.proofs.Fronts.{same_text, among}
use Rattle.js_tokens.specs.Next.{Cut, lexeme, after, next_regexp}
use Rattle.js_tokens.proofs.GoalLaws.{regexp_token_found}
use Rattle.js_reading.specs.declared.goal.Goal.{Goal}
use Rattle.js_reading.specs.declared.goal.Goal.TheVariants as goal
use Rattle.js_reading.specs.Reading.{Found, Reading, ◌>>=◌, sees, sees_word, same_line, arrow_here}
use Rattle.js_reading.specs.Parts.{template_by}
use Rattle.js_reading.specs.Expressions.{at, template_tree, regexp_by, is_slash, is_word_unary, ends_operand, is_arrow_name, async_named_by, async_by, async_expression, unary, await_expression, yield_expression, constructed_by, new_expression, second_argument, import_options, import_call, import_expression, super_member, super_expression, literal_word, word_by, word_prefix, update_before, private_in, sign_prefix, prefix_by, prefix}
use Rattle.js_reading.proofs.Utf8.{regexp_utf8}
use Rattle.js_reading.proofs.Each.{Each, each_none, each_some, each_bind, each_if, not_true, not_false, there, seen, seen_word, on_same_line, expect_each, expect_word_each}
use Rattle.js_reading.proofs.Covers.{Covers, is_open, is_solid, closed_covers}
use Rattle.js_reading.proofs.SoundParts.{Good, Callees, part_each, arguments_each, template_each}
use Rattle.js_reading.proofs.SoundFunctions.{function_each}
use Rattle.js_reading.proofs.SoundLiterals.{as_word, as_sign, array_each, object_each, class_each}
use Rattle.js_reading.proofs.SoundMembers.{parenthesized_each, async_parenthesized_each, named_each, async_name_each, dotted_each, computed_each, called_each}

-- what a tree that is found by itself comes to
found_at : {i : Bool} {n : ℕ} {t : Term} {a b : Text} → IsUtf8 b → is_open t ≡ false → is_solid t ≡ true → Stands i n t a b → Each (λ f c. Covers i 0 f a c) (at n t b)
found_at u o s x = each_some _ _ u (closed_covers (omega arith) o s x)

function_closed : {f : Term} {a b : Text} → FunctionText Kind.FunctionExpression f a b → (is_open f ≡ false) × (is_solid f ≡ true)
function_closed (spell.function m w s id ps t) = (refl, refl)

class_closed : {f : Term} {a b : Text} → ClassText Kind.ClassExpression f a b → (is_open f ≡ false) × (is_solid f ≡ true)
class_closed (spell.class w id h x es y) = (refl, refl)

pub access_closed : {optional : Bool} {o e : Term} {a b : Text} → Access optional o e a b → (is_open e ≡ false) × (is_solid e ≡ true)
access_closed (spell.static_access d w) = (refl, refl)
access_closed (spell.computed_access q x e y) = (refl, refl)
access_closed (spell.private_access d w) = (refl, refl)

unary_word : {a b : Text} (x : Text) → is_word_unary x ≡ true → Word x a b → (is_unary x ≡ true) × Operator x a b
unary_word x h tok =
    let ws = codes "delete" ∷ codes "void" ∷ codes "typeof" ∷ [] in
    (among (λ op. is_unary op) ws x refl h, spell.word_operator (among (λ op. is_word_operator op) ws x refl h) tok)

literal_word_cases : (P : Text → Term → Type 0) (x : Text) (t : Term) → literal_word x ≡ Some t → P (codes "this") (alone Kind.ThisExpression) → P (codes "null") (alone Kind.NullLiteral) → ((v : Bool) → P (truth v) (boolean_of v)) → P x t
literal_word_cases P x t h p q r = go (is_text x (codes "this")) (is_text x (codes "null")) (is_text x (codes "true")) (is_text x (codes "false")) refl refl refl refl h
  where
    same : {y : Text} {s : Term} → is_text x y ≡ true → Some s ≡ Some t → P y s → P x t
    same {y} {s} e h v = let tree : s ≡ t = cc in subst (λ (z : Text). P z t) (sym (same_text x y e)) (subst (P y) tree v)

    go : (k l m n : Bool) → is_text x (codes "this") ≡ k → is_text x (codes "null") ≡ l → is_text x (codes "true") ≡ m → is_text x (codes "false") ≡ n →
        (if k then Some (alone Kind.ThisExpression) else if l then Some (alone Kind.NullLiteral) else if m then Some (boolean_of true) else if n then Some (boolean_of false) else None) ≡ Some t → P x t
    go true l m n e f g j h = same e h p
    go false true m n e f g j h = same f h q
    go false false true n e f g j h = same g h (r true)
    go false false false true e f g j h = same j h (r false)
    go false false false false e f g j h = absurd (cc)

first_false : (p q r s t v w x : Bool) → (p || q || r || s || t || v || w || x) ≡ false → p ≡ false
first_false false q r s t v w x h = refl
first_false true q r s t v w x h = absurd (cc)

-- an operand of `yield` stands on its line
operand_line : (b : Text) → ends_operand b ≡ false → SameLine b
unfolding ends_operand
operand_line b on = on_same_line b (not_false _ (first_false (not (same_line b)) _ _ _ _ _ _ _ on))

module _ (sub : Goal → Text → Reading Found) (good : Good sub) where
  -- ---- words

  -- behind `async` on one line
  async_each : (i : Bool) (least : ℕ) (a b : Text) → IsUtf8 b → Word (codes "async") a b → SameLine b → Each (λ f c. Covers i 0 f a c) (async_by sub i least b)
  unfolding async_by
  async_each i least a b u tok line = each_if (sees_word (codes "function") b) _ _
      (λ is. let t = seen_word (codes "function") b u is in
      each_bind _ (function_each sub good Kind.FunctionExpression (codes "async") a b (after b) t.utf8 (spell.with_async tok line) t.token) (λ f c v x. let k = function_closed x in found_at v k.0 k.1 (spell.function_expression x)))
      (λ _. each_if (is_arrow_name (lexeme b) (after b)) _ _
      (λ h. name (lexeme b) refl h)
      (λ _. each_if (nat_le least 2 && sees (codes "(") b) _ _
      (λ h. let t = seen (codes "(") b u (and_parts (nat_le least 2) (sees (codes "(") b) h).1 in async_parenthesized_each sub good i a b (after b) t.utf8 tok line t.token)
      (λ _. named_each sub good i (codes "async") a b u refl tok)))
    where
      name : (o : Option Lexeme) → lexeme b ≡ o → is_arrow_name o (after b) ≡ true → Each (λ f c. Covers i 0 f a c) (async_named_by sub i o (after b))
      name (Some (word x)) is h = let t = there b u _ is in let (free, here) = and_parts (not (is_reserved x)) (arrow_here (after b)) h in
          async_name_each sub good i x a b (after b) t.utf8 tok line (not_true _ free) t.token here
      name None is h = absurd (cc)
      name (Some (private_name x)) is h = absurd (cc)
      name (Some (number x)) is h = absurd (cc)
      name (Some (big_integer x)) is h = absurd (cc)
      name (Some (string x v)) is h = absurd (cc)
      name (Some (regexp x v)) is h = absurd (cc)
      name (Some (no_substitution x)) is h = absurd (cc)
      name (Some (template_head x)) is h = absurd (cc)
      name (Some (template_middle x)) is h = absurd (cc)
      name (Some (template_tail x)) is h = absurd (cc)
      name (Some (sign x)) is h = absurd (cc)

  async_expression_each : (i : Bool) (least : ℕ) (a b : Text) → IsUtf8 b → Word (codes "async") a b → Each (λ f c. Covers i 0 f a c) (async_expression sub i least b)
  unfolding async_expression
  async_expression_each i least a b u tok = each_if (same_line b) _ _ (λ h. async_each i least a b u tok (on_same_line b h)) (λ _. named_each sub good i (codes "async") a b u refl tok)

  unary_each : (i : Bool) (op a b : Text) → IsUtf8 b → is_unary op ≡ true → Operator op a b → Each (λ f c. Covers i 0 f a c) (unary sub i op b)
  unfolding unary
  unary_each i op a b u is tok = each_bind _ (part_each sub good 16 i b u) (λ e c v x. each_some _ _ v (closed_covers (omega arith) refl refl (spell.unary is x.high tok x.stands)))

  await_each : (i : Bool) (a b : Text) → IsUtf8 b → Word (codes "await") a b → Each (λ f c. Covers i 0 f a c) (await_expression sub i b)
  unfolding await_expression
  await_each i a b u tok = each_bind _ (part_each sub good 16 i b u) (λ e c v x. each_some _ _ v (closed_covers (omega arith) refl refl (spell.await_expression x.high tok x.stands)))

  yield_each : (i : Bool) (a b : Text) → IsUtf8 b → Word (codes "yield") a b → Each (λ f c. Covers i 0 f a c) (yield_expression sub i b)
  unfolding yield_expression
  yield_each i a b u tok = each_if (ends_operand b) _ _
      (λ _. each_some _ _ u (closed_covers (omega arith) refl refl (spell.bare_yield tok)))
      (λ on. let line = operand_line b on in each_if (sees (codes "*") b) _ _
      (λ is. let t = seen (codes "*") b u is in each_bind _ (part_each sub good 2 i (after b) t.utf8) (λ e c v x. each_some _ _ v (closed_covers (omega arith) refl refl (spell.delegating tok line t.token x.stands))))
      (λ _. each_bind _ (part_each sub good 2 i b u) (λ e c v x. each_some _ _ v (closed_covers (omega arith) refl refl (spell.yielding tok line x.stands)))))

  -- behind `new`
  new_each : (i : Bool) (a b : Text) → IsUtf8 b → Word (codes "new") a b → Each (λ f c. Covers i 0 f a c) (new_expression sub i b)
  unfolding new_expression
  new_each i a b u tok = each_if (sees (codes ".") b) _ _
      (λ is. let t = seen (codes ".") b u is in each_bind _ (expect_word_each (codes "target") (after b) t.utf8) (λ _ c v x. found_at v refl refl (spell.new_target tok t.token x)))
      (λ _. each_bind _ (good (goal.Callee i) b u) (λ f c v x. each_if f.cover _ _ (λ _. each_none) (λ h. constructed f c v h x)))
    where
      bare : (f : Found) (c : Text) → f.cover ≡ false → Callees i f b c → (k : Bool) → nat_le 20 f.level ≡ k → Stands i 18 (new_of f.tree none) a c
      bare f c h x true is = spell.bare_construction (spell.new_member tok (leb-true _ _ is) (x.stands h is))
      bare f c h x false is = spell.bare_construction (spell.new_new tok (x.bare h is))

      constructed : (f : Found) (c : Text) → IsUtf8 c → f.cover ≡ false → Callees i f b c → Each (λ g d. Covers i 0 g a d) (constructed_by sub f.tree f.level c)
      constructed f c v h x = each_if (nat_le 20 f.level && sees (codes "(") c) _ _
          (λ k. let (high, is) = and_parts (nat_le 20 f.level) (sees (codes "(") c) k in let t = seen (codes "(") c v is in
          each_bind _ (arguments_each sub good c (after c) t.utf8 t.token) (λ es d w y. each_some _ _ w (closed_covers (omega arith) refl refl (spell.construction tok (leb-true _ _ high) (x.stands h high) y))))
          (λ _. each_some _ _ v (closed_covers (omega arith) refl refl (bare f c h x (nat_le 20 f.level) refl)))

  second_each : (a b : Text) → IsUtf8 b → Sign (codes ",") a b → Each (λ e c. ImportOptions e a c) (second_argument sub b)
  unfolding second_argument
  second_each a b u tok = each_if (sees (codes ")") b) _ _ (λ _. each_some absent b u (spell.no_options_comma tok))
      (λ _. each_bind _ (part_each sub good 2 true b u) (λ e c v x. each_if (sees (codes ",") c) _ _
      (λ is. let t = seen (codes ",") c v is in each_some _ _ t.utf8 (spell.options_comma tok x.stands t.token))
      (λ _. each_some _ _ v (spell.options tok x.stands))))

  options_each : (a : Text) → IsUtf8 a → Each (λ e b. ImportOptions e a b) (import_options sub a)
  unfolding import_options
  options_each a u = each_if (sees (codes ",") a) _ _ (λ is. let t = seen (codes ",") a u is in second_each a (after a) t.utf8 t.token) (λ _. each_some absent a u spell.no_options)

  -- behind `import`
  import_each : (i : Bool) (a b : Text) → IsUtf8 b → Word (codes "import") a b → Each (λ f c. Covers i 0 f a c) (import_expression sub b)
  unfolding import_expression import_call
  import_each i a b u tok = each_if (sees (codes ".") b) _ _
      (λ is. let t = seen (codes ".") b u is in each_bind _ (expect_word_each (codes "meta") (after b) t.utf8) (λ _ c v x. found_at v refl refl (spell.import_meta tok t.token x)))
      (λ _. each_bind _ (expect_each (codes "(") b u) (λ _ c v open'.
      each_bind _ (part_each sub good 2 true c v) (λ e d w x.
      each_bind _ (options_each d w) (λ o f y q.
      each_bind _ (expect_each (codes ")") f y) (λ _ g z close. each_some _ _ z (closed_covers (omega arith) refl refl (spell.import_call tok open' x.stands q close)))))))

  super_access : (i : Bool) (a b c : Text) (e : Term) → IsUtf8 c → Word (codes "super") a b → Access false super_of e b c → Each (λ f d. Covers i 0 f a d) (super_member sub e c)
  super_access i a b c e u tok x = each_if (is_private_member e) _ _ (λ _. each_none)
      (λ h. let k = access_closed x in each_some _ _ u (closed_covers (omega arith) k.0 k.1 (spell.super_member tok x h)))

  -- behind `super`
  super_each : (i : Bool) (a b : Text) → IsUtf8 b → Word (codes "super") a b → Each (λ f c. Covers i 0 f a c) (super_expression sub b)
  unfolding super_expression
  super_each i a b u tok = each_if (sees (codes ".") b) _ _
      (λ is. let t = seen (codes ".") b u is in each_bind _ (dotted_each sub good false super_of b (after b) t.utf8 (spell.plain_dot t.token)) (λ e c v x. super_access i a b c e v tok x))
      (λ _. each_if (sees (codes "[") b) _ _
      (λ is. let t = seen (codes "[") b u is in each_bind _ (computed_each sub good false super_of b b (after b) t.utf8 spell.not_optional t.token) (λ e c v x. super_access i a b c e v tok x))
      (λ _. each_bind _ (expect_each (codes "(") b u) (λ _ c v open'. each_bind _ (called_each sub good false super_of b c v open') (λ e d w (es, same, x). super_found e d w es same x))))
    where
      super_found : (e : Term) (d : Text) → IsUtf8 d → (es : List Term) → e ≡ call_link false super_of (all es) → spell.Arguments es b d → Each (λ f c. Covers i 0 f a c) (at 19 e d)
      super_found e d w es same x = rw (same) (found_at w refl refl (spell.super_call tok x))

  -- ---- what begins an expression

  word_each : (i : Bool) (least : ℕ) (x a b : Text) → IsUtf8 b → Word x a b → Each (λ f c. Covers i 0 f a c) (word_prefix sub i least x b)
  word_each i least x a b u tok =
      each_if (is_text x (codes "function")) _ _
      (λ e. each_bind _ (function_each sub good Kind.FunctionExpression [] a a b u spell.no_async (as_word (codes "function") e tok)) (λ f c v y. let k = function_closed y in found_at v k.0 k.1 (spell.function_expression y))) (λ _.
      each_if (is_text x (codes "class")) _ _
      (λ e. each_bind _ (class_each sub good Kind.ClassExpression a b u (as_word (codes "class") e tok)) (λ f c v y. let k = class_closed y in found_at v k.0 k.1 (spell.class_expression y))) (λ _.
      each_if (is_text x (codes "async")) _ _ (λ e. async_expression_each i least a b u (as_word (codes "async") e tok)) (λ _.
      each_if (is_text x (codes "new")) _ _ (λ e. new_each i a b u (as_word (codes "new") e tok)) (λ _.
      each_if (is_text x (codes "import")) _ _ (λ e. import_each i a b u (as_word (codes "import") e tok)) (λ _.
      each_if (is_text x (codes "super")) _ _ (λ e. super_each i a b u (as_word (codes "super") e tok)) (λ _.
      each_if (is_text x (codes "await")) _ _ (λ e. await_each i a b u (as_word (codes "await") e tok)) (λ _.
      each_if (is_text x (codes "yield")) _ _ (λ e. yield_each i a b u (as_word (codes "yield") e tok)) (λ _.
      each_if (is_word_unary x) _ _ (λ e. let (is, op) = unary_word x e tok in unary_each i x a b u is op) (λ _.
      other (literal_word x) refl)))))))))
    where
      other : (o : Option Term) → literal_word x ≡ o → Each (λ f c. Covers i 0 f a c) (word_by sub i x o b)
      other (Some t) is = literal_word_cases (λ y s. Word y a b → Each (λ f c. Covers i 0 f a c) (at 21 s b)) x t is
          (λ w. found_at u refl refl (spell.this_expression w)) (λ w. found_at u refl refl (spell.null_literal w)) (λ v w. found_at u refl refl (spell.boolean v w)) tok
      other None is = each_if (is_reserved x) _ _ (λ _. each_none) (λ free. named_each sub good i x a b u free tok)

  update_each : (i : Bool) (op a b : Text) → IsUtf8 b → is_update op ≡ true → Sign op a b → Each (λ f c. Covers i 0 f a c) (update_before sub i op b)
  unfolding update_before
  update_each i op a b u is tok = each_bind _ (part_each sub good 19 i b u) (λ t c v x. each_if (is_simple_target t) _ _
      (λ h. each_some _ _ v (closed_covers (omega arith) refl refl (spell.update_before is h tok x.stands))) (λ _. each_none))

  private_each : (i : Bool) (x a b : Text) → IsUtf8 b → Token a (private_name x) b → Each (λ f c. Covers i 0 f a c) (private_in sub i x b)
  unfolding private_in
  private_each true x a b u tok = each_bind _ (expect_word_each (codes "in") b u) (λ _ c v w. each_bind _ (part_each sub good 12 true c v) (λ r d y z. each_some _ _ y (closed_covers (omega arith) refl refl (spell.private_in z.high tok w z.stands))))
  private_each false x a b u tok = each_none

  regexp_each : (i : Bool) (a : Text) → IsUtf8 a → Each (λ f b. Covers i 0 f a b) (regexp_by (next_regexp a))
  regexp_each i a u = go (next_regexp a) refl
    where
      go : (c : Cut) → next_regexp a ≡ c → Each (λ f b. Covers i 0 f a b) (regexp_by c)
      go (Some (regexp p q, b)) is = each_some _ _ (regexp_utf8 a u _ b is) (closed_covers (omega arith) refl refl (spell.regexp_literal (regexp_token_found a u _ b is)))
      go None is = each_none
      go (Some (word x, b)) is = each_none
      go (Some (private_name x, b)) is = each_none
      go (Some (number x, b)) is = each_none
      go (Some (big_integer x, b)) is = each_none
      go (Some (string x v, b)) is = each_none
      go (Some (no_substitution x, b)) is = each_none
      go (Some (template_head x, b)) is = each_none
      go (Some (template_middle x, b)) is = each_none
      go (Some (template_tail x, b)) is = each_none
      go (Some (sign x, b)) is = each_none

  sign_each : (i : Bool) (s a : Text) → IsUtf8 a → lexeme a ≡ Some (sign s) → Each (λ f b. Covers i 0 f a b) (sign_prefix sub i s a)
  sign_each i s a u is =
      let t = there a u _ is in
      each_if (is_text s (codes "(")) _ _ (λ e. parenthesized_each sub good i a (after a) t.utf8 (as_sign (codes "(") e t.token)) (λ _.
      each_if (is_text s (codes "[")) _ _ (λ e. array_each sub good a (after a) t.utf8 (as_sign (codes "[") e t.token)) (λ _.
      each_if (is_text s (codes "{")) _ _ (λ e. object_each sub good a (after a) t.utf8 (as_sign (codes "{") e t.token)) (λ _.
      each_if (is_update s) _ _ (λ e. update_each i s a (after a) t.utf8 e t.token) (λ _.
      each_if (is_unary s) _ _ (λ e. unary_each i s a (after a) t.utf8 e (spell.sign_operator t.token)) (λ _.
      each_if (is_slash s) _ _ (λ _. regexp_each i a u) (λ _. each_none))))))

  pub prefix_each : (i : Bool) (least : ℕ) (a : Text) → IsUtf8 a → Each (λ f b. Covers i 0 f a b) (prefix sub i least a)
  unfolding prefix
  prefix_each i least a u = go (lexeme a) refl
    where
      template : (o : Option Lexeme) → lexeme a ≡ o → Each (λ f b. Covers i 0 f a b) (template_by sub true o (after a) >>= λ q b. at 21 (template_tree q) b)
      template o is = each_bind _ (template_each sub good true a u o is) (λ q b v x. found_at v refl refl (spell.template x))

      go : (o : Option Lexeme) → lexeme a ≡ o → Each (λ f b. Covers i 0 f a b) (prefix_by sub i least o a)
      go (Some (word x)) is = let t = there a u _ is in word_each i least x a (after a) t.utf8 t.token
      go (Some (private_name x)) is = let t = there a u _ is in private_each i x a (after a) t.utf8 t.token
      go (Some (number x)) is = let t = there a u _ is in found_at t.utf8 refl refl (spell.numeric t.token)
      go (Some (big_integer x)) is = let t = there a u _ is in found_at t.utf8 refl refl (spell.bigint t.token)
      go (Some (string x v)) is = let t = there a u _ is in found_at t.utf8 refl refl (spell.string_literal t.token)
      go (Some (sign s)) is = sign_each i s a u is
      go None is = template None is
      go (Some (regexp x v)) is = template _ is
      go (Some (no_substitution x)) is = template _ is
      go (Some (template_head x)) is = template _ is
      go (Some (template_middle x)) is = template _ is
      go (Some (template_tail x)) is = template _ is
